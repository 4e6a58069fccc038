use Rattle.std.proofs.Common.{◌∙◌, List, ℕ, arith, subst, sym}
use Rattle.std.proofs.lemmas.Result.{err_from_is_err_and}
use Rattle.boc_stream.specs.LongLines.{GivesLine, to_come}
use Rattle.boc_stream.specs.StreamTexts.{spelling}
use Rattle.boc_cut.proofs.Reaching.{found_line, given_same, line_kept, line_read}
use Rattle.boc_cut.proofs.Spawning.{nothing_changed}
use Rattle.boc_cut.proofs.Wholes.{many_cowns, no_whole_line, other_header}
use Rattle.boc_cut.proofs.Windowing.{refuses_none}
use Rattle.boc_cut.proofs.whole.begin.Goals as goal

pub returns-in_err-next_line-clause-begun : goal.returns-in_err-next_line-clause-begun
returns-in_err-next_line-clause-begun g c =
    let before = to_come c.args.stream.now.lines (g.S.Source.remaining c.args.source.now) in
    let told = err_from_is_err_and c.from_residual.result c.from_residual.ensures.1 in
    rw (told.1, told.2) (no_whole_line c.in_err-next_line.field-0.0 before c.in_err-next_line.ensures.found)

pub returns-in_err-take_line-clause-begun : goal.returns-in_err-take_line-clause-begun
returns-in_err-take_line-clause-begun g c =
    let before = to_come c.args.stream.now.lines (g.S.Source.remaining c.args.source.now) in
    let mid = c.next_line.new.self.lines in
    let after = to_come mid (g.S.Source.remaining c.next_line.new.source) in
    let given = found_line c.args.stream.now.lines.is_over c.in_ok-next_line.field-0 mid.line before after c.if-not-branch.false
    c.in_ok-next_line.ensures.found in
    let told = err_from_is_err_and c.from_residual-in_err-take_line.result c.from_residual-in_err-take_line.ensures.1 in
    rw (told.1, told.2)
    (refuses_none c.in_err-take_line.field-0.0 before
    (other_header c.line.result.now before after (subst (λ (l : List ℕ). GivesLine l before after) (sym c.line.ensures) given) c.in_default.ensures))

pub returns-in_default-clause-begun : goal.returns-in_default-clause-begun
returns-in_default-clause-begun g c =
    let before = to_come c.args.stream.now.lines (g.S.Source.remaining c.args.source.now) in
    let mid = c.next_line.new.self.lines in
    let rest = g.S.Source.remaining c.next_line.new.source in
    let after = to_come mid rest in
    let old = c.args.table.now in
    let new = c.take_line.new.table in
    let end = c.step.new.self.lines in
    let given = found_line c.args.stream.now.lines.is_over c.in_ok-next_line.field-0 mid.line before after c.if-not-branch.false
    c.in_ok-next_line.ensures.found in (
      other_header c.line.result.now before after (subst (λ (l : List ℕ). GivesLine l before after) (sym c.line.ensures) given) c.in_default.ensures,
      line_read mid.line before (to_come end rest) old.rows.items new.rows.items old.uses.items new.uses.items
          (given_same mid.line before rest end mid (c.step.ensures ∙ c.take_line.ensures.lines) given) c.in_ok-take_line.ensures.table,
    )

pub returns-else-header-clause-begun : goal.returns-else-header-clause-begun
returns-else-header-clause-begun g c =
    let before = to_come c.args.stream.now.lines (g.S.Source.remaining c.args.source.now) in
    let mid = c.next_line.new.self.lines in
    let rest = g.S.Source.remaining c.next_line.new.source in
    let after = to_come mid rest in
    let old = c.args.table.now in
    let new = c.begin.new.self in
    let end = c.step-2.new.self.lines in
    let header = c.in-Some.header in
    let given = found_line c.args.stream.now.lines.is_over c.in_ok-next_line.field-0 mid.line before after c.if-not-branch.false
    c.in_ok-next_line.ensures.found in (
      many_cowns c.line.result.now (spelling header.version) header.cowns before after
          (subst (λ (l : List ℕ). GivesLine l before after) (sym c.line.ensures) given) c.in-Some.ensures.0 c.in-Some.ensures.1
          (λ few. absurd (omega (arith, few, c.if-header.false))),
      line_read mid.line before (to_come end rest) old.rows.items new.rows.items old.uses.items new.uses.items
          (given_same mid.line before rest end mid c.step-2.ensures given)
          (line_kept mid.line old.rows.items new.rows.items old.uses.items new.uses.items
          (nothing_changed old.rows.items new.rows.items old.uses.items new.uses.items c.begin.ensures.rows c.begin.ensures.uses)),
    )

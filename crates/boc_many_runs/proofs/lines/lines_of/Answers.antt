use Rattle.std.proofs.Common.{◌∙◌, ℕ, List, get_or, subst, sym, refl}
use Rattle.boc_remedies.proofs.Gathered.{take_one}
use Rattle.boc_many_runs.proofs.Lining.{AreLinesFrom, lines_more}
use Rattle.boc_many_runs.proofs.lines.lines_of.Goals as goal

pub loop-place-preserved : goal.loop-place-preserved
loop-place-preserved c =
    let places : List ℕ = c.deref-place-items.result.now in
    let i : ℕ = c.loop-place.place-index in
    let place : ℕ = get_or places i 0 in
    let own = c.in_ok-line.ensures c.args.runs (c.deref.ensures.value ∙ c.in_ok-bests.ensures) in
    subst (λ (ps : List ℕ). AreLinesFrom c.args.remedies.now c.args.columns.now c.args.runs ps c.rank.new.ranked.items)
    (sym (take_one places i 0 place c.loop-place-test.true refl))
    (lines_more c.args.remedies.now c.args.columns.now c.args.runs _ place c.loop-place.lines.items c.rank.new.ranked.items c.in_ok-line.line
    c.loop-place.invariant own c.in_ok-rank.ensures)

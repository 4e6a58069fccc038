use Rattle.std.proofs.Common.{List, ℕ, subst, sym}
use Rattle.boc_stream.specs.StreamTexts.{spelling, Says}
use Rattle.boc_cut.specs.Spawned.{LineSpawns}
use Rattle.boc_cut.proofs.Reaching.{line_kept, line_told}
use Rattle.boc_cut.proofs.Spawning.{nothing_changed}
use Rattle.boc_cut.proofs.Tellings.{told_some}
use Rattle.boc_cut.proofs.follow.Stream.take_line.Goals as goal

pub returns-in-Some-clause-table : goal.returns-in-Some-clause-table
returns-in-Some-clause-table c =
    let old = c.args.table.now in
    let new = c.begin.new.self in
    line_kept c.args.self.now.lines.line old.rows.items new.rows.items old.uses.items new.uses.items
    (nothing_changed old.rows.items new.rows.items old.uses.items new.uses.items c.begin.ensures.rows c.begin.ensures.uses)

pub returns-in-Ok-take_told-clause-table : goal.returns-in-Ok-take_told-clause-table
returns-in-Ok-take_told-clause-table c =
    let v = spelling c.args.table.now.version in
    let line = c.line-line.result.now in
    let told = c.in-Some-told.told in
    let old = c.args.table.now in
    let new = c.take_told.new.table in
    let says = told_some v line c.told_of.new.cowns.items c.in-Ok.told told c.in-Some-told.is c.in-Ok.ensures in
    subst (λ (l : List ℕ). LineSpawns l old.rows.items old.uses.items new.rows.items new.uses.items) c.line-line.ensures
    (line_told v line told c.deref.result.now old.rows.items new.rows.items old.uses.items new.uses.items
    (subst (λ (ns : List ℕ). Says v line told ns) (sym c.deref.ensures.value) says) c.in-Ok-take_told.ensures)

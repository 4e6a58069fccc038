use Rattle.std.proofs.Common.{List, ℕ, ap, subst}
use Rattle.boc_cut.specs.Spawned.{AreSameRows, SpawnsMore}
use Rattle.boc_cut.specs.Whole.{SpawnsEvent}
use Rattle.boc_cut.specs.Windows.{cowns_used}
use Rattle.boc_cut.specs.declared.table.CownUse.{CownUse}
use Rattle.boc_runs.specs.declared.event.Event.{Event}
use Rattle.boc_cut.proofs.Reaching.{on_both}
use Rattle.boc_cut.proofs.Records.{takes_spawn, takes_other}
use Rattle.boc_cut.proofs.Spawning.{both_same}
use Rattle.boc_cut.proofs.whole.take_event.Goals as goal

pub returns-in-Ok : goal.returns-in-Ok
returns-in-Ok c =
    let event = c.args.event.now in
    let old = c.args.table.now in
    let new = c.spawn.new.self in
    let numbers = c.deref.result.now in
    on_both c.spawn.result
    (λ (spawned : SpawnsMore c.from.result numbers old.rows.items old.uses.items new.rows.items new.uses.items).
    takes_spawn event c.in-Spawn.row c.from.result c.in-Spawn.cowns.items numbers old.rows.items new.rows.items old.uses.items new.uses.items
    (λ (text : List ℕ) (s : SpawnsEvent text event). subst (λ (e : Event). SpawnsEvent text e) c.in-Spawn.is s) c.from.ensures
    (rw c.deref.ensures.value c.in-Ok.ensures) spawned) c.spawn.ensures

pub returns-in-Start : goal.returns-in-Start
returns-in-Start c =
    let old = c.args.table.now in
    let new = c.start.new.self in
    on_both c.start.result
    (λ (same : AreSameRows old.rows.items new.rows.items). takes_other c.args.event.now old.rows.items new.rows.items old.uses.items new.uses.items
    (both_same old.rows.items new.rows.items old.uses.items new.uses.items same (ap (λ (us : List CownUse). cowns_used us) c.start.ensures.uses)))
    c.start.ensures.rows

pub returns-in-Ok-put_numbers : goal.returns-in-Ok-put_numbers
returns-in-Ok-put_numbers c =
    let old = c.args.table.now in
    let new = c.end.new.self in
    on_both c.end.result
    (λ (same : AreSameRows old.rows.items new.rows.items). takes_other c.args.event.now old.rows.items new.rows.items old.uses.items new.uses.items
    (both_same old.rows.items new.rows.items old.uses.items new.uses.items same c.end.ensures.uses)) c.end.ensures.rows

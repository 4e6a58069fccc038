use Rattle.std.proofs.Common.{◌≡◌, ◌∙◌, ℕ, ◌<◌, Bool, false, List, length, sym, arith}
use Rattle.std.specs.Prelude.{slice_index_or, vec_len}
use Rattle.std.proofs.lemmas.List.{get_or_default}
use Rattle.boc_program.specs.declared.limits.TheConstants.{MOST_COWNS}
use Rattle.boc_runs.specs.declared.rows.Row.{Row}
use Rattle.boc_sweep.specs.Passes.{HaveNot, TellHad}
use Rattle.boc_sweep.proofs.Passing.{stand_none, stand_idle, stand_alone, stand_first}
use Rattle.boc_sweep.proofs.passes.Passes.new.Goals.{in-Some+in_ok-push-in-Some, in_default+in_ok-push-in_default+in_ok-push-in_default-2}
use Rattle.boc_sweep.proofs.passes.Passes.new.Goals.{in_default-via-in-Some+else-not-index, in_default-via-in_default, then-not-index-2, else-not-index-2}
use Rattle.boc_sweep.proofs.passes.Passes.new.Goals as goal

-- no row has a cown of which it is told that none has it
untold : (rows : List Row) (had : List Bool) (cown : ℕ) (read : Bool) → length had ≡ MOST_COWNS → TellHad rows (length rows) had → cown < MOST_COWNS
    → read ≡ slice_index_or had cown read → read ≡ false → HaveNot rows (length rows) cown
untold rows had cown read whole told low is not_had =
    told cown low (get_or_default had cown false read (omega (arith, low, whole)) ∙ sym is ∙ not_had)

pub loop-cown-init : goal.loop-cown-init
loop-cown-init c = stand_none c.args.rows.now c.new-cowns.result.items c.new-places.result.items c.new-places.ensures.items

pub loop-cown-preserved : goal.loop-cown-preserved
loop-cown-preserved c =
    let rows = c.args.rows.now in
    let had = c.in_ok-had.had.items in
    let cown : ℕ = c.loop-cown.cown in
    let so_far = c.loop-cown.invariant in
    let low : cown < MOST_COWNS = omega (arith, c.loop-cown-test.true, c.requires.few) in
    let long : vec_len c.loop-cown.cowns ≡ length c.loop-cown.cowns.items = omega (arith, c.loop-cown.cowns.ok.0) in
    let none = λ (read : Bool). untold rows had cown read c.in_ok-had.ensures.whole c.in_ok-had.ensures.told low in
    elim c.match-idle.branch [
      | in-Some+in_ok-push-in-Some w ↦ rw (w.cowns-is, w.places-is, w.idle-is) (rw w.in_ok-push-in-Some.ensures.items
          (stand_idle rows cown c.loop-cown.cowns.items c.loop-cown.places.items w.in-Some.place c.requires.shape
          (none w.index.result.now w.index.ensures w.if-not-index.true) (rw w.in-Some.is at so_far)))
      | in_default+in_ok-push-in_default+in_ok-push-in_default-2 w ↦ (
          let same : w.in_default.idle ≡ c.loop-cown.idle = elim w.in_default.branch [
            | in_default-via-in-Some+else-not-index v ↦ v.idle-is ∙ sym v.in-Some.is
            | in_default-via-in_default v ↦ v.idle-is
          ] in
          rw (w.cowns-is, w.places-is, w.idle-is) (rw (w.in_ok-push-in_default.ensures.items, w.in_ok-push-in_default-2.ensures.items)
          (elim w.if-not-index-2.branch [
            | then-not-index-2 v ↦ rw v.idle-is (rw (v.len.ensures, w.len-in_default.ensures, long)
                (stand_first rows cown c.loop-cown.cowns.items c.loop-cown.places.items c.requires.shape
                (none w.index-in_default.result.now w.index-in_default.ensures v.if-not-index-2.true) so_far.all))
            | else-not-index-2 v ↦ rw (v.idle-is, same) (rw (w.len-in_default.ensures, long)
                (stand_alone rows cown c.loop-cown.cowns.items c.loop-cown.places.items c.loop-cown.idle so_far))
          ])))
    ]

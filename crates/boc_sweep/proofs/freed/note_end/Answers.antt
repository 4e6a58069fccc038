use Rattle.std.proofs.Common.{◌∙◌, ℕ, ◌<◌, ◌≤◌, true≢false, List, [], length, sym, arith}
use Rattle.std.specs.Prelude.{slice_index}
use Rattle.std.specs.List.{Contains}
use Rattle.std.proofs.lemmas.List.{length-set}
use Rattle.std.proofs.lemmas.List.Elements.{Contains-get_or}
use Rattle.boc_program.specs.declared.limits.TheConstants.{MOST_COWNS}
use Rattle.boc_runs.specs.Rows.{cowns_of, written_of}
use Rattle.boc_order.proofs.Near.{writes_own}
use Rattle.boc_order.proofs.Using.{cown_small}
use Rattle.boc_sweep.specs.Freed.{in_lane}
use Rattle.boc_sweep.proofs.Laning.{lane_at}
use Rattle.boc_sweep.proofs.Freeing.{raised_none, raised_skip, raised_low, raised_in, raised_all}
use Rattle.boc_sweep.proofs.freed.note_end.Goals.{then-written-place, else-written-place}
use Rattle.boc_sweep.proofs.freed.note_end.Goals as goal

pub loop-place-init : goal.loop-place-init
loop-place-init c =
    let rows = c.args.rows.now in
    let cowns : List ℕ = cowns_of rows c.args.row in
    record {
      held_whole = c.requires.held_whole;
      wrote_whole = c.requires.wrote_whole;
      held = λ lane low. raised_none (Contains cowns) (slice_index c.args.end.now lane) cowns (in_lane lane c.args.held.now);
      wrote = λ lane low. raised_none (Contains (written_of rows c.args.row)) (slice_index c.args.end.now lane) cowns (in_lane lane c.args.wrote.now);
    }

pub loop-place-preserved : goal.loop-place-preserved
loop-place-preserved c =
    let rows = c.args.rows.now in
    let i : ℕ = c.loop-place.place in
    let cowns : List ℕ = cowns_of rows c.args.row in
    let own : ℕ = slice_index cowns i in
    let below : i < length cowns = rw (← c.cowns-own-items.ensures) c.loop-place-test.true in
    let small : own < MOST_COWNS = cown_small rows c.requires.shape c.args.row i c.requires.there below in
    let r = c.loop-place.invariant in
    let Writes : ℕ → Type 0 = Contains (written_of rows c.args.row) in
    let tells = c.requires.written.at i below in
    let mine : Contains cowns own = Contains-get_or cowns i 0 below in
    let held_there : own < length c.loop-place.held = omega (arith, small, r.held_whole) in
    let wrote_there : own < length c.loop-place.wrote = omega (arith, small, r.wrote_whole) in
    elim c.if-written-place.branch [
      | then-written-place w ↦ (
          let writes : Writes own = tells.0 w.if-written-place.true in
          rw (w.held-is, w.wrote-is) (rw c.cowns-own-items.ensures (record {
            held_whole = length-set c.loop-place.held own c.args.end.now ∙ r.held_whole;
            wrote_whole = length-set c.loop-place.wrote own c.args.end.now ∙ r.wrote_whole;
            held = λ lane low. (
                let end : ℕ = slice_index c.args.end.now lane in
                let free = raised_low (Contains cowns) end cowns i (in_lane lane c.args.held.now) (in_lane lane c.loop-place.held) (r.held lane low) own
                ((c.requires.waited lane low).held_before own writes) in
                raised_in lane (Contains cowns) end cowns i c.args.held.now c.loop-place.held c.args.end.now (r.held lane low) held_there mine
                (omega (arith, free)));
            wrote = λ lane low. (
                let end : ℕ = slice_index c.args.end.now lane in
                let free = raised_low Writes end cowns i (in_lane lane c.args.wrote.now) (in_lane lane c.loop-place.wrote) (r.wrote lane low) own
                ((c.requires.waited lane low).wrote_before own writes) in
                raised_in lane Writes end cowns i c.args.wrote.now c.loop-place.wrote c.args.end.now (r.wrote lane low) wrote_there writes
                (omega (arith, free)));
          })))
      | else-written-place w ↦ rw (w.held-is, w.wrote-is) (rw c.cowns-own-items.ensures (record {
        held_whole = length-set c.loop-place.held own w.later-latest.result ∙ r.held_whole;
        wrote_whole = r.wrote_whole;
        held = λ lane low. (
            let read = lane_at lane c.loop-place.held own [] held_there in
            let later = rw c.cowns-own-items.ensures at w.later-latest.ensures in
            raised_in lane (Contains cowns) (slice_index c.args.end.now lane) cowns i c.args.held.now c.loop-place.held w.later-latest.result (r.held lane low)
            held_there mine (omega (arith, later lane low, read)));
        wrote = λ lane low. raised_skip Writes (slice_index c.args.end.now lane) cowns i (in_lane lane c.args.wrote.now) (in_lane lane c.loop-place.wrote)
            (r.wrote lane low) (λ writes. true≢false (sym (tells.1 writes) ∙ w.if-written-place.false));
      }))
    ]

pub returns-clause-held : goal.returns-clause-held
returns-clause-held c = λ lane low.
    let rows = c.args.rows.now in
    let cowns : List ℕ = cowns_of rows c.args.row in
    let all : length cowns ≤ c.loop-place.place = rw (← c.cowns-own-items.ensures) c.loop-place-test.false in
    raised_all (Contains cowns) (slice_index c.args.end.now lane) cowns c.loop-place.place (in_lane lane c.args.held.now) (in_lane lane c.loop-place.held) all
    (λ k h. h) (c.loop-place.invariant.held lane low)

pub returns-clause-wrote : goal.returns-clause-wrote
returns-clause-wrote c = λ lane low.
    let rows = c.args.rows.now in
    let cowns : List ℕ = cowns_of rows c.args.row in
    let all : length cowns ≤ c.loop-place.place = rw (← c.cowns-own-items.ensures) c.loop-place-test.false in
    raised_all (Contains (written_of rows c.args.row)) (slice_index c.args.end.now lane) cowns c.loop-place.place (in_lane lane c.args.wrote.now)
    (in_lane lane c.loop-place.wrote) all (λ k h. writes_own rows c.requires.shape c.args.row k c.requires.there h) (c.loop-place.invariant.wrote lane low)

use Rattle.std.proofs.Common.{◌≡◌, ◌∙◌, ℕ, length, refl, ap, sym, List, subst, arith}
use Rattle.std.specs.Prelude.{slice_index}
use Rattle.std.specs.Vec.{with_items}
use Rattle.std.proofs.lemmas.List.{with_items_is}
use Rattle.boc_sweep.specs.Freed.{IsFreed, in_lane}
use Rattle.boc_sweep.proofs.Laning.{lane_push, lane_long, same_long}
use Rattle.boc_sweep.proofs.Freeing.{next_low, has_waited, placed_next, told_from, passed_next}
use Rattle.boc_sweep.proofs.freed.Placing.place_next.Goals as goal

pub start_of-start-requires-clause-written : goal.start_of-start-requires-clause-written
start_of-start-requires-clause-written c =
    told_from c.args.rows.now c.args.row c.args.self.now.passed c.args.written.now _ c.requires.there c.requires.written c.requires.placed.passed_is refl

pub note_end-requires-clause-written : goal.note_end-requires-clause-written
note_end-requires-clause-written c =
    told_from c.args.rows.now c.args.row c.args.self.now.passed c.args.written.now _ c.requires.there c.requires.written c.requires.placed.passed_is refl

pub moved_on-end-requires : goal.moved_on-end-requires
moved_on-end-requires c = λ lane lanes.
    let rows = c.args.rows.now in
    let hr = c.requires.shape in
    let placing = c.args.self.now in
    let low = next_low (slice_index placing.cowns lane) rows hr (in_lane lane placing.starts.items) c.args.row (omega (arith, c.requires.there))
    (c.requires.placed.in_lanes lane lanes).placed (slice_index c.start_of-start.result lane) c.requires.there (c.start_of-start.ensures lane lanes) in
    omega (arith, low, c.ticks.ensures, hr.ticks_high c.args.row c.requires.there, c.requires.there, hr.not_many)

pub note_end-requires-clause-waited : goal.note_end-requires-clause-waited
note_end-requires-clause-waited c = λ lane lanes.
    let placing = c.args.self.now in
    let p = c.requires.placed.in_lanes lane lanes in
    rw (c.deref_mut.ensures.value, c.deref_mut-2.ensures.value)
    (has_waited (slice_index placing.cowns lane) c.args.rows.now c.requires.shape (in_lane lane placing.starts.items) c.args.row
    (slice_index c.start_of-start.result lane) c.requires.there (c.start_of-start.ensures lane lanes) (slice_index c.moved_on-end.result lane)
    (in_lane lane placing.held.items) (in_lane lane placing.wrote.items) (omega (arith, c.moved_on-end.ensures lane lanes)) p.held_is p.wrote_is)

pub returns-clause-placed : goal.returns-clause-placed
returns-clause-placed c =
    let rows = c.args.rows.now in
    let placing = c.args.self.now in
    let n : ℕ = c.args.row in
    let p = c.requires.placed in
    let held_raised = rw c.deref_mut.ensures.value at c.note_end.ensures.held in
    let wrote_raised = rw c.deref_mut-2.ensures.value at c.note_end.ensures.wrote in
    let held : List (List ℕ) = c.note_end.new.held in
    let wrote : List (List ℕ) = c.note_end.new.wrote in
    let held_long : length held ≡ length placing.held.items = same_long 0 placing.held.items held (held_raised 0 (omega arith)).whole in
    let wrote_long : length wrote ≡ length placing.wrote.items = same_long 0 placing.wrote.items wrote (wrote_raised 0 (omega arith)).whole in
    let held_free = rw (c.deref_mut-3.ensures.value, with_items_is placing.held held (omega (arith, held_long, placing.held.ok.0))) at c.set_free.ensures in
    let wrote_free = rw (c.deref_mut-4.ensures.value, with_items_is placing.wrote wrote (omega (arith, wrote_long, placing.wrote.ok.0)))
    at c.set_free-2.ensures in
    let held_next : List (List ℕ) = c.set_free.new.ends in
    let wrote_next : List (List ℕ) = c.set_free-2.new.ends in
    let held_stays : length held_next ≡ length held = same_long 0 held held_next (held_free 0 (omega arith)).whole in
    let wrote_stays : length wrote_next ≡ length wrote = same_long 0 wrote wrote_next (wrote_free 0 (omega arith)).whole in
    let held_is = with_items_is (with_items placing.held held) held_next (omega (arith, held_stays, held_long, placing.held.ok.0)) in
    let wrote_is = with_items_is (with_items placing.wrote wrote) wrote_next (omega (arith, wrote_stays, wrote_long, placing.wrote.ok.0)) in
    record {
      in_lanes = λ lane low. (
          let tick : ℕ = slice_index c.start_of-start.result lane in
          let end : ℕ = slice_index c.moved_on-end.result lane in
          let cown : ℕ = slice_index placing.cowns lane in
          placed_next rows c.requires.shape n lane tick end c.requires.there (in_lane lane held) (in_lane lane wrote) placing _ (p.in_lanes lane low) (record {
            start = c.start_of-start.ensures lane low;
            end_is = omega (arith, c.moved_on-end.ensures lane low, c.ticks.ensures);
            starts_are = ap (in_lane lane) c.push_reserved.ensures.items ∙ lane_push lane placing.starts.items c.start_of-start.result;
            cowns_stay = refl;
            held_raised = held_raised lane low;
            held_free = subst (λ (l : List (List ℕ)). IsFreed cown (in_lane lane held) (in_lane lane l)) (sym held_is) (held_free lane low);
            wrote_raised = wrote_raised lane low;
            wrote_free = subst (λ (l : List (List ℕ)). IsFreed cown (in_lane lane wrote) (in_lane lane l)) (sym wrote_is) (wrote_free lane low);
            latest_is = c.later-self.ensures lane low;
          }));
      enough = omega (arith, c.push_reserved.ensures.capacity, p.enough);
      held_whole = ap (length {A = List ℕ}) held_is ∙ held_stays ∙ held_long ∙ p.held_whole;
      wrote_whole = ap (length {A = List ℕ}) wrote_is ∙ wrote_stays ∙ wrote_long ∙ p.wrote_whole;
      passed_is = passed_next rows n placing.passed (length c.cowns.result.now) c.requires.there p.passed_is (ap (length {A = ℕ}) c.cowns.ensures);
    }

pub push_reserved-requires : goal.push_reserved-requires
push_reserved-requires c =
    let starts = c.args.self.now.starts in
    let whole = (c.requires.placed.in_lanes 0 (omega arith)).placed.whole in
    omega (arith, whole, lane_long 0 starts.items, starts.ok.0, c.requires.placed.enough, c.requires.there)

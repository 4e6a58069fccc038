use Rattle.std.proofs.Common.{◌≡◌, ℕ, ◌<◌, List, length, ap, arith}
use Rattle.std.proofs.lemmas.List.{length_push, length-drop}
use Rattle.boc_runs.specs.Rows.{cowns_of}
use Rattle.boc_turns.specs.Turns.{cowns_before}
use Rattle.boc_turns.proofs.Counting.{own_enough}
use Rattle.boc_used_greedy.proofs.Holding.{AreHeldTo, held_at, held_more, held_next}
use Rattle.boc_used_greedy.proofs.HoldingMore.{are_holds, begins_more, held_uses}
use Rattle.boc_used_greedy.proofs.holds.holds_of.Goals as goal

pub bounds-uses-begin : goal.bounds-uses-begin
bounds-uses-begin c =
    let rows = c.args.rows.now in
    let uses = c.args.uses.now in
    let row = c.loop-row.row in
    let there : row < length rows = omega (arith, c.loop-row-test.true, c.len-row-end.ensures.count) in
    let low : c.loop-place.place < length (cowns_of rows row) = rw c.cowns-own-items.ensures at c.loop-place-test.true in
    omega (
      arith,
      c.len-begin.ensures,
      c.loop-row.all.ok.0,
      c.loop-row.invariant.held.whole,
      low,
      own_enough rows uses c.requires.uses row there,
      length-drop (cowns_before rows row) uses,
    )

pub offset_bounds-uses-begin : goal.offset_bounds-uses-begin
offset_bounds-uses-begin c = omega (arith, bounds-uses-begin c, c.in_ok-all.all.small, c.in_ok-all.ensures.capacity)

pub loop-place-preserved : goal.loop-place-preserved
loop-place-preserved c =
    let rows = c.args.rows.now in
    let uses = c.args.uses.now in
    let marks = c.args.relaxed.now in
    let row = c.loop-row.row in
    let begin : c.len-begin.result ≡ cowns_before rows row = omega (arith, c.len-begin.ensures, c.loop-row.all.ok.0, c.loop-row.invariant.held.whole) in
    let is : c.hold_of.result ≡ held_at rows uses marks row c.loop-place.place = rw (begin, c.cowns-own-items.ensures, c.ticks.ensures) at c.hold_of.ensures in
    rw c.in_ok-push.ensures.items (held_more rows c.requires.shape uses c.requires.uses marks row c.loop-place.place c.loop-place.all.items c.hold_of.result
    c.loop-place.invariant is)

pub loop-row-preserved : goal.loop-row-preserved
loop-row-preserved c =
    let rows = c.args.rows.now in
    let row = c.loop-row.row in
    let begins = c.loop-row.begins.items in
    let there : row < length rows = omega (arith, c.loop-row-test.true, c.len-row-end.ensures.count) in
    let begin : c.len-begin.result ≡ cowns_before rows row = omega (arith, c.len-begin.ensures, c.loop-row.all.ok.0, c.loop-row.invariant.held.whole) in
    let end : c.loop-place.place ≡ length (cowns_of rows row) =
    omega (arith, c.loop-place-test.false, c.loop-place.auto.place-end, ap (λ (l : List ℕ). length l) c.cowns-own-items.ensures) in
    record {
      held = held_next rows c.requires.shape c.args.uses.now c.requires.uses c.args.relaxed.now row c.loop-place.all.items c.loop-place.place there end
          c.loop-place.invariant;
      room = omega (arith, c.push_reserved.ensures.capacity, c.loop-row.invariant.room);
      whole = rw c.push_reserved.ensures.items (omega (arith, length_push begins c.len-begin.result, c.loop-row.invariant.whole));
      begins = rw c.push_reserved.ensures.items (begins_more rows row begins c.len-begin.result c.loop-row.invariant.whole begin c.loop-row.invariant.begins);
    }

pub returns-clause-has : goal.returns-clause-has
returns-clause-has c =
    let rows = c.args.rows.now in
    let all = c.loop-row.all.items in
    let end : c.loop-row.row ≡ length rows = omega (arith, c.loop-row-test.false, c.loop-row.auto.row-end, c.len-row-end.ensures.count) in
    let held : AreHeldTo rows c.args.uses.now c.args.relaxed.now (length rows) 0 all = rw end at c.loop-row.invariant.held in
    record {
      whole = omega (arith, c.loop-row.invariant.whole, end);
      begins = λ r low. c.loop-row.invariant.begins r (omega (arith, low, end));
      are_uses = held_uses rows c.requires.shape c.args.uses.now c.requires.uses c.args.relaxed.now all held;
    }

pub returns-clause-are : goal.returns-clause-are
returns-clause-are c =
    let rows = c.args.rows.now in
    let all = c.loop-row.all.items in
    let end : c.loop-row.row ≡ length rows = omega (arith, c.loop-row-test.false, c.loop-row.auto.row-end, c.len-row-end.ensures.count) in
    let held : AreHeldTo rows c.args.uses.now c.args.relaxed.now (length rows) 0 all = rw end at c.loop-row.invariant.held in
    are_holds rows c.requires.shape c.args.uses.now c.requires.uses c.args.relaxed.now all held

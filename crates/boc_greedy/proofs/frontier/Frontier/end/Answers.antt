use Rattle.std.proofs.Common.{◌≡◌, ℕ, ◌+◌, ◌-◌, ◌<◌, List, [], drop, length, refl, sym, ap, ◌∙◌, arith, length-set, get_or-set_same}
use Rattle.std.specs.Prelude.{slice_index, slice_set}
use Rattle.std.proofs.lemmas.List.{drop_more, drop_all}
use Rattle.std.proofs.lemmas.List.Elements.{Contains-get_or}
use Rattle.std.proofs.lemmas.Option.{slice_get_within}
use Rattle.boc_runs.specs.declared.rows.Row.{Row}
use Rattle.boc_order.specs.Waits.{links_of}
use Rattle.boc_greedy.specs.declared.frontier.RowState.TheVariants.{UnderWay, Over}
use Rattle.boc_greedy.specs.declared.frontier.Frontier.{Frontier}
use Rattle.boc_greedy.specs.RowStates.{IsAt}
use Rattle.boc_greedy.specs.Frontier.{IsFrontierBut}
use Rattle.boc_greedy.proofs.Followed.{times-first}
use Rattle.boc_greedy.proofs.Queueing.{queued_set}
use Rattle.boc_greedy.proofs.Reading.{read_at}
use Rattle.boc_greedy.proofs.Waking.{ended, woken, follower_there}
use Rattle.boc_greedy.proofs.frontier.Frontier.end.Goals as goal

-- the next follower is there, and its count is not 0
next_there : (rows : List Row) (old now : Frontier) (row n : ℕ) (items : List ℕ) → IsFrontierBut rows (drop n items) now
    → now.states.items ≡ slice_set old.states.items row Over →
    now.followers.now ≡ old.followers.now → IsAt old.states.items row UnderWay → items ≡ links_of old.followers.now row → n < length items →
    (slice_index items n < length now.states.items) × (length now.unmet.items ≡ length now.states.items)
    × (0 < slice_index now.unmet.items (slice_index items n))
next_there rows old now row n items (waits, is) states followers was of_row h = (
  there,
  is.are_counted.whole,
  omega (
    arith,
    (rw (drop_more items n 0 h) at is.are_counted.count) (slice_index items n) there,
    times-first
        (slice_index items n) (drop (n + 1) items),
  ),
)
  where
    row_there : row < length now.states.items
    row_there = omega (arith, slice_get_within old.states.items row UnderWay was, ap length states, length-set old.states.items row Over)

    there : slice_index items n < length now.states.items
    there = follower_there rows waits now.followers.now now.states.items now.unmet.items now.ready _ row _ is row_there
        (rw (followers, sym of_row) (Contains-get_or items n 0 h))

pub loop-follower-init : goal.loop-follower-init
loop-follower-init c =
    let f = c.args.self.now in
    let (waits, is) = c.requires.frontier in
    record {
      kept = rw c.of-follower-items.ensures (
        waits,
        ended c.args.rows.now waits f.followers.now f.states.items f.unmet.items f.ready c.args.row is
            c.requires.under_way,
      );
      states = refl;
      followers = refl;
    }

pub index-requires : goal.index-requires
index-requires c =
    let i = c.loop-follower.invariant in
    let t = next_there _ c.args.self.now c.loop-follower.self c.args.row c.loop-follower.follower-index _ i.kept i.states i.followers c.requires.under_way
    c.of-follower-items.ensures c.loop-follower-test.true in
    omega (arith, t.0, t.1, c.loop-follower.self.unmet.ok.0)

pub wake-requires-clause-count : goal.wake-requires-clause-count
wake-requires-clause-count c =
    let i = c.loop-follower.invariant in
    let t = next_there _ c.args.self.now c.loop-follower.self c.args.row c.loop-follower.follower-index _ i.kept i.states i.followers c.requires.under_way
    c.of-follower-items.ensures c.loop-follower-test.true in
    sym (get_or-set_same c.loop-follower.self.unmet.items _ _ 0 (omega (arith, t.0, t.1)))

pub index_mut-requires-in-loop-follower : goal.index_mut-requires-in-loop-follower
index_mut-requires-in-loop-follower c =
    let i = c.loop-follower.invariant in
    let t = next_there _ c.args.self.now c.loop-follower.self c.args.row c.loop-follower.follower-index _ i.kept i.states i.followers c.requires.under_way
    c.of-follower-items.ensures c.loop-follower-test.true in
    omega (arith, t.0, t.1, c.loop-follower.self.unmet.ok.0)

pub overflow_sub-unmet : goal.overflow_sub-unmet
overflow_sub-unmet c =
    let i = c.loop-follower.invariant in
    let t = next_there _ c.args.self.now c.loop-follower.self c.args.row c.loop-follower.follower-index _ i.kept i.states i.followers c.requires.under_way
    c.of-follower-items.ensures c.loop-follower-test.true in
    omega (
      arith,
      t.2,
      read_at c.loop-follower.self.unmet.items _ c.index.result.now (omega (arith, t.0, t.1)) c.index.ensures,
    )

pub wake-requires-clause-there : goal.wake-requires-clause-there
wake-requires-clause-there c =
    let i = c.loop-follower.invariant in
    (next_there _ c.args.self.now c.loop-follower.self c.args.row c.loop-follower.follower-index _ i.kept i.states i.followers c.requires.under_way
    c.of-follower-items.ensures c.loop-follower-test.true).0

pub wake-requires-clause-set : goal.wake-requires-clause-set
wake-requires-clause-set c = queued_set _ _ _ c.loop-follower.invariant.kept.1.are_ready

pub loop-follower-preserved : goal.loop-follower-preserved
loop-follower-preserved c =
    let i = c.loop-follower.invariant in
    let f = c.loop-follower.self in
    let w = c.wake.ensures in
    let items = c.of-follower-items.result.now in
    let n : ℕ = c.loop-follower.follower-index in
    let t = next_there _ c.args.self.now f c.args.row n items i.kept i.states i.followers c.requires.under_way c.of-follower-items.ensures
    c.loop-follower-test.true in
    let read = read_at f.unmet.items (slice_index items n) c.index.result.now (omega (arith, t.0, t.1)) c.index.ensures in
    let (waits, is) = i.kept in
    record {
      kept = rw (w.states, w.unmet, w.followers) (
        waits,
        woken c.args.rows.now waits f.followers.now f.states.items f.unmet.items f.ready (slice_index items n) (drop (n + 1) items) _ _
            (rw (sym (drop_more items n 0 c.loop-follower-test.true)) is) t.0 (ap (λ (x : ℕ). slice_set f.unmet.items (slice_index items n) (x - 1)) (sym read))
            w.set w.rows,
      );
      states = w.states ∙ i.states;
      followers = w.followers ∙ i.followers;
    }

pub returns-clause-kept : goal.returns-clause-kept
returns-clause-kept c =
    let items = c.of-follower-items.result.now in
    let all : drop c.loop-follower.follower-index items ≡ [] = drop_all c.loop-follower.follower-index items (omega (arith, c.loop-follower-test.false)) in
    rw all at c.loop-follower.invariant.kept

pub returns-clause-states : goal.returns-clause-states
returns-clause-states c = c.loop-follower.invariant.states

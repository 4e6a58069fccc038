use Rattle.std.proofs.Common.{◌≡◌, ℕ, ◌+◌, ◌*◌, ◌<◌, ◌≤◌, ◌^◌, ◌∙◌, List, cond, length, ap, arith}
use Rattle.std.specs.Prelude.{Option, slice_index, slice_index_or, None}
use Rattle.boc_program.specs.declared.limits.TheConstants.{MOST_COWNS}
use Rattle.boc_runs.specs.Rows.{cowns_of, written_of}
use Rattle.boc_turns.specs.Ticks.{use_ticks}
use Rattle.boc_turns.specs.Course.{wrote_cown}
use Rattle.boc_turns.proofs.Adding.{added_all, added_more, fresh}
use Rattle.boc_turns.proofs.Folding.{same_test}
use Rattle.boc_turns.proofs.ticks.add_ticks.Goals as goal

pub overflow_add-totals : goal.overflow_add-totals
overflow_add-totals c =
    let rows = c.args.rows.now in
    let r : ℕ = c.args.row in
    let i : ℕ = c.loop-place.place in
    let below : i < length (cowns_of rows r) = rw (← c.cowns-own-items.ensures) c.loop-place-test.true in
    let x : ℕ = slice_index (cowns_of rows r) i in
    let small : x < MOST_COWNS = c.requires.shape.cowns_below r c.requires.there i 0 below in
    let same = fresh rows c.requires.shape r c.requires.there c.args.uses.now c.args.totals.now i c.loop-place.totals c.loop-place.invariant below in
    rw c.cowns-own-items.ensures (omega (arith, same, c.requires.low x small, c.ticks_of.ensures.low, c.requires.there, c.requires.shape.not_many))

pub loop-place-preserved : goal.loop-place-preserved
loop-place-preserved c =
    let rows = c.args.rows.now in
    let r : ℕ = c.args.row in
    let i : ℕ = c.loop-place.place in
    let below : i < length (cowns_of rows r) = rw (← c.cowns-own-items.ensures) c.loop-place-test.true in
    let x : ℕ = slice_index (cowns_of rows r) i in
    let small : x < length c.args.totals.now = omega (arith, c.requires.shape.cowns_below r c.requires.there i 0 below, c.requires.whole) in
    let tells = rw c.cowns-own-items.ensures at c.writes.ensures in
    let writes : c.writes.result ≡ wrote_cown rows r x = same_test c.writes.result x (written_of rows r) tells in
    let f = λ (b : _). cond b (use_ticks (slice_index_or c.args.uses.now i None)) 0 in
    let is = c.ticks_of.ensures.is ∙ ap f writes in
    rw c.cowns-own-items.ensures (added_more rows c.requires.shape r c.requires.there c.args.uses.now c.args.totals.now i c.loop-place.totals
    c.loop-place.invariant below small _ (ap (λ (k : ℕ). slice_index c.loop-place.totals x + k) is))

pub returns-clause-each : goal.returns-clause-each
returns-clause-each c =
    let rows = c.args.rows.now in
    let all : length (cowns_of rows c.args.row) ≤ c.loop-place.place = rw (← c.cowns-own-items.ensures) c.loop-place-test.false in
    let up : c.loop-place.place ≤ length (cowns_of rows c.args.row) = rw (← c.cowns-own-items.ensures) c.loop-place.auto.place-end in
    λ x low. added_all rows c.requires.shape c.args.row c.requires.there c.args.uses.now c.args.totals.now c.loop-place.place c.loop-place.totals all up
    c.requires.uses c.loop-place.invariant x

use Rattle.std.proofs.Common.{ℕ, ◌<◌, length, ap, arith}
use Rattle.std.specs.Prelude.{slice_index}
use Rattle.std.proofs.lemmas.Option.{slice_get-get_or}
use Rattle.boc_program.specs.declared.limits.TheConstants.{MOST_COWNS}
use Rattle.boc_runs.specs.Rows.{cowns_of}
use Rattle.boc_used_greedy.specs.declared.fronts.Front.{Front}
use Rattle.boc_used_greedy.proofs.Telling.{taken_fronts, taken_told}
use Rattle.boc_used_greedy.proofs.PlanMore.{cowns_apart, next_come, next_told, next_taken}
use Rattle.boc_used_greedy.proofs.plan.take_on.Goals as goal

pub go_on-requires-clause-come : goal.go_on-requires-clause-come
go_on-requires-clause-come c =
    let rows = c.args.rows.now in
    let hr = c.requires.shape in
    let n : ℕ = c.loop-own.own-index in
    let d : Front = record { at = 0; told = 0; held = 0; wrote = 0 } in
    let (plan, f, one) = c.requires.before in
    let t = c.loop-own.invariant.taken in
    let low : n < length (cowns_of rows c.args.row) = omega (arith, c.loop-own-test.true, ap (length {A = ℕ}) c.cowns-own-items.ensures) in
    let small : slice_index (cowns_of rows c.args.row) n < MOST_COWNS =
    hr.cowns_below c.args.row c.requires.there n 0 low in
    rw c.cowns-own-items.ensures (next_come rows hr c.args.holds.now.all.items plan c.args.starts.now c.args.row c.requires.there one c.args.fronts.now f n
    c.loop-own.fronts c.loop-own.list.items low t _ (slice_get-get_or c.loop-own.fronts _ d (omega (arith, small, t.whole))))

pub go_on-requires-clause-told : goal.go_on-requires-clause-told
go_on-requires-clause-told c =
    let rows = c.args.rows.now in
    let hr = c.requires.shape in
    let n : ℕ = c.loop-own.own-index in
    let d : Front = record { at = 0; told = 0; held = 0; wrote = 0 } in
    let (plan, f, one) = c.requires.before in
    let t = c.loop-own.invariant.taken in
    let low : n < length (cowns_of rows c.args.row) = omega (arith, c.loop-own-test.true, ap (length {A = ℕ}) c.cowns-own-items.ensures) in
    let small : slice_index (cowns_of rows c.args.row) n < MOST_COWNS =
    hr.cowns_below c.args.row c.requires.there n 0 low in
    rw c.cowns-own-items.ensures (next_told rows hr c.args.holds.now.all.items plan c.args.starts.now c.args.row c.requires.there one c.args.fronts.now f n
    c.loop-own.fronts c.loop-own.list.items low t _ (slice_get-get_or c.loop-own.fronts _ d (omega (arith, small, t.whole))))

pub loop-own-preserved : goal.loop-own-preserved
loop-own-preserved c =
    let rows = c.args.rows.now in
    let hr = c.requires.shape in
    let n : ℕ = c.loop-own.own-index in
    let d : Front = record { at = 0; told = 0; held = 0; wrote = 0 } in
    let (plan, f, one) = c.requires.before in
    let t = c.loop-own.invariant.taken in
    let low : n < length (cowns_of rows c.args.row) = omega (arith, c.loop-own-test.true, ap (length {A = ℕ}) c.cowns-own-items.ensures) in
    let small : slice_index (cowns_of rows c.args.row) n < MOST_COWNS =
    hr.cowns_below c.args.row c.requires.there n 0 low in
    let front = rw c.cowns-own-items.ensures at c.in_ok-fronts.ensures.front in
    let notes = rw c.cowns-own-items.ensures at c.in_ok-fronts.ensures.notes in
    rw c.cowns-own-items.ensures (record {
      taken = next_taken rows hr c.args.holds.now.all.items plan c.args.starts.now c.args.row c.requires.there one c.args.fronts.now f n
          c.loop-own.fronts c.loop-own.list.items low t _ (slice_get-get_or c.loop-own.fronts _ d (omega (arith, small, t.whole)))
          c.go_on.new.list.items c.in_ok-fronts.field-0 small c.in_ok-fronts.ensures.has front notes;
      are_rows = c.in_ok-fronts.ensures.rows;
    })

pub returns-clause-fronts : goal.returns-clause-fronts
returns-clause-fronts c =
    let rows = c.args.rows.now in
    let (plan, f, one) = c.requires.before in
    let lengths = ap (length {A = ℕ}) c.cowns-own-items.ensures in
    taken_fronts rows c.args.holds.now.all.items plan c.args.starts.now c.args.row one c.args.fronts.now f
    (cowns_apart rows c.requires.shape c.args.row c.requires.there) c.loop-own.own-index c.loop-own.fronts c.loop-own.list.items
    (omega (arith, c.loop-own-test.false, lengths)) (omega (arith, c.loop-own.auto.own-index-end, lengths)) c.loop-own.invariant.taken

pub returns-clause-told : goal.returns-clause-told
returns-clause-told c =
    let rows = c.args.rows.now in
    let (plan, f, one) = c.requires.before in
    let lengths = ap (length {A = ℕ}) c.cowns-own-items.ensures in
    taken_told rows c.args.holds.now.all.items plan c.args.starts.now c.args.row one c.args.fronts.now f
    (cowns_apart rows c.requires.shape c.args.row c.requires.there) c.loop-own.own-index c.loop-own.fronts c.loop-own.list.items
    (omega (arith, c.loop-own-test.false, lengths)) (omega (arith, c.loop-own.auto.own-index-end, lengths)) c.loop-own.invariant.taken

use Rattle.std.proofs.Common.{◌≡◌, ℕ, ◌<◌, List, length, ap, arith}
use Rattle.std.proofs.lemmas.List.{length-drop}
use Rattle.boc_runs.specs.Rows.{cowns_of}
use Rattle.boc_turns.specs.Turns.{cowns_before}
use Rattle.boc_turns.proofs.Counting.{own_enough}
use Rattle.boc_turns.proofs.Gathering.{distinct}
use Rattle.boc_used_greedy.proofs.Using.{AreUsersTo, users_more, users_all}
use Rattle.boc_used_greedy.proofs.UsingMore.{begin_read}
use Rattle.boc_used_greedy.proofs.users.note_row.Goals as goal

pub bounds-next-begin : goal.bounds-next-begin
bounds-next-begin c =
    let rows = c.args.rows.now in
    let row = c.args.row in
    let begin = begin_read rows c.args.holds.now c.requires.holds row c.index-begin.result.now c.requires.there c.index-begin.ensures in
    let low : c.loop-place.place < length (cowns_of rows row) = rw c.cowns-own-items.ensures at c.loop-place-test.true in
    let all = c.args.holds.now.all.items in
    let enough = own_enough rows all c.requires.holds.are_uses row c.requires.there in
    omega (arith, begin, low, enough, length-drop (cowns_before rows row) all, c.requires.holds.are_uses.whole, c.loop-place.invariant.next_whole)

pub overflow_add-next : goal.overflow_add-next
overflow_add-next c =
    let all = c.args.holds.now.all in
    omega (arith, bounds-next-begin c, c.loop-place.invariant.next_whole, c.requires.holds.are_uses.whole, all.ok.0, all.small)

pub offset_bounds-next-begin : goal.offset_bounds-next-begin
offset_bounds-next-begin c =
    let all = c.args.holds.now.all in
    omega (arith, bounds-next-begin c, c.loop-place.invariant.next_whole, c.requires.holds.are_uses.whole, all.ok.0, all.small)

pub loop-place-preserved : goal.loop-place-preserved
loop-place-preserved c =
    let rows = c.args.rows.now in
    let row = c.args.row in
    let begin : c.index-begin.result.now ≡ cowns_before rows row =
    begin_read rows c.args.holds.now c.requires.holds row c.index-begin.result.now c.requires.there c.index-begin.ensures in
    let low : c.loop-place.place < length (cowns_of rows row) = rw c.cowns-own-items.ensures at c.loop-place-test.true in
    rw (begin, c.cowns-own-items.ensures) (users_more rows c.requires.shape row c.requires.there
    (distinct rows c.requires.shape c.args.holds.now.all.items row c.requires.there) c.loop-place.place c.loop-place.first c.loop-place.next low
    c.loop-place.invariant)

pub returns : goal.returns
returns c =
    let rows = c.args.rows.now in
    let row = c.args.row in
    let end : c.loop-place.place ≡ length (cowns_of rows row) =
    omega (arith, c.loop-place-test.false, c.loop-place.auto.place-end, ap (λ (l : List ℕ). length l) c.cowns-own-items.ensures) in
    let all : AreUsersTo rows row (length (cowns_of rows row)) c.loop-place.first c.loop-place.next = rw end at c.loop-place.invariant in
    users_all rows c.requires.shape row c.requires.there (distinct rows c.requires.shape c.args.holds.now.all.items row c.requires.there) c.loop-place.first
    c.loop-place.next all

use Rattle.std.proofs.Common.{ℕ, List, sym, subst, arith}
use Rattle.std.specs.Vec.{with_item}
use Rattle.boc_eager.specs.declared.place.Place.TheVariants.{First}
use Rattle.boc_eager.specs.Lines.{Adds}
use Rattle.boc_eager.proofs.Lining.{GoesFrom, GoesLast, goes_from, goes_last}
use Rattle.boc_eager.proofs.Leaving.{kind_read, lets_go, lets_last, moves}
use Rattle.boc_eager.proofs.Sets.{adds_pair}
use Rattle.boc_eager.proofs.course.Course.let_go.Goals as goal

pub index_mut-requires-in-Some : goal.index_mut-requires-in-Some
index_mut-requires-in-Some c =
    let k = c.requires.hand.kept in
    let kind = kind_read c.args.rows.now c.args.self.now c.args.row c.requires.hand c.index-kind.result.now c.index-kind.ensures in
    let g = goes_from c.args.self.now.kin.items c.index-kind.result.now c.index_mut.result.now c.leave.new.self kind.1 c.index_mut.ensures.value c.args.row
    c.in-Some.next c.in-Some.ensures.some in
    omega (arith, (k.kin_are.behind _ _ g.was_behind).0, k.of_rows.places_whole)

pub returns-in_ok-insert-clause-go : goal.returns-in_ok-insert-clause-go
returns-in_ok-insert-clause-go c =
    let s = c.args.self.now in
    let k = c.requires.hand.kept in
    let kind = kind_read c.args.rows.now s c.args.row c.requires.hand c.index-kind.result.now c.index-kind.ensures in
    let kin' = with_item s.kin c.index-kind.result.now c.leave.new.self in
    let g = goes_from s.kin.items c.index-kind.result.now c.index_mut.result.now c.leave.new.self kind.1 c.index_mut.ensures.value c.args.row c.in-Some.next
    c.in-Some.ensures.some in
    lets_go c.args.rows.now c.requires.shape s c.args.row c.requires.hand c.requires.first c.in-Some.next kin'
    (subst (λ (j : ℕ). GoesFrom s.kin.items kin'.items j c.args.row c.in-Some.next) kind.0 g) (with_item s.places c.in-Some.next First)
    (moves s.places.items c.in-Some.next First (omega (arith, (k.kin_are.behind _ _ g.was_behind).0, k.of_rows.places_whole))) c.insert.new.self
    (subst (λ (keys : List (ℕ × ℕ)). Adds s.next.keys keys (s.tick, c.in-Some.next)) (sym c.in_ok-insert.ensures.keys)
    (adds_pair s.next.keys (s.tick, c.in-Some.next)))

pub returns-in_default-clause-go : goal.returns-in_default-clause-go
returns-in_default-clause-go c =
    let s = c.args.self.now in
    let kind = kind_read c.args.rows.now s c.args.row c.requires.hand c.index-kind.result.now c.index-kind.ensures in
    let kin' = with_item s.kin c.index-kind.result.now c.leave.new.self in
    lets_last c.args.rows.now c.requires.shape s c.args.row c.requires.hand c.requires.first kin'
    (subst (λ (j : ℕ). GoesLast s.kin.items kin'.items j c.args.row) kind.0
    (goes_last s.kin.items c.index-kind.result.now c.index_mut.result.now c.leave.new.self kind.1 c.index_mut.ensures.value c.args.row
    c.in_default.ensures.none))

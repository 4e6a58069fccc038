use Rattle.std.proofs.Common.{ℕ, Bool, subst, arith}
use Rattle.std.specs.Vec.{with_item}
use Rattle.std.proofs.lemmas.Result.{on_ok_weaker}
use Rattle.boc_eager.specs.declared.place.Place.TheVariants.{BehindKin, First}
use Rattle.boc_eager.specs.Lines.{IsJoined}
use Rattle.boc_eager.proofs.Leaving.{kind_read, moves}
use Rattle.boc_eager.proofs.Lining.{ComesBehind, ComesInFront, comes_behind, comes_in_front}
use Rattle.boc_eager.proofs.Waiting.{comes_behind_kin, comes_first_of_kin}
use Rattle.boc_eager.proofs.course.Course.arrive.Goals as goal

pub returns-then-not-branch : goal.returns-then-not-branch
returns-then-not-branch c =
    let s = c.args.self.now in
    let kind = kind_read c.args.rows.now s c.args.row c.requires.hand c.index-kind.result.now c.index-kind.ensures in
    let kin' = with_item s.kin c.index-kind.result.now c.join.new.self in
    let g = comes_behind s.kin.items c.index-kind.result.now c.index_mut.result.now c.join.new.self kind.1 c.index_mut.ensures.value c.args.row
    (subst (λ (b : Bool). IsJoined c.index_mut.result.now c.join.new.self c.args.row b) c.if-not-branch.true c.in_ok-join.ensures) in
    comes_behind_kin c.args.rows.now c.requires.shape s c.args.row c.requires.hand c.requires.new kin'
    (subst (λ (j : ℕ). ComesBehind s.kin.items kin'.items j c.args.row) kind.0 g) (with_item s.places c.args.row BehindKin)
    (moves s.places.items c.args.row BehindKin (omega (arith, c.requires.hand.there, c.requires.hand.kept.of_rows.places_whole)))

pub start_or_wait-requires-clause-hand : goal.start_or_wait-requires-clause-hand
start_or_wait-requires-clause-hand c =
    let s = c.args.self.now in
    let kind = kind_read c.args.rows.now s c.args.row c.requires.hand c.index-kind.result.now c.index-kind.ensures in
    let kin' = with_item s.kin c.index-kind.result.now c.join.new.self in
    let g = comes_in_front s.kin.items c.index-kind.result.now c.index_mut.result.now c.join.new.self kind.1 c.index_mut.ensures.value c.args.row
    (subst (λ (b : Bool). IsJoined c.index_mut.result.now c.join.new.self c.args.row b) c.if-not-branch.false c.in_ok-join.ensures) in
    comes_first_of_kin c.args.rows.now c.requires.shape s c.args.row c.requires.hand c.requires.new kin'
    (subst (λ (j : ℕ). ComesInFront s.kin.items kin'.items j c.args.row) kind.0 g) (with_item s.places c.args.row First)
    (moves s.places.items c.args.row First (omega (arith, c.requires.hand.there, c.requires.hand.kept.of_rows.places_whole)))

pub start_or_wait-requires-clause-first : goal.start_or_wait-requires-clause-first
start_or_wait-requires-clause-first c = (moves c.args.self.now.places.items c.args.row First
    (omega (arith, c.requires.hand.there, c.requires.hand.kept.of_rows.places_whole))).at

pub returns : goal.returns
returns c = on_ok_weaker c.start_or_wait.result (λ l. record { kept = l.kept; tick = l.tick; row = l.row }) c.start_or_wait.ensures

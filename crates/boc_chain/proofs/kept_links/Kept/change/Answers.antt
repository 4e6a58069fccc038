use Rattle.std.proofs.Common.{◌≡◌, ◌∙◌, ◌-◌, ◌<◌, ◌++◌, length, length-append, get_or, ap, set, subst, sym, arith}
use Rattle.std.specs.Prelude.{slice_get}
use Rattle.boc_chain.specs.KeptLinks.{head_of, places_of, room_of}
use Rattle.boc_chain.specs.ShortLinks.{changed}
use Rattle.boc_chain.proofs.Keeping.{changed_first, changed_rest}
use Rattle.boc_chain.proofs.kept_links.Kept.change.Goals as goal

pub returns-then-place-lt-FEW-clause-places : goal.returns-then-place-lt-FEW-clause-places
returns-then-place-lt-FEW-clause-places c = λ l got.
    let first : length c.in-More.head.first ≡ 2 = sym (ap (λ k. length (head_of k).first) c.in-More.is) ∙ c.requires.has.first in
    let all = ap places_of c.in-More.is in
    changed_first (changed c.args.change) c.in-More.head.first c.in-More.rest.value c.args.place c.index-head-place-then-place-lt-FEW.result _ l
    (omega (arith, first, c.if-place-lt-FEW.true))
    c.index-head-place-then-place-lt-FEW.is c.change-then-place-lt-FEW.ensures (ap (λ ls. slice_get ls c.args.place) (sym all) ∙ got)
    ∙ ap (λ ls. set ls c.args.place (changed c.args.change l)) (sym all)

pub returns-else-place-lt-FEW-clause-places : goal.returns-else-place-lt-FEW-clause-places
returns-else-place-lt-FEW-clause-places c = λ l got.
    let head = c.in-More.head.first in
    let rest = c.deref_mut.result.now in
    let found = c.index-deref_mut-place.result in
    let new = c.change-else-place-lt-FEW.new.self in
    let first : length head ≡ 2 = sym (ap (λ k. length (head_of k).first) c.in-More.is) ∙ c.requires.has.first in
    let room : room_of c.args.self.now ≡ 8 = ap room_of c.in-More.is in
    let all : places_of c.args.self.now ≡ head ++ rest = ap places_of c.in-More.is ∙ ap (λ ls. head ++ ls) (sym c.deref_mut.ensures.value) in
    let whole : length (head ++ rest) ≡ 8 = sym (ap length all) ∙ c.requires.has.whole ∙ room in
    let at : c.args.place - 2 ≡ c.args.place - length head = omega (arith, first) in
    let long : c.args.place - length head < length rest =
    omega (arith, first, room, whole, length-append head rest, c.requires.there, c.if-place-lt-FEW.false) in
    ap (λ n. head ++ set rest n new) at
    ∙ changed_rest (changed c.args.change) head rest c.args.place found new l (omega (arith, first, c.if-place-lt-FEW.false)) long
    (subst (λ n. found ≡ get_or rest n found) at c.index-deref_mut-place.is)
    (subst (λ n. new ≡ changed c.args.change (get_or rest n found)) at c.change-else-place-lt-FEW.ensures)
    (ap (λ ls. slice_get ls c.args.place) (sym all) ∙ got)
    ∙ ap (λ ls. set ls c.args.place (changed c.args.change l)) (sym all)

use Rattle.std.proofs.Common.{◌≡◌, ◌∙◌, ◌<◌, ◌++◌, ◌∷◌, [], ℕ, List, length, ap, sym, subst, refl, arith, Some}
use Rattle.std.specs.Prelude.{slice_get, slice_set}
use Rattle.std.proofs.lemmas.Option.{slice_get_read}
use Rattle.boc_remedies.specs.InOrder.{first_place}
use Rattle.boc_many_runs.specs.declared.counted.Counted.{Counted}
use Rattle.boc_many_runs.specs.Union.{counted}
use Rattle.boc_many_runs.proofs.Counting.{counted_new, counted_there, is_of}
use Rattle.boc_many_runs.proofs.counted.count.Goals as goal

-- one that is there is raised
pub returns-then-place-len : goal.returns-then-place-len
returns-then-place-len c =
    let all : List Counted = c.args.all.now.items in
    let place : ℕ = c.place_of-place.result in
    let own : Counted = c.index_mut.result.now in
    let first : place ≡ first_place (is_of c.args.remedy.now) all =
    c.place_of-place.ensures.is ∙ ap (first_place (is_of c.args.remedy.now)) c.deref.ensures.value in
    let low : place < length all = omega (arith, c.if-place-len.true, c.len.ensures, c.args.all.now.ok.0) in
    let got : slice_get all place ≡ Some own = slice_get_read all (length all) place own refl low c.index_mut.ensures.value in
    subst (λ (o : Counted). slice_set all place o ≡ counted all c.args.remedy.now) (sym c.in_ok-raise.ensures)
    (counted_there all c.args.remedy.now place own first got)

-- one that is new comes last
pub returns : goal.returns
returns c =
    let all : List Counted = c.args.all.now.items in
    let first : c.place_of-place.result ≡ first_place (is_of c.args.remedy.now) all =
    c.place_of-place.ensures.is ∙ ap (first_place (is_of c.args.remedy.now)) c.deref.ensures.value in
    let whole : length all ≡ c.place_of-place.result =
    omega (arith, c.if-place-len.false, c.len.ensures, c.args.all.now.ok.0, c.place_of-place.ensures.within, ap (λ (cs : List Counted). length cs) c.deref.ensures.value) in
    c.in_ok-push.ensures.items
    ∙ subst (λ r. all ++ record { remedy = r; runs = 1 } ∷ [] ≡ counted all c.args.remedy.now) (sym c.in_ok-remedy.ensures)
    (sym (counted_new all c.args.remedy.now (whole ∙ first)))

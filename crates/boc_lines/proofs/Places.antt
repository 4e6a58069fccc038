-- Lists from a place on.
use Rattle.std.proofs.Common.{◌≡◌, ℕ, suc, ◌+◌, ◌<◌, ◌≤◌, List, [], ◌∷◌, sym, ap, ◌∙◌, arith, length, map, drop, get_or}
use Rattle.std.proofs.Math.Seq.{drop-cons}
use Rattle.std.proofs.Math.ListN.{drop_of_length-le}
use Rattle.std.proofs.lemmas.List.{drop-map}
use Rattle.boc_eval.specs.declared.instance.Instance.{Instance}
use Rattle.boc_eval.specs.Instances.{behaviour_in}

pub next_place : (i : ℕ) → suc i ≡ i + 1
next_place i = omega arith

pub rows_on : (rows : List Instance) (i : ℕ) (x : Instance) → i < length rows → x ≡ get_or rows i x
    → drop i (map behaviour_in rows) ≡ behaviour_in x ∷ drop (i + 1) (map behaviour_in rows)
rows_on rows i x h is =
    drop-map behaviour_in i rows ∙ ap (map behaviour_in) (drop-cons rows i x h) ∙ ap (λ y. behaviour_in y ∷ map behaviour_in (drop (suc i) rows)) (sym is)
    ∙ ap (λ n. behaviour_in x ∷ map behaviour_in (drop n rows)) (next_place i) ∙ ap (λ bs. behaviour_in x ∷ bs) (sym (drop-map behaviour_in (i + 1) rows))

pub numbers_on : (ns : List ℕ) (i : ℕ) → i < length ns → drop i ns ≡ get_or ns i 0 ∷ drop (i + 1) ns
numbers_on ns i h = drop-cons ns i 0 h ∙ ap (λ n. get_or ns i 0 ∷ drop n ns) (next_place i)

pub none_left : {A : Type 0} (xs : List A) (i : ℕ) → length xs ≤ i → drop i xs ≡ []
none_left xs i h = drop_of_length-le xs h

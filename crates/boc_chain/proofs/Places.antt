-- The places of cowns in a slot.
use Rattle.std.proofs.Common.{◌≡◌, ◌≢◌, ℕ, zero, suc, ◌<◌, ◌≤◌, ◌==◌, cond, List, [], ◌∷◌, ◌++◌, length, set, get_or, refl, sym, ◌∙◌, ap, arith}
use Rattle.std.specs.Prelude.{slice_get, Option, Some, None, position}
use Rattle.std.specs.Option.{option_and_then, option_map}
use Rattle.std.proofs.lemmas.List.Quantifiers.{position-Some}
use Rattle.std.proofs.lemmas.Bool.Decides.{Decides-eqb}
use Rattle.boc_chain.specs.declared.linked.Link.{Link}
use Rattle.boc_chain.specs.Chain.{times}
use Rattle.boc_chain.proofs.Spelled.{times_same, times_more, eqb_same, eqb_other}
use Rattle.boc_chain.proofs.Settles.{position_step}
use Rattle.boc_program.proofs.ChangedItems.{none_past, set_other, last_item}
use Rattle.boc_chain.proofs.Got.{got_push}

-- what stands at the place that was found
pub found_is : (cs : List ℕ) (c i : ℕ) → position (λ x. x == c) cs ≡ Some i → get_or cs i 0 ≡ c
found_is cs c i e = (Decides-eqb (get_or cs i 0) c).0 (position-Some (λ x. x == c) cs i 0 e).1

at_place : (ls : List Link) (i : ℕ) (l : Link) (o : Option ℕ) → ((k : ℕ) → o ≡ Some k → k ≢ i)
    → option_and_then (λ k. slice_get (set ls i l) k) o ≡ option_and_then (λ k. slice_get ls k) o
at_place ls i l None h = refl
at_place ls i l (Some k) h = set_other ls i k l (h k refl)

-- the link of another cown stays
pub other_place : (cs : List ℕ) (ls ls' : List Link) (c d i : ℕ) (l : Link) → ls' ≡ set ls i l → position (λ x. x == c) cs ≡ Some i → d ≢ c
    → option_and_then (λ k. slice_get ls' k) (position (λ x. x == d) cs) ≡ option_and_then (λ k. slice_get ls k) (position (λ x. x == d) cs)
other_place cs ls ls' c d i l is e n =
    ap (λ (xs : List Link). option_and_then (λ k. slice_get xs k) (position (λ x. x == d) cs)) is
    ∙ at_place ls i l (position (λ x. x == d) cs) (λ k f m. n (sym (found_is cs d k f) ∙ ap (λ j. get_or cs j 0) m ∙ found_is cs c i e))

-- pushing

pub stands : (cs : List ℕ) (k : ℕ) → k < length cs → 0 < times (get_or cs k 0) cs
stands [] k h = absurd (omega arith)
stands (c ∷ cs) zero h = let t = times_same c c cs refl in omega arith
stands (c ∷ cs) (suc k) h = let t = stands cs k (omega arith) in omega arith

-- in a list of distinct cowns each is found where it stands
pub here_place : (cs : List ℕ) (n : ℕ) → ((d : ℕ) → times d cs ≤ 1) → n < length cs → position (λ x. x == get_or cs n 0) cs ≡ Some n
here_place [] n one h = absurd (omega arith)
here_place (c ∷ cs) zero one h = position_step (λ x. x == c) c cs
    ∙ ap (λ b. cond b (Some 0) (option_map (λ n. suc n) (position (λ x. x == c) cs))) (eqb_same c c refl)
here_place (c ∷ cs) (suc k) one h =
    let d = get_or cs k 0 in
    position_step (λ x. x == d) c cs
    ∙ ap (λ b. cond b (Some 0) (option_map (λ n. suc n) (position (λ x. x == d) cs)))
    (eqb_other c d (λ e. let a = stands cs k (omega arith) in let b = times_same d c cs e in let o = one d in absurd (omega arith)))
    ∙ ap (option_map (λ n. suc n)) (here_place cs k (λ x. let o = one x in omega (arith, times_more x c cs)) (omega arith))

pub push_here : (cs : List ℕ) (ls ls' : List Link) (l : Link) → ls' ≡ ls ++ (l ∷ []) → length ls < length cs → ((d : ℕ) → times d cs ≤ 1)
    → option_and_then (λ k. slice_get ls' k) (position (λ x. x == get_or cs (length ls) 0) cs) ≡ Some l
push_here cs ls ls' l is h one =
    ap (λ o. option_and_then (λ k. slice_get ls' k) o) (here_place cs (length ls) one h) ∙ ap (λ (xs : List Link). slice_get xs (length ls)) is ∙ last_item ls l

at_push : (ls : List Link) (l : Link) (o : Option ℕ) → ((k : ℕ) → o ≡ Some k → k ≢ length ls)
    → option_and_then (λ k. slice_get (ls ++ (l ∷ [])) k) o ≡ option_and_then (λ k. slice_get ls k) o
at_push ls l None h = refl
at_push ls l (Some k) h = got_push ls l k (h k refl)

pub push_other : (cs : List ℕ) (ls ls' : List Link) (l : Link) (d : ℕ) → ls' ≡ ls ++ (l ∷ []) → d ≢ get_or cs (length ls) 0
    → option_and_then (λ k. slice_get ls' k) (position (λ x. x == d) cs) ≡ option_and_then (λ k. slice_get ls k) (position (λ x. x == d) cs)
push_other cs ls ls' l d is n =
    ap (λ (xs : List Link). option_and_then (λ k. slice_get xs k) (position (λ x. x == d) cs)) is
    ∙ at_push ls l (position (λ x. x == d) cs) (λ k f m. n (sym (found_is cs d k f) ∙ ap (λ j. get_or cs j 0) m))

-- a request that isn't exchanged has no link
pub no_link : (cs : List ℕ) (ls : List Link) (i : ℕ) → ((d : ℕ) → times d cs ≤ 1) → i < length cs → length ls ≤ i
    → option_and_then (λ k. slice_get ls k) (position (λ x. x == get_or cs i 0) cs) ≡ None
no_link cs ls i one h out = ap (λ o. option_and_then (λ k. slice_get ls k) o) (here_place cs i one h) ∙ none_past ls i out

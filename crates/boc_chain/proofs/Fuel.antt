-- The lists are read back whole: no list is longer than there are slots.
use Rattle.std.proofs.Common.{◌≡◌, ℕ, zero, suc, ◌+◌, ◌-◌, ◌<◌, ◌≤◌, ◌⊎◌, List, [], ◌∷◌, length, refl, sym, ◌∙◌, ap, inl, inr, arith}
use Rattle.std.specs.Prelude.{slice_index_or, Option, Some, None}
use Rattle.std.specs.Option.{option_map}
use Rattle.slab.specs.Slab.{Slab}
use Rattle.boc_chain.specs.declared.request.Request.{Request}
use Rattle.boc_chain.specs.KeptLinks.{Linked}
use Rattle.boc_chain.specs.Chain.{times, slots}
use Rattle.boc_chain.specs.Links.{Tie, end_of, walk}
use Rattle.boc_chain.specs.Linked.{stored_in, seen, links, IsSpelled, IsList}
use Rattle.boc_chain.proofs.Lines.{same_or_not}
use Rattle.boc_chain.proofs.Links.{walk_spells}
use Rattle.std.proofs.lemmas.Bool.{cases_order}
use Rattle.boc_chain.proofs.Spelled.{has_link, times_same, times_other, times_more}

-- how many of the numbers below n, each as often as it is in the list
total : ℕ → List ℕ → ℕ
total zero xs = 0
total (suc n) xs = times n xs + total n xs

total_few : (n : ℕ) (xs : List ℕ) → ((s : ℕ) → times s xs ≤ 1) → total n xs ≤ n
unfolding total
total_few zero xs h = omega arith
total_few (suc n) xs h = let a = h n in let b = total_few n xs h in omega arith

total_out : (n x : ℕ) (xs : List ℕ) → n ≤ x → total n (x ∷ xs) ≡ total n xs
unfolding total
total_out zero x xs h = refl
total_out (suc n) x xs h = let a = times_other n x xs (λ e. absurd (omega arith)) in let b = total_out n x xs (omega arith) in omega arith

total_one : (n x : ℕ) (xs : List ℕ) → x < n → total n (x ∷ xs) ≡ 1 + total n xs
unfolding total
total_one zero x xs h = absurd (omega arith)
total_one (suc n) x xs h = elim (same_or_not x n) [
  | inl e ↦ (let a = times_same n x xs e in let b = total_out n x xs (omega arith) in omega arith)
  | inr e ↦ (let f : x < n = omega arith in let a = times_other n x xs e in let b = total_one n x xs f in omega arith)
]

all_in : (n : ℕ) (xs : List ℕ) → ((s : ℕ) → 0 < times s xs → s < n) → length xs ≤ total n xs
all_in n [] h = omega arith
all_in n (x ∷ xs) h =
    let a = total_one n x xs (h x (let t = times_same x x xs refl in omega arith)) in
    let b = all_in n xs (λ s m. h s (omega (arith, times_more s x xs))) in omega arith

length_slots : (xs : List Request) → length (slots xs) ≡ length xs
length_slots [] = refl
length_slots (r ∷ xs) = ap (λ n. suc n) (length_slots xs)

past_end : {X : Type 0} (xs : List X) (i : ℕ) (d : X) → length xs ≤ i → slice_index_or xs i d ≡ d
past_end [] i d h = refl
past_end (x ∷ xs) zero d h = absurd (omega arith)
past_end (x ∷ xs) (suc i) d h = past_end xs i d (omega arith)

below_or : (m n : ℕ) → (m < n) ⊎ (n ≤ m)
below_or m n = elim (cases_order m n) [
  | inl e ↦ inr (omega arith)
  | inr e ↦ elim e [ inl f ↦ inl f | inr f ↦ inr (omega arith) ]
]

-- a slot with a link is there
slot_below : (held : Slab Linked) (s c : ℕ) (l : Tie) → links held s c ≡ Some l → s < length held.slots
slot_below held s c l e = elim (below_or s (length held.slots)) [
  | inl f ↦ f
  | inr f ↦ absurd (let g : None ≡ Some l = ap (λ o. option_map seen (stored_in o c)) (sym (past_end held.slots s None f)) ∙ e in cc)
]

short : (held : Slab Linked) (c : ℕ) (xs : List Request) → IsSpelled (links held) c xs → length xs ≤ length held.slots
short held c xs h =
    let a = all_in (length held.slots) (slots xs) (λ s m. let l = has_link (links held) c None xs s h.spells m in slot_below held s c l.0 l.1) in
    let b = total_few (length held.slots) (slots xs) h.once in
    let e = length_slots xs in omega arith

-- the walk gives the list
pub read : (held : Slab Linked) (c : ℕ) (last : Option ℕ) (xs : List Request) → IsList (links held) c last xs
    → walk (links held) c (length held.slots) last ≡ xs
read held c last xs h =
    let few = short held c xs h.spelled in
    ap (walk (links held) c (length held.slots)) (sym h.ends)
    ∙ ap (λ n. walk (links held) c n (end_of None xs)) (let e : length held.slots ≡ length xs + (length held.slots - length xs) = omega arith in e)
    ∙ walk_spells (links held) c xs (length held.slots - length xs) h.spelled.spells

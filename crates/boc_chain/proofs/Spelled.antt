-- What the links of a list say of its requests.
use Rattle.std.proofs.Common.{◌≡◌, ◌≢◌, ℕ, ◌+◌, ◌<◌, ◌≤◌, ◌⊎◌, Bool, true, false, cond, eqb, List, [], ◌∷◌, ◌++◌, refl, sym, ◌∙◌, ap, inl, inr, arith}
use Rattle.std.specs.Prelude.{Option, Some, None, ◌==◌, ◌||◌}
use Rattle.std.specs.Option.{option_map}
use Rattle.std.proofs.lemmas.Bool.Decides.{Decides-eqb}
use Rattle.boc_chain.specs.declared.request.Request.{Request}
use Rattle.boc_chain.specs.Chain.{times, slots, fresh, with_settled, with_flagged}
use Rattle.boc_chain.specs.Links.{Tie, Spells, end_of, next_of}
use Rattle.boc_chain.proofs.Lines.{same_or_not}

-- tests

pub eqb_same : (x y : ℕ) → x ≡ y → eqb x y ≡ true
eqb_same x y e = (Decides-eqb x y).1 e

no_test : (b : Bool) → (b ≡ true → ⊥) → b ≡ false
no_test true h = absurd (h refl)
no_test false h = refl

pub eqb_other : (x y : ℕ) → x ≢ y → eqb x y ≡ false
eqb_other x y n = no_test (eqb x y) (λ e. n ((Decides-eqb x y).0 e))

pub or_false : (b : Bool) → (b || false) ≡ b
or_false true = refl
or_false false = refl

pub or_true : (b : Bool) → (b || true) ≡ true
or_true true = refl
or_true false = refl

-- how often

pub times_same : (s x : ℕ) (ys : List ℕ) → x ≡ s → times s (x ∷ ys) ≡ 1 + times s ys
times_same s x ys e = ap (λ b. cond b 1 0 + times s ys) (eqb_same x s e)

pub times_other : (s x : ℕ) (ys : List ℕ) → x ≢ s → times s (x ∷ ys) ≡ times s ys
times_other s x ys n = ap (λ b. cond b 1 0 + times s ys) (eqb_other x s n) ∙ omega arith

pub times_more : (s x : ℕ) (ys : List ℕ) → times s ys ≤ times s (x ∷ ys)
times_more s x ys = omega arith

pub times_append : (s : ℕ) (xs ys : List ℕ) → times s (xs ++ ys) ≡ times s xs + times s ys
times_append s [] ys = omega arith
times_append s (x ∷ xs) ys = let e = times_append s xs ys in omega arith

pub slots_append : (xs ys : List Request) → slots (xs ++ ys) ≡ slots xs ++ slots ys
slots_append [] ys = refl
slots_append (r ∷ xs) ys = ap (λ zs. r.slot ∷ zs) (slots_append xs ys)

pub slots_settled : (s : ℕ) (xs : List Request) → slots (with_settled s xs) ≡ slots xs
slots_settled s [] = refl
slots_settled s (r ∷ xs) = ap (λ zs. r.slot ∷ zs) (slots_settled s xs)

pub slots_flagged : (s : ℕ) (xs : List Request) → slots (with_flagged s xs) ≡ slots xs
slots_flagged s [] = refl
slots_flagged s (r ∷ xs) = ap (λ zs. r.slot ∷ zs) (slots_flagged s xs)

-- the end

pub end_settled : (b : Option ℕ) (s : ℕ) (xs : List Request) → end_of b (with_settled s xs) ≡ end_of b xs
end_settled b s [] = refl
end_settled b s (r ∷ xs) = end_settled (Some r.slot) s xs

pub end_flagged : (b : Option ℕ) (s : ℕ) (xs : List Request) → end_of b (with_flagged s xs) ≡ end_of b xs
end_flagged b s [] = refl
end_flagged b s (r ∷ xs) = end_flagged (Some r.slot) s xs

pub end_push : (b : Option ℕ) (r : Request) (xs : List Request) → end_of b (xs ++ (r ∷ [])) ≡ Some r.slot
end_push b r [] = refl
end_push b r (x ∷ xs) = end_push (Some x.slot) r xs

-- the end of a list is in it, where it isn't what stands before it
pub end_in : (b : Option ℕ) (s : ℕ) (xs : List Request) → end_of b xs ≡ Some s → (b ≡ Some s) ⊎ (0 < times s (slots xs))
end_in b s [] e = inl e
end_in b s (r ∷ xs) e = elim (end_in (Some r.slot) s xs e) [
  | inl f ↦ inr (let g : r.slot ≡ s = cc in let t = times_same s r.slot (slots xs) g in omega arith)
  | inr t ↦ inr (omega (arith, times_more s r.slot (slots xs)))
]

-- agreement

pub agrees : (link link' : ℕ → ℕ → Option Tie) (c : ℕ) (b : Option ℕ) (xs : List Request) → Spells link c b xs
    → ((s : ℕ) → 0 < times s (slots xs) → link' s c ≡ link s c) → Spells link' c b xs
agrees link link' c b [] s h = s
agrees link link' c b (r ∷ xs) s h = (
  h r.slot (let t = times_same r.slot r.slot (slots xs) refl in omega arith) ∙ s.0,
  agrees link link' c (Some r.slot) xs s.1 (λ t m. h t (omega (arith, times_more t r.slot (slots xs)))),
)

-- each slot of a list has its link
pub has_link : (link : ℕ → ℕ → Option Tie) (c : ℕ) (b : Option ℕ) (xs : List Request) (s : ℕ) → Spells link c b xs → 0 < times s (slots xs)
    → (l : Tie) × (link s c ≡ Some l)
has_link link c b [] s h m = absurd (omega arith)
has_link link c b (r ∷ xs) s h m = elim (same_or_not r.slot s) [
  | inl e ↦ (_, ap (λ n. link n c) (sym e) ∙ h.0)
  | inr n ↦ has_link link c (Some r.slot) xs s h.1 (let t = times_other s r.slot (slots xs) n in omega arith)
]

-- a slot with no link isn't in the list
pub not_there : (link : ℕ → ℕ → Option Tie) (c : ℕ) (b : Option ℕ) (xs : List Request) (s : ℕ) → Spells link c b xs → link s c ≡ None → times s (slots xs) ≡ 0
not_there link c b [] s h e = refl
not_there link c b (r ∷ xs) s h e = elim (same_or_not r.slot s) [
  | inl f ↦ absurd (let g : None ≡ _ = sym e ∙ ap (λ n. link n c) (sym f) ∙ h.0 in cc)
  | inr n ↦ times_other s r.slot (slots xs) n ∙ not_there link c (Some r.slot) xs s h.1 e
]

-- swap

next_push : (s : ℕ) (xs : List Request) → next_of (xs ++ (fresh s ∷ [])) ≡ next_of xs
next_push s [] = refl
next_push s (r ∷ xs) = refl

pub spells_push : (link : ℕ → ℕ → Option Tie) (c : ℕ) (b : Option ℕ) (xs : List Request) (s : ℕ) → Spells link c b xs
    → link s c ≡ Some (record { settled = false; scheduled = false; before = end_of b xs; next = None }) → Spells link c b (xs ++ (fresh s ∷ []))
spells_push link c b [] s h e = (e, tt)
spells_push link c b (r ∷ xs) s h e = (
  h.0 ∙ ap (λ (n : Option ℕ). Some (record { settled = r.settled; scheduled = r.flagged; before = b; next = n })) (sym (next_push s xs)),
  spells_push link c (Some r.slot) xs s h.1 e,
)

-- flag

unfoldable pub flag_link : ℕ → ℕ → Tie → Tie
flag_link s t l = record l { scheduled = l.scheduled || (t == s) }

next_flagged : (s : ℕ) (xs : List Request) → next_of (with_flagged s xs) ≡ next_of xs
next_flagged s [] = refl
next_flagged s (r ∷ xs) = refl

pub spells_flagged : (link link' : ℕ → ℕ → Option Tie) (c : ℕ) (b : Option ℕ) (xs : List Request) (s : ℕ) → Spells link c b xs
    → ((t : ℕ) → link' t c ≡ option_map (flag_link s t) (link t c)) → Spells link' c b (with_flagged s xs)
unfolding flag_link
spells_flagged link link' c b [] s h change = h
spells_flagged link link' c b (r ∷ xs) s h change = (
  change r.slot ∙ ap (option_map (flag_link s r.slot)) h.0
      ∙ ap (λ (n : Option ℕ). Some (record { settled = r.settled; scheduled = r.flagged || (r.slot == s); before = b; next = n })) (sym (next_flagged s xs)),
  spells_flagged link link' c (Some r.slot) xs s h.1 change,
)

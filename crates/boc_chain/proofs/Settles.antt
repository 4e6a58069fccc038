-- How settling a request changes the links, and what leaving does.
use Rattle.std.proofs.Common.{◌≡◌, ◌≢◌, ℕ, zero, suc, ◌+◌, ◌-◌, ◌<◌, ◌≤◌, ◌⊎◌, Bool, true, false, cond, not, eqb, ltb, List, [], ◌∷◌, length, refl, sym, ◌∙◌}
use Rattle.std.proofs.Common.{ap, inl, inr, arith}
use Rattle.std.specs.Prelude.{slice_get, Option, Some, None, position, ◌==◌, ◌||◌}
use Rattle.std.specs.Option.{option_map}
use Rattle.std.specs.List.{position_or_len}
use Rattle.std.proofs.lemmas.Bool.{lt-ltb, le-ltb, ltb-true, ltb-false}
use Rattle.boc_chain.specs.declared.request.Request.{Request}
use Rattle.boc_chain.specs.Chain.{times, slots, before, at_before, with_settled}
use Rattle.boc_chain.specs.Links.{Tie, Spells, next_of}
use Rattle.boc_chain.proofs.Lines.{same_or_not}
use Rattle.boc_chain.proofs.Spelled.{eqb_same, eqb_other, or_false, or_true, times_same, times_other, times_more}

-- the request before the first of slot s, where p stands before the list
unfoldable pub prior : Option Request → ℕ → List Request → Option Request
prior p s [] = None
prior p s (r ∷ xs) = cond (eqb r.slot s) p (prior (Some r) s xs)

at_prior : Option Request → List Request → Option ℕ → Option Request
at_prior p xs None = None
at_prior p xs (Some zero) = p
at_prior p xs (Some (suc k)) = slice_get xs k

step_on : (m n : ℕ) (b : Bool) → ltb m n ≡ b → cond {A = Option ℕ} (ltb (1 + m) (suc n)) (Some (1 + m)) None ≡ option_map (λ k. suc k) (cond b (Some m) None)
step_on m n true e = ap (λ t. cond {A = Option ℕ} t (Some (1 + m)) None) (lt-ltb (1 + m) (suc n) (let f = ltb-true m n e in omega arith))
    ∙ ap (λ (k : ℕ). Some k) (omega arith)
step_on m n false e = ap (λ t. cond {A = Option ℕ} t (Some (1 + m)) None) (le-ltb (1 + m) (suc n) (let f = ltb-false m n e in omega arith))

pub position_step : {X : Type 0} (t : X → Bool) (x : X) (xs : List X) → position t (x ∷ xs) ≡ cond (t x) (Some 0) (option_map (λ n. suc n) (position t xs))
position_step {X} t x xs = elim (t x) as (λ b. cond (ltb (cond (not b) (1 + position_or_len t xs) 0) (length (x ∷ xs)))
    (Some (cond (not b) (1 + position_or_len t xs) 0)) None ≡ cond b (Some 0) (option_map (λ n. suc n) (position t xs))) [
      | true ↦ ap (λ u. cond {A = Option ℕ} u (Some 0) None) (lt-ltb 0 (suc (length xs)) (omega arith))
      | false ↦ step_on (position_or_len t xs) (length xs) (ltb (position_or_len t xs) (length xs)) refl
    ]

at_step : (p : Option Request) (r : Request) (xs : List Request) (o : Option ℕ) → at_prior p (r ∷ xs) (option_map (λ n. suc n) o) ≡ at_prior (Some r) xs o
unfolding at_prior
at_step p r xs None = refl
at_step p r xs (Some zero) = refl
at_step p r xs (Some (suc k)) = refl

prior_at : (p : Option Request) (s : ℕ) (xs : List Request) → prior p s xs ≡ at_prior p xs (position (λ r. r.slot == s) xs)
unfolding prior at_prior
prior_at p s [] = refl
prior_at p s (r ∷ xs) =
    elim (eqb r.slot s) as (λ b. cond b p (prior (Some r) s xs)
    ≡ at_prior p (r ∷ xs) (cond b (Some 0) (option_map (λ n. suc n) (position (λ q. q.slot == s) xs)))) [
      | true ↦ refl
      | false ↦ prior_at (Some r) s xs ∙ sym (at_step p r xs (position (λ q. q.slot == s) xs))
    ]
    ∙ ap (at_prior p (r ∷ xs)) (sym (position_step (λ q. q.slot == s) r xs))

at_same : (xs : List Request) (o : Option ℕ) → at_before xs o ≡ at_prior None xs o
unfolding at_prior
at_same xs None = refl
at_same xs (Some zero) = refl
at_same xs (Some (suc k)) = ap (λ t. cond {A = Option Request} t (slice_get xs (suc k - 1)) None) (lt-ltb 0 (suc k) (omega arith))
    ∙ ap (slice_get xs) (let e : suc k - 1 ≡ k = omega arith in e)

pub before_is : (s : ℕ) (xs : List Request) → before s xs ≡ prior None s xs
before_is s xs = at_same xs (position (λ r. r.slot == s) xs) ∙ sym (prior_at None s xs)

unfoldable pub slot_in : Option Request → Option ℕ
slot_in None = None
slot_in (Some r) = Some r.slot

-- the link says who is before
pub link_before : (link : ℕ → ℕ → Option Tie) (c : ℕ) (p : Option Request) (xs : List Request) (s : ℕ) (l : Tie) → Spells link c (slot_in p) xs
    → 0 < times s (slots xs) → link s c ≡ Some l → l.before ≡ slot_in (prior p s xs)
unfolding prior slot_in
link_before link c p [] s l h m e = absurd (omega arith)
link_before link c p (r ∷ xs) s l h m e = elim (same_or_not r.slot s) [
  | inl f ↦ (let g : Some l ≡ _ = sym e ∙ ap (λ n. link n c) (sym f) ∙ h.0 in
      let k : l.before ≡ slot_in p = cc in k ∙ ap (λ b. slot_in (cond b p (prior (Some r) s xs))) (sym (eqb_same r.slot s f)))
  | inr n ↦ link_before link c (Some r) xs s l h.1 (let t = times_other s r.slot (slots xs) n in omega arith) e
      ∙ ap (λ b. slot_in (cond b p (prior (Some r) s xs))) (sym (eqb_other r.slot s n))
]

-- where the one before is known, its link is too
pub prior_link : (link : ℕ → ℕ → Option Tie) (c : ℕ) (b : Option ℕ) (p : Option Request) (xs : List Request) (s : ℕ) (q : Request) → Spells link c b xs
    → ((r : Request) → p ≡ Some r → (l : Tie) × (link r.slot c ≡ Some l) × (l.scheduled ≡ r.flagged))
    → prior p s xs ≡ Some q → (l : Tie) × (link q.slot c ≡ Some l) × (l.scheduled ≡ q.flagged)
unfolding prior
prior_link link c b p [] s q h k e = absurd (let f : None ≡ Some q = e in cc)
prior_link link c b p (r ∷ xs) s q h k e = elim (same_or_not r.slot s) [
  | inl f ↦ k q (ap (λ t. cond t p (prior (Some r) s xs)) (sym (eqb_same r.slot s f)) ∙ e)
  | inr n ↦ prior_link link c (Some r.slot) (Some r) xs s q h.1
      (λ r2 f. let g : r ≡ r2 = cc in (_, ap (λ (t : Request). link t.slot c) (sym g) ∙ h.0, ap (λ (t : Request). t.flagged) g))
      (ap (λ t. cond t p (prior (Some r) s xs)) (sym (eqb_other r.slot s n)) ∙ e)
]

-- with one before the list, some is found
pub prior_some : (r : Request) (xs : List Request) (s : ℕ) → 0 < times s (slots xs) → (q : Request) × (prior (Some r) s xs ≡ Some q)
unfolding prior
prior_some r [] s m = absurd (omega arith)
prior_some r (x ∷ xs) s m = elim (same_or_not x.slot s) [
  | inl f ↦ (r, ap (λ t. cond t (Some r) (prior (Some x) s xs)) (eqb_same x.slot s f))
  | inr n ↦ (let k = prior_some x xs s (let t = times_other s x.slot (slots xs) n in omega arith) in
      (k.0, ap (λ t. cond t (Some r) (prior (Some x) s xs)) (eqb_other x.slot s n) ∙ k.1))
]

-- who is found stands before the list or in it
pub prior_in : (p : Option Request) (xs : List Request) (s : ℕ) (q : Request) → prior p s xs ≡ Some q → (p ≡ Some q) ⊎ (0 < times q.slot (slots xs))
unfolding prior
prior_in p [] s q e = absurd (let f : None ≡ Some q = e in cc)
prior_in p (r ∷ xs) s q e = elim (same_or_not r.slot s) [
  | inl f ↦ inl (ap (λ t. cond t p (prior (Some r) s xs)) (sym (eqb_same r.slot s f)) ∙ e)
  | inr n ↦ elim (prior_in (Some r) xs s q (ap (λ t. cond t p (prior (Some r) s xs)) (sym (eqb_other r.slot s n)) ∙ e)) [
    | inl f ↦ inr (let g : r ≡ q = cc in let t = times_same q.slot r.slot (slots xs) (ap (λ (z : Request). z.slot) g) in omega arith)
    | inr t ↦ inr (omega (arith, times_more q.slot r.slot (slots xs)))
  ]
]

-- the links after s settled behind q

unfoldable pub is_slot : Option ℕ → ℕ → Bool
is_slot None t = false
is_slot (Some q) t = eqb t q

unfoldable pub settle_link : ℕ → Option ℕ → ℕ → Tie → Tie
settle_link s q t l = record l { settled = l.settled || (t == s); next = cond (is_slot q t) (Some s) l.next }

-- the link of one request after it
settled_head : (link link' : ℕ → ℕ → Option Tie) (c s : ℕ) (q b n : Option ℕ) (r : Request) (xs : List Request)
    → link r.slot c ≡ Some (record { settled = r.settled; scheduled = r.flagged; before = b; next = next_of xs })
    → link' r.slot c ≡ option_map (settle_link s q r.slot) (link r.slot c) → cond (is_slot q r.slot) (Some s) (next_of xs) ≡ n
    → link' r.slot c ≡ Some (record { settled = r.settled || (r.slot == s); scheduled = r.flagged; before = b; next = n })
unfolding settle_link
settled_head link link' c s q b n r xs h change e =
    change ∙ ap (option_map (settle_link s q r.slot)) h ∙ ap
    (λ (m : Option ℕ). Some (record { settled = r.settled || (r.slot == s); scheduled = r.flagged; before = b; next = m })) e

next_settled : (s : ℕ) (xs : List Request) → times s (slots (xs)) ≡ 0 → next_of (with_settled s xs) ≡ next_of xs
next_settled s [] h = refl
next_settled s (r ∷ xs) h = ap (λ b. cond b (Some r.slot) None)
    (ap (λ t. r.settled || t) (eqb_other r.slot s (λ e. let t = times_same s r.slot (slots xs) e in absurd (omega arith))) ∙ or_false r.settled)

-- where nobody in the list is before s
pub spells_first : (link link' : ℕ → ℕ → Option Tie) (c s : ℕ) (q b : Option ℕ) (r : Request) (xs : List Request) → Spells link c b (r ∷ xs)
    → times s (slots xs) ≡ 0 → ((t : ℕ) → 0 < times t (slots (r ∷ xs)) → is_slot q t ≡ false)
    → ((t : ℕ) → link' t c ≡ option_map (settle_link s q t) (link t c)) → Spells link' c b (with_settled s (r ∷ xs))
spells_first link link' c s q b r [] h none out change = (
  settled_head link link' c s q b None r [] h.0 (change r.slot)
      (ap (λ t. cond t (Some s) None) (out r.slot (let t = times_same r.slot r.slot [] refl in omega arith))),
  tt,
)
spells_first link link' c s q b r (x ∷ xs) h none out change = (
  settled_head link link' c s q b (next_of (with_settled s (x ∷ xs))) r (x ∷ xs) h.0 (change r.slot)
      (ap (λ t. cond t (Some s) (next_of (x ∷ xs))) (out r.slot (let t = times_same r.slot r.slot (slots (x ∷ xs)) refl in omega arith))
      ∙ sym (next_settled s (x ∷ xs) none)),
  spells_first link link' c s q (Some r.slot) x xs h.1 (omega arith) (λ t m. out t (omega arith)) change,
)

-- where q, which is p or in the list, is before s
pub spells_behind : (link link' : ℕ → ℕ → Option Tie) (c s : ℕ) (q : Request) (b : Option ℕ) (p : Request) (xs : List Request) → Spells link c b (p ∷ xs)
    → ((t : ℕ) → times t (slots (p ∷ xs)) ≤ 1)
    → 0 < times s (slots xs) → prior (Some p) s xs ≡ Some q → ((t : ℕ) → link' t c ≡ option_map (settle_link s (Some q.slot) t) (link t c))
    → Spells link' c b (with_settled s (p ∷ xs))
unfolding prior is_slot
spells_behind link link' c s q b p [] h once m e change = absurd (omega arith)
spells_behind link link' c s q b p (r ∷ xs) h once m e change = elim (same_or_not r.slot s) [
  | inl f ↦
      let g : Some p ≡ Some q = ap (λ t. cond t (Some p) (prior (Some r) s xs)) (sym (eqb_same r.slot s f)) ∙ e in
      let pq : p.slot ≡ q.slot = cc in (
        settled_head link link' c s (Some q.slot) b (next_of (with_settled s (r ∷ xs))) p (r ∷ xs) h.0 (change p.slot)
            (ap (λ t. cond t (Some s) (next_of (r ∷ xs))) (eqb_same p.slot q.slot pq)
            ∙ ap (λ (n : ℕ). Some n) (sym f) ∙ ap (λ t. cond t (Some r.slot) None) (sym (ap (λ t. r.settled || t) (eqb_same r.slot s f) ∙ or_true r.settled))),
        spells_first link link' c s (Some q.slot) (Some p.slot) r xs h.1 (let t = times_same s r.slot (slots xs) f in let o = once s in omega arith)
            (λ t k. eqb_other t q.slot (λ z. let o = once t in let y = times_same t p.slot (slots (r ∷ xs)) (pq ∙ sym z) in absurd (omega arith))) change,
      )
  | inr n ↦
      let g : prior (Some r) s xs ≡ Some q = ap (λ t. cond t (Some p) (prior (Some r) s xs)) (sym (eqb_other r.slot s n)) ∙ e in
      let inside : 0 < times q.slot (slots (r ∷ xs)) = elim (prior_in (Some r) xs s q g) [
        | inl f ↦ (let y : r ≡ q = cc in let t = times_same q.slot r.slot (slots xs) (ap (λ (z : Request). z.slot) y) in omega arith)
        | inr t ↦ omega (arith, times_more q.slot r.slot (slots xs))
      ] in
      let apart : p.slot ≢ q.slot = λ z. let o = once q.slot in let y = times_same q.slot p.slot (slots (r ∷ xs)) z in absurd (omega arith) in (
        settled_head link link' c s (Some q.slot) b (next_of (with_settled s (r ∷ xs))) p (r ∷ xs) h.0 (change p.slot)
            (ap (λ t. cond t (Some s) (next_of (r ∷ xs))) (eqb_other p.slot q.slot apart)
            ∙ ap (λ t. cond t (Some r.slot) None) (sym (ap (λ t. r.settled || t) (eqb_other r.slot s n) ∙ or_false r.settled))),
        spells_behind link link' c s q (Some p.slot) r xs h.1 (λ t. let o = once t in omega (arith, times_more t p.slot (slots (r ∷ xs))))
            (let t = times_other s r.slot (slots xs) n in omega arith) g change,
      )
]

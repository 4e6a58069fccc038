-- Who comes right before a behaviour in a list.
use Rattle.std.proofs.Common.{◌≡◌, ◌≢◌, ℕ, ◌<◌, ◌≤◌, ◌⊎◌, inl, inr, true, false, cond, eqb, List, [], ◌∷◌, ◌++◌, refl, sym, ◌∙◌, ap, subst, arith}
use Rattle.std.specs.Prelude.{Option, Some, None}
use Rattle.boc_machine_laws.proofs.Lists.{same_or_not}
use Rattle.boc_chain.specs.declared.request.Request.{Request}
use Rattle.boc_chain.specs.declared.request.Settled.TheVariants.{Lone, Linked, Blocked}
use Rattle.boc_chain.specs.Chain.{times, slots, before, answer_behind, settled_behind, with_settled}
use Rattle.boc_chain.proofs.Settles.{prior, before_is}
use Rattle.boc_chain.proofs.Spelled.{eqb_same, eqb_other, times_same, times_other}

-- a request of this slot is first in the list
pub record IsFront (slot : ℕ) (q : List Request) : Type 0 where
  pub this : Request
  pub rest : List Request
  pub is : q ≡ this ∷ rest
  pub slot_is : this.slot ≡ slot

-- a request of this slot comes right after another
pub record IsBehind (r : Request) (slot : ℕ) (q : List Request) : Type 0 where
  pub ahead : List Request
  pub this : Request
  pub behind : List Request
  pub is : q ≡ ahead ++ (r ∷ (this ∷ behind))
  pub slot_is : this.slot ≡ slot

prior_some : (r : Request) (slot : ℕ) (q : List Request) → 0 < times slot (slots q) → (x : Request) × (prior (Some r) slot q ≡ Some x)
unfolding prior
prior_some r slot [] h = absurd (omega arith)
prior_some r slot (x ∷ q) h =
    elim (same_or_not x.slot slot) [
      | inl e ↦ (r, ap (λ b. cond b (Some r) (prior (Some x) slot q)) (eqb_same x.slot slot e))
      | inr n ↦
          let rest = prior_some x slot q (let t = times_other slot x.slot (slots q) n in omega arith) in
          (rest.0, ap (λ b. cond b (Some r) (prior (Some x) slot q)) (eqb_other x.slot slot n) ∙ rest.1)
    ]

prior_none : (slot : ℕ) (q : List Request) → 0 < times slot (slots q) → prior None slot q ≡ None → IsFront slot q
unfolding prior
prior_none slot [] h e = absurd (omega arith)
prior_none slot (x ∷ q) h e =
    elim (same_or_not x.slot slot) [
      | inl f ↦ record { this = x; rest = q; is = refl; slot_is = f }
      | inr n ↦
          let rest = prior_some x slot q (let t = times_other slot x.slot (slots q) n in omega arith) in
          let f : None ≡ Some rest.0 = sym e ∙ ap (λ b. cond b None (prior (Some x) slot q)) (eqb_other x.slot slot n) ∙ rest.1 in
          absurd cc
    ]

prior_behind : (p : Option Request) (slot : ℕ) (q : List Request) (r : Request) → 0 < times slot (slots q) → prior p slot q ≡ Some r
    → ((p ≡ Some r) × IsFront slot q) ⊎ IsBehind r slot q
unfolding prior
prior_behind p slot [] r h e = absurd (omega arith)
prior_behind p slot (x ∷ q) r h e =
    elim (same_or_not x.slot slot) [
      | inl f ↦ inl (sym (ap (λ b. cond b p (prior (Some x) slot q)) (eqb_same x.slot slot f)) ∙ e, record { this = x; rest = q; is = refl; slot_is = f })
      | inr n ↦
          elim (prior_behind (Some x) slot q r (let t = times_other slot x.slot (slots q) n in omega arith)
          (sym (ap (λ b. cond b p (prior (Some x) slot q)) (eqb_other x.slot slot n)) ∙ e)) [
            | inl u ↦
                let same : x ≡ r = (let f : Some x ≡ Some r = u.0 in cc) in
                inr (record { ahead = []; this = u.1.this; behind = u.1.rest; is = ap (λ z. z ∷ q) same ∙ ap (λ z. r ∷ z) u.1.is; slot_is = u.1.slot_is })
            | inr u ↦ inr (record { ahead = x ∷ u.ahead; this = u.this; behind = u.behind; is = ap (λ z. x ∷ z) u.is; slot_is = u.slot_is })
          ]
    ]

pub stands_behind : (slot : ℕ) (ahead : List Request) (r x : Request) (behind : List Request) → x.slot ≡ slot
    → 0 < times slot (slots (ahead ++ (r ∷ (x ∷ behind))))
stands_behind slot [] r x behind e =
    let m = times_same slot x.slot (slots behind) e in omega arith
stands_behind slot (y ∷ ahead) r x behind e = omega (arith, stands_behind slot ahead r x behind e)

prior_split : (p : Option Request) (slot : ℕ) (ahead : List Request) (r x : Request) (behind : List Request) → x.slot ≡ slot
    → times slot (slots (ahead ++ (r ∷ (x ∷ behind)))) ≤ 1 → prior p slot (ahead ++ (r ∷ (x ∷ behind))) ≡ Some r
unfolding prior
prior_split p slot [] r x behind e one =
    let m = times_same slot x.slot (slots behind) e in
    let n : r.slot ≢ slot = (λ f. let t = times_same slot r.slot (x.slot ∷ slots behind) f in absurd (omega arith)) in
    ap (λ b. cond b p (cond (eqb x.slot slot) (Some r) (prior (Some x) slot behind))) (eqb_other r.slot slot n)
    ∙ ap (λ b. cond b (Some r) (prior (Some x) slot behind)) (eqb_same x.slot slot e)
prior_split p slot (y ∷ ahead) r x behind e one =
    let q = ahead ++ (r ∷ (x ∷ behind)) in
    let n : y.slot ≢ slot = (λ f. let t = times_same slot y.slot (slots q) f in let h = stands_behind slot ahead r x behind e in absurd (omega arith)) in
    ap (λ b. cond b p (prior (Some y) slot q)) (eqb_other y.slot slot n)
    ∙ prior_split (Some y) slot ahead r x behind e (let t = times_other slot y.slot (slots q) n in omega arith)

-- ---- of a slot that stands once in a list

module _ (slot : ℕ) (q : List Request) (there : 0 < times slot (slots q)) (once : times slot (slots q) ≤ 1) where
  pub none_before : before slot q ≡ None → IsFront slot q
  none_before e = prior_none slot q there (sym (before_is slot q) ∙ e)

  pub one_before : (r : Request) → before slot q ≡ Some r → IsBehind r slot q
  one_before r e =
      elim (prior_behind None slot q r there (sym (before_is slot q) ∙ e)) [
        | inl u ↦ absurd (let f : None ≡ Some r = u.0 in cc)
        | inr u ↦ u
      ]

  pub before_split : (ahead : List Request) (r x : Request) (behind : List Request) → q ≡ ahead ++ (r ∷ (x ∷ behind)) → x.slot ≡ slot → before slot q ≡ Some r
  before_split ahead r x behind e same =
      before_is slot q ∙ ap (prior None slot) e
      ∙ prior_split None slot ahead r x behind same (subst (λ (z : List Request). times slot (slots z) ≤ 1) e once)

-- ---- what settling answers

-- whoever comes before, if anyone, is flagged
abbrev pub IsFree : Option Request → Type 0
IsFree None = Unit {0}
IsFree (Some r) = r.flagged ≡ true

pub lone_none : (b : Option Request) → Lone ≡ answer_behind b → b ≡ None
lone_none None e = refl
lone_none (Some r) e = elim r.flagged as (λ x. Lone ≡ cond x Linked Blocked → Some r ≡ None) [
  | true ↦ λ f. absurd cc
  | false ↦ λ f. absurd cc
] e

pub linked_some : (b : Option Request) → Linked ≡ answer_behind b → (r : Request) × (b ≡ Some r) × (r.flagged ≡ true)
linked_some None e = absurd cc
linked_some (Some r) e = (
  r,
  refl,
  elim r.flagged as (λ x. Linked ≡ cond x Linked Blocked → x ≡ true) [
    | true ↦ λ f. refl
    | false ↦ λ f. absurd cc
  ] e,
)

pub blocked_some : (b : Option Request) → Blocked ≡ answer_behind b → (r : Request) × (b ≡ Some r) × (r.flagged ≡ false)
blocked_some None e = absurd cc
blocked_some (Some r) e = (
  r,
  refl,
  elim r.flagged as (λ x. Blocked ≡ cond x Linked Blocked → x ≡ false) [
    | true ↦ λ f. absurd cc
    | false ↦ λ f. refl
  ] e,
)

pub free_list : (b : Option Request) (slot : ℕ) (q : List Request) → IsFree b → settled_behind b slot q ≡ with_settled slot q
free_list None slot q h = refl
free_list (Some r) slot q h = ap (λ x. cond x (with_settled slot q) q) h

pub blocked_list : (r : Request) (slot : ℕ) (q : List Request) → r.flagged ≡ false → settled_behind (Some r) slot q ≡ q
blocked_list r slot q h = ap (λ x. cond x (with_settled slot q) q) h

-- Each cown that a `when` comes to is one that it names, or one that the behaviour holds.
use Rattle.std.proofs.Common.{◌≡◌, ◌⊎◌, ℕ, ◌+◌, ◌-◌, ◌<◌, inl, inr, refl, List, [], ◌∷◌, length, map, ap, sym, subst, arith, IsTrue, Bool, true, false}
use Rattle.std.proofs.Common.{ℤ, pos, negsuc, Ok, Err}
use Rattle.std.specs.Prelude.{nat_lt, nat_le, if◌then◌else◌}
use Rattle.std.specs.List.{list_any}
use Rattle.std.proofs.lemmas.Bool.Decides.{nat_tests}
use Rattle.boc_program.specs.declared.body.EndStatus.TheVariants.{OutOfRange}
use Rattle.boc_program.specs.Syntax.{SlotExpr, Number, Slot, Negate, Binary, CownRef, Held, Single, Member}
use Rattle.boc_program.specs.Value.{OrFault, value, then_value}
use Rattle.boc_program.specs.Meaning.{State, member, cown_of, cowns_of}
use Rattle.boc_program.specs.Resolved.{every}
use Rattle.boc_program.specs.Signatures.{ref_below}
use Rattle.boc_program.proofs.Truth.{and_true}
use Rattle.boc_runs.specs.machine.Queues.{times}
use Rattle.boc_footprints.specs.Whens.{may_be, may_name}
use Rattle.boc_footprints.proofs.Truths.{both_true, or_left, or_right}
use Rattle.boc_footprints.proofs.Listed.{times_first_or_later, times_at}

-- the index of the member that a reference comes to
record Indexed (o : OrFault ℤ) (first size c : ℕ) : Type 0 where
  index : ℕ
  is : Ok (pos index) ≡ o
  small : index < size
  same : c ≡ first + index

indexed_if : (b : Bool) (first size i c : ℕ) → nat_lt i size ≡ b → Ok c ≡ (let r : OrFault ℕ = if b then Ok (first + i) else Err OutOfRange in r)
    → Indexed (Ok (pos i)) first size c
indexed_if true first size i c t e = record { index = i; is = refl; small = grind (arith, nat_tests); same = cc }
indexed_if false first size i c t e = absurd cc

indexed : (o : OrFault ℤ) (first size c : ℕ) → Ok c ≡ then_value o (member first size) → Indexed o first size c
indexed (Err f) first size c e = absurd cc
indexed (Ok (pos i)) first size c e = indexed_if (nat_lt i size) first size i c refl e
indexed (Ok (negsuc i)) first size c e = absurd cc

may_be_value : (index : SlotExpr) (slots : List ℤ) (i : ℕ) → Ok (pos i) ≡ value index slots → IsTrue (may_be i index)
may_be_value (Number (pos n)) slots i e = let same : i ≡ n = cc in grind (arith, nat_tests)
may_be_value (Number (negsuc n)) slots i e = absurd cc
may_be_value (Slot slot) slots i e = refl
may_be_value (Negate x) slots i e = refl
may_be_value (Binary op a b) slots i e = refl

at_or_after : (first index : ℕ) → IsTrue (nat_le first (first + index))
at_or_after first index = grind (arith, nat_tests)

before_end : (size index n : ℕ) → n ≡ index → index < size → IsTrue (nat_lt n size)
before_end size index n e h = grind (arith, nat_tests)

member_named : (first size c : ℕ) (index : SlotExpr) (slots : List ℤ) → Indexed (value index slots) first size c → IsTrue (may_name c (Member first size index))
member_named first size c index slots r =
    let i : ℕ = r.index in
    let back : (first + i) - first ≡ i = omega arith in
    subst (λ d. IsTrue (may_name d (Member first size index))) (sym r.same)
    (both_true _ _ (both_true _ _ (at_or_after first i) (before_end size i ((first + i) - first) back r.small))
    (subst (λ k. IsTrue (may_be k index)) (sym back) (may_be_value index slots i r.is)))

-- the cown that a reference stands for
ref_named : (r : CownRef) (s : State) (n c : ℕ) → IsTrue (ref_below (length s.held) n r) → Ok c ≡ cown_of r s
    → IsTrue (may_name c r) ⊎ (0 < times c s.held)
ref_named (Held i) s n c t e = inr (times_at s.held i c (grind (arith, nat_tests)) cc)
ref_named (Single cown) s n c t e = let same : c ≡ cown = cc in inl (grind (arith, nat_tests))
ref_named (Member first size index) s n c t e = inl (member_named first size c index s.slots (indexed (value index s.slots) first size c e))

abbrev Named : List CownRef → State → ℕ → Type 0
Named rs s c = IsTrue (list_any (may_name c) rs) ⊎ (0 < times c s.held)

refs_cons : (o : OrFault ℕ) (p : OrFault (List ℕ)) (c : ℕ) (cs : List ℕ) (P : Type 0) → (Ok c ≡ o → P) → ((ds : List ℕ) → Ok ds ≡ p → 0 < times c ds → P)
    → Ok cs ≡ then_value o (λ d. then_value p (λ ds. Ok (d ∷ ds))) → 0 < times c cs → P
refs_cons (Err f) p c cs P h g e t = absurd cc
refs_cons (Ok d) (Err f) c cs P h g e t = absurd cc
refs_cons (Ok d) (Ok ds) c cs P h g e t =
    let same : cs ≡ d ∷ ds = cc in
    elim (times_first_or_later c d ds (subst (λ xs. 0 < times c xs) same t)) as (λ _. P) [
      | inl is ↦ h (ap Ok (sym is))
      | inr later ↦ g ds refl later
    ]

-- the cowns of several, each of which is named or held
pub refs_named : (rs : List CownRef) (s : State) (n c : ℕ) (cs : List ℕ) → IsTrue (every (map (ref_below (length s.held) n) rs)) → Ok cs ≡ cowns_of rs s
    → 0 < times c cs → Named rs s c
refs_named [] s n c cs t e h =
    let same : cs ≡ [] = cc in absurd (omega (arith, subst (λ xs. 0 < times c xs) same h))
refs_named (r ∷ rs) s n c cs t e h =
    let both = and_true (ref_below (length s.held) n r) (every (map (ref_below (length s.held) n) rs)) t in
    let first : Ok c ≡ cown_of r s → Named (r ∷ rs) s c = λ is. elim (ref_named r s n c both.0 is) [
      | inl named ↦ inl (or_left (may_name c r) (list_any (may_name c) rs) named)
      | inr held ↦ inr held
    ] in
    let later : (ds : List ℕ) → Ok ds ≡ cowns_of rs s → 0 < times c ds → Named (r ∷ rs) s c = λ ds is among. elim (refs_named rs s n c ds both.1 is among) [
      | inl named ↦ inl (or_right (may_name c r) (list_any (may_name c) rs) named)
      | inr held ↦ inr held
    ] in
    refs_cons (cown_of r s) (cowns_of rs s) c cs (Named (r ∷ rs) s c) first later e h

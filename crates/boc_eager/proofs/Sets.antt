-- Sets as an element comes or goes.
use Rattle.std.proofs.Common.{◌≡◌, ◌<◌, ◌⊎◌, ℕ, List, [], ◌∷◌, Some, None, Option, subst, sym, refl, inl, inr, arith}
use Rattle.std.specs.Prelude.{IfSome, All}
use Rattle.std.specs.List.{Contains}
use Rattle.std.specs.declared.cmp.Ordering.{Ordering}
use Rattle.std.specs.declared.cmp.Ordering.TheVariants.{Less, Equal, Greater}
use Rattle.std.specs.Ordering.{nat_cmp, ordering_then, match_ordering}
use Rattle.std.specs.BTreeSet.{BTreeSet, insert_key}
use Rattle.std.specs.BTreeMap.Range.{IsLtBy}
use Rattle.std.proofs.lemmas.Bool.Decides.{nat_tests}
use Rattle.std.proofs.lemmas.List.Elements.{All-contains}
use Rattle.std.proofs.lemmas.Map.Lookups.{CmpEqualImpliesEq, exact_pairs, exact_unsigned}
use Rattle.boc_order.proofs.Remembering.{contains_head, contains_tail, contains_cases}
use Rattle.boc_eager.specs.declared.line.Line.{Line}
use Rattle.boc_eager.specs.Lines.{Adds, IsLeft}

-- an element that comes in front
pub adds_head : {K : Type 0} (ks : List K) (k : K) → Adds ks (k ∷ ks) k
adds_head ks k = record {
  here = contains_head k ks;
  stays = λ y m. contains_tail k y ks m;
  was = λ y m. elim (contains_cases k y ks m) [ inl e ↦ inl (sym e) | inr o ↦ inr o ];
}

module _ {K : Type 0} (cmp : K → K → Ordering) (exact : CmpEqualImpliesEq cmp) where
  -- an element that comes to its place
  pub adds_key : (ks : List K) (k : K) → Adds ks (insert_key cmp ks k) k
  adds_key [] k = adds_head [] k
  adds_key (x ∷ xs) k = by_order (adds_key xs k) (cmp k x) refl
    where
      by_order : Adds xs (insert_key cmp xs k) k → (o : Ordering) → cmp k x ≡ o
          → Adds (x ∷ xs) (match_ordering (cmp k x) (k ∷ x ∷ xs) (x ∷ xs) (x ∷ insert_key cmp xs k)) k
      by_order a Less e = rw e (adds_head (x ∷ xs) k)
      by_order a Equal e =
          let same : k ≡ x = exact k x e in
          rw e (record {
            here = subst (λ (y : K). Contains (x ∷ xs) y) (sym same) (contains_head x xs);
            stays = λ y m. m;
            was = λ y m. inr m;
          })
      by_order a Greater e =
          rw e (record {
            here = contains_tail x k _ a.here;
            stays = λ y m. elim (contains_cases x y xs m) [
              | inl s ↦ subst (λ (z : K). Contains (x ∷ insert_key cmp xs k) z) s (contains_head x _)
              | inr o ↦ contains_tail x y _ (a.stays y o)
            ];
            was = λ y m. elim (contains_cases x y _ m) [
              | inl s ↦ inr (subst (λ (z : K). Contains (x ∷ xs) z) s (contains_head x xs))
              | inr o ↦ elim (a.was y o) [ inl s ↦ inl s | inr w ↦ inr (contains_tail x y xs w) ]
            ];
          })

pub adds_number : (ks : List ℕ) (k : ℕ) → Adds ks (insert_key nat_cmp ks k) k
adds_number = adds_key nat_cmp exact_unsigned

-- keys of two numbers, by the first and then by the second
abbrev pub pair_order : ℕ × ℕ → ℕ × ℕ → Ordering
pair_order x y = ordering_then (nat_cmp x.0 y.0) (nat_cmp x.1 y.1)

pub adds_pair : (ks : List (ℕ × ℕ)) (k : ℕ × ℕ) → Adds ks (insert_key pair_order ks k) k
adds_pair = adds_key pair_order (exact_pairs nat_cmp nat_cmp exact_unsigned exact_unsigned)

above_number : (x y : ℕ) → IsLtBy nat_cmp x y → x < y
above_number x y h = grind (arith, nat_tests)

pub above_pair : (x y : ℕ × ℕ) → IsLtBy pair_order x y → (x.0 < y.0) ⊎ ((x.0 ≡ y.0) × (x.1 < y.1))
above_pair x y h = grind (arith, nat_tests)

-- the row in front went, and the first of those behind stands there
pub left_front : (old : Line) (behind : BTreeSet ℕ) (row : ℕ) → old.front ≡ Some row → (o : Option ℕ) → IfSome o (λ k. old.behind.keys ≡ k ∷ behind.keys)
    → IfSome o (λ k. All (IsLtBy nat_cmp k) behind.keys) → IfSome o (IsLeft old (record { front = o; behind = behind }) row)
left_front old behind row was None removal above = removal
left_front old behind row was (Some k) removal above = record {
  was_front = was;
  front = refl;
  was_behind = rw removal (contains_head k behind.keys);
  lowest = λ r m. above_number k r (All-contains (IsLtBy nat_cmp k) behind.keys r above m);
  stays = λ r m. elim (contains_cases k r behind.keys (subst (λ (ks : List ℕ). Contains ks r) removal m)) [ inl e ↦ inl (sym e) | inr o ↦ inr o ];
  was = λ r m. rw removal (contains_tail k r behind.keys m);
}

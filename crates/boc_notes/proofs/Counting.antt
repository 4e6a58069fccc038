-- Those of some numbers of which something holds.
use Rattle.std.proofs.Common.{◌≡◌, ◌∙◌, ℕ, zero, suc, ◌+◌, Bool, true, false, cond, List, [], ◌∷◌, ◌++◌, ap, sym, arith}
use Rattle.std.specs.Prelude.{filter}
use Rattle.std.specs.List.{range_with_len}
use Rattle.std.proofs.lemmas.List.{append-nil}
use Rattle.std.proofs.lemmas.List.Elements.{filter-append}

range_more : (a n : ℕ) → range_with_len a (suc n) ≡ range_with_len a n ++ (a + n) ∷ []
range_more a zero = ap (λ (k : ℕ). k ∷ []) (omega arith)
range_more a (suc n) =
    ap (λ (l : List ℕ). a ∷ l) (range_more (a + 1) n ∙ ap (λ (k : ℕ). range_with_len (a + 1) n ++ k ∷ []) (let e : (a + 1) + n ≡ a + suc n = omega arith in e))

pub those_more : (is : ℕ → Bool) (n : ℕ) → filter is (range_with_len 0 (n + 1)) ≡ filter is (range_with_len 0 n) ++ cond (is n) (n ∷ []) []
those_more is n =
    ap (λ (k : ℕ). filter is (range_with_len 0 k)) (let e : n + 1 ≡ suc n = omega arith in e)
    ∙ ap (filter is) (range_more 0 n ∙ ap (λ (k : ℕ). range_with_len 0 n ++ k ∷ []) (let e : 0 + n ≡ n = omega arith in e))
    ∙ filter-append is (range_with_len 0 n) (n ∷ [])

-- one more, of which it holds
pub those_with : (is : ℕ → Bool) (n : ℕ) (now next : List ℕ) → now ≡ filter is (range_with_len 0 n) → is n ≡ true → next ≡ now ++ n ∷ []
    → next ≡ filter is (range_with_len 0 (n + 1))
those_with is n now next before holds put =
    put ∙ ap (λ (l : List ℕ). l ++ n ∷ []) before
    ∙ sym (those_more is n ∙ ap (λ (b : Bool). filter is (range_with_len 0 n) ++ cond b (n ∷ []) []) holds)

-- one more, of which it doesn't
pub those_without : (is : ℕ → Bool) (n : ℕ) (now next : List ℕ) → now ≡ filter is (range_with_len 0 n) → is n ≡ false → next ≡ now
    → next ≡ filter is (range_with_len 0 (n + 1))
those_without is n now next before fails same =
    same ∙ before
    ∙ sym (those_more is n ∙ ap (λ (b : Bool). filter is (range_with_len 0 n) ++ cond b (n ∷ []) []) fails ∙ append-nil (filter is (range_with_len 0 n)))

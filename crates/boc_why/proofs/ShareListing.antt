-- The shares of the keys of a chain, gathered by key.
use Rattle.std.proofs.Common.{◌≡◌, ℕ, ◌+◌, ◌<◌, ◌≤◌, List, [], ◌∷◌, ◌++◌, length, arith, subst, ⊎_elim, Some}
use Rattle.std.specs.Prelude.{slice_get}
use Rattle.std.specs.List.{Contains}
use Rattle.std.proofs.lemmas.Bool.{cases_lt}
use Rattle.std.proofs.lemmas.List.{length_push}
use Rattle.std.proofs.lemmas.Option.{slice_get_within}
use Rattle.boc_why.specs.declared.shares.Share.{Share}
use Rattle.boc_why.specs.Shares.{IsShare}
use Rattle.boc_why.specs.ShareTotals.{ListShares}
use Rattle.boc_order.proofs.Places.{pushed_cases, pushed_kept, pushed_last}

-- the share of this key stands among these
pub record HasShareOf (shares : List Share) (key : ℕ) : Type 0 where
  pub place : ℕ
  pub share : Share
  pub there : slice_get shares place ≡ Some share
  pub same : share.key ≡ key

-- the shares of the keys below n, rising by key
pub record SharesBelow (keys weights : List ℕ) (n : ℕ) (shares : List Share) : Type 0 where
  pub each : (i : ℕ) (share : Share) → slice_get shares i ≡ Some share → IsShare keys weights share × (share.key < n)
  pub all : (key : ℕ) → key < n → Contains keys key → HasShareOf shares key
  pub rise : (i j : ℕ) (a b : Share) → i < j → slice_get shares i ≡ Some a → slice_get shares j ≡ Some b → a.key < b.key

module _ (keys weights : List ℕ) where
  pub below_none : SharesBelow keys weights 0 []
  below_none = record {
    each = λ i share is. absurd (omega (arith, slice_get_within [] i share is));
    all = λ key h stands. absurd (omega (arith, h));
    rise = λ i j a b l ia ib. absurd (omega (arith, slice_get_within [] i a ia));
  }

  -- the next key has a share
  pub below_more : (n : ℕ) (shares : List Share) (share : Share) → SharesBelow keys weights n shares → IsShare keys weights share → share.key ≡ n
      → SharesBelow keys weights (n + 1) (shares ++ share ∷ [])
  below_more n shares share so is key = record {
    each = λ i s at. ⊎_elim
        (λ (l : (i < length shares) × (slice_get shares i ≡ Some s)). let e = so.each i s l.1 in (e.0, omega (arith, e.1)))
        (λ (last : (i ≡ length shares) × (share ≡ s)). subst (λ (x : Share). IsShare keys weights x × (x.key < n + 1)) last.1 (is, omega arith))
        (pushed_cases shares share i s at);
    all = λ k h stands. ⊎_elim
        (λ (b : k < n). let old = so.all k b stands in
        record { place = old.place; share = old.share; there = pushed_kept shares share old.place old.share old.there; same = old.same })
        (λ (g : n ≤ k). record { place = length shares; share = share; there = pushed_last shares share; same = omega arith })
        (cases_lt k n);
    rise = λ i j a b l ia ib. ⊎_elim
        (λ (p : (i < length shares) × (slice_get shares i ≡ Some a)). ⊎_elim
        (λ (q : (j < length shares) × (slice_get shares j ≡ Some b)). so.rise i j a b l p.1 q.1)
        (λ (q : (j ≡ length shares) × (share ≡ b)). subst (λ (x : Share). a.key < x.key) q.1 (omega (arith, (so.each i a p.1).1)))
        (pushed_cases shares share j b ib))
        (λ (p : (i ≡ length shares) × (share ≡ a)). absurd (omega (arith, length_push shares share, slice_get_within (shares ++ share ∷ []) j b ib)))
        (pushed_cases shares share i a ia);
  }

  -- the next key has none
  pub below_same : (n : ℕ) (shares : List Share) → SharesBelow keys weights n shares → (Contains keys n → ⊥) → SharesBelow keys weights (n + 1) shares
  below_same n shares so none = record {
    each = λ i s at. let e = so.each i s at in (e.0, omega (arith, e.1));
    all = λ k h stands. ⊎_elim
        (λ (b : k < n). so.all k b stands)
        (λ (g : n ≤ k). let e : k ≡ n = omega arith in absurd (none (subst (Contains keys) e stands)))
        (cases_lt k n);
    rise = so.rise;
  }

  pub below_all : (n : ℕ) (shares : List Share) → ((key : ℕ) → Contains keys key → key < n) → SharesBelow keys weights n shares → ListShares keys weights shares
  below_all n shares high so = record {
    each = λ i s at. (so.each i s at).0;
    all = λ key stands. let s = so.all key (high key stands) stands in (s.place, s.share, s.there, s.same);
    once = λ i j a b l ia ib e. omega (arith, so.rise i j a b l ia ib, e);
  }

-- What the shares of a chain have, by their keys.
use Rattle.std.proofs.Common.{◌≡◌, inl, inr, ℕ, ◌+◌, ◌<◌, ◌≤◌, List, length, set, drop, get_or, cond, eqb}
use Rattle.std.proofs.Common.{ap, sym, ◌∙◌, subst, arith}
use Rattle.std.specs.Prelude.{replicate, slice_index}
use Rattle.std.proofs.lemmas.Bool.Decides.{eqb_tells}
use Rattle.std.proofs.lemmas.List.{drop_all, drop_more, get_or-set_same, get_or-set_other, length-replicate, length-set}
use Rattle.boc_program.specs.declared.limits.TheConstants.{MOST_ROWS}
use Rattle.boc_runs.proofs.Children.{zeros}
use Rattle.boc_why.specs.declared.shares.Share.{Share}
use Rattle.boc_compare.specs.Totalled.{AreShareTicks, share_from, share_of}

-- the shares behind the first n are still to come
pub record SharesSoFar (shares : List Share) (n : ℕ) (table : List ℕ) : Type 0 where
  pub whole : length table ≡ MOST_ROWS
  pub left : (key : ℕ) → key < MOST_ROWS → share_from key (slice_index table key) (drop n shares) ≡ share_of key shares

pub none_put : (shares : List Share) (table : List ℕ) → length table ≡ MOST_ROWS → ((key : ℕ) → slice_index table key ≡ 0) → SharesSoFar shares 0 table
none_put shares table whole zeros = record {
  whole = whole;
  left = λ key h. ap (λ (t : ℕ). share_from key t shares) (zeros key);
}

pub none_in : (shares : List Share) (table : List ℕ) (n : ℕ) → n ≡ MOST_ROWS → table ≡ replicate n 0 → SharesSoFar shares 0 table
none_in shares table n many is = none_put shares table (ap (length {A = ℕ}) is ∙ length-replicate n 0 ∙ many)
    (λ key. ap (λ (l : List ℕ). slice_index l key) is ∙ zeros n key)

-- what is put at one key
put_at : (table : List ℕ) (key q v : ℕ) → key < length table → slice_index (set table key v) q ≡ cond (eqb key q) v (slice_index table q)
put_at table key q v h = elim (eqb_tells key q) [
  | inl same ↦ rw same.0 (subst (λ (x : ℕ). slice_index (set table key v) x ≡ v) same.1 (get_or-set_same table key v 0 h))
  | inr apart ↦ rw apart.0 (get_or-set_other table key q v 0 (λ e. apart.1 (sym e)))
]

pub share_put : (shares : List Share) (n : ℕ) (table : List ℕ) (d : Share) → n < length shares → (get_or shares n d).key < MOST_ROWS
    → SharesSoFar shares n table → SharesSoFar shares (n + 1) (set table (get_or shares n d).key (get_or shares n d).ticks)
share_put shares n table d there below k =
    let s : Share = get_or shares n d in
    let h : s.key < length table = omega (arith, below, k.whole) in
    record {
      whole = length-set table s.key s.ticks ∙ k.whole;
      left = λ key l.
          ap (λ (t : ℕ). share_from key t (drop (n + 1) shares)) (put_at table s.key key s.ticks h)
          ∙ sym (ap (share_from key (slice_index table key)) (drop_more shares n d there))
          ∙ k.left key l;
    }

pub all_put : (shares : List Share) (n : ℕ) (table : List ℕ) → length shares ≤ n → SharesSoFar shares n table → AreShareTicks shares table
all_put shares n table long k = record {
  whole = k.whole;
  each = λ key h. sym (ap (share_from key (slice_index table key)) (drop_all n shares long)) ∙ k.left key h;
}

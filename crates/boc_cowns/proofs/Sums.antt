-- For each cown what some numbers add up to, one number after the other.
use Rattle.std.proofs.Common.{◌≡◌, ℕ, zero, suc, ◌+◌, ◌*◌, ◌<◌, ◌≤◌, ◌^◌, Bool, true, false, cond, List, length, ap, subst, arith}
use Rattle.std.specs.Prelude.{All, nat_eq, replicate, slice_index}
use Rattle.std.specs.List.{list_any}
use Rattle.std.proofs.lemmas.List.{get_or_default, get_or-replicate, length-replicate}
use Rattle.boc_program.specs.declared.limits.TheConstants.{MOST_COWNS, MOST_ROWS, MOST_TICKS}
use Rattle.boc_cowns.specs.Hot.{one, sum_where}
use Rattle.boc_cowns.specs.Columns.{AreSums}

cond_low : (b : Bool) (x : ℕ) → cond b x 0 ≤ x
cond_low true x = omega arith
cond_low false x = omega arith

pub sum_step : (passes : ℕ → Bool) (ticks : ℕ → ℕ) (n : ℕ) → sum_where passes ticks (n + 1) ≡ sum_where passes ticks n + cond (passes n) (ticks n) 0
sum_step passes ticks n = let e : n + 1 ≡ suc n = omega arith in ap (sum_where passes ticks) e

-- no more than n of the first n numbers pass
count_low : (passes : ℕ → Bool) (n : ℕ) → sum_where passes one n ≤ n
count_low passes zero = omega arith
count_low passes (suc n) = omega (arith, count_low passes n, cond_low (passes n) 1)

module _ (passes : ℕ → ℕ → Bool) (ticks : ℕ → ℕ) where
  -- before the first number
  pub sums_begin : (totals : List ℕ) → totals ≡ replicate MOST_COWNS 0 → AreSums passes ticks 0 totals
  sums_begin totals is = rw is (record {
    whole = length-replicate {A = ℕ} MOST_COWNS 0;
    at = λ c h. get_or-replicate {A = ℕ} MOST_COWNS c 0 0 h;
    low = λ c h. omega (arith, get_or-replicate {A = ℕ} MOST_COWNS c 0 0 h);
  })

  module _ (n : ℕ) (old : List ℕ) (so : AreSums passes ticks n old) where
    -- the totals have room for the next number
    pub sums_room : n ≤ MOST_ROWS → (own : ℕ) → own ≤ MOST_ROWS * MOST_TICKS → (c : ℕ) → c < MOST_COWNS → slice_index old c + own < 2 ^ 64
    sums_room few own low c h = omega (arith, so.low c h, few, low)

    -- the next number is added for the cowns whose test it passes
    pub sums_more : (new cowns : List ℕ) (own : ℕ) → length new ≡ MOST_COWNS
        → ((c : ℕ) → c < MOST_COWNS → slice_index new c ≡ slice_index old c + cond (list_any (nat_eq c) cowns) own 0)
        → ((c : ℕ) → list_any (nat_eq c) cowns ≡ passes c n) → own ≡ ticks n → own ≤ MOST_ROWS * MOST_TICKS → AreSums passes ticks (n + 1) new
    sums_more new cowns own whole each same is low = record {
      whole = whole;
      at = λ c h. rw (sum_step (passes c) ticks n, ← so.at c h, ← same c, ← is) (each c h);
      low = λ c h. omega (arith, each c h, cond_low (list_any (nat_eq c) cowns) own, so.low c h, low);
    }

    -- the next number passes no test
    pub sums_same : ((c : ℕ) → passes c n ≡ false) → AreSums passes ticks (n + 1) old
    sums_same none = record {
      whole = so.whole;
      at = λ c h. rw (sum_step (passes c) ticks n, none c) (omega (arith, so.at c h));
      low = λ c h. omega (arith, so.low c h);
    }

-- all numbers
pub sums_all : (passes : ℕ → ℕ → Bool) (ticks : ℕ → ℕ) (n m : ℕ) (totals : List ℕ) → m ≤ n → n ≤ m → AreSums passes ticks n totals
    → AreSums passes ticks m totals
sums_all passes ticks n m totals above below so = let e : n ≡ m = omega arith in subst (λ (k : ℕ). AreSums passes ticks k totals) e so

-- no more than all numbers pass
pub counts_few : (passes : ℕ → ℕ → Bool) (n : ℕ) (totals : List ℕ) → AreSums passes one n totals → n ≤ MOST_ROWS → All (λ x. x ≤ MOST_ROWS) totals
counts_few passes n totals so few k d h =
    let small : k < MOST_COWNS = omega (arith, h, so.whole) in
    omega (arith, so.at k small, count_low (passes k) n, few, get_or_default totals k d 0 h)

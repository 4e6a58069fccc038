-- The keys of the steps of a chain, and what each key has in all.
use Rattle.std.proofs.Common.{◌≡◌, ◌≢◌, ℕ, ◌+◌, ◌*◌, ◌^◌, ◌<◌, ◌≤◌, List, [], ◌∷◌, ◌++◌, length, take, set, get_or, arith, sym, ap}
use Rattle.std.proofs.Common.{subst, ◌∙◌, ⊎_elim, Some, cond, eqb, Bool, true, false, min}
use Rattle.std.specs.Prelude.{slice_get, slice_index}
use Rattle.std.specs.List.{Contains}
use Rattle.std.proofs.lemmas.Bool.Decides.{eqb_tells}
use Rattle.std.proofs.lemmas.List.{take_more, length-take, get_or-set_same, get_or-set_other, length-set, get_or_default}
use Rattle.std.proofs.lemmas.List.Elements.{Contains-append_right}
use Rattle.std.proofs.lemmas.Map.Made.{Contains-tail}
use Rattle.boc_plans.specs.declared.chain.ChainStep.{ChainStep}
use Rattle.boc_why.specs.Shares.{def_of, ticks_at, steps_at}
use Rattle.boc_why.specs.ShareTotals.{HasTotals}

-- the defs of the first n steps
pub record HaveDefs (defs : List ℕ) (steps : List ChainStep) (n : ℕ) (keys : List ℕ) : Type 0 where
  pub many : length keys ≡ n
  pub at : (k : ℕ) (s : ChainStep) → k < n → slice_get steps k ≡ Some s → slice_index keys k ≡ def_of defs s.row

-- one more step with its key and its weight
ticks_push : (key : ℕ) (keys weights : List ℕ) (k w : ℕ) → length keys ≡ length weights
    → ticks_at key (keys ++ k ∷ []) (weights ++ w ∷ []) ≡ ticks_at key keys weights + cond (eqb k key) w 0
ticks_push key [] [] k w e = omega arith
ticks_push key [] (t ∷ weights) k w e = absurd (omega (arith, e))
ticks_push key (j ∷ keys) [] k w e = absurd (omega (arith, e))
ticks_push key (j ∷ keys) (t ∷ weights) k w e = omega (arith, ticks_push key keys weights k w (omega (arith, e)))

steps_push : (key : ℕ) (keys : List ℕ) (k : ℕ) → steps_at key (keys ++ k ∷ []) ≡ steps_at key keys + cond (eqb k key) 1 0
steps_push key [] k = omega arith
steps_push key (j ∷ keys) k = omega (arith, steps_push key keys k)

-- a key that a step has stands among the keys
pub counted_stands : (key : ℕ) (keys : List ℕ) → 0 < steps_at key keys → Contains keys key
counted_stands key [] h = absurd (omega (arith, h))
counted_stands key (k ∷ keys) h = ⊎_elim
    (λ (same : (eqb k key ≡ true) × (k ≡ key)). (0, omega arith, same.1))
    (λ (apart : (eqb k key ≡ false) × (k ≢ key)).
    Contains-append_right (k ∷ []) keys key (counted_stands key keys (omega (arith, rw apart.0 at h))))
    (eqb_tells k key)

pub stands_counted : (key : ℕ) (keys : List ℕ) → Contains keys key → 0 < steps_at key keys
stands_counted key [] h = absurd (omega (arith, h.1))
stands_counted key (k ∷ keys) h = ⊎_elim
    (λ (same : (eqb k key ≡ true) × (k ≡ key)). rw same.0 (omega arith))
    (λ (apart : (eqb k key ≡ false) × (k ≢ key)). rw apart.0 (omega (arith, stands_counted key keys (Contains-tail k keys key apart.1 h))))
    (eqb_tells k key)

-- what is read at a place below the bound
pub read_at : (xs : List ℕ) (bound key now : ℕ) → length xs ≡ bound → key < bound → now ≡ get_or xs key now → now ≡ slice_index xs key
read_at xs bound key now many h e = e ∙ get_or_default xs key now 0 (omega arith)

-- what is read of a key's totals
pub count_read : {keys weights : List ℕ} {bound : ℕ} {ticks counts : List ℕ} → HasTotals keys weights bound ticks counts
    → (key count : ℕ) → key < bound → count ≡ get_or counts key count → count ≡ steps_at key keys
count_read {keys} {weights} {bound} {ticks} {counts} has key count h e = read_at counts bound key count has.many_counts h e ∙ has.counts_are key h

pub ticks_read : {keys weights : List ℕ} {bound : ℕ} {ticks counts : List ℕ} → HasTotals keys weights bound ticks counts
    → (key some : ℕ) → key < bound → some ≡ get_or ticks key some → some ≡ ticks_at key keys weights
ticks_read {keys} {weights} {bound} {ticks} {counts} has key some h e = read_at ticks bound key some has.many_ticks h e ∙ has.ticks_are key h

-- the totals of the first n steps, none of which can outgrow its type
pub record TotalsSoFar (keys weights : List ℕ) (bound n : ℕ) (ticks counts : List ℕ) : Type 0 where
  pub totals : HasTotals (take n keys) (take n weights) bound ticks counts
  pub low_ticks : (key : ℕ) → key < bound → slice_index ticks key ≤ n * 2 ^ 32
  pub low_counts : (key : ℕ) → key < bound → slice_index counts key ≤ n

-- what is added at one place
put_more : (xs : List ℕ) (key q more v : ℕ) → key < length xs → v ≡ slice_index xs key + more
    → slice_index (set xs key v) q ≡ slice_index xs q + cond (eqb key q) more 0
put_more xs key q more v h e = ⊎_elim
    (λ (same : (eqb key q ≡ true) × (key ≡ q)). rw same.0 (subst (λ (x : ℕ). slice_index (set xs key v) x ≡ slice_index xs x + more) same.1
    (get_or-set_same xs key v 0 h ∙ e)))
    (λ (apart : (eqb key q ≡ false) × (key ≢ q)). rw apart.0 (get_or-set_other xs key q v 0 (λ e. apart.1 (sym e)) ∙ omega arith))
    (eqb_tells key q)

part_low : (b : Bool) (w : ℕ) → cond b w 0 ≤ w
part_low true w = omega arith
part_low false w = omega arith

-- v and w are what the key of the next step then has
pub totals_more : (keys weights : List ℕ) (bound n : ℕ) (ticks counts : List ℕ) (v w : ℕ) → length keys ≡ length weights
    → n < length weights → get_or keys n 0 < bound → get_or weights n 0 < 2 ^ 32 → TotalsSoFar keys weights bound n ticks counts
    → v ≡ slice_index ticks (get_or keys n 0) + get_or weights n 0 → w ≡ slice_index counts (get_or keys n 0) + 1
    → TotalsSoFar keys weights bound (n + 1) (set ticks (get_or keys n 0) v) (set counts (get_or keys n 0) w)
totals_more keys weights bound n ticks counts v w whole there below small so ev ew =
    let key : ℕ = get_or keys n 0 in
    let weight : ℕ = get_or weights n 0 in
    let known : n < length keys = omega arith in
    let put_ticks : (q : ℕ) → slice_index (set ticks key v) q ≡ slice_index ticks q + cond (eqb key q) weight 0
    = λ q. put_more ticks key q weight v (omega (arith, so.totals.many_ticks)) ev in
    let put_counts : (q : ℕ) → slice_index (set counts key w) q ≡ slice_index counts q + cond (eqb key q) 1 0
    = λ q. put_more counts key q 1 w (omega (arith, so.totals.many_counts)) ew in
    record {
      totals = record {
        many_ticks = length-set ticks key v ∙ so.totals.many_ticks;
        many_counts = length-set counts key w ∙ so.totals.many_counts;
        ticks_are = λ q h. put_ticks q ∙ (ap (λ t. t + cond (eqb key q) weight 0) (so.totals.ticks_are q h)
            ∙ rw (take_more keys n 0 known, take_more weights n 0 there) (sym (ticks_push q (take n keys) (take n weights) key weight
            (length-take n keys ∙ (ap (min n) whole ∙ sym (length-take n weights))))));
        counts_are = λ q h. put_counts q ∙ (ap (λ t. t + cond (eqb key q) 1 0) (so.totals.counts_are q h)
            ∙ rw (take_more keys n 0 known) (sym (steps_push q (take n keys) key)));
      };
      low_ticks = λ q h. omega (arith, put_ticks q, so.low_ticks q h, part_low (eqb key q) weight);
      low_counts = λ q h. omega (arith, put_counts q, so.low_counts q h, part_low (eqb key q) 1);
    }

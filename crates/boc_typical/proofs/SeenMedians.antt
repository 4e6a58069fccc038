-- The medians of what rows took by their defs, in rising order.
use Rattle.std.proofs.Common.{◌≡◌, ◌≢◌, inl, inr, ℕ, ◌+◌, ◌-◌, ◌/◌, ◌<◌, ◌≤◌, List}
use Rattle.std.proofs.Common.{length, take, drop, set, get_or, Bool, true, false, cond, eqb, ◌&&◌}
use Rattle.std.proofs.Common.{refl, ap, sym, ◌∙◌, subst, arith}
use Rattle.std.specs.Prelude.{All, count_by, nat_lt, nat_le, slice_index}
use Rattle.std.specs.List.Sorted.{IsPermutation, IsNonDecreasingBy}
use Rattle.std.proofs.lemmas.Bool.{cases_eq, and_parts, and_from, and_right, le-ltb, le-leb, eq-eqb, ne_eqb}
use Rattle.std.proofs.lemmas.Bool.Decides.{eqb_tells}
use Rattle.std.proofs.lemmas.List.{get_or-take, get_or-drop, get_or_default, get_or_read, get_or-set_same}
use Rattle.std.proofs.lemmas.List.{get_or-set_other, length-set, length-take, length-drop, take_all}
use Rattle.std.proofs.lemmas.List.Sums.{sum_by_more, count_by-le-length}
use Rattle.std.proofs.lemmas.List.Sorted.{All-permutation, length_permutation}
use Rattle.boc_runs.specs.declared.rows.Row.{Row}
use Rattle.boc_typical.specs.declared.medians.DefTicks.{DefTicks}
use Rattle.boc_typical.specs.Medians.{ticks_in, AreTypicalTicks}
use Rattle.boc_typical.specs.Taken.{taken, of_def, less_of, up_to_of, before_middle, AreCounts, AreCountsOf, IsMedianOf, AreMediansOf}
use Rattle.boc_typical.proofs.Counting.{count_le, count_none, count_parts, count_front, count_moved}
use Rattle.boc_typical.proofs.TakenCounts.{passed_of, many_of, many_defs, taken_below, length-taken}

-- what is read at a place that is there
pub read_at : (xs : List ℕ) (bound key now : ℕ) → length xs ≡ bound → key < bound → now ≡ get_or xs key now → now ≡ slice_index xs key
read_at xs bound key now many h e = e ∙ get_or_default xs key now 0 (omega (arith, many, h))

-- what is added at one place
put_more : (xs : List ℕ) (key q more v : ℕ) → key < length xs → v ≡ slice_index xs key + more
    → slice_index (set xs key v) q ≡ slice_index xs q + cond (eqb key q) more 0
put_more xs key q more v h e = elim (eqb_tells key q) [
  | inl same ↦ rw same.0 (subst (λ (x : ℕ). slice_index (set xs key v) x ≡ slice_index xs x + more) same.1 (get_or-set_same xs key v 0 h ∙ e))
  | inr apart ↦ rw apart.0 (get_or-set_other xs key q v 0 (λ e. apart.1 (sym e)) ∙ omega arith)
]

-- ---- how many there are of each def

-- one more
pub counts_more : (defs : List ℕ) (bound n : ℕ) (counts : List ℕ) (v : ℕ) → n < length defs → get_or defs n 0 < bound → AreCounts (take n defs) bound counts
    → v ≡ slice_index counts (get_or defs n 0) + 1 → AreCounts (take (n + 1) defs) bound (set counts (get_or defs n 0) v)
counts_more defs bound n counts v there below k is = record {
  whole = length-set counts (get_or defs n 0) v ∙ k.whole;
  each = λ q h. put_more counts (get_or defs n 0) q 1 v (omega (arith, k.whole, below)) is
      ∙ ap (λ (t : ℕ). t + cond (eqb (get_or defs n 0) q) 1 0) (k.each q h)
      ∙ sym (sum_by_more (λ (d : ℕ). cond (eqb d q) 1 0) defs n 0 there);
}

-- and no more than were seen
pub counts_low : (defs : List ℕ) (bound n : ℕ) (counts : List ℕ) (key : ℕ) → AreCounts (take n defs) bound counts → key < bound
    → slice_index counts key ≤ n
counts_low defs bound n counts key k h = omega (arith, k.each key h, count_by-le-length (λ d. eqb d key) (take n defs), length-take n defs)

-- ---- the medians

-- as far as n of them were seen
pub record MediansSoFar (all : List DefTicks) (counts : List ℕ) (n : ℕ) (seen medians : List ℕ) : Type 0 where
  pub seen_whole : length seen ≡ length counts
  pub seen_are : (def : ℕ) → def < length counts → slice_index seen def ≡ of_def def (take n all)
  pub whole : length medians ≡ length counts
  pub before : (def : ℕ) → def < length counts → of_def def (take n all) ≤ before_middle def all → slice_index medians def ≡ 0
  pub from : (def : ℕ) → def < length counts → before_middle def all < of_def def (take n all) → IsMedianOf all def (slice_index medians def)

module _ (all : List DefTicks) (rise : IsNonDecreasingBy (λ (t : DefTicks). t.ticks) all) where
  -- the one in the middle of its def
  module _ (n : ℕ) (x : DefTicks) (there : n < length all) (at : x ≡ get_or all n x) where
    same_at : (d : DefTicks) → get_or all n d ≡ x
    same_at d = sym (get_or_read all n x there at d)

    behind : (i : ℕ) (d : DefTicks) → n + i < length all → x.ticks ≤ (get_or all (n + i) d).ticks
    behind i d l = subst (λ (t : DefTicks). t.ticks ≤ (get_or all (n + i) d).ticks) (same_at d) (rise n (n + i) d (omega arith) l)

    ahead : (i : ℕ) (d : DefTicks) → i < n + 1 → (get_or all i d).ticks ≤ x.ticks
    ahead i d l = subst (λ (t : DefTicks). (get_or all i d).ticks ≤ t.ticks) (same_at d) (rise i n d (omega (arith, l)) there)

    -- one more of a def
    seen_more : (def : ℕ) → of_def def (take (n + 1) all) ≡ of_def def (take n all) + cond (eqb x.def def) 1 0
    seen_more def = sum_by_more (λ (t : DefTicks). cond (eqb t.def def) 1 0) all n x there
        ∙ ap (λ (t : DefTicks). of_def def (take n all) + cond (eqb t.def def) 1 0) (same_at x)

    less_front : less_of x.def x.ticks (take n all) ≤ of_def x.def (take n all)
    less_front = count_le (λ (t : DefTicks). eqb t.def x.def && nat_lt t.ticks x.ticks) (λ (t : DefTicks). eqb t.def x.def) (take n all)
        (λ i d l e. (and_parts (eqb (get_or (take n all) i d).def x.def) (nat_lt (get_or (take n all) i d).ticks x.ticks) e).0)

    not_less : (i : ℕ) (d : DefTicks) → n + i < length all → (eqb (get_or all (n + i) d).def x.def && nat_lt (get_or all (n + i) d).ticks x.ticks) ≡ false
    not_less i d l = and_right (eqb (get_or all (n + i) d).def x.def) (nat_lt (get_or all (n + i) d).ticks x.ticks)
        (le-ltb (get_or all (n + i) d).ticks x.ticks (behind i d l))

    less_back : less_of x.def x.ticks (drop n all) ≡ 0
    less_back = count_none (λ (t : DefTicks). eqb t.def x.def && nat_lt t.ticks x.ticks) (drop n all)
        (λ i d l. rw (get_or-drop n all i d) (not_less i d (omega (arith, l, length-drop n all))))

    no_greater : (i : ℕ) (d : DefTicks) → i < n + 1 → eqb (get_or all i d).def x.def ≡ true
        → (eqb (get_or all i d).def x.def && nat_le (get_or all i d).ticks x.ticks) ≡ true
    no_greater i d l e = and_from (eqb (get_or all i d).def x.def) (nat_le (get_or all i d).ticks x.ticks) e
        (le-leb (get_or all i d).ticks x.ticks (ahead i d l))

    up_to_front : of_def x.def (take (n + 1) all) ≤ up_to_of x.def x.ticks (take (n + 1) all)
    up_to_front = count_le (λ (t : DefTicks). eqb t.def x.def) (λ (t : DefTicks). eqb t.def x.def && nat_le t.ticks x.ticks) (take (n + 1) all)
        (λ i d l e. let within : i < n + 1 = omega (arith, l, length-take (n + 1) all) in
        rw (get_or-take (n + 1) all i d within) (no_greater i d within (rw (get_or-take (n + 1) all i d within) at e)))

    own_one : ◌≡◌ {A = ℕ} (cond (eqb x.def x.def) 1 0) 1
    own_one = rw (eq-eqb x.def x.def refl) refl

    middle_here : of_def x.def (take n all) ≡ before_middle x.def all → IsMedianOf all x.def x.ticks
    middle_here e = record {
      few_less = omega (
        arith,
        e,
        count_parts (λ (t : DefTicks). eqb t.def x.def && nat_lt t.ticks x.ticks) all n,
        less_front,
        less_back,
      );
      more_up_to = omega (
        arith,
        e,
        seen_more x.def,
        own_one,
        up_to_front,
        count_front (λ (t : DefTicks). eqb t.def x.def && nat_le t.ticks x.ticks) all (n + 1),
      );
    }

    other_none : (def : ℕ) → def ≢ x.def → ◌≡◌ {A = ℕ} (cond (eqb x.def def) 1 0) 0
    other_none def ne = rw (ne_eqb x.def def (λ e. ne (sym e))) refl

    -- what the step makes of the tables
    module _ (counts seen medians : List ℕ) (k : MediansSoFar all counts n seen medians) (inside : x.def < length counts) (v : ℕ)
        (is : v ≡ slice_index seen x.def + 1) where
      seen_next : (def : ℕ) → def < length counts → slice_index (set seen x.def v) def ≡ of_def def (take (n + 1) all)
      seen_next def h = put_more seen x.def def 1 v (omega (arith, k.seen_whole, inside)) is
          ∙ ap (λ (t : ℕ). t + cond (eqb x.def def) 1 0) (k.seen_are def h)
          ∙ sym (seen_more def)

      own_seen : of_def x.def (take (n + 1) all) ≡ of_def x.def (take n all) + 1
      own_seen = seen_more x.def ∙ ap (λ (t : ℕ). of_def x.def (take n all) + t) own_one

      other_seen : (def : ℕ) → def ≢ x.def → of_def def (take (n + 1) all) ≡ of_def def (take n all)
      other_seen def ne = seen_more def ∙ ap (λ (t : ℕ). of_def def (take n all) + t) (other_none def ne) ∙ omega arith

      -- it is the one in the middle
      pub step_takes : of_def x.def (take n all) ≡ before_middle x.def all
          → MediansSoFar all counts (n + 1) (set seen x.def v) (set medians x.def x.ticks)
      step_takes mid = record {
        seen_whole = length-set seen x.def v ∙ k.seen_whole;
        seen_are = seen_next;
        whole = length-set medians x.def x.ticks ∙ k.whole;
        before = λ def h low. elim (cases_eq def x.def) [
          | inl e ↦ absurd (omega (arith, subst (λ (q : ℕ). of_def q (take (n + 1) all) ≤ before_middle q all) e low, own_seen, mid))
          | inr ne ↦ get_or-set_other medians x.def def x.ticks 0 ne ∙ k.before def h (omega (arith, low, other_seen def ne))
        ];
        from = λ def h more. elim (cases_eq def x.def) [
          | inl e ↦ subst (λ (q : ℕ). IsMedianOf all q (slice_index (set medians x.def x.ticks) q)) (sym e)
              (subst (IsMedianOf all x.def) (sym (get_or-set_same medians x.def x.ticks 0 (omega (arith, k.whole, inside)))) (middle_here mid))
          | inr ne ↦ subst (IsMedianOf all def) (sym (get_or-set_other medians x.def def x.ticks 0 ne))
              (k.from def h (omega (arith, more, other_seen def ne)))
        ];
      }

      -- it isn't
      pub step_keeps : of_def x.def (take n all) ≢ before_middle x.def all → MediansSoFar all counts (n + 1) (set seen x.def v) medians
      step_keeps other = record {
        seen_whole = length-set seen x.def v ∙ k.seen_whole;
        seen_are = seen_next;
        whole = k.whole;
        before = λ def h low. elim (cases_eq def x.def) [
          | inl e ↦ k.before def h (subst (λ (q : ℕ). of_def q (take n all) ≤ before_middle q all) (sym e)
              (omega (arith, subst (λ (q : ℕ). of_def q (take (n + 1) all) ≤ before_middle q all) e low, own_seen)))
          | inr ne ↦ k.before def h (omega (arith, low, other_seen def ne))
        ];
        from = λ def h more. elim (cases_eq def x.def) [
          | inl e ↦ k.from def h (subst (λ (q : ℕ). before_middle q all < of_def q (take n all)) (sym e)
              (omega (arith, subst (λ (q : ℕ). before_middle q all < of_def q (take (n + 1) all)) e more, own_seen, other)))
          | inr ne ↦ k.from def h (omega (arith, more, other_seen def ne))
        ];
      }

-- nothing was seen
pub none_seen : (all : List DefTicks) (counts seen medians : List ℕ) → length seen ≡ length counts → length medians ≡ length counts
    → ((def : ℕ) → slice_index seen def ≡ 0) → ((def : ℕ) → slice_index medians def ≡ 0) → MediansSoFar all counts 0 seen medians
none_seen all counts seen medians whole also zeros nulls = record {
  seen_whole = whole;
  seen_are = λ def h. zeros def;
  whole = also;
  before = λ def h low. nulls def;
  from = λ def h more. absurd (omega (arith, more));
}

-- no def was seen more often than rows
pub seen_low : (all : List DefTicks) (counts : List ℕ) (n : ℕ) (seen medians : List ℕ) (def : ℕ) → MediansSoFar all counts n seen medians
    → def < length counts → slice_index seen def ≤ n
seen_low all counts n seen medians def k h = omega (
  arith,
  k.seen_are def h,
  count_by-le-length (λ (t : DefTicks). eqb t.def def) (take n all),
  length-take n all,
)

-- all were seen
pub all_seen : (all : List DefTicks) (counts : List ℕ) (n : ℕ) (seen medians : List ℕ) → length all ≤ n → MediansSoFar all counts n seen medians
    → AreMediansOf all counts medians
all_seen all counts n seen medians long k =
    let same : (def : ℕ) → of_def def (take n all) ≡ of_def def all = λ def. ap (of_def def) (take_all n all long) in
    record {
      whole = k.whole;
      each = λ def h some. k.from def h (omega (arith, same def, some));
      none = λ def h none. k.before def h (omega (arith, same def, none));
    }

-- ---- of rows

module _ (rows : List Row) (defs : List ℕ) (bound : ℕ) (whole : length defs ≡ length rows) (all : List DefTicks)
    (moved : IsPermutation (taken rows defs) all) where
  many : (def : ℕ) → of_def def all ≡ length (ticks_in rows defs def)
  many def = count_moved (λ (t : DefTicks). eqb t.def def) (taken rows defs) all moved ∙ many_of def rows defs

  passed : (q : ℕ → Bool) (def : ℕ) → count_by (λ (t : DefTicks). eqb t.def def && q t.ticks) all ≡ count_by q (ticks_in rows defs def)
  passed q def = count_moved (λ (t : DefTicks). eqb t.def def && q t.ticks) (taken rows defs) all moved ∙ passed_of q def rows defs

  pub many_taken : length all ≡ length rows
  many_taken = length_permutation (taken rows defs) all moved ∙ length-taken rows defs whole

  pub defs_below : All (λ d. d < bound) defs → (counts : List ℕ) → length counts ≡ bound → All (λ (t : DefTicks). t.def < length counts) all
  defs_below below counts same = subst (λ (n : ℕ). All (λ (t : DefTicks). t.def < n) all) (sym same)
      (All-permutation (λ (t : DefTicks). t.def < bound) (taken rows defs) all moved (taken_below bound rows defs below))

  pub counts_are : (counts : List ℕ) → AreCounts defs bound counts → AreCountsOf all counts
  counts_are counts k = λ def h. k.each def (omega (arith, h, k.whole)) ∙ many_defs def rows defs whole
      ∙ sym (count_moved (λ (t : DefTicks). eqb t.def def) (taken rows defs) all moved)

  pub medians_typical : (counts medians : List ℕ) → length counts ≡ bound → AreMediansOf all counts medians → AreTypicalTicks rows defs bound medians
  medians_typical counts medians same k = record {
    whole = k.whole ∙ same;
    each = λ def h some.
        let m : ℕ = slice_index medians def in
        let is : IsMedianOf all def m = k.each def (omega (arith, h, same)) (omega (arith, some, many def)) in
        let half : before_middle def all ≡ (length (ticks_in rows defs def) - 1) / 2 = ap (λ (n : ℕ). (n - 1) / 2) (many def) in
        record {
          few_less = omega (arith, is.few_less, half, passed (λ n. nat_lt n m) def);
          more_up_to = omega (arith, is.more_up_to, half, passed (λ n. nat_le n m) def);
        };
    none = λ def h none. k.none def (omega (arith, h, same)) (many def ∙ none);
  }

-- ---- a step of the loop over what was taken

module _ (all : List DefTicks) (rise : IsNonDecreasingBy (λ (t : DefTicks). t.ticks) all) (n : ℕ) (d : DefTicks) (there : n < length all) (counts : List ℕ)
    (are : AreCountsOf all counts) (inside : (get_or all n d).def < length counts) (seen medians : List ℕ) (k : MediansSoFar all counts n seen medians)
    (before middle : ℕ) (was : before ≡ slice_index seen (get_or all n d).def)
    (is : middle ≡ (slice_index counts (get_or all n d).def - 1) / 2) where
  abbrev own : DefTicks
  own = get_or all n d

  own_at : own ≡ get_or all n own
  own_at = get_or_default all n d own there

  middle_is : middle ≡ before_middle own.def all
  middle_is = is ∙ ap (λ (c : ℕ). (c - 1) / 2) (are own.def inside)

  seen_is : before ≡ of_def own.def (take n all)
  seen_is = was ∙ k.seen_are own.def inside

  next_is : before + 1 ≡ slice_index seen own.def + 1
  next_is = ap (λ (c : ℕ). c + 1) was

  pub see_takes : before ≡ middle → MediansSoFar all counts (n + 1) (set seen own.def (before + 1)) (set medians own.def own.ticks)
  see_takes e = step_takes all rise n own there own_at counts seen medians k inside (before + 1) next_is (sym seen_is ∙ e ∙ middle_is)

  pub see_keeps : before ≢ middle → MediansSoFar all counts (n + 1) (set seen own.def (before + 1)) medians
  see_keeps ne = step_keeps all rise n own there own_at counts seen medians k inside (before + 1) next_is (λ e. ne (seen_is ∙ e ∙ sym middle_is))

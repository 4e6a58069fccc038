-- Rows that take very long: what is told of them is one.
use Rattle.std.proofs.Common.{◌≡◌, ℕ, suc, ◌+◌, ◌<◌, ◌≤◌, List, [], ◌∷◌, ◌++◌}
use Rattle.std.proofs.Common.{length, take, get_or, refl, ap, sym, ◌∙◌, arith, cond, Bool, true, false, add-zero}
use Rattle.std.specs.Prelude.{All, Option, ◌*◌, nat_lt, slice_index, count_by}
use Rattle.std.specs.List.{sum_by}
use Rattle.std.proofs.lemmas.List.Elements.{All-get_or}
use Rattle.std.proofs.lemmas.List.Sums.{sum_by-cons, sum_by_push}
use Rattle.boc_program.specs.declared.limits.TheConstants.{MOST_TICKS}
use Rattle.boc_runs.specs.declared.rows.Row.{Row}
use Rattle.boc_runs.specs.Rows.{IsRows, ticks_of}
use Rattle.boc_runs.proofs.Scaling.{row_read}
use Rattle.boc_typical.specs.declared.medians.DefTicks.{DefTicks}
use Rattle.boc_typical.specs.declared.outliers.Outliers.{Outliers}
use Rattle.boc_typical.specs.declared.outliers.TheConstants.{OUTLIER_TIMES}
use Rattle.boc_typical.specs.Medians.{AreTypicalTicks, ticks_in}
use Rattle.boc_typical.specs.Outliers.{AreOutliers, is_outlier, noted, outlier_ticks, outliers_among, with_row, work_in}
use Rattle.boc_typical.specs.Taken.{taken}
use Rattle.boc_typical.proofs.Middle.{one_median}
use Rattle.boc_typical.proofs.TakenCounts.{taken_all, taken_more, ticks_some}

-- what is added up of rows whose defs have the same in two tables
sums_alike : (f : List ℕ → DefTicks → ℕ)
    → ((typical other : List ℕ) (t : DefTicks) → slice_index typical t.def ≡ slice_index other t.def → f typical t ≡ f other t)
    → (typical other : List ℕ) (rows : List Row) (defs : List ℕ)
    → ((r : ℕ) → r < length rows → r < length defs → slice_index typical (slice_index defs r) ≡ slice_index other (slice_index defs r))
    → sum_by (f typical) (taken rows defs) ≡ sum_by (f other) (taken rows defs)
sums_alike f same typical other [] defs own = refl
sums_alike f same typical other (x ∷ rows) [] own = refl
sums_alike f same typical other (x ∷ rows) (d ∷ defs) own =
    let t : DefTicks = record { def = d; ticks = x.ticks } in
    omega (
      arith,
      sum_by-cons (f typical) t (taken rows defs),
      sum_by-cons (f other) t (taken rows defs),
      same typical other t (own 0 (omega arith) (omega arith)),
      sums_alike f same typical other rows defs (λ r h l. own (suc r) (omega (arith, h)) (omega (arith, l))),
    )

module _ (rows : List Row) (defs : List ℕ) (whole : length defs ≡ length rows) (bound other_bound : ℕ) (below : All (λ d. d < bound) defs)
    (other_below : All (λ d. d < other_bound) defs) (typical other : List ℕ) (s : AreTypicalTicks rows defs bound typical)
    (t : AreTypicalTicks rows defs other_bound other) where
  typical_alike : (r : ℕ) → r < length rows → r < length defs → slice_index typical (slice_index defs r) ≡ slice_index other (slice_index defs r)
  typical_alike r h l = one_median (ticks_in rows defs (slice_index defs r)) (slice_index typical (slice_index defs r)) (slice_index other (slice_index defs r))
      (s.each (slice_index defs r) (All-get_or (λ d. d < bound) defs r 0 l below) (ticks_some rows defs r whole h))
      (t.each (slice_index defs r) (All-get_or (λ d. d < other_bound) defs r 0 l other_below) (ticks_some rows defs r whole h))

  rows_alike : count_by (is_outlier typical) (taken rows defs) ≡ count_by (is_outlier other) (taken rows defs)
  rows_alike = sums_alike (λ typical t. cond (is_outlier typical t) 1 0)
      (λ typical other t e. ap (λ (n : ℕ). cond (nat_lt (OUTLIER_TIMES * n) t.ticks) 1 0) e) typical other rows defs typical_alike

  ticks_alike : sum_by (outlier_ticks typical) (taken rows defs) ≡ sum_by (outlier_ticks other) (taken rows defs)
  ticks_alike = sums_alike outlier_ticks (λ typical other t e. ap (λ (n : ℕ). cond (nat_lt (OUTLIER_TIMES * n) t.ticks) t.ticks 0) e) typical other rows defs
      typical_alike

  pub outliers_alike : outliers_among typical (taken rows defs) ≡ outliers_among other (taken rows defs)
  outliers_alike = ap (λ (n : ℕ). record { rows = n; ticks = sum_by (outlier_ticks typical) (taken rows defs) }) rows_alike
      ∙ ap (λ (n : ℕ). record { rows = count_by (is_outlier other) (taken rows defs); ticks = n }) ticks_alike

pub one_outliers : (rows : List Row) (defs : List ℕ) (found other : Option Outliers) → length defs ≡ length rows → AreOutliers rows defs found
    → AreOutliers rows defs other → found ≡ other
one_outliers rows defs found other whole s t =
    s.is
    ∙ ap (noted (work_in rows)) (outliers_alike rows defs whole s.bound t.bound s.below t.below s.typical t.typical s.typical_is t.typical_is)
    ∙ sym t.is

-- ---- one row after another

-- as far as the first n rows tell
pub record OutliersSoFar (typical : List ℕ) (rows : List Row) (defs : List ℕ) (n : ℕ) (found : Outliers) : Type 0 where
  pub rows_are : found.rows ≡ count_by (is_outlier typical) (taken (take n rows) (take n defs))
  pub ticks_are : found.ticks ≡ sum_by (outlier_ticks typical) (taken (take n rows) (take n defs))
  pub few_rows : found.rows ≤ n
  pub few_ticks : found.ticks ≤ n * MOST_TICKS

rows_with : (b : Bool) (found : Outliers) (ticks : ℕ)
    → (cond b (record { rows = found.rows + 1; ticks = found.ticks + ticks }) found).rows ≡ found.rows + cond b 1 0
rows_with true found ticks = refl
rows_with false found ticks = sym (add-zero found.rows)

ticks_with : (b : Bool) (found : Outliers) (ticks : ℕ) → (cond b (record { rows = found.rows + 1; ticks = found.ticks + ticks }) found).ticks
    ≡ found.ticks + cond b ticks 0
ticks_with true found ticks = refl
ticks_with false found ticks = sym (add-zero found.ticks)

part_low : (b : Bool) (w : ℕ) → cond b w 0 ≤ w
part_low true w = omega arith
part_low false w = omega arith

own_ticks : (rows : List Row) (n : ℕ) (x : Row) → n < length rows → x ≡ get_or rows n x → ticks_of rows n ≡ x.ticks
own_ticks rows n x here at = rw (row_read rows n x here at) refl

pub none_found : (typical : List ℕ) (rows : List Row) (defs : List ℕ) → OutliersSoFar typical rows defs 0 (record { rows = 0; ticks = 0 })
none_found typical rows defs = record { rows_are = refl; ticks_are = refl; few_rows = omega arith; few_ticks = omega arith }

pub found_more : (typical : List ℕ) (rows : List Row) (defs : List ℕ) (n : ℕ) (found : Outliers) (x : Row) → IsRows rows → length defs ≡ length rows
    → n < length rows → x ≡ get_or rows n x → OutliersSoFar typical rows defs n found
    → OutliersSoFar typical rows defs (n + 1) (with_row found x.ticks (slice_index typical (get_or defs n 0)))
found_more typical rows defs n found x hr whole here at k =
    let ticks : ℕ = x.ticks in
    let b : Bool = nat_lt (OUTLIER_TIMES * slice_index typical (get_or defs n 0)) ticks in
    let t : DefTicks = record { def = get_or defs n 0; ticks = ticks } in
    let more : taken (take (n + 1) rows) (take (n + 1) defs) ≡ taken (take n rows) (take n defs) ++ t ∷ [] =
    taken_more rows defs n x 0 here (omega (arith, here, whole))
    ∙ ap (λ (z : Row). taken (take n rows) (take n defs) ++ record { def = get_or defs n 0; ticks = z.ticks } ∷ []) (sym at) in
    let own : ticks_of rows n ≡ ticks = own_ticks rows n x here at in
    record {
      rows_are = rows_with b found ticks
          ∙ ap (λ (c : ℕ). c + cond b 1 0) k.rows_are
          ∙ sym (ap (count_by (is_outlier typical)) more
          ∙ sum_by_push (λ (t : DefTicks). cond (is_outlier typical t) 1 0) (taken (take n rows) (take n defs)) t);
      ticks_are = ticks_with b found ticks
          ∙ ap (λ (c : ℕ). c + cond b ticks 0) k.ticks_are
          ∙ sym (ap (sum_by (outlier_ticks typical)) more ∙ sum_by_push (outlier_ticks typical) (taken (take n rows) (take n defs)) t);
      few_rows = omega (arith, rows_with b found ticks, part_low b 1, k.few_rows);
      few_ticks = omega (arith, ticks_with b found ticks, part_low b ticks, k.few_ticks, own, hr.ticks_high n here);
    }

-- all rows
pub all_found : (typical : List ℕ) (rows : List Row) (defs : List ℕ) (n : ℕ) (found : Outliers) → length defs ≡ length rows → length rows ≤ n
    → OutliersSoFar typical rows defs n found → found ≡ outliers_among typical (taken rows defs)
all_found typical rows defs n found whole long k =
    let all : taken (take n rows) (take n defs) ≡ taken rows defs = taken_all rows defs n (taken (take n rows) (take n defs)) long whole refl in
    ap (λ (r : ℕ). record { rows = r; ticks = found.ticks }) k.rows_are
    ∙ ap (λ (t : ℕ). record { rows = count_by (is_outlier typical) (taken (take n rows) (take n defs)); ticks = t }) k.ticks_are
    ∙ ap (outliers_among typical) all

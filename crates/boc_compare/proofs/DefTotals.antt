-- What is told of each def, in tables.
use Rattle.std.proofs.Common.{◌≡◌, inl, inr, ℕ, zero, suc, ◌+◌, ◌*◌, ◌^◌, ◌<◌, ◌≤◌}
use Rattle.std.proofs.Common.{List, [], ◌∷◌, length, map, set, drop, get_or, cond, eqb, Bool, true, false}
use Rattle.std.proofs.Common.{refl, ap, sym, ◌∙◌, subst, arith}
use Rattle.std.specs.Prelude.{All, count_by, replicate, slice_index, sum}
use Rattle.std.specs.List.{AllByRecursion}
use Rattle.std.proofs.lemmas.Bool.{eq-eqb}
use Rattle.std.proofs.lemmas.Bool.Decides.{eqb_tells}
use Rattle.std.proofs.lemmas.List.{drop_all, drop_more, get_or-set_same, get_or-set_other, length-replicate, length-set}
use Rattle.std.proofs.lemmas.List.Elements.{All-from_recursion, recursion_from_All}
use Rattle.std.proofs.lemmas.List.Sums.{count_by-le-length, sum_by-cons}
use Rattle.boc_program.specs.declared.limits.TheConstants.{MOST_ROWS, MOST_TICKS}
use Rattle.boc_runs.specs.declared.rows.Row.{Row}
use Rattle.boc_runs.specs.Rows.{IsRows, ticks_of}
use Rattle.boc_runs.proofs.Children.{zeros}
use Rattle.boc_typical.specs.Medians.{ticks_in}
use Rattle.boc_why.specs.declared.shares.Share.{Share}
use Rattle.boc_compare.specs.declared.defs.Tables.{Tables}
use Rattle.boc_compare.specs.declared.totals.Totals.{Totals}
use Rattle.boc_compare.specs.Totalled.{AreOfDefs, IsOfDef, each_once}
use Rattle.boc_compare.specs.DefTables.{AreCounts, AreDefTables, AreDefTicks, AreWhole, IsTable, of_tables}
use Rattle.boc_compare.proofs.EachOnce.{once_all}

-- ---- a table that adds up

-- what the table has, with what is left to come, is what it is to have
pub record AddsUp (left has : ℕ → ℕ) (table : List ℕ) : Type 0 where
  pub whole : length table ≡ MOST_ROWS
  pub at : (key : ℕ) → key < MOST_ROWS → slice_index table key + left key ≡ has key

none_put : (left has : ℕ → ℕ) (table : List ℕ) (n : ℕ) → n ≡ MOST_ROWS → table ≡ replicate n 0 → ((q : ℕ) → left q ≡ has q) → AddsUp left has table
none_put left has table n many is same = record {
  whole = ap (length {A = ℕ}) is ∙ length-replicate n 0 ∙ many;
  at = λ key h. omega (arith, ap (λ (l : List ℕ). slice_index l key) is, zeros n key, same key);
}

put_more : (xs : List ℕ) (key q more v : ℕ) → key < length xs → v ≡ slice_index xs key + more
    → slice_index (set xs key v) q ≡ slice_index xs q + cond (eqb key q) more 0
put_more xs key q more v h e = elim (eqb_tells key q) [
  | inl same ↦ rw same.0 (subst (λ (x : ℕ). slice_index (set xs key v) x ≡ slice_index xs x + more) same.1 (get_or-set_same xs key v 0 h ∙ e))
  | inr apart ↦ rw apart.0 (get_or-set_other xs key q v 0 (λ e. apart.1 (sym e)) ∙ omega arith)
]

module _ (left next has : ℕ → ℕ) (table : List ℕ) (key more : ℕ) (below : key < MOST_ROWS) (step : (q : ℕ) → left q ≡ cond (eqb key q) more 0 + next q)
    (so : AddsUp left has table) where
  add_put : (v : ℕ) → v ≡ slice_index table key + more → AddsUp next has (set table key v)
  add_put v is = record {
    whole = length-set table key v ∙ so.whole;
    at = λ q h. omega (arith, put_more table key q more v (omega (arith, below, so.whole)) is, so.at q h, step q);
  }

  own_step : left key ≡ more + next key
  own_step = let e : eqb key key ≡ true = eq-eqb key key refl in step key ∙ ap (λ (b : Bool). cond b more 0 + next key) e

  -- there is room for what is added
  add_room : slice_index table key + more ≤ has key
  add_room = omega (arith, own_step, so.at key below)

all_put : (left has : ℕ → ℕ) (table : List ℕ) → ((q : ℕ) → left q ≡ 0) → AddsUp left has table → IsTable has table
all_put left has table none so = record {
  whole = so.whole;
  each = λ key h. omega (arith, so.at key h, none key);
}

-- ---- how many rows are of a def

abbrev pub defs_left : List ℕ → ℕ → ℕ → ℕ
defs_left defs n key = count_by (λ d. eqb d key) (drop n defs)

abbrev pub CountsSoFar : List ℕ → ℕ → List ℕ → Type 0
CountsSoFar defs n table = AddsUp (defs_left defs n) (λ key. count_by (λ d. eqb d key) defs) table

pub counts_begin : (defs table : List ℕ) (n : ℕ) → n ≡ MOST_ROWS → table ≡ replicate n 0 → CountsSoFar defs 0 table
counts_begin defs table n many is = none_put (defs_left defs 0) (λ key. count_by (λ d. eqb d key) defs) table n many is (λ q. refl)

module _ (defs : List ℕ) (n : ℕ) (there : n < length defs) (table : List ℕ) (below : get_or defs n 0 < MOST_ROWS) (so : CountsSoFar defs n table) where
  defs_step : (q : ℕ) → defs_left defs n q ≡ cond (eqb (get_or defs n 0) q) 1 0 + defs_left defs (n + 1) q
  defs_step q = ap (count_by (λ d. eqb d q)) (drop_more defs n 0 there) ∙ sum_by-cons (λ d. cond (eqb d q) 1 0) (get_or defs n 0) (drop (n + 1) defs)

  pub counts_more : (v : ℕ) → v ≡ slice_index table (get_or defs n 0) + 1 → CountsSoFar defs (n + 1) (set table (get_or defs n 0) v)
  counts_more v is = add_put (defs_left defs n) (defs_left defs (n + 1)) (λ key. count_by (λ d. eqb d key) defs) table (get_or defs n 0) 1 below
      defs_step so v is

  pub counts_room : slice_index table (get_or defs n 0) + 1 ≤ length defs
  counts_room = omega (
    arith,
    add_room (defs_left defs n) (defs_left defs (n + 1)) (λ key. count_by (λ d. eqb d key) defs) table (get_or defs n 0) 1 below defs_step so,
    count_by-le-length (λ d. eqb d (get_or defs n 0)) defs,
  )

pub counts_all : (defs : List ℕ) (n : ℕ) (table : List ℕ) → length defs ≤ n → CountsSoFar defs n table → AreCounts defs table
counts_all defs n table long so = all_put (defs_left defs n) (λ key. count_by (λ d. eqb d key) defs) table
    (λ q. ap (count_by (λ d. eqb d q)) (drop_all n defs long)) so

-- ---- what rows take together

sum_if : (b : Bool) (w : ℕ) (rest : List ℕ) → sum (cond b (w ∷ rest) rest) ≡ cond b w 0 + sum rest
sum_if true w rest = sum_by-cons (λ x. x) w rest
sum_if false w rest = omega arith

abbrev pub ticks_left : List Row → List ℕ → ℕ → ℕ → ℕ
ticks_left rows defs n key = sum (ticks_in (drop n rows) (drop n defs) key)

abbrev pub TicksSoFar : List Row → List ℕ → ℕ → List ℕ → Type 0
TicksSoFar rows defs n table = AddsUp (ticks_left rows defs n) (λ key. sum (ticks_in rows defs key)) table

pub ticks_begin : (rows : List Row) (defs table : List ℕ) (n : ℕ) → n ≡ MOST_ROWS → table ≡ replicate n 0 → TicksSoFar rows defs 0 table
ticks_begin rows defs table n many is = none_put (ticks_left rows defs 0) (λ key. sum (ticks_in rows defs key)) table n many is (λ q. refl)

cond_low : (b : Bool) (x : ℕ) → cond b x 0 ≤ x
cond_low true x = omega arith
cond_low false x = omega arith

sum_low : (rows : List Row) (defs : List ℕ) (key : ℕ) → ((r : ℕ) → r < length rows → ticks_of rows r ≤ MOST_TICKS)
    → sum (ticks_in rows defs key) ≤ length rows * MOST_TICKS
sum_low [] defs key high = omega arith
sum_low (x ∷ rows) [] key high = omega arith
sum_low (x ∷ rows) (d ∷ defs) key high =
    let own : x.ticks ≤ MOST_TICKS = high 0 (omega arith) in
    let rest = sum_low rows defs key (λ r h. high (suc r) (omega (arith, h))) in
    omega (arith, sum_if (eqb d key) x.ticks (ticks_in rows defs key), cond_low (eqb d key) x.ticks, own, rest)

module _ (rows : List Row) (defs : List ℕ) (whole : length defs ≡ length rows) (n : ℕ) (x : Row) (there : n < length defs) (table : List ℕ)
    (below : get_or defs n 0 < MOST_ROWS) (so : TicksSoFar rows defs n table) where
  abbrev own : Row
  own = get_or rows n x

  ticks_step : (q : ℕ) → ticks_left rows defs n q ≡ cond (eqb (get_or defs n 0) q) own.ticks 0 + ticks_left rows defs (n + 1) q
  ticks_step q = ap (λ (l : List Row). sum (ticks_in l (drop n defs) q)) (drop_more rows n x (omega (arith, there, whole)))
      ∙ ap (λ (l : List ℕ). sum (ticks_in (own ∷ drop (n + 1) rows) l q)) (drop_more defs n 0 there)
      ∙ sum_if (eqb (get_or defs n 0) q) own.ticks (ticks_in (drop (n + 1) rows) (drop (n + 1) defs) q)

  pub ticks_more : (v : ℕ) → v ≡ slice_index table (get_or defs n 0) + own.ticks → TicksSoFar rows defs (n + 1) (set table (get_or defs n 0) v)
  ticks_more v is = add_put (ticks_left rows defs n) (ticks_left rows defs (n + 1)) (λ key. sum (ticks_in rows defs key)) table (get_or defs n 0)
      own.ticks below ticks_step so v is

  pub ticks_room : IsRows rows → slice_index table (get_or defs n 0) + own.ticks < 2 ^ 64
  ticks_room hr = omega (
    arith,
    add_room (ticks_left rows defs n) (ticks_left rows defs (n + 1)) (λ key. sum (ticks_in rows defs key)) table (get_or defs n 0) own.ticks below
        ticks_step so,
    sum_low rows defs (get_or defs n 0) hr.ticks_high,
    hr.not_many,
  )

pub ticks_all : (rows : List Row) (defs : List ℕ) (n : ℕ) (table : List ℕ) → length defs ≡ length rows → length defs ≤ n → TicksSoFar rows defs n table
    → AreDefTicks rows defs table
ticks_all rows defs n table whole long so = all_put (ticks_left rows defs n) (λ key. sum (ticks_in rows defs key)) table
    (λ q. ap (λ (l : List Row). sum (ticks_in l (drop n defs) q)) (drop_all n rows (omega (arith, whole, long)))) so

-- ---- what the tables tell

pub whole_tables : (rows : List Row) (defs : List ℕ) (by_def : List Share) (tables : Tables) → AreDefTables rows defs by_def tables → AreWhole tables
whole_tables rows defs by_def tables t =
    record { counts = t.counts.whole; ticks = t.ticks.whole; typical = t.typical.whole; chain = t.chain.whole }

-- a def of a row has ticks
stands_at : (rows : List Row) (defs : List ℕ) (i d : ℕ) → length defs ≡ length rows → i < length defs → 0 < length (ticks_in rows defs (get_or defs i d))
stands_at rows [] i d whole h = absurd (omega (arith, h))
stands_at [] (e ∷ defs) i d whole h = absurd (omega (arith, whole))
stands_at (x ∷ rows) (e ∷ defs) zero d whole h = let t : eqb e e ≡ true = eq-eqb e e refl in rw t (omega arith)
stands_at (x ∷ rows) (e ∷ defs) (suc i) d whole h =
    longer (eqb e (get_or defs i d)) x.ticks (ticks_in rows defs (get_or defs i d)) (stands_at rows defs i d (omega (arith, whole)) (omega (arith, h)))
  where
    longer : (b : Bool) (w : ℕ) (rest : List ℕ) → 0 < length rest → 0 < length (cond b (w ∷ rest) rest)
    longer true w rest h = omega arith
    longer false w rest h = h

-- as many rows as ticks
many_ticks : (rows : List Row) (defs : List ℕ) (key : ℕ) → length defs ≡ length rows → count_by (λ d. eqb d key) defs ≡ length (ticks_in rows defs key)
many_ticks rows [] key whole = none_of rows
  where
    none_of : (rows : List Row) → 0 ≡ length (ticks_in rows [] key)
    none_of [] = refl
    none_of (x ∷ rows) = refl
many_ticks [] (d ∷ defs) key whole = absurd (omega (arith, whole))
many_ticks (x ∷ rows) (d ∷ defs) key whole =
    sum_by-cons (λ e. cond (eqb e key) 1 0) d defs ∙ ap (λ (n : ℕ). cond (eqb d key) 1 0 + n) (many_ticks rows defs key (omega (arith, whole)))
    ∙ sym (length_if (eqb d key) x.ticks (ticks_in rows defs key))
  where
    length_if : (b : Bool) (w : ℕ) (rest : List ℕ) → length (cond b (w ∷ rest) rest) ≡ cond b 1 0 + length rest
    length_if true w rest = omega arith
    length_if false w rest = omega arith

module _ (rows : List Row) (defs : List ℕ) (by_def : List Share) (whole : length defs ≡ length rows) (below : All (λ d. d < MOST_ROWS) defs)
    (tables : Tables) (t : AreDefTables rows defs by_def tables) where
  told_at : (key : ℕ) → (key < MOST_ROWS) × (0 < length (ticks_in rows defs key)) → IsOfDef rows defs by_def (of_tables tables key)
  told_at key h = record {
    count = t.counts.each key h.0 ∙ many_ticks rows defs key whole;
    ticks = t.ticks.each key h.0;
    typical = t.typical.each key h.0 h.1;
    chain = t.chain.each key h.0;
  }

  all_told : (keys : List ℕ) → AllByRecursion (λ key. (key < MOST_ROWS) × (0 < length (ticks_in rows defs key))) keys
      → AllByRecursion (IsOfDef rows defs by_def) (map (of_tables tables) keys)
  all_told [] all = tt
  all_told (key ∷ keys) all = (told_at key all.0, all_told keys all.1)

  all_keys : (keys : List ℕ) → map (λ (own : Totals). own.key) (map (of_tables tables) keys) ≡ keys
  all_keys [] = refl
  all_keys (key ∷ keys) = ap (λ (l : List ℕ). key ∷ l) (all_keys keys)

  stand : AllByRecursion (λ key. (key < MOST_ROWS) × (0 < length (ticks_in rows defs key))) defs
  stand = recursion_from_All (λ key. (key < MOST_ROWS) × (0 < length (ticks_in rows defs key))) defs (λ i d h. (below i d h, stands_at rows defs i d whole h))

  pub defs_told : (keys : List ℕ) (list : List Totals) → keys ≡ each_once defs → list ≡ map (of_tables tables) keys → AreOfDefs rows defs by_def list
  defs_told keys list once is =
      let same : list ≡ map (of_tables tables) (each_once defs) = is ∙ ap (map (of_tables tables)) once in
      record {
        keys = ap (map (λ (own : Totals). own.key)) same ∙ all_keys (each_once defs);
        each = subst (All (IsOfDef rows defs by_def)) (sym same) (All-from_recursion (IsOfDef rows defs by_def) (map (of_tables tables) (each_once defs))
            (all_told (each_once defs) (once_all (λ key. (key < MOST_ROWS) × (0 < length (ticks_in rows defs key))) defs stand)));
      }

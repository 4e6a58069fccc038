-- Rows with typical ticks are the rows of a record.
use Rattle.std.proofs.Common.{◌≡◌, inl, inr, ℕ, ◌<◌, ◌≤◌, max, List, [], ◌∷◌, length, get_or, Some, refl, ap, sym, ◌∙◌, subst, arith}
use Rattle.std.specs.Prelude.{All, slice_get, slice_index}
use Rattle.std.proofs.lemmas.Bool.{cases_lt}
use Rattle.std.proofs.lemmas.List.Elements.{All-get_or}
use Rattle.std.proofs.lemmas.Option.{slice_get_past, slice_get-get_or}
use Rattle.boc_program.specs.Cowns.{AreAmong}
use Rattle.boc_program.specs.declared.limits.TheConstants.{MOST_COWNS, MOST_TICKS}
use Rattle.std.specs.List.Sorted.{IsStrictlyIncreasing}
use Rattle.boc_runs.specs.declared.rows.Row.{Row}
use Rattle.boc_runs.specs.Rows.{IsRows, IsLast, parent_of, offset_of, ticks_of, cowns_of, written_of}
use Rattle.boc_runs.specs.Changes.{IsSameBut}
use Rattle.boc_runs.proofs.Scaling.{same_parents, same_cowns, same_written, last_exists}
use Rattle.boc_typical.specs.Medians.{IsTypicalOf, AreTypicalTicks, ticks_in}
use Rattle.boc_typical.specs.Spread.{AreMiddles, AreMiddlesBy, AreOffsets, AreTimed, IsLastIn, IsOffset}
use Rattle.boc_typical.specs.Typical.{IsTypical}
use Rattle.boc_typical.proofs.Middle.{middle_is, middle_of, median_above, median_below, one_median}
use Rattle.boc_typical.proofs.Spreading.{le_through, most, most_low, offsets_low, one_last_in}
use Rattle.boc_typical.proofs.TakenCounts.{ticks_all, ticks_some}

-- ---- medians lie within the limits

module _ (rows : List Row) (hr : IsRows rows) (defs : List ℕ) where
  pub typical_low : (def m : ℕ) → IsTypicalOf rows defs def m → 0 < m
  typical_low def m is =
      let h : 1 ≤ m = median_above (ticks_in rows defs def) m 1 is
      (ticks_all (λ n. 1 ≤ n) rows defs def (λ r there e. let low : 1 ≤ ticks_of rows r = omega (arith, hr.ticks_low r there) in low)) in
      omega (arith, h)

  pub typical_high : (def m : ℕ) → IsTypicalOf rows defs def m → m ≤ MOST_TICKS
  typical_high def m is = median_below (ticks_in rows defs def) m MOST_TICKS is
      (ticks_all (λ n. n ≤ MOST_TICKS) rows defs def (λ r there e. hr.ticks_high r there))

-- ---- a last child in rows that are alike but for their offsets

last_in : (rows after : List Row) (f : ℕ → ℕ) (n p last : ℕ) → ((r : ℕ) → parent_of after r ≡ parent_of rows r) → ((a : ℕ) → a < n → offset_of after a ≡ f a)
    → IsLast after n p last → IsLastIn rows f n p last
last_in rows after f n p last parents offsets l = record {
  none_above = λ a some below child. omega (arith, offsets a below, l.none_above a some below (parents a ∙ child));
  reached = elim l.reached [
    | inl e ↦ inl e
    | inr (a, some, below, child, is) ↦ inr (a, some, below, sym (parents a) ∙ child, sym (offsets a below) ∙ is)
  ];
}

-- ---- rows with typical ticks are rows

module _ (rows : List Row) (hr : IsRows rows) (defs : List ℕ) (whole : length defs ≡ length rows) (after : List Row) (t : IsTypical rows defs after) where
  parents : (r : ℕ) → parent_of after r ≡ parent_of rows r
  parents = same_parents rows after t.same

  within : (r : ℕ) → r < length after → r < length rows
  within r h = omega (arith, t.whole, h)

  -- the typical ticks of each row's def
  abbrev middle : ℕ → ℕ
  middle r = middle_of (ticks_in rows defs (slice_index defs r))

  middle_typical : (r : ℕ) → r < length rows → IsTypicalOf rows defs (slice_index defs r) (middle r)
  middle_typical r here = middle_is (ticks_in rows defs (slice_index defs r)) (ticks_some rows defs r whole here)

  middle_high : (r : ℕ) → r < length rows → middle r ≤ MOST_TICKS
  middle_high r here = typical_high rows hr defs (slice_index defs r) (middle r) (middle_typical r here)

  middle_low : (r : ℕ) → r < length rows → 0 < middle r
  middle_low r here = typical_low rows hr defs (slice_index defs r) (middle r) (middle_typical r here)

  parent_there : (b : ℕ) → 0 < b → b < length rows → parent_of rows b < length rows
  parent_there b some here = omega (arith, hr.parent_before b some here, here)

  own_offset : (b : ℕ) → 0 < b → b < length rows → IsOffset rows middle (offset_of after) b
  own_offset b some here =
      let last = last_exists after b (parent_of rows b) in
      record {
        elder = last.0;
        elder_is = last_in rows after (offset_of after) b (parent_of rows b) last.0 parents (λ a below. refl) last.1;
        is = t.offsets b last.0 (middle (parent_of rows b)) some here last.1 (middle_typical (parent_of rows b) (parent_there b some here));
      }

  offset_few : (b : ℕ) → 0 < b → b < length rows → offset_of after b ≤ MOST_TICKS
  offset_few b some here = le_through (offset_of after b) (most rows hr middle b) MOST_TICKS
      (offsets_low rows hr middle (offset_of after) (length rows) (omega arith) own_offset b some here)
      (most_low rows hr middle middle_high b some here)

  ticks_are : (r last : ℕ) → r < length rows → IsLast after (length after) r last → ticks_of after r ≡ max (middle r) last
  ticks_are r last here l = t.ticks r last (middle r) here l (middle_typical r here)

  last_few : (r last : ℕ) → IsLast after (length after) r last → last ≤ MOST_TICKS
  last_few r last l = elim l.reached [
    | inl e ↦ omega (arith, e)
    | inr (a, some, below, child, is) ↦ omega (arith, is, offset_few a some (within a below))
  ]

  low : (r : ℕ) → r < length rows → 0 < ticks_of after r
  low r here = let last = last_exists after (length after) r in omega (arith, ticks_are r last.0 here last.1, middle_low r here)

  high : (r : ℕ) → r < length rows → ticks_of after r ≤ MOST_TICKS
  high r here =
      let last = last_exists after (length after) r in
      omega (arith, ticks_are r last.0 here last.1, middle_high r here, last_few r last.0 last.1)

  covers : (r : ℕ) → 0 < r → r < length rows → offset_of after r ≤ ticks_of after (parent_of rows r)
  covers r some here =
      let last = last_exists after (length after) (parent_of rows r) in
      omega (
        arith,
        ticks_are (parent_of rows r) last.0 (parent_there r some here) last.1,
        last.1.none_above r some (omega (arith, t.whole, here)) (parents r),
      )

  above : (r : ℕ) → 0 < r → r < length rows → 0 < offset_of after r
  above r some here = omega (arith, (own_offset r some here).is)

  rise : (a b : ℕ) → 0 < a → a < b → b < length rows → parent_of rows a ≡ parent_of rows b → offset_of after a < offset_of after b
  rise a b some before here same =
      let own = own_offset b (omega (arith, some, before)) here in
      omega (arith, own.is, own.elder_is.none_above a some before same)

  pub typical_rows_are : IsRows after
  typical_rows_are = record {
    not_empty = omega (arith, t.whole, hr.not_empty);
    not_many = omega (arith, t.whole, hr.not_many);
    cowns_rise = λ r h. subst IsStrictlyIncreasing (sym (same_cowns rows after t.same r)) (hr.cowns_rise r (within r h));
    cowns_below = λ r h. subst (All (λ c. c < MOST_COWNS)) (sym (same_cowns rows after t.same r)) (hr.cowns_below r (within r h));
    written_own = λ r h. subst (λ (x : List ℕ). AreAmong x (written_of after r)) (sym (same_cowns rows after t.same r))
        (subst (AreAmong (cowns_of rows r)) (sym (same_written rows after t.same r)) (hr.written_own r (within r h)));
    main_parent = parents 0 ∙ hr.main_parent;
    main_offset = t.main_offset ∙ hr.main_offset;
    main_cowns = same_cowns rows after t.same 0 ∙ hr.main_cowns;
    parent_before = λ r some h. omega (arith, parents r, hr.parent_before r some (within r h));
    offset_above = λ r some h. above r some (within r h);
    offsets_rise = λ a b some before h same. rise a b some before (within b h) (sym (parents a) ∙ same ∙ parents b);
    ticks_low = λ r h. low r (within r h);
    ticks_high = λ r h. high r (within r h);
    ticks_cover = λ r some h. omega (arith, covers r some (within r h), ap (ticks_of after) (parents r));
  }

-- ---- the rows that are made

some_row : (rows : List Row) (r : ℕ) → r < length rows → (x : Row) × (slice_get rows r ≡ Some x)
some_row [] r h = absurd (omega (arith, h))
some_row (x ∷ rows) r h = (get_or (x ∷ rows) r x, slice_get-get_or (x ∷ rows) r x h)

-- the ticks that rows are to take are within the limits
pub middles_within : (rows : List Row) (defs typical middles : List ℕ) (bound : ℕ) → IsRows rows → length defs ≡ length rows → All (λ d. d < bound) defs
    → AreTypicalTicks rows defs bound typical → AreMiddlesBy defs typical middles → AreMiddles rows middles
middles_within rows defs typical middles bound hr whole below t k =
    let is : (r : ℕ) → r < length rows → IsTypicalOf rows defs (slice_index defs r) (slice_index middles r)
    = λ r here. middles_typical rows defs typical middles bound whole below t k r here in
    record {
      whole = k.whole ∙ whole;
      low = λ r here. typical_low rows hr defs (slice_index defs r) (slice_index middles r) (is r here);
      high = λ r here. typical_high rows hr defs (slice_index defs r) (slice_index middles r) (is r here);
    }
  where
    middles_typical : (rows : List Row) (defs typical middles : List ℕ) (bound : ℕ) → length defs ≡ length rows → All (λ d. d < bound) defs
        → AreTypicalTicks rows defs bound typical → AreMiddlesBy defs typical middles → (r : ℕ) → r < length rows
        → IsTypicalOf rows defs (slice_index defs r) (slice_index middles r)
    middles_typical rows defs typical middles bound whole below t k r here = rw (k.each r (omega (arith, whole, here)))
        (t.each (slice_index defs r) (All-get_or (λ d. d < bound) defs r 0 (omega (arith, whole, here)) below) (ticks_some rows defs r whole here))

module _ (rows : List Row) (hr : IsRows rows) (defs typical middles : List ℕ) (bound : ℕ) (whole : length defs ≡ length rows)
    (below : All (λ d. d < bound) defs) (t : AreTypicalTicks rows defs bound typical) (k : AreMiddlesBy defs typical middles) (offsets lasts : List ℕ)
    (o : AreOffsets rows middles offsets lasts) (list : List Row) (made : AreTimed rows middles offsets lasts list) where
  own_typical : (r : ℕ) → r < length rows → IsTypicalOf rows defs (slice_index defs r) (slice_index middles r)
  own_typical r here = rw (k.each r (omega (arith, whole, here)))
      (t.each (slice_index defs r) (All-get_or (λ d. d < bound) defs r 0 (omega (arith, whole, here)) below) (ticks_some rows defs r whole here))

  made_at : (r : ℕ) → r < length rows
      → (x : Row) × (slice_get rows r ≡ Some x)
      × (slice_get list r ≡ Some (record x { offset = slice_index offsets r; ticks = max (slice_index middles r) (slice_index lasts r) }))
  made_at r here = let x = some_row rows r here in (x.0, x.1, made.each r x.0 here x.1)

  made_same : (r : ℕ) → IsSameBut (slice_get rows r) (slice_get list r)
  made_same r = elim (cases_lt r (length rows)) [
    | inl here ↦ (let x = made_at r here in rw (x.1, x.2) refl)
    | inr out ↦ rw (slice_get_past rows r out, slice_get_past list r (omega (arith, out, made.whole))) tt
  ]

  made_offset : (r : ℕ) → r < length rows → offset_of list r ≡ slice_index offsets r
  made_offset r here = let x = made_at r here in rw x.2 refl

  made_ticks : (r : ℕ) → r < length rows → ticks_of list r ≡ max (slice_index middles r) (slice_index lasts r)
  made_ticks r here = let x = made_at r here in rw x.2 refl

  made_last : (n p last : ℕ) → n ≤ length rows → IsLast list n p last → IsLastIn rows (slice_index offsets) n p last
  made_last n p last within l = last_in rows list (slice_index offsets) n p last (same_parents rows list made_same)
      (λ a less. made_offset a (omega (arith, less, within))) l

  same_elder : (b elder : ℕ) → b < length rows → IsLast list b (parent_of rows b) elder
      → (own : IsOffset rows (slice_index middles) (slice_index offsets) b) → own.elder ≡ elder
  same_elder b elder here l own = one_last_in rows (slice_index offsets) b (parent_of rows b) own.elder elder own.elder_is
      (made_last b (parent_of rows b) elder (omega (arith, here)) l)

  made_spread : (b m : ℕ) → 0 < b → b < length rows → IsTypicalOf rows defs (slice_index defs (parent_of rows b)) m
      → slice_index middles (parent_of rows b) ≡ m
  made_spread b m some here is = one_median (ticks_in rows defs (slice_index defs (parent_of rows b))) (slice_index middles (parent_of rows b)) m
      (own_typical (parent_of rows b) (omega (arith, hr.parent_before b some here, here))) is

  pub made_typical : IsTypical rows defs list
  made_typical = record {
    whole = made.whole;
    same = made_same;
    main_offset = made_offset 0 hr.not_empty ∙ o.main ∙ sym hr.main_offset;
    offsets = λ b elder m some here l is.
        let own = o.each b some here in
        made_offset b here ∙ own.is ∙ rw (made_spread b m some here is, same_elder b elder here l own) refl;
    ticks = λ r last m here l is.
        made_ticks r here ∙ rw (
          one_median (ticks_in rows defs (slice_index defs r)) (slice_index middles r) m (own_typical r here) is,
          one_last_in rows (slice_index offsets) (length rows) r (slice_index lasts r) last (o.lasts_are r)
              (made_last (length rows) r last (omega arith) (subst (λ (n : ℕ). IsLast list n r last) made.whole l)),
        ) refl;
  }

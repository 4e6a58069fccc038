-- Rows of which those of a def spawn as early as they can are rows of a record.
use Rattle.std.proofs.Common.{◌≡◌, ◌∙◌, ◌⊎◌, inl, inr, ℕ, zero, suc, ◌<◌, ◌≤◌, List, length, ap, refl, sym, arith}
use Rattle.std.specs.Option.{option_map_or}
use Rattle.std.specs.Prelude.{[], slice_get, slice_index}
use Rattle.std.proofs.lemmas.Bool.{cases_eq, cases_lt}
use Rattle.std.proofs.lemmas.Option.{slice_get_past}
use Rattle.boc_runs.specs.declared.rows.Row.{Row}
use Rattle.boc_runs.specs.Rows.{IsRows, cowns_of, offset_of, parent_of, ticks_of, written_of}
use Rattle.boc_runs.proofs.Scaling.{last_exists}
use Rattle.boc_why.specs.Causes.{AreSpawnedEarly, IsSpawnedBy}
use Rattle.boc_why.proofs.EarlierSpawns.{some_row, up_to}

module _ (rows : List Row) (defs : List ℕ) (def : ℕ) (after : List Row) (s : AreSpawnedEarly rows defs def after) where
  -- nothing but offsets changes
  same_read : {X : Type 0} (f : Row → X) (d : X) → ((x : Row) (k : ℕ) → f (record x { offset = k }) ≡ f x) → (r : ℕ)
      → option_map_or f (slice_get after r) d ≡ option_map_or f (slice_get rows r) d
  same_read f d keeps r = elim (cases_lt r (length rows)) [
    | inl there ↦ (
        let x = some_row rows r there in
        let y = some_row after r (omega (arith, there, s.whole)) in
        rw (x.1, y.1) (ap f (s.same r x.0 y.0 x.1 y.1) ∙ keeps x.0 y.0.offset))
    | inr out ↦ rw (slice_get_past rows r out, slice_get_past after r (omega (arith, out, s.whole))) refl
  ]

  parents : (r : ℕ) → parent_of after r ≡ parent_of rows r
  parents = same_read (λ x. x.parent) 0 (λ x k. refl)

  ticks : (r : ℕ) → ticks_of after r ≡ ticks_of rows r
  ticks = same_read (λ x. x.ticks) 0 (λ x k. refl)

  cowns : (r : ℕ) → cowns_of after r ≡ cowns_of rows r
  cowns = same_read (λ x. x.cowns.items) [] (λ x k. refl)

  written : (r : ℕ) → written_of after r ≡ written_of rows r
  written = same_read (λ x. x.written.items) [] (λ x k. refl)

  within : (r : ℕ) → r < length after → r < length rows
  within r h = omega (arith, s.whole, h)

  is_spawned : (b : ℕ) → IsSpawnedBy rows defs def b ⊎ (IsSpawnedBy rows defs def b → ⊥)
  is_spawned b = elim (cases_lt 0 b) [
    | inl some ↦ elim (cases_lt b (length rows)) [
      | inl there ↦ elim (cases_eq (slice_index defs (parent_of rows b)) def) [
        | inl own ↦ inl (some, there, own)
        | inr not ↦ inr (λ child. not child.2)
      ]
      | inr out ↦ inr (λ child. omega (arith, out, child.1))
    ]
    | inr none ↦ inr (λ child. omega (arith, none, child.0))
  ]

  module _ (hr : IsRows rows) where
    above : (r : ℕ) → 0 < r → r < length rows → 0 < offset_of after r
    above r some here = elim (is_spawned r) [
      | inl child ↦ (
          let elder = last_exists after r (parent_of rows r) in
          omega (arith, s.early r elder.0 child elder.1))
      | inr not ↦ omega (arith, s.others r not, hr.offset_above r some here)
    ]

    rise : (a b : ℕ) → 0 < a → a < b → b < length rows → parent_of rows a ≡ parent_of rows b → offset_of after a < offset_of after b
    rise a b some before here same = elim (is_spawned b) [
      | inl child ↦ (
          let elder = last_exists after b (parent_of rows b) in
          omega (arith, s.early b elder.0 child elder.1, elder.1.none_above a some before (parents a ∙ same)))
      | inr not ↦ omega (
        arith,
        s.others a (λ child. not (omega (arith, some, before), here, ap (slice_index defs) (sym same) ∙ child.2)),
        s.others b not,
        hr.offsets_rise a b some before here same,
      )
    ]

    -- a row is spawned no later than before, where no row before it is
    no_later : (n : ℕ) → ((a : ℕ) → a < n → offset_of after a ≤ offset_of rows a) → offset_of after n ≤ offset_of rows n
    no_later n before = elim (is_spawned n) [
      | inl child ↦ (
          let elder = last_exists after n (parent_of rows n) in
          elim elder.1.reached [
            | inl none ↦ omega (arith, none, s.early n elder.0 child elder.1, hr.offset_above n child.0 child.1)
            | inr (a, some, below, parent, is) ↦ omega (
              arith,
              is,
              s.early n elder.0 child elder.1,
              before a below,
              hr.offsets_rise a n some below child.1 (sym (parents a) ∙ parent),
            )
          ])
      | inr not ↦ omega (arith, s.others n not)
    ]

    none_later : (n b : ℕ) → b < n → offset_of after b ≤ offset_of rows b
    none_later zero b below = absurd (omega (arith, below))
    none_later (suc n) b below = elim (up_to b n (omega (arith, below))) [
      | inl e ↦ rw e (no_later n (none_later n))
      | inr less ↦ none_later n b less
    ]

    pub rows_early : IsRows after
    rows_early = record {
      not_empty = omega (arith, s.whole, hr.not_empty);
      not_many = omega (arith, s.whole, hr.not_many);
      cowns_rise = λ r h. rw (cowns r) (hr.cowns_rise r (within r h));
      cowns_below = λ r h. rw (cowns r) (hr.cowns_below r (within r h));
      written_own = λ r h. rw (cowns r, written r) (hr.written_own r (within r h));
      main_parent = parents 0 ∙ hr.main_parent;
      main_offset = s.others 0 (λ child. omega (arith, child.0)) ∙ hr.main_offset;
      main_cowns = cowns 0 ∙ hr.main_cowns;
      parent_before = λ r some h. omega (arith, parents r, hr.parent_before r some (within r h));
      offset_above = λ r some h. above r some (within r h);
      offsets_rise = λ a b some before h same. rise a b some before (within b h) (sym (parents a) ∙ same ∙ parents b);
      ticks_low = λ r h. omega (arith, ticks r, hr.ticks_low r (within r h));
      ticks_high = λ r h. omega (arith, ticks r, hr.ticks_high r (within r h));
      ticks_cover = λ r some h. rw (parents r, ticks (parent_of rows r))
          (omega (arith, none_later (suc r) r (omega arith), hr.ticks_cover r some (within r h)));
    }

-- The spans of rows, each with one row spawned as early as it can be.
use Rattle.std.proofs.Common.{◌≡◌, ℕ, zero, suc, ◌+◌, ◌*◌, ◌<◌, ◌≤◌, ◌⊎◌, max, List, length, get_or, Option, inl, inr, refl, ap, sym, ◌∙◌, subst, arith}
use Rattle.std.specs.Prelude.{slice_index}
use Rattle.std.proofs.lemmas.Bool.{cases_lt, cases_eq}
use Rattle.std.proofs.lemmas.List.{get_or_default, get_or_read}
use Rattle.std.proofs.lemmas.List.Elements.{Contains-get_or}
use Rattle.boc_program.specs.declared.limits.TheConstants.{MOST_ROWS, MOST_TICKS}
use Rattle.boc_runs.specs.declared.rows.Row.{Row}
use Rattle.boc_runs.specs.Rows.{IsRows, IsLast, parent_of, offset_of}
use Rattle.boc_runs.specs.Changes.{FitsAt, moved}
use Rattle.boc_plans.specs.Plans.{start_of}
use Rattle.boc_plans.specs.Edits.{IsEarlySpan}
use Rattle.boc_plans.specs.Greedy.{IsSpan}
use Rattle.boc_order.specs.Placed.{ArePlaced}
use Rattle.boc_order.specs.Waits.{AreWaits, HasWaits, links_of}
use Rattle.boc_sweep.specs.declared.chosen.Parts.{Parts}
use Rattle.boc_sweep.specs.declared.sweeping.Cut.TheVariants.{Before}
use Rattle.boc_sweep.specs.Cuts.{HasTails}
use Rattle.boc_sweep.specs.Bases.{AreTopsOver, IsEarlyBase, IsEarlyLeft}
use Rattle.boc_sweep.specs.Chosen.{AreChosen, AreParts, IsChosen, IsRead}
use Rattle.boc_sweep.specs.Spawns.{HasElders, IsReadyAt}
use Rattle.boc_sweep.proofs.Standing.{has_end}
use Rattle.boc_plans.proofs.Children.{rows_fit, parent_there}
use Rattle.boc_sweep.proofs.Choosing.{has_place}
use Rattle.boc_sweep.proofs.Tailing.{offset_small}
use Rattle.boc_sweep.proofs.Nearest.{span_is_tail}
use Rattle.boc_sweep.proofs.Spanning.{none_heavier, own_low, own_or_other, start_low, end_low}
use Rattle.boc_sweep.proofs.MovedLinks.{early_is_span, early_same}

-- a row can be spawned one tick after its elder sibling, or at its parent's tick 1
module _ (rows : List Row) (hr : IsRows rows) (row elder : ℕ) (child : 0 < row) (there : row < length rows) (last : IsLast rows row (parent_of rows row) elder)
  where
    pub elder_before : elder < offset_of rows row
    elder_before = elim last.reached [
      | inl z ↦ omega (arith, z, hr.offset_above row child there)
      | inr (a, above, below, same, is) ↦ omega (arith, is, hr.offsets_rise a row above below there same)
    ]

    pub early_fits : FitsAt rows row (elder + 1)
    early_fits = record {
      child = child;
      there = there;
      above = omega arith;
      after_elder = λ a above below same. omega (arith, last.none_above a above below same);
      before_younger = λ b later below same. omega (arith, elder_before, hr.offsets_rise row b child later below (sym same));
      within = omega (arith, elder_before, hr.ticks_cover row child there);
    }

-- the ends of the waits so far have been seen
pub record ReadyTo (spawned : ℕ) (waits ends : List ℕ) (k tick : ℕ) : Type 0 where
  pub after_spawn : spawned ≤ tick
  pub after_waits : (i : ℕ) → i < k → slice_index ends (slice_index waits i) ≤ tick
  pub reached : (tick ≡ spawned) ⊎ ((i : ℕ) × (i < k) × (slice_index ends (slice_index waits i) ≡ tick))

pub ready_none : (spawned : ℕ) (waits ends : List ℕ) → ReadyTo spawned waits ends 0 spawned
ready_none spawned waits ends = record { after_spawn = omega arith; after_waits = λ i h. absurd (omega (arith, h)); reached = inl refl }

pub ready_more : (spawned : ℕ) (waits ends : List ℕ) (k tick now : ℕ) → now ≡ max (slice_index ends (slice_index waits k)) tick →
    ReadyTo spawned waits ends k tick → ReadyTo spawned waits ends (k + 1) now
ready_more spawned waits ends k tick now is r = record {
  after_spawn = omega (arith, is, r.after_spawn);
  after_waits = λ i h. elim (cases_eq i k) [
    | inl e ↦ rw e (omega (arith, is))
    | inr ne ↦ omega (arith, is, r.after_waits i (omega arith))
  ];
  reached = elim (cases_lt tick (slice_index ends (slice_index waits k))) [
    | inl l ↦ inr (k, omega arith, omega (arith, is, l))
    | inr g ↦ (
        let same : tick ≡ now = omega (arith, is, g) in
        elim r.reached [
          | inl e ↦ inl (sym same ∙ e)
          | inr (i, h, e) ↦ inr (i, omega (arith, h), e ∙ same)
        ])
  ];
}

pub ready_all : (spawned : ℕ) (waits ends : List ℕ) (tick : ℕ) → ReadyTo spawned waits ends (length waits) tick → IsReadyAt spawned waits ends tick
ready_all spawned waits ends tick r = record {
  after_spawn = r.after_spawn;
  after_waits = λ a k. (let at : slice_index waits k.0 ≡ a = get_or_default waits k.0 0 a k.1 ∙ k.2 in
      subst (λ (x : ℕ). slice_index ends x ≤ tick) at (r.after_waits k.0 k.1));
  reached = elim r.reached [
    | inl e ↦ inl e
    | inr (i, h, e) ↦ inr (slice_index waits i, Contains-get_or waits i 0 h, e)
  ];
}

-- no row is ready late
pub ready_low : (rows : List Row) → IsRows rows → (starts ends : List ℕ) (after : List (Option ℕ)) → ArePlaced rows starts ends after (length rows) →
    (row : ℕ) → row < length rows → (waits : List ℕ) → HasWaits rows row waits → (spawned ready most : ℕ) → MOST_ROWS * MOST_TICKS ≤ most →
    spawned ≤ most → IsReadyAt spawned waits ends ready → ready ≤ most
ready_low rows hr starts ends after placed row there waits has_waits spawned ready most more low r = elim r.reached [
  | inl e ↦ omega (arith, e, low)
  | inr (a, k, e) ↦ omega (arith, e, more, end_low rows hr starts ends after placed a (omega (arith, (has_waits.sound a k).near.before, there)))
]

-- what is read of a row is small: its parent's start, its offset, and the way on from its start
pub record AreSmall (start_tick tail offset : ℕ) : Type 0 where
  pub start_low : start_tick ≤ MOST_ROWS * MOST_TICKS
  pub tail_low : tail ≤ MOST_ROWS * MOST_TICKS
  pub offset_low : offset ≤ MOST_TICKS

pub are_small : (rows : List Row) → IsRows rows → (starts ends : List ℕ) (after : List (Option ℕ)) → ArePlaced rows starts ends after (length rows) →
    (from_starts from_ends : List ℕ) → HasTails rows from_starts from_ends → (row : ℕ) → row < length rows → (parent start_tick tail offset : ℕ)
    → parent ≡ parent_of rows row → start_tick ≡ get_or starts parent start_tick → tail ≡ get_or from_starts row tail → offset ≡ offset_of rows row
    → AreSmall start_tick tail offset
are_small rows hr starts ends after placed from_starts from_ends tails row there parent start_tick tail offset is at_start at_tail is_offset =
    let low : parent_of rows row < length rows = parent_there rows row (rows_fit rows hr row there) there in
    record {
      start_low = omega (
        arith,
        get_or_read starts parent start_tick (omega (arith, is, low, placed.starts_len)) at_start 0,
        ap (slice_index starts) is,
        start_low rows hr starts ends after placed (parent_of rows row) low,
      );
      tail_low = omega (arith, get_or_read from_starts row tail (omega (arith, there, tails.starts_len)) at_tail 0, tails.low row there);
      offset_low = omega (arith, is_offset, offset_small rows hr row there);
    }

-- the tick at which a row would be ready
ready_upto : (spawned : ℕ) (waits ends : List ℕ) (k : ℕ) → (tick : ℕ) × ReadyTo spawned waits ends k tick
ready_upto spawned waits ends zero = (spawned, ready_none spawned waits ends)
ready_upto spawned waits ends (suc k) =
    let p = ready_upto spawned waits ends k in
    let same : k + 1 ≡ suc k = omega arith in
    let now : ℕ = max (slice_index ends (slice_index waits k)) p.0 in
    (now, subst (λ (n : ℕ). ReadyTo spawned waits ends n now) same (ready_more spawned waits ends k p.0 now refl p.1))

-- the spans, each with one row spawned as early as it can be
module _ (rows : List Row) (hr : IsRows rows) (links : List (List ℕ)) (are_waits : AreWaits rows links) (starts ends : List ℕ) (after : List (Option ℕ))
    (placed : ArePlaced rows starts ends after (length rows)) (from_starts from_ends : List ℕ) (tails : HasTails rows from_starts from_ends)
    (elders : List ℕ) (elders_are : HasElders rows elders) (parts : Parts)
    (chosen : AreChosen (IsEarlyLeft rows elders starts from_starts) (IsEarlyBase rows elders starts ends from_starts) (length rows) parts.chosen.now)
    (over : AreTopsOver Before rows starts from_starts parts.chosen.now parts.tops.now) (is_span : parts.span ≡ slice_index from_starts 0) where
  early_by : (v span : ℕ) → 0 < v → v < length rows → IsSpan (moved rows v (slice_index elders v + 1)) span → IsEarlySpan rows v span
  early_by v span child there is = record {
    least = slice_index elders v + 1;
    is_least = record { elder = slice_index elders v; is_elder = elders_are.at v there; is = refl };
    is_span = is;
  }

  -- of a chosen row
  early_chosen : (v span : ℕ) → v < length rows → IsChosen parts.chosen.now.before.items v → IsRead parts v span → IsEarlySpan rows v span
  early_chosen v span there c read =
      let e = has_end rows hr starts in
      let counts = chosen.counts in
      let place : ℕ = slice_index parts.chosen.now.before.items v in
      let base : ℕ = slice_index parts.chosen.now.bases.items place in
      let b : IsEarlyBase rows elders starts ends from_starts v base = chosen.at v there c in
      let own : ℕ = b.ready + slice_index from_starts v in
      let floor : parts.chosen.now.floor ≤ base = chosen.low place (has_place (length rows) parts.chosen.now counts v there c) in
      let is = read.chosen c in
      early_by v span b.child there (early_is_span rows hr starts ends after from_starts from_ends placed e.0 e.1 tails v (slice_index elders v + 1)
      (early_fits rows hr v (slice_index elders v) b.child there (elders_are.at v there)) b.waits b.has_waits b.ready b.is_ready span
      (none_heavier Before rows starts from_starts parts.chosen.now counts parts.tops.now over v there c own base span b.over floor is)
      (own_low Before rows starts from_starts parts.chosen.now counts parts.tops.now over v there c own base span b.over floor is)
      (own_or_other Before rows starts from_starts parts.chosen.now counts parts.tops.now over v there c own base span b.over floor is))

  -- of a row that is left out
  early_left : (v span : ℕ) → 0 < v → v < length rows
      → slice_index parts.chosen.now.before.items (v + 1) ≤ slice_index parts.chosen.now.before.items v → IsRead parts v span → IsEarlySpan rows v span
  early_left v span child there none read =
      let e = has_end rows hr starts in
      let last : slice_index from_starts 0 ≡ e.0 = span_is_tail rows hr starts ends after from_starts from_ends placed e.0 e.1 tails in
      let same : span ≡ e.0 = read.left none ∙ is_span ∙ last in
      let left : (offset_of rows v ≤ slice_index elders v + 1)
      ⊎ (start_of starts (parent_of rows v) + offset_of rows v + slice_index from_starts v < e.0) = rw last at (chosen.left v there none child) in
      let waits = links_of links v in
      let spawned : ℕ = start_of starts (parent_of rows v) + (slice_index elders v + 1) in
      let ready = ready_upto spawned waits ends (length waits) in
      let older : slice_index elders v < offset_of rows v = elder_before rows hr v (slice_index elders v) child there (elders_are.at v there) in
      early_by v span child there (early_same rows hr starts ends after from_starts from_ends placed e.0 e.1 tails v (slice_index elders v + 1)
      (early_fits rows hr v (slice_index elders v) child there (elders_are.at v there)) waits (are_waits.at v there) ready.0
      (ready_all spawned waits ends ready.0 ready.1) span same (omega (arith, older)) left)

  pub early_parts : AreParts (λ row span. 0 < row → IsEarlySpan rows row span) (length rows) parts
  early_parts = record {
    whole = chosen.counts.whole;
    based = has_place (length rows) parts.chosen.now chosen.counts;
    topped = over.tops_are.whole;
    at = λ v span there read child.
        elim (cases_lt (slice_index parts.chosen.now.before.items v) (slice_index parts.chosen.now.before.items (v + 1))) [
          | inl c ↦ early_chosen v span there c read
          | inr none ↦ early_left v span child there none read
        ];
  }

-- Rows of which one takes other ticks: what changes, and what stays.
use Rattle.std.proofs.Common.{◌≡◌, ◌≢◌, ℕ, zero, suc, ◌<◌, ◌≤◌, List, [], ◌∷◌, length, refl, ap, sym, ◌∙◌, inl, inr, arith, get_or}
use Rattle.std.specs.Option.{option_map_or}
use Rattle.std.specs.Prelude.{slice_get, slice_set, max}
use Rattle.std.proofs.lemmas.Bool.{cases_eq}
use Rattle.boc_runs.specs.declared.rows.Row.{Row}
use Rattle.boc_runs.specs.Rows.{IsRows, IsLast, parent_of, offset_of, ticks_of, cowns_of, written_of, edited, Fits}

-- all but the ticks stays
pub length-edited : (rows : List Row) (row ticks : ℕ) → length (edited rows row ticks) ≡ length rows
length-edited [] row ticks = refl
length-edited (x ∷ rows) zero ticks = refl
length-edited (x ∷ rows) (suc row) ticks = ap suc (length-edited rows row ticks)

-- what a row tells besides its ticks stays
kept_edited : {X : Type 0} (f : Row → X) (d : X) → ((x : Row) (ticks : ℕ) → f (record x { ticks = ticks }) ≡ f x) → (rows : List Row) (row ticks r : ℕ)
    → option_map_or f (slice_get (edited rows row ticks) r) d ≡ option_map_or f (slice_get rows r) d
kept_edited f d keeps [] row ticks r = refl
kept_edited f d keeps (x ∷ rows) zero ticks zero = keeps x ticks
kept_edited f d keeps (x ∷ rows) zero ticks (suc r) = refl
kept_edited f d keeps (x ∷ rows) (suc row) ticks zero = refl
kept_edited f d keeps (x ∷ rows) (suc row) ticks (suc r) = kept_edited f d keeps rows row ticks r

pub parent_of-edited : (rows : List Row) (row ticks r : ℕ) → parent_of (edited rows row ticks) r ≡ parent_of rows r
parent_of-edited = kept_edited (λ (x : Row). x.parent) 0 (λ x ticks. refl)

pub offset_of-edited : (rows : List Row) (row ticks r : ℕ) → offset_of (edited rows row ticks) r ≡ offset_of rows r
offset_of-edited = kept_edited (λ (x : Row). x.offset) 0 (λ x ticks. refl)

pub cowns_of-edited : (rows : List Row) (row ticks r : ℕ) → cowns_of (edited rows row ticks) r ≡ cowns_of rows r
cowns_of-edited = kept_edited (λ (x : Row). x.cowns.items) [] (λ x ticks. refl)

pub written_of-edited : (rows : List Row) (row ticks r : ℕ) → written_of (edited rows row ticks) r ≡ written_of rows r
written_of-edited = kept_edited (λ (x : Row). x.written.items) [] (λ x ticks. refl)

pub ticks_of-edited_other : (rows : List Row) (row ticks r : ℕ) → r ≢ row → ticks_of (edited rows row ticks) r ≡ ticks_of rows r
ticks_of-edited_other [] row ticks r ne = refl
ticks_of-edited_other (x ∷ rows) zero ticks zero ne = absurd (ne refl)
ticks_of-edited_other (x ∷ rows) zero ticks (suc r) ne = refl
ticks_of-edited_other (x ∷ rows) (suc row) ticks zero ne = refl
ticks_of-edited_other (x ∷ rows) (suc row) ticks (suc r) ne = ticks_of-edited_other rows row ticks r (λ e. ne (ap suc e))

pub ticks_of-edited_same : (rows : List Row) (row ticks : ℕ) → row < length rows → ticks_of (edited rows row ticks) row ≡ ticks
ticks_of-edited_same [] row ticks h = absurd (omega arith)
ticks_of-edited_same (x ∷ rows) zero ticks h = refl
ticks_of-edited_same (x ∷ rows) (suc row) ticks h = ticks_of-edited_same rows row ticks (omega arith)

-- an edit is undone by the ticks that the row had
pub edited_back : (rows : List Row) (row ticks : ℕ) → edited (edited rows row ticks) row (ticks_of rows row) ≡ rows
edited_back [] row ticks = refl
edited_back (x ∷ rows) zero ticks = refl
edited_back (x ∷ rows) (suc row) ticks = ap (λ (xs : List Row). x ∷ xs) (edited_back rows row ticks)

-- the edited rows, where the row was read at its number
pub edited_read : (rows : List Row) (row ticks : ℕ) (x : Row) → row < length rows → x ≡ get_or rows row x →
    slice_set rows row (record x { ticks = ticks }) ≡ edited rows row ticks
edited_read [] row ticks x h e = absurd (omega arith)
edited_read (y ∷ rows) zero ticks x h e = rw e refl
edited_read (y ∷ rows) (suc row) ticks x h e = ap (λ (xs : List Row). y ∷ xs) (edited_read rows row ticks x (omega arith) e)

-- the last child of a row stays
pub last_edited : (rows : List Row) (row ticks n p last : ℕ) → IsLast rows n p last → IsLast (edited rows row ticks) n p last
last_edited rows row ticks n p last l = record {
  none_above = λ a above below same. omega (
    arith,
    offset_of-edited rows row ticks a,
    l.none_above a above below
        (sym (parent_of-edited rows row ticks a) ∙ same),
  );
  reached = elim l.reached [
    | inl e ↦ inl e
    | inr (a, above, below, same, is) ↦ inr (a, above, below, parent_of-edited rows row ticks a ∙ same, offset_of-edited rows row ticks a ∙ is)
  ];
}

last_le : (rows : List Row) (n p a b : ℕ) → IsLast rows n p a → IsLast rows n p b → a ≤ b
last_le rows n p a b l m = elim l.reached [
  | inl e ↦ omega arith
  | inr (k, above, below, same, is) ↦ omega (arith, m.none_above k above below same)
]

-- a row has one last child
pub one_last : (rows : List Row) (n p a b : ℕ) → IsLast rows n p a → IsLast rows n p b → a ≡ b
one_last rows n p a b l m = omega (arith, last_le rows n p a b l m, last_le rows n p b a m l)

-- the edited rows are the rows of a record
module _ (rows : List Row) (hr : IsRows rows) (row ticks : ℕ) (f : Fits rows row ticks) where
  covers : (r : ℕ) → 0 < r → r < length rows → offset_of rows r ≤ ticks_of (edited rows row ticks) (parent_of rows r)
  covers r above there = elim (cases_eq (parent_of rows r) row) [
    | inl e ↦ rw e (omega (arith, ticks_of-edited_same rows row ticks f.there, f.is_last.none_above r above there e, f.covers))
    | inr ne ↦ omega (arith, ticks_of-edited_other rows row ticks (parent_of rows r) ne, hr.ticks_cover r above there)
  ]

  range : (r : ℕ) → r < length rows → (0 < ticks_of (edited rows row ticks) r) × (ticks_of (edited rows row ticks) r ≤ 1000000)
  range r there = elim (cases_eq r row) [
    | inl e ↦ rw e (rw (ticks_of-edited_same rows row ticks f.there) (omega (arith, f.low), f.high))
    | inr ne ↦ rw (ticks_of-edited_other rows row ticks r ne) (hr.ticks_low r there, hr.ticks_high r there)
  ]

  within : (r : ℕ) → r < length (edited rows row ticks) → r < length rows
  within r h = omega (arith, length-edited rows row ticks)

  pub rows_edited : IsRows (edited rows row ticks)
  rows_edited = record {
    not_empty = omega (arith, length-edited rows row ticks, hr.not_empty);
    not_many = omega (arith, length-edited rows row ticks, hr.not_many);
    cowns_rise = λ r h. rw (cowns_of-edited rows row ticks r) (hr.cowns_rise r (within r h));
    cowns_below = λ r h. rw (cowns_of-edited rows row ticks r) (hr.cowns_below r (within r h));
    written_own = λ r h. rw (cowns_of-edited rows row ticks r, written_of-edited rows row ticks r) (hr.written_own r (within r h));
    main_parent = parent_of-edited rows row ticks 0 ∙ hr.main_parent;
    main_offset = offset_of-edited rows row ticks 0 ∙ hr.main_offset;
    main_cowns = cowns_of-edited rows row ticks 0 ∙ hr.main_cowns;
    parent_before = λ r above h. omega (arith, parent_of-edited rows row ticks r, hr.parent_before r above (within r h));
    offset_above = λ r above h. omega (arith, offset_of-edited rows row ticks r, hr.offset_above r above (within r h));
    offsets_rise = λ a b above before h same. omega (
      arith,
      offset_of-edited rows row ticks a,
      offset_of-edited rows row ticks b,
      hr.offsets_rise a b above before (within b h) (sym (parent_of-edited rows row ticks a) ∙ same ∙ parent_of-edited rows row ticks b),
    );
    ticks_low = λ r h. (range r (within r h)).0;
    ticks_high = λ r h. (range r (within r h)).1;
    ticks_cover = λ r above h. rw (offset_of-edited rows row ticks r, parent_of-edited rows row ticks r) (covers r above (within r h));
  }

-- the least ticks that a row can take
pub least_fits : (rows : List Row) → IsRows rows → (row last least : ℕ) → row < length rows → IsLast rows (length rows) row last → least ≡ max 1 last →
    Fits rows row least
least_fits rows hr row last least there l e = record {
  there = there;
  low = omega arith;
  high = elim l.reached [
    | inl z ↦ omega arith
    | inr (a, above, below, same, is) ↦ omega (arith, hr.ticks_cover a above below, hr.ticks_high row there, ap (ticks_of rows) same)
  ];
  last = last;
  is_last = l;
  covers = omega arith;
}

-- the same, where the rows are seen through their type
pub edited_seen : (seen rows : List Row) (row ticks : ℕ) (x : Row) → seen ≡ rows → row < length seen → x ≡ get_or rows row x →
    slice_set rows row (record x { ticks = ticks }) ≡ edited seen row ticks
edited_seen seen rows row ticks x same h e = rw same (edited_read rows row ticks x (omega (arith, ap (length {A = Row}) same)) e)

-- no row takes fewer ticks than it needs for its last child
pub last_le_ticks : (rows : List Row) → IsRows rows → (row last : ℕ) → row < length rows → IsLast rows (length rows) row last → last ≤ ticks_of rows row
last_le_ticks rows hr row last there l = elim l.reached [
  | inl z ↦ omega arith
  | inr (a, above, below, same, is) ↦ omega (arith, hr.ticks_cover a above below, ap (ticks_of rows) same)
]

-- an edited row can take its own ticks again
pub fits_back : (rows : List Row) → IsRows rows → (row ticks own : ℕ) → Fits rows row ticks → own ≡ ticks_of rows row → Fits (edited rows row ticks) row own
fits_back rows hr row ticks own f e = record {
  there = omega (arith, length-edited rows row ticks, f.there);
  low = omega (arith, e, hr.ticks_low row f.there);
  high = omega (arith, e, hr.ticks_high row f.there);
  last = f.last;
  is_last = rw (length-edited rows row ticks) (last_edited rows row ticks (length rows) row f.last f.is_last);
  covers = omega (arith, e, last_le_ticks rows hr row f.last f.there f.is_last);
}

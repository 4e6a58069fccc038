-- Rows of which one costs a part of what it did, and spawns its children so much sooner or later.
use Rattle.std.proofs.Common.{◌≡◌, ◌≢◌, ◌⊎◌, inl, inr, ℕ, zero, suc, ◌+◌, ◌*◌, ◌/◌, ◌<◌, ◌≤◌, max}
use Rattle.std.proofs.Common.{List, [], ◌∷◌, length, Option, Some, None, refl, ap, sym, ◌∙◌, subst, arith, get_or}
use Rattle.std.specs.Option.{option_map_or}
use Rattle.std.specs.Prelude.{slice_get}
use Rattle.std.proofs.Math.Nat.{le-mul_of_pos_right, mul-le-mul_right}
use Rattle.std.proofs.lemmas.Bool.{cases_eq}
use Rattle.std.proofs.lemmas.Nat.{div-add-mod'}
use Rattle.std.proofs.lemmas.Option.{slice_get_read}
use Rattle.boc_program.specs.declared.limits.TheConstants.{MOST_TICKS}
use Rattle.boc_runs.specs.declared.rows.Row.{Row}
use Rattle.boc_runs.specs.Rows.{IsRows, IsLast, parent_of, offset_of, ticks_of, cowns_of, written_of, edited}
use Rattle.boc_runs.specs.Changes.{IsSameBut, IsChildOf, IsScaled, moved, part_of}
use Rattle.boc_runs.proofs.Editing.{one_last, length-edited, offset_of-edited, parent_of-edited, ticks_of-edited_same, ticks_of-edited_other}
use Rattle.boc_runs.proofs.Moving.{length-moved, ticks_of-moved, parent_of-moved, offset_of-moved_same, offset_of-moved_other}

-- what stays of a row whose offset and ticks change
kept_same : {X : Type 0} (f : Row → X) (d : X) → ((x : Row) (offset ticks : ℕ) → f (record x { offset = offset; ticks = ticks }) ≡ f x)
    → (p q : Option Row) → IsSameBut p q → option_map_or f q d ≡ option_map_or f p d
kept_same f d keeps None None s = refl
kept_same f d keeps None (Some y) s = absurd s
kept_same f d keeps (Some x) None s = absurd s
kept_same f d keeps (Some x) (Some y) s = ap f s ∙ keeps x y.offset y.ticks

same_self : (p : Option Row) → IsSameBut p p
same_self None = tt
same_self (Some x) = refl

same_put_offset : (p : Option Row) (y : Row) (offset : ℕ) → IsSameBut p (Some y) → IsSameBut p (Some (record y { offset = offset }))
same_put_offset None y offset s = s
same_put_offset (Some x) y offset s = ap (λ (z : Row). record z { offset = offset }) s

same_put_ticks : (p : Option Row) (y : Row) (ticks : ℕ) → IsSameBut p (Some y) → IsSameBut p (Some (record y { ticks = ticks }))
same_put_ticks None y ticks s = s
same_put_ticks (Some x) y ticks s = ap (λ (z : Row). record z { ticks = ticks }) s

pub same_moved : (after : List Row) (n offset r : ℕ) (p : Option Row) → IsSameBut p (slice_get after r) → IsSameBut p (slice_get (moved after n offset) r)
same_moved [] n offset r p s = s
same_moved (y ∷ after) zero offset zero p s = same_put_offset p y offset s
same_moved (y ∷ after) zero offset (suc r) p s = s
same_moved (y ∷ after) (suc n) offset zero p s = s
same_moved (y ∷ after) (suc n) offset (suc r) p s = same_moved after n offset r p s

pub same_edited : (after : List Row) (n ticks r : ℕ) (p : Option Row) → IsSameBut p (slice_get after r) → IsSameBut p (slice_get (edited after n ticks) r)
same_edited [] n ticks r p s = s
same_edited (y ∷ after) zero ticks zero p s = same_put_ticks p y ticks s
same_edited (y ∷ after) zero ticks (suc r) p s = s
same_edited (y ∷ after) (suc n) ticks zero p s = s
same_edited (y ∷ after) (suc n) ticks (suc r) p s = same_edited after n ticks r p s

-- the last child is the same where parents and offsets are
pub last_of_same : (rows others : List Row) (n p last : ℕ) → ((a : ℕ) → a < n → parent_of others a ≡ parent_of rows a)
    → ((a : ℕ) → a < n → offset_of others a ≡ offset_of rows a) → IsLast rows n p last → IsLast others n p last
last_of_same rows others n p last parents offsets l = record {
  none_above = λ a some below same. omega (arith, offsets a below, l.none_above a some below (sym (parents a below) ∙ same));
  reached = elim l.reached [
    | inl e ↦ inl e
    | inr (a, some, below, same, is) ↦ inr (a, some, below, parents a below ∙ same, offsets a below ∙ is)
  ];
}

pub less_or_more : (a b : ℕ) → (a ≤ b) ⊎ (b < a)
less_or_more zero b = inl (omega arith)
less_or_more (suc a) zero = inr (omega arith)
less_or_more (suc a) (suc b) = elim (less_or_more a b) [
  | inl low ↦ inl (omega (arith, low))
  | inr high ↦ inr (omega (arith, high))
]

pub up_to : (a n : ℕ) → a < n + 1 → (a ≡ n) ⊎ (a < n)
up_to a n h = elim (cases_eq a n) [
  | inl e ↦ inl e
  | inr ne ↦ inr (grind (arith, h, ne))
]

-- a row that is no child of p leaves the last child as it is
pub last_skips : (rows : List Row) (n p last : ℕ) → (0 < n → parent_of rows n ≢ p) → IsLast rows n p last → IsLast rows (n + 1) p last
last_skips rows n p last not l = record {
  none_above = λ a some below same. elim (up_to a n below) [
    | inl e ↦ absurd (not (omega (arith, e, some)) (ap (parent_of rows) (sym e) ∙ same))
    | inr less ↦ l.none_above a some less same
  ];
  reached = elim l.reached [
    | inl e ↦ inl e
    | inr (a, some, below, same, is) ↦ inr (a, some, omega (arith, below), same, is)
  ];
}

-- and so do several
pub last_skips_to : (rows : List Row) (n m p last : ℕ) → n ≤ m → ((a : ℕ) → n ≤ a → a < m → 0 < a → parent_of rows a ≡ p → ⊥) → IsLast rows n p last
    → IsLast rows m p last
last_skips_to rows n m p last low none l = record {
  none_above = λ a some below same. elim (less_or_more n a) [
    | inl more ↦ absurd (none a more below some same)
    | inr less ↦ l.none_above a some less same
  ];
  reached = elim l.reached [
    | inl e ↦ inl e
    | inr (a, some, below, same, is) ↦ inr (a, some, omega (arith, below, low), same, is)
  ];
}

-- a child of p whose offset is above those before it is the last
pub last_takes : (rows : List Row) (n p last : ℕ) → 0 < n → parent_of rows n ≡ p → last < offset_of rows n → IsLast rows n p last
    → IsLast rows (n + 1) p (offset_of rows n)
last_takes rows n p last some child above l = record {
  none_above = λ a some below same. elim (up_to a n below) [
    | inl e ↦ omega (arith, ap (offset_of rows) e)
    | inr less ↦ omega (arith, l.none_above a some less same, above)
  ];
  reached = inr (n, some, omega arith, child, refl);
}

-- a child whose offset is not above those before it isn't
last_keeps : (rows : List Row) (n p last : ℕ) → offset_of rows n ≤ last → IsLast rows n p last → IsLast rows (n + 1) p last
last_keeps rows n p last low l = record {
  none_above = λ a some below same. elim (up_to a n below) [
    | inl e ↦ omega (arith, ap (offset_of rows) e, low)
    | inr less ↦ l.none_above a some less same
  ];
  reached = elim l.reached [
    | inl e ↦ inl e
    | inr (a, some, below, same, is) ↦ inr (a, some, omega (arith, below), same, is)
  ];
}

pick_last : (rows : List Row) (n p last : ℕ) → IsLast rows n p last → 0 < n → parent_of rows n ≡ p → (offset_of rows n ≤ last) ⊎ (last < offset_of rows n)
    → (next : ℕ) × IsLast rows (n + 1) p next
pick_last rows n p last l some child (inl low) = (last, last_keeps rows n p last low l)
pick_last rows n p last l some child (inr above) = (offset_of rows n, last_takes rows n p last some child above l)

last_after : (rows : List Row) (n p last : ℕ) → IsLast rows n p last → (n ≡ 0) ⊎ (0 < n) → (parent_of rows n ≡ p) ⊎ (parent_of rows n ≢ p)
    → (next : ℕ) × IsLast rows (n + 1) p next
last_after rows n p last l (inl z) is = (last, last_skips rows n p last (λ some e. absurd (omega (arith, some, z))) l)
last_after rows n p last l (inr some) (inl child) = pick_last rows n p last l some child (less_or_more (offset_of rows n) last)
last_after rows n p last l (inr some) (inr not) = (last, last_skips rows n p last (λ some e. not e) l)

pub is_zero : (r : ℕ) → (r ≡ 0) ⊎ (0 < r)
is_zero zero = inl refl
is_zero (suc r) = inr (omega arith)

-- a row has a last child, or none
pub last_exists : (rows : List Row) (n p : ℕ) → (last : ℕ) × IsLast rows n p last
last_exists rows zero p = (0, record { none_above = λ a some below same. absurd (omega (arith, below)); reached = inl refl })
last_exists rows (suc n) p =
    let before = last_exists rows n p in
    let next = last_after rows n p before.0 before.1 (is_zero n) (cases_eq (parent_of rows n) p) in
    (next.0, subst (λ (k : ℕ). IsLast rows k p next.0) (omega arith) next.1)

-- the children of a row among the first n rows have their offsets, of which this is the last; the ticks are as they were
pub record AreScaledTo (rows : List Row) (row over under n : ℕ) (after : List Row) (last : ℕ) : Type 0 where
  pub whole : length after ≡ length rows
  pub same : (r : ℕ) → IsSameBut (slice_get rows r) (slice_get after r)
  pub offsets : (b elder : ℕ) → b < n → IsChildOf rows row b → IsLast after b row elder
      → offset_of after b ≡ max (part_of over under (offset_of rows b)) (elder + 1)
  pub behind : (b : ℕ) → n ≤ b → offset_of after b ≡ offset_of rows b
  pub others : (b : ℕ) → (IsChildOf rows row b → ⊥) → offset_of after b ≡ offset_of rows b
  pub ticks : (r : ℕ) → ticks_of after r ≡ ticks_of rows r
  pub last_is : IsLast after n row last

module _ (rows after : List Row) (same : (r : ℕ) → IsSameBut (slice_get rows r) (slice_get after r)) where
  pub same_parents : (r : ℕ) → parent_of after r ≡ parent_of rows r
  same_parents r = kept_same (λ (x : Row). x.parent) 0 (λ x offset ticks. refl) (slice_get rows r) (slice_get after r) (same r)

  pub same_cowns : (r : ℕ) → cowns_of after r ≡ cowns_of rows r
  same_cowns r = kept_same (λ (x : Row). x.cowns.items) [] (λ x offset ticks. refl) (slice_get rows r) (slice_get after r) (same r)

  pub same_written : (r : ℕ) → written_of after r ≡ written_of rows r
  same_written r = kept_same (λ (x : Row). x.written.items) [] (λ x offset ticks. refl) (slice_get rows r) (slice_get after r) (same r)

module _ (rows : List Row) (hr : IsRows rows) (row over under : ℕ) where
  pub no_child_before : (last : ℕ) → last ≡ 0 → IsLast rows (row + 1) row last
  no_child_before last e = record {
    none_above = λ a some below same. elim (less_or_more (length rows) a) [
      | inl out ↦ omega (arith, offset_out rows a out)
      | inr there ↦ absurd (omega (arith, hr.parent_before a some there, below, same))
    ];
    reached = inl e;
  }
    where
      offset_out : (rows : List Row) (a : ℕ) → length rows ≤ a → offset_of rows a ≡ 0
      offset_out [] a h = refl
      offset_out (x ∷ rows) zero h = absurd (omega (arith, h))
      offset_out (x ∷ rows) (suc a) h = offset_out rows a (omega (arith, h))

  -- before its children nothing changes
  pub none_scaled : AreScaledTo rows row over under (row + 1) rows 0
  none_scaled = record {
    whole = refl;
    same = λ r. same_self (slice_get rows r);
    offsets = λ b elder below child l. absurd (omega (arith, hr.parent_before b child.0 child.1, child.2, below));
    behind = λ b h. refl;
    others = λ b not. refl;
    ticks = λ r. refl;
    last_is = no_child_before 0 refl;
  }

  -- rows that are no children stay
  pub skips_scaled : (n m : ℕ) → n ≤ m → m ≤ length rows → ((c : ℕ) → n ≤ c → c < m → IsChildOf rows row c → ⊥) → (after : List Row) (last : ℕ)
      → AreScaledTo rows row over under n after last → AreScaledTo rows row over under m after last
  skips_scaled n m low within none after last s = record {
    whole = s.whole;
    same = s.same;
    offsets = λ b elder below child l. elim (less_or_more n b) [
      | inl more ↦ absurd (none b more below child)
      | inr less ↦ s.offsets b elder less child l
    ];
    behind = λ b h. s.behind b (omega (arith, h, low));
    others = s.others;
    ticks = s.ticks;
    last_is = last_skips_to after n m row last low
        (λ a more below some same. none a more below (some, omega (arith, below, within), sym (same_parents rows after s.same a) ∙ same)) s.last_is;
  }

  module _ (n : ℕ) (there : n < length rows) (some : 0 < n) (after : List Row) (last : ℕ) (s : AreScaledTo rows row over under n after last) where
    module _ (child : parent_of rows n ≡ row) (offset : ℕ) (is : offset ≡ max (part_of over under (offset_of rows n)) (last + 1)) where
      abbrev next : List Row
      next = moved after n offset

      stands : n < length after
      stands = omega (arith, s.whole, there)

      earlier : (a : ℕ) → a < n → offset_of next a ≡ offset_of after a
      earlier a below = offset_of-moved_other after n offset a (λ (e : a ≡ n). absurd (omega (arith, e, below)))

      last_earlier : (k elder : ℕ) → k ≤ n → IsLast next k row elder → IsLast after k row elder
      last_earlier k elder low l = last_of_same next after k row elder (λ a below. sym (parent_of-moved after n offset a))
          (λ a below. sym (earlier a (omega (arith, below, low)))) l

      last_kept : IsLast next n row last
      last_kept = last_of_same after next n row last (λ a below. parent_of-moved after n offset a) earlier s.last_is

      pub child_scaled : AreScaledTo rows row over under (n + 1) (moved after n offset) offset
      child_scaled = record {
        whole = length-moved after n offset ∙ s.whole;
        same = λ r. same_moved after n offset r (slice_get rows r) (s.same r);
        offsets = λ b elder below is_child l. elim (up_to b n below) [
          | inl e ↦ (
              let at : IsLast next n row elder = subst (λ (k : ℕ). IsLast next k row elder) e l in
              let one : elder ≡ last = one_last next n row elder last at last_kept in
              rw (e, one) (offset_of-moved_same after n offset stands ∙ is))
          | inr less ↦ earlier b less ∙ s.offsets b elder less is_child (last_earlier b elder (omega (arith, less)) l)
        ];
        behind = λ b h. offset_of-moved_other after n offset b (λ (e : b ≡ n). absurd (omega (arith, e, h))) ∙ s.behind b (omega (arith, h));
        others = λ b not. offset_of-moved_other after n offset b (λ (e : b ≡ n). absurd (not (rw e (some, there, child)))) ∙ s.others b not;
        ticks = λ r. ticks_of-moved after n offset r ∙ s.ticks r;
        last_is = subst (λ (k : ℕ). IsLast next (n + 1) row k) (offset_of-moved_same after n offset stands)
            (last_takes next n row last some (parent_of-moved after n offset n ∙ same_parents rows after s.same n ∙ child)
            (omega (arith, offset_of-moved_same after n offset stands, is)) last_kept);
      }

  -- once all children have their offsets, the row takes its ticks
  pub all_scaled : (after : List Row) (last ticks : ℕ) → row < length rows → AreScaledTo rows row over under (length rows) after last
      → ticks ≡ max (max 1 (part_of over under (ticks_of rows row))) last → IsScaled rows row over under (edited after row ticks)
  all_scaled after last ticks there s is = record {
    whole = length-edited after row ticks ∙ s.whole;
    same = λ r. same_edited after row ticks r (slice_get rows r) (s.same r);
    offsets = λ b elder child l. offset_of-edited after row ticks b
        ∙ s.offsets b elder child.1 child (unedited after row ticks b row elder l);
    other_offsets = λ b not. offset_of-edited after row ticks b ∙ s.others b not;
    ticks = λ other l.
        let whole : length (edited after row ticks) ≡ length rows = length-edited after row ticks ∙ s.whole in
        let same : other ≡ last = one_last after (length rows) row other last
        (unedited after row ticks (length rows) row other (subst (λ (k : ℕ). IsLast (edited after row ticks) k row other) whole l)) s.last_is in
        rw same (ticks_of-edited_same after row ticks (omega (arith, s.whole, there)) ∙ is);
    other_ticks = λ r ne. ticks_of-edited_other after row ticks r ne ∙ s.ticks r;
  }
    where
      unedited : (after : List Row) (row ticks n p last : ℕ) → IsLast (edited after row ticks) n p last → IsLast after n p last
      unedited after row ticks n p last l = last_of_same (edited after row ticks) after n p last (λ a below. sym (parent_of-edited after row ticks a))
          (λ a below. sym (offset_of-edited after row ticks a)) l

-- rows that are scaled are the rows of a record, where the row doesn't take too many ticks
module _ (rows : List Row) (hr : IsRows rows) (row over under : ℕ) (after : List Row) (s : IsScaled rows row over under after)
    (there : row < length rows) (few : ticks_of after row ≤ MOST_TICKS) where
  parents : (r : ℕ) → parent_of after r ≡ parent_of rows r
  parents = same_parents rows after s.same

  within : (r : ℕ) → r < length after → r < length rows
  within r h = omega (arith, s.whole, h)

  own_offset : (b : ℕ) → IsChildOf rows row b → (elder : ℕ) × IsLast after b row elder × (elder < offset_of after b)
  own_offset b child =
      let elder = last_exists after b row in
      (elder.0, elder.1, omega (arith, s.offsets b elder.0 child elder.1))

  above : (r : ℕ) → 0 < r → r < length rows → 0 < offset_of after r
  above r some here = elim (cases_eq (parent_of rows r) row) [
    | inl e ↦ omega (arith, (own_offset r (some, here, e)).2)
    | inr ne ↦ omega (arith, s.other_offsets r (λ child. absurd (ne child.2)), hr.offset_above r some here)
  ]

  rise : (a b : ℕ) → 0 < a → a < b → b < length rows → parent_of rows a ≡ parent_of rows b → offset_of after a < offset_of after b
  rise a b some before here same = elim (cases_eq (parent_of rows b) row) [
    | inl e ↦ (
        let own = own_offset b (omega (arith, some, before), here, e) in
        omega (arith, own.2, own.1.none_above a some before (parents a ∙ same ∙ e)))
    | inr ne ↦ omega (
      arith,
      s.other_offsets a (λ child. absurd (ne (sym same ∙ child.2))),
      s.other_offsets b (λ child. absurd (ne child.2)),
      hr.offsets_rise a b some before here same,
    )
  ]

  covers : (r : ℕ) → 0 < r → r < length rows → offset_of after r ≤ ticks_of after (parent_of rows r)
  covers r some here = elim (cases_eq (parent_of rows r) row) [
    | inl e ↦ (
        let last = last_exists after (length after) row in
        rw e (omega (arith, s.ticks last.0 last.1, last.1.none_above r some (omega (arith, s.whole, here)) (parents r ∙ e))))
    | inr ne ↦ omega (
      arith,
      s.other_offsets r (λ child. absurd (ne child.2)),
      s.other_ticks (parent_of rows r) ne,
      hr.ticks_cover r some here,
    )
  ]

  -- no offset of a child is above the row's ticks
  pub last_below : (n last : ℕ) → n ≤ length rows → IsLast after n row last → last ≤ ticks_of after row
  last_below n last within l = elim l.reached [
    | inl e ↦ omega (arith, e)
    | inr (a, some, below, same, is) ↦ omega (arith, is, covers a some (omega (arith, below, within)), ap (ticks_of after) (sym (parents a) ∙ same))
  ]

  low : (r : ℕ) → r < length rows → 0 < ticks_of after r
  low r here = elim (cases_eq r row) [
    | inl e ↦ (
        let last = last_exists after (length after) row in
        rw e (omega (arith, s.ticks last.0 last.1)))
    | inr ne ↦ omega (arith, s.other_ticks r ne, hr.ticks_low r here)
  ]

  high : (r : ℕ) → r < length rows → ticks_of after r ≤ MOST_TICKS
  high r here = elim (cases_eq r row) [
    | inl e ↦ rw e few
    | inr ne ↦ omega (arith, s.other_ticks r ne, hr.ticks_high r here)
  ]

  main_stays : offset_of after 0 ≡ 0
  main_stays = s.other_offsets 0 (λ child. absurd (omega (arith, child.0))) ∙ hr.main_offset

  pub rows_scaled : IsRows after
  rows_scaled = record {
    not_empty = omega (arith, s.whole, hr.not_empty);
    not_many = omega (arith, s.whole, hr.not_many);
    cowns_rise = λ r h. rw (same_cowns rows after s.same r) (hr.cowns_rise r (within r h));
    cowns_below = λ r h. rw (same_cowns rows after s.same r) (hr.cowns_below r (within r h));
    written_own = λ r h. rw (same_cowns rows after s.same r, same_written rows after s.same r) (hr.written_own r (within r h));
    main_parent = parents 0 ∙ hr.main_parent;
    main_offset = main_stays;
    main_cowns = same_cowns rows after s.same 0 ∙ hr.main_cowns;
    parent_before = λ r some h. omega (arith, parents r, hr.parent_before r some (within r h));
    offset_above = λ r some h. above r some (within r h);
    offsets_rise = λ a b some before h same. rise a b some before (within b h) (sym (parents a) ∙ same ∙ parents b);
    ticks_low = λ r h. low r (within r h);
    ticks_high = λ r h. high r (within r h);
    ticks_cover = λ r some h. rw (parents r) (covers r some (within r h));
  }

-- a part of some ticks is no more than the ticks times its numerator
pub part_low : (over under ticks : ℕ) → 0 < under → ticks ≤ MOST_TICKS → part_of over under ticks ≤ MOST_TICKS * over
part_low over under ticks some few =
    let whole : ℕ = ticks * over in
    omega (
      arith,
      div-add-mod' whole under,
      le-mul_of_pos_right (whole / under) some,
      mul-le-mul_right over few,
    )

-- what a row that was read at its number tells
pub row_read : (rows : List Row) (r : ℕ) (x : Row) → r < length rows → x ≡ get_or rows r x → slice_get rows r ≡ Some x
row_read rows r x there e = slice_get_read rows (length rows) r x refl there e

-- no offset is above the most ticks
pub offset_low : (rows : List Row) → IsRows rows → (r : ℕ) → r < length rows → offset_of rows r ≤ MOST_TICKS
offset_low rows hr r there = elim (is_zero r) [
  | inl e ↦ omega (arith, ap (offset_of rows) e, hr.main_offset)
  | inr some ↦ omega (arith, hr.ticks_cover r some there, hr.ticks_high (parent_of rows r) (omega (arith, hr.parent_before r some there, there)))
]

-- what a part of a cost comes to is one
between : (p q r : Option Row) → IsSameBut p q → IsSameBut p r → option_map_or (λ (y : Row). y.offset) q 0 ≡ option_map_or (λ (y : Row). y.offset) r 0
    → option_map_or (λ (y : Row). y.ticks) q 0 ≡ option_map_or (λ (y : Row). y.ticks) r 0 → q ≡ r
between None None None s t e f = refl
between None None (Some z) s t e f = absurd t
between None (Some y) r s t e f = absurd s
between (Some x) None r s t e f = absurd s
between (Some x) (Some y) None s t e f = absurd t
between (Some x) (Some y) (Some z) s t e f =
    ap Some (s ∙ ap (λ (k : ℕ). record x { offset = k; ticks = y.ticks }) e ∙ ap (λ (k : ℕ). record x { offset = z.offset; ticks = k }) f ∙ sym t)

not_both : (o : Option Row) (y : Row) → o ≡ None → o ≡ Some y → ⊥
not_both o y e f = let bad : ⊥ = cc in bad

lists_alike : (xs ys : List Row) → ((r : ℕ) → slice_get xs r ≡ slice_get ys r) → xs ≡ ys
lists_alike [] [] same = refl
lists_alike [] (y ∷ ys) same = absurd (not_both (slice_get [] 0) y refl (same 0))
lists_alike (x ∷ xs) [] same = absurd (not_both (slice_get [] 0) x refl (sym (same 0)))
lists_alike (x ∷ xs) (y ∷ ys) same =
    ap (λ (z : Row). z ∷ xs) (ap (λ (o : Option Row). option_map_or (λ (z : Row). z) o x) (same 0))
    ∙ ap (λ (l : List Row). y ∷ l) (lists_alike xs ys (λ r. same (suc r)))

module _ (rows : List Row) (row over under : ℕ) (after other : List Row) (s : IsScaled rows row over under after) (t : IsScaled rows row over under other) where
  parents_alike : (r : ℕ) → parent_of other r ≡ parent_of after r
  parents_alike r = same_parents rows other t.same r ∙ sym (same_parents rows after s.same r)

  child_alike : (n : ℕ) → ((b : ℕ) → b < n → offset_of other b ≡ offset_of after b) → IsChildOf rows row n → offset_of other n ≡ offset_of after n
  child_alike n before child =
      let elder = last_exists after n row in
      t.offsets n elder.0 child (last_of_same after other n row elder.0 (λ a below. parents_alike a) before elder.1) ∙ sym (s.offsets n elder.0 child elder.1)

  offset_alike : (n : ℕ) → ((b : ℕ) → b < n → offset_of other b ≡ offset_of after b) → (0 < n) ⊎ (0 < n → ⊥) → (n < length rows) ⊎ (n < length rows → ⊥)
      → (parent_of rows n ≡ row) ⊎ (parent_of rows n ≢ row) → offset_of other n ≡ offset_of after n
  offset_alike n before (inl some) (inl there) (inl child) = child_alike n before (some, there, child)
  offset_alike n before (inr none) there child = t.other_offsets n (λ h. none h.0) ∙ sym (s.other_offsets n (λ h. none h.0))
  offset_alike n before (inl some) (inr out) child = t.other_offsets n (λ h. out h.1) ∙ sym (s.other_offsets n (λ h. out h.1))
  offset_alike n before (inl some) (inl there) (inr not) = t.other_offsets n (λ h. not h.2) ∙ sym (s.other_offsets n (λ h. not h.2))

  is_less : (a b : ℕ) → (a < b) ⊎ (a < b → ⊥)
  is_less a b = elim (less_or_more b a) [
    | inl h ↦ inr (λ less. omega (arith, h, less))
    | inr h ↦ inl h
  ]

  offsets_alike : (n b : ℕ) → b < n → offset_of other b ≡ offset_of after b
  offsets_alike zero b below = absurd (omega (arith, below))
  offsets_alike (suc n) b below = elim (up_to b n (omega (arith, below))) [
    | inl e ↦ rw e (offset_alike n (offsets_alike n) (is_less 0 n) (is_less n (length rows)) (cases_eq (parent_of rows n) row))
    | inr less ↦ offsets_alike n b less
  ]

  ticks_alike : (r : ℕ) → ticks_of other r ≡ ticks_of after r
  ticks_alike r = elim (cases_eq r row) [
    | inl e ↦ (
        let last = last_exists after (length after) row in
        let same : length after ≡ length other = s.whole ∙ sym t.whole in
        let also = last_of_same after other (length after) row last.0 (λ a below. parents_alike a) (λ a below. offsets_alike (suc a) a (omega arith)) last.1 in
        rw e (t.ticks last.0 (subst (λ (k : ℕ). IsLast other k row last.0) same also) ∙ sym (s.ticks last.0 last.1)))
    | inr ne ↦ t.other_ticks r ne ∙ sym (s.other_ticks r ne)
  ]

  pub one_scaling : after ≡ other
  one_scaling = lists_alike after other (λ r. between (slice_get rows r) (slice_get after r) (slice_get other r) (s.same r) (t.same r)
      (sym (offsets_alike (suc r) r (omega arith))) (sym (ticks_alike r)))

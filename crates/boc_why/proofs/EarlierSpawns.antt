-- Rows of which those of one def spawn each child as soon as a function of its offset says, and at least a tick after its elder sibling.
use Rattle.std.proofs.Common.{◌≡◌, ◌≢◌, ◌⊎◌, inl, inr, ℕ, zero, suc, ◌+◌, ◌<◌, ◌≤◌, max, List, [], ◌∷◌, length}
use Rattle.std.proofs.Common.{Option, Some, refl, ap, sym, ◌∙◌, subst, arith, get_or, length-set}
use Rattle.std.specs.Option.{option_map_or}
use Rattle.std.specs.Prelude.{slice_get, slice_index, slice_set}
use Rattle.std.proofs.lemmas.Bool.{cases_eq, cases_lt}
use Rattle.std.proofs.lemmas.List.{get_or-set_same, get_or-set_other}
use Rattle.std.proofs.lemmas.Option.{slice_get_past}
use Rattle.boc_runs.specs.declared.rows.Row.{Row}
use Rattle.boc_runs.specs.Rows.{IsRows, IsLast, parent_of, offset_of}
use Rattle.boc_runs.specs.Changes.{FitsAt, moved}
use Rattle.boc_runs.proofs.Editing.{one_last}
use Rattle.boc_runs.proofs.Moving.{length-moved, parent_of-moved, offset_of-moved_same, offset_of-moved_other}
use Rattle.boc_runs.proofs.Scaling.{last_of_same, last_skips, last_takes, offset_low, row_read}
use Rattle.boc_program.specs.declared.limits.TheConstants.{MOST_TICKS}
use Rattle.boc_why.specs.Causes.{IsSpawnedBy}

pub some_row : (rows : List Row) (r : ℕ) → r < length rows → (x : Row) × (slice_get rows r ≡ Some x)
some_row [] r h = absurd (omega (arith, h))
some_row (x ∷ rows) zero h = (x, refl)
some_row (x ∷ rows) (suc r) h = some_row rows r (omega (arith, h))

same_read : (o : Option Row) (x y : Row) → o ≡ Some x → o ≡ Some y → x ≡ y
same_read o x y e f = ap (λ (p : Option Row). option_map_or (λ (z : Row). z) p x) (sym e ∙ f)

pub up_to : (a n : ℕ) → a < n + 1 → (a ≡ n) ⊎ (a < n)
up_to a n h = elim (cases_eq a n) [
  | inl e ↦ inl e
  | inr ne ↦ inr (grind (arith, h, ne))
]

-- the rows but for their offsets
pub record AreSameButOffsets (rows after : List Row) : Type 0 where
  pub whole : length after ≡ length rows
  pub same : (r : ℕ) (x y : Row) → slice_get rows r ≡ Some x → slice_get after r ≡ Some y → y ≡ record x { offset = y.offset }

-- the parents stay
pub same_parents : (rows after : List Row) → AreSameButOffsets rows after → (r : ℕ) → parent_of after r ≡ parent_of rows r
same_parents rows after s r = elim (cases_lt r (length rows)) [
  | inl there ↦ (
      let x = some_row rows r there in
      let y = some_row after r (omega (arith, there, s.whole)) in
      rw (x.1, y.1) (ap (λ (z : Row). z.parent) (s.same r x.0 y.0 x.1 y.1)))
  | inr out ↦ rw (slice_get_past rows r out, slice_get_past after r (omega (arith, out, s.whole))) refl
]

moved_keeps : (after : List Row) (n offset r : ℕ) (x y : Row) → ((z : Row) → slice_get after r ≡ Some z → z ≡ record x { offset = z.offset })
    → slice_get (moved after n offset) r ≡ Some y → y ≡ record x { offset = y.offset }
moved_keeps [] n offset r x y keeps is = keeps y is
moved_keeps (z ∷ after) zero offset zero x y keeps is =
    let e : record z { offset = offset } ≡ y = same_read _ (record z { offset = offset }) y refl is in
    subst (λ (k : Row). k ≡ record x { offset = k.offset }) e (ap (λ (k : Row). record k { offset = offset }) (keeps z refl))
moved_keeps (z ∷ after) zero offset (suc r) x y keeps is = keeps y is
moved_keeps (z ∷ after) (suc n) offset zero x y keeps is = keeps y is
moved_keeps (z ∷ after) (suc n) offset (suc r) x y keeps is = moved_keeps after n offset r x y keeps is

same_moved : (rows after : List Row) (n offset : ℕ) → AreSameButOffsets rows after → AreSameButOffsets rows (moved after n offset)
same_moved rows after n offset s = record {
  whole = length-moved after n offset ∙ s.whole;
  same = λ r x y e f. moved_keeps after n offset r x y (λ z g. s.same r x z e g) f;
}

-- of the first n rows those that the def's rows spawned are spawned so, and these are the last children of the def's rows among them
pub record AreEarlierTo (soon : ℕ → ℕ) (rows : List Row) (defs : List ℕ) (def n : ℕ) (after : List Row) (lasts : List ℕ) : Type 0 where
  pub same : AreSameButOffsets rows after
  pub early : (b elder : ℕ) → b < n → IsSpawnedBy rows defs def b → IsLast after b (parent_of rows b) elder
      → offset_of after b ≡ max (soon (offset_of rows b)) (elder + 1)
  pub others : (b : ℕ) → (IsSpawnedBy rows defs def b → ⊥) → offset_of after b ≡ offset_of rows b
  pub behind : (b : ℕ) → n ≤ b → offset_of after b ≡ offset_of rows b
  pub lasts_whole : length lasts ≡ length rows
  pub last_is : (p : ℕ) → slice_index defs p ≡ def → IsLast after n p (slice_index lasts p)

-- the next row is looked at: this row spawned it
pub record IsStep (soon : ℕ → ℕ) (rows : List Row) (defs : List ℕ) (def n : ℕ) (after : List Row) (lasts : List ℕ) (parent : ℕ) : Type 0 where
  pub some : 0 < n
  pub there : n < length rows
  pub shape : IsRows after
  pub so_far : AreEarlierTo soon rows defs def n after lasts
  pub parent_is : parent_of rows n ≡ parent

-- a function that says no later offset than it is told
module _ (soon : ℕ → ℕ) (less : (offset : ℕ) → soon offset ≤ offset) (rows : List Row) (defs : List ℕ) (def : ℕ) where
  -- main stays
  pub none_early : (lasts : List ℕ) → length lasts ≡ length rows → ((p : ℕ) → slice_index lasts p ≡ 0) → AreEarlierTo soon rows defs def 1 rows lasts
  none_early lasts whole zeros = record {
    same = record {
      whole = refl;
      same = λ r x y e f. subst (λ (k : Row). k ≡ record x { offset = k.offset }) (same_read (slice_get rows r) x y e f) refl;
    };
    early = λ b elder below child l. absurd (omega (arith, below, child.0));
    others = λ b not. refl;
    behind = λ b h. refl;
    lasts_whole = whole;
    last_is = λ p own. rw (zeros p) (record { none_above = λ a some below same. absurd (omega (arith, some, below)); reached = inl refl });
  }

  -- the next row
  module _ (n : ℕ) (after : List Row) (lasts : List ℕ) (some : 0 < n) (there : n < length rows) (hr : IsRows after)
      (k : AreEarlierTo soon rows defs def n after lasts) where
    parents : (r : ℕ) → parent_of after r ≡ parent_of rows r
    parents = same_parents rows after k.same

    stands : n < length after
    stands = omega (arith, k.same.whole, there)

    -- a row that another def's row spawned stays
    early_skips : slice_index defs (parent_of rows n) ≢ def → AreEarlierTo soon rows defs def (n + 1) after lasts
    early_skips not = record {
      same = k.same;
      early = λ b elder below child l. elim (up_to b n below) [
        | inl e ↦ absurd (not (subst (λ (z : ℕ). slice_index defs (parent_of rows z) ≡ def) e child.2))
        | inr less ↦ k.early b elder less child l
      ];
      others = k.others;
      behind = λ b h. k.behind b (omega (arith, h));
      lasts_whole = k.lasts_whole;
      last_is = λ p own. last_skips after n p (slice_index lasts p)
          (λ above is. not (ap (slice_index defs) (sym (parents n) ∙ is) ∙ own)) (k.last_is p own);
    }

    module _ (own : slice_index defs (parent_of rows n) ≡ def) where
      last_now : IsLast after n (parent_of rows n) (slice_index lasts (parent_of rows n))
      last_now = k.last_is (parent_of rows n) own

      -- it can be spawned no earlier than a tick after the elder sibling, and has been spawned no earlier
      low : slice_index lasts (parent_of rows n) + 1 ≤ offset_of after n
      low = elim last_now.reached [
        | inl z ↦ omega (arith, z, hr.offset_above n some stands)
        | inr (a, above, before, parent, is) ↦ omega (arith, is, hr.offsets_rise a n above before stands (parent ∙ sym (parents n)))
      ]

      module _ (offset : ℕ) (is : offset ≡ max (soon (offset_of rows n)) (slice_index lasts (parent_of rows n) + 1)) where
        no_later : offset ≤ offset_of after n
        no_later = omega (arith, is, low, less (offset_of rows n), k.behind n (omega arith))

        above : slice_index lasts (parent_of rows n) < offset
        above = omega (arith, is)

        early_fits : FitsAt after n offset
        early_fits = record {
          child = some;
          there = stands;
          above = omega (arith, above);
          after_elder = λ a some before same. omega (arith, above, last_now.none_above a some before (same ∙ parents n));
          before_younger = λ b behind here same. omega (arith, no_later, hr.offsets_rise n b some behind here (sym same));
          within = omega (arith, no_later, hr.ticks_cover n some stands);
        }

        abbrev next : List Row
        next = moved after n offset

        earlier : (a : ℕ) → a < n → offset_of next a ≡ offset_of after a
        earlier a below = offset_of-moved_other after n offset a (λ (e : a ≡ n). absurd (omega (arith, e, below)))

        here : offset_of next n ≡ offset
        here = offset_of-moved_same after n offset stands

        last_back : (m p last : ℕ) → m ≤ n → IsLast next m p last → IsLast after m p last
        last_back m p last within l = last_of_same next after m p last (λ a below. sym (parent_of-moved after n offset a))
            (λ a below. sym (earlier a (omega (arith, below, within)))) l

        last_kept : (p last : ℕ) → IsLast after n p last → IsLast next n p last
        last_kept p last l = last_of_same after next n p last (λ a below. parent_of-moved after n offset a) (λ a below. earlier a below) l

        parent_next : parent_of next n ≡ parent_of rows n
        parent_next = parent_of-moved after n offset n ∙ parents n

        last_own : IsLast next (n + 1) (parent_of rows n) offset
        last_own = subst (IsLast next (n + 1) (parent_of rows n)) here
            (last_takes next n (parent_of rows n) (slice_index lasts (parent_of rows n)) some parent_next (omega (arith, here, above))
            (last_kept (parent_of rows n) (slice_index lasts (parent_of rows n)) last_now))

        inside : parent_of rows n < length lasts
        inside = omega (arith, parents n, hr.parent_before n some stands, there, k.lasts_whole)

        last_next : (p : ℕ) → slice_index defs p ≡ def → IsLast next (n + 1) p (slice_index (slice_set lasts (parent_of rows n) offset) p)
        last_next p of = elim (cases_eq p (parent_of rows n)) [
          | inl e ↦ rw (e, get_or-set_same lasts (parent_of rows n) offset 0 inside) last_own
          | inr ne ↦ rw (get_or-set_other lasts (parent_of rows n) p offset 0 ne) (last_skips next n p (slice_index lasts p)
              (λ above e. ne (sym e ∙ parent_next)) (last_kept p (slice_index lasts p) (k.last_is p of)))
        ]

        early_next : AreEarlierTo soon rows defs def (n + 1) (moved after n offset) (slice_set lasts (parent_of rows n) offset)
        early_next = record {
          same = same_moved rows after n offset k.same;
          early = λ b elder below child l. elim (up_to b n below) [
            | inl e ↦ (
                let at : IsLast next n (parent_of rows n) elder = subst (λ (z : ℕ). IsLast next z (parent_of rows z) elder) e l in
                let one : elder ≡ slice_index lasts (parent_of rows n) =
                one_last after n (parent_of rows n) elder _ (last_back n (parent_of rows n) elder (omega arith) at) last_now in
                rw (e, one) (here ∙ is))
            | inr less ↦ earlier b less ∙ k.early b elder less child (last_back b (parent_of rows b) elder (omega (arith, less)) l)
          ];
          others = λ b not. offset_of-moved_other after n offset b (λ (e : b ≡ n). absurd (not (rw e (some, there, own)))) ∙ k.others b not;
          behind = λ b h. offset_of-moved_other after n offset b (λ (e : b ≡ n). absurd (omega (arith, e, h))) ∙ k.behind b (omega (arith, h));
          lasts_whole = length-set lasts (parent_of rows n) offset ∙ k.lasts_whole;
          last_is = last_next;
        }

  pub step_is : (n : ℕ) (after : List Row) (lasts : List ℕ) (now : List Row) (x : Row) → 0 < n → n < length defs
      → length defs ≡ length rows → IsRows after → now ≡ after → x ≡ get_or now n x → AreEarlierTo soon rows defs def n after lasts
      → IsStep soon rows defs def n after lasts (get_or now n x).parent
  step_is n after lasts now x some there whole shape same is k =
      let here : n < length now = omega (arith, there, whole, k.same.whole, ap (length {A = Row}) same) in
      let read : slice_get now n ≡ Some x = row_read now n x here is in
      let own : parent_of now n ≡ x.parent = rw read refl in
      record {
        some = some;
        there = omega (arith, there, whole);
        shape = shape;
        so_far = k;
        parent_is = sym (same_parents rows after k.same n) ∙ ap (λ (l : List Row). parent_of l n) (sym same) ∙ own ∙ ap (λ (z : Row). z.parent) is;
      }

  -- the same where the row is bound to a name
  pub step_of : (n : ℕ) (after : List Row) (lasts : List ℕ) (now : List Row) (x : Row) → 0 < n → n < length defs
      → length defs ≡ length rows → IsRows after → now ≡ after → x ≡ get_or now n x → AreEarlierTo soon rows defs def n after lasts
      → IsStep soon rows defs def n after lasts x.parent
  step_of n after lasts now x some there whole shape same is k =
      subst (λ (p : ℕ). IsStep soon rows defs def n after lasts p) (sym (ap (λ (z : Row). z.parent) is))
      (step_is n after lasts now x some there whole shape same is k)

  -- the offset that it has is that of the rows
  pub step_offset : (n : ℕ) (after : List Row) (lasts : List ℕ) (now : List Row) (x : Row) (parent : ℕ) → now ≡ after → x ≡ get_or now n x
      → IsStep soon rows defs def n after lasts parent → x.offset ≡ offset_of rows n
  step_offset n after lasts now x parent same is s =
      let here : n < length now = omega (arith, s.there, s.so_far.same.whole, ap (length {A = Row}) same) in
      let read : slice_get now n ≡ Some x = row_read now n x here is in
      let own : offset_of now n ≡ x.offset = rw read refl in
      sym own ∙ ap (λ (l : List Row). offset_of l n) same ∙ s.so_far.behind n (omega arith)

  module _ (n : ℕ) (after : List Row) (lasts : List ℕ) (parent : ℕ) (s : IsStep soon rows defs def n after lasts parent) where
    pub step_inside : parent < length lasts
    step_inside =
        let stands : n < length after = omega (arith, s.there, s.so_far.same.whole) in
        omega (
          arith,
          s.parent_is,
          same_parents rows after s.so_far.same n,
          s.shape.parent_before n s.some stands,
          s.there,
          s.so_far.lasts_whole,
        )

    pub step_skips : slice_index defs parent ≢ def → AreEarlierTo soon rows defs def (n + 1) after lasts
    step_skips not = early_skips n after lasts s.some s.there s.shape s.so_far (rw s.parent_is not)

    module _ (own : slice_index defs parent ≡ def) (last : ℕ) (last_is : last ≡ slice_index lasts parent) where
      mine : slice_index defs (parent_of rows n) ≡ def
      mine = rw s.parent_is own

      last_at : last ≡ slice_index lasts (parent_of rows n)
      last_at = rw s.parent_is last_is

      pub step_low : last + 1 ≤ MOST_TICKS
      step_low = omega (
        arith,
        last_at,
        low n after lasts s.some s.there s.shape s.so_far mine,
        offset_low after s.shape n (omega (arith, s.there, s.so_far.same.whole)),
      )

      module _ (offset : ℕ) (is : offset ≡ max (soon (offset_of rows n)) (last + 1)) where
        offset_is : offset ≡ max (soon (offset_of rows n)) (slice_index lasts (parent_of rows n) + 1)
        offset_is = is ∙ ap (λ (l : ℕ). max (soon (offset_of rows n)) (l + 1)) last_at

        pub step_fits : FitsAt after n offset
        step_fits = early_fits n after lasts s.some s.there s.shape s.so_far mine offset offset_is

        pub step_next : AreEarlierTo soon rows defs def (n + 1) (moved after n offset) (slice_set lasts parent offset)
        step_next = subst (λ (p : ℕ). AreEarlierTo soon rows defs def (n + 1) (moved after n offset) (slice_set lasts p offset)) s.parent_is
            (early_next n after lasts s.some s.there s.shape s.so_far mine offset offset_is)

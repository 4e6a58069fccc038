-- Rows of which those of one def cost half, all at once: they are what the edits of these rows result in, one after the other.
use Rattle.std.proofs.Common.{◌≡◌, ◌≢◌, ⊎_elim, inl, inr, ℕ, zero, suc, ◌+◌, ◌<◌, ◌≤◌, max, Bool, true, false, true≢false, cond, eqb, List, [], ◌∷◌, length}
use Rattle.std.proofs.Common.{Option, Some, None, refl, ap, sym, ◌∙◌, subst, arith, get_or}
use Rattle.std.specs.Prelude.{slice_get, slice_index}
use Rattle.std.proofs.lemmas.Bool.{cases_eq, cases_lt, ne_eqb}
use Rattle.std.proofs.lemmas.Bool.Decides.{eqb_tells}
use Rattle.std.proofs.lemmas.Option.{slice_get_past}
use Rattle.boc_program.specs.declared.limits.TheConstants.{MOST_TICKS}
use Rattle.boc_runs.specs.declared.rows.Row.{Row}
use Rattle.boc_runs.specs.Rows.{IsRows, IsLast, Fits, edited, parent_of, offset_of, ticks_of}
use Rattle.boc_runs.specs.Changes.{IsSameBut, IsChildOf, IsScaled, part_of}
use Rattle.boc_runs.proofs.Editing.{one_last, length-edited, offset_of-edited, ticks_of-edited_same, ticks_of-edited_other, last_le_ticks}
use Rattle.boc_runs.proofs.Scaling.{last_exists, row_read, same_edited, same_parents}
use Rattle.boc_plans.specs.declared.edit.Edit.{Edit}
use Rattle.boc_plans.specs.declared.edit.Change.TheVariants.{Cost}
use Rattle.boc_plans.specs.Edits.{AreEdited, IsChanged}
use Rattle.boc_why.specs.Causes.{IsSpawnedBy, AreOffsetsHalved, def_edits, half, half_of}
use Rattle.boc_why.proofs.EarlierSpawns.{AreEarlierTo, some_row, up_to}

pub half_less : (ticks : ℕ) → half_of ticks ≤ ticks
half_less ticks = omega arith

part_half : (ticks : ℕ) → part_of 1 2 ticks ≡ half_of ticks
part_half ticks = omega arith

-- ---- the same rows but for offsets and ticks

same_self : (p : Option Row) → IsSameBut p p
same_self None = tt
same_self (Some x) = refl

-- two that are the same as a third are the same as one another
same_both : (p q r : Option Row) → IsSameBut p q → IsSameBut p r → IsSameBut q r
same_both None None None s t = tt
same_both None None (Some z) s t = t
same_both None (Some y) r s t = absurd s
same_both (Some x) None r s t = absurd s
same_both (Some x) (Some y) None s t = t
same_both (Some x) (Some y) (Some z) s t =
    t ∙ ap (λ (k : Row). record k { offset = z.offset; ticks = z.ticks }) (sym s)

-- where offsets and ticks are alike too, they are one list
alike : (rows xs ys : List Row) → ((r : ℕ) → IsSameBut (slice_get rows r) (slice_get xs r)) → ((r : ℕ) → IsSameBut (slice_get rows r) (slice_get ys r))
    → ((r : ℕ) → offset_of xs r ≡ offset_of ys r) → ((r : ℕ) → ticks_of xs r ≡ ticks_of ys r) → xs ≡ ys
alike [] [] [] s t o k = refl
alike [] [] (y ∷ ys) s t o k = absurd (t 0)
alike [] (x ∷ xs) ys s t o k = absurd (s 0)
alike (z ∷ rows) [] ys s t o k = absurd (s 0)
alike (z ∷ rows) (x ∷ xs) [] s t o k = absurd (t 0)
alike (z ∷ rows) (x ∷ xs) (y ∷ ys) s t o k =
    let first : x ≡ y = s 0 ∙ ap (λ (n : ℕ). record z { offset = n; ticks = x.ticks }) (o 0)
    ∙ ap (λ (n : ℕ). record z { offset = y.offset; ticks = n }) (k 0) ∙ sym (t 0) in
    ap (λ (w : Row). w ∷ xs) first
    ∙ ap (λ (l : List Row). y ∷ l) (alike rows xs ys (λ r. s (suc r)) (λ r. t (suc r)) (λ r. o (suc r)) (λ r. k (suc r)))

-- a row's last child is the same where its children's offsets are
last_of_own : (rows others : List Row) (n p last : ℕ) → ((a : ℕ) → parent_of others a ≡ parent_of rows a)
    → ((a : ℕ) → parent_of rows a ≡ p → offset_of others a ≡ offset_of rows a) → IsLast rows n p last → IsLast others n p last
last_of_own rows others n p last parents offsets l = record {
  none_above = λ a some below same.
      let own : parent_of rows a ≡ p = sym (parents a) ∙ same in
      omega (arith, offsets a own, l.none_above a some below own);
  reached = elim l.reached [
    | inl e ↦ inl e
    | inr (a, some, below, own, is) ↦ inr (a, some, below, parents a ∙ own, offsets a own ∙ is)
  ];
}

-- ---- all at once

-- the rows in which those of one def cost half
pub record AreHalved (rows : List Row) (defs : List ℕ) (def : ℕ) (after : List Row) : Type 0 where
  pub whole : length after ≡ length rows
  pub same : (r : ℕ) → IsSameBut (slice_get rows r) (slice_get after r)
  pub offsets : (b elder : ℕ) → IsSpawnedBy rows defs def b → IsLast after b (parent_of rows b) elder →
      offset_of after b ≡ max (half_of (offset_of rows b)) (elder + 1)
  pub other_offsets : (b : ℕ) → (IsSpawnedBy rows defs def b → ⊥) → offset_of after b ≡ offset_of rows b
  pub ticks : (r last : ℕ) → r < length rows → slice_index defs r ≡ def → IsLast after (length after) r last
      → ticks_of after r ≡ max (half_of (ticks_of rows r)) last
  pub other_ticks : (r : ℕ) → slice_index defs r ≢ def → ticks_of after r ≡ ticks_of rows r

-- ---- one after the other

-- the rows where the rows that are meant have the ticks that they have in others, and their children the offsets
abbrev mixed : (ℕ → Bool) → ℕ → List Row → List Row → List Row
mixed meant n [] others = []
mixed meant n (x ∷ rows) [] = x ∷ rows
mixed meant n (x ∷ rows) (y ∷ others) =
    record x { offset = cond (meant x.parent) y.offset x.offset; ticks = cond (meant n) y.ticks x.ticks } ∷ mixed meant (suc n) rows others

length-mixed : (meant : ℕ → Bool) (n : ℕ) (rows others : List Row) → length (mixed meant n rows others) ≡ length rows
length-mixed meant n [] others = refl
length-mixed meant n (x ∷ rows) [] = refl
length-mixed meant n (x ∷ rows) (y ∷ others) = omega (arith, length-mixed meant (suc n) rows others)

same-mixed : (meant : ℕ → Bool) (n : ℕ) (rows others : List Row) (r : ℕ) → IsSameBut (slice_get rows r) (slice_get (mixed meant n rows others) r)
same-mixed meant n [] others r = tt
same-mixed meant n (x ∷ rows) [] r = same_self (slice_get (x ∷ rows) r)
same-mixed meant n (x ∷ rows) (y ∷ others) zero = refl
same-mixed meant n (x ∷ rows) (y ∷ others) (suc r) = same-mixed meant (suc n) rows others r

cond_zero : (b : Bool) → ◌≡◌ {A = ℕ} 0 (cond b 0 0)
cond_zero true = refl
cond_zero false = refl

offset_of-mixed : (meant : ℕ → Bool) (n : ℕ) (rows others : List Row) → length others ≡ length rows → (r : ℕ)
    → offset_of (mixed meant n rows others) r ≡ cond (meant (parent_of rows r)) (offset_of others r) (offset_of rows r)
offset_of-mixed meant n [] [] whole r = cond_zero (meant 0)
offset_of-mixed meant n [] (y ∷ others) whole r = absurd (omega (arith, whole))
offset_of-mixed meant n (x ∷ rows) [] whole r = absurd (omega (arith, whole))
offset_of-mixed meant n (x ∷ rows) (y ∷ others) whole zero = refl
offset_of-mixed meant n (x ∷ rows) (y ∷ others) whole (suc r) = offset_of-mixed meant (suc n) rows others (omega (arith, whole)) r

ticks_of-mixed : (meant : ℕ → Bool) (n : ℕ) (rows others : List Row) → length others ≡ length rows → (r k : ℕ) → n + r ≡ k
    → ticks_of (mixed meant n rows others) r ≡ cond (meant k) (ticks_of others r) (ticks_of rows r)
ticks_of-mixed meant n [] [] whole r k e = cond_zero (meant k)
ticks_of-mixed meant n [] (y ∷ others) whole r k e = absurd (omega (arith, whole))
ticks_of-mixed meant n (x ∷ rows) [] whole r k e = absurd (omega (arith, whole))
ticks_of-mixed meant n (x ∷ rows) (y ∷ others) whole zero k e =
    let same : n ≡ k = omega (arith, e) in
    ap (λ (m : ℕ). cond (meant m) y.ticks x.ticks) same
ticks_of-mixed meant n (x ∷ rows) (y ∷ others) whole (suc r) k e =
    ticks_of-mixed meant (suc n) rows others (omega (arith, whole)) r k (omega (arith, e))

module _ (defs : List ℕ) (def : ℕ) where
  -- the row is of the def, and one of the first k
  abbrev done : ℕ → ℕ → Bool
  done zero p = false
  done (suc k) p = cond (eqb p k) (eqb (slice_index defs k) def) (done k p)

  eqb_self : (k : ℕ) → eqb k k ≡ true
  eqb_self k = ⊎_elim (λ (e : (eqb k k ≡ true) × (k ≡ k)). e.0) (λ (e : (eqb k k ≡ false) × (k ≢ k)). absurd (e.1 refl)) (eqb_tells k k)

  done_here : (k : ℕ) → slice_index defs k ≡ def → done (suc k) k ≡ true
  done_here k own = rw (eqb_self k, own) (eqb_self def)

  done_other : (k : ℕ) → slice_index defs k ≢ def → done (suc k) k ≡ false
  done_other k not = rw (eqb_self k) (ne_eqb (slice_index defs k) def not)

  done_apart : (k p : ℕ) → p ≢ k → done (suc k) p ≡ done k p
  done_apart k p ne = rw (ne_eqb p k ne) refl

  done_later : (k p : ℕ) → k ≤ p → done k p ≡ false
  done_later zero p h = refl
  done_later (suc k) p h = done_apart k p (let ne : p ≢ k = omega arith in ne) ∙ done_later k p (omega (arith, h))

  done_before : (k p : ℕ) → p < k → slice_index defs p ≡ def → done k p ≡ true
  done_before zero p h own = absurd (omega (arith, h))
  done_before (suc k) p h own = elim (cases_eq p k) [
    | inl e ↦ rw e (done_here k (rw e at own))
    | inr ne ↦ done_apart k p ne ∙ done_before k p (grind (arith, h, ne)) own
  ]

  module _ (rows after : List Row) (before : (r : ℕ) → 0 < r → r < length rows → parent_of rows r < r)
      (low : (r : ℕ) → r < length rows → 0 < ticks_of rows r) (high : (r : ℕ) → r < length rows → ticks_of after r ≤ MOST_TICKS)
      (long : length defs ≡ length rows) (a : AreHalved rows defs def after) where
    -- the rows once those of the def among the first k cost half
    abbrev so_far : ℕ → List Row
    so_far k = mixed (done k) 0 rows after

    parents : (k r : ℕ) → parent_of (so_far k) r ≡ parent_of rows r
    parents k = same_parents rows (so_far k) (same-mixed (done k) 0 rows after)

    parents_after : (r : ℕ) → parent_of after r ≡ parent_of rows r
    parents_after = same_parents rows after a.same

    offset_at : (k r : ℕ) → offset_of (so_far k) r ≡ cond (done k (parent_of rows r)) (offset_of after r) (offset_of rows r)
    offset_at k r = offset_of-mixed (done k) 0 rows after a.whole r

    ticks_at : (k r : ℕ) → ticks_of (so_far k) r ≡ cond (done k r) (ticks_of after r) (ticks_of rows r)
    ticks_at k r = ticks_of-mixed (done k) 0 rows after a.whole r r (omega arith)

    -- the next row is of another def
    skips : (k : ℕ) → slice_index defs k ≢ def → (p : ℕ) → done (suc k) p ≡ done k p
    skips k not p = elim (cases_eq p k) [
      | inl e ↦ rw e (done_other k not ∙ sym (done_later k k (omega arith)))
      | inr ne ↦ done_apart k p ne
    ]

    stays : (k : ℕ) → slice_index defs k ≢ def → so_far (suc k) ≡ so_far k
    stays k not = alike rows (so_far (suc k)) (so_far k) (same-mixed (done (suc k)) 0 rows after) (same-mixed (done k) 0 rows after)
        (λ r. offset_at (suc k) r ∙ ap (λ (b : Bool). cond b (offset_of after r) (offset_of rows r)) (skips k not (parent_of rows r)) ∙ sym (offset_at k r))
        (λ r. ticks_at (suc k) r ∙ ap (λ (b : Bool). cond b (ticks_of after r) (ticks_of rows r)) (skips k not r) ∙ sym (ticks_at k r))

    -- the next row is of the def
    module _ (k : ℕ) (there : k < length rows) (own : slice_index defs k ≡ def) where
      own_offset : (b : ℕ) → parent_of rows b ≡ k → offset_of (so_far (suc k)) b ≡ offset_of after b
      own_offset b e = offset_at (suc k) b
          ∙ ap (λ (t : Bool). cond t (offset_of after b) (offset_of rows b)) (ap (done (suc k)) e ∙ done_here k own)

      old_offset : (b : ℕ) → parent_of rows b ≡ k → offset_of (so_far k) b ≡ offset_of rows b
      old_offset b e = offset_at k b ∙ ap (λ (t : Bool). cond t (offset_of after b) (offset_of rows b)) (ap (done k) e ∙ done_later k k (omega arith))

      kept_offset : (b : ℕ) → parent_of rows b ≢ k → offset_of (so_far (suc k)) b ≡ offset_of (so_far k) b
      kept_offset b ne = offset_at (suc k) b ∙ ap (λ (t : Bool). cond t (offset_of after b) (offset_of rows b)) (done_apart k (parent_of rows b) ne)
          ∙ sym (offset_at k b)

      own_ticks : ticks_of (so_far (suc k)) k ≡ ticks_of after k
      own_ticks = ticks_at (suc k) k ∙ ap (λ (t : Bool). cond t (ticks_of after k) (ticks_of rows k)) (done_here k own)

      old_ticks : ticks_of (so_far k) k ≡ ticks_of rows k
      old_ticks = ticks_at k k ∙ ap (λ (t : Bool). cond t (ticks_of after k) (ticks_of rows k)) (done_later k k (omega arith))

      last_then : (n last : ℕ) → IsLast (so_far (suc k)) n k last → IsLast after n k last
      last_then n last l = last_of_own (so_far (suc k)) after n k last (λ r. parents_after r ∙ sym (parents (suc k) r))
          (λ r e. sym (own_offset r (sym (parents (suc k) r) ∙ e))) l

      is_spawned : (b : ℕ) → 0 < b → b < length rows → parent_of rows b ≡ k → IsSpawnedBy rows defs def b
      is_spawned b some here e = (some, here, ap (slice_index defs) e ∙ own)

      long_now : length (so_far k) ≡ length rows
      long_now = length-mixed (done k) 0 rows after

      next_offset : (b elder : ℕ) → IsChildOf (so_far k) k b → IsLast (so_far (suc k)) b k elder
          → offset_of (so_far (suc k)) b ≡ max (part_of 1 2 (offset_of (so_far k) b)) (elder + 1)
      next_offset b elder child l =
          let e : parent_of rows b ≡ k = sym (parents k b) ∙ child.2 in
          let last : IsLast after b (parent_of rows b) elder = subst (λ (p : ℕ). IsLast after b p elder) (sym e) (last_then b elder l) in
          let is = a.offsets b elder (is_spawned b child.0 (omega (arith, child.1, long_now)) e) last in
          own_offset b e ∙ is ∙ ap (λ (o : ℕ). max o (elder + 1)) (sym (part_half (offset_of rows b)) ∙ ap (part_of 1 2) (sym (old_offset b e)))

      other_offset : (b : ℕ) → (IsChildOf (so_far k) k b → ⊥) → offset_of (so_far (suc k)) b ≡ offset_of (so_far k) b
      other_offset b not = elim (cases_eq (parent_of rows b) k) [
        | inr ne ↦ kept_offset b ne
        | inl e ↦ own_offset b e
            ∙ a.other_offsets b (λ child. not (child.0, omega (arith, child.1, long_now), parents k b ∙ e)) ∙ sym (old_offset b e)
      ]

      next_ticks : (last : ℕ) → IsLast (so_far (suc k)) (length (so_far (suc k))) k last
          → ticks_of (so_far (suc k)) k ≡ max (max 1 (part_of 1 2 (ticks_of (so_far k) k))) last
      next_ticks last l =
          let n : length (so_far (suc k)) ≡ length after = length-mixed (done (suc k)) 0 rows after ∙ sym a.whole in
          let now : IsLast after (length after) k last = subst (λ (m : ℕ). IsLast after m k last) n (last_then (length (so_far (suc k))) last l) in
          let is = a.ticks k last there own now in
          omega (arith, own_ticks, is, old_ticks, low k there)

      other_ticks : (r : ℕ) → r ≢ k → ticks_of (so_far (suc k)) r ≡ ticks_of (so_far k) r
      other_ticks r ne = ticks_at (suc k) r ∙ ap (λ (t : Bool). cond t (ticks_of after r) (ticks_of rows r)) (done_apart k r ne) ∙ sym (ticks_at k r)

      scales : IsScaled (so_far k) k 1 2 (so_far (suc k))
      scales = record {
        whole = length-mixed (done (suc k)) 0 rows after ∙ sym long_now;
        same = λ r. same_both (slice_get rows r) (slice_get (so_far k) r) (slice_get (so_far (suc k)) r)
            (same-mixed (done k) 0 rows after r) (same-mixed (done (suc k)) 0 rows after r);
        offsets = next_offset;
        other_offsets = other_offset;
        ticks = next_ticks;
        other_ticks = other_ticks;
      }

      changes : IsChanged (so_far k) k (Cost half) (so_far (suc k))
      changes = (omega (arith, there, long_now), scales, omega (arith, own_ticks, high k there))

    -- at first none costs half
    so_far_none : so_far 0 ≡ rows
    so_far_none = alike rows (so_far 0) rows (same-mixed (done 0) 0 rows after) (λ r. same_self (slice_get rows r)) (λ r. offset_at 0 r) (λ r. ticks_at 0 r)

    -- and at last all of the def do
    all_offsets : (b : ℕ) (t : Bool) → done (length rows) (parent_of rows b) ≡ t → cond t (offset_of after b) (offset_of rows b) ≡ offset_of after b
    all_offsets b true e = refl
    all_offsets b false e = sym (a.other_offsets b (λ child. true≢false (sym (done_before (length rows) (parent_of rows b)
        (omega (arith, before b child.0 child.1, child.1)) child.2) ∙ e)))

    no_ticks : (r : ℕ) → length rows ≤ r → ticks_of rows r ≡ ticks_of after r
    no_ticks r h = rw (slice_get_past rows r h, slice_get_past after r (omega (arith, h, a.whole))) refl

    all_ticks : (r : ℕ) (t : Bool) → done (length rows) r ≡ t → cond t (ticks_of after r) (ticks_of rows r) ≡ ticks_of after r
    all_ticks r true e = refl
    all_ticks r false e = elim (cases_lt r (length rows)) [
      | inr past ↦ no_ticks r past
      | inl here ↦ sym (a.other_ticks r (λ own. true≢false (sym (done_before (length rows) r here own) ∙ e)))
    ]

    so_far_all : after ≡ so_far (length rows)
    so_far_all = sym (alike rows (so_far (length rows)) after (same-mixed (done (length rows)) 0 rows after) a.same
        (λ r. offset_at (length rows) r ∙ all_offsets r (done (length rows) (parent_of rows r)) refl)
        (λ r. ticks_at (length rows) r ∙ all_ticks r (done (length rows) r) refl))

    -- the edits from row k on
    edit_if : (k d : ℕ) (edits : List Edit) (t : Bool) → eqb d def ≡ t → k < length rows → slice_index defs k ≡ d
        → AreEdited (so_far (suc k)) edits after
        → AreEdited (so_far k) (cond t (record { row = k; change = Cost half } ∷ edits) edits) after
    edit_if k d edits true e there is rest =
        (so_far (suc k), changes k there (is ∙ same_number d def e), rest)
      where
        same_number : (x y : ℕ) → eqb x y ≡ true → x ≡ y
        same_number x y e = grind (arith, eqb_tells x y, e)
    edit_if k d edits false e there is rest =
        subst (λ (l : List Row). AreEdited l edits after) (stays k (λ own. true≢false (sym (rw (sym is ∙ own) (eqb_self def)) ∙ e))) rest

    edits_from : (k : ℕ) (rest : List ℕ) → k + length rest ≡ length rows → ((i : ℕ) → slice_index rest i ≡ slice_index defs (k + i))
        → AreEdited (so_far k) (def_edits half def k rest) after
    edits_from k [] long_rest reads = so_far_all ∙ ap so_far (let e : length rows ≡ k = omega (arith, long_rest) in e)
    edits_from k (d ∷ rest) long_rest reads =
        edit_if k d (def_edits half def (suc k) rest) (eqb d def) refl (omega (arith, long_rest))
        (sym (reads 0 ∙ ap (slice_index defs) (let e : k + 0 ≡ k = omega arith in e)))
        (edits_from (suc k) rest (omega (arith, long_rest))
        (λ i. reads (suc i) ∙ ap (slice_index defs) (let e : k + suc i ≡ suc k + i = omega arith in e)))

    pub halved_by_edits : AreEdited rows (def_edits half def 0 defs) after
    halved_by_edits = subst (λ (l : List Row). AreEdited l (def_edits half def 0 defs) after) so_far_none
        (edits_from 0 defs (omega (arith, long)) (λ i. ap (slice_index defs) (let e : i ≡ 0 + i = omega arith in e)))

-- ---- in two passes

-- the offsets are halved
pub offsets_halved : (rows : List Row) (defs : List ℕ) (def n : ℕ) (after : List Row) (lasts : List ℕ) → length rows ≤ n → (0 < length rows → n ≤ length rows)
    → AreEarlierTo half_of rows defs def n after lasts → AreOffsetsHalved rows defs def after lasts
offsets_halved rows defs def n after lasts all within k = record {
  whole = k.same.whole;
  same = k.same.same;
  halved = λ b elder child l. k.early b elder (omega (arith, child.1, all)) child l;
  others = k.others;
  lasts_whole = k.lasts_whole;
  lasts_are = λ r last there own l.
      let e : n ≡ length after = omega (arith, all, within (omega (arith, there)), k.same.whole) in
      one_last after (length after) r _ last (subst (λ (m : ℕ). IsLast after m r (slice_index lasts r)) e (k.last_is r own)) l;
}

-- of the first n rows those of the def take half of the ticks
pub record AreTicksHalvedTo (rows : List Row) (defs : List ℕ) (def : ℕ) (lasts : List ℕ) (n : ℕ) (after : List Row) : Type 0 where
  pub whole : length after ≡ length rows
  pub same : (r : ℕ) → IsSameBut (slice_get rows r) (slice_get after r)
  pub offsets : (r : ℕ) → offset_of after r ≡ offset_of rows r
  pub ticks : (r : ℕ) → r < n → slice_index defs r ≡ def → ticks_of after r ≡ max (half_of (ticks_of rows r)) (slice_index lasts r)
  pub others : (r : ℕ) → slice_index defs r ≢ def → ticks_of after r ≡ ticks_of rows r
  pub behind : (r : ℕ) → n ≤ r → ticks_of after r ≡ ticks_of rows r
  pub high : (r : ℕ) → r < length rows → ticks_of after r ≤ MOST_TICKS

module _ (rows : List Row) (defs : List ℕ) (def : ℕ) (lasts : List ℕ) where
  pub no_ticks_halved : IsRows rows → AreTicksHalvedTo rows defs def lasts 0 rows
  no_ticks_halved hr = record {
    whole = refl;
    same = λ r. same_self (slice_get rows r);
    offsets = λ r. refl;
    ticks = λ r h own. absurd (omega (arith, h));
    others = λ r not. refl;
    behind = λ r h. refl;
    high = hr.ticks_high;
  }

  module _ (n : ℕ) (after : List Row) (k : AreTicksHalvedTo rows defs def lasts n after) where
    -- the next row is of another def
    pub ticks_skip : slice_index defs n ≢ def → AreTicksHalvedTo rows defs def lasts (n + 1) after
    ticks_skip not = record {
      whole = k.whole;
      same = k.same;
      offsets = k.offsets;
      ticks = λ r h own. elim (up_to r n h) [
        | inl e ↦ absurd (not (subst (λ (z : ℕ). slice_index defs z ≡ def) e own))
        | inr less ↦ k.ticks r less own
      ];
      others = k.others;
      behind = λ r h. k.behind r (omega (arith, h));
      high = k.high;
    }

    -- the ticks that it has are those that it had
    pub step_ticks : (now : List Row) (x : Row) → n < length rows → now ≡ after → x ≡ get_or now n x → (get_or now n x).ticks ≡ ticks_of rows n
    step_ticks now x there same is =
        let here : n < length now = omega (arith, there, k.whole, ap (length {A = Row}) same) in
        let read : slice_get now n ≡ Some x = row_read now n x here is in
        let own : ticks_of now n ≡ x.ticks = rw read refl in
        sym (ap (λ (z : Row). z.ticks) is) ∙ sym own ∙ ap (λ (l : List Row). ticks_of l n) same ∙ k.behind n (omega arith)

    -- the next row is of the def, and takes these ticks
    module _ (there : n < length rows) (own : slice_index defs n ≡ def) (ticks : ℕ) (is : ticks ≡ max (half_of (ticks_of rows n)) (slice_index lasts n)) where
      stands : n < length after
      stands = omega (arith, there, k.whole)

      pub ticks_next : ticks ≤ MOST_TICKS → AreTicksHalvedTo rows defs def lasts (n + 1) (edited after n ticks)
      ticks_next few = record {
        whole = length-edited after n ticks ∙ k.whole;
        same = λ r. same_edited after n ticks r (slice_get rows r) (k.same r);
        offsets = λ r. offset_of-edited after n ticks r ∙ k.offsets r;
        ticks = λ r h mine. elim (up_to r n h) [
          | inl e ↦ rw e (ticks_of-edited_same after n ticks stands ∙ is)
          | inr less ↦ ticks_of-edited_other after n ticks r (let ne : r ≢ n = omega (arith, less) in ne) ∙ k.ticks r less mine
        ];
        others = λ r not. ticks_of-edited_other after n ticks r (λ (e : r ≡ n). not (rw e own)) ∙ k.others r not;
        behind = λ r h. ticks_of-edited_other after n ticks r (let ne : r ≢ n = omega (arith, h) in ne) ∙ k.behind r (omega (arith, h));
        high = λ r h. elim (cases_eq r n) [
          | inl e ↦ rw e (omega (arith, ticks_of-edited_same after n ticks stands, few))
          | inr ne ↦ omega (arith, ticks_of-edited_other after n ticks r ne, k.high r h)
        ];
      }

      -- it can take them
      pub ticks_fit : IsRows after → IsLast rows (length rows) n (slice_index lasts n) → Fits after n ticks
      ticks_fit ha last =
          let now : IsLast after (length after) n (slice_index lasts n) = subst (λ (m : ℕ). IsLast after m n (slice_index lasts n)) (sym k.whole)
          (last_of_own rows after (length rows) n (slice_index lasts n) (same_parents rows after k.same) (λ r e. k.offsets r) last) in
          let same : ticks_of after n ≡ ticks_of rows n = k.behind n (omega arith) in
          record {
            there = stands;
            low = omega (arith, is, same, ha.ticks_low n stands);
            high = omega (arith, is, same, half_less (ticks_of rows n), ha.ticks_high n stands, last_le_ticks after ha n (slice_index lasts n) stands now);
            last = slice_index lasts n;
            is_last = now;
            covers = omega (arith, is);
          }

-- the last child of a row of the def, as the offsets were halved
pub last_halved : (rows : List Row) (defs : List ℕ) (def : ℕ) (mid : List Row) (lasts : List ℕ) → AreOffsetsHalved rows defs def mid lasts → (r : ℕ)
    → r < length rows → slice_index defs r ≡ def → IsLast mid (length mid) r (slice_index lasts r)
last_halved rows defs def mid lasts o r there own =
    let last = last_exists mid (length mid) r in
    subst (λ (l : ℕ). IsLast mid (length mid) r l) (sym (o.lasts_are r last.0 there own last.1)) last.1

-- what only has other offsets has the same ticks
module _ (rows mid : List Row) (whole : length mid ≡ length rows)
    (same : (r : ℕ) (x y : Row) → slice_get rows r ≡ Some x → slice_get mid r ≡ Some y → y ≡ record x { offset = y.offset }) where
  stays_same : (r : ℕ) → IsSameBut (slice_get rows r) (slice_get mid r)
  stays_same r = elim (cases_lt r (length rows)) [
    | inl there ↦ (
        let x = some_row rows r there in
        let y = some_row mid r (omega (arith, there, whole)) in
        let e : y.0 ≡ record x.0 { offset = y.0.offset } = same r x.0 y.0 x.1 y.1 in
        rw (x.1, y.1) (e ∙ ap (λ (t : ℕ). record x.0 { offset = y.0.offset; ticks = t }) (sym (ap (λ (z : Row). z.ticks) e))))
    | inr out ↦ rw (slice_get_past rows r out, slice_get_past mid r (omega (arith, out, whole))) tt
  ]

  ticks_stay : (r : ℕ) → ticks_of mid r ≡ ticks_of rows r
  ticks_stay r = elim (cases_lt r (length rows)) [
    | inl there ↦ (
        let x = some_row rows r there in
        let y = some_row mid r (omega (arith, there, whole)) in
        rw (x.1, y.1) (ap (λ (z : Row). z.ticks) (same r x.0 y.0 x.1 y.1)))
    | inr out ↦ rw (slice_get_past rows r out, slice_get_past mid r (omega (arith, out, whole))) refl
  ]

same_through : (p q r : Option Row) → IsSameBut p q → IsSameBut q r → IsSameBut p r
same_through None None None s t = tt
same_through None None (Some z) s t = t
same_through None (Some y) r s t = absurd s
same_through (Some x) None r s t = absurd s
same_through (Some x) (Some y) None s t = t
same_through (Some x) (Some y) (Some z) s t = t ∙ ap (λ (k : Row). record k { offset = z.offset; ticks = z.ticks }) s

-- both passes together are the edits
pub both_halved : (rows : List Row) (defs : List ℕ) (def : ℕ) (mid : List Row) (lasts : List ℕ) (n : ℕ) (after : List Row) → IsRows mid
    → length defs ≡ length rows → length rows ≤ n → AreOffsetsHalved rows defs def mid lasts → AreTicksHalvedTo mid defs def lasts n after
    → AreEdited rows (def_edits half def 0 defs) after
both_halved rows defs def mid lasts n after hm long all o k = halved_by_edits defs def rows after
    (λ r some h. omega (arith, same_parents rows mid (stays_same rows mid o.whole o.same) r, hm.parent_before r some (omega (arith, h, o.whole))))
    (λ r h. omega (arith, ticks_stay rows mid o.whole o.same r, hm.ticks_low r (omega (arith, h, o.whole))))
    (λ r h. k.high r (omega (arith, h, o.whole))) long (record {
      whole = k.whole ∙ o.whole;
      same = λ r. same_through (slice_get rows r) (slice_get mid r) (slice_get after r) (stays_same rows mid o.whole o.same r) (k.same r);
      offsets = λ b elder child l. k.offsets b ∙ o.halved b elder child (back b (parent_of rows b) elder l);
      other_offsets = λ b not. k.offsets b ∙ o.others b not;
      ticks = λ r last there own l.
          let whole : length after ≡ length mid = k.whole in
          let is : slice_index lasts r ≡ last = o.lasts_are r last there own (back (length mid) r last (subst (λ (m : ℕ). IsLast after m r last) whole l)) in
          k.ticks r (omega (arith, there, all)) own
          ∙ ap (λ (t : ℕ). max (half_of t) (slice_index lasts r)) (ticks_stay rows mid o.whole o.same r)
          ∙ ap (λ (l : ℕ). max (half_of (ticks_of rows r)) l) is;
      other_ticks = λ r not. k.others r not ∙ ticks_stay rows mid o.whole o.same r;
    })
  where
    back : (m p last : ℕ) → IsLast after m p last → IsLast mid m p last
    back m p last l = last_of_own after mid m p last (λ r. sym (same_parents mid after k.same r)) (λ r e. sym (k.offsets r)) l

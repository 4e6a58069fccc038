-- The offsets of rows with typical ticks, one after another, and the rows made of them.
use Rattle.std.proofs.Common.{◌≡◌, ◌≢◌, inl, inr, ℕ, zero, suc, ◌+◌, ◌<◌, ◌≤◌, max, List, [], ◌∷◌, ◌++◌, length, set, take, get_or, Option, Some}
use Rattle.std.proofs.Common.{refl, ap, sym, ◌∙◌, subst, arith}
use Rattle.std.specs.Prelude.{slice_get, slice_index}
use Rattle.std.proofs.lemmas.Bool.{cases_eq}
use Rattle.std.proofs.lemmas.Grind.{common_steps}
use Rattle.std.proofs.lemmas.List.{get_or-set_same, get_or-set_other, get_or_append_left, get_or_push, get_or_read, get_or-take, length-set, length-take-le}
use Rattle.boc_program.specs.declared.limits.TheConstants.{MOST_TICKS}
use Rattle.boc_runs.specs.declared.rows.Row.{Row}
use Rattle.boc_runs.specs.Rows.{IsRows, parent_of, offset_of, ticks_of}
use Rattle.boc_runs.specs.Changes.{part_of}
use Rattle.boc_runs.proofs.Scaling.{row_read, up_to}
use Rattle.boc_typical.specs.Spread.{AreMiddles, AreMiddlesBy, AreOffsetsTo, AreTimedTo, IsLastIn, IsOffset, spread}
use Rattle.boc_typical.proofs.Spreading.{le_through, most, no_later, offsets_low, most_low}

-- ---- the ticks that rows are to take

-- one more def
pub by_more : (defs typical middles : List ℕ) (k v : ℕ) → k < length defs → v ≡ slice_index typical (get_or defs k 0)
    → AreMiddlesBy (take k defs) typical middles → AreMiddlesBy (take (k + 1) defs) typical (middles ++ v ∷ [])
by_more defs typical middles k v here is m =
    let long : length (take k defs) ≡ k = length-take-le k defs (omega (arith, here)) in
    let next : length (take (k + 1) defs) ≡ k + 1 = length-take-le (k + 1) defs (omega (arith, here)) in
    let own : length middles ≡ k = m.whole ∙ long in
    record {
      whole = grind (arith, common_steps, own, next);
      each = λ r h. elim (up_to r k (omega (arith, h, next))) [
        | inl e ↦ get_or_push middles v 0 r (own ∙ sym e) ∙ is
            ∙ ap (slice_index typical) (ap (λ (j : ℕ). get_or defs j 0) (sym e) ∙ sym (get_or-take (k + 1) defs r 0 (omega (arith, h, next))))
        | inr less ↦ get_or_append_left middles (v ∷ []) 0 r (omega (arith, less, own)) ∙ m.each r (omega (arith, less, long))
            ∙ ap (slice_index typical) (get_or-take k defs r 0 less ∙ sym (get_or-take (k + 1) defs r 0 (omega (arith, h, next))))
      ];
    }

-- ---- the last child of a row

same_last : (rows : List Row) (f g : ℕ → ℕ) (n p last : ℕ) → ((a : ℕ) → a < n → g a ≡ f a) → IsLastIn rows f n p last → IsLastIn rows g n p last
same_last rows f g n p last same l = record {
  none_above = λ a some below child. omega (arith, same a below, l.none_above a some below child);
  reached = elim l.reached [
    | inl e ↦ inl e
    | inr (a, some, below, child, is) ↦ inr (a, some, below, child, same a below ∙ is)
  ];
}

-- a row that is no child of p leaves its last child
skips : (rows : List Row) (f : ℕ → ℕ) (n p last : ℕ) → parent_of rows n ≢ p → IsLastIn rows f n p last → IsLastIn rows f (n + 1) p last
skips rows f n p last not l = record {
  none_above = λ a some below child. elim (up_to a n below) [
    | inl e ↦ absurd (not (ap (parent_of rows) (sym e) ∙ child))
    | inr less ↦ l.none_above a some less child
  ];
  reached = elim l.reached [
    | inl e ↦ inl e
    | inr (a, some, below, child, is) ↦ inr (a, some, omega (arith, below), child, is)
  ];
}

-- a child of p that comes later is the last
takes : (rows : List Row) (f : ℕ → ℕ) (n last offset : ℕ) → 0 < n → last < offset → f n ≡ offset → IsLastIn rows f n (parent_of rows n) last
    → IsLastIn rows f (n + 1) (parent_of rows n) offset
takes rows f n last offset some above is l = record {
  none_above = λ a h below child. elim (up_to a n below) [
    | inl e ↦ omega (arith, ap f e, is)
    | inr less ↦ omega (arith, l.none_above a h less child, above)
  ];
  reached = inr (n, some, omega arith, refl, is);
}

-- main is spawned at once
pub first_offset : (rows : List Row) (middles offsets lasts : List ℕ) → offsets ≡ 0 ∷ [] → length lasts ≡ length rows → ((p : ℕ) → slice_index lasts p ≡ 0)
    → AreOffsetsTo rows middles 1 offsets lasts
first_offset rows middles offsets lasts is whole zeros = record {
  whole = ap (length {A = ℕ}) is;
  main = ap (λ (l : List ℕ). slice_index l 0) is;
  each = λ b some below. absurd (omega (arith, some, below));
  lasts_whole = whole;
  lasts_are = λ p. record { none_above = λ a some below child. absurd (omega (arith, some, below)); reached = inl (zeros p) };
}

module _ (rows : List Row) (hr : IsRows rows) (middles : List ℕ) (n : ℕ) (some : 0 < n) (here : n < length rows) (offsets lasts : List ℕ)
    (k : AreOffsetsTo rows middles n offsets lasts) where
  pub parent_there : parent_of rows n < length rows
  parent_there = omega (arith, hr.parent_before n some here, here)

  last_now : IsLastIn rows (slice_index offsets) n (parent_of rows n) (slice_index lasts (parent_of rows n))
  last_now = k.lasts_are (parent_of rows n)

  -- the next offset is within the limits
  pub next_low : AreMiddles rows middles → max (spread rows (slice_index middles) n) (slice_index lasts (parent_of rows n) + 1) ≤ MOST_TICKS
  next_low mids = le_through (max (spread rows (slice_index middles) n) (slice_index lasts (parent_of rows n) + 1)) (most rows hr (slice_index middles) n)
      MOST_TICKS
      (no_later rows hr (slice_index middles) (slice_index offsets) n (slice_index lasts (parent_of rows n)) some here last_now
      (offsets_low rows hr (slice_index middles) (slice_index offsets) n (omega (arith, here)) k.each))
      (most_low rows hr (slice_index middles) mids.high n some here)

  -- one more row
  module _ (offset : ℕ) (is : offset ≡ max (spread rows (slice_index middles) n) (slice_index lasts (parent_of rows n) + 1)) where
    abbrev next : List ℕ
    next = offsets ++ offset ∷ []

    before : (a : ℕ) → a < n → slice_index next a ≡ slice_index offsets a
    before a below = get_or_append_left offsets (offset ∷ []) 0 a (omega (arith, below, k.whole))

    own : slice_index next n ≡ offset
    own = get_or_push offsets offset 0 n k.whole

    kept : (m p last : ℕ) → m ≤ n → IsLastIn rows (slice_index offsets) m p last → IsLastIn rows (slice_index next) m p last
    kept m p last within l = same_last rows (slice_index offsets) (slice_index next) m p last (λ a below. before a (omega (arith, below, within))) l

    kept_each : (b : ℕ) → b < n → IsOffset rows (slice_index middles) (slice_index offsets) b → IsOffset rows (slice_index middles) (slice_index next) b
    kept_each b below o = record {
      elder = o.elder;
      elder_is = kept b (parent_of rows b) o.elder (omega (arith, below)) o.elder_is;
      is = before b below ∙ o.is;
    }

    own_each : IsOffset rows (slice_index middles) (slice_index next) n
    own_each = record {
      elder = slice_index lasts (parent_of rows n);
      elder_is = kept n (parent_of rows n) (slice_index lasts (parent_of rows n)) (omega arith) last_now;
      is = own ∙ is;
    }

    length_next : length next ≡ n + 1
    length_next = grind (arith, common_steps, k.whole)

    last_next : (p : ℕ) → IsLastIn rows (slice_index next) (n + 1) p (slice_index (set lasts (parent_of rows n) offset) p)
    last_next p = elim (cases_eq p (parent_of rows n)) [
      | inl e ↦ rw (e, get_or-set_same lasts (parent_of rows n) offset 0 (omega (arith, k.lasts_whole, parent_there)))
          (takes rows (slice_index next) n (slice_index lasts (parent_of rows n)) offset some (omega (arith, is)) own
          (kept n (parent_of rows n) (slice_index lasts (parent_of rows n)) (omega arith) last_now))
      | inr ne ↦ rw (get_or-set_other lasts (parent_of rows n) p offset 0 ne)
          (skips rows (slice_index next) n p (slice_index lasts p) (λ e. ne (sym e)) (kept n p (slice_index lasts p) (omega arith) (k.lasts_are p)))
    ]

    pub next_offset : AreOffsetsTo rows middles (n + 1) (offsets ++ offset ∷ []) (set lasts (parent_of rows n) offset)
    next_offset = record {
      whole = length_next;
      main = before 0 some ∙ k.main;
      each = λ b h below. elim (up_to b n below) [
        | inl e ↦ subst (IsOffset rows (slice_index middles) (slice_index next)) (sym e) own_each
        | inr less ↦ kept_each b less (k.each b h less)
      ];
      lasts_whole = length-set lasts (parent_of rows n) offset ∙ k.lasts_whole;
      lasts_are = last_next;
    }

-- ---- the rows

-- no row yet
pub none_timed : (rows : List Row) (middles offsets lasts : List ℕ) (list : List Row) → length list ≡ 0 → AreTimedTo rows middles offsets lasts 0 list
none_timed rows middles offsets lasts list whole = record { whole = whole; each = λ r x h is. absurd (omega (arith, h)) }

some_is : (o : Option Row) (x y : Row) → o ≡ Some x → o ≡ Some y → x ≡ y
some_is o x y e f = let same : Some x ≡ Some y = sym e ∙ f in cc

get_left : (xs : List Row) (y : Row) (r : ℕ) → r < length xs → slice_get (xs ++ y ∷ []) r ≡ slice_get xs r
get_left [] y r h = absurd (omega (arith, h))
get_left (x ∷ xs) y zero h = refl
get_left (x ∷ xs) y (suc r) h = get_left xs y r (omega (arith, h))

get_pushed : (xs : List Row) (y : Row) → slice_get (xs ++ y ∷ []) (length xs) ≡ Some y
get_pushed [] y = refl
get_pushed (x ∷ xs) y = get_pushed xs y

-- one more row
pub next_timed : (rows : List Row) (middles offsets lasts : List ℕ) (n : ℕ) (list : List Row) (x y : Row) → AreTimedTo rows middles offsets lasts n list
    → slice_get rows n ≡ Some x → y ≡ record x { offset = slice_index offsets n; ticks = max (slice_index middles n) (slice_index lasts n) }
    → AreTimedTo rows middles offsets lasts (n + 1) (list ++ y ∷ [])
next_timed rows middles offsets lasts n list x y k at is = record {
  whole = grind (arith, common_steps, k.whole);
  each = λ r z h there. elim (up_to r n h) [
    | inl e ↦ (
        let same : z ≡ x = some_is (slice_get rows n) z x (subst (λ (m : ℕ). slice_get rows m ≡ Some z) e there) at in
        rw (e, same) (ap (slice_get (list ++ y ∷ [])) (sym k.whole) ∙ get_pushed list y ∙ ap Some is))
    | inr less ↦ get_left list y r (omega (arith, less, k.whole)) ∙ k.each r z less there
  ];
}

-- ---- a step of the loop over rows

-- what is read of the next row and of its parent
pub record IsStep (rows : List Row) (middles : List ℕ) (n : ℕ) (lasts : List ℕ) (x y : Row) (last : ℕ) : Type 0 where
  pub parent : x.parent ≡ parent_of rows n
  pub share : part_of (slice_index middles x.parent) y.ticks x.offset ≡ spread rows (slice_index middles) n
  pub last_is : last ≡ slice_index lasts (parent_of rows n)

module _ (rows : List Row) (hr : IsRows rows) (middles : List ℕ) (n : ℕ) (some : 0 < n) (here : n < length rows) (offsets lasts : List ℕ)
    (k : AreOffsetsTo rows middles n offsets lasts) (x : Row) (at : x ≡ get_or rows n x) where
  read : slice_get rows n ≡ Some x
  read = row_read rows n x here at

  pub parent_is : x.parent ≡ parent_of rows n
  parent_is = sym (let e : parent_of rows n ≡ x.parent = rw read refl in e)

  offset_is : x.offset ≡ offset_of rows n
  offset_is = sym (let e : offset_of rows n ≡ x.offset = rw read refl in e)

  -- the parent is a row that is there
  pub parent_inside : x.parent < length rows
  parent_inside = omega (arith, parent_is, hr.parent_before n some here, here)

  module _ (y : Row) (above : y ≡ get_or rows x.parent y) (last : ℕ) (was : last ≡ get_or lasts x.parent last) where
    ticks_is : y.ticks ≡ ticks_of rows (parent_of rows n)
    ticks_is = sym (let e : ticks_of rows x.parent ≡ y.ticks = rw (row_read rows x.parent y parent_inside above) refl in e) ∙ ap (ticks_of rows) parent_is

    pub step_is : IsStep rows middles n lasts x y last
    step_is = record {
      parent = parent_is;
      share = ap (λ (t : ℕ). part_of (slice_index middles x.parent) t x.offset) ticks_is
          ∙ ap (λ (o : ℕ). part_of (slice_index middles x.parent) (ticks_of rows (parent_of rows n)) o) offset_is
          ∙ ap (λ (p : ℕ). part_of (slice_index middles p) (ticks_of rows (parent_of rows n)) (offset_of rows n)) parent_is;
      last_is = get_or_read lasts x.parent last (omega (arith, k.lasts_whole, parent_inside)) was 0 ∙ ap (slice_index lasts) parent_is;
    }

    module _ (next : ℕ) (is : next ≡ max (part_of (slice_index middles x.parent) y.ticks x.offset) (last + 1)) where
      next_is : next ≡ max (spread rows (slice_index middles) n) (slice_index lasts (parent_of rows n) + 1)
      next_is = is ∙ ap (λ (s : ℕ). max s (last + 1)) step_is.share ∙ ap (λ (l : ℕ). max (spread rows (slice_index middles) n) (l + 1)) step_is.last_is

      pub step_low : AreMiddles rows middles → next ≤ MOST_TICKS
      step_low mids = subst (λ (o : ℕ). o ≤ MOST_TICKS) (sym next_is) (next_low rows hr middles n some here offsets lasts k mids)

      pub step_next : AreOffsetsTo rows middles (n + 1) (offsets ++ next ∷ []) (set lasts x.parent next)
      step_next = subst (λ (p : ℕ). AreOffsetsTo rows middles (n + 1) (offsets ++ next ∷ []) (set lasts p next)) (sym parent_is)
          (next_offset rows hr middles n some here offsets lasts k next next_is)

-- Rows that are scaled one child after another.
use Rattle.std.proofs.Common.{◌≡◌, inl, inr, ℕ, zero, suc, ◌+◌, ◌<◌, ◌≤◌, max, List, []}
use Rattle.std.proofs.Common.{◌∷◌, length, take, drop, ◌++◌, Option, Some, None, refl, ap, sym, ◌∙◌, subst, arith}
use Rattle.std.specs.Option.{option_map_or}
use Rattle.std.specs.Prelude.{slice_get, slice_set}
use Rattle.std.proofs.lemmas.Bool.{cases_eq}
use Rattle.boc_runs.specs.declared.rows.Row.{Row}
use Rattle.boc_runs.specs.Rows.{IsRows, IsLast, parent_of, offset_of, ticks_of, edited}
use Rattle.boc_runs.specs.Changes.{IsSameBut, IsChildOf, IsScaled, part_of}
use Rattle.boc_runs.proofs.Editing.{length-edited, offset_of-edited, ticks_of-edited_same, ticks_of-edited_other}
use Rattle.boc_runs.proofs.Scaling.{same_edited, same_parents, last_of_same, last_skips_to, last_takes, no_child_before}

-- the first of some rows, and the others of other rows
abbrev pub joined : ℕ → List Row → List Row → List Row
joined zero xs ys = ys
joined (suc n) [] ys = []
joined (suc n) (x ∷ xs) [] = []
joined (suc n) (x ∷ xs) (y ∷ ys) = x ∷ joined n xs ys

pub joined_put : (n : ℕ) (xs ys : List Row) (x : Row) → length xs ≡ length ys → n < length ys → slice_get xs n ≡ Some x
    → slice_set (joined n xs ys) n x ≡ joined (suc n) xs ys
joined_put n [] ys x whole there is = absurd (omega (arith, whole, there))
joined_put n (a ∷ xs) [] x whole there is = absurd (omega (arith, there))
joined_put zero (a ∷ xs) (b ∷ ys) x whole there is = ap (λ (y : Row). y ∷ ys) (sym (some_of a x is))
  where
    some_of : (a x : Row) → Some a ≡ Some x → a ≡ x
    some_of a x e = ap (λ (o : Option Row). option_map_or (λ (y : Row). y) o a) e
joined_put (suc n) (a ∷ xs) (b ∷ ys) x whole there is =
    ap (λ (l : List Row). a ∷ l) (joined_put n xs ys x (omega (arith, whole)) (omega (arith, there)) is)

pub joined_read : (n : ℕ) (xs ys : List Row) → length xs ≡ length ys → slice_get (joined n xs ys) n ≡ slice_get ys n
joined_read zero xs ys whole = refl
joined_read (suc n) [] [] whole = refl
joined_read (suc n) [] (b ∷ ys) whole = absurd (omega (arith, whole))
joined_read (suc n) (a ∷ xs) [] whole = absurd (omega (arith, whole))
joined_read (suc n) (a ∷ xs) (b ∷ ys) whole = joined_read n xs ys (omega (arith, whole))

pub length-joined : (n : ℕ) (xs ys : List Row) → length xs ≡ length ys → length (joined n xs ys) ≡ length ys
length-joined zero xs ys whole = refl
length-joined (suc n) [] ys whole = whole
length-joined (suc n) (a ∷ xs) [] whole = refl
length-joined (suc n) (a ∷ xs) (b ∷ ys) whole = ap suc (length-joined n xs ys (omega (arith, whole)))

pub joined_all : (n : ℕ) (xs ys : List Row) → length xs ≡ length ys → length ys ≤ n → joined n xs ys ≡ xs
joined_all zero [] [] whole long = refl
joined_all zero [] (b ∷ ys) whole long = absurd (omega (arith, whole))
joined_all zero (a ∷ xs) [] whole long = absurd (omega (arith, whole))
joined_all zero (a ∷ xs) (b ∷ ys) whole long = absurd (omega (arith, long))
joined_all (suc n) [] ys whole long = refl
joined_all (suc n) (a ∷ xs) [] whole long = absurd (omega (arith, whole))
joined_all (suc n) (a ∷ xs) (b ∷ ys) whole long = ap (λ (l : List Row). a ∷ l) (joined_all n xs ys (omega (arith, whole)) (omega (arith, long)))

pub joined_first : (n : ℕ) (xs ys : List Row) → length xs ≡ length ys → ((r : ℕ) → r < n → slice_get xs r ≡ slice_get ys r) → joined n xs ys ≡ ys
joined_first zero xs ys whole same = refl
joined_first (suc n) [] [] whole same = refl
joined_first (suc n) [] (b ∷ ys) whole same = absurd (omega (arith, whole))
joined_first (suc n) (a ∷ xs) [] whole same = absurd (omega (arith, whole))
joined_first (suc n) (a ∷ xs) (b ∷ ys) whole same =
    ap (λ (y : Row). y ∷ joined n xs ys) (ap (λ (o : Option Row). option_map_or (λ (y : Row). y) o b) (same 0 (omega arith)))
    ∙ ap (λ (l : List Row). b ∷ l) (joined_first n xs ys (omega (arith, whole)) (λ r below. same (suc r) (omega (arith, below))))

-- more of the first, where both are the same
pub joined_same : (n m : ℕ) (xs ys : List Row) → length xs ≡ length ys → n ≤ m → ((r : ℕ) → n ≤ r → r < m → slice_get xs r ≡ slice_get ys r)
    → joined n xs ys ≡ joined m xs ys
joined_same zero m xs ys whole low same = sym (joined_first m xs ys whole (λ r below. same r (omega arith) below))
joined_same (suc n) zero xs ys whole low same = absurd (omega (arith, low))
joined_same (suc n) (suc m) [] ys whole low same = refl
joined_same (suc n) (suc m) (a ∷ xs) [] whole low same = refl
joined_same (suc n) (suc m) (a ∷ xs) (b ∷ ys) whole low same =
    ap (λ (l : List Row). a ∷ l) (joined_same n m xs ys (omega (arith, whole)) (omega (arith, low))
    (λ r more below. same (suc r) (omega (arith, more)) (omega (arith, below))))

-- a list that was written over as a whole
pub written_back : (new items : List Row) (len : ℕ) → length new ≡ length items → len ≡ length items → take len (new ++ drop (length new) items) ≡ new
written_back [] [] zero same whole = refl
written_back [] [] (suc len) same whole = absurd (omega (arith, whole))
written_back [] (y ∷ ys) len same whole = absurd (omega (arith, same))
written_back (x ∷ xs) [] len same whole = absurd (omega (arith, same))
written_back (x ∷ xs) (y ∷ ys) zero same whole = absurd (omega (arith, whole))
written_back (x ∷ xs) (y ∷ ys) (suc len) same whole = ap (λ (l : List Row). x ∷ l) (written_back xs ys len (omega (arith, same)) (omega (arith, whole)))

filled : (q : Option Row) (x : Row) (offset : ℕ) → IsSameBut (Some x) q → option_map_or (λ (y : Row). y.offset) q 0 ≡ offset
    → option_map_or (λ (y : Row). y.ticks) q 0 ≡ x.ticks → q ≡ Some (record x { offset = offset })
filled None x offset s e t = absurd s
filled (Some y) x offset s e t =
    ap Some (s ∙ ap (λ (k : ℕ). record x { offset = k; ticks = y.ticks }) e ∙ ap (λ (k : ℕ). record x { offset = offset; ticks = k }) t)

alike : (p q : Option Row) → IsSameBut p q → option_map_or (λ (y : Row). y.offset) q 0 ≡ option_map_or (λ (y : Row). y.offset) p 0
    → option_map_or (λ (y : Row). y.ticks) q 0 ≡ option_map_or (λ (y : Row). y.ticks) p 0 → q ≡ p
alike None None s e t = refl
alike None (Some y) s e t = absurd s
alike (Some x) None s e t = absurd s
alike (Some x) (Some y) s e t = filled (Some y) x x.offset s e t

module _ (rows : List Row) (hr : IsRows rows) (row over under : ℕ) (there : row < length rows) (after : List Row) (s : IsScaled rows row over under after) where
  -- the children have their offsets, and the row takes its old ticks
  abbrev pub kept : List Row
  kept = edited after row (ticks_of rows row)

  pub kept_whole : length kept ≡ length rows
  kept_whole = length-edited after row (ticks_of rows row) ∙ s.whole

  kept_offset : (r : ℕ) → offset_of kept r ≡ offset_of after r
  kept_offset = offset_of-edited after row (ticks_of rows row)

  kept_ticks : (r : ℕ) → ticks_of kept r ≡ ticks_of rows r
  kept_ticks r = elim (cases_eq r row) [
    | inl e ↦ rw e (ticks_of-edited_same after row (ticks_of rows row) (omega (arith, s.whole, there)))
    | inr ne ↦ ticks_of-edited_other after row (ticks_of rows row) r ne ∙ s.other_ticks r ne
  ]

  is_like : (r : ℕ) → IsSameBut (slice_get rows r) (slice_get kept r)
  is_like r = same_edited after row (ticks_of rows row) r (slice_get rows r) (s.same r)

  stays : (r : ℕ) → offset_of after r ≡ offset_of rows r → slice_get kept r ≡ slice_get rows r
  stays r same = alike (slice_get rows r) (slice_get kept r) (is_like r) (kept_offset r ∙ same) (kept_ticks r)

  parents : (r : ℕ) → parent_of after r ≡ parent_of rows r
  parents = same_parents rows after s.same

  pub none_so_far : (rows ≡ joined (row + 1) kept rows) × IsLast after (row + 1) row 0
  none_so_far =
      let same : (r : ℕ) → r < row + 1 → offset_of after r ≡ offset_of rows r = λ r below.
      s.other_offsets r (λ child. absurd (omega (arith, hr.parent_before r child.0 child.1, child.2, below))) in (
        sym (joined_first (row + 1) kept rows kept_whole (λ r below. stays r (same r below))),
        last_of_same rows after (row + 1) row 0 (λ a below. parents a) same (no_child_before rows hr row over under 0 refl),
      )

  -- rows that are no children stay
  pub skips_to : (n m : ℕ) → n ≤ m → m ≤ length rows → ((c : ℕ) → n ≤ c → c < m → IsChildOf rows row c → ⊥) → (last : ℕ) (now : List Row)
      → now ≡ joined n kept rows → IsLast after n row last → (now ≡ joined m kept rows) × IsLast after m row last
  skips_to n m low within none last now is l = (
    is ∙ joined_same n m kept rows kept_whole low (λ r more below. stays r (s.other_offsets r (none r more below))),
    last_skips_to after n m row last low (λ a more below some same. none a more below (some, omega (arith, below, within), sym (parents a) ∙ same)) l,
  )

  module _ (n : ℕ) (here : n < length rows) (some : 0 < n) (last : ℕ) (now : List Row) (is : now ≡ joined n kept rows) (l : IsLast after n row last) where
    one_more : joined (suc n) kept rows ≡ joined (n + 1) kept rows
    one_more =
        let e : suc n ≡ n + 1 = omega arith in
        ap (λ (k : ℕ). joined k kept rows) e

    pub reads : slice_get now n ≡ slice_get rows n
    reads = ap (λ (list : List Row). slice_get list n) is ∙ joined_read n kept rows kept_whole

    offset_is : (x : Row) → slice_get now n ≡ Some x → offset_of rows n ≡ x.offset
    offset_is x at = ap (λ (o : Option Row). option_map_or (λ (y : Row). y.offset) o 0) (sym reads ∙ at)

    module _ (x : Row) (at : slice_get now n ≡ Some x) (child : parent_of rows n ≡ row) (offset : ℕ)
        (next : offset_of after n ≡ offset) (above : last < offset) where
      fills : slice_get kept n ≡ Some (record x { offset = offset })
      fills =
          let old : slice_get rows n ≡ Some x = sym reads ∙ at in
          filled (slice_get kept n) x offset (subst (λ (p : Option Row). IsSameBut p (slice_get kept n)) old (is_like n)) (kept_offset n ∙ next)
          (kept_ticks n ∙ ap (λ (o : Option Row). option_map_or (λ (y : Row). y.ticks) o 0) old)

      pub takes : (slice_set now n (record x { offset = offset }) ≡ joined (n + 1) kept rows) × IsLast after (n + 1) row offset
      takes = (
        ap (λ (list : List Row). slice_set list n (record x { offset = offset })) is
            ∙ joined_put n kept rows (record x { offset = offset }) kept_whole here fills ∙ one_more,
        subst (IsLast after (n + 1) row) next
            (last_takes after n row last some (parents n ∙ child) (omega (arith, above, next)) l),
      )

    -- a child that was read at its number twice gets its offset
    pub put_next : (y z : Row) → slice_get now n ≡ Some y → slice_get now n ≡ Some z → parent_of rows n ≡ row → (offset : ℕ)
        → offset ≡ max (part_of over under y.offset) (last + 1)
        → (slice_set now n (record z { offset = offset }) ≡ joined (n + 1) kept rows) × IsLast after (n + 1) row offset
    put_next y z first second child offset e =
        let next : offset_of after n ≡ offset =
        s.offsets n last (some, here, child) l ∙ ap (λ (k : ℕ). max (part_of over under k) (last + 1)) (offset_is y first) ∙ sym e in
        takes z second child offset next (omega (arith, e))

  -- in the end the row takes its new ticks
  pub finishes : (n : ℕ) → length rows ≤ n → (x : Row) (now : List Row) → now ≡ joined n kept rows → slice_get now row ≡ Some x
      → slice_set now row (record x { ticks = ticks_of after row }) ≡ after
  finishes n long x now is at =
      let all : now ≡ kept = is ∙ joined_all n kept rows kept_whole long in
      ap (λ (list : List Row). slice_set list row (record x { ticks = ticks_of after row })) all
      ∙ put_back after row (ticks_of rows row) x (subst (λ (list : List Row). slice_get list row ≡ Some x) all at)
    where
      put_back : (after : List Row) (row ticks : ℕ) (x : Row) → slice_get (edited after row ticks) row ≡ Some x
          → slice_set (edited after row ticks) row (record x { ticks = ticks_of after row }) ≡ after
      put_back [] row ticks x e = refl
      put_back (y ∷ after) zero ticks x e =
          let is : record y { ticks = ticks } ≡ x = ap (λ (o : Option Row). option_map_or (λ (z : Row). z) o x) e in
          ap (λ (z : Row). record z { ticks = y.ticks } ∷ after) (sym is)
      put_back (y ∷ after) (suc row) ticks x e = ap (λ (l : List Row). y ∷ l) (put_back after row ticks x e)

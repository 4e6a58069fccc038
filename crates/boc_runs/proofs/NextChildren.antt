-- The children of rows, found one after another.
use Rattle.std.proofs.Common.{◌≡◌, ℕ, ◌+◌, ◌<◌, ◌≤◌, List, length, refl, ap, sym, ◌∙◌, inl, inr, arith}
use Rattle.std.specs.Prelude.{slice_set, slice_index}
use Rattle.std.proofs.lemmas.Bool.{cases_eq}
use Rattle.std.proofs.lemmas.List.{get_or-set_same, get_or-set_other}
use Rattle.boc_runs.specs.declared.rows.Row.{Row}
use Rattle.boc_runs.specs.declared.siblings.Siblings.{Siblings}
use Rattle.boc_runs.specs.Rows.{IsRows, IsLast, parent_of, offset_of}
use Rattle.boc_runs.specs.Changes.{IsChildOf}
use Rattle.boc_runs.proofs.Scaling.{less_or_more, is_zero}
use Rattle.boc_runs.specs.Siblings.{IsNextChild, IsLastChild, AreSiblings}

-- the last children among the first rows, after one row more
pub last_more : (rows : List Row) → IsRows rows → (n : ℕ) (lasts : List ℕ) → n < length rows → parent_of rows n < length lasts
    → ((p : ℕ) → IsLastChild rows p n (slice_index lasts p)) → (p : ℕ) → IsLastChild rows p (n + 1) (slice_index (slice_set lasts (parent_of rows n) n) p)
last_more rows hr n lasts there listed last p = elim (cases_eq p (parent_of rows n)) [
  | inl e ↦ rw (e, get_or-set_same lasts (parent_of rows n) n 0 listed) (record {
    child = λ some. (omega arith, (some, there, refl));
    none_between = λ c above below child. absurd (omega (arith, above, below));
  })
  | inr ne ↦ rw (get_or-set_other lasts (parent_of rows n) p n 0 ne) (
      let was = last p in
      record {
        child = λ some. (let is = was.child some in (omega (arith, is.0), is.1));
        none_between = λ c above below child. elim (cases_eq c n) [
          | inl e ↦ absurd (ne (sym child.2 ∙ ap (parent_of rows) e))
          | inr other ↦ was.none_between c above (grind (arith, below, other)) child
        ];
      })
]

-- the elder siblings of the first rows, after one row more
pub elder_more : (rows : List Row) (n : ℕ) (lasts elders : List ℕ) → n < length elders → ((p : ℕ) → IsLastChild rows p n (slice_index lasts p))
    → ((r : ℕ) → r < n → IsLastChild rows (parent_of rows r) r (slice_index elders r)) → (r : ℕ) → r < n + 1
    → IsLastChild rows (parent_of rows r) r (slice_index (slice_set elders n (slice_index lasts (parent_of rows n))) r)
elder_more rows n lasts elders listed last elder r below = elim (cases_eq r n) [
  | inl e ↦ rw (e, get_or-set_same elders n (slice_index lasts (parent_of rows n)) 0 listed) (last (parent_of rows n))
  | inr ne ↦ rw (get_or-set_other elders n r (slice_index lasts (parent_of rows n)) 0 ne) (elder r (grind (arith, below, ne)))
]

-- the first children among the last rows, with one row more
pub first_more : (rows : List Row) (n : ℕ) (firsts : List ℕ) → 0 < n → n < length rows → parent_of rows n < length firsts
    → ((p : ℕ) → p < length rows → IsNextChild rows p (n + 1) (slice_index firsts p)) → (p : ℕ) → p < length rows
    → IsNextChild rows p n (slice_index (slice_set firsts (parent_of rows n) n) p)
first_more rows n firsts some there listed first p inside = elim (cases_eq p (parent_of rows n)) [
  | inl e ↦ rw (e, get_or-set_same firsts (parent_of rows n) n 0 listed) (record {
    above = omega arith;
    below = omega (arith, there);
    child = λ h. (some, there, refl);
    none_between = λ c above below child. absurd (omega (arith, above, below));
  })
  | inr ne ↦ rw (get_or-set_other firsts (parent_of rows n) p n 0 ne) (
      let was = first p inside in
      record {
        above = omega (arith, was.above);
        below = was.below;
        child = was.child;
        none_between = λ c above below child. elim (cases_eq c n) [
          | inl e ↦ absurd (ne (sym child.2 ∙ ap (parent_of rows) e))
          | inr other ↦ was.none_between c (grind (arith, above, other)) below child
        ];
      })
]

-- the younger siblings of the last rows, with one row more
pub younger_more : (rows : List Row) (n : ℕ) (firsts youngers : List ℕ) → n < length youngers → parent_of rows n < length rows
    → ((p : ℕ) → p < length rows → IsNextChild rows p (n + 1) (slice_index firsts p))
    → ((r : ℕ) → n + 1 ≤ r → r < length rows → IsNextChild rows (parent_of rows r) (r + 1) (slice_index youngers r)) → (r : ℕ) → n ≤ r → r < length rows
    → IsNextChild rows (parent_of rows r) (r + 1) (slice_index (slice_set youngers n (slice_index firsts (parent_of rows n))) r)
younger_more rows n firsts youngers listed inside first younger r above there = elim (cases_eq r n) [
  | inl e ↦ rw (e, get_or-set_same youngers n (slice_index firsts (parent_of rows n)) 0 listed) (first (parent_of rows n) inside)
  | inr ne ↦ rw (get_or-set_other youngers n r (slice_index firsts (parent_of rows n)) 0 ne) (younger r (grind (arith, above, ne)) there)
]

-- rows whose parents are the same have the same siblings
module _ (rows after : List Row) (whole : length after ≡ length rows) (parents : (r : ℕ) → parent_of after r ≡ parent_of rows r) where
  child_stays : (p b : ℕ) → IsChildOf rows p b → IsChildOf after p b
  child_stays p b child = (child.0, omega (arith, whole, child.1), parents b ∙ child.2)

  child_was : (p b : ℕ) → IsChildOf after p b → IsChildOf rows p b
  child_was p b child = (child.0, omega (arith, whole, child.1), sym (parents b) ∙ child.2)

  last_stays : (p n a : ℕ) → IsLastChild rows p n a → IsLastChild after p n a
  last_stays p n a last = record {
    child = λ some. (let is = last.child some in (is.0, child_stays p a is.1));
    none_between = λ c above below child. last.none_between c above below (child_was p c child);
  }

  next_stays : (p n b : ℕ) → IsNextChild rows p n b → IsNextChild after p n b
  next_stays p n b next = record {
    above = next.above;
    below = omega (arith, whole, next.below);
    child = λ there. child_stays p b (next.child (omega (arith, whole, there)));
    none_between = λ c above below child. next.none_between c above below (child_was p c child);
  }

  pub siblings_stay : (siblings : Siblings) → AreSiblings rows siblings → AreSiblings after siblings
  siblings_stay siblings are = record {
    up = record {
      lasts_whole = are.up.lasts_whole ∙ sym whole;
      elders_whole = are.up.elders_whole ∙ sym whole;
      last = λ r there. rw whole (last_stays r (length rows) _ (are.up.last r (omega (arith, whole, there))));
      elder = λ r there. rw (parents r) (last_stays (parent_of rows r) r _ (are.up.elder r (omega (arith, whole, there))));
    };
    down = record {
      firsts_whole = are.down.firsts_whole ∙ sym whole;
      youngers_whole = are.down.youngers_whole ∙ sym whole;
      first = λ r there. next_stays r 1 _ (are.down.first r (omega (arith, whole, there)));
      younger = λ r some there. rw (parents r) (next_stays (parent_of rows r) (r + 1) _ (are.down.younger r some (omega (arith, whole, there))));
    };
  }

-- the offset of a row's last child before another row is the greatest; main stands for none, and its offset is 0
pub last_is : (rows : List Row) → IsRows rows → (p n a : ℕ) → n ≤ length rows → IsLastChild rows p n a → IsLast rows n p (offset_of rows a)
last_is rows hr p n a within last = record {
  none_above = λ b above below same. elim (less_or_more b a) [
    | inl low ↦ not_above b above low same
    | inr more ↦ absurd (last.none_between b more below (above, omega (arith, below, within), same))
  ];
  reached = elim (is_zero a) [
    | inl e ↦ inl (ap (offset_of rows) e ∙ hr.main_offset)
    | inr some ↦ (let is = last.child some in inr (a, some, is.0, is.1.2, refl))
  ];
}
  where
    not_above : (b : ℕ) → 0 < b → b ≤ a → parent_of rows b ≡ p → offset_of rows b ≤ offset_of rows a
    not_above b above low same = elim (cases_eq b a) [
      | inl e ↦ omega (arith, ap (offset_of rows) e)
      | inr ne ↦ (
          let is = last.child (omega (arith, above, low)) in
          omega (arith, hr.offsets_rise b a above (grind (arith, low, ne)) is.1.1 (same ∙ sym is.1.2)))
    ]

-- the offset of a row's next child is the least
pub next_is : (rows : List Row) → IsRows rows → (p n b c : ℕ) → IsNextChild rows p n b → n ≤ c → IsChildOf rows p c
    → (b < length rows) × (offset_of rows b ≤ offset_of rows c)
next_is rows hr p n b c next above child = elim (less_or_more b c) [
  | inr more ↦ absurd (next.none_between c above more child)
  | inl low ↦ (
      let inside : b < length rows = omega (arith, low, child.1) in
      let own = next.child inside in (
        inside,
        elim (cases_eq b c) [
          | inl e ↦ omega (arith, ap (offset_of rows) e)
          | inr ne ↦ omega (arith, hr.offsets_rise b c own.0 (grind (arith, low, ne)) child.1 (own.2 ∙ sym child.2))
        ],
      ))
]

-- a row's first child is behind it
pub next_behind : (rows : List Row) → IsRows rows → (p b : ℕ) → p < length rows → IsNextChild rows p 1 b → p < b
next_behind rows hr p b there next = elim (less_or_more (length rows) b) [
  | inl out ↦ omega (arith, out, there)
  | inr inside ↦ (
      let child = next.child inside in
      omega (arith, child.2, hr.parent_before b child.0 inside))
]

-- The rows that have a cown, one row after another from the last one on.
use Rattle.std.proofs.Common.{◌≡◌, ◌≢◌, ◌⊎◌, inl, inr, ℕ, ◌+◌, ◌-◌, ◌<◌, ◌≤◌, List, length, Some, refl, subst, sym, ap, ◌∙◌, arith}
use Rattle.std.proofs.Common.{get_or-set_same, get_or-set_other, length-set}
use Rattle.std.specs.Prelude.{slice_get, slice_index, slice_set}
use Rattle.std.specs.List.{Contains}
use Rattle.std.proofs.lemmas.Bool.{cases_lt, cases_eq}
use Rattle.std.proofs.lemmas.List.{get_or_default}
use Rattle.std.proofs.lemmas.List.Elements.{Contains-get_or}
use Rattle.std.proofs.lemmas.Option.{slice_get_within, get_or_from_slice_get}
use Rattle.boc_program.specs.declared.limits.TheConstants.{MOST_COWNS}
use Rattle.boc_runs.specs.declared.rows.Row.{Row}
use Rattle.boc_runs.specs.Rows.{IsRows, parent_of, cowns_of}
use Rattle.boc_plans.specs.Plans.{IsChild}
use Rattle.boc_order.proofs.Found.{among_tells}
use Rattle.boc_turns.specs.Turns.{cowns_before}
use Rattle.boc_turns.proofs.Counting.{before_le, before_more}
use Rattle.boc_greedy.specs.Families.{IsNextChild}
use Rattle.boc_used_greedy.specs.Users.{IsNextUser, AreUsersFrom, AreChildrenFrom}

-- the rows after this one are noted, and the first n of its cowns
pub record AreUsersTo (rows : List Row) (row n : ℕ) (first next : List ℕ) : Type 0 where
  pub first_whole : length first ≡ MOST_COWNS
  pub next_whole : length next ≡ cowns_before rows (length rows)
  pub noted : (k : ℕ) → k < n → slice_index first (slice_index (cowns_of rows row) k) ≡ row
  pub others : (c : ℕ) → c < MOST_COWNS → ((k : ℕ) → k < n → slice_index (cowns_of rows row) k ≢ c) → IsNextUser rows c (row + 1) (slice_index first c)
  pub next_is : (r k c : ℕ) → row + 1 ≤ r → r < length rows → slice_get (cowns_of rows r) k ≡ Some c
      → IsNextUser rows c (r + 1) (slice_index next (cowns_before rows r + k))
  pub own_next : (k : ℕ) → k < n → IsNextUser rows (slice_index (cowns_of rows row) k) (row + 1) (slice_index next (cowns_before rows row + k))

module _ (rows : List Row) (hr : IsRows rows) (row : ℕ) (there : row < length rows)
    (distinct : (i j : ℕ) → i < j → j < length (cowns_of rows row) → slice_index (cowns_of rows row) i ≢ slice_index (cowns_of rows row) j) where
  abbrev cown : ℕ → ℕ
  cown k = slice_index (cowns_of rows row) k

  cown_small : (k : ℕ) → k < length (cowns_of rows row) → cown k < MOST_COWNS
  cown_small k low = hr.cowns_below row there k 0 low

  apart : (i j : ℕ) → i < length (cowns_of rows row) → j < length (cowns_of rows row) → i ≢ j → cown i ≢ cown j
  apart i j a b ne e = elim (cases_lt i j) [
    | inl lt ↦ distinct i j lt b e
    | inr ge ↦ distinct j i (omega (arith, ge, ne)) a (sym e)
  ]

  pub users_none : (first next : List ℕ) → AreUsersFrom rows (row + 1) first next → AreUsersTo rows row 0 first next
  users_none first next u = record {
    first_whole = u.first_whole;
    next_whole = u.next_whole;
    noted = λ k lt. absurd (omega (arith, lt));
    others = λ c small none. u.first_is c small;
    next_is = u.next_is;
    own_next = λ k lt. absurd (omega (arith, lt));
  }

  -- the places of this row's cowns come before those of later rows
  place_before : (r : ℕ) → row + 1 ≤ r → r < length rows → cowns_before rows row + length (cowns_of rows row) ≤ cowns_before rows r
  place_before r ge low =
      let up = before_le rows (r - (row + 1)) (row + 1) r (omega (arith, ge)) (omega (arith, low)) in
      omega (arith, up, before_more rows row there)

  own_place : (k : ℕ) → k < length (cowns_of rows row) → cowns_before rows row + k < cowns_before rows (length rows)
  own_place k low =
      let up = before_le rows (length rows - (row + 1)) (row + 1) (length rows) (omega (arith, there)) (omega arith) in
      omega (arith, up, before_more rows row there, low)

  pub users_more : (n : ℕ) (first next : List ℕ) → n < length (cowns_of rows row) → AreUsersTo rows row n first next
      → AreUsersTo rows row (n + 1) (slice_set first (cown n) row) (slice_set next (cowns_before rows row + n) (slice_index first (cown n)))
  users_more n first next low u =
      let c : ℕ = cown n in
      let place : ℕ = cowns_before rows row + n in
      let found : ℕ = slice_index first c in
      let small = cown_small n low in
      let in_first : c < length first = omega (arith, small, u.first_whole) in
      let in_next : place < length next = omega (arith, own_place n low, u.next_whole) in
      let user : IsNextUser rows c (row + 1) found = u.others c small (λ k lt. apart k n (omega (arith, lt, low)) low (λ e. omega (arith, e, lt))) in
      record {
        first_whole = length-set first c row ∙ u.first_whole;
        next_whole = length-set next place found ∙ u.next_whole;
        noted = λ k lt. elim (cases_eq k n) [
          | inl e ↦ ap (λ (x : ℕ). slice_index (slice_set first c row) (cown x)) e ∙ get_or-set_same first c row 0 in_first
          | inr ne ↦ (
              let before : k < n = omega (arith, lt, ne) in
              get_or-set_other first c (cown k) row 0 (apart k n (omega (arith, before, low)) low ne) ∙ u.noted k before)
        ];
        others = λ d d_small none. (
            let ne : d ≢ c = λ e. none n (omega arith) (sym e) in
            subst (IsNextUser rows d (row + 1)) (sym (get_or-set_other first c d row 0 ne)) (u.others d d_small (λ k lt. none k (omega (arith, lt)))));
        next_is = λ r k d ge r_low at. (
            let far = place_before r ge r_low in
            let other : cowns_before rows r + k ≢ place = λ e. omega (arith, e, far, low) in
            subst (IsNextUser rows d (r + 1)) (sym (get_or-set_other next place (cowns_before rows r + k) found 0 other)) (u.next_is r k d ge r_low at));
        own_next = λ k lt. elim (cases_eq k n) [
          | inl e ↦ subst (λ (x : ℕ). IsNextUser rows (cown x) (row + 1) (slice_index (slice_set next place found) (cowns_before rows row + x))) (sym e)
              (subst (IsNextUser rows c (row + 1)) (sym (get_or-set_same next place found 0 in_next)) user)
          | inr ne ↦ (
              let other : cowns_before rows row + k ≢ place = λ e. omega (arith, e, ne) in
              subst (IsNextUser rows (cown k) (row + 1)) (sym (get_or-set_other next place (cowns_before rows row + k) found 0 other))
              (u.own_next k (omega (arith, lt, ne))))
        ];
      }

  pub users_all : (first next : List ℕ) → AreUsersTo rows row (length (cowns_of rows row)) first next → AreUsersFrom rows row first next
  users_all first next u = record {
    first_whole = u.first_whole;
    next_whole = u.next_whole;
    first_is = λ c small. elim (among_tells c (cowns_of rows row)) [
      | inl (e, (k, low, at)) ↦ (
          let here : cown k ≡ c = get_or_default (cowns_of rows row) k 0 c low ∙ at in
          let is : slice_index first c ≡ row = ap (slice_index first) (sym here) ∙ u.noted k low in
          subst (IsNextUser rows c row) (sym is) (record {
            above = omega arith;
            below = omega (arith, there);
            user = λ h. (k, low, at);
            none_between = λ r ge lt own. omega (arith, ge, lt);
          }))
      | inr (e, none) ↦ (
          let user = u.others c small (λ k lt same. none (subst (Contains (cowns_of rows row)) same (Contains-get_or (cowns_of rows row) k 0 lt))) in
          record {
            above = omega (arith, user.above);
            below = user.below;
            user = user.user;
            none_between = λ r ge lt own. elim (cases_eq r row) [
              | inl same ↦ none (subst (λ (x : ℕ). Contains (cowns_of rows x) c) same own)
              | inr ne ↦ user.none_between r (omega (arith, ge, ne)) lt own
            ];
          })
    ];
    next_is = λ r k c ge low at. elim (cases_eq r row) [
      | inl e ↦ (
          let in_row : slice_get (cowns_of rows row) k ≡ Some c = subst (λ (x : ℕ). slice_get (cowns_of rows x) k ≡ Some c) e at in
          let k_low = slice_get_within (cowns_of rows row) k c in_row in
          let here : cown k ≡ c = get_or_from_slice_get (cowns_of rows row) k c 0 in_row in
          subst (λ (x : ℕ). IsNextUser rows c (x + 1) (slice_index next (cowns_before rows x + k))) (sym e)
          (subst (λ (x : ℕ). IsNextUser rows x (row + 1) (slice_index next (cowns_before rows row + k))) here (u.own_next k k_low)))
      | inr ne ↦ u.next_is r k c (omega (arith, ge, ne)) low at
    ];
  }

-- ---- no row is noted yet

pub no_users : (rows : List Row) (first next : List ℕ) → length first ≡ MOST_COWNS → length next ≡ cowns_before rows (length rows)
    → ((c : ℕ) → c < MOST_COWNS → slice_index first c ≡ length rows) → AreUsersFrom rows (length rows) first next
no_users rows first next first_whole next_whole none = record {
  first_whole = first_whole;
  next_whole = next_whole;
  first_is = λ c small. subst (IsNextUser rows c (length rows)) (sym (none c small)) (record {
    above = omega arith;
    below = omega arith;
    user = λ h. absurd (omega (arith, h));
    none_between = λ r ge lt own. omega (arith, ge, lt);
  });
  next_is = λ r k c ge low at. absurd (omega (arith, ge, low));
}

pub no_children : (rows : List Row) (first next : List ℕ) → length first ≡ length rows → length next ≡ length rows
    → ((a : ℕ) → a < length rows → slice_index first a ≡ length rows) → AreChildrenFrom rows (length rows) first next
no_children rows first next first_whole next_whole none = record {
  first_whole = first_whole;
  next_whole = next_whole;
  first_is = λ a there. subst (IsNextChild rows a (length rows)) (sym (none a there)) (record {
    above = omega arith;
    below = omega arith;
    child = λ h. absurd (omega (arith, h));
    none_between = λ c ge lt own. omega (arith, ge, lt);
  });
  next_is = λ b ge low. absurd (omega (arith, ge, low));
}

-- ---- one more row is noted as a child

pub children_more : (rows : List Row) → IsRows rows → (row : ℕ) (first next : List ℕ) → 0 < row → row < length rows
    → AreChildrenFrom rows (row + 1) first next
    → AreChildrenFrom rows row (slice_set first (parent_of rows row) row) (slice_set next row (slice_index first (parent_of rows row)))
children_more rows hr row first next above there u =
    let p : ℕ = parent_of rows row in
    let found : ℕ = slice_index first p in
    let before : p < row = hr.parent_before row above there in
    let in_first : p < length first = omega (arith, before, there, u.first_whole) in
    let in_next : row < length next = omega (arith, there, u.next_whole) in
    record {
      first_whole = length-set first p row ∙ u.first_whole;
      next_whole = length-set next row found ∙ u.next_whole;
      first_is = λ a low. elim (cases_eq a p) [
        | inl e ↦ (
            let is : slice_index (slice_set first p row) a ≡ row = ap (slice_index (slice_set first p row)) e ∙ get_or-set_same first p row 0 in_first in
            subst (IsNextChild rows a row) (sym is) (record {
              above = omega arith;
              below = omega (arith, there);
              child = λ h. record { not_main = above; there = there; parent = sym e };
              none_between = λ c ge lt own. omega (arith, ge, lt);
            }))
        | inr ne ↦ (
            let old = u.first_is a low in
            subst (IsNextChild rows a row) (sym (get_or-set_other first p a row 0 ne)) (record {
              above = omega (arith, old.above);
              below = old.below;
              child = old.child;
              none_between = λ c ge lt own. elim (cases_eq c row) [
                | inl same ↦ ne (sym own.parent ∙ ap (parent_of rows) same)
                | inr other ↦ old.none_between c (omega (arith, ge, other)) lt own
              ];
            }))
      ];
      next_is = λ b ge low. elim (cases_eq b row) [
        | inl e ↦ subst (λ (x : ℕ). IsNextChild rows (parent_of rows x) (x + 1) (slice_index (slice_set next row found) x)) (sym e)
            (subst (IsNextChild rows p (row + 1)) (sym (get_or-set_same next row found 0 in_next))
            (u.first_is p (omega (arith, before, there))))
        | inr ne ↦ subst (IsNextChild rows (parent_of rows b) (b + 1)) (sym (get_or-set_other next row b found 0 ne))
            (u.next_is b (omega (arith, ge, ne)) low)
      ];
    }

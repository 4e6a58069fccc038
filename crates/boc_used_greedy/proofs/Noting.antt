-- Rows are noted in a list, one after another.
use Rattle.std.proofs.Common.{◌≡◌, ◌≢◌, ◌⊎◌, inl, inr, ℕ, ◌+◌, ◌<◌, ◌≤◌, List, [], ◌∷◌, ◌++◌, length, Option, subst, sym, arith}
use Rattle.std.specs.List.{Contains}
use Rattle.std.proofs.lemmas.Bool.{cases_lt, cases_eq}
use Rattle.std.proofs.lemmas.List.Elements.{Contains-append_left, Contains-push, Contains-push_cases}
use Rattle.boc_runs.specs.declared.rows.Row.{Row}
use Rattle.boc_runs.specs.Rows.{parent_of, cowns_of}
use Rattle.boc_plans.specs.Plans.{IsChild}
use Rattle.boc_greedy.specs.Families.{IsNextChild}
use Rattle.boc_uses.specs.declared.uses.Use.{Use}
use Rattle.boc_used_greedy.specs.Users.{IsNextUser}
use Rattle.boc_used_greedy.specs.Fronts.{AreRowsOf, Has}

pub has_same : (list : List ℕ) → Has list list
has_same list b h = h

pub has_push : (first list : List ℕ) (x : ℕ) → Has list first → Has (list ++ x ∷ []) first
has_push first list x has b h = Contains-append_left list (x ∷ []) b (has b h)

pub rows_push : (rows : List Row) (list : List ℕ) (x : ℕ) → x < length rows → AreRowsOf rows list → AreRowsOf rows (list ++ x ∷ [])
rows_push rows list x there are b h = elim (Contains-push_cases list x b h) [
  | inl old ↦ are b old
  | inr e ↦ subst (λ (y : ℕ). y < length rows) e there
]

pub rows_none : (rows : List Row) → AreRowsOf rows []
rows_none rows b h = absurd (omega (arith, h.1))

-- ---- the children of a row

-- the children of a row before this one are noted
pub record AreNoted (rows : List Row) (row child : ℕ) (list : List ℕ) : Type 0 where
  pub is_child : child < length rows → IsChild rows row child
  pub noted : (b : ℕ) → IsChild rows row b → b < child → Contains list b

pub noted_first : (rows : List Row) (row child : ℕ) (list : List ℕ) → IsNextChild rows row 1 child → AreNoted rows row child list
noted_first rows row child list next = record {
  is_child = next.child;
  noted = λ b is lt. absurd (next.none_between b is.not_main lt is);
}

pub noted_more : (rows : List Row) (row child next : ℕ) (list : List ℕ) → AreNoted rows row child list → child < length rows
    → IsNextChild rows (parent_of rows child) (child + 1) next → AreNoted rows row next (list ++ child ∷ [])
noted_more rows row child next list n there is = record {
  is_child = λ low. subst (λ (x : ℕ). IsChild rows x next) parent (is.child low);
  noted = λ b own lt. elim (cases_lt b child) [
    | inl before ↦ Contains-append_left list (child ∷ []) b (n.noted b own before)
    | inr ge ↦ elim (cases_eq b child) [
      | inl e ↦ subst (Contains (list ++ child ∷ [])) (sym e) (Contains-push list child)
      | inr ne ↦ absurd (is.none_between b (omega (arith, ge, ne)) lt (subst (λ (x : ℕ). IsChild rows x b) (sym parent) own))
    ]
  ];
}
  where
    parent : parent_of rows child ≡ row
    parent = (n.is_child there).parent

pub noted_all : (rows : List Row) (row child : ℕ) (list : List ℕ) → AreNoted rows row child list → length rows ≤ child
    → (b : ℕ) → IsChild rows row b → Contains list b
noted_all rows row child list n all b is = n.noted b is (omega (arith, is.there, all))

-- ---- the rows to which a cown comes

-- the rows that have a cown, from one row on and before another, are in the list
abbrev pub Lists : List Row → ℕ → ℕ → ℕ → List ℕ → Type 0
Lists rows c from to list = (b : ℕ) → from ≤ b → b < to → Contains (cowns_of rows b) c → Contains list b

pub lists_first : (rows : List Row) (c at next : ℕ) (list : List ℕ) → IsNextUser rows c (at + 1) next → Lists rows c at next (list ++ at ∷ [])
lists_first rows c at next list user b ge lt own = elim (cases_eq b at) [
  | inl e ↦ subst (Contains (list ++ at ∷ [])) (sym e) (Contains-push list at)
  | inr ne ↦ absurd (user.none_between b (omega (arith, ge, ne)) lt own)
]

pub lists_more : (rows : List Row) (c at next after : ℕ) (list : List ℕ) → Lists rows c at next list → IsNextUser rows c (next + 1) after
    → Lists rows c at after (list ++ next ∷ [])
lists_more rows c at next after list l user b ge lt own = elim (cases_lt b next) [
  | inl before ↦ Contains-append_left list (next ∷ []) b (l b ge before own)
  | inr late ↦ elim (cases_eq b next) [
    | inl e ↦ subst (Contains (list ++ next ∷ [])) (sym e) (Contains-push list next)
    | inr ne ↦ absurd (user.none_between b (omega (arith, late, ne)) lt own)
  ]
]

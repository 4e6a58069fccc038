-- The times of children, as they are read and written.
use Rattle.std.proofs.Common.{◌≡◌, ℕ, ◌+◌, ◌<◌, ◌≤◌, List, length, get_or, sym, ap, ◌∙◌, subst, inl, inr, arith}
use Rattle.std.specs.Prelude.{slice_index, slice_set}
use Rattle.std.proofs.lemmas.Bool.{cases_eq, cases_lt}
use Rattle.std.proofs.lemmas.List.{get_or-map, length-map, map-set}
use Rattle.boc_program.specs.declared.limits.TheConstants.{MOST_TICKS}
use Rattle.boc_runs.specs.declared.rows.Row.{Row}
use Rattle.boc_runs.specs.Rows.{IsRows, parent_of, offset_of}
use Rattle.boc_plans.specs.Plans.{IsChild}
use Rattle.boc_greedy.specs.declared.children.Change.{Change}
use Rattle.boc_greedy.specs.Families.{IsNextChild, IsTimed, AreTimed, children_of, times_of}
use Rattle.boc_greedy.proofs.Puts.{Puts, puts}

module _ (xs : List Change) (i : ℕ) (x : Change) (h : i < length xs) where
  -- a change that was read
  pub child_at : x ≡ get_or xs i x → slice_index (children_of xs) i ≡ x.child
  child_at e = get_or-map (λ (c : Change). c.child) xs i x 0 h ∙ ap (λ (c : Change). c.child) (sym e)

  pub time_at : x ≡ get_or xs i x → slice_index (times_of xs) i ≡ x.after
  time_at e = get_or-map (λ (c : Change). c.after) xs i x 0 h ∙ ap (λ (c : Change). c.after) (sym e)

  -- a change that was written
  pub puts_child : Puts (children_of xs) (children_of (slice_set xs i x)) i x.child
  puts_child = rw map-set (puts (children_of xs) i x.child (simp length-map h))

  pub puts_time : Puts (times_of xs) (times_of (slice_set xs i x)) i x.after
  puts_time = rw map-set (puts (times_of xs) i x.after (simp length-map h))

module _ (rows : List Row) (hr : IsRows rows) where
  offset_small : (r : ℕ) → r < length rows → offset_of rows r ≤ MOST_TICKS
  offset_small r h = elim (cases_lt 0 r) [
    | inl pos ↦ omega (arith, hr.ticks_cover r pos h, hr.ticks_high (parent_of rows r) (omega (arith, hr.parent_before r pos h, h)))
    | inr ge ↦ (let z : r ≡ 0 = omega (arith, ge) in let s : offset_of rows r ≡ offset_of rows 0 = ap (offset_of rows) z in omega (arith, s, hr.main_offset))
  ]

  pub timed_low : (a child after : ℕ) → a < length rows → IsTimed rows a child after → after ≤ MOST_TICKS
  timed_low a child after h t = elim (cases_lt child (length rows)) [
    | inl l ↦ omega (arith, t.spawns l, offset_small child l)
    | inr ge ↦ omega (arith, t.ends ge, hr.ticks_high a h)
  ]

  -- a later child comes later, and the end of the row too
  pub timed_rise : (a b child before after : ℕ) → IsChild rows a b → IsNextChild rows a (b + 1) child → IsTimed rows a b before → IsTimed rows a child after
      → before ≤ after
  timed_rise a b child before after is next t u = elim (cases_lt child (length rows)) [
    | inl l ↦ (let d = next.child l in omega (
      arith,
      t.spawns is.there,
      u.spawns l,
      hr.offsets_rise b child is.not_main (omega (arith, next.above)) d.there
          (is.parent ∙ sym d.parent),
    ))
    | inr ge ↦ omega (arith, t.spawns is.there, u.ends ge, rw is.parent at (hr.ticks_cover b is.not_main is.there))
  ]

-- the times of all rows, where one row has another child
pub timed_after : (rows : List Row) (first first' times times' : List ℕ) (r child after : ℕ) → AreTimed rows first times → Puts first first' r child
    → Puts times times' r after →
    IsTimed rows r child after → AreTimed rows first' times'
timed_after rows first first' times times' r child after are pf pt is a h = elim (cases_eq a r) [
  | inl e ↦ subst (λ (x : ℕ). IsTimed rows x (slice_index first' x) (slice_index times' x)) (sym e) (rw (pf.at, pt.at) is)
  | inr ne ↦ rw (pf.others a ne, pt.others a ne) (are a h)
]

-- How rows hold their cowns, where all rows are noted.
use Rattle.std.proofs.Common.{◌≡◌, inl, inr, ℕ, ◌+◌, ◌<◌, Bool, true, false, cond, List, [], ◌∷◌, ◌++◌, length, Option, Some, None, subst, sym, ap, ◌∙◌, arith}
use Rattle.std.specs.Prelude.{slice_index}
use Rattle.std.proofs.lemmas.Bool.{cases_eq}
use Rattle.std.proofs.lemmas.List.{get_or_push, get_or_append_left}
use Rattle.boc_runs.specs.declared.rows.Row.{Row}
use Rattle.boc_runs.specs.Rows.{IsRows, ticks_of}
use Rattle.boc_uses.specs.declared.uses.Use.{Use}
use Rattle.boc_turns.specs.Turns.{cowns_before, use_of, AreUses, IsWithin}
use Rattle.boc_turns.specs.Course.{marked}
use Rattle.boc_used_greedy.specs.Holds.{has_cown, hold_by, whole_use, AreHolds}
use Rattle.boc_used_greedy.proofs.Holding.{AreHeldTo, each}
use Rattle.boc_used_greedy.proofs.Within.{use_there}

-- a row's way to hold a cown is within its ticks
hold_within : (own relaxed : Bool) (o : Option Use) (ticks : ℕ) (u : Use) → ((v : Use) → o ≡ Some v → IsWithin ticks v) → 0 < ticks
    → cond own (hold_by relaxed o ticks) None ≡ Some u → IsWithin ticks u
hold_within false relaxed o ticks u within low e = absurd cc
hold_within true true o ticks u within low e = within u e
hold_within true false o ticks u within low e =
    let same : whole_use ticks ≡ u = cc in
    subst (IsWithin ticks) same (record { from_one = omega arith; rises = omega (arith, low); ends = omega arith })

module _ (rows : List Row) (hr : IsRows rows) (uses : List (Option Use)) (are : AreUses rows uses) (marks : List Bool) (all : List (Option Use))
    (h : AreHeldTo rows uses marks (length rows) 0 all) where
  pub held_uses : AreUses rows all
  held_uses = record {
    whole = omega (arith, h.whole);
    within = λ r c u e. (
        let there = use_there rows all r c u e in
        hold_within (has_cown rows r c) (marked marks c) (use_of rows uses r c) (ticks_of rows r) u (λ v f. are.within r c v f) (hr.ticks_low r there)
        (sym (each rows hr uses are marks all h r c there) ∙ e));
  }

  pub are_holds : AreHolds rows uses (marked marks) all
  are_holds = record { are_uses = held_uses; each = each rows hr uses are marks all h }

-- the cowns of one more row begin at their place
pub begins_more : (rows : List Row) (n : ℕ) (begins : List ℕ) (x : ℕ) → length begins ≡ n → x ≡ cowns_before rows n
    → ((r : ℕ) → r < n → slice_index begins r ≡ cowns_before rows r) → (r : ℕ) → r < n + 1 → slice_index (begins ++ x ∷ []) r ≡ cowns_before rows r
begins_more rows n begins x whole is before r low = elim (cases_eq r n) [
  | inl e ↦ ap (slice_index (begins ++ x ∷ [])) e ∙ (get_or_push begins x 0 n whole ∙ (is ∙ ap (cowns_before rows) (sym e)))
  | inr ne ↦ get_or_append_left begins (x ∷ []) 0 r (omega (arith, low, ne, whole)) ∙ before r (omega (arith, low, ne))
]

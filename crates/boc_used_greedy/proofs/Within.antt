-- Uses of cowns are within the ticks of rows.
use Rattle.std.proofs.Common.{◌≡◌, inl, inr, ℕ, ◌<◌, List, [], length, Option, Some, subst, ap, arith}
use Rattle.std.specs.List.{Contains}
use Rattle.std.specs.Option.{option_map_or}
use Rattle.std.proofs.lemmas.Bool.{cases_lt}
use Rattle.std.proofs.lemmas.Option.{slice_get_past}
use Rattle.boc_program.specs.declared.limits.TheConstants.{MOST_TICKS}
use Rattle.boc_runs.specs.declared.rows.Row.{Row}
use Rattle.boc_runs.specs.Rows.{IsRows, cowns_of}
use Rattle.boc_uses.specs.declared.uses.Use.{Use}
use Rattle.boc_turns.specs.Turns.{use_of, AreUses, IsWithin}
use Rattle.boc_turns.proofs.Gathering.{use_has}

-- a row that uses a cown is there
pub use_there : (rows : List Row) (uses : List (Option Use)) (r c : ℕ) (u : Use) → use_of rows uses r c ≡ Some u → r < length rows
use_there rows uses r c u e = elim (cases_lt r (length rows)) [
  | inl there ↦ there
  | inr ge ↦ absurd (
      let none : cowns_of rows r ≡ [] = ap (λ (o : Option Row). option_map_or (λ (x : Row). x.cowns.items) o []) (slice_get_past rows r ge) in
      let has : Contains [] c = subst (λ (l : List ℕ). Contains l c) none (use_has (cowns_of rows r) _ c u e) in
      omega (arith, has.1))
]

pub within_uses : (rows : List Row) → IsRows rows → (uses : List (Option Use)) → AreUses rows uses → (c r : ℕ) (u : Use) → use_of rows uses r c ≡ Some u
    → IsWithin MOST_TICKS u
within_uses rows hr uses are c r u e =
    let w = are.within r c u e in
    record { from_one = w.from_one; rises = w.rises; ends = omega (arith, w.ends, hr.ticks_high r (use_there rows uses r c u e)) }

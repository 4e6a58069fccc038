-- The names of live rows after a spawn.
use Rattle.std.proofs.Common.{◌≡◌, ℕ, zero, suc, ◌+◌, ◌<◌, ◌≤◌, List, [], ◌∷◌, ◌++◌, length, refl, sym, ◌∙◌, ap, arith}
use Rattle.std.specs.Prelude.{slice_get, slice_index_or, Some}
use Rattle.std.specs.List.{All}
use Rattle.boc_program.proofs.ChangedItems.{item_at}
use Rattle.boc_program.specs.declared.program.Program.{Program}
use Rattle.boc_fronts.specs.Fronts as fronts
use Rattle.boc_fronts.specs.Steps.{IsArranged}
use Rattle.boc_front_rows.specs.declared.row.Front.{Front}

-- the last name
pub name_new : (names : List ℕ) (row i : ℕ) → i ≡ length names → slice_index_or (names ++ (row ∷ [])) i 0 ≡ row
name_new [] row i e = ap (λ k. slice_index_or (row ∷ []) k 0) e
name_new (n ∷ names) row zero e = absurd (omega (arith, e))
name_new (n ∷ names) row (suc i) e = name_new names row i (omega (arith, e))

-- what is read at a place of an order
order_read : (order : List ℕ) (k d : ℕ) → k < length order → slice_get order k ≡ Some (slice_index_or order k d)
order_read [] k d low = absurd (omega (arith, low))
order_read (i ∷ order) zero d low = refl
order_read (i ∷ order) (suc k) d low = order_read order k d (omega (arith, low))

-- the places that are kept are no more than so many
pub places_low : (f g : fronts.Front) (order : List ℕ) (many : ℕ) → IsArranged f order g → length f.live ≤ many + 1 → All (λ place. place ≤ many) order
places_low f g order many arranged few k d low = omega (arith, few, arranged.there k (slice_index_or order k d) (order_read order k d low))

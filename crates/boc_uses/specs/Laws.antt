-- Laws of uses.
use Rattle.std.specs.Prelude.{◌≡◌, ◌<◌, ◌≤◌, ℕ, zero, suc, Bool, true, false, List, [], ◌∷◌, length, map, Option, Some, None, ℤ, slice_get, slice_set}
use Rattle.std.specs.List.{filter}
use Rattle.boc_program.specs.declared.body.Body.{Body}
use Rattle.boc_program.specs.declared.short.Input.{Input}
use Rattle.boc_program.specs.declared.body.EndStatus.TheVariants as end
use Rattle.boc_program.specs.Meaning.{Meaning, meaning, whole}
use Rattle.boc_uses.specs.declared.uses.Use.{Use}
use Rattle.boc_uses.specs.declared.uses.Way.{Way}
use Rattle.boc_uses.specs.declared.uses.Way.TheVariants.{Needing, Updating, Writing}
use Rattle.boc_uses.specs.Uses.{SlotUse, body_uses, cown_uses}

-- the use is a write
abbrev pub writes : Way → Bool
writes Needing = false
writes Updating = false
writes Writing = true

-- the slots that are written, one after another
abbrev pub slots_written : List SlotUse → List ℕ
slots_written us = map (λ u. u.slot) (filter (λ u. writes u.way) us)

-- the writes among the uses of a body are the assignments of its meaning, one after another
abbrev pub WritesAreAssignments : Body → List ℤ → List Input → Type 0
WritesAreAssignments body args inputs = slots_written (body_uses body args inputs) ≡ (whole body args inputs).assigned

-- the ticks of uses rise from one tick to another, each no lower than the one before it
abbrev pub RiseBetween : ℕ → List SlotUse → ℕ → Type 0
RiseBetween low [] high = low ≤ high
RiseBetween low (u ∷ us) high = (low ≤ u.tick) × RiseBetween u.tick us high

-- the uses of a body rise from its first tick to its last
abbrev pub UsesRise : Body → List ℤ → List Input → Type 0
UsesRise body args inputs = RiseBetween 1 (body_uses body args inputs) (meaning body args inputs).ticks

-- the first use is at the first of so many ticks or later, and no later than the last use, which is at the last of them or sooner
pub record LiesWithin (ticks : ℕ) (u : Use) : Type 0 where
  pub from_one : 1 ≤ u.first
  pub rises : u.first ≤ u.last
  pub ends : u.last ≤ ticks

-- the uses of each cown that a body holds lie within the body's ticks
abbrev pub UsesLieWithin : Body → List ℤ → List Input → Type 0
UsesLieWithin body args inputs =
    (place : ℕ) (u : Use) → slice_get (cown_uses body args inputs) place ≡ Some (Some u) → LiesWithin (meaning body args inputs).ticks u

-- the same inputs, but for another value of one of the cowns
abbrev pub with_value : List Input → ℕ → ℤ → List Input
with_value [] place v = []
with_value (i ∷ inputs) zero v = record { cown = i.cown; value = v } ∷ inputs
with_value (i ∷ inputs) (suc place) v = i ∷ with_value inputs place v

-- a body needs the value of the cown in this place
abbrev pub needs_value : Option (Option Use) → Bool
needs_value None = false
needs_value (Some None) = false
needs_value (Some (Some found)) = found.needed

-- two meanings are the same, but for what they leave in the cown in this place
pub record SameBut (place : ℕ) (m n : Meaning) : Type 0 where
  pub wishes : n.wishes ≡ m.wishes
  pub ticks : n.ticks ≡ m.ticks
  pub written : n.written ≡ m.written
  pub left : ℤ
  pub outputs : n.outputs ≡ slice_set m.outputs place left

-- With another value of a cown that a body doesn't need it takes the same ticks, makes the same wishes, writes the same cowns, and leaves
-- the same in its other cowns, as long as neither ends by a fault.
abbrev pub UnneededChangesNothing : Body → List ℤ → List Input → ℕ → ℤ → Type 0
UnneededChangesNothing body args inputs place v =
    needs_value (slice_get (cown_uses body args inputs) place) ≡ false → place < length inputs
    → (meaning body args inputs).status ≡ end.Done → (meaning body args (with_value inputs place v)).status ≡ end.Done
    → SameBut place (meaning body args inputs) (meaning body args (with_value inputs place v))

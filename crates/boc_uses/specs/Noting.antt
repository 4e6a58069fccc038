-- Uses, noted one after another in a list that has a place for each cown parameter.
use Rattle.std.specs.Prelude.{◌≡◌, ℕ, ◌-◌, nat_lt, Bool, true, false, ◌||◌, if◌then◌else◌, List, [], ◌∷◌, ◌++◌, Option}
use Rattle.std.specs.Prelude.{Some, None, Ok, Err, ℤ, slice_index_or, slice_set}
use Rattle.boc_program.specs.Value.{OrFault}
use Rattle.boc_program.specs.Meaning.{State}
use Rattle.boc_uses.specs.declared.uses.Use.{Use}
use Rattle.boc_uses.specs.Uses.{SlotUse, needs}

-- where an evaluation stands
abbrev pub standing : List ℕ → List ℤ → ℕ → State
standing held slots ticks = record { held = held; slots = slots; ticks = ticks }

-- one more use of a parameter
abbrev pub after_use : Option Use → ℕ → Bool → Use
after_use None tick needing = record { first = tick; last = tick; needed = needing }
after_use (Some before) tick needing = record { first = before.first; last = tick; needed = before.needed || needing }

-- the use is noted, if the slot is a cown parameter's: those stand behind `params` others
abbrev pub noted : ℕ → List (Option Use) → SlotUse → List (Option Use)
noted params uses u =
    if nat_lt u.slot params then uses
    else slice_set uses (u.slot - params) (Some (after_use (slice_index_or uses (u.slot - params) None) u.tick (needs u.way)))

-- several are noted, one after another
abbrev pub noted_all : ℕ → List (Option Use) → List SlotUse → List (Option Use)
noted_all params uses [] = uses
noted_all params uses (u ∷ us) = noted_all params (noted params uses u) us

-- what is noted in the end: where the body goes on, what it uses from there on is noted too
abbrev pub noted_then : Bool → ℕ → List (Option Use) → List SlotUse → List (Option Use)
noted_then true params uses rest = noted_all params uses rest
noted_then false params uses rest = uses

-- the same, where the body goes on with a value
abbrev pub noted_with : Option ℤ → ℕ → List (Option Use) → (ℤ → List SlotUse) → List (Option Use)
noted_with (Some v) params uses go = noted_all params uses (go v)
noted_with None params uses go = uses

-- there is a value
abbrev pub has_value : {A : Type 0} → OrFault A → Bool
has_value (Ok v) = true
has_value (Err fault) = false

-- the cowns came after the others, or there is a fault
abbrev pub named : Bool → List ℕ → List ℕ → OrFault (List ℕ) → Type 0
named true old new (Ok cs) = new ≡ old ++ cs
named false old new (Err fault) = Unit {0}
named true old new (Err fault) = ⊥
named false old new (Ok cs) = ⊥

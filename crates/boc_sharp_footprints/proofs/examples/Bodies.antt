-- The definitions tried on small bodies.
use Rattle.std.proofs.Common.{◌≡◌, ℕ, [], ◌∷◌, refl, Bool, true, false, pos, Some, None}
use Rattle.boc_program.specs.declared.body.Operator.TheVariants.{Add, Multiply, Less}
use Rattle.boc_program.specs.Syntax.{SlotExpr, Number, Slot, Binary, Member, Code, Done, Assign, If, Repeat, When}
use Rattle.boc_sharp_footprints.specs.Known.{Known, may_name, may_lead}
use Rattle.boc_sharp_footprints.specs.Followed.{after, some_when}
use Rattle.boc_sharp_footprints.specs.Tables.{Sharp, reaches_with, reaches_by, leads_to}

abbrev number : ℕ → SlotExpr
number n = Number (pos n)

abbrev twice : SlotExpr
twice = Binary Multiply (number 2) (Slot 0)

-- kinds 0 and 1 reach cowns 0 to 3; of kind 1 the argument 0 tells more: with 0 it reaches none of them, with 1 cown 1 alone
abbrev table : Sharp
table = record {
  by_kind = (true ∷ true ∷ []) ∷ (true ∷ true ∷ []) ∷ (true ∷ true ∷ []) ∷ (true ∷ true ∷ []) ∷ [];
  by_value = record { place = 0; sets = [] }
      ∷ record { place = 0; sets = (false ∷ false ∷ false ∷ false ∷ []) ∷ (false ∷ true ∷ false ∷ false ∷ []) ∷ [] } ∷ [];
}

-- a member by a known index, by one past the end, and by one that is not known
third_of_four : may_name 2 (Some (pos 1) ∷ []) (Member 0 4 twice) ≡ true
third_of_four = refl

not_the_first : may_name 0 (Some (pos 1) ∷ []) (Member 0 4 twice) ≡ false
not_the_first = refl

past_the_end : may_lead (Some (pos 2) ∷ []) (Member 0 4 twice) ≡ false
past_the_end = refl

all_members : may_name 3 (None ∷ []) (Member 0 4 twice) ≡ true
all_members = refl

no_other : may_name 4 (None ∷ []) (Member 0 4 twice) ≡ false
no_other = refl

-- what a kind reaches by the value of its argument
by_its_value : reaches_by table 1 (pos 1 ∷ []) 1 ≡ true
by_its_value = refl

not_by_its_value : reaches_by table 1 (pos 0 ∷ []) 1 ≡ false
not_by_its_value = refl

by_another : reaches_by table 1 (pos 2 ∷ []) 1 ≡ true
by_another = refl

not_known : reaches_with table 1 None 0 ≡ true
not_known = refl

-- a `when` of kind 1 over one cown, the member of this index
abbrev ask : SlotExpr → SlotExpr → Code → Code
ask arg index rest = When 1 (arg ∷ []) (Member 0 4 index ∷ []) rest

abbrev leads : ℕ → Code → Known → Bool
leads c code a = some_when (leads_to table c) code a

-- a condition that is known, and one that is not
abbrev either : Code
either = If (Binary Less (Slot 0) (number 1)) (ask (number 0) (number 2) Done) (ask (number 0) (number 3) Done) Done

then_alone : leads 3 either (Some (pos 0) ∷ []) ≡ false
then_alone = refl

else_alone : leads 2 either (Some (pos 1) ∷ []) ≡ false
else_alone = refl

both_sides : leads 2 either (None ∷ []) ≡ true
both_sides = refl

other_side_too : leads 3 either (None ∷ []) ≡ true
other_side_too = refl

-- what is spawned reaches cown 1 only by its argument 1
spawned_reaches : leads 1 (ask (number 1) (number 3) Done) [] ≡ true
spawned_reaches = refl

spawned_does_not : leads 1 (ask (number 0) (number 3) Done) [] ≡ false
spawned_does_not = refl

-- a `when` that has no cown spawns nothing
no_such_member : leads 1 (ask (number 1) (number 4) Done) [] ≡ false
no_such_member = refl

-- in the turns of a `repeat` nothing is known of what they assign, nor behind it
abbrev turns : Code
turns = Repeat (number 2) (ask (number 0) (Slot 0) (Assign 0 (Binary Add (Slot 0) (number 1)) Done)) Done

any_turn : leads 2 turns (Some (pos 0) ∷ []) ≡ true
any_turn = refl

behind_turns : after turns (Some (pos 0) ∷ Some (pos 7) ∷ []) ≡ None ∷ Some (pos 7) ∷ []
behind_turns = refl

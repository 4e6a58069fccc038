-- How a body uses the cowns that it holds: when it reads the value of a cown parameter in an expression, and when it assigns to one.
use Rattle.std.specs.Prelude.{ℕ, zero, suc, ◌+◌, nat_le, nat_eq, Bool, true, false, if◌then◌else◌, List, [], ◌∷◌, ◌++◌, map}
use Rattle.std.specs.Prelude.{length, Option, Some, None, Ok, Err, ℤ, slice_set}
use Rattle.std.specs.List.{filter, list_any}
use Rattle.boc_program.specs.declared.limits.TheConstants.{MOST_TICKS}
use Rattle.boc_program.specs.declared.body.Body.{Body}
use Rattle.boc_program.specs.declared.short.Input.{Input}
use Rattle.boc_program.specs.Syntax.{SlotExpr, Number, Slot, Negate, Binary, CownRef, Held, Single, Member, Code, Done, Assign, Work, If, Repeat, When}
use Rattle.boc_program.specs.Value.{OrFault, then_value, value, values}
use Rattle.boc_program.specs.Meaning.{State, as_count, is_zero, cown_of, cowns_of, distinct, start}
use Rattle.boc_uses.specs.declared.uses.Use.{Use}
use Rattle.boc_uses.specs.declared.uses.Way.{Way}
use Rattle.boc_uses.specs.declared.uses.Way.TheVariants.{Needing, Updating, Writing}

-- a use of a slot: how, and how many ticks the body has counted then
pub record SlotUse : Type 0 where
  pub slot : ℕ
  pub tick : ℕ
  pub way : Way

-- what is used from a state on
abbrev pub Using : Type 0
Using = State → List SlotUse

-- counts n ticks and goes on; where that would pass the cap, the body ends and uses no more
abbrev pub paid : ℕ → State → Using → List SlotUse
paid n s next = if nat_le (s.ticks + n) MOST_TICKS then next (record s { ticks = s.ticks + n }) else []

-- goes on with a value; a fault ends the body, which uses no more
abbrev pub if_value : {A B : Type 0} → OrFault A → (A → List B) → List B
if_value (Ok v) go = go v
if_value (Err fault) go = []

-- the slots that an expression reads, from left to right, until a fault cuts it short
abbrev pub slots_read : SlotExpr → List ℤ → List ℕ
slots_read (Number z) slots = []
slots_read (Slot i) slots = i ∷ []
slots_read (Negate e) slots = slots_read e slots
slots_read (Binary op a b) slots = slots_read a slots ++ if_value (value a slots) (λ v. slots_read b slots)

-- the slots that several read, from left to right
abbrev pub all_slots_read : List SlotExpr → List ℤ → List ℕ
all_slots_read [] slots = []
all_slots_read (e ∷ es) slots = slots_read e slots ++ if_value (value e slots) (λ v. all_slots_read es slots)

-- the slots that a reference to a cown reads: those of an index
abbrev pub ref_slots_read : CownRef → List ℤ → List ℕ
ref_slots_read (Held i) slots = []
ref_slots_read (Single cown) slots = []
ref_slots_read (Member first size index) slots = slots_read index slots

-- the slots that several read, from left to right
abbrev pub refs_slots_read : List CownRef → State → List ℕ
refs_slots_read [] s = []
refs_slots_read (r ∷ rs) s = ref_slots_read r s.slots ++ if_value (cown_of r s) (λ c. refs_slots_read rs s)

-- how a slot is read, in an assignment to `own` if there is one: an assignment that reads its own slot updates it
abbrev pub way_of : Option ℕ → ℕ → Way
way_of None slot = Needing
way_of (Some own) slot = if nat_eq slot own then Updating else Needing

-- reads of these slots at a tick
abbrev pub reads : ℕ → Option ℕ → List ℕ → List SlotUse
reads tick own slots = map (λ slot. record { slot = slot; tick = tick; way = way_of own slot }) slots

-- reads what an expression reads, and goes on with its value
abbrev pub evaluated : Option ℕ → SlotExpr → State → (ℤ → List SlotUse) → List SlotUse
evaluated own e s go = reads s.ticks own (slots_read e s.slots) ++ if_value (value e s.slots) go

-- a slot is written
abbrev pub write : ℕ → State → SlotUse
write slot s = record { slot = slot; tick = s.ticks; way = Writing }

-- n turns, each for a tick
abbrev pub turns_use : ℕ → (State → Using → List SlotUse) → State → Using → List SlotUse
turns_use zero act s next = next s
turns_use (suc n) act s next = paid 1 s (λ s. act s (λ s. turns_use n act s next))

-- what statements use, and then what comes after them
abbrev pub code_uses : Code → State → Using → List SlotUse
code_uses Done s next = next s
code_uses (Assign slot e rest) s next =
    paid 1 s (λ s. evaluated (Some slot) e s (λ v.
    write slot s ∷ code_uses rest (record s { slots = slice_set s.slots slot v }) next))
code_uses (Work e rest) s next =
    evaluated None e s (λ v. if_value (as_count v) (λ n. paid n s (λ s. code_uses rest s next)))
code_uses (If e block other rest) s next =
    paid 1 s (λ s. evaluated None e s (λ v.
    (if is_zero v then code_uses other else code_uses block) s (λ s. code_uses rest s next)))
code_uses (Repeat e block rest) s next =
    paid 1 s (λ s. evaluated None e s (λ v. if_value (as_count v) (λ n.
    turns_use n (code_uses block) s (λ s. code_uses rest s next))))
code_uses (When kind args refs rest) s next =
    paid 1 s (λ s.
    reads s.ticks None (all_slots_read args s.slots) ++ if_value (values args s.slots) (λ vs.
    reads s.ticks None (refs_slots_read refs s) ++ if_value (then_value (cowns_of refs s) distinct) (λ cs.
    code_uses rest s next)))

-- what a body uses from its start to its end, one after another
abbrev pub body_uses : Body → List ℤ → List Input → List SlotUse
body_uses body args inputs = code_uses body.block (start body args inputs) (λ s. [])

-- the use is a read that needs the value
abbrev pub needs : Way → Bool
needs Needing = true
needs Updating = false
needs Writing = false

-- the tick of the last of several uses, or `tick` where there is none
abbrev pub last_tick : ℕ → List SlotUse → ℕ
last_tick tick [] = tick
last_tick tick (u ∷ us) = last_tick u.tick us

-- the ticks of the first and the last of several uses, and whether one of them needs the value
abbrev pub summary : List SlotUse → Option Use
summary [] = None
summary (u ∷ us) = Some (record {
  first = u.tick;
  last = last_tick u.tick us;
  needed = list_any (λ u. needs u.way) (u ∷ us);
})

-- the uses of one slot
abbrev pub of_slot : ℕ → List SlotUse → List SlotUse
of_slot slot us = filter (λ u. nat_eq u.slot slot) us

-- the uses of each of n slots from `slot` on, in short
abbrev pub summaries : ℕ → ℕ → List SlotUse → List (Option Use)
summaries slot zero us = []
summaries slot (suc n) us = summary (of_slot slot us) ∷ summaries (slot + 1) n us

-- how a body uses each of the cowns that it holds, in parameter order; the cown parameters stand behind the value parameters
abbrev pub cown_uses : Body → List ℤ → List Input → List (Option Use)
cown_uses body args inputs = summaries (length args) (length inputs) (body_uses body args inputs)

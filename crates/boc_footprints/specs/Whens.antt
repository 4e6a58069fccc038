-- Which cowns the `when`s of a body name, and which kinds they spawn.
use Rattle.std.specs.Prelude.{ℕ, ◌-◌, nat_eq, nat_lt, nat_le, Bool, true, false, ◌&&◌, ◌||◌, pos, negsuc}
use Rattle.std.specs.List.{list_any}
use Rattle.boc_program.specs.Syntax.{SlotExpr, Number, Slot, Negate, Binary, CownRef, Held, Single, Member, Code, Done, Assign, Work, If, Repeat, When}
use Rattle.boc_program.specs.Signatures.{Test}

-- a `when` of these statements passes a test
abbrev pub some_when : Test → Code → Bool
some_when test Done = false
some_when test (Assign slot e rest) = some_when test rest
some_when test (Work e rest) = some_when test rest
some_when test (If e block other rest) = (some_when test block || some_when test other) || some_when test rest
some_when test (Repeat e block rest) = some_when test block || some_when test rest
some_when test (When kind args refs rest) = test kind args refs || some_when test rest

-- an index may be this number: any, unless it is a number itself
abbrev pub may_be : ℕ → SlotExpr → Bool
may_be i (Number (pos n)) = nat_eq n i
may_be i (Number (negsuc n)) = false
may_be i (Slot slot) = true
may_be i (Negate e) = true
may_be i (Binary op a b) = true

-- a reference may be to this cown; a parameter is one of the behaviour's own, and names none
abbrev pub may_name : ℕ → CownRef → Bool
may_name cown (Held i) = false
may_name cown (Single other) = nat_eq other cown
may_name cown (Member first size index) = (nat_le first cown && nat_lt (cown - first) size) && may_be (cown - first) index

-- a `when` of these statements may name the cown
abbrev pub names : ℕ → Code → Bool
names cown code = some_when (λ kind args refs. list_any (may_name cown) refs) code

-- a `when` of these statements is of this kind
abbrev pub spawns : ℕ → Code → Bool
spawns other code = some_when (λ kind args refs. nat_eq kind other) code

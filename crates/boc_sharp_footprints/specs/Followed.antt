-- Statements that are followed with what is known of the slots: both blocks of an `if` whose condition is not known, and one turn for all turns of a `repeat`.
use Rattle.std.specs.Prelude.{ℕ, Bool, true, false, ◌&&◌, ◌||◌, List, None, slice_set}
use Rattle.boc_program.specs.Syntax.{SlotExpr, CownRef, Code, Done, Assign, Work, If, Repeat, When}
use Rattle.boc_sharp_footprints.specs.Known.{Known, known, may_hold, may_fail}

-- a test of a `when`: its kind, arguments and cowns, and what is known of the slots
abbrev pub KnownTest : Type 0
KnownTest = ℕ → List SlotExpr → List CownRef → Known → Bool

-- what is known after statements did something that is not known to the slots that they assign
abbrev pub forget : Code → Known → Known
forget Done a = a
forget (Assign slot e rest) a = forget rest (slice_set a slot None)
forget (Work e rest) a = forget rest a
forget (If e block other rest) a = forget rest (forget other (forget block a))
forget (Repeat e block rest) a = forget rest (forget block a)
forget (When kind args refs rest) a = forget rest a

-- goes on, if so
abbrev pub after_if : Bool → (Known → Known) → Known → Known
after_if true go a = go a
after_if false go a = a

-- what is known after statements
abbrev pub after : Code → Known → Known
after Done a = a
after (Assign slot e rest) a = after rest (slice_set a slot (known e a))
after (Work e rest) a = after rest a
after (If e block other rest) a =
    after rest (forget other (after_if (may_fail (known e a)) (after other) (forget block (after_if (may_hold (known e a)) (after block) a))))
after (Repeat e block rest) a = after rest (forget block (after block (forget block a)))
after (When kind args refs rest) a = after rest a

-- what is known behind a block that may be done
abbrev pub past : Bool → Code → Known → Known
past may block a = forget block (after_if may (after block) a)

-- a `when` to which these statements may come passes a test
abbrev pub some_when : KnownTest → Code → Known → Bool
some_when test Done a = false
some_when test (Assign slot e rest) a = some_when test rest (slice_set a slot (known e a))
some_when test (Work e rest) a = some_when test rest a
some_when test (If e block other rest) a =
    ((may_hold (known e a) && some_when test block a)
    || (may_fail (known e a) && some_when test other (past (may_hold (known e a)) block a)))
    || some_when test rest (past (may_fail (known e a)) other (past (may_hold (known e a)) block a))
some_when test (Repeat e block rest) a =
    some_when test block (forget block a) || some_when test rest (past true block (forget block a))
some_when test (When kind args refs rest) a = test kind args refs a || some_when test rest a

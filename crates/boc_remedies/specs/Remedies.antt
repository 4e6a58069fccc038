-- What would bring the end of some rows forward.
use Rattle.std.specs.Prelude.{◌≡◌, ◌==◌, ℕ, Bool, false, List}
use Rattle.boc_runs.specs.declared.rows.Row.{Row}
use Rattle.boc_why.specs.declared.causes.Cause.{Cause}
use Rattle.boc_why.specs.declared.causes.Cause.TheVariants as causes
use Rattle.boc_why.specs.Causes.{IsWith, without_all}
use Rattle.boc_remedies.specs.Questions.{Asked}
use Rattle.boc_remedies.specs.declared.remedy.Remedy.{Remedy}
use Rattle.boc_remedies.specs.declared.remedy.Remedy.TheVariants.{HalfCost, NoOrder, EarlySpawns}
use Rattle.boc_remedies.specs.Families.{is_part_of, is_same_set, members_of}

-- whether two remedies are the same
abbrev pub is_same : Remedy → Remedy → Bool
is_same (HalfCost def) (HalfCost own) = def == own
is_same (NoOrder set) (NoOrder own) = is_same_set set own
is_same (EarlySpawns def) (EarlySpawns own) = def == own
is_same remedy other = false

-- whether the one leaves out fewer cowns than the other, and none that the other doesn't
abbrev pub is_within : Remedy → Remedy → Bool
is_within (NoOrder small) (NoOrder large) = is_part_of small large
is_within small large = false

-- what a remedy takes away, where each cown belongs to the family at its place
abbrev pub IsCauseOf : List ℕ → Remedy → Cause → Type 0
IsCauseOf families (HalfCost def) (causes.Cost own) = own ≡ def
IsCauseOf families (NoOrder set) (causes.Order cowns) = cowns.items ≡ members_of set families
IsCauseOf families (EarlySpawns def) (causes.Spawns own) = own ≡ def
IsCauseOf families remedy cause = ⊥

-- the rows with a remedy: a def's behaviours cost half as much, the cowns of some families order nobody, or a def's behaviours spawn as early as they can
abbrev pub AreRowsWith : List Row → List ℕ → List ℕ → Remedy → List Row → Type 0
AreRowsWith rows defs families (HalfCost def) after = IsWith rows defs (causes.Cost def) after
AreRowsWith rows defs families (NoOrder set) after = after ≡ without_all (members_of set families) rows
AreRowsWith rows defs families (EarlySpawns def) after = IsWith rows defs (causes.Spawns def) after

-- the same of the rows of a question
abbrev pub AreRowsAfter : Asked → Remedy → List Row → Type 0
AreRowsAfter question remedy after = AreRowsWith question.rows question.defs question.families remedy after

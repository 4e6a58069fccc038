-- What is told of cowns, in the names of a run.
use Rattle.std.proofs.Common.{◌≡◌, ℕ, List, Option, subst}
use Rattle.boc_runs.specs.declared.rows.Row.{Row}
use Rattle.boc_plans.specs.declared.sharing.Sharing.{Sharing}
use Rattle.boc_names.specs.declared.names.Names.{Names}
use Rattle.boc_remedies.specs.Questions.{Asked}
use Rattle.boc_cowns_report.specs.declared.told.CownsTold.{CownsTold}
use Rattle.boc_plan_commands.specs.CownsAnswers.{AreToldBy}
use Rattle.boc_plan_commands.specs.WhyAnswers.{asked_of}

-- what is asked of some rows with these defs, over cowns of these families
abbrev pub asked_with : List Row → List ℕ → List ℕ → Sharing → Option ℕ → Asked
asked_with rows defs families sharing workers =
    record { rows = rows; defs = defs; families = families; sharing = sharing; workers = workers }

-- what is told where the defs and the families are those of the names is told in the names
pub told_in_names : (rows : List Row) (names : Names) (sharing : Sharing) (workers : Option ℕ) (defs families : List ℕ) → defs ≡ names.defs.items
    → families ≡ names.families.items → (told : CownsTold) → AreToldBy (asked_with rows defs families sharing workers) told
    → AreToldBy (asked_of rows names sharing workers) told
told_in_names rows names sharing workers defs families d f told are =
    subst (λ (own : List ℕ). AreToldBy (asked_with rows names.defs.items own sharing workers) told) f
    (subst (λ (own : List ℕ). AreToldBy (asked_with rows own families sharing workers) told) d are)

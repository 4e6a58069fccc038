-- The uses of a run's rows, found by going over them in the order of their numbers.
use Rattle.std.proofs.Common.{◌≡◌, ◌∙◌, suc, refl, List, [], ◌∷◌, ◌++◌, map, Option, sym, ap, subst, ℤ}
use Rattle.boc_program.specs.declared.program.Program.{Program}
use Rattle.boc_program.specs.Programs.{initial_values}
use Rattle.boc_runs.specs.declared.event.Event.{Event}
use Rattle.boc_runs.specs.Run.{Member, config_of, IsRun, IsWholeRun}
use Rattle.boc_runs.specs.Serial.{Behaviour}
use Rattle.boc_eval.specs.declared.instance.Instance.{Instance}
use Rattle.boc_eval.specs.Instances.{AreRowsOf, behaviour_in}
use Rattle.boc_eval.specs.Queue.{QueueFits}
use Rattle.boc_machine_laws.proofs.Members.{AllFit, all_fit}
use Rattle.boc_uses.specs.declared.uses.Use.{Use}
use Rattle.boc_row_uses.specs.RowUses.{row_uses}
use Rattle.boc_row_uses.specs.InTurn.{uses_in_turn}
use Rattle.boc_row_uses.proofs.InTurn.{behaviours, uses_in_number_order}

members_fit : (p : Program) (ms : List Member) → AllFit p ms → QueueFits p (behaviours ms)
members_fit p [] all = tt
members_fit p (m ∷ ms) all =
    let fits = all 0 m refl in
    ((fits.counts, fits.below), members_fit p ms (λ r x e. all (suc r) x e))

-- the rows of a run fit their program
pub rows_fit : (p : Program) (log : List Event) (rows : List Instance) → IsRun p log → AreRowsOf (config_of p log).members rows
    → QueueFits p (map behaviour_in rows)
rows_fit p log rows run are = subst (QueueFits p) (sym are) (members_fit p (config_of p log).members (all_fit p log run))

-- what is put after no uses, by going over the rows from the values at the start on, is the uses of the rows
pub answered : (p compiled : Program) (log : List Event) (rows : List Instance) (values : List ℤ) (before after : List (Option Use)) → compiled ≡ p
    → values ≡ initial_values p.cowns → before ≡ [] → IsWholeRun p log → AreRowsOf (config_of p log).members rows
    → after ≡ before ++ uses_in_turn compiled values (map behaviour_in rows) → after ≡ row_uses p (config_of p log).members
answered p compiled log rows values before after same start none whole are put =
    put
    ∙ ap (λ (uses : List (Option Use)). uses ++ uses_in_turn compiled values (map behaviour_in rows)) none
    ∙ ap (λ (q : Program). uses_in_turn q values (map behaviour_in rows)) same
    ∙ ap (λ (vs : List ℤ). uses_in_turn p vs (map behaviour_in rows)) start
    ∙ ap (λ (bs : List Behaviour). uses_in_turn p (initial_values p.cowns) bs) are
    ∙ sym (uses_in_number_order p log whole)

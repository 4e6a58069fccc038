-- The families of a program's cowns are few.
use Rattle.std.proofs.Common.{◌+◌, ◌<◌, ◌≤◌, ℕ, suc, List, [], ◌∷◌, length, sym, subst, arith}
use Rattle.std.specs.Prelude.{All, replicate}
use Rattle.std.proofs.lemmas.List.Elements.{All-append, All-replicate}
use Rattle.boc_program.specs.declared.cown.Cown.{Cown}
use Rattle.boc_program.specs.declared.limits.TheConstants.{MOST_COWNS}
use Rattle.boc_program.specs.declared.program.Program.{Program}
use Rattle.boc_program.specs.Programs.{members}
use Rattle.boc_runs.specs.Run.{Member}
use Rattle.boc_names.specs.declared.names.Names.{Names}
use Rattle.boc_names.specs.Names.{AreNamesOf, Text, family_numbers}
use Rattle.boc_names.proofs.Counts.{declared_few}
use Rattle.boc_names.proofs.Fitting.{each_cown_of_run}

families_below : (k most : ℕ) (cowns : List Cown) → k + length cowns ≤ most → All (λ f. f < most) (family_numbers k cowns)
families_below k most [] h = λ i d l. absurd (omega arith)
families_below k most (c ∷ cs) h =
    All-append (λ f. f < most) (replicate (members c.size) k) (family_numbers (suc k) cs) (All-replicate (λ f. f < most) (members c.size) k (omega arith))
    (families_below (suc k) most cs (omega arith))

module _ (program : Program) (called : List Text) (run : List Member) (names : Names) (are : AreNamesOf program called run names) where
  pub few_cowns : length names.families.items ≤ MOST_COWNS
  few_cowns = omega (arith, (each_cown_of_run program called run names are).1, program.few_cowns)

  pub few_families : All (λ f. f < MOST_COWNS) names.families.items
  few_families = subst (All (λ (f : ℕ). f < MOST_COWNS)) (sym are.families)
      (families_below 0 MOST_COWNS program.cowns (omega (arith, declared_few program.cowns program.members, program.few_cowns)))

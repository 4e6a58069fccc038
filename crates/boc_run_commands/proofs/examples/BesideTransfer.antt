-- What is told of records beside the transfer, tried on its run by one worker, and on the same events over three cowns.
use Rattle.std.proofs.Common.{◌≡◌, ℕ, ◌+◌, [], ◌++◌, refl, codes, decimal, arith}
use Rattle.boc_runs.specs.Records.{Recorded, IsRecordOf}
use Rattle.boc_runs.specs.Run.{config_of}
use Rattle.boc_program.proofs.examples.Transfer.{program}
use Rattle.boc_runs.proofs.examples.TransferLog.{log}
use Rattle.boc_runs.proofs.examples.TransferRun.{transfer_is_whole}
use Rattle.boc_follow.specs.declared.stray.StrayFault.{StrayFault}
use Rattle.boc_follow.specs.declared.stray.StrayFaultKind.TheVariants as kinds
use Rattle.boc_run_commands.specs.Beside.{StraysFrom}
use Rattle.boc_ends_report.specs.ValueTexts.{values_text}

-- a record of the run's events over so many cowns
abbrev over : ℕ → Recorded
over cowns = record { cowns = cowns; events = log; rows = [] }

-- other cowns, told on a line
abbrev told_on : ℕ → StrayFault
told_on line = record { line = line; kind = kinds.OtherCowns }

-- ---- the run

pub is_of_the_program : IsRecordOf program (over 2)
is_of_the_program = record { cowns = refl; run = transfer_is_whole }

pub values_after_it : values_text program.cowns (config_of program log).values
    ≡ (codes "a " ++ decimal 12 ++ codes "\n") ++ ((codes "b " ++ decimal 4 ++ codes "\n") ++ [])
values_after_it = refl

pub strays_nowhere : (fault : StrayFault) → StraysFrom program (over 2) fault → ⊥
strays_nowhere fault is = is.no_run is_of_the_program

-- ---- over three cowns

other_number : (n m : ℕ) → n ≡ m + 1 → n ≡ m → ⊥
other_number n m more same = absurd (omega (arith, more, same))

pub strays_on_line_1 : StraysFrom program (over 3) (told_on 1)
strays_on_line_1 = record { strays = (other_number 3 2 refl, refl); no_run = λ is. other_number 3 2 refl is.cowns }

pub strays_on_no_other : StraysFrom program (over 3) (told_on 2) → ⊥
strays_on_no_other is = other_number 2 1 refl is.strays.1

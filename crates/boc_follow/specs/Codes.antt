-- The codes of followed runs, by which proofs tell them apart.
use Rattle.std.specs.Prelude.{List, refl}
use Rattle.std.specs.Coded.{Coded, code_by, coded×, coded_list}
use Rattle.boc_runs.specs.declared.event.Event.{Event}
use Rattle.boc_runs.specs.contracts.event.Event as event
use Rattle.boc_program.specs.declared.program.Program.{Program}
use Rattle.boc_program.specs.contracts.program.Program as program
use Rattle.boc_follow.specs.Following.{Following}

-- the code of a followed run
abbrev pub coded_following : Coded Following
coded_following =
    code_by (Program × List Event) (coded× program.the_row.coded (coded_list event.the_row.coded)) (λ f. (f.program, f.log))
    (λ t. record { program = t.0; log = t.1 }) (λ _. refl)

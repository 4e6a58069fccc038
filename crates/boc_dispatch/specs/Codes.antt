-- The codes of programs under way, by which proofs tell them apart.
use Rattle.std.specs.Prelude.{ℕ, List, Option, refl}
use Rattle.std.specs.Coded.{Coded, code_by, coded×, coded_ℕ, coded_list, coded_option}
use Rattle.boc_runs.specs.declared.event.Event.{Event}
use Rattle.boc_runs.specs.contracts.event.Event as event
use Rattle.boc_program.specs.declared.program.Program.{Program}
use Rattle.boc_program.specs.contracts.program.Program as program
use Rattle.boc_runs.specs.declared.stage.Stage.{Stage}
use Rattle.boc_runs.specs.contracts.stage.Stage as stage
use Rattle.boc_runs.specs.machine.Stages.{OpenBehaviour}
use Rattle.boc_runs.specs.machine.Steps.{State}
use Rattle.boc_dispatch.specs.Underway.{Underway}

-- the code of an open behaviour
abbrev pub coded_behaviour : Coded OpenBehaviour
coded_behaviour =
    code_by (ℕ × (ℕ × (List ℕ × Stage))) (coded× coded_ℕ (coded× coded_ℕ (coded× (coded_list coded_ℕ) stage.the_row.coded)))
    (λ b. (b.parent, (b.offset, (b.cowns, b.stage)))) (λ t. record { parent = t.0; offset = t.1.0; cowns = t.1.1.0; stage = t.1.1.1 }) (λ _. refl)

-- the code of a state
abbrev pub coded_state : Coded State
coded_state =
    code_by (List Event × (List (Option OpenBehaviour) × (List (List ℕ) × (List ℕ × ℕ))))
    (coded× (coded_list event.the_row.coded) (coded× (coded_list (coded_option coded_behaviour))
    (coded× (coded_list (coded_list coded_ℕ)) (coded× (coded_list coded_ℕ) coded_ℕ))))
    (λ s. (s.log, (s.behaviours, (s.queues, (s.ready, s.steps)))))
    (λ t. record { log = t.0; behaviours = t.1.0; queues = t.1.1.0; ready = t.1.1.1.0; steps = t.1.1.1.1 }) (λ _. refl)

-- the code of a program under way
abbrev pub coded_underway : Coded Underway
coded_underway = code_by (Program × State) (coded× program.the_row.coded coded_state) (λ u. (u.program, u.state)) (λ t. record { program = t.0; state = t.1 })
    (λ _. refl)

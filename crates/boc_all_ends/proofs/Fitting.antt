-- What rows wish for fits the program.
use Rattle.std.proofs.Common.{◌≡◌, ◌⊎◌, ℕ, ◌<◌, inl, inr, List, [], ◌∷◌, ◌++◌, length, map, sym, ◌∙◌, ap, subst, ℤ, Some}
use Rattle.std.specs.Prelude.{slice_get}
use Rattle.boc_program.specs.declared.program.Program.{Program}
use Rattle.boc_program.specs.Programs.{cown_count}
use Rattle.boc_program.specs.Signatures.{signature_of, calls_fit}
use Rattle.boc_runs.specs.Serial.{Behaviour, behaviour_of, inputs_of, meaning_if}
use Rattle.boc_runs.proofs.Behaviours.{named}
use Rattle.boc_eval.specs.Queue.{BehaviourFits, QueueFits}
use Rattle.boc_eval.proofs.Queued.{turn_fits}
use Rattle.boc_all_ends.specs.Runs.{meant_at}

pub meant_fits : (p : Program) (b : Behaviour) (values : List ℤ) → BehaviourFits p b → QueueFits p (map behaviour_of (meant_at p b values).wishes)
meant_fits p b values fits =
    let r = named p.bodies (calls_fit (map signature_of p.bodies) (cown_count p.cowns)) b.kind (length b.args) (length b.cowns) fits.0 p.calls in
    subst (λ o. QueueFits p (map behaviour_of (meaning_if o b.args (inputs_of b.cowns values)).wishes)) (sym r.is) (turn_fits p b values r.body r.is fits)

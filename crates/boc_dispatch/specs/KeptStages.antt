-- How far a behaviour is, as it is kept.
use Rattle.std.specs.Prelude.{ℕ, true, false}
use Rattle.boc_runs.specs.declared.stage.Phase.{Phase}
use Rattle.boc_runs.specs.declared.stage.Phase.TheVariants as phases
use Rattle.boc_runs.specs.declared.stage.Stage.{Stage}
use Rattle.boc_runs.specs.declared.stage.Stage.TheVariants.{Asking as AsksFor, Recorded}
use Rattle.boc_dispatch.specs.declared.kept_stage.Place.{Place}
use Rattle.boc_dispatch.specs.declared.kept_stage.Place.TheVariants.{Asking, Exchanged, Flagging, Owning, Waiting, Ready, Running, Leaving}

-- the stage of this kind, row and request, of which those are left out that it does not have
abbrev pub kept_stage : Place → ℕ → ℕ → Stage
kept_stage Asking row request = AsksFor request false
kept_stage Exchanged row request = AsksFor request true
kept_stage Flagging row request = Recorded row (phases.Flagging request)
kept_stage Owning row request = Recorded row phases.Owning
kept_stage Waiting row request = Recorded row phases.Waiting
kept_stage Ready row request = Recorded row phases.Ready
kept_stage Running row request = Recorded row phases.Running
kept_stage Leaving row request = Recorded row (phases.Leaving request)

-- the request of a phase, and 0 where it has none
abbrev pub request_of : Phase → ℕ
request_of (phases.Flagging request) = request
request_of phases.Owning = 0
request_of phases.Waiting = 0
request_of phases.Ready = 0
request_of phases.Running = 0
request_of (phases.Leaving request) = request

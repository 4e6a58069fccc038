-- Who may be called after a turn. Whether anybody waits is known under the lock alone.
use Rattle.std.specs.Prelude.{◌≡◌, ◌≢◌, ℕ, List, [], Option, Some}
use Rattle.boc_runs.specs.declared.step.Step.{Step}
use Rattle.boc_runs.specs.declared.step.Step.TheVariants as steps
use Rattle.boc_dispatch.specs.declared.worker.Turn.{Turn}
use Rattle.boc_dispatch.specs.declared.worker.Turn.TheVariants as turns
use Rattle.boc_workers.specs.declared.waiters.Call.{Call}
use Rattle.boc_workers.specs.declared.waiters.Call.TheVariants as calls

-- where a request was settled or flagged, those who are blocked, or nobody
abbrev pub IsForRequests : Call → Type 0
IsForRequests calls.Blocked = Unit {0}
IsForRequests calls.Nobody = Unit {0}
IsForRequests _ = ⊥

-- for a row, where one is ready, those who look for it or one who sleeps; or nobody
abbrev pub IsForRow : List ℕ → Call → Type 0
IsForRow ready calls.Lookers = ready ≢ []
IsForRow ready calls.Sleeper = ready ≢ []
IsForRow ready calls.Nobody = Unit {0}
IsForRow ready _ = ⊥

-- after a step that leaves these rows ready
abbrev pub MayFollowStep : Step → List ℕ → Call → Type 0
MayFollowStep (steps.Settle place) ready call = IsForRequests call
MayFollowStep (steps.Flag place) ready call = IsForRequests call
MayFollowStep steps.Own ready call = IsForRow ready call
MayFollowStep (steps.Pass place) ready call = IsForRow ready call
MayFollowStep steps.Start ready call = IsForRow ready call
MayFollowStep _ ready call = call ≡ calls.Nobody

-- after a turn: after any other than a step everybody, since the run is over
abbrev pub MayFollow : Option Turn → List ℕ → Call → Type 0
MayFollow (Some (turns.Moved step)) ready call = MayFollowStep step ready call
MayFollow _ ready call = call ≡ calls.Everybody

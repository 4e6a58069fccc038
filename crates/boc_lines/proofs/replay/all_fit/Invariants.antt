use Rattle.std.proofs.Common.{◌≡◌, ℕ, ◌<◌, map, Some}
use Rattle.std.specs.Prelude.{slice_get}
use Rattle.boc_runs.specs.Serial.{Behaviour}
use Rattle.boc_eval.specs.Instances.{behaviour_in}
use Rattle.boc_lines.specs.Replays.{Fits}
use Rattle.boc_lines.proofs.replay.all_fit.Given as goal

-- the rows so far fit
abbrev pub invariant-loop-row : goal.invariant-loop-row
invariant-loop-row l = (k : ℕ) (b : Behaviour) → k < l.row-index → slice_get (map behaviour_in l.rows) k ≡ Some b → Fits l.program b

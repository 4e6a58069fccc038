use Rattle.std.proofs.Common.{◌≡◌, ◌≤◌, ◌-◌, false, length, map, take}
use Rattle.boc_runs.specs.Serial.{behaviour_of}
use Rattle.boc_eval.specs.Frames.{wishes_of}
use Rattle.boc_eval.specs.Instances.{behaviour_in}
use Rattle.boc_lines.proofs.along.wishes_to_end.Given as goal

abbrev pub invariant-loop-frame : goal.invariant-loop-frame
invariant-loop-frame l = record {
  same : l.frame ≡ record l.fn.frame { made = l.frame.made; ended = false };
  so_far : map behaviour_in l.wished.items ≡ map behaviour_of (take l.frame.made (wishes_of l.fn.frame));
  within : l.frame.made ≤ length (wishes_of l.fn.frame);
}

abbrev pub decreases-loop-frame : goal.decreases-loop-frame
decreases-loop-frame l = length (wishes_of l.frame) - l.frame.made

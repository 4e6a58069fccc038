use Rattle.std.proofs.Common.{◌≡◌, ◌≢◌, [], length, map, take}
use Rattle.std.specs.Prelude.{All}
use Rattle.boc_plan_commands.specs.Asked.{all_edits, edits_of}
use Rattle.boc_plan_commands.proofs.meant.edits_meant.Given as goal

-- all that the edits so far mean, each of which means some
abbrev pub invariant-loop-one : goal.invariant-loop-one
invariant-loop-one l = record {
  edits_are : l.edits.items ≡ all_edits l.names (take l.one-index l.asked);
  counts_are : l.counts.items ≡ map (λ a. length (edits_of l.names a)) (take l.one-index l.asked);
  known : All (λ a. edits_of l.names a ≢ []) (take l.one-index l.asked);
}

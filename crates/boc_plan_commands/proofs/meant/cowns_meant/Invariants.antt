use Rattle.std.proofs.Common.{◌≡◌, ◌≢◌, [], take}
use Rattle.std.specs.Prelude.{All}
use Rattle.boc_plan_commands.specs.Asked.{all_cowns, cowns_of}
use Rattle.boc_plan_commands.proofs.meant.cowns_meant.Given as goal

-- all that the cowns so far mean, each of which means some
abbrev pub invariant-loop-index : goal.invariant-loop-index
invariant-loop-index l = record {
  cowns_are : l.cowns.items ≡ all_cowns l.names (take l.index l.asked);
  known : All (λ a. cowns_of l.names a ≢ []) (take l.index l.asked);
}

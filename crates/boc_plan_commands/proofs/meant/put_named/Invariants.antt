use Rattle.std.proofs.Common.{◌≡◌, ◌++◌}
use Rattle.std.specs.Prelude.{filter}
use Rattle.std.specs.List.{range_with_len}
use Rattle.boc_plan_commands.specs.Asked.{has_name}
use Rattle.boc_plan_commands.proofs.meant.put_named.Given as goal

-- those of the cowns so far that are called so
abbrev pub invariant-loop-cown : goal.invariant-loop-cown
invariant-loop-cown l = l.cowns.items ≡ l.fn.cowns.items ++ filter (has_name l.names l.name) (range_with_len 0 l.cown)

use Rattle.std.proofs.Common.{◌≢◌, [], take}
use Rattle.std.specs.Prelude.{All, string_bytes}
use Rattle.boc_plan_commands.specs.Asked.{AreMadeEarly, rows_of}
use Rattle.boc_plan_commands.proofs.whatif.spawned_early.Given as goal

-- the rows so far spawn early, and each def so far has some
abbrev pub invariant-loop-index : goal.invariant-loop-index
invariant-loop-index l = record {
  made : AreMadeEarly l.names l.fn.rows (take l.index l.asked) l.after;
  known : All (λ def. rows_of l.names (string_bytes def) ≢ []) (take l.index l.asked);
}

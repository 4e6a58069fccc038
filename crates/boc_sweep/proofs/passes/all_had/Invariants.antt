use Rattle.std.proofs.Common.{◌≡◌, length}
use Rattle.boc_program.specs.declared.limits.TheConstants.{MOST_COWNS}
use Rattle.boc_sweep.specs.Passes.{TellHad}
use Rattle.boc_sweep.proofs.passes.all_had.Given as goal

-- the cowns of the rows so far are told
abbrev pub invariant-loop-row : goal.invariant-loop-row
invariant-loop-row l = record {
  whole : length l.had.items ≡ MOST_COWNS;
  told : TellHad l.rows l.row l.had.items;
}

use Rattle.std.proofs.Common.{◌≡◌, length}
use Rattle.boc_program.specs.Programs.{cown_count}
use Rattle.boc_lines.proofs.Running.{OnTheWay}
use Rattle.boc_lines.proofs.along.behaviours_along.Given as goal

abbrev pub invariant-loop-row : goal.invariant-loop-row
invariant-loop-row l = record {
  values : length l.values ≡ cown_count l.program.cowns;
  both : length l.along.wished.items ≡ length l.along.taken.items;
  way : OnTheWay l.program l.rows l.row-index l.values l.along;
}

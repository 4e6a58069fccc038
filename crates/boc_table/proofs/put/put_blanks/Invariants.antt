use Rattle.std.proofs.Common.{◌≡◌, ◌++◌}
use Rattle.boc_table.specs.Tables.{blanks}
use Rattle.boc_table.proofs.put.put_blanks.Given as goal

abbrev pub invariant-loop : goal.invariant-loop
invariant-loop l = l.text.items ≡ l.fn.text.items ++ blanks l.counter

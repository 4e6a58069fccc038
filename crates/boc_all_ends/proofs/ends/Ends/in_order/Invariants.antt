use Rattle.std.proofs.Common.{◌≡◌, ◌++◌, map}
use Rattle.boc_all_ends.specs.Gathered.{note_of, noted_in}
use Rattle.boc_all_ends.proofs.ends.Ends.in_order.Given as goal

abbrev pub invariant-loop-values : goal.invariant-loop-values
invariant-loop-values l = map note_of l.all.items ++ map noted_in l.values-iterator ≡ map noted_in l.self.found.entries

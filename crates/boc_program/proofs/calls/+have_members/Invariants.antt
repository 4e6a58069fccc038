use Rattle.std.specs.Prelude.{length}
use Rattle.boc_program.proofs.calls.+have_members.Given as goal

abbrev pub decreases-have_members : goal.decreases-have_members
decreases-have_members l = length l.cowns.now

use Rattle.std.specs.Prelude.{◌≡◌, ℕ, ◌<◌, ◌↔◌, IsTrue, get_or}
use Rattle.boc_program.proofs.script.same_cells.Given as goal

abbrev pub invariant-loop-i : goal.invariant-loop-i
invariant-loop-i l = IsTrue l.same ↔ ((k : ℕ) → k < l.i → get_or l.a k 0 ≡ get_or l.b k 0)

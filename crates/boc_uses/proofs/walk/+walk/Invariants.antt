use Rattle.std.proofs.Common.{◌≡◌, ◌+◌, ◌-◌, ◌*◌, ◌≤◌, length}
use Rattle.boc_program.specs.Syntax.{Done, code_size}
use Rattle.boc_program.specs.memory.View.{code_of, before}
use Rattle.boc_program.specs.Meaning.{cowns_held}
use Rattle.boc_uses.specs.Uses.{Using, code_uses, turns_use}
use Rattle.boc_uses.specs.Noting.{noted_all, standing}
use Rattle.boc_uses.proofs.walk.+walk.Given as goal

abbrev pub decreases-walk : goal.decreases-walk
decreases-walk l = 4 * code_size (code_of l.stmts.now) + 1

abbrev pub decreases-walk_one : goal.decreases-walk_one
decreases-walk_one l = 4 * code_size (before l.stmt.now Done)

abbrev pub decreases-walk_turns : goal.decreases-walk_turns
decreases-walk_turns l = 4 * code_size l.block.now + 3

abbrev pub decreases-walk_turn : goal.decreases-walk_turn
decreases-walk_turn l = 4 * code_size l.block.now + 2

abbrev pub invariant-walk_turns-loop : goal.invariant-walk_turns-loop
invariant-walk_turns-loop l = record {
  few : l.ticks ≤ 1000000;
  long : length l.slots ≡ length l.fn.slots;
  used : (next : Using) →
      noted_all l.params l.fn.uses (turns_use l.count (code_uses l.block) (standing (cowns_held l.inputs) l.fn.slots l.fn.ticks) next)
      ≡ noted_all l.params l.uses (turns_use (l.count - l.counter) (code_uses l.block) (standing (cowns_held l.inputs) l.slots l.ticks) next);
}

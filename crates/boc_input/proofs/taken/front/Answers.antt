use Rattle.std.proofs.Common.{rules}
use Rattle.boc_input.proofs.Taking.{consumes_none}
use Rattle.boc_input.proofs.taken.front.Goals as goal

pub returns-in-Ok-eq0-clause-text : goal.returns-in-Ok-eq0-clause-text
returns-in-Ok-eq0-clause-text g c = record {
  taken = consumes_none _ _ _ c.loop-text.text.items _ (search rules) c.loop-text.invariant.taken c.in-Ok-eq0.ensures.bytes.0;
  few = c.loop-text.invariant.few;
  over = λ untold less. search rules;
}

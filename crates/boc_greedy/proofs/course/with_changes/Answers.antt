use Rattle.std.proofs.Common.{◌∙◌, refl}
use Rattle.boc_greedy.proofs.course.with_changes.Goals as goal

pub returns-clause-copy : goal.returns-clause-copy
returns-clause-copy c = record {
  p = refl;
  starts = c.in_ok-starts.ensures.items ∙ c.deref.ensures.value;
  workers = c.in_ok-workers.ensures.items ∙ c.deref-2.ensures.value;
  states = c.in_ok-frontier.ensures.states;
  frontier = c.in_ok-frontier.ensures.kept;
  idle = refl;
  tick = refl;
  moments = refl;
}

use Rattle.std.proofs.Common.{◌∙◌}
use Rattle.boc_greedy.proofs.Copying.{frontier_copied}
use Rattle.boc_greedy.proofs.frontier.Frontier.copied.Goals as goal

pub returns-clause-kept : goal.returns-clause-kept
returns-clause-kept c = λ rows i. (
  i.0,
  frontier_copied rows i.0 _ _ _ _ _ _ _ (c.in_ok-from_slice.ensures.items ∙ c.deref.ensures.value)
      (c.in_ok-from_slice-2.ensures.items ∙ c.deref-2.ensures.value) c.in_ok-copied.ensures.set c.in_ok-copied.ensures.rows i.1,
)

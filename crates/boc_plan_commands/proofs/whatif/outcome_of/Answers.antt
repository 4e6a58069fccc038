use Rattle.std.proofs.Common.{length, sym, ◌∙◌}
use Rattle.boc_plans.specs.Seen.{seen}
use Rattle.boc_plans.proofs.Seeing.{length-seen}
use Rattle.boc_why.proofs.WhyParts.{chain_rows}
use Rattle.boc_plan_commands.proofs.whatif.outcome_of.Goals as goal

pub shares_by_def-requires-clause-there : goal.shares_by_def-requires-clause-there
shares_by_def-requires-clause-there c =
    let rows = seen c.args.question.now.sharing c.args.question.now.rows in
    rw c.deref.ensures.value (chain_rows rows c.in_ok-profile.profile.chain.steps.items (length c.args.defs.now) c.in_ok-profile.ensures.picked.chain
    (length-seen c.args.question.now.sharing c.args.question.now.rows ∙ sym c.requires.defs))

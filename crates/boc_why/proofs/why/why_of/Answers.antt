use Rattle.std.proofs.Common.{length, sym, ap, ◌∙◌}
use Rattle.boc_runs.specs.declared.rows.Row.{Row}
use Rattle.boc_plans.specs.Seen.{seen}
use Rattle.boc_plans.proofs.Seeing.{length-seen}
use Rattle.boc_why.proofs.WhyParts.{chain_rows}
use Rattle.boc_why.proofs.why.why_of.Goals as goal

pub links_of-requires-clause-defs : goal.links_of-requires-clause-defs
links_of-requires-clause-defs c = c.requires.defs ∙ (sym (length-seen c.args.sharing c.args.rows.now) ∙ ap (length {A = Row}) (sym c.new-seen.ensures.same))

pub shares_by_def-requires-clause-there : goal.shares_by_def-requires-clause-there
shares_by_def-requires-clause-there c = rw c.deref-2.ensures.value (chain_rows (seen c.args.sharing c.args.rows.now)
    c.in_ok-profile.profile.chain.steps.items (length c.args.defs.now) c.in_ok-profile.ensures.picked.chain
    (length-seen c.args.sharing c.args.rows.now ∙ sym c.requires.defs))

pub returns-clause-there : goal.returns-clause-there
returns-clause-there c = chain_rows (seen c.args.sharing c.args.rows.now) c.in_ok-profile.profile.chain.steps.items
    (length c.in_ok-profile.profile.starts.items) c.in_ok-profile.ensures.picked.chain (sym c.in_ok-profile.ensures.earliest.keeps.whole)

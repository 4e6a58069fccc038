use Rattle.std.proofs.Common.{◌∙◌, None, sym, arith}
use Rattle.std.proofs.lemmas.List.{get_or_default}
use Rattle.boc_cowns.proofs.Handed.{among_handed}
use Rattle.boc_cowns.proofs.Waits.{after_before, waits_is}
use Rattle.boc_cowns.proofs.totals.handed_to.Goals as goal

pub handed-requires-clause-first : goal.handed-requires-clause-first
handed-requires-clause-first c = omega (
  arith,
  after_before c.args.rows.now c.requires.shape c.args.plan.now c.requires.placed c.args.row c.requires.there c.requires.child c.in-Some.before
      (sym (get_or_default c.args.plan.now.after.items c.args.row c.index.result.now None (omega (arith, c.requires.there, c.requires.placed.after_len)))
      ∙ (sym c.index.ensures ∙ c.in-Some.is)),
  c.requires.there,
)

pub returns-in-Some-clause-each : goal.returns-in-Some-clause-each
returns-in-Some-clause-each c cown =
    among_handed c.args.rows.now cown c.in-Some.before c.args.row c.handed.result.items c.handed.ensures
    ∙ sym (waits_is c.args.rows.now c.args.plan.now.after.items cown c.args.row c.in-Some.before
    (sym (get_or_default c.args.plan.now.after.items c.args.row c.index.result.now None (omega (arith, c.requires.there, c.requires.placed.after_len)))
    ∙ (sym c.index.ensures ∙ c.in-Some.is)))

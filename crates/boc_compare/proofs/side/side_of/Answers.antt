use Rattle.std.proofs.Common.{length, ap, arith, refl}
use Rattle.boc_runs.specs.declared.rows.Row.{Row}
use Rattle.boc_compare.proofs.AddUp.{shares_low}
use Rattle.boc_compare.proofs.side.side_of.Goals as goal

pub families_of-requires-clause-few_steps : goal.families_of-requires-clause-few_steps
families_of-requires-clause-few_steps g c = omega (arith, c.in_ok-why.ensures.why.profile.short, c.in_ok-why.ensures.why.profile.few)

pub def_totals-requires-clause-keys : goal.def_totals-requires-clause-keys
def_totals-requires-clause-keys g c = rw c.deref.ensures.value (shares_low c.args.question.now.rows.now c.args.question.now.sharing
    c.args.question.now.defs.now (length c.args.question.now.families.now) c.in_ok-why.why c.requires.defs c.requires.few_defs c.in_ok-why.ensures.why)

pub returns : goal.returns
returns g c = record {
  rows = ap (length {A = Row}) c.as_slice.ensures.same;
  times = c.in_ok-times.ensures;
  typical = c.in_ok-typical.ensures;
  order = c.in_ok-order_end.ensures;
  why = c.in_ok-why.why;
  why_is = c.in_ok-why.ensures.why;
  bound = c.tick.ensures;
  by_def = refl;
  defs = rw c.deref.ensures.value at c.in_ok-defs.ensures;
  families = c.in_ok-families.ensures;
}

use Rattle.boc_several_commands.specs.Comparing.{IsOfCompare}
use Rattle.boc_several_commands.specs.declared.compare.Which.TheVariants.{Before, After}
use Rattle.boc_run_commands.proofs.Passed.{passed_on}
use Rattle.boc_several_commands.proofs.Compared.{of_side}
use Rattle.boc_several_commands.proofs.compare.compared.Goals as goal

pub returns-in_err-before : goal.returns-in_err-before
returns-in_err-before g c =
    passed_on _ (IsOfCompare g.G.Gate.always_on c.args.asked c.args.files.now c.args.pair c.args.text.items Before) _ _ c.from_residual.ensures.1
    (of_side g.G.Gate.always_on c.args.asked c.args.files.now c.args.pair c.args.text.items Before c.in_err-before.field-0.0 c.in_err-before.ensures)

pub returns-in_err-after : goal.returns-in_err-after
returns-in_err-after g c =
    passed_on _ (IsOfCompare g.G.Gate.always_on c.args.asked c.args.files.now c.args.pair c.args.text.items After) _ _
    c.from_residual-in_err-after.ensures.1
    (of_side g.G.Gate.always_on c.args.asked c.args.files.now c.args.pair c.args.text.items After c.in_err-after.field-0.0 (record {
      recorded = c.in_ok-before.ensures.0.recorded;
      names = c.in_ok-before.before.names;
      run = c.in_ok-before.ensures.0.run;
      refused = c.in_err-after.ensures;
    }))

pub returns-in_err-told_of : goal.returns-in_err-told_of
returns-in_err-told_of g c =
    passed_on _ (IsOfCompare g.G.Gate.always_on c.args.asked c.args.files.now c.args.pair c.args.text.items After) _ _
    c.from_residual-in_err-told_of.ensures.1 tt

pub returns : goal.returns
returns g c = (
  record {
    before = c.in_ok-before.before;
    before_is = c.in_ok-before.ensures.0;
    after = c.in_ok-after.after;
    after_is = c.in_ok-after.ensures.0;
    told = c.in_ok-told_of.ensures.0;
    noted = c.in_ok-told_of.ensures.1;
  },
  c.in_ok-before.ensures.1,
)

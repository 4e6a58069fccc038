use Rattle.boc_several_commands.specs.WhyRuns.{IsOfRunsTold}
use Rattle.boc_run_commands.proofs.Passed.{passed_on}
use Rattle.boc_several_commands.proofs.ManyDrawn.{refused_many, refused_way, runs_told as all_told}
use Rattle.boc_several_commands.proofs.why_runs.runs_named.Goals as goal

pub returns-in_err-way : goal.returns-in_err-way
returns-in_err-way g c =
    passed_on _ (IsOfRunsTold c.args.program.now c.args.names.now c.args.asked) _ _ c.from_residual-in_err-way.ensures.1
    (refused_way c.args.asked c.args.program.now c.in_ok-compiled.compiled c.args.names.now c.in_err-way.field-0.0 c.in_ok-compiled.ensures
    c.in_err-way.ensures)

pub returns-in_err-many : goal.returns-in_err-many
returns-in_err-many g c =
    passed_on _ (IsOfRunsTold c.args.program.now c.args.names.now c.args.asked) _ _ c.from_residual-in_err-many.ensures.1
    (refused_many c.args.asked c.args.program.now c.in_ok-compiled.compiled c.args.names.now c.in_ok-way.way c.drawn_in-draws.result c.deref.result.now
    c.in_err-many.field-0.0 c.in_ok-compiled.ensures c.drawn_in-draws.ensures.is c.deref.ensures.value c.in_ok-way.ensures c.in_err-many.ensures)

pub returns : goal.returns
returns g c =
    all_told c.args.asked c.args.program.now c.in_ok-compiled.compiled c.args.names.now c.in_ok-way.way c.drawn_in-draws.result c.deref.result.now
    c.number_of.result c.in_ok-many.many c.in_ok-text.text.items c.in_ok-compiled.ensures c.drawn_in-draws.ensures.is c.deref.ensures.value
    c.number_of.ensures c.in_ok-way.ensures c.in_ok-many.ensures c.in_ok-text.ensures

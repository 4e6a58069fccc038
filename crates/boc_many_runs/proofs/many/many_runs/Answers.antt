use Rattle.std.proofs.Common.{◌≡◌, ◌∙◌, List, length, ap, subst, sym, ℤ}
use Rattle.std.specs.Prelude.{All}
use Rattle.boc_remedies.specs.declared.remedy.Remedy.{Remedy}
use Rattle.boc_many_runs.specs.declared.seen.Numbers.{Numbers}
use Rattle.boc_many_runs.specs.Runs.{AreColumns, IsSingle, manner}
use Rattle.boc_many_runs.specs.Union.{most_tried}
use Rattle.boc_many_runs.proofs.Answering.{columns_even, many_are, numbers_long}
use Rattle.boc_many_runs.proofs.many.many_runs.Goals as goal

pub told_of-requires-clause-all : goal.told_of-requires-clause-all
told_of-requires-clause-all g c =
    let pass = c.in_ok-pass.pass in
    ap (λ (ns : List Numbers). length ns) c.deref-3.ensures.value
    ∙ numbers_long c.args.program.now c.args.asked.now (manner c.args.judging.now) c.args.asked.now.runs pass.numbers.items pass.counted.items
    c.in_ok-pass.ensures

pub told_of-requires-clause-long : goal.told_of-requires-clause-long
told_of-requires-clause-long g c =
    subst (λ (cs : List (List ℤ)). All (λ column. length column ≡ c.args.asked.now.runs) cs) (sym c.deref-5.ensures.value)
    (columns_even c.args.program.now c.args.asked.now (manner c.args.judging.now) c.deref-2.result.now c.args.asked.now.runs
    c.in_ok-columns.columns.items c.in_ok-columns.ensures)

pub returns : goal.returns
returns g c =
    let asked = c.args.asked.now in
    let m = manner c.args.judging.now in
    let pass = c.in_ok-pass.pass in
    let remedies : List Remedy = c.in_ok-remedies.remedies.items in
    let columns : List (List ℤ) = c.in_ok-columns.columns.items in
    let are : remedies ≡ most_tried pass.counted.items = c.in_ok-remedies.ensures.are ∙ ap most_tried c.deref.ensures.value in
    let cols = subst (λ (rs : List Remedy). AreColumns c.args.program.now asked m rs asked.runs columns) c.deref-2.ensures.value c.in_ok-columns.ensures in
    let single = subst (IsSingle c.args.program.now m.sharing) (sym c.in_ok-many.ensures.single) c.in_ok-single.ensures in
    let told = rw (c.deref-3.ensures.value, c.deref-4.ensures.value, c.deref-5.ensures.value) at c.in_ok-many.ensures.told in
    many_are c.args.program.now asked m pass.numbers.items pass.counted.items remedies columns c.in_ok-many.many c.in_ok-pass.ensures are cols single told

use Rattle.std.proofs.Common.{arith}
use Rattle.rayon.proofs.ListFacts.{IfOk-then}
use Rattle.boc_plans.proofs.Seeing.{ticks_of-seen}
use Rattle.boc_whatif.proofs.Least.{seen_fits, then_is, end_then}
use Rattle.boc_whatif.proofs.least_ends.least_end.Goals as goal

pub end_from-requires-clause-fits : goal.end_from-requires-clause-fits
end_from-requires-clause-fits c =
    let k = c.requires.parts in
    rw c.new-rows.ensures.same
    (seen_fits _ k.shape c.args.parts.now.sharing _ k.lasts_are _ c.requires.there _ c.in-Some.ensures.least)

pub end_from-requires-clause-less : goal.end_from-requires-clause-less
end_from-requires-clause-less c =
    let parts = c.args.parts.now in
    rw c.new-rows.ensures.same (omega (arith, c.in-Some.ensures.less, ticks_of-seen parts.sharing parts.rows.now c.args.row))

pub end_from-requires-clause-changed : goal.end_from-requires-clause-changed
end_from-requires-clause-changed c =
    let k = c.requires.parts in
    rw c.new-rows.ensures.same
    (then_is _ k.shape c.args.parts.now.sharing _ k.lasts_are _ c.requires.there _ c.in-Some.ensures.least _ c.with_ticks-changed.ensures.same)

pub returns-in-Some : goal.returns-in-Some
returns-in-Some c =
    let k = c.requires.parts in
    IfOk-then c.end_from.result _ _ c.end_from.ensures
    (λ end e. end_then _ k.shape c.args.parts.now.sharing _ k.lasts_are _ c.requires.there _ c.in-Some.ensures.least _
    c.with_ticks-changed.ensures.same _ end e)

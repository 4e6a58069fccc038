use Rattle.std.proofs.Common.{◌<◌, [], All, take, subst, sym}
use Rattle.std.proofs.lemmas.List.Elements.{All-nil, All-take}
use Rattle.boc_cowns.specs.declared.hot.HotCown.{HotCown}
use Rattle.boc_cowns_report.specs.declared.judged.JudgedCown.{JudgedCown}
use Rattle.boc_cowns_report.proofs.Low.{All-judged}
use Rattle.boc_cowns_report.proofs.judged.judged_cowns.Goals as goal

pub returns-clause-low : goal.returns-clause-low
returns-clause-low c = λ bound low.
    subst (All (λ (j : JudgedCown). j.hot.held < bound)) (sym c.loop-own.invariant)
    (All-judged c.args.ends.now bound [] (take c.loop-own.own-index c.args.cowns.now) (All-nil (λ (j : JudgedCown). j.hot.held < bound))
    (All-take (λ (h : HotCown). h.held < bound) c.loop-own.own-index c.args.cowns.now low))

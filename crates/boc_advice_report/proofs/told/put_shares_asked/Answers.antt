use Rattle.std.proofs.Common.{◌≡◌, ◌++◌, codes, refl, subst, sym, Option}
use Rattle.boc_names.specs.Names.{Text}
use Rattle.boc_remedies.specs.declared.greedy_why.GreedyWhy.{GreedyWhy}
use Rattle.boc_advice_report.specs.WhyTold.{AreSharesAsked}
use Rattle.boc_advice_report.proofs.Regroup.{put_two}
use Rattle.boc_advice_report.proofs.told.put_shares_asked.Goals as goal

pub returns : goal.returns
returns c =
    let (shares, are, put) = c.in_ok-put_greedy_shares.ensures in
    subst (λ (greedy : Option GreedyWhy). (text : Text) × AreSharesAsked c.args.names.now c.args.why.now greedy text
    × (c.push.new.self.items ≡ c.args.text.now.items ++ text)) (sym c.in-Some.is)
    (shares ++ codes "\n", (shares, are, refl), put_two _ _ _ put c.in_ok-push.ensures.items)

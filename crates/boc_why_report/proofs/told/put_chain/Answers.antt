use Rattle.std.proofs.Common.{◌≡◌, ◌∙◌, ◌++◌, ℕ, List, OnOk, subst}
use Rattle.boc_why_report.specs.WhyTexts.{with_shares}
use Rattle.boc_why_report.proofs.told.put_chain.Goals as goal

pub returns : goal.returns
returns c = subst (λ (chain : List ℕ). OnOk c.put_with_shares.result (c.put_with_shares.new.text.items ≡ c.args.text.now.items
    ++ with_shares c.args.names.now c.args.why.now chain)) (c.deref.ensures.value ∙ c.in_ok-chain.ensures) c.put_with_shares.ensures

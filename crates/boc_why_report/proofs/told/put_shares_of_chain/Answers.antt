use Rattle.std.proofs.Common.{◌≡◌, ◌++◌, List, OnOk, codes, subst}
use Rattle.boc_why.specs.declared.links.Link.{Link}
use Rattle.boc_why.specs.declared.shares.Share.{Share}
use Rattle.boc_why_report.specs.WhyTexts.{shares_text}
use Rattle.boc_why_report.proofs.told.put_shares_of_chain.Goals as goal

pub returns : goal.returns
returns c =
    let Put : List Share → List Link → List Share → Type 0 = λ (by_def : List Share) (links : List Link) (by_link : List Share).
    OnOk c.put_shares.result (c.put_shares.new.text.items ≡ c.args.text.now.items ++ shares_text c.args.names.now (codes "chain by def")
    (codes "chain by link") by_def links by_link) in
    subst (λ (by_def : List Share). Put by_def c.args.why.now.links.items c.args.why.now.by_link.items) c.deref.ensures.value
    (subst (λ (by_link : List Share). Put c.deref.result.now c.args.why.now.links.items by_link) c.deref-2.ensures.value
    (subst (λ (links : List Link). Put c.deref.result.now links c.deref-2.result.now) c.deref-3.ensures.value c.put_shares.ensures))

use Rattle.std.proofs.Common.{◌≡◌, ◌∙◌, ◌-◌, ◌++◌, length, ap, set, sym, arith}
use Rattle.boc_chain.specs.KeptLinks.{head_of, places_of}
use Rattle.boc_chain.proofs.Keeping.{set_rest}
use Rattle.boc_chain.proofs.kept_links.Kept.put.Goals as goal

pub returns-else-place-lt-FEW-clause-places : goal.returns-else-place-lt-FEW-clause-places
returns-else-place-lt-FEW-clause-places c =
    let first : length c.in-More.head.first ≡ 2 = sym (ap (λ k. length (head_of k).first) c.in-More.is) ∙ c.requires.has.first in
    let at : c.args.place - 2 ≡ c.args.place - length c.in-More.head.first = omega (arith, first) in
    ap (λ n. c.in-More.head.first ++ set c.deref_mut.result.now n c.args.link) at
    ∙ ap (λ xs. c.in-More.head.first ++ set xs (c.args.place - length c.in-More.head.first) c.args.link) c.deref_mut.ensures.value
    ∙ sym (set_rest c.in-More.head.first c.in-More.rest.value c.args.place c.args.link (omega (arith, first, c.if-place-lt-FEW.false)))
    ∙ sym (ap (λ k. set (places_of k) c.args.place c.args.link) c.in-More.is)

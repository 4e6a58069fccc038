use Rattle.std.proofs.Common.{arith}
use Rattle.std.proofs.lemmas.Result.{IfOk-weaker}
use Rattle.boc_remedies.proofs.together.cowns_together.Goals as goal

pub returns : goal.returns
returns g c = IfOk-weaker c.all_together.result _ _ (λ lines are. record {
  of_chain = c.in_ok-of_chain.of_chain.items;
  of_chain_are = c.in_ok-of_chain.ensures;
  nothing = λ none. absurd (grind (arith, c.if-is_empty.false, c.is_empty.ensures, none));
  lines_are = λ some. record {
    looked = c.in_ok-looked.looked.items;
    looked_are = c.in_ok-looked.ensures;
    are = rw (
      c.deref-4.ensures.value,
      c.in_ok-add_sets.ensures,
      c.deref-3.ensures.value,
      c.in_ok-best.ensures,
      c.deref-2.ensures.value,
      c.in_ok-sets.ensures,
      c.deref.ensures.value,
    ) at are;
  };
}) c.all_together.ensures

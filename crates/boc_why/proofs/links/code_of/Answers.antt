use Rattle.std.proofs.Common.{ℕ, List, ◌*◌, ◌<◌, arith, sym, ap, subst, ◌∙◌}
use Rattle.std.specs.Prelude.{All}
use Rattle.boc_program.specs.declared.limits.TheConstants.{MOST_COWNS}
use Rattle.boc_why.specs.declared.links.Link.{Link}
use Rattle.boc_why.specs.LinkCodes.{cowns_code, IsCode}
use Rattle.boc_why.proofs.LinkCoding.{code_high}
use Rattle.boc_why.proofs.links.code_of.Goals as goal

pub overflow_mul-result-in-Hands : goal.overflow_mul-result-in-Hands
overflow_mul-result-in-Hands c =
    let high = code_high 8 c.as_slice.result.now c.as_slice.ensures.few c.code_of_cowns.ensures.bytes in
    omega (arith, high, c.code_of_cowns.ensures.is)

pub returns-in-Hands : goal.returns-in-Hands
returns-in-Hands c = subst (λ (link : Link). IsCode link (2 * c.code_of_cowns.result)) (sym c.in-Hands.is) (record {
  is = ap (λ (n : ℕ). 2 * n) (c.code_of_cowns.ensures.is ∙ ap cowns_code c.as_slice.ensures.value);
  bytes = subst (λ (cowns : List ℕ). All (λ c. c < MOST_COWNS) cowns) c.as_slice.ensures.value c.code_of_cowns.ensures.bytes;
})

use Rattle.std.proofs.Common.{arith}
use Rattle.boc_why.proofs.LinkCoding.{code_high}
use Rattle.boc_why.proofs.links.+code_of_cowns.Goals as goal

pub overflow_mul-result : goal.overflow_mul-result
overflow_mul-result t c =
    let high = code_high 7 _ (omega arith) c.code_of_cowns.ensures.bytes in
    omega (arith, high, c.code_of_cowns.ensures.is)

pub overflow_add-result : goal.overflow_add-result
overflow_add-result t c =
    let high = code_high 7 _ (omega arith) c.code_of_cowns.ensures.bytes in
    omega (arith, high, c.code_of_cowns.ensures.is, c.from.ensures, c.type_inv.cowns 0)

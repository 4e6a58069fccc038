use Rattle.std.proofs.Common.{rules, ℕ, ap, w64, arith}
use Rattle.std.specs.Int.{bit_at}
use Rattle.std.proofs.lemmas.Nat.Bits.{bit_at-zero, bit_at-trailing_zeros}
use Rattle.boc_greedy.proofs.simulation.Simulation.give_all.Goals as goal

pub give-requires-clause-idle : goal.give-requires-clause-idle
give-requires-clause-idle c =
    let low = bit_at-trailing_zeros w64 c.loop-self.self.idle (omega arith) (search rules) in
    record { set = low.1; least = low.2 }

pub returns-clause-settled : goal.returns-clause-settled
returns-clause-settled c = record {
  giving = c.loop-self.invariant.giving;
  full = λ b w can is. omega (arith, is, ap (λ (x : ℕ). bit_at x w) c.loop-self-test.false, bit_at-zero w);
}

use Rattle.std.proofs.Common.{ℕ, ◌*◌, ◌%◌, ◌^◌, ◌≤◌, ◌∙◌, sym, inl, inr, arith, w64}
use Rattle.std.specs.Prelude.{bit_and}
use Rattle.std.specs.Int.{bit_not}
use Rattle.std.proofs.lemmas.Bool.{cases_lt}
use Rattle.std.proofs.lemmas.Nat.{and_le_l}
use Rattle.std.proofs.lemmas.Nat.Bits.{bit_at_clear_same, bit_at_clear_other, bit_at_above}
use Rattle.boc_greedy.proofs.bits.without_bit.Goals as goal

pub returns-clause-cleared : goal.returns-clause-cleared
returns-clause-cleared c = bit_at_clear_same w64 c.args.word c.args.bit c.requires

pub returns-clause-others : goal.returns-clause-others
returns-clause-others c = λ i n.
    (let left : ℕ = bit_and c.args.word (bit_not w64 (1 * 2 ^ c.args.bit % 2 ^ 64)) in
    let less : left ≤ c.args.word = and_le_l c.args.word (bit_not w64 (1 * 2 ^ c.args.bit % 2 ^ 64)) in
    elim (cases_lt i 64) [
      | inl small ↦ bit_at_clear_other w64 c.args.word c.args.bit c.requires i small n
      | inr past ↦ bit_at_above left 64 i (omega (arith, c.ranges.word.fits)) past
          ∙ sym (bit_at_above c.args.word 64 i (omega (arith, c.ranges.word.fits)) past)
    ])

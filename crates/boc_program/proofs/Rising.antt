-- The offsets of a body's wishes rise strictly, from 2 at least, and end at its ticks at most.
use Rattle.std.proofs.Common.{ℕ, ◌+◌, ◌≤◌, List, [], ◌∷◌, arith, IsTrue, ℤ}
use Rattle.boc_program.specs.declared.body.Body.{Body}
use Rattle.boc_program.specs.declared.body.EndStatus.TheVariants.{Done}
use Rattle.boc_program.specs.declared.short.Input.{Input}
use Rattle.boc_program.specs.Meaning.{State, Rest, Wish, start, ends, meaning}
use Rattle.boc_program.specs.Signatures.{Test, whens_pass}
use Rattle.boc_program.specs.Offsets.{RisesFrom}
use Rattle.boc_program.proofs.Law.{Keeps, law}

abbrev Within : State → Type 0
Within s = s.ticks ≤ 1000000

abbrev Rising : State → Rest → Type 0
Rising s r = RisesFrom s.ticks r.wishes r.ticks × r.ticks ≤ 1000000

rises_from_below : (low less : ℕ) (ws : List Wish) (high : ℕ) → less ≤ low → RisesFrom low ws high → RisesFrom less ws high
rises_from_below low less [] high h r = omega arith
rises_from_below low less (w ∷ ws) high h r = (omega (arith, r.0), r.1)

rising_keeps : (test : Test) → Keeps Within Rising test
rising_keeps test = record {
  at_end = λ status s i. (omega arith, i);
  ticks_keep = λ n s i fits. fits;
  ticks_back = λ n s r i h. (rises_from_below (s.ticks + n) s.ticks r.wishes r.ticks (omega arith) h.0, h.1);
  write_keeps = λ slot v s i. i;
  write_back = λ slot v s r i h. h;
  wish_back = λ kind args refs s vs cs r t i is_vs is_cs h. ((omega arith, h.0), h.1);
}

pub meaning_rises : (test : Test) (body : Body) (args : List ℤ) (inputs : List Input) → IsTrue (whens_pass test body.block)
    → RisesFrom 1 (meaning body args inputs).wishes (meaning body args inputs).ticks × (meaning body args inputs).ticks ≤ 1000000
meaning_rises test body args inputs t =
    law Within Rising test (rising_keeps test) body.block t (start body args inputs) (ends Done) (omega arith) (λ s i. (omega arith, i))

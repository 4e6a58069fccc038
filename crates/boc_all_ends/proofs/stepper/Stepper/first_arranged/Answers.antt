use Rattle.std.proofs.Common.{◌≡◌, ℕ, zero, suc, [], ◌∷◌, length, Some, None, sym, ◌∙◌, ap, arith}
use Rattle.std.specs.Prelude.{slice_get}
use Rattle.boc_fronts.specs.Fronts as fronts
use Rattle.boc_front_rows.specs.Rows.{plains}
use Rattle.boc_front_rows.specs.Seen.{shown, front_of}
use Rattle.boc_front_rows.proofs.Mapped.{at_mapped}
use Rattle.boc_all_ends.proofs.stepper.Stepper.first_arranged.Goals as goal

one_row : (x y : fronts.LiveRow) (i : ℕ) → slice_get (x ∷ []) i ≡ Some y → x ≡ y
one_row x y zero e = (let f : Some x ≡ Some y = e in cc)
one_row x y (suc i) e = absurd (let f : None ≡ Some y = e in cc)

pub without_done-requires-clause-low : goal.without_done-requires-clause-low
without_done-requires-clause-low c = λ i r is k d low.
    let o = c.in_ok-front.ensures.opens in
    let lists = c.main_alone.new.self.lists in
    let at = at_mapped (shown lists) (plains c.in_ok-front.front.live.items) i r is in
    let same = one_row o.main (shown lists r) i (sym (ap (λ ls. slice_get ls i) o.live_are) ∙ at) in
    absurd (omega (arith, low, ap (λ (z : fronts.LiveRow). length z.before) same, ap (length {A = ℕ}) o.first))

pub returns-clause-opens : goal.returns-clause-opens
returns-clause-opens c = record {
  opening = front_of c.main_alone.new.self.lists c.in_ok-front.front;
  opens = c.in_ok-front.ensures.opens;
  arranged = c.in_ok-arranged.ensures.arranged;
}

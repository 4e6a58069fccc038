-- When a row is spawned, from the pace of its parent.
use Rattle.std.proofs.Common.{◌≡◌, ℕ, ◌<◌, get_or, Some, sym, ap, ◌∙◌, arith}
use Rattle.std.specs.Prelude.{slice_get}
use Rattle.std.proofs.lemmas.Option.{slice_get-get_or}
use Rattle.boc_turns.specs.declared.pace.Pace.{Pace}
use Rattle.boc_turns.specs.declared.course.Course.{Course}
use Rattle.boc_turns.specs.Pace.{made_by}
use Rattle.boc_turns.specs.Turns.{Times}
use Rattle.boc_turns.specs.Course.{HavePaces, made_in, waits_of}

module _ (times : Times) (n : ℕ) (course : Course) (h : HavePaces times n course.paces.items course.waits.items) (r : ℕ) (there : r < n) where
  pub pace_there : (pace : Pace) → pace ≡ get_or course.paces.items r pace → slice_get course.paces.items r ≡ Some pace
  pace_there pace e = slice_get-get_or course.paces.items r pace (omega (arith, h.whole, there)) ∙ ap (λ (p : Pace). Some p) (sym e)

  pub made_in_by : (pace : Pace) (k : ℕ) → slice_get course.paces.items r ≡ Some pace
      → made_in course r k ≡ made_by pace.start (waits_of pace course.waits.items) k
  made_in_by pace k e = rw e

  pub made_in_is : (k : ℕ) → made_in course r k ≡ times.made r k
  made_in_is k =
      let d : Pace = record { start = 0; first = 0; end = 0 } in
      let at : slice_get course.paces.items r ≡ Some (get_or course.paces.items r d) =
      slice_get-get_or course.paces.items r d (omega (arith, h.whole, there)) in
      made_in_by (get_or course.paces.items r d) k at ∙ sym ((h.each r (get_or course.paces.items r d) at).made_is k)

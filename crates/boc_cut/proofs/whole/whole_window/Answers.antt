use Rattle.std.proofs.Common.{◌≡◌, ◌+◌, ◌<◌, ℕ, List, Option, Some, length, subst, sym}
use Rattle.std.specs.Prelude.{slice_get}
use Rattle.boc_cut.proofs.RecordOrder.{whole_more}
use Rattle.boc_cut.proofs.whole.whole_window.Goals as goal

pub loop-number-preserved : goal.loop-number-preserved
loop-number-preserved c =
    let number = c.loop-number.number in
    subst (λ (os : List (Option ℕ)). (length os ≡ number + 1) × ((row : ℕ) → row < number + 1 → slice_get os row ≡ Some (Some row)))
    (sym c.in_ok-push.ensures.items) (whole_more c.loop-number.origins.items number c.loop-number.invariant)

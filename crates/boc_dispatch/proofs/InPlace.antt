-- Turns that leave what a worker has in hand where it stands: what is known of what it is holds of it.
use Rattle.std.specs.Prelude.{◌≡◌}
use Rattle.std.proofs.Common.{subst, sym}
use Rattle.boc_dispatch.specs.declared.worker.Hand.{Hand}
use Rattle.boc_dispatch.specs.declared.worker.Turn.{Turn}
use Rattle.boc_dispatch.specs.Driving.{KeepsFitting}
use Rattle.boc_dispatch.specs.Underway.{Underway}
use Rattle.boc_dispatch.specs.Working.{Works}

pub works_in_place : (u v : Underway) (turn : Turn) (h k : Hand) → h ≡ k → Works u k turn v k → Works u h turn v h
works_in_place u v turn h k same = subst (λ (x : Hand). Works u x turn v x) (sym same)

pub works_from : (u v : Underway) (turn : Turn) (h k next : Hand) → h ≡ k → Works u k turn v next → Works u h turn v next
works_from u v turn h k next same = subst (λ (x : Hand). Works u x turn v next) (sym same)

pub fits_in_place : (u v : Underway) (h k : Hand) → h ≡ k → KeepsFitting u k v k → KeepsFitting u h v h
fits_in_place u v h k same = subst (λ (x : Hand). KeepsFitting u x v x) (sym same)

pub fits_from : (u v : Underway) (h k next : Hand) → h ≡ k → KeepsFitting u k v next → KeepsFitting u h v next
fits_from u v h k next same = subst (λ (x : Hand). KeepsFitting u x v next) (sym same)

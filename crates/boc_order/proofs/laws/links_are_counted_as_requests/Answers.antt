use Rattle.std.proofs.Common.{◌≡◌, ℕ, ◌+◌, List, [], ◌∷◌, refl, ap, ◌∙◌}
use Rattle.boc_runs.specs.machine.Queues.{times as times_in}
use Rattle.boc_order.specs.Waits.{times}
use Rattle.boc_order.proofs.Filling.{one_if, times_cons}
use Rattle.boc_order.proofs.laws.links_are_counted_as_requests.Goals as goal

same_times : (row : ℕ) (links : List ℕ) → times row links ≡ times_in row links
same_times row [] = refl
same_times row (link ∷ links) = times_cons row link links ∙ ap (λ (n : ℕ). one_if link row + n) (same_times row links)

pub returns : goal.returns
returns c = same_times

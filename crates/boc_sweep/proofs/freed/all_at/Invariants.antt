use Rattle.std.proofs.Common.{◌≡◌, take}
use Rattle.std.specs.List.{AllZip}
use Rattle.boc_sweep.specs.Passes.{tick_at}
use Rattle.boc_sweep.proofs.freed.all_at.Given as goal

-- what stands at the places so far
abbrev pub invariant-loop-place : goal.invariant-loop-place
invariant-loop-place l = AllZip (λ place span. span ≡ tick_at l.found place) (take l.place-index l.places) l.spans.items

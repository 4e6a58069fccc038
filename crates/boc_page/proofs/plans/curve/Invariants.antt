use Rattle.std.proofs.Common.{◌≡◌, map, take}
use Rattle.boc_page.specs.Columns.{point_numbers}
use Rattle.boc_page.proofs.plans.curve.Given as goal

-- what is there so far
abbrev pub invariant-loop-point : goal.invariant-loop-point
invariant-loop-point l = map (λ p. p.items) l.column.items ≡ map point_numbers (take l.point-index l.points)

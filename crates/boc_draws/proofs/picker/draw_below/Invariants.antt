use Rattle.std.proofs.Common.{◌≡◌, length}
use Rattle.boc_draws.specs.Picks.{drawn_below}
use Rattle.boc_draws.proofs.picker.draw_below.Given as goal

-- so many of them
abbrev pub invariant-loop : goal.invariant-loop
invariant-loop l = ((l.numbers.items, l.generator) ≡ drawn_below l.counter l.bound l.initial.generator) × (length l.numbers.items ≡ l.counter)

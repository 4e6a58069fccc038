use Rattle.std.proofs.Common.{◌≡◌, map, take}
use Rattle.boc_view.specs.Lines.{shown_line}
use Rattle.boc_view.proofs.lines.shown.Given as goal

-- what is there so far
abbrev pub invariant-loop-own : goal.invariant-loop-own
invariant-loop-own l = l.lines.items ≡ map shown_line (take l.own-index l.found)

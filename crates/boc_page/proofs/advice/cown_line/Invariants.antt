use Rattle.std.proofs.Common.{◌≡◌, drop}
use Rattle.boc_page.specs.Advice.{cown_line}
use Rattle.boc_page.proofs.advice.cown_line.Given as goal

-- none so far is about the cown
abbrev pub invariant-loop-own : goal.invariant-loop-own
invariant-loop-own l = cown_line l.span (drop l.own-index l.cowns) l.cown ≡ cown_line l.span l.cowns l.cown

use Rattle.std.proofs.Common.{◌≡◌, map, take}
use Rattle.boc_why_report.specs.WhyTexts.{def_lines, texts_of_line}
use Rattle.boc_why_report.proofs.lists.def_lines.Given as goal

abbrev pub invariant-loop-share : goal.invariant-loop-share
invariant-loop-share l = map texts_of_line l.lines.items ≡ def_lines l.names (take l.share-index l.listed)

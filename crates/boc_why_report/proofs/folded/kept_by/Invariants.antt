use Rattle.std.proofs.Common.{◌≡◌, take}
use Rattle.std.specs.Prelude.{filter}
use Rattle.std.specs.List.{list_all}
use Rattle.boc_why_report.specs.ChainTexts.{hands_too}
use Rattle.boc_why_report.proofs.folded.kept_by.Given as goal

abbrev pub invariant-loop-cown : goal.invariant-loop-cown
invariant-loop-cown l = l.kept.items ≡ filter (λ c. list_all (hands_too c) l.links) (take l.cown-index l.cowns)

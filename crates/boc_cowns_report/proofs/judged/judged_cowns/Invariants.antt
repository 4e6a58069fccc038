use Rattle.std.proofs.Common.{◌≡◌, [], map, take}
use Rattle.std.specs.List.{fold}
use Rattle.boc_cowns_report.specs.Judged.{judged_by, judged_with}
use Rattle.boc_cowns_report.proofs.judged.judged_cowns.Given as goal

-- the cowns so far
abbrev pub invariant-loop-own : goal.invariant-loop-own
invariant-loop-own l = l.judged.items ≡ fold judged_with [] (map (judged_by l.ends) (take l.own-index l.cowns))

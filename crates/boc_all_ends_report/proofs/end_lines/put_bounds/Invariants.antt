use Rattle.std.proofs.Common.{◌≡◌, drop}
use Rattle.boc_all_ends_report.specs.EndTexts.{least_of, most_of}
use Rattle.boc_all_ends_report.proofs.end_lines.put_bounds.Given as goal

-- the least and the greatest so far, with those that are left, are those of all
abbrev pub invariant-loop-end : goal.invariant-loop-end
invariant-loop-end l = record {
  least : least_of l.least (drop l.end-index l.others) ≡ least_of l.initial.least l.others;
  most : most_of l.most (drop l.end-index l.others) ≡ most_of l.initial.most l.others;
}

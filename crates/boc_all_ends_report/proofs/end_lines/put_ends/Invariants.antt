use Rattle.std.proofs.Common.{◌≡◌, ◌+◌, ◌++◌, drop}
use Rattle.boc_all_ends_report.specs.EndTexts.{end_texts}
use Rattle.boc_all_ends_report.proofs.end_lines.put_ends.Given as goal

-- the texts of the ends so far, and of those that are left
abbrev pub invariant-loop-end : goal.invariant-loop-end
invariant-loop-end l = record {
  told : l.text.items ++ end_texts l.cowns l.number (drop l.end-index l.ends) ≡ l.fn.text.items ++ end_texts l.cowns 1 l.ends;
  number : l.number ≡ l.end-index + 1;
}

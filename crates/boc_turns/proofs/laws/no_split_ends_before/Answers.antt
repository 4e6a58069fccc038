use Rattle.boc_turns.specs.Splits.{detached}
use Rattle.boc_turns.proofs.Between.{without_ends}
use Rattle.boc_turns.proofs.Detached.{split_ends, turns_end}
use Rattle.boc_turns.proofs.laws.no_split_ends_before.Goals as goal

pub returns : goal.returns
returns c = record {
  split = λ rows uses relaxed tick end are s e. split_ends rows uses are relaxed tick end s e;
  turns = λ rows uses relaxed low end are d e. turns_end rows uses are relaxed low end d e;
  without = λ rows uses cowns span end hr s e. without_ends rows (detached uses) cowns e.times e.earliest.keeps hr span end s e.all_over;
}

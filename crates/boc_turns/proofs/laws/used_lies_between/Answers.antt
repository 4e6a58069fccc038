use Rattle.boc_turns.proofs.Between.{more_ends, none_ends, span_ends, without_ends}
use Rattle.boc_turns.proofs.laws.used_lies_between.Goals as goal

pub returns : goal.returns
returns c = record {
  low = λ rows uses cowns span end hr s e. without_ends rows uses cowns e.times e.earliest.keeps hr span end s e.all_over;
  high = λ rows uses relaxed span end are s e. span_ends rows uses relaxed span end are s e;
  more = λ rows uses relaxed others end other are more e f. more_ends rows uses relaxed others end other are more e f;
  none = λ rows uses span end hr are s e. none_ends rows uses span end hr are s e;
}

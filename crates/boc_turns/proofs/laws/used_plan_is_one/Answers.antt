use Rattle.boc_turns.proofs.Least.{one_end, one_tick, one_turn}
use Rattle.boc_turns.proofs.laws.used_plan_is_one.Goals as goal

pub returns : goal.returns
returns c = record {
  ticks = λ rows uses relaxed times others e f r k there h. one_tick rows uses relaxed times others e f r there k h;
  turns = λ rows uses relaxed times others e f r c u there turn. one_turn rows uses relaxed times others e f r there c u turn;
  end = λ rows uses relaxed end other are e f. one_end rows uses relaxed are end other e f;
}

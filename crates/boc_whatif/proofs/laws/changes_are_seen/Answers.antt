use Rattle.boc_plans.proofs.Seeing.{edited-seen}
use Rattle.boc_plans.proofs.FreedSeeing.{without-seen}
use Rattle.boc_whatif.proofs.Commuting.{moved-seen, scaled-seen}
use Rattle.boc_whatif.proofs.laws.changes_are_seen.Goals as goal

pub returns : goal.returns
returns c = record {
  ticks = edited-seen;
  offset = moved-seen;
  cown = λ s rows cown. without-seen cown s rows;
  cost = scaled-seen;
}

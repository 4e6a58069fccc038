use Rattle.boc_runs.proofs.Freeing.{length-without, ticks_of-without}
use Rattle.boc_runs.specs.Changes.{without}
use Rattle.boc_order.proofs.Fewer.{keeps_without, starts_no_later, ends_no_later}
use Rattle.boc_order.proofs.laws.fewer_cowns_are_no_later.Goals as goal

pub returns : goal.returns
returns c = record {
  starts = λ rows cown plan other. starts_no_later rows (without cown rows) plan other (length-without cown rows) (keeps_without rows cown);
  span = λ rows cown span other. ends_no_later rows (without cown rows) span other (length-without cown rows) (ticks_of-without cown rows)
      (keeps_without rows cown);
}

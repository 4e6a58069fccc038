use Rattle.boc_runs.proofs.Moving.{length-moved, ticks_of-moved}
use Rattle.boc_runs.specs.Changes.{moved}
use Rattle.boc_order.proofs.Fewer.{keeps_moved, starts_no_later, ends_no_later}
use Rattle.boc_order.proofs.laws.earlier_spawns_are_no_later.Goals as goal

pub returns : goal.returns
returns c = record {
  starts = λ rows row offset plan other early. starts_no_later rows (moved rows row offset) plan other (length-moved rows row offset)
      (keeps_moved rows row offset early);
  span = λ rows row offset span other early. ends_no_later rows (moved rows row offset) span other (length-moved rows row offset)
      (ticks_of-moved rows row offset) (keeps_moved rows row offset early);
}

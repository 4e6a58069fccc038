use Rattle.boc_order.proofs.LeastBusy.{busy_ends, least_ends}
use Rattle.boc_order.proofs.LeastLoads.{load_ends}
use Rattle.boc_order.proofs.LeastSpawns.{spawns_end}
use Rattle.boc_order.proofs.laws.no_order_ends_before.Goals as goal

pub returns : goal.returns
returns c = record {
  spawns = λ rows plan last spawns keeps apart end span. spawns_end rows plan last spawns keeps end span;
  load = λ rows plan last cown shape keeps apart end. load_ends rows shape plan last cown apart end;
  until = λ rows plan spawned last spawns busy shape keeps apart end alone is.
      busy_ends rows shape spawned plan last spawns alone keeps apart end busy is;
  told = λ rows plan last count least shape keeps apart end is. least_ends rows plan last count least shape keeps apart end is;
}

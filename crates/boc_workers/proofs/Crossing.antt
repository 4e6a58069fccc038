-- A dispatcher may go from one thread to another, and so may what lies under the lock.
use denote.Param.Send.{IsSend, IsSync, sendable}
use denote.RattleType.{RattleType}
use denote.Ref.{NamedLft}
use Rattle.std.proofs.Crossing.{crosses}
use Rattle.std.proofs.sync.ledger.Book.TheSendSync as book
use Rattle.std.specs.contracts.alloc.Global as Global
use Rattle.std.specs.contracts.impls.GlobalAllocator.TheImpl as heap
use Rattle.std.specs.contracts.option.Option as Option
use Rattle.std.specs.contracts.vec.Vec as Vec
use Rattle.std.specs.declared.sync.ledger.Ledger as ledgers
use Rattle.boc_chain.specs.contracts.link_chains.LinkChains as LinkChains
use Rattle.boc_chain.specs.contracts.link_chains.LinkChainsChains.TheImpl as linked
use Rattle.boc_chain.proofs.link_chains.LinkChains.TheSendSync as chains
use Rattle.boc_rules.proofs.run_log.RunLog.TheSendSync as log
use Rattle.boc_dispatch.specs.contracts.dispatcher.Core as Core
use Rattle.boc_dispatch.specs.contracts.live.Live as Live
use Rattle.boc_dispatch.proofs.live.Live.TheSendSync as live
use Rattle.boc_workers.specs.contracts.crew.Hall as Hall
use Rattle.boc_workers.specs.contracts.shared.Shared as Shared
use Rattle.boc_workers.specs.declared.gate.Gate as gates
use Rattle.boc_registers.proofs.Crossing.{compiled_sync}

place_send : IsSend (Option.the_row Live.the_row)
place_send = search (sendable, live.the_field_send) depth 20

table_send : IsSend (Vec.the_row (Option.the_row Live.the_row) Global.the_row heap.ghosts)
table_send = search (sendable, crosses, place_send) depth 20

-- a dispatcher over linked chains
core_send : (l : NamedLft) → IsSend (Core.the_row l LinkChains.the_row linked.ghosts)
core_send l = search (sendable, crosses, compiled_sync, table_send, log.the_send, chains.the_send) depth 80 fits 10000

module _ (a g r : NamedLft) (L G R : RattleType) (gate : gates.Ghosts G.Denot) (ledger : ledgers.Ghosts L.Denot) where
  shared_send : IsSend L → IsSync G → IsSend (Shared.the_row a g L G gate ledger)
  shared_send sends shares = search (sendable, crosses, core_send, book.the_send) depth 80

  pub hall_sync : IsSend L → IsSync G → IsSync R → IsSync (Hall.the_row a g r L G R gate ledger)
  hall_sync sends shares runs = let under_lock = shared_send sends shares in search (sendable, crosses) depth 80

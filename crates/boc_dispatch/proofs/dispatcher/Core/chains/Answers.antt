use Rattle.std.proofs.Common.{ap}
use Rattle.boc_dispatch.specs.Underway.{Underway}
use Rattle.boc_dispatch.specs.Inside.{number_at}
use Rattle.boc_dispatch.proofs.dispatcher.Core.chains.Goals as goal

pub returns : goal.returns
returns g c = (number_at c.self.inside.roster.live.slots, ap (λ (u : Underway). u.state.queues) c.self.view_is)

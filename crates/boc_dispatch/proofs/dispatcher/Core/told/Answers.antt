use Rattle.std.proofs.Common.{subst}
use Rattle.std.specs.Prelude.{Some, None}
use Rattle.boc_dispatch.specs.Underway.{Underway}
use Rattle.boc_dispatch.specs.Told.{TellsRow}
use Rattle.boc_dispatch.specs.Inside.{parts_of, underway}
use Rattle.boc_dispatch.proofs.dispatcher.Core.told.Goals as goal

pub returns : goal.returns
returns g c =
    subst (λ (u : Underway). TellsRow u c.args.row c.args.outcome.now (Some c.told.result)) c.self.view_is (c.told.ensures.row, c.told.ensures.told)

use Rattle.std.proofs.Common.{sym, subst, ◌<◌}
use Rattle.boc_dispatch.specs.declared.live.Live.{Live}
use Rattle.boc_dispatch.proofs.Tables.{live_same}
use Rattle.boc_dispatch.proofs.roster.Roster.grant.Goals as goal

pub grant_one-requires : goal.grant_one-requires
grant_one-requires g c =
    let r = c.requires in
    subst (λ (l : Live). 0 < l.awaited) (sym (live_same c.args.self.now.live.slots c.args.slot r.this c.index_mut.result.now r.is c.index_mut.ensures.value))
    r.awaits

use Rattle.boc_lines.proofs.Having.{named_once}
use Rattle.boc_lines.proofs.values.+names_cowns.Goals as goal

pub returns-then-names_cowns : goal.returns-then-names_cowns
returns-then-names_cowns t c ticks =
    named_once c.args.references.now c.first-item.result (record { held = c.args.held.now; slots = c.args.slots.now; ticks = ticks }) c.in-Ok.cown
    c.names_cowns.result c.names_cown-twice.result c.in-len1-up.len_at_least c.first-item.is (c.in-Ok.ensures ticks) (c.names_cowns.ensures ticks)
    (c.names_cown-twice.ensures ticks) c.if-names_cowns.true

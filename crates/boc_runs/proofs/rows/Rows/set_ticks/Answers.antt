use Rattle.std.proofs.Common.{sym, subst}
use Rattle.boc_runs.specs.Rows.{IsRows}
use Rattle.boc_runs.proofs.Editing.{edited_seen, rows_edited}
use Rattle.boc_runs.proofs.rows.Rows.set_ticks.Goals as goal

pub invariant_of-self : goal.invariant_of-self
invariant_of-self c =
    subst IsRows (sym (edited_seen c.args.self.now c.self.inside.list.items c.args.row c.args.ticks c.index_mut.result.now (sym c.self.view_is) c.requires.there
    c.index_mut.ensures.value))
    (rows_edited c.args.self.now (rw (sym c.self.view_is) c.self.invariant) c.args.row c.args.ticks c.requires)

pub returns : goal.returns
returns c = edited_seen c.args.self.now c.self.inside.list.items c.args.row c.args.ticks c.index_mut.result.now (sym c.self.view_is) c.requires.there
    c.index_mut.ensures.value

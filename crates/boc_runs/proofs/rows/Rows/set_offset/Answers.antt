use Rattle.std.proofs.Common.{sym, subst}
use Rattle.boc_runs.specs.Rows.{IsRows}
use Rattle.boc_runs.proofs.Moving.{moved_seen, rows_moved}
use Rattle.boc_runs.proofs.rows.Rows.set_offset.Goals as goal

pub invariant_of-self : goal.invariant_of-self
invariant_of-self c =
    subst IsRows (sym (moved_seen c.args.self.now c.self.inside.list.items c.args.row c.args.offset c.index_mut.result.now (sym c.self.view_is) c.requires.there
    c.index_mut.ensures.value))
    (rows_moved c.args.self.now (rw (sym c.self.view_is) c.self.invariant) c.args.row c.args.offset c.requires)

pub returns : goal.returns
returns c = moved_seen c.args.self.now c.self.inside.list.items c.args.row c.args.offset c.index_mut.result.now (sym c.self.view_is) c.requires.there
    c.index_mut.ensures.value

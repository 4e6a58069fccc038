use Rattle.std.proofs.Common.{arith, sym, ap}
use Rattle.boc_runs.specs.declared.rows.Row.{Row}
use Rattle.boc_plans.proofs.EditedBy.{row_there, own_ticks, kept_ticks, other_ticks}
use Rattle.boc_plans.proofs.sharing.SeenRows.ticks.Goals as goal

pub bounds-rows-row : goal.bounds-rows-row
bounds-rows-row c = row_there c.self.inside.sharing c.self.inside.other _ _ (sym c.self.view_is) c.args.row c.requires

pub bounds-rows-row-else-other-row : goal.bounds-rows-row-else-other-row
bounds-rows-row-else-other-row c = row_there c.self.inside.sharing c.self.inside.other _ _ (sym c.self.view_is) c.args.row c.requires

pub offset_bounds-rows-row : goal.offset_bounds-rows-row
offset_bounds-rows-row c =
    omega (arith, row_there c.self.inside.sharing c.self.inside.other _ _ (sym c.self.view_is) c.args.row c.requires, c.self.invariant.0.not_many)

pub bounds-rows-row-in-None : goal.bounds-rows-row-in-None
bounds-rows-row-in-None c = row_there c.self.inside.sharing c.self.inside.other _ _ (sym c.self.view_is) c.args.row c.requires

pub bounds-rows-row-in-None-2 : goal.bounds-rows-row-in-None-2
bounds-rows-row-in-None-2 c = row_there c.self.inside.sharing c.self.inside.other _ _ (sym c.self.view_is) c.args.row c.requires

pub offset_bounds-rows-row-in-None : goal.offset_bounds-rows-row-in-None
offset_bounds-rows-row-in-None c =
    omega (arith, row_there c.self.inside.sharing c.self.inside.other _ _ (sym c.self.view_is) c.args.row c.requires, c.self.invariant.0.not_many)

pub returns-then-other-row : goal.returns-then-other-row
returns-then-other-row c =
    other_ticks c.self.inside.sharing c.self.inside.other c.self.inside.rows.now _ (sym c.self.view_is) c.args.row c.requires c.in-Some.other c.in-Some.is
    (omega (arith, c.if-other-row.true))

pub returns-else-other-row : goal.returns-else-other-row
returns-else-other-row c =
    rw (ap (λ (x : Row). x.ticks) c.index-rows-row.is) at
    (kept_ticks c.self.inside.sharing c.self.inside.other c.self.inside.rows.now _ (sym c.self.view_is) c.args.row c.requires c.index-rows-row.result c.index-rows-row.is
    c.in-Some.other c.in-Some.is (λ e. omega (arith, c.if-other-row.false, e)))

pub returns-in-None : goal.returns-in-None
returns-in-None c =
    rw (ap (λ (x : Row). x.ticks) c.index-rows-row-in-None.is) at
    (own_ticks c.self.inside.sharing c.self.inside.other c.self.inside.rows.now _ (sym c.self.view_is) c.args.row c.requires c.index-rows-row-in-None.result
    c.index-rows-row-in-None.is c.in-None.is)

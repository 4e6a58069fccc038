use Rattle.std.proofs.Common.{◌∙◌, ap}
use Rattle.boc_sharp_footprints.specs.Tables.{Sharp}
use Rattle.boc_sharp_footprints.proofs.Made.{closed_table, table_without_sets, within}
use Rattle.boc_sharp_footprints.proofs.making.sharp_footprints_of.Goals as goal

pub returns-then-branch-clause-footprint : goal.returns-then-branch-clause-footprint
returns-then-branch-clause-footprint c =
    closed_table c.args.program.now c.close.new.table c.in_ok-footprints_of.field-0 c.in_ok-close.field-0 c.in_ok-footprints_of.ensures.footprint
    c.in_ok-close.ensures.by_kind c.in_ok-close.ensures.closed c.if-branch.true

pub returns-then-branch-clause-within : goal.returns-then-branch-clause-within
returns-then-branch-clause-within c =
    within c.args.program.now c.close.new.table c.in_ok-footprints_of.field-0 c.in_ok-footprints_of.ensures.exact c.in_ok-close.ensures.by_kind

pub returns-clause-footprint : goal.returns-clause-footprint
returns-clause-footprint c =
    table_without_sets c.args.program.now (record { by_kind = c.table.inside.by_kind; by_value = c.new-2.result.items }) c.in_ok-footprints_of.field-0
    c.in_ok-footprints_of.ensures.footprint (ap (λ (t : Sharp). t.by_kind) c.table.view_is ∙ c.in_ok-close.ensures.by_kind) c.new-2.ensures.items

pub returns-clause-within : goal.returns-clause-within
returns-clause-within c =
    within c.args.program.now (record { by_kind = c.table.inside.by_kind; by_value = c.new-2.result.items }) c.in_ok-footprints_of.field-0
    c.in_ok-footprints_of.ensures.exact (ap (λ (t : Sharp). t.by_kind) c.table.view_is ∙ c.in_ok-close.ensures.by_kind)

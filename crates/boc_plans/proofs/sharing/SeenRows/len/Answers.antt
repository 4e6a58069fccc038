use Rattle.std.proofs.Common.{sym}
use Rattle.boc_plans.proofs.Seeing.{shape_is}
use Rattle.boc_plans.proofs.EditedBy.{length_is}
use Rattle.boc_plans.specs.Seen.{edited_by}
use Rattle.boc_plans.proofs.sharing.SeenRows.len.Goals as goal

pub returns-clause-count : goal.returns-clause-count
returns-clause-count c = length_is c.self.inside.sharing c.self.inside.other _ _ (sym c.self.view_is)

pub returns-clause-shape : goal.returns-clause-shape
returns-clause-shape c = shape_is c.self.inside.sharing (edited_by c.self.inside.other c.self.inside.rows.now) _ (sym c.self.view_is) c.self.invariant.1

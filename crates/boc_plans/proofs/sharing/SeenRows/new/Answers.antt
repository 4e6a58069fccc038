use Rattle.std.proofs.Common.{refl}
use Rattle.boc_plans.proofs.Seeing.{shape_is}
use Rattle.boc_plans.proofs.sharing.SeenRows.new.Goals as goal

pub returns-clause-shape : goal.returns-clause-shape
returns-clause-shape c = shape_is c.args.sharing c.as_slice.result.now _ refl (rw c.as_slice.ensures.same c.as_slice.ensures.shape)

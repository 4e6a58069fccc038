use Rattle.std.proofs.Common.{ap, length, subst, sym}
use Rattle.boc_eval.specs.Behaviours.{IsWithin}
use Rattle.boc_eval.proofs.Added.{row_fits}
use Rattle.boc_eval.proofs.rows.Rows.args.Goals as goal

pub part-requires : goal.part-requires
part-requires c =
    subst (IsWithin c.index.result.now.args) (sym (ap length c.deref.ensures.value))
    (row_fits _ _ c.args.self.now.rows.items c.args.row c.index.result.now c.requires.sound.parts c.requires.there c.index.ensures).args

use Rattle.std.proofs.Common.{◌≡◌, ◌∙◌, List, length, ap, refl, arith}
use Rattle.std.proofs.lemmas.Option.{slice_get_read}
use Rattle.boc_cut.specs.Windows.{cowns_used}
use Rattle.boc_cut.specs.declared.table.CownUse.{CownUse}
use Rattle.boc_cut.proofs.Spawning.{used_set}
use Rattle.boc_cut.proofs.table.mark.Goals as goal

pub returns-then-place-len : goal.returns-then-place-len
returns-then-place-len c =
    let uses = c.args.uses.now.items in
    let used = c.index-used.result.now in
    let marked : CownUse = record used { is_written = c.args.is_written } in
    let count : c.len.result ≡ length uses = omega (arith, c.len.ensures, c.args.uses.now.ok.0) in
    ap (λ (us : List CownUse). cowns_used us) c.put_use.ensures
    ∙ used_set uses c.args.place used marked (slice_get_read uses c.len.result c.args.place used count c.if-place-len.true c.index-used.ensures) refl

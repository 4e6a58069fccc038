use Rattle.std.proofs.Common.{◌<◌, ◌∙◌, ap, sym, length, arith, refl}
use Rattle.boc_names.specs.declared.overlay.Thing.{Thing}
use Rattle.boc_names.proofs.Overlays.{calls_in}
use Rattle.boc_names.proofs.overlay.call.Goals as goal

pub returns : goal.returns
returns c =
    let there : c.args.number < length c.args.things.now.items = omega (arith, c.if-place-len.false, c.len.ensures) in
    calls_in c.args.things.now.items c.args.number _ c.index.result.now there
    (sym (ap (λ (t : Thing). t.is_named) c.index.ensures) ∙ c.if-index.false) refl

use Rattle.std.proofs.Common.{◌≡◌, ◌∙◌, List, [], Option, length, ap, arith}
use Rattle.boc_program.specs.memory.View.{code_of}
use Rattle.boc_uses.specs.declared.uses.Use.{Use}
use Rattle.boc_uses.proofs.Whole.{written_back, whole_noted}
use Rattle.boc_uses.proofs.walk.uses_of.Goals as goal

pub returns : goal.returns
returns c =
    let before : List (Option Use) = c.unused-uses.result.items in
    let uses : List (Option Use) = c.walk.new.uses in
    let lent : List (Option Use) = c.deref_mut-2.result.now in
    let long : length uses ≡ length before = omega (arith, c.walk.auto.uses, ap (length {A = Option Use}) c.deref_mut-2.ensures.value) in
    written_back uses before long
    ∙ whole_noted c.args.body.now c.args.args.now c.args.inputs.now c.args.body.now.params (code_of c.as_slice.result.now) c.deref_mut.result.now lent uses
    c.walk.result c.requires.args c.as_slice.ensures (c.deref_mut.ensures.value ∙ c.in_ok-slots.ensures)
    (c.deref_mut-2.ensures.value ∙ c.unused-uses.ensures) (c.walk.ensures.used (λ s. []))

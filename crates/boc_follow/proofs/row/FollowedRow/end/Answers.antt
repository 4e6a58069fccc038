use Rattle.std.proofs.Common.{◌≡◌, ◌∙◌, ℕ, ℤ, length, Some, ap, sym}
use Rattle.std.specs.Option.{option_map}
use Rattle.boc_follow.specs.declared.effect.Effect.{Effect}
use Rattle.boc_follow.specs.Standings.{underway_at}
use Rattle.boc_follow.proofs.row.FollowedRow.end.Goals as goal

pub write_outputs-requires-clause-both : goal.write_outputs-requires-clause-both
write_outputs-requires-clause-both c =
    let is : option_map underway_at c.args.self.now.effect ≡ Some (underway_at c.in-Some.effect) =
    ap (option_map underway_at) (sym c.take.ensures.value ∙ c.in-Some.is) in
    let outputs = c.deref-in-Some-2.ensures.0 ∙ ap (λ (e : Effect). e.outputs.items) c.deref-in-Some.ensures in
    ap (length {A = ℕ}) c.deref.ensures.0 ∙ c.requires.outputs (underway_at c.in-Some.effect) is ∙ sym (ap (length {A = ℤ}) outputs)

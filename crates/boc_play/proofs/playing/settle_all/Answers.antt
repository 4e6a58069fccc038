use Rattle.std.proofs.Common.{◌≡◌, ◌++◌, ℕ, List, [], ◌∷◌, ◌∙◌, ap, subst}
use Rattle.std.specs.Option.{option_to_list}
use Rattle.boc_play.specs.Playing.{AllRestBut}
use Rattle.boc_play.proofs.playing.settle_all.Goals as goal

pub settle-requires-clause-rest : goal.settle-requires-clause-rest
settle-requires-clause-rest c =
    let left : List ℕ = c.pop.new.self.items in
    let cut : c.loop-row.others.items ≡ left ++ (c.in-Some.row ∷ []) = c.pop.ensures.items ∙ ap (λ o. left ++ option_to_list o) c.in-Some.is in
    subst (λ (xs : List ℕ). AllRestBut c.loop-row.run xs) cut c.loop-row.invariant.rest

use Rattle.std.proofs.Common.{◌≡◌, ◌++◌, List, [], ◌∷◌, Some, ◌∙◌, ap}
use Rattle.std.specs.Option.{option_to_list}
use Rattle.boc_eval.specs.declared.wish.SpawnWish.{SpawnWish}
use Rattle.boc_front_rows.specs.Lists.{wished}
use Rattle.boc_all_ends.proofs.Adding.{one_added}
use Rattle.boc_all_ends.proofs.stepper.add_wishes.Goals as goal

pub loop-wish-preserved : goal.loop-wish-preserved
loop-wish-preserved c =
    let left : List SpawnWish = c.pop.new.self.items in
    let cut : c.loop-wish.wishes.items ≡ left ++ (c.in-Some.wish ∷ []) = c.pop.ensures.items ∙ ap (λ o. left ++ option_to_list o) c.in-Some.is in
    one_added c.args.lists.now c.args.wishes.items left c.loop-wish.wishes.items c.in-Some.wish c.loop-wish.lists c.push.new.self c.loop-wish.list
    c.in_ok-list.list (wished c.wished_by.result) c.loop-wish.invariant cut c.wished_by.ensures c.in_ok-list.ensures.adds c.in_ok-list.ensures.number
    c.in_ok-list.ensures.list

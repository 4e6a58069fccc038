use Rattle.std.proofs.Common.{◌≡◌, ◌<◌, [], ◌∷◌, length, List, subst, arith}
use Rattle.boc_runs.specs.Serial.{Behaviour}
use Rattle.boc_front_rows.specs.Lists.{list_at}
use Rattle.boc_front_rows.proofs.Listing.{many_lists, first_empty}
use Rattle.boc_front_rows.proofs.wish_lists.WishLists.empty.Goals as goal

pub returns-clause-there : goal.returns-clause-there
returns-clause-there c =
    subst (λ (ls : List (List Behaviour)). 0 < length ls) c.self.view_is (omega (arith, many_lists c.self.inside.links.keys))

pub returns-clause-list : goal.returns-clause-list
returns-clause-list c = subst (λ (ls : List (List Behaviour)). list_at ls 0 ≡ []) c.self.view_is (first_empty c.self.inside.links.keys)

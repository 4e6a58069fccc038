use Rattle.std.proofs.Common.{◌≡◌, ◌<◌, length, nat_eq, List, sym, subst}
use Rattle.boc_runs.specs.Serial.{Behaviour}
use Rattle.boc_front_rows.specs.Lists.{list_at}
use Rattle.boc_front_rows.specs.Orders.{is_nil}
use Rattle.boc_front_rows.proofs.Listing.{nil_is}
use Rattle.boc_front_rows.proofs.wish_lists.WishLists.is_empty.Goals as goal

pub returns : goal.returns
returns c =
    subst (λ (ls : List (List Behaviour)). nat_eq c.args.list 0 ≡ is_nil (list_at ls c.args.list)) c.self.view_is
    (nil_is c.self.inside.links.keys c.self.invariant c.args.list
    (subst (λ (ls : List (List Behaviour)). c.args.list < length ls) (sym c.self.view_is) c.requires))

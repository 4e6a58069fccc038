use Rattle.std.proofs.Common.{◌≡◌, ◌<◌, ◌≤◌, ◌+◌, ◌∷◌, length, List, sym, subst, ◌∙◌, ap, arith}
use Rattle.boc_runs.specs.Serial.{Behaviour}
use Rattle.boc_front_rows.specs.declared.wish_lists.Link.{Link}
use Rattle.boc_front_rows.specs.Lists.{Adds, list_at, wished}
use Rattle.boc_front_rows.proofs.Listing.{all_lists, many_lists, down_inserted, adds_inserted, list_is, list_stays, link_eq, link_same}
use Rattle.boc_front_rows.proofs.wish_lists.WishLists.push.Goals as goal

pub overflow_add-result : goal.overflow_add-result
overflow_add-result c = omega (arith, c.in_ok-place.ensures.within, c.len-count.ensures.small, c.len-count.ensures.len)

pub invariant_of-self-2 : goal.invariant_of-self-2
invariant_of-self-2 c =
    let old : List Link = c.self.inside.links.keys in
    let low : c.args.rest < length (all_lists old) = subst (λ (ls : List (List Behaviour)). c.args.rest < length ls) (sym c.self.view_is) c.requires in
    down_inserted link_eq old c.insert_full.new.self.keys (record { first = c.args.first; rest = c.args.rest }) c.self.invariant
    (omega (arith, low, many_lists old)) c.in_ok-place.ensures.keys

pub returns-clause-adds : goal.returns-clause-adds
returns-clause-adds c =
    subst (λ (ls : List (List Behaviour)). Adds (wished c.args.first ∷ list_at ls c.args.rest) ls (all_lists c.insert_full.new.self.keys)) c.self.view_is
    (adds_inserted link_eq c.self.inside.links.keys c.insert_full.new.self.keys (record { first = c.args.first; rest = c.args.rest }) c.in_ok-place.ensures.keys)

pub returns-clause-number : goal.returns-clause-number
returns-clause-number c = omega (arith, c.in_ok-place.ensures.within, many_lists c.insert_full.new.self.keys)

pub returns-clause-list : goal.returns-clause-list
returns-clause-list c =
    let s = c.in_ok-place.ensures.stored in
    let old : List Link = c.self.inside.links.keys in
    let new : List Link = c.insert_full.new.self.keys in
    let link : Link = record { first = c.args.first; rest = c.args.rest } in
    let low : c.args.rest < length (all_lists old) = subst (λ (ls : List (List Behaviour)). c.args.rest < length ls) (sym c.self.view_is) c.requires in
    let down = down_inserted link_eq old new link c.self.invariant (omega (arith, low, many_lists old)) c.in_ok-place.ensures.keys in
    let same = link_same link s.0 s.2 in
    list_is new down c.in_ok-place.place s.0 s.1
    ∙ ap (λ b. b ∷ list_at (all_lists new) s.0.rest) (sym same.0)
    ∙ ap (λ n. wished c.args.first ∷ list_at (all_lists new) n) (sym same.1)
    ∙ ap (λ bs. wished c.args.first ∷ bs) (list_stays (wished c.args.first ∷ list_at (all_lists old) c.args.rest) (all_lists old) (all_lists new) c.args.rest
    (adds_inserted link_eq old new link c.in_ok-place.ensures.keys) low)
    ∙ ap (λ (ls : List (List Behaviour)). wished c.args.first ∷ list_at ls c.args.rest) c.self.view_is

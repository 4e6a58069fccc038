use Rattle.std.proofs.Common.{◌≡◌, ◌<◌, ◌+◌, [], ◌∷◌, ℕ, length, List, Some, None, sym, ◌∙◌, ap, subst, arith}
use Rattle.std.specs.Prelude.{slice_get}
use Rattle.std.specs.Option.{option_copied}
use Rattle.boc_program.proofs.ChangedItems.{item_at}
use Rattle.boc_runs.specs.Serial.{Behaviour}
use Rattle.boc_front_rows.specs.declared.wish_lists.Link.{Link}
use Rattle.boc_front_rows.specs.Lists.{list_at, wished}
use Rattle.boc_front_rows.proofs.Listing.{all_lists, first_empty, many_lists, list_is, none_before, some_before}
use Rattle.boc_front_rows.proofs.wish_lists.WishLists.split.Goals as goal

pub returns-in_default-clause-first : goal.returns-in_default-clause-first
returns-in_default-clause-first c =
    subst (λ (ls : List (List Behaviour)). list_at ls c.args.list ≡ []) c.self.view_is
    (ap (list_at (all_lists c.self.inside.links.keys)) (none_before c.checked_sub.result c.args.list _ c.in_default.is c.checked_sub.ensures)
    ∙ first_empty c.self.inside.links.keys)

pub unreachable-requires : goal.unreachable-requires
unreachable-requires c =
    let keys : List Link = c.self.inside.links.keys in
    let one : c.in-Some.place + 1 ≡ c.args.list = some_before c.checked_sub.result c.args.list c.in-Some.place c.in-Some.is c.checked_sub.ensures in
    let low : c.args.list < length (all_lists keys) = subst (λ (ls : List (List Behaviour)). c.args.list < length ls) (sym c.self.view_is) c.requires in
    let x = item_at keys c.in-Some.place (omega (arith, one, low, many_lists keys)) in
    let f : None ≡ Some x.0 = sym (ap option_copied c.in_default-get_index.is) ∙ c.get_index.ensures.key ∙ x.1 in
    cc

pub returns-clause-first : goal.returns-clause-first
returns-clause-first c =
    let keys : List Link = c.self.inside.links.keys in
    let link : Link = c.in-Some-get_index.link.now in
    let one : c.in-Some.place + 1 ≡ c.args.list = some_before c.checked_sub.result c.args.list c.in-Some.place c.in-Some.is c.checked_sub.ensures in
    let there : slice_get keys c.in-Some.place ≡ Some link = sym c.get_index.ensures.key ∙ ap option_copied c.in-Some-get_index.is in
    subst (λ (ls : List (List Behaviour)). list_at ls c.args.list ≡ wished link.first ∷ list_at ls link.rest) c.self.view_is
    (subst (λ (n : ℕ). list_at (all_lists keys) n ≡ wished link.first ∷ list_at (all_lists keys) link.rest) one
    (list_is keys c.self.invariant c.in-Some.place link there))

-- The link sets of a chain: the families of the cowns that links hand on together, those that weigh most first.
use Rattle.std.specs.Prelude.{◌==◌, ◌&&◌, ◌||◌, ℕ, nat_lt, Bool, List, [], map, take, filter_map, Option, Some, None, slice_get}
use Rattle.std.specs.List.{fold}
use Rattle.boc_why.specs.declared.links.Link.{Link}
use Rattle.boc_why.specs.declared.links.Link.TheVariants.{Hands}
use Rattle.boc_why.specs.declared.shares.Share.{Share}
use Rattle.boc_remedies.specs.declared.link_sets.TheConstants.{MOST_SETS}
use Rattle.boc_remedies.specs.declared.link_sets.Weighed.{Weighed}
use Rattle.boc_remedies.specs.Families.{comes_before, families_of}
use Rattle.boc_remedies.specs.InOrder.{put_before}

-- the families of the cowns that a link hands on, if it hands any, with what such links weigh
abbrev pub weighed_by : List ℕ → Option Link → ℕ → Option Weighed
weighed_by families (Some (Hands cowns)) ticks = Some (record { families = families_of families cowns.items; ticks = ticks })
weighed_by families link ticks = None

abbrev pub weighed_at : List ℕ → List Link → Share → Option Weighed
weighed_at families links share = weighed_by families (slice_get links share.key) share.ticks

-- whether the one weighs more, or as much and comes first
abbrev pub weighs_more : Weighed → Weighed → Bool
weighs_more a b = nat_lt b.ticks a.ticks || ((a.ticks == b.ticks) && comes_before a.families b.families)

-- the heaviest of some sets and one more
abbrev pub kept_with : List Weighed → Weighed → List Weighed
kept_with best own = take MOST_SETS (put_before (weighs_more own) best own)

-- the link sets of a chain whose links have these shares by set: those that weigh most, and of equal ones those that come first
abbrev pub link_sets : List ℕ → List Link → List Share → List (List ℕ)
link_sets families links by_set = map (λ w. w.families) (fold kept_with [] (filter_map (weighed_at families links) by_set))

-- Some rows take as long as they do for one reason: what holds them back is one chain, with one list of links and of shares, and so on.
use Rattle.std.proofs.Common.{◌≡◌, ◌∙◌, ℕ, suc, ◌<◌, ⊎_elim, List, length, get_or, ap, arith, refl, subst, sym, Option, Some, None}
use Rattle.std.specs.Prelude.{◌↔◌, slice_get, slice_index}
use Rattle.std.specs.List.{Contains}
use Rattle.std.specs.List.Sorted.{IsStrictlyIncreasing}
use Rattle.std.proofs.lemmas.Bool.{cases_order}
use Rattle.std.proofs.lemmas.List.{ext_get_or}
use Rattle.std.proofs.lemmas.List.Kept.{AllPairs-from_increasing}
use Rattle.std.proofs.lemmas.Option.{get_or_from_slice_get, slice_get-get_or, slice_get_within}
use Rattle.boc_runs.specs.declared.rows.Row.{Row}
use Rattle.boc_plans.specs.declared.chain.ChainStep.{ChainStep}
use Rattle.boc_plans.specs.declared.chain.Via.{Via}
use Rattle.boc_plans.specs.declared.chain.Via.TheVariants.{Spawn, Order, Last}
use Rattle.boc_plans.specs.declared.sharing.Sharing.{Sharing}
use Rattle.boc_plans.specs.Chains.{IsPicked}
use Rattle.boc_plans.specs.Plans.{HasEnds, IsEnd}
use Rattle.boc_plans.specs.Seen.{seen}
use Rattle.boc_order.proofs.Alone.{one_chain, one_end, one_list_of_ends, one_plan}
use Rattle.boc_why.specs.declared.links.Link.{Link}
use Rattle.boc_why.specs.declared.links.Link.TheVariants.{SpawnBy, Hands, Frees, Ends}
use Rattle.boc_why.specs.declared.shares.Share.{Share}
use Rattle.boc_why.specs.declared.why.Why.{Why}
use Rattle.boc_order.specs.Handed.{AreHanded}
use Rattle.boc_why.specs.Shares.{AreDefsOf, AreFirsts, AreLinks, AreShares, IsFirstLike, LinkSays, weights_of}
use Rattle.boc_why.specs.Why.{IsWhy, SayTheSame}
use Rattle.boc_why.specs.WhySteps.{AreSharesByDef}
use Rattle.boc_order.proofs.OneLeast.{one_least}
use Rattle.boc_order.proofs.Ranked.{Ranked, ranked_from_places, same_ranked}
use Rattle.boc_why.proofs.ShareLaws.{one_list as one_list_of_shares}

-- ---- numbers that rise

below_later : (xs : List ℕ) → IsStrictlyIncreasing xs → Ranked (λ x y. x < y) xs
below_later xs rise = ranked_from_places (λ x y. x < y) xs (λ i j x y l ix jy.
    rw (get_or_from_slice_get xs i x 0 ix, get_or_from_slice_get xs j y 0 jy) at
    (AllPairs-from_increasing xs rise i j 0 l (slice_get_within xs j y jy)))

-- the same numbers rise in one order
one_rise : (xs ys : List ℕ) → IsStrictlyIncreasing xs → IsStrictlyIncreasing ys → (same : (x : ℕ) → Contains xs x ↔ Contains ys x) → xs ≡ ys
one_rise xs ys a b same = same_ranked (λ x y. x < y) (λ x y h g. omega (arith, h, g)) xs ys (below_later xs a) (below_later ys b)
    (λ x. (same x).0) (λ x. (same x).1)

-- ---- links

module _ (rows : List Row) where
  one_handed : (a b : ℕ) (cowns others : List ℕ) → AreHanded rows a b cowns → AreHanded rows a b others → cowns ≡ others
  one_handed a b cowns others h g = one_rise cowns others h.rise g.rise
      (λ c. (λ stands. (g.each c).1 ((h.each c).0 stands), λ stands. (h.each c).1 ((g.each c).0 stands)))

  one_link : (defs : List ℕ) (a : ℕ) (via : Via) (next : Option ChainStep) (link other : Link) → LinkSays rows defs a via next link
      → LinkSays rows defs a via next other → link ≡ other
  one_link defs a Spawn next (SpawnBy d) (SpawnBy e) l m = ap (λ (def : ℕ). SpawnBy def) (l ∙ sym m)
  one_link defs a Spawn next (SpawnBy d) (Hands cowns) l m = absurd m
  one_link defs a Spawn next (SpawnBy d) Frees l m = absurd m
  one_link defs a Spawn next (SpawnBy d) Ends l m = absurd m
  one_link defs a Spawn next (Hands cowns) other l m = absurd l
  one_link defs a Spawn next Frees other l m = absurd l
  one_link defs a Spawn next Ends other l m = absurd l
  one_link defs a Order None link other l m = absurd l
  one_link defs a Order (Some next) (Hands cowns) (Hands others) l m =
      let same : cowns.items ≡ others.items = one_handed a next.row cowns.items others.items l m in
      λ i. Hands (record { items = same i })
  one_link defs a Order (Some next) (Hands cowns) (SpawnBy d) l m = absurd m
  one_link defs a Order (Some next) (Hands cowns) Frees l m = absurd m
  one_link defs a Order (Some next) (Hands cowns) Ends l m = absurd m
  one_link defs a Order (Some next) (SpawnBy d) other l m = absurd l
  one_link defs a Order (Some next) Frees other l m = absurd l
  one_link defs a Order (Some next) Ends other l m = absurd l
  one_link defs a Last next Ends Ends l m = refl
  one_link defs a Last next Ends (SpawnBy d) l m = absurd m
  one_link defs a Last next Ends (Hands cowns) l m = absurd m
  one_link defs a Last next Ends Frees l m = absurd m
  one_link defs a Last next (SpawnBy d) other l m = absurd l
  one_link defs a Last next (Hands cowns) other l m = absurd l
  one_link defs a Last next Frees other l m = absurd l

  one_list_of_links : (defs : List ℕ) (steps : List ChainStep) (links others : List Link) → AreLinks rows defs steps links
      → AreLinks rows defs steps others → links ≡ others
  one_list_of_links defs steps links others a b =
      let whole : length links ≡ length others = a.whole ∙ sym b.whole in
      let no_step : ChainStep = record { row = 0; via = Last; weight = 0 } in
      ext_get_or Ends links others whole (λ k h.
      let s : ChainStep = get_or steps k no_step in
      let step = slice_get-get_or steps k no_step (omega (arith, h, a.whole)) in
      let link = slice_get-get_or links k Ends h in
      let other = slice_get-get_or others k Ends (omega (arith, h, whole)) in
      one_link defs s.row s.via (slice_get steps (suc k)) (get_or links k Ends) (get_or others k Ends)
      (a.at k s (get_or links k Ends) step link) (b.at k s (get_or others k Ends) step other))

-- ---- shares

one_list_of_defs : (defs : List ℕ) (steps : List ChainStep) (keys others : List ℕ) → AreDefsOf defs steps keys → AreDefsOf defs steps others
    → keys ≡ others
one_list_of_defs defs steps keys others a b = ext_get_or 0 keys others (a.whole ∙ sym b.whole) (λ k h.
    let no_step : ChainStep = record { row = 0; via = Last; weight = 0 } in
    let step = slice_get-get_or steps k no_step (omega (arith, h, a.whole)) in
    a.at k (get_or steps k no_step) step ∙ sym (b.at k (get_or steps k no_step) step))

-- the shares of a chain by def are one list
pub one_list_by_def : (defs : List ℕ) (steps : List ChainStep) (shares others : List Share) → AreSharesByDef defs steps shares
    → AreSharesByDef defs steps others → shares ≡ others
one_list_by_def defs steps shares others a b =
    let keys : a.keys ≡ b.keys = one_list_of_defs defs steps a.keys b.keys a.keys_are b.keys_are in
    one_list_of_shares b.keys (weights_of steps) shares others (subst (λ (list : List ℕ). AreShares list (weights_of steps) shares) keys a.are) b.are

one_first : (links : List Link) (k first other : ℕ) → IsFirstLike links k first → IsFirstLike links k other → first ≡ other
one_first links k first other a b = ⊎_elim (λ (e : first ≡ other). e)
    (⊎_elim (λ (l : first < other). absurd (b.none_before first l a.same)) (λ (g : other < first). absurd (a.none_before other g b.same)))
    (cases_order first other)

one_list_of_firsts : (links : List Link) (firsts others : List ℕ) → AreFirsts links firsts → AreFirsts links others → firsts ≡ others
one_list_of_firsts links firsts others a b = ext_get_or 0 firsts others (a.whole ∙ sym b.whole) (λ k h.
    let there : k < length links = omega (arith, h, a.whole) in
    one_first links k (slice_index firsts k) (slice_index others k) (a.at k there) (b.at k there))

-- ---- all of it

module _ (list : List Row) (sharing : Sharing) (defs : List ℕ) (count : ℕ) (why other : Why) (a : IsWhy list sharing defs count why)
    (b : IsWhy list sharing defs count other) where
  abbrev rows : List Row
  rows = seen sharing list

  starts_same : why.profile.starts.items ≡ other.profile.starts.items
  starts_same = one_plan rows why.profile.starts.items other.profile.starts.items a.profile.earliest b.profile.earliest

  steps_same : why.profile.chain.steps.items ≡ other.profile.chain.steps.items
  steps_same = one_chain rows other.profile.starts.items why.profile.chain.steps.items other.profile.chain.steps.items
      (subst (λ (plan : List ℕ). IsPicked rows plan why.profile.chain.steps.items) starts_same a.profile.picked) b.profile.picked

  links_same : why.links.items ≡ other.links.items
  links_same = one_list_of_links rows defs other.profile.chain.steps.items why.links.items other.links.items
      (subst (λ (steps : List ChainStep). AreLinks rows defs steps why.links.items) steps_same a.links) b.links

  by_def_same : why.by_def.items ≡ other.by_def.items
  by_def_same = one_list_by_def defs other.profile.chain.steps.items why.by_def.items other.by_def.items
      (subst (λ (steps : List ChainStep). AreSharesByDef defs steps why.by_def.items) steps_same
      (record { keys = a.keys; keys_are = a.keys_are; are = a.by_def }))
      (record { keys = b.keys; keys_are = b.keys_are; are = b.by_def })

  firsts_same : a.firsts ≡ b.firsts
  firsts_same = one_list_of_firsts other.links.items a.firsts b.firsts
      (subst (λ (links : List Link). AreFirsts links a.firsts) links_same a.firsts_are) b.firsts_are

  by_link_same : why.by_link.items ≡ other.by_link.items
  by_link_same = one_list_of_shares b.firsts (weights_of other.profile.chain.steps.items) why.by_link.items other.by_link.items
      (subst (λ (firsts : List ℕ). AreShares firsts (weights_of other.profile.chain.steps.items) why.by_link.items) firsts_same
      (subst (λ (steps : List ChainStep). AreShares a.firsts (weights_of steps) why.by_link.items) steps_same a.by_link)) b.by_link

  pub one_why : SayTheSame why other
  one_why = record {
    work = a.profile.work ∙ sym b.profile.work;
    starts = starts_same;
    ends = one_list_of_ends rows other.profile.starts.items why.profile.ends.items other.profile.ends.items
        (subst (λ (plan : List ℕ). HasEnds rows plan why.profile.ends.items) starts_same a.profile.ends) b.profile.ends;
    span = one_end rows other.profile.starts.items why.profile.span other.profile.span
        (subst (λ (plan : List ℕ). IsEnd rows plan why.profile.span) starts_same a.profile.span) b.profile.span;
    steps = steps_same;
    links = links_same;
    by_def = by_def_same;
    by_link = by_link_same;
    least = one_least rows count why.least other.least a.least b.least;
  }

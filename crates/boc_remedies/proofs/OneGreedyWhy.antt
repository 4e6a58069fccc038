-- A greedy plan takes as long as it does for one reason: it has one chain, with one list of links and of shares.
use Rattle.std.proofs.Common.{◌≡◌, ◌∙◌, ℕ, suc, ◌<◌, ⊎_elim, List, length, get_or, ap, arith, refl, subst, sym, Option, Some, None}
use Rattle.std.specs.Prelude.{◌↔◌, slice_get, slice_index}
use Rattle.std.specs.List.{Contains}
use Rattle.std.specs.List.Sorted.{IsStrictlyIncreasing}
use Rattle.std.proofs.lemmas.Bool.{cases_order}
use Rattle.std.proofs.lemmas.List.{ext_get_or}
use Rattle.std.proofs.lemmas.List.Kept.{AllPairs-from_increasing}
use Rattle.std.proofs.lemmas.Option.{get_or_from_slice_get, slice_get-get_or, slice_get_within}
use Rattle.boc_runs.specs.declared.rows.Row.{Row}
use Rattle.boc_runs.specs.Rows.{IsRows}
use Rattle.boc_plans.specs.Plans.{IsEnd}
use Rattle.boc_order.specs.Handed.{AreHanded}
use Rattle.boc_order.proofs.Alone.{one_end}
use Rattle.boc_order.proofs.Ranked.{Ranked, ranked_from_places, same_ranked}
use Rattle.boc_greedy.proofs.Alone.{one_greedy_plan}
use Rattle.boc_greedy_chain.specs.declared.chain.GreedyStep.{GreedyStep}
use Rattle.boc_greedy_chain.specs.declared.chain.Tie.{Tie}
use Rattle.boc_greedy_chain.specs.declared.chain.Tie.TheVariants.{Spawn, Order, Worker, Last}
use Rattle.boc_greedy_chain.specs.GreedyChains.{IsGreedyChain, TieSays}
use Rattle.boc_greedy_chain.proofs.OneChain.{one_chain}
use Rattle.boc_why.specs.declared.links.Link.{Link}
use Rattle.boc_why.specs.declared.links.Link.TheVariants.{SpawnBy, Hands, Frees, Ends}
use Rattle.boc_why.specs.declared.shares.Share.{Share}
use Rattle.boc_why.specs.Shares.{AreFirsts, AreShares, IsFirstLike, def_of}
use Rattle.boc_why.specs.WhySteps.{AreSharesByLink}
use Rattle.boc_why.proofs.ShareLaws.{one_list as one_list_of_shares}
use Rattle.boc_remedies.specs.declared.greedy_why.GreedyWhy.{GreedyWhy}
use Rattle.boc_remedies.specs.GreedyWhys.{AreGreedyLinks, GreedyLinkSays, IsGreedyWhy, SayTheSameOfGreedy, defs_at, greedy_weights}

-- ---- numbers that rise

below_later : (xs : List ℕ) → IsStrictlyIncreasing xs → Ranked (λ x y. x < y) xs
below_later xs rise = ranked_from_places (λ x y. x < y) xs (λ i j x y l ix jy.
    rw (get_or_from_slice_get xs i x 0 ix, get_or_from_slice_get xs j y 0 jy) at
    (AllPairs-from_increasing xs rise i j 0 l (slice_get_within xs j y jy)))

-- the same numbers rise in one order
one_rise : (xs ys : List ℕ) → IsStrictlyIncreasing xs → IsStrictlyIncreasing ys → (same : (x : ℕ) → Contains xs x ↔ Contains ys x) → xs ≡ ys
one_rise xs ys a b same = same_ranked (λ x y. x < y) (λ x y h g. omega (arith, h, g)) xs ys (below_later xs a) (below_later ys b)
    (λ x. (same x).0) (λ x. (same x).1)

-- ---- links

module _ (rows : List Row) (defs : List ℕ) (a : ℕ) where
  pub one_handed : (b : ℕ) (cowns others : List ℕ) → AreHanded rows a b cowns → AreHanded rows a b others → cowns ≡ others
  one_handed b cowns others h g = one_rise cowns others h.rise g.rise
      (λ c. (λ stands. (g.each c).1 ((h.each c).0 stands), λ stands. (h.each c).1 ((g.each c).0 stands)))

  spawn_link : (next : Option GreedyStep) (link : Link) → GreedyLinkSays rows defs a Spawn next link → link ≡ SpawnBy (def_of defs a)
  spawn_link next (SpawnBy d) l = ap (λ (def : ℕ). SpawnBy def) l
  spawn_link next (Hands cowns) l = absurd l
  spawn_link next Frees l = absurd l
  spawn_link next Ends l = absurd l

  order_link : (next : GreedyStep) (link : Link) → GreedyLinkSays rows defs a Order (Some next) link
      → (cowns : List ℕ) × (link ≡ Hands (record { items = cowns })) × AreHanded rows a next.row cowns
  order_link next (SpawnBy d) l = absurd l
  order_link next (Hands cowns) l = (cowns.items, refl, l)
  order_link next Frees l = absurd l
  order_link next Ends l = absurd l

  worker_link : (next : Option GreedyStep) (link : Link) → GreedyLinkSays rows defs a Worker next link → link ≡ Frees
  worker_link next (SpawnBy d) l = absurd l
  worker_link next (Hands cowns) l = absurd l
  worker_link next Frees l = refl
  worker_link next Ends l = absurd l

  last_link : (next : Option GreedyStep) (link : Link) → GreedyLinkSays rows defs a Last next link → link ≡ Ends
  last_link next (SpawnBy d) l = absurd l
  last_link next (Hands cowns) l = absurd l
  last_link next Frees l = absurd l
  last_link next Ends l = refl

  one_link : (tie : Tie) (next : Option GreedyStep) (link other : Link) → GreedyLinkSays rows defs a tie next link → GreedyLinkSays rows defs a tie next other
      → link ≡ other
  one_link Spawn next link other l m = spawn_link next link l ∙ sym (spawn_link next other m)
  one_link Order None link other l m = absurd l
  one_link Order (Some next) link other l m =
      let x = order_link next link l in
      let y = order_link next other m in
      let same : x.0 ≡ y.0 = one_handed next.row x.0 y.0 x.2 y.2 in
      x.1 ∙ ap (λ (cowns : List ℕ). Hands (record { items = cowns })) same ∙ sym y.1
  one_link Worker next link other l m = worker_link next link l ∙ sym (worker_link next other m)
  one_link Last next link other l m = last_link next link l ∙ sym (last_link next other m)

-- behind a tie of order there is a step
order_next : (rows : List Row) (plan workers : List ℕ) (a weight : ℕ) (tie : Tie) (next : Option GreedyStep) → TieSays rows plan workers a weight tie next
    → tie ≡ Order → (n : GreedyStep) × (next ≡ Some n)
order_next rows plan workers a weight tie (Some n) t e = (n, refl)
order_next rows plan workers a weight tie None t e = absurd (subst (λ (x : Tie). TieSays rows plan workers a weight x None) e t)

one_list_of_links : (rows : List Row) (plan workers defs : List ℕ) (steps : List GreedyStep) (links others : List Link)
    → IsGreedyChain rows plan workers steps → AreGreedyLinks rows defs steps links → AreGreedyLinks rows defs steps others → links ≡ others
one_list_of_links rows plan workers defs steps links others chain a b =
    let whole : length links ≡ length others = a.whole ∙ sym b.whole in
    let no_step : GreedyStep = record { row = 0; tie = Last; weight = 0 } in
    ext_get_or Ends links others whole (λ k h.
    let s : GreedyStep = get_or steps k no_step in
    let step = slice_get-get_or steps k no_step (omega (arith, h, a.whole)) in
    let link = slice_get-get_or links k Ends h in
    let other = slice_get-get_or others k Ends (omega (arith, h, whole)) in
    let behind = order_next rows plan workers s.row s.weight s.tie (slice_get steps (suc k)) (chain.ties k s step) in
    one_link rows defs s.row s.tie (slice_get steps (suc k)) (get_or links k Ends) (get_or others k Ends)
    (a.at k s (get_or links k Ends) step link behind) (b.at k s (get_or others k Ends) step other behind))

-- ---- shares

one_first : (links : List Link) (k first other : ℕ) → IsFirstLike links k first → IsFirstLike links k other → first ≡ other
one_first links k first other a b = ⊎_elim (λ (e : first ≡ other). e)
    (⊎_elim (λ (l : first < other). absurd (b.none_before first l a.same)) (λ (g : other < first). absurd (a.none_before other g b.same)))
    (cases_order first other)

one_list_of_firsts : (links : List Link) (firsts others : List ℕ) → AreFirsts links firsts → AreFirsts links others → firsts ≡ others
one_list_of_firsts links firsts others a b = ext_get_or 0 firsts others (a.whole ∙ sym b.whole) (λ k h.
    let there : k < length links = omega (arith, h, a.whole) in
    one_first links k (slice_index firsts k) (slice_index others k) (a.at k there) (b.at k there))

-- the shares of a chain by link are one list
pub one_list_by_link : (links : List Link) (weights : List ℕ) (shares others : List Share) → AreSharesByLink links weights shares
    → AreSharesByLink links weights others → shares ≡ others
one_list_by_link links weights shares others a b =
    let firsts : a.firsts ≡ b.firsts = one_list_of_firsts links a.firsts b.firsts a.firsts_are b.firsts_are in
    one_list_of_shares b.firsts weights shares others (subst (λ (list : List ℕ). AreShares list weights shares) firsts a.are) b.are

-- ---- all of it

module _ (rows : List Row) (p : ℕ) (defs : List ℕ) (why other : GreedyWhy) (hr : IsRows rows) (a : IsGreedyWhy rows p defs why)
    (b : IsGreedyWhy rows p defs other) where
  plans_same : (a.plan ≡ b.plan) × (a.workers ≡ b.workers)
  plans_same = one_greedy_plan rows hr p a.plan a.workers b.plan b.workers a.greedy b.greedy

  chain_there : IsGreedyChain rows b.plan b.workers why.steps.items
  chain_there = subst (λ (workers : List ℕ). IsGreedyChain rows b.plan workers why.steps.items) plans_same.1
      (subst (λ (plan : List ℕ). IsGreedyChain rows plan a.workers why.steps.items) plans_same.0 a.chain)

  steps_same : why.steps.items ≡ other.steps.items
  steps_same = one_chain rows hr p b.plan b.workers b.greedy why.steps.items other.steps.items chain_there b.chain

  links_same : why.links.items ≡ other.links.items
  links_same = one_list_of_links rows b.plan b.workers defs other.steps.items why.links.items other.links.items b.chain
      (subst (λ (steps : List GreedyStep). AreGreedyLinks rows defs steps why.links.items) steps_same a.links) b.links

  pub one_greedy_why : SayTheSameOfGreedy why other
  one_greedy_why = record {
    p = a.asked ∙ sym b.asked;
    end = one_end rows b.plan why.end other.end (subst (λ (plan : List ℕ). IsEnd rows plan why.end) plans_same.0 a.end) b.end;
    steps = steps_same;
    links = links_same;
    by_def = one_list_of_shares (defs_at defs other.steps.items) (greedy_weights other.steps.items) why.by_def.items other.by_def.items
        (subst (λ (steps : List GreedyStep). AreShares (defs_at defs steps) (greedy_weights steps) why.by_def.items) steps_same a.by_def) b.by_def;
    by_link = one_list_by_link other.links.items (greedy_weights other.steps.items) why.by_link.items other.by_link.items
        (subst (λ (links : List Link). AreSharesByLink links (greedy_weights other.steps.items) why.by_link.items) links_same
        (subst (λ (steps : List GreedyStep). AreSharesByLink why.links.items (greedy_weights steps) why.by_link.items) steps_same a.by_link)) b.by_link;
  }

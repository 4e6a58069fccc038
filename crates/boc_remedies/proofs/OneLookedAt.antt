-- What is looked at is one list: a chain has one list of link sets, and each round makes one list of new sets.
use Rattle.std.proofs.Common.{◌≡◌, ◌∙◌, ℕ, zero, suc, List, [], ◌∷◌, ◌++◌, length, drop, get_or, map, ap, arith, refl, subst, sym, Option, Some, None}
use Rattle.std.specs.Prelude.{slice_get}
use Rattle.std.proofs.lemmas.List.{ext_get_or}
use Rattle.std.proofs.lemmas.Option.{slice_get-get_or}
use Rattle.boc_runs.specs.declared.rows.Row.{Row}
use Rattle.boc_plans.specs.declared.chain.ChainStep.{ChainStep}
use Rattle.boc_plans.specs.declared.chain.Via.{Via}
use Rattle.boc_plans.specs.declared.chain.Via.TheVariants.{Spawn, Order, Last}
use Rattle.boc_plans.specs.Chains.{IsPicked}
use Rattle.boc_plans.specs.Seen.{seen}
use Rattle.boc_order.proofs.Alone.{one_chain, one_plan}
use Rattle.boc_why.specs.declared.links.Link.{Link}
use Rattle.boc_why.specs.declared.links.Link.TheVariants.{SpawnBy, Hands, Frees, Ends}
use Rattle.boc_why.specs.Shares.{AreLinks, LinkSays, def_of, weights_of}
use Rattle.boc_remedies.specs.declared.looked_at.LookedAt.{LookedAt}
use Rattle.boc_remedies.specs.declared.looked_at.TheConstants.{ROUNDS}
use Rattle.boc_remedies.specs.Questions.{Asked}
use Rattle.boc_remedies.specs.declared.remedy.Remedy.TheVariants.{NoOrder}
use Rattle.boc_remedies.specs.Chains.{AreSharesBySet, family_link}
use Rattle.boc_remedies.specs.Ends.{AreAllEnds}
use Rattle.boc_remedies.specs.LinkSets.{link_sets}
use Rattle.boc_remedies.specs.LookedAt.{AreLeftBy, AreLookedAt, AreNew, AreRounds, AreSetsLeft, IsRound, best_of, by_span, looked_at, new_from}
use Rattle.boc_remedies.proofs.OneEnds.{one_list_of_ends, one_rows_after}
use Rattle.boc_remedies.proofs.OneGreedyWhy.{one_handed, one_list_by_link}

-- ---- links

module _ (rows : List Row) (defs : List ℕ) (a : ℕ) where
  spawn_link : (next : Option ChainStep) (link : Link) → LinkSays rows defs a Spawn next link → link ≡ SpawnBy (def_of defs a)
  spawn_link next (SpawnBy d) l = ap (λ (def : ℕ). SpawnBy def) l
  spawn_link next (Hands cowns) l = absurd l
  spawn_link next Frees l = absurd l
  spawn_link next Ends l = absurd l

  last_link : (next : Option ChainStep) (link : Link) → LinkSays rows defs a Last next link → link ≡ Ends
  last_link next (SpawnBy d) l = absurd l
  last_link next (Hands cowns) l = absurd l
  last_link next Frees l = absurd l
  last_link next Ends l = refl

  order_link : (next : ChainStep) (link other : Link) → LinkSays rows defs a Order (Some next) link → LinkSays rows defs a Order (Some next) other
      → link ≡ other
  order_link next (Hands cowns) (Hands others) l m =
      let same : cowns.items ≡ others.items = one_handed rows defs a next.row cowns.items others.items l m in
      λ i. Hands (record { items = same i })
  order_link next (Hands cowns) (SpawnBy d) l m = absurd m
  order_link next (Hands cowns) Frees l m = absurd m
  order_link next (Hands cowns) Ends l m = absurd m
  order_link next (SpawnBy d) other l m = absurd l
  order_link next Frees other l m = absurd l
  order_link next Ends other l m = absurd l

  one_link : (via : Via) (next : Option ChainStep) (link other : Link) → LinkSays rows defs a via next link → LinkSays rows defs a via next other
      → link ≡ other
  one_link Spawn next link other l m = spawn_link next link l ∙ sym (spawn_link next other m)
  one_link Order None link other l m = absurd l
  one_link Order (Some next) link other l m = order_link next link other l m
  one_link Last next link other l m = last_link next link l ∙ sym (last_link next other m)

one_list_of_links : (rows : List Row) (defs : List ℕ) (steps : List ChainStep) (links others : List Link) → AreLinks rows defs steps links
    → AreLinks rows defs steps others → links ≡ others
one_list_of_links rows defs steps links others a b =
    let whole : length links ≡ length others = a.whole ∙ sym b.whole in
    let no_step : ChainStep = record { row = 0; via = Last; weight = 0 } in
    ext_get_or Ends links others whole (λ k h.
    let s : ChainStep = get_or steps k no_step in
    let step = slice_get-get_or steps k no_step (omega (arith, h, a.whole)) in
    let link = slice_get-get_or links k Ends h in
    let other = slice_get-get_or others k Ends (omega (arith, h, whole)) in
    one_link rows defs s.row s.via (slice_get steps (suc k)) (get_or links k Ends) (get_or others k Ends)
    (a.at k s (get_or links k Ends) step link) (b.at k s (get_or others k Ends) step other))

-- ---- the chain of some rows

module _ (question : Asked) (rows : List Row) (sets others : List (List ℕ)) (a : AreSetsLeft question rows sets)
    (b : AreSetsLeft question rows others) where
  abbrev all : List Row
  all = seen question.sharing rows

  abbrev defs : List ℕ
  defs = question.defs

  abbrev families : List ℕ
  families = question.families

  plans_same : a.profile.starts.items ≡ b.profile.starts.items
  plans_same = one_plan all a.profile.starts.items b.profile.starts.items a.profile_is.earliest b.profile_is.earliest

  steps_same : a.profile.chain.steps.items ≡ b.profile.chain.steps.items
  steps_same = one_chain all b.profile.starts.items a.profile.chain.steps.items b.profile.chain.steps.items
      (subst (λ (plan : List ℕ). IsPicked all plan a.profile.chain.steps.items) plans_same a.profile_is.picked) b.profile_is.picked

  links_same : a.links ≡ b.links
  links_same = one_list_of_links all defs b.profile.chain.steps.items a.links b.links
      (subst (λ (steps : List ChainStep). AreLinks all defs steps a.links) steps_same a.links_are) b.links_are

  shares_same : a.shares ≡ b.shares
  shares_same = one_list_by_link (map (family_link families) b.links) (weights_of b.profile.chain.steps.items) a.shares b.shares
      (subst (λ (links : List Link). AreSharesBySet families links (weights_of b.profile.chain.steps.items) a.shares) links_same
      (subst (λ (steps : List ChainStep). AreSharesBySet families a.links (weights_of steps) a.shares) steps_same a.shares_are)) b.shares_are

  -- the chain of some rows has one list of link sets
  pub one_list_of_sets : sets ≡ others
  one_list_of_sets = a.are ∙ (λ i. link_sets families (links_same i) (shares_same i)) ∙ sym b.are

one_list_left : (question : Asked) (base : List ℕ) (sets others : List (List ℕ)) → AreLeftBy question base sets → AreLeftBy question base others
    → sets ≡ others
one_list_left question base sets others a b =
    let same : a.after ≡ b.after = one_rows_after question (NoOrder base) a.after b.after a.without b.without in
    one_list_of_sets question b.after sets others (subst (λ (rows : List Row). AreSetsLeft question rows sets) same a.are) b.are

-- ---- rounds

one_new : (question : Asked) (looked bases : List LookedAt) (sets new other : List (List ℕ)) → AreNew question looked bases sets new
    → AreNew question looked bases sets other → new ≡ other
one_new question looked [] sets new other a b = a ∙ sym b
one_new question looked (base ∷ bases) sets new other a b =
    let same : a.0 ≡ b.0 = one_list_left question base.families a.0 b.0 a.1 b.1 in
    one_new question looked bases (new_from looked base.families sets b.0) new other
    (subst (λ (more : List (List ℕ)). AreNew question looked bases (new_from looked base.families sets more) new) same a.2) b.2

one_round : (question : Asked) (before : List LookedAt) (from : ℕ) (after other : List LookedAt) → IsRound question before from after
    → IsRound question before from other → after ≡ other
one_round question before from after other a b =
    let new : a.new ≡ b.new = one_new question before (best_of (drop from before)) [] a.new b.new a.new_are b.new_are in
    let left : a.left ≡ b.left = one_list_of_ends question (map NoOrder b.new) a.left b.left
    (subst (λ (sets : List (List ℕ)). AreAllEnds question (map NoOrder sets) a.left) new a.left_are) b.left_are in
    a.after_is ∙ (λ i. before ++ looked_at (new i) (left i)) ∙ sym b.after_is

one_list_of_rounds : (question : Asked) (rounds from : ℕ) (before after other : List LookedAt) → AreRounds question rounds from before after
    → AreRounds question rounds from before other → after ≡ other
one_list_of_rounds question zero from before after other a b = a ∙ sym b
one_list_of_rounds question (suc rounds) from before after other a b =
    let same : a.0 ≡ b.0 = one_round question before from a.0 b.0 a.1 b.1 in
    one_list_of_rounds question rounds (length before) b.0 after other
    (subst (λ (next : List LookedAt). AreRounds question rounds (length before) next after) same a.2) b.2

pub one_looked_at : (question : Asked) (span : ℕ) (looked others : List LookedAt) → AreLookedAt question span looked → AreLookedAt question span others
    → looked ≡ others
one_looked_at question span looked others a b =
    one_list_of_rounds (by_span question) ROUNDS 0 (record { families = []; span = span } ∷ []) looked others a b

-- Of some rows one thing is known of their chains.
use Rattle.std.proofs.Common.{◌≡◌, ◌∙◌, ℕ, List, [], ◌∷◌, length, map, ap, subst, sym, Option, Some, None}
use Rattle.boc_runs.specs.Rows.{IsRows}
use Rattle.boc_plans.proofs.Seeing.{rows_seen}
use Rattle.boc_plans.specs.Seen.{seen}
use Rattle.boc_why.specs.declared.links.Link.{Link}
use Rattle.boc_why.specs.declared.shares.Share.{Share}
use Rattle.boc_why.specs.declared.why.Why.{Why}
use Rattle.boc_why.specs.Shares.{weights_of}
use Rattle.boc_why.specs.Why.{IsWhy, SayTheSame}
use Rattle.boc_why.proofs.OneWhy.{one_why}
use Rattle.boc_remedies.specs.declared.greedy_why.GreedyWhy.{GreedyWhy}
use Rattle.boc_remedies.specs.Questions.{Asked}
use Rattle.boc_remedies.specs.Chains.{AreChains, AreSharesBySet, IsKnown, IsKnownOf, IsKnownOfGreedy, Known, family_link}
use Rattle.boc_remedies.specs.GreedyWhys.{SayTheSameOfGreedy, greedy_weights, SayTheSameIfAsked}
use Rattle.boc_remedies.specs.Steps.{IsGreedyAsked}
use Rattle.boc_remedies.proofs.OneGreedyWhy.{one_greedy_why, one_list_by_link}

-- ---- one chain

one_known : (families : List ℕ) (links others : List Link) (weights more : List ℕ) (by_def defs by_link shares : List Share) (chain known : Known)
    → links ≡ others → weights ≡ more → by_def ≡ defs → by_link ≡ shares → IsKnown families links weights by_def by_link chain
    → IsKnown families others more defs shares known → chain ≡ known
one_known families links others weights more by_def defs by_link shares chain known same_links same_weights same_defs same_shares a b =
    let p : chain.links ≡ known.links = a.links_are ∙ same_links ∙ sym b.links_are in
    let q : chain.by_def ≡ known.by_def = a.by_def_are ∙ same_defs ∙ sym b.by_def_are in
    let r : chain.by_link ≡ known.by_link = a.by_link_are ∙ same_shares ∙ sym b.by_link_are in
    let by_set : AreSharesBySet families others more chain.by_set =
    subst (λ (weights : List ℕ). AreSharesBySet families others weights chain.by_set) same_weights
    (subst (λ (links : List Link). AreSharesBySet families links weights chain.by_set) same_links a.by_set_are) in
    let s : chain.by_set ≡ known.by_set = one_list_by_link (map (family_link families) others) more chain.by_set known.by_set by_set b.by_set_are in
    λ i. record { links = p i; by_def = q i; by_link = r i; by_set = s i }

one_known_of : (families : List ℕ) (why other : Why) (chain known : Known) → SayTheSame why other → IsKnownOf families why chain
    → IsKnownOf families other known → chain ≡ known
one_known_of families why other chain known same a b =
    one_known families why.links.items other.links.items (weights_of why.profile.chain.steps.items) (weights_of other.profile.chain.steps.items)
    why.by_def.items other.by_def.items why.by_link.items other.by_link.items chain known same.links (ap weights_of same.steps) same.by_def same.by_link a b

one_known_of_greedy : (families : List ℕ) (why other : GreedyWhy) (chain known : Known) → SayTheSameOfGreedy why other → IsKnownOfGreedy families why chain
    → IsKnownOfGreedy families other known → chain ≡ known
one_known_of_greedy families why other chain known same a b =
    one_known families why.links.items other.links.items (greedy_weights why.steps.items) (greedy_weights other.steps.items) why.by_def.items
    other.by_def.items why.by_link.items other.by_link.items chain known same.links (ap greedy_weights same.steps) same.by_def same.by_link a b

-- ---- where greedy plans are asked for

pub one_asked : (question : Asked) → IsRows question.rows → (workers : Option ℕ) (greedy other : Option GreedyWhy)
    → IsGreedyAsked question workers greedy → IsGreedyAsked question workers other → SayTheSameIfAsked greedy other
one_asked question hr None greedy other a b =
    subst (λ (why : Option GreedyWhy). SayTheSameIfAsked why other) (sym a) (subst (λ (why : Option GreedyWhy). SayTheSameIfAsked None why) (sym b) tt)
one_asked question hr (Some p) None other a b = absurd a
one_asked question hr (Some p) (Some why) None a b = absurd b
one_asked question hr (Some p) (Some why) (Some other) a b =
    one_greedy_why (seen question.sharing question.rows) p question.defs why other (rows_seen question.sharing question.rows hr) a b

-- ---- all chains

pub one_list_of_chains : (families : List ℕ) (why other : Why) (greedy asked : Option GreedyWhy) (chains known : List Known) → SayTheSame why other
    → SayTheSameIfAsked greedy asked → AreChains families why greedy chains → AreChains families other asked known → chains ≡ known
one_list_of_chains families why other None None chains known same said a b =
    let first : a.0 ≡ b.0 = one_known_of families why other a.0 b.0 same a.2 b.2 in
    a.1 ∙ ap (λ (chain : Known). chain ∷ []) first ∙ sym b.1
one_list_of_chains families why other None (Some asked) chains known same said a b = absurd said
one_list_of_chains families why other (Some greedy) None chains known same said a b = absurd said
one_list_of_chains families why other (Some greedy) (Some asked) chains known same said a b =
    let first : a.0 ≡ b.0 = one_known_of families why other a.0 b.0 same a.3 b.3 in
    let second : a.1 ≡ b.1 = one_known_of_greedy families greedy asked a.1 b.1 said a.4 b.4 in
    a.2 ∙ (λ i. first i ∷ second i ∷ []) ∙ sym b.2

pub one_chains : (question : Asked) (why others : Why) (greedy other : Option GreedyWhy) (chains known : List Known) → IsRows question.rows
    → IsWhy question.rows question.sharing question.defs (length question.families) why
    → IsWhy question.rows question.sharing question.defs (length question.families) others
    → IsGreedyAsked question question.workers greedy → IsGreedyAsked question question.workers other
    → AreChains question.families why greedy chains → AreChains question.families others other known → chains ≡ known
one_chains question why others greedy other chains known hr is_why is_other asked also a b =
    one_list_of_chains question.families why others greedy other chains known
    (one_why question.rows question.sharing question.defs (length question.families) why others is_why is_other)
    (one_asked question hr question.workers greedy other asked also) a b

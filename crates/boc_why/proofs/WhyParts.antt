-- What the parts of a why say of one another.
use Rattle.std.proofs.Common.{◌≡◌, ℕ, ◌<◌, ◌∙◌, List, length, get_or, arith}
use Rattle.std.specs.Prelude.{All, slice_index}
use Rattle.std.proofs.lemmas.List.{get_or_default}
use Rattle.std.proofs.lemmas.List.Elements.{All-contains, All-get_or}
use Rattle.std.proofs.lemmas.Option.{slice_get-get_or, slice_get_within}
use Rattle.boc_runs.specs.declared.rows.Row.{Row}
use Rattle.boc_plans.specs.declared.chain.ChainStep.{ChainStep}
use Rattle.boc_plans.specs.declared.chain.Via.TheVariants.{Spawn}
use Rattle.boc_plans.specs.Chains.{IsChain}
use Rattle.boc_why.specs.declared.links.Link.{Link}
use Rattle.boc_why.specs.declared.links.Link.TheVariants.{Ends}
use Rattle.boc_why.specs.declared.shares.Share.{Share}
use Rattle.boc_why.specs.Shares.{AreDefsOf, AreFirsts, AreShares}

-- what an index reads where there is no step
abbrev no_step : ChainStep
no_step = record { row = 0; via = Spawn; weight = 0 }

-- the defs of the rows of a chain are below what all defs are below
pub defs_below : (n : ℕ) (defs : List ℕ) (steps : List ChainStep) (keys : List ℕ) → All (λ s. s.row < length defs) steps → All (λ d. d < n) defs
    → AreDefsOf defs steps keys → All (λ k. k < n) keys
defs_below n defs steps keys rows low are k d h =
    let there : k < length steps = omega (arith, h, are.whole) in
    let step : ChainStep = get_or steps k no_step in
    let own : step.row < length defs = All-get_or (λ s. s.row < length defs) steps k no_step there rows in
    let is : slice_index keys k ≡ slice_index defs step.row = are.at k step (slice_get-get_or steps k no_step there) in
    omega (arith, low step.row 0 own, is, get_or_default keys k d 0 h)

-- first places are places
pub firsts_below : (links : List Link) (firsts : List ℕ) → AreFirsts links firsts → All (λ k. k < length links) firsts
firsts_below links firsts are k d h =
    let there : k < length links = omega (arith, h, are.whole) in
    let first = slice_get_within links (slice_index firsts k) (get_or links k Ends) ((are.at k there).same ∙ slice_get-get_or links k Ends there) in
    omega (arith, first, get_or_default firsts k d 0 h)

-- the keys of shares are below what all keys are below
pub keys_below : (n : ℕ) (keys weights : List ℕ) (shares : List Share) → All (λ k. k < n) keys → AreShares keys weights shares
    → All (λ s. s.key < n) shares
keys_below n keys weights shares low are k d h =
    All-contains (λ k. k < n) keys (get_or shares k d).key low (are.each k (get_or shares k d) (slice_get-get_or shares k d h)).there

-- the rows of a chain are there
pub chain_rows : (rows : List Row) (steps : List ChainStep) (n : ℕ) → IsChain rows steps → length rows ≡ n → All (λ s. s.row < n) steps
chain_rows rows steps n chain whole k d h =
    omega (arith, whole, (chain.holds k (get_or steps k d) (slice_get-get_or steps k d h)).1.0)

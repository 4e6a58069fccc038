-- What a chain goes through, and how much of it: the defs of its rows, and what leads from each row to the next.
use Rattle.std.specs.Prelude.{◌≡◌, ◌≢◌, ◌+◌, ◌<◌, ◌⊎◌, ◌==◌, ℕ, suc, List, [], ◌∷◌, length, map, cond, Option, Some, slice_get, slice_index}
use Rattle.std.specs.List.{Contains}
use Rattle.boc_runs.specs.declared.rows.Row.{Row}
use Rattle.boc_plans.specs.declared.chain.ChainStep.{ChainStep}
use Rattle.boc_plans.specs.declared.chain.Via.{Via}
use Rattle.boc_plans.specs.declared.chain.Via.TheVariants.{Spawn, Order, Last}
use Rattle.boc_order.specs.Handed.{AreHanded}
use Rattle.boc_why.specs.declared.links.Link.{Link}
use Rattle.boc_why.specs.declared.links.Link.TheVariants.{SpawnBy, Hands, Ends}
use Rattle.boc_why.specs.declared.shares.Share.{Share}

-- the def of a row
abbrev pub def_of : List ℕ → ℕ → ℕ
def_of defs row = slice_index defs row

-- what leads on from row a of a chain: a spawn, by the row's def; the cowns that it hands to the row after it; or nothing, where all is over
abbrev pub LinkSays : List Row → List ℕ → ℕ → Via → Option ChainStep → Link → Type 0
LinkSays rows defs a Spawn next (SpawnBy def) = def ≡ def_of defs a
LinkSays rows defs a Order (Some next) (Hands cowns) = AreHanded rows a next.row cowns.items
LinkSays rows defs a Last next Ends = Unit {0}
LinkSays rows defs a via next link = ⊥

-- for each step of a chain what leads on from it
pub record AreLinks (rows : List Row) (defs : List ℕ) (steps : List ChainStep) (links : List Link) : Type 0 where
  pub whole : length links ≡ length steps
  pub at : (k : ℕ) (s : ChainStep) (link : Link) → slice_get steps k ≡ Some s → slice_get links k ≡ Some link →
      LinkSays rows defs s.row s.via (slice_get steps (suc k)) link

-- this is the first place at which the same link stands as at place k
pub record IsFirstLike (links : List Link) (k first : ℕ) : Type 0 where
  pub same : slice_get links first ≡ slice_get links k
  pub none_before : (j : ℕ) → j < first → slice_get links j ≢ slice_get links k

-- for each link the first place at which the same one stands
pub record AreFirsts (links : List Link) (firsts : List ℕ) : Type 0 where
  pub whole : length firsts ≡ length links
  pub at : (k : ℕ) → k < length links → IsFirstLike links k (slice_index firsts k)

-- the def of each step's row
pub record AreDefsOf (defs : List ℕ) (steps : List ChainStep) (keys : List ℕ) : Type 0 where
  pub whole : length keys ≡ length steps
  pub at : (k : ℕ) (s : ChainStep) → slice_get steps k ≡ Some s → slice_index keys k ≡ def_of defs s.row

-- what the steps of a chain weigh
abbrev pub weights_of : List ChainStep → List ℕ
weights_of steps = map (λ s. s.weight) steps

-- what the steps with this key weigh, where each step has a key and a weight
abbrev pub ticks_at : ℕ → List ℕ → List ℕ → ℕ
ticks_at key [] weights = 0
ticks_at key (k ∷ keys) [] = 0
ticks_at key (k ∷ keys) (w ∷ weights) = cond (k == key) w 0 + ticks_at key keys weights

-- how many steps have this key
abbrev pub steps_at : ℕ → List ℕ → ℕ
steps_at key [] = 0
steps_at key (k ∷ keys) = cond (k == key) 1 0 + steps_at key keys

-- the share of this key in a chain whose steps have these keys and weights
pub record IsShare (keys weights : List ℕ) (share : Share) : Type 0 where
  pub there : Contains keys share.key
  pub ticks : share.ticks ≡ ticks_at share.key keys weights
  pub steps : share.steps ≡ steps_at share.key keys

-- the one weighs more, or as much and has the lesser key
abbrev pub StandsBefore : Share → Share → Type 0
StandsBefore a b = (b.ticks < a.ticks) ⊎ ((a.ticks ≡ b.ticks) × (a.key < b.key))

-- the shares of all keys of a chain, those that weigh most first
pub record AreShares (keys weights : List ℕ) (shares : List Share) : Type 0 where
  pub each : (i : ℕ) (share : Share) → slice_get shares i ≡ Some share → IsShare keys weights share
  pub all : (key : ℕ) → Contains keys key → (i : ℕ) × (share : Share) × (slice_get shares i ≡ Some share) × (share.key ≡ key)
  pub sorted : (i j : ℕ) (a b : Share) → i < j → slice_get shares i ≡ Some a → slice_get shares j ≡ Some b → StandsBefore a b

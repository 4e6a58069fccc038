-- What is told of a def, or of a family of cowns, of one run.
use Rattle.std.specs.Prelude.{◌≡◌, ℕ, ◌+◌, ◌<◌, ◌==◌, nat_eq, max, cond, Bool, false}
use Rattle.std.specs.Prelude.{List, [], ◌∷◌, length, map, All, sum, count_by, slice_get, slice_index}
use Rattle.std.specs.List.{list_any, sum_by}
use Rattle.std.specs.Option.{option_map_or}
use Rattle.boc_program.specs.declared.limits.TheConstants.{MOST_ROWS}
use Rattle.boc_runs.specs.declared.rows.Row.{Row}
use Rattle.boc_cowns.specs.declared.hot.HotCown.{HotCown}
use Rattle.boc_typical.specs.Medians.{IsTypicalOf, ticks_in}
use Rattle.boc_why.specs.declared.links.Link.{Link}
use Rattle.boc_why.specs.declared.links.Link.TheVariants.{SpawnBy, Hands, Frees, Ends}
use Rattle.boc_why.specs.declared.shares.Share.{Share}
use Rattle.boc_compare.specs.declared.totals.Totals.{Totals}

-- these numbers, each once, in the order in which they come first; those that were seen before are left out
abbrev pub not_seen : List ℕ → List ℕ → List ℕ
not_seen seen [] = []
not_seen seen (n ∷ numbers) = cond (list_any (nat_eq n) seen) (not_seen seen numbers) (n ∷ not_seen (n ∷ seen) numbers)

abbrev pub each_once : List ℕ → List ℕ
each_once numbers = not_seen [] numbers

-- ---- of defs

-- the ticks of the last of some shares that has this key, and these where none has
abbrev pub share_from : ℕ → ℕ → List Share → ℕ
share_from key ticks [] = ticks
share_from key ticks (s ∷ shares) = share_from key (cond (s.key == key) s.ticks ticks) shares

-- the ticks of the share with this key, of which a chain has one at most
abbrev pub share_of : ℕ → List Share → ℕ
share_of key shares = share_from key 0 shares

-- for each key what its share has
pub record AreShareTicks (shares : List Share) (table : List ℕ) : Type 0 where
  pub whole : length table ≡ MOST_ROWS
  pub each : (key : ℕ) → key < MOST_ROWS → slice_index table key ≡ share_of key shares

-- what is told of a def: how many rows it has, what they took together, its typical ticks, and its ticks on the chain
pub record IsOfDef (rows : List Row) (defs : List ℕ) (by_def : List Share) (own : Totals) : Type 0 where
  pub count : own.count ≡ length (ticks_in rows defs own.key)
  pub ticks : own.ticks ≡ sum (ticks_in rows defs own.key)
  pub typical : IsTypicalOf rows defs own.key own.more
  pub chain : own.chain ≡ share_of own.key by_def

-- what is told of each def, in the order of their first rows
pub record AreOfDefs (rows : List Row) (defs : List ℕ) (by_def : List Share) (list : List Totals) : Type 0 where
  pub keys : map (λ own. own.key) list ≡ each_once defs
  pub each : All (IsOfDef rows defs by_def) list

-- ---- of families of cowns

-- the cown belongs to this family
abbrev pub is_of : List ℕ → ℕ → ℕ → Bool
is_of families family cown = option_map_or (nat_eq family) (slice_get families cown) false

-- what a cown adds to what is told of a family: this many ticks where it belongs to the family, and none otherwise
abbrev pub held_in : List ℕ → ℕ → HotCown → ℕ
held_in families family hot = cond (is_of families family hot.cown) hot.held 0

abbrev pub waited_in : List ℕ → ℕ → HotCown → ℕ
waited_in families family hot = cond (is_of families family hot.cown) hot.waited 0

-- the greatest of what cowns of a family are held for
abbrev pub most_held : List ℕ → ℕ → List HotCown → ℕ
most_held families family [] = 0
most_held families family (hot ∷ cowns) = max (held_in families family hot) (most_held families family cowns)

-- how long rows wait for cowns of a family
abbrev pub waited_by : List ℕ → ℕ → List HotCown → ℕ
waited_by families family cowns = sum_by (waited_in families family) cowns

-- a link hands on a cown of the family
abbrev pub hands_any : List ℕ → ℕ → Link → Bool
hands_any families family (Hands cowns) = list_any (is_of families family) cowns.items
hands_any families family (SpawnBy def) = false
hands_any families family Frees = false
hands_any families family Ends = false

-- what the links weigh that hand on any cown of a family, each of which counts once
abbrev pub handed_by : List ℕ → ℕ → List Link → List ℕ → ℕ
handed_by families family [] weights = 0
handed_by families family (link ∷ links) [] = 0
handed_by families family (link ∷ links) (w ∷ weights) = cond (hands_any families family link) w 0 + handed_by families family links weights

-- what is told of a family: how many cowns it has, how long the one is held that is held longest, how long rows wait for them, and what links of the chain
-- weigh that hand on any of them
pub record IsOfFamily (families : List ℕ) (cowns : List HotCown) (links : List Link) (weights : List ℕ) (own : Totals) : Type 0 where
  pub count : own.count ≡ count_by (λ f. f == own.key) families
  pub held : own.ticks ≡ most_held families own.key cowns
  pub waited : own.more ≡ waited_by families own.key cowns
  pub chain : own.chain ≡ handed_by families own.key links weights

-- what is told of each family, in the order of their first cowns
pub record AreOfFamilies (families : List ℕ) (cowns : List HotCown) (links : List Link) (weights : List ℕ) (list : List Totals) : Type 0 where
  pub keys : map (λ own. own.key) list ≡ each_once families
  pub each : All (IsOfFamily families cowns links weights) list

-- Which cowns hold some rows back.
use Rattle.std.specs.Prelude.{◌≡◌, ℕ, zero, suc, ◌+◌, ◌-◌, ◌<◌, ◌⊎◌, Bool, false, ◌&&◌, ◌||◌, cond, List, length, nat_eq}
use Rattle.std.specs.Prelude.{Option, Some, None, slice_get, slice_index_or}
use Rattle.std.specs.List.{list_any}
use Rattle.std.specs.Option.{option_map_or}
use Rattle.boc_runs.specs.declared.rows.Row.{Row}
use Rattle.boc_runs.specs.Rows.{parent_of, offset_of, cowns_of}
use Rattle.boc_runs.specs.Changes.{without}
use Rattle.boc_plans.specs.declared.sharing.Sharing.{Sharing}
use Rattle.boc_plans.specs.declared.sharing.Sharing.TheVariants.{SharedReads}
use Rattle.boc_plans.specs.declared.chain.ChainStep.{ChainStep}
use Rattle.boc_plans.specs.declared.chain.Via.{Via}
use Rattle.boc_plans.specs.declared.chain.Via.TheVariants.{Spawn, Order, Last}
use Rattle.boc_plans.specs.Seen.{seen}
use Rattle.boc_plans.specs.Plans.{start_of, IsEarliest, IsEnd}
use Rattle.boc_plans.specs.Chains.{IsPicked}
use Rattle.boc_plans.specs.Greedy.{IsSpan}
use Rattle.boc_order.specs.Placed.{IsTight}
use Rattle.boc_order.specs.Least.{IsHeldFrom, IsLeast, load_of, start_or_0, wrote_cown}
use Rattle.boc_cowns.specs.declared.hot.HotCown.{HotCown}
use Rattle.boc_cowns.specs.declared.hot.HotCowns.{HotCowns}

-- ---- the rows that have a cown

-- whether a row has a cown
abbrev pub has_cown : List Row → ℕ → ℕ → Bool
has_cown rows cown r = list_any (nat_eq cown) (cowns_of rows r)

-- the ticks of those of the first n numbers that pass a test, added up
abbrev pub sum_where : (ℕ → Bool) → (ℕ → ℕ) → ℕ → ℕ
sum_where passes ticks zero = 0
sum_where passes ticks (suc n) = sum_where passes ticks n + cond (passes n) (ticks n) 0

-- one for each
abbrev pub one : ℕ → ℕ
one n = 1

-- how many rows have a cown
abbrev pub rows_with : List Row → ℕ → ℕ
rows_with rows cown = sum_where (has_cown rows cown) one (length rows)

-- how many rows wrote it
abbrev pub rows_that_wrote : List Row → ℕ → ℕ
rows_that_wrote rows cown = sum_where (wrote_cown rows cown) one (length rows)

-- ---- the rows that hand it on

-- whether row a hands the cown to row b, which comes after it: both have it, and one of them wrote it
abbrev pub hands_cown : List Row → ℕ → ℕ → ℕ → Bool
hands_cown rows cown a b = has_cown rows cown a && (has_cown rows cown b && (wrote_cown rows cown a || wrote_cown rows cown b))

-- For each row but main the row whose end it waits for, if it starts later than it is spawned: of those that are ordered before it and end as it
-- starts the first.
pub record AreAwaited (rows : List Row) (plan : List ℕ) (after : List (Option ℕ)) : Type 0 where
  pub whole : length after ≡ length rows
  pub each : (b : ℕ) → 0 < b → b < length rows → IsTight rows plan b (slice_index_or after b None)

-- whether row b waits for the end of a row that hands it the cown
abbrev pub waits_over : List Row → List (Option ℕ) → ℕ → ℕ → Bool
waits_over rows after cown b = option_map_or (λ a. hands_cown rows cown a b) (slice_index_or after b None) false

-- how long row b waits: the ticks from its spawn to its start
abbrev pub wait_of : List Row → List ℕ → ℕ → ℕ
wait_of rows plan b = start_of plan b - (start_of plan (parent_of rows b) + offset_of rows b)

-- how long rows wait for the cown, all together
abbrev pub waited_for : List Row → List ℕ → List (Option ℕ) → ℕ → ℕ
waited_for rows plan after cown = sum_where (waits_over rows after cown) (wait_of rows plan) (length rows)

-- whether row a of a chain hands the cown to the row after it
abbrev pub link_hands : List Row → ℕ → ℕ → Via → Option ChainStep → Bool
link_hands rows cown a Order (Some next) = hands_cown rows cown a next.row
link_hands rows cown a Order None = false
link_hands rows cown a Spawn next = false
link_hands rows cown a Last next = false

-- whether step k of a chain hands the cown to the step after it
abbrev pub step_hands : List Row → List ChainStep → ℕ → ℕ → Bool
step_hands rows steps cown k = option_map_or (λ s. link_hands rows cown s.row s.via (slice_get steps (suc k))) (slice_get steps k) false

-- what step k of a chain weighs
abbrev pub weight_at : List ChainStep → ℕ → ℕ
weight_at steps k = option_map_or (λ s. s.weight) (slice_get steps k) 0

-- the ticks of a chain that hand the cown on
abbrev pub chain_through : List Row → List ChainStep → ℕ → ℕ
chain_through rows steps cown = sum_where (step_hands rows steps cown) (weight_at steps) (length steps)

-- ---- all cowns

-- What is told of a cown of these rows, in this plan, in which each row waits for these, in the plan in which only spawns order the rows, and in this
-- chain. Which rows have it and which wrote it is as the record has it; for how long it is held and from when on, and what is handed on, is as plans see
-- the rows.
pub record IsHotCown (list : List Row) (sharing : Sharing) (plan : List ℕ) (after : List (Option ℕ)) (spawned : List ℕ) (steps : List ChainStep)
    (hot : HotCown) : Type 0 where
  pub rows : hot.rows ≡ rows_with list hot.cown
  pub wrote : hot.wrote ≡ rows_that_wrote list hot.cown
  pub held : hot.held ≡ load_of (seen sharing list) hot.cown
  pub from : IsHeldFrom (seen sharing list) spawned hot.cown hot.from
  pub waited : hot.waited ≡ waited_for (seen sharing list) plan after hot.cown
  pub chain : hot.chain ≡ chain_through (seen sharing list) steps hot.cown
  pub left : IsSpan (without hot.cown (seen sharing list)) hot.without

-- The tick before which the rows that wrote a cown are not all done, in whatever order: they start no sooner than the first of them can, and hold it one
-- at a time.
abbrev pub busy_until : HotCown → ℕ
busy_until own = start_or_0 own.from + own.held

-- the one is held longer, or as long and has the lesser number
abbrev pub IsHotter : HotCown → HotCown → Type 0
IsHotter a b = (b.held < a.held) ⊎ ((a.held ≡ b.held) × (a.cown < b.cown))

-- each of so many cowns stands among these once, and those that are held longest stand first
pub record AreSorted (count : ℕ) (cowns : List HotCown) : Type 0 where
  pub whole : length cowns ≡ count
  pub below : (i : ℕ) (hot : HotCown) → slice_get cowns i ≡ Some hot → hot.cown < count
  pub all : (cown : ℕ) → cown < count → (i : ℕ) × (hot : HotCown) × (slice_get cowns i ≡ Some hot) × (hot.cown ≡ cown)
  pub sorted : (i j : ℕ) (a b : HotCown) → i < j → slice_get cowns i ≡ Some a → slice_get cowns j ≡ Some b → IsHotter a b

-- What is told of so many cowns of these rows: their earliest plan, with the row that each row waits for, and the chain that is picked in it; its end;
-- a lower bound for their end in any order; the span where reads are shared; and each cown, those that are held longest first.
pub record IsHotCowns (list : List Row) (sharing : Sharing) (count : ℕ) (hot : HotCowns) : Type 0 where
  pub plan : List ℕ
  pub earliest : IsEarliest (seen sharing list) plan
  pub after : List (Option ℕ)
  pub awaited : AreAwaited (seen sharing list) plan after
  pub steps : List ChainStep
  pub picked : IsPicked (seen sharing list) plan steps
  pub ends : IsEnd (seen sharing list) plan hot.span
  pub least : IsLeast (seen sharing list) count hot.least
  pub by_shared_reads : IsSpan (seen SharedReads list) hot.shared
  pub each : (i : ℕ) (own : HotCown) → slice_get hot.cowns.items i ≡ Some own → IsHotCown list sharing plan after least.spawned steps own
  pub sorted : AreSorted count hot.cowns.items

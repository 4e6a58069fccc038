-- The cown that is busy until the latest tick, and that no order of the rows is done before that tick.
use Rattle.std.proofs.Common.{◌≡◌, inl, inr, ℕ, ◌+◌, ◌<◌, ◌≤◌, ◌^◌, true, false, List, length, Option, Some, None}
use Rattle.std.proofs.Common.{⊎_elim, ap, sym, ◌∙◌, subst, arith}
use Rattle.std.specs.Prelude.{All, nat_eq, slice_index_or}
use Rattle.std.specs.List.{Contains, list_any}
use Rattle.std.proofs.lemmas.Bool.{cases_eq}
use Rattle.boc_program.specs.declared.limits.TheConstants.{MOST_COWNS}
use Rattle.boc_runs.specs.declared.rows.Row.{Row}
use Rattle.boc_runs.specs.Rows.{IsRows, written_of}
use Rattle.boc_plans.specs.Plans.{start_of, IsEnd}
use Rattle.boc_order.specs.declared.least.Busiest.{Busiest}
use Rattle.boc_order.specs.declared.least.Least.{Least}
use Rattle.boc_order.specs.Least.{AreFirstStarts, AreLoads, AreOf, IsBusiestOf, IsBusy, IsFirstStart, IsHeldFrom, IsLatest, IsLatestOf, IsLeast}
use Rattle.boc_order.specs.Least.{IsSpawnPlan, KeepsApart, KeepsSpawns, load_of, start_or_0, tick_of, until_of, wrote_cown}
use Rattle.boc_order.proofs.Found.{among_tells}
use Rattle.boc_order.proofs.FirstStarts.{one_first}
use Rattle.boc_order.proofs.LeastLoads.{all_low, load_ends, load_ends_from}
use Rattle.boc_order.proofs.LeastSpawns.{keeps_bare, length-bare, plan_span, spawns_end}

-- ---- the latest tick, cown by cown

module _ (loads : List ℕ) (firsts : List (Option ℕ)) (next : Busiest) (is : AreOf loads firsts next) where
  until_at : (c : ℕ) → c ≡ next.cown → until_of loads firsts c ≡ next.until
  until_at c e = ap (until_of loads firsts) e ∙ sym is.until

  pub latest_first : next.cown ≡ 0 → IsLatest loads firsts (next.cown + 1) next
  latest_first none = record {
    below = omega arith;
    is = is;
    none_later = λ c h. (let e : c ≡ next.cown = omega (arith, h, none) in omega (arith, until_at c e));
    first = λ c h. absurd (omega (arith, h, none));
  }

  module _ (best : Busiest) (m : IsLatest loads firsts next.cown best) where
    pub latest_stays : next.until ≤ best.until → IsLatest loads firsts (next.cown + 1) best
    latest_stays less = record {
      below = omega (arith, m.below);
      is = m.is;
      none_later = λ c h. elim (cases_eq c next.cown) [
        | inl e ↦ omega (arith, until_at c e, less)
        | inr ne ↦ m.none_later c (omega arith)
      ];
      first = m.first;
    }

    pub latest_moves : best.until < next.until → IsLatest loads firsts (next.cown + 1) next
    latest_moves more = record {
      below = omega arith;
      is = is;
      none_later = λ c h. elim (cases_eq c next.cown) [
        | inl e ↦ omega (arith, until_at c e)
        | inr ne ↦ (let low : until_of loads firsts c ≤ best.until = m.none_later c (omega arith) in omega (arith, low, more))
      ];
      first = λ c h. omega (arith, m.none_later c h, more);
    }

-- ---- the same of the rows

module _ (rows : List Row) (spawned loads : List ℕ) (firsts : List (Option ℕ)) (l : AreLoads rows loads)
    (f : AreFirstStarts rows spawned (length rows) firsts) where
  -- what is so of a cown is what the loads and the least starts have of it
  busy_until : (busy : Busiest) → busy.cown < MOST_COWNS → IsBusy rows spawned busy → until_of loads firsts busy.cown ≡ busy.until
  busy_until busy small is =
      let from : slice_index_or firsts busy.cown None ≡ busy.from =
      one_first (wrote_cown rows busy.cown) spawned (length rows) (slice_index_or firsts busy.cown None) busy.from (f.at busy.cown small) is.from in
      let start : start_or_0 (slice_index_or firsts busy.cown None) ≡ start_or_0 busy.from = ap start_or_0 from in
      omega (arith, l.at busy.cown small, is.load, is.until, start)

  busy_is : (busy : Busiest) → busy.cown < MOST_COWNS → AreOf loads firsts busy → IsBusy rows spawned busy
  busy_is busy small is =
      let start : start_or_0 busy.from ≡ start_or_0 (slice_index_or firsts busy.cown None) = ap start_or_0 is.from in
      record {
        load = is.load ∙ l.at busy.cown small;
        from = subst (IsHeldFrom rows spawned busy.cown) (sym is.from) (f.at busy.cown small);
        until = omega (arith, is.until, is.load, start);
      }

  -- the cown that is busy until the latest tick
  pub busiest_is : (count : ℕ) (best : Option Busiest) → count ≤ MOST_COWNS → IsLatestOf loads firsts count best → IsBusiestOf rows spawned count best
  busiest_is count None few none = none
  busiest_is count (Some b) few m = record {
    below = m.below;
    is = busy_is b (omega (arith, m.below, few)) m.is;
    none_later = λ other h is. omega (arith, busy_until other (omega (arith, h, few)) is, m.none_later other.cown h);
    first = λ other h is. omega (arith, busy_until other (omega (arith, h, m.below, few)) is, m.first other.cown h);
  }

  -- where no row starts late, none is busy until a tick that doesn't fit a number
  start_low : All (λ start. start < 2 ^ 56) spawned → (cown : ℕ) (first : Option ℕ) → IsFirstStart (wrote_cown rows cown) spawned (length rows) first
      → length spawned ≡ length rows → start_or_0 first < 2 ^ 56
  start_low low cown None is whole = omega arith
  start_low low cown (Some first) is whole =
      let there : is.row < length spawned = omega (arith, is.below, whole) in
      omega (arith, is.starts, low is.row 0 there)

  pub until_low : IsRows rows → All (λ start. start < 2 ^ 56) spawned → length spawned ≡ length rows → (cown : ℕ) → cown < MOST_COWNS
      → until_of loads firsts cown < 2 ^ 64
  until_low hr low whole cown small =
      let start : start_or_0 (slice_index_or firsts cown None) < 2 ^ 56 =
      start_low low cown (slice_index_or firsts cown None) (f.at cown small) whole in
      omega (arith, start, l.at cown small, all_low rows hr cown)

-- ---- busy in every order

writes_told : (rows : List Row) (c r : ℕ) → Contains (written_of rows r) c → wrote_cown rows c r ≡ true
writes_told rows c r w = ⊎_elim
    (λ (y : (list_any (nat_eq c) (written_of rows r) ≡ true) × Contains (written_of rows r) c). y.0)
    (λ (no : (list_any (nat_eq c) (written_of rows r) ≡ false) × (Contains (written_of rows r) c → ⊥)). absurd (no.1 w))
    (among_tells c (written_of rows r))

module _ (rows : List Row) (hr : IsRows rows) (spawned plan : List ℕ) (last spawns : ℕ) (alone : IsSpawnPlan rows spawned spawns)
    (keeps : KeepsSpawns rows plan) (kept : KeepsApart rows plan) (end : IsEnd rows plan last) where
  -- no row starts sooner than where only the spawns order the rows
  no_sooner : (r : ℕ) → r < length rows → start_of spawned r ≤ start_of plan r
  no_sooner r there = alone.earliest.least plan (keeps_bare rows plan keeps) r (omega (arith, there, length-bare rows))

  -- and so the rows that wrote a cown are not all done before its load, from the least start of one on
  pub busy_from : (cown : ℕ) (first : Option ℕ) → IsHeldFrom rows spawned cown first → start_or_0 first + load_of rows cown ≤ last
  busy_from cown None none = omega (arith, load_ends rows hr plan last cown kept end)
  busy_from cown (Some f) is =
      load_ends_from rows hr plan last cown kept end f
      (omega (arith, is.starts, no_sooner is.row is.below, end.none_later is.row is.below, hr.ticks_low is.row is.below))
      (λ r there w. omega (arith, is.none_sooner r there (writes_told rows cown r w), no_sooner r there))

  pub busy_ends : (busy : Busiest) → IsBusy rows spawned busy → busy.until ≤ last
  busy_ends busy is = omega (arith, is.until, is.load, busy_from busy.cown busy.from is.from)

  latest_ends : (best : Option Busiest) (count least : ℕ) → IsBusiestOf rows spawned count best → spawns ≤ last
      → tick_of (record { spawns = spawns; busiest = best }) ≤ last
  latest_ends None count least none low = omega (arith, low)
  latest_ends (Some b) count least is low = omega (arith, low, busy_ends b is.is)

-- no order ends before the tick that is told
pub least_ends : (rows : List Row) (plan : List ℕ) (last count : ℕ) (least : Least) → IsRows rows → KeepsSpawns rows plan → KeepsApart rows plan
    → IsEnd rows plan last → IsLeast rows count least → tick_of least ≤ last
least_ends rows plan last count least hr keeps kept end is = latest_ends rows hr is.spawned plan last least.spawns is.by_spawns keeps kept end least.busiest
    count 0 is.busiest (spawns_end rows plan last least.spawns keeps end (plan_span rows is.spawned least.spawns is.by_spawns))

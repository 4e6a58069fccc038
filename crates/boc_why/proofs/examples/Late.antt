-- The definitions of the least end tried on three rows: main, which takes 4 ticks; one that it spawns at tick 1 and that holds a cown for 5 ticks; and one
-- that it spawns at tick 3 and that holds another cown for 4.
use Rattle.std.proofs.Common.{◌≡◌, ℕ, zero, suc, ◌<◌, ◌≤◌, List, [], ◌∷◌, Some, None, true, false, true≢false, refl, sym, arith}
use Rattle.boc_program.specs.declared.body.EndStatus.TheVariants.{Done}
use Rattle.boc_runs.specs.declared.rows.Row.{Row}
use Rattle.boc_plans.specs.Plans.{start_of}
use Rattle.boc_order.specs.declared.least.Busiest.{Busiest}
use Rattle.boc_order.specs.Least.{IsBusy, tick_of, wrote_cown}

abbrev row : ℕ → List ℕ → ℕ → Row
row offset cowns ticks = record {
  parent = 0;
  offset = offset;
  cowns = record { items = cowns };
  ticks = ticks;
  status = Done;
  written = record { items = cowns };
}

abbrev rows : List Row
rows = row 0 [] 4 ∷ row 1 (0 ∷ []) 5 ∷ row 3 (1 ∷ []) 4 ∷ []

-- where only the spawns order them they start at these ticks
abbrev spawned : List ℕ
spawned = 0 ∷ 1 ∷ 3 ∷ []

-- the first cown is held for longer, and the second one until later
abbrev first : Busiest
first = record { cown = 0; load = 5; from = Some 1; until = 6 }

abbrev second : Busiest
second = record { cown = 1; load = 4; from = Some 3; until = 7 }

-- a third cown, which no row has, is not held at all
abbrev third : Busiest
third = record { cown = 2; load = 0; from = None; until = 0 }

first_none_sooner : (r : ℕ) → r < 3 → wrote_cown rows 0 r ≡ true → 1 ≤ start_of spawned r
first_none_sooner zero h w = absurd (true≢false (sym w))
first_none_sooner (suc zero) h w = omega arith
first_none_sooner (suc (suc zero)) h w = absurd (true≢false (sym w))
first_none_sooner (suc (suc (suc r))) h w = absurd (omega (arith, h))

pub first_is : IsBusy rows spawned first
first_is = record {
  load = refl;
  from = record { row = 1; below = omega arith; is_one = refl; starts = refl; none_sooner = first_none_sooner };
  until = refl;
}

second_none_sooner : (r : ℕ) → r < 3 → wrote_cown rows 1 r ≡ true → 3 ≤ start_of spawned r
second_none_sooner zero h w = absurd (true≢false (sym w))
second_none_sooner (suc zero) h w = absurd (true≢false (sym w))
second_none_sooner (suc (suc zero)) h w = omega arith
second_none_sooner (suc (suc (suc r))) h w = absurd (omega (arith, h))

pub second_is : IsBusy rows spawned second
second_is = record {
  load = refl;
  from = record { row = 2; below = omega arith; is_one = refl; starts = refl; none_sooner = second_none_sooner };
  until = refl;
}

third_none : (r : ℕ) → r < 3 → wrote_cown rows 2 r ≡ false
third_none zero h = refl
third_none (suc zero) h = refl
third_none (suc (suc zero)) h = refl
third_none (suc (suc (suc r))) h = absurd (omega (arith, h))

pub third_is : IsBusy rows spawned third
third_is = record { load = refl; from = third_none; until = refl }

-- the tick that is told is that until which the second cown is busy, though the first is held for longer
pub tick_told : tick_of (record { spawns = 6; busiest = Some second }) ≡ 7
tick_told = refl

-- where the spawns need longer, their tick is told
pub spawns_told : tick_of (record { spawns = 9; busiest = Some second }) ≡ 9
spawns_told = refl

pub no_cown_told : tick_of (record { spawns = 9; busiest = None }) ≡ 9
no_cown_told = refl

-- The rules of turns tried on rows: main spawns two rows that hold one cown, and use it for some of their ticks.
use Rattle.std.proofs.Common.{◌≡◌, inl, ℕ, zero, suc, ◌+◌, ◌-◌, ◌<◌, ◌≤◌, true, false, List, [], ◌∷◌, Option, Some, None, refl}
use Rattle.std.proofs.Common.{lit<, arith}
use Rattle.boc_program.specs.declared.body.EndStatus.TheVariants.{Done}
use Rattle.boc_runs.specs.declared.rows.Row.{Row}
use Rattle.boc_plans.specs.Plans.{ConflictOn}
use Rattle.boc_uses.specs.declared.uses.Use.{Use}
use Rattle.boc_turns.specs.Pace.{made_by, over_by, wait_of}
use Rattle.boc_turns.specs.Turns.{use_of, Times, over, IsTurn, KeepsTurn, KeepsTurns, IsOverBy, among}

abbrev row : ℕ → List ℕ → ℕ → Row
row offset cowns ticks = record {
  parent = 0;
  offset = offset;
  cowns = record { items = cowns };
  ticks = ticks;
  status = Done;
  written = record { items = cowns };
}

abbrev rows : List Row
rows = row 0 [] 3 ∷ row 1 (0 ∷ []) 4 ∷ row 2 (0 ∷ []) 4 ∷ []

-- the first row needs the cown's value from its second tick to its third, the second row at its third tick alone
abbrev first_use : Use
first_use = record { first = 2; last = 3; needed = true }

abbrev second_use : Use
second_use = record { first = 3; last = 3; needed = true }

abbrev uses : List (Option Use)
uses = Some first_use ∷ Some second_use ∷ []

pub first_is : use_of rows uses 1 0 ≡ Some first_use
first_is = refl

pub second_is : use_of rows uses 2 0 ≡ Some second_use
second_is = refl

-- main uses nothing, and no row uses a cown that it has not
pub none_of_main : use_of rows uses 0 0 ≡ None
none_of_main = refl

pub none_of_another : use_of rows uses 1 1 ≡ None
none_of_another = refl

-- the first row starts at tick 1, and has made its third tick at tick 4; the second one starts at tick 2, and its third tick waits for nothing then
pub first_over : over_by 1 [] 0 first_use ≡ 4
first_over = refl

pub second_ends : made_by 2 (wait_of second_use 4 ∷ []) 4 ≡ 6
second_ends = refl

-- if the first turn were over at tick 7, the second row's third tick would wait until then
pub second_waits : made_by 2 (wait_of second_use 7 ∷ []) 3 ≡ 8
second_waits = refl

-- but not the one before it
pub before_it : made_by 2 (wait_of second_use 7 ∷ []) 2 ≡ 4
before_it = refl

-- without a need the body goes on, and its turn is over a tick after those before it
pub beside : over_by 2 [] 7 (record second_use { needed = false }) ≡ 8
beside = refl

conflict : ConflictOn rows 0 1 2
conflict = record { first = (0, lit< tt, refl); second = (0, lit< tt, refl); wrote = inl (0, lit< tt, refl) }

-- times at which each row makes its ticks without a wait, from these starts on, and the second turn begins then
abbrev times : ℕ → Times
times begun = record { made = λ r k. r + k; begun = λ r c. elim r [ zero ↦ 0 | suc q ↦ elim q [ zero ↦ 2 | suc p ↦ begun ] ] }

second_turn : IsTurn rows uses (among (0 ∷ [])) 2 0 second_use
second_turn = record { is_relaxed = refl; is_use = refl }

-- the second turn may not begin before the first one is over
pub not_too_early : KeepsTurns rows uses (among (0 ∷ [])) (times 3) → ⊥
not_too_early keeps =
    let early : 4 ≤ 3 = ((keeps 2 (lit< tt)).turns 0 second_use second_turn).after 1 first_use (lit< tt) conflict refl in
    omega (arith, early)

-- nor may it begin after the tick of the row's first use, which needs it
pub not_too_late : KeepsTurns rows uses (among (0 ∷ [])) (times 5) → ⊥
not_too_late keeps =
    let late : 6 ≤ 5 = ((keeps 2 (lit< tt)).turns 0 second_use second_turn).waits refl in
    omega (arith, late)

-- it begins at tick 4
pub second_keeps : KeepsTurn rows uses (times 4) 2 0 second_use
second_keeps = record { after = before; from_first = omega arith; waits = λ need. omega arith }
  where
    before : (a : ℕ) (other : Use) → a < 2 → ConflictOn rows 0 a 2 → use_of rows uses a 0 ≡ Some other → over (times 4) a 0 other ≤ 4
    before zero other h on is = absurd cc
    before (suc zero) other h on is = (let same : first_use ≡ other = cc in rw (← same) (omega arith))
    before (suc (suc a)) other h on is = absurd (omega (arith, h))

-- the second row ends at tick 6, and not at 5
pub ends_at_six : IsOverBy rows uses (among (0 ∷ [])) (times 4) 5 2 → ⊥
ends_at_six by = (let late : 6 ≤ 5 = by.row in omega (arith, late))

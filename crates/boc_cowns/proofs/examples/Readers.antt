-- The definitions of hot cowns tried on five rows: main, one that writes a cown, one that reads it and writes another, one that reads the first, and
-- one that reads the second.
use Rattle.std.proofs.Common.{◌≡◌, ℕ, List, [], ◌∷◌, Option, Some, None, true, false, refl}
use Rattle.boc_program.specs.declared.body.EndStatus.TheVariants.{Done}
use Rattle.boc_runs.specs.declared.rows.Row.{Row}
use Rattle.boc_plans.specs.declared.chain.ChainStep.{ChainStep}
use Rattle.boc_plans.specs.declared.chain.Via.TheVariants.{Spawn, Order, Last}
use Rattle.boc_plans.specs.declared.sharing.Sharing.TheVariants.{Exclusive, SharedReads}
use Rattle.boc_plans.specs.Seen.{seen}
use Rattle.boc_order.specs.Least.{load_of}
use Rattle.boc_cowns.specs.Hot.{chain_through, hands_cown, rows_that_wrote, rows_with, step_hands, wait_of, waited_for}

abbrev row : ℕ → List ℕ → List ℕ → ℕ → Row
row offset cowns written ticks = record {
  parent = 0;
  offset = offset;
  cowns = record { items = cowns };
  ticks = ticks;
  status = Done;
  written = record { items = written };
}

abbrev rows : List Row
rows = row 0 [] [] 4 ∷ row 1 (0 ∷ []) (0 ∷ []) 5 ∷ row 2 (0 ∷ 1 ∷ []) (1 ∷ []) 3 ∷ row 3 (0 ∷ []) [] 2 ∷ row 4 (1 ∷ []) [] 6 ∷ []

-- three rows have the first cown, one of them wrote it, and no row has a third
pub with_first : rows_with rows 0 ≡ 3
with_first = refl

pub first_written : rows_that_wrote rows 0 ≡ 1
first_written = refl

pub with_third : rows_with rows 2 ≡ 0
with_third = refl

-- ---- each cown is held by one row at a time

-- it is held while a row has it
pub first_held : load_of (seen Exclusive rows) 0 ≡ 10
first_held = refl

pub second_held : load_of (seen Exclusive rows) 1 ≡ 9
second_held = refl

-- row 1 starts at tick 1 and ends at 6, row 2 at 9, row 3 at 11, and row 4 at 15
abbrev plan : List ℕ
plan = 0 ∷ 1 ∷ 6 ∷ 9 ∷ 9 ∷ []

abbrev after : List (Option ℕ)
after = None ∷ None ∷ Some 1 ∷ Some 2 ∷ Some 2 ∷ []

-- a row that starts at its spawn waits for nothing
pub no_wait : wait_of (seen Exclusive rows) plan 1 ≡ 0
no_wait = refl

-- row 2 waits from tick 2 to tick 6, and row 3 from tick 3 to tick 9
pub waits_for_first : waited_for (seen Exclusive rows) plan after 0 ≡ 10
waits_for_first = refl

-- row 4 waits from tick 4 to tick 9; that row 2 waits for row 1 is not for the second cown
pub waits_for_second : waited_for (seen Exclusive rows) plan after 1 ≡ 5
waits_for_second = refl

abbrev steps : List ChainStep
steps =
    record { row = 0; via = Spawn; weight = 1 } ∷ record { row = 1; via = Order; weight = 5 } ∷ record { row = 2; via = Order; weight = 3 }
    ∷ record { row = 4; via = Last; weight = 6 } ∷ []

-- row 1 hands on the first cown, and row 2 the second
pub through_first : chain_through (seen Exclusive rows) steps 0 ≡ 5
through_first = refl

pub through_second : chain_through (seen Exclusive rows) steps 1 ≡ 3
through_second = refl

-- a spawn hands on no cown, nor does the end
pub spawn_hands_none : step_hands (seen Exclusive rows) steps 0 0 ≡ false
spawn_hands_none = refl

pub end_hands_none : step_hands (seen Exclusive rows) steps 1 3 ≡ false
end_hands_none = refl

-- ---- what was only read is shared

-- two readers are not ordered, and a reader comes after the writer
pub readers_share : hands_cown (seen SharedReads rows) 0 2 3 ≡ false
readers_share = refl

pub readers_are_exclusive : hands_cown (seen Exclusive rows) 0 2 3 ≡ true
readers_are_exclusive = refl

pub writer_first : hands_cown (seen SharedReads rows) 0 1 3 ≡ true
writer_first = refl

-- it is held by one alone while a row has it that wrote it
pub first_held_alone : load_of (seen SharedReads rows) 0 ≡ 5
first_held_alone = refl

pub second_held_alone : load_of (seen SharedReads rows) 1 ≡ 3
second_held_alone = refl

-- rows 2 and 3 wait for row 1, from ticks 2 and 3 to tick 6
pub waits_shared : waited_for (seen SharedReads rows) (0 ∷ 1 ∷ 6 ∷ 6 ∷ 9 ∷ []) (None ∷ None ∷ Some 1 ∷ Some 1 ∷ Some 2 ∷ []) 0 ≡ 7
waits_shared = refl

-- The definitions of edits tried on rows: two deposits and a transfer between two accounts.
use Rattle.std.proofs.Common.{◌≡◌, ℕ, zero, suc, ◌<◌, ◌≤◌, List, [], ◌∷◌, refl, inl, inr, arith}
use Rattle.boc_program.specs.declared.body.EndStatus.TheVariants.{Done}
use Rattle.boc_runs.specs.declared.rows.Row.{Row}
use Rattle.boc_runs.specs.Rows.{IsLast, parent_of, offset_of, edited, Fits}
use Rattle.boc_runs.specs.Changes.{moved, part_of, without}
use Rattle.boc_plans.specs.Plans.{work_of}
use Rattle.boc_plans.specs.declared.edit.Edit.{Edit}
use Rattle.boc_plans.specs.declared.edit.Change.TheVariants.{Offset}
use Rattle.boc_plans.specs.declared.edit.EditFault.TheVariants.{BelowSpawn, NoRow, NoParent, NotBetween}
use Rattle.boc_plans.specs.Edits.{AreEdited, IsLeastTicks, IsBelowSpawn, IsFirstUnfit, IsEditFault, IsLeastOffset, takes}
use Rattle.boc_runs.proofs.Editing.{last_edited}

abbrev row : ℕ → List ℕ → ℕ → Row
row offset cowns ticks = record {
  parent = 0;
  offset = offset;
  cowns = record { items = cowns };
  ticks = ticks;
  status = Done;
  written = record { items = cowns };
}

abbrev transfer : List Row
transfer = row 0 [] 4 ∷ row 2 (0 ∷ []) 2 ∷ row 3 (0 ∷ 1 ∷ []) 3 ∷ row 4 (1 ∷ []) 2 ∷ []

-- the transfer takes one tick
pub shorter : edited transfer 2 1 ≡ row 0 [] 4 ∷ row 2 (0 ∷ []) 2 ∷ row 3 (0 ∷ 1 ∷ []) 1 ∷ row 4 (1 ∷ []) 2 ∷ []
shorter = refl

pub less_work : work_of (edited transfer 2 1) ≡ 9
less_work = refl

-- there is no such row
pub none : edited transfer 4 1 ≡ transfer
none = refl

none_above : (a : ℕ) → a < 4 → offset_of transfer a ≤ 4
none_above zero h = omega arith
none_above (suc zero) h = omega arith
none_above (suc (suc zero)) h = omega arith
none_above (suc (suc (suc zero))) h = omega arith
none_above (suc (suc (suc (suc a)))) h = absurd (omega arith)

last_of_main : IsLast transfer 4 0 4
last_of_main = record { none_above = λ a above below same. none_above a below; reached = inr (3, omega arith, omega arith, refl, refl) }

-- main can't end before it spawned its last child
pub main_needs_four : IsLeastTicks transfer 0 4
main_needs_four = record { last = 4; is_last = last_of_main; is = refl }

pub three_are_too_few : IsBelowSpawn transfer 0 3
three_are_too_few = record { there = omega arith; least = 4; is_least = main_needs_four; below = omega arith }

last_of_child : IsLast transfer 4 2 0
last_of_child = record { none_above = λ a above below same. no_child a below same; reached = inl refl }
  where
    no_child : (a : ℕ) → a < 4 → parent_of transfer a ≡ 2 → offset_of transfer a ≤ 0
    no_child zero h same = omega arith
    no_child (suc zero) h same = absurd (omega arith)
    no_child (suc (suc zero)) h same = absurd (omega arith)
    no_child (suc (suc (suc zero))) h same = absurd (omega arith)
    no_child (suc (suc (suc (suc a)))) h same = absurd (omega arith)

-- a row without children can take one tick
pub child_needs_one : IsLeastTicks transfer 2 1
child_needs_one = record { last = 0; is_last = last_of_child; is = refl }

abbrev spawned_at : ℕ → ℕ → Edit
spawned_at row offset = record { row = row; change = Offset offset }

pub one_tick_fits : Fits transfer 2 1
one_tick_fits = record { there = omega arith; low = omega arith; high = omega arith; last = 0; is_last = last_of_child; covers = omega arith }

-- an edit fits a second time
pub same_edit_twice : AreEdited transfer (takes 2 1 ∷ takes 2 1 ∷ []) (edited transfer 2 1)
same_edit_twice = (edited transfer 2 1, (one_tick_fits, refl), (edited transfer 2 1, (again, refl), refl))
  where
    again : Fits (edited transfer 2 1) 2 1
    again = record {
      there = omega arith;
      low = omega arith;
      high = omega arith;
      last = 0;
      is_last = last_edited transfer 2 1 4 2 0 last_of_child;
      covers = omega arith;
    }

-- of several edits of one row the last counts, and edits of other rows stay beside them
pub last_edit_counts : edited (edited (edited transfer 2 1) 1 5) 2 2 ≡ row 0 [] 4 ∷ row 2 (0 ∷ []) 5 ∷ row 3 (0 ∷ 1 ∷ []) 2 ∷ row 4 (1 ∷ []) 2 ∷ []
last_edit_counts = refl

-- the second edit is the first that does not fit, whatever the third is
pub second_does_not_fit : IsFirstUnfit transfer (takes 2 1 ∷ takes 0 3 ∷ takes 4 1 ∷ []) 2 BelowSpawn
second_does_not_fit = record {
  before = takes 2 1 ∷ [];
  edit = takes 0 3;
  after = takes 4 1 ∷ [];
  split = refl;
  number_is = refl;
  made = edited transfer 2 1;
  edited = (edited transfer 2 1, (one_tick_fits, refl), refl);
  wrong = record {
    there = omega arith;
    least = 4;
    is_least = record { last = 4; is_last = last_edited transfer 2 1 4 0 4 last_of_main; is = refl };
    below = omega arith;
  };
}

-- nor does an edit of a row that isn't there
pub no_such_row : IsFirstUnfit transfer (takes 4 1 ∷ []) 1 NoRow
no_such_row = record { before = []; edit = takes 4 1; after = []; split = refl; number_is = refl; made = transfer; edited = refl; wrong = omega arith }

-- main is spawned by no row
pub main_has_no_parent : IsEditFault transfer (spawned_at 0 1) NoParent
main_has_no_parent = (refl, omega arith)

-- the last child can stand at no other tick than its own: its elder sibling stands at 3, and main ends at 4
pub last_child_stays : IsEditFault transfer (spawned_at 3 3) NotBetween
last_child_stays = record { child = omega arith; there = omega arith; unfit = λ f. omega (arith, f.after_elder 2 (omega arith) (omega arith) refl) }

pub last_child_is_not_later : IsEditFault transfer (spawned_at 3 5) NotBetween
last_child_is_not_later = record { child = omega arith; there = omega arith; unfit = λ f. omega (arith, f.within) }

-- the first deposit can be spawned a tick earlier
pub earlier : moved transfer 1 1 ≡ row 0 [] 4 ∷ row 1 (0 ∷ []) 2 ∷ row 3 (0 ∷ 1 ∷ []) 3 ∷ row 4 (1 ∷ []) 2 ∷ []
earlier = refl

none_elder : (a : ℕ) → 0 < a → a < 1 → ⊥
none_elder a some before = omega (arith, some, before)

pub first_child_at_one : IsLeastOffset transfer 1 1
first_child_at_one = record {
  elder = 0;
  is_elder = record { none_above = λ a some before same. absurd (none_elder a some before); reached = inl refl };
  is = refl;
}

-- half of three ticks are two, and a third of three is one
pub half_of_three : part_of 1 2 3 ≡ 2
half_of_three = refl

pub third_of_three : part_of 1 3 3 ≡ 1
third_of_three = refl

-- without the first account the transfer is ordered with the second deposit alone
pub freed : without 0 transfer ≡ row 0 [] 4 ∷ row 2 [] 2 ∷ row 3 (1 ∷ []) 3 ∷ row 4 (1 ∷ []) 2 ∷ []
freed = refl

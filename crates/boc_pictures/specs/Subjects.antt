-- What pictures show of a plan.
use Rattle.std.specs.Prelude.{◌≡◌, ℕ, ◌+◌, ◌<◌, cond, ◌==◌, List, [], ◌∷◌, length, None, Some, slice_get}
use Rattle.boc_runs.specs.declared.rows.Row.{Row}
use Rattle.boc_runs.specs.Rows.{parent_of, offset_of}
use Rattle.boc_plans.specs.declared.chain.ChainStep.{ChainStep}
use Rattle.boc_plans.specs.declared.sharing.Sharing.{Sharing}
use Rattle.boc_plans.specs.Plans.{start_of, end_of}
use Rattle.boc_plans.specs.Seen.{seen}
use Rattle.boc_names.specs.declared.names.Names.{Names}
use Rattle.boc_order.specs.declared.report.Profile.{Profile}
use Rattle.boc_order.specs.Placed.{IsTight}
use Rattle.boc_order.specs.Profiles.{IsProfileOf}
use Rattle.boc_pictures.specs.declared.subject.Shown.{Shown}
use Rattle.boc_pictures.specs.declared.subject.Subject.{Subject}

-- what the last of these steps at a row weighs, and so many ticks where none is at it
abbrev pub weight_from : ℕ → List ChainStep → ℕ → ℕ
weight_from ticks [] row = ticks
weight_from ticks (step ∷ steps) row = weight_from (cond (step.row == row) step.weight ticks) steps row

-- how many ticks of a row a chain goes through: what its step there weighs, and none where it has no step there (its rows rise, so it has one at most)
abbrev pub through_of : List ChainStep → ℕ → ℕ
through_of steps row = weight_from 0 steps row

-- Row r is shown: from its start in a plan to its end. It is spawned so many ticks after its parent starts as it is offset; it waits for the end of the
-- row for which it is late, of several the least, and for none where it starts as it is spawned. Main is spawned at tick 0, and waits for none.
pub record IsShownAs (rows : List Row) (starts : List ℕ) (steps : List ChainStep) (r : ℕ) (one : Shown) : Type 0 where
  pub number : one.row ≡ r
  pub start_is : one.start ≡ start_of starts r
  pub end_is : one.end ≡ end_of rows starts r
  pub main_spawned : r ≡ 0 → one.spawned ≡ 0
  pub spawned : 0 < r → one.spawned ≡ start_of starts (parent_of rows r) + offset_of rows r
  pub main_waits : r ≡ 0 → one.after ≡ None
  pub waits : 0 < r → IsTight rows starts r one.after
  pub through : one.through ≡ through_of steps r

-- each row of a plan is shown, at its number
pub record AreShown (rows : List Row) (starts : List ℕ) (steps : List ChainStep) (shown : List Shown) : Type 0 where
  pub whole : length shown ≡ length rows
  pub at : (r : ℕ) (one : Shown) → slice_get shown r ≡ Some one → IsShownAs rows starts steps r one

-- What is shown is of these rows and names, and of what plans see of the rows: their profile, which is their work, the span and the chain, and each row as
-- it stands in the earliest plan.
pub record IsSubject (list : List Row) (names : Names) (sharing : Sharing) (subject : Subject) : Type 0 where
  pub rows_are : subject.rows ≡ list
  pub names_are : subject.names ≡ names
  pub sharing_is : subject.sharing ≡ sharing
  pub profile : Profile
  pub is : IsProfileOf (seen sharing list) profile
  pub work : subject.work ≡ profile.work
  pub span : subject.span ≡ profile.span
  pub chain : subject.chain.items ≡ profile.chain.steps.items
  pub shown : AreShown (seen sharing list) profile.starts.items profile.chain.steps.items subject.shown.items

-- Rows about which is asked.
use Rattle.std.specs.Prelude.{◌≡◌, ℕ, ◌-◌, min, List, [], ◌∷◌, length, take, Result, Ok, Err}
use Rattle.boc_runs.specs.declared.rows.Row.{Row}
use Rattle.boc_plans.specs.declared.edit.Edit.{Edit}
use Rattle.boc_plans.specs.declared.sharing.Sharing.{Sharing}
use Rattle.boc_plans.specs.Edits.{AreEdited, IsFirstUnfit}
use Rattle.boc_runs.specs.declared.siblings.Siblings.{Siblings}
use Rattle.boc_runs.specs.Rows.{IsRows}
use Rattle.boc_runs.specs.Siblings.{AreSiblings}
use Rattle.boc_plans.specs.Seen.{seen}
use Rattle.boc_order.specs.declared.plan.Earliest.{Earliest}
use Rattle.boc_order.specs.Room.{HasRoom}
use Rattle.boc_order.specs.Standing.{IsPlanOf}
use Rattle.boc_order.specs.Waits.{AreWaits}
use Rattle.boc_sweep.specs.Lasts.{HasLasts}
use Rattle.boc_whatif.specs.declared.edits.Unfit.{Unfit}

-- the rows as they are edited, how they share cowns, and how many rows the last edit computed again
pub record Asked : Type 0 where
  pub rows : List Row
  pub sharing : Sharing
  pub touched : ℕ

-- what is kept beside the rows: the offset of each row's last child, who are siblings, the rows that each waits for, and the earliest plan with room
-- for all rows
pub record IsUpToDate (rows : List Row) (sharing : Sharing) (offsets : List ℕ) (siblings : Siblings) (waits : List (List ℕ)) (plan : Earliest)
    : Type 0 where
  pub shape : IsRows rows
  pub lasts : HasLasts rows offsets
  pub siblings_are : AreSiblings rows siblings
  pub waits_are : AreWaits (seen sharing rows) waits
  pub placed : IsPlanOf (seen sharing rows) plan
  pub room : HasRoom plan (length rows)

-- the least row that the edits change; where they change none, this number
abbrev pub least_edited : ℕ → List Edit → ℕ
least_edited none [] = none
least_edited none (edit ∷ edits) = min edit.row (least_edited none edits)

-- the edits fit, one after the other; these are the rows after them, and this is the least row that they change, or the number of rows
pub record AreMade (rows : List Row) (edits : List Edit) (after : List Row) (from : ℕ) : Type 0 where
  pub edited : AreEdited rows edits after
  pub from_is : from ≡ least_edited (length rows) edits

-- all edits are made; or those before the first that does not fit
abbrev pub HasMade : List Row → List Edit → List Row → ℕ → Result (Unit {0}) Unfit → Type 0
HasMade rows edits after from (Ok done) = AreMade rows edits after from
HasMade rows edits after from (Err unfit) =
    AreMade rows (take (unfit.number - 1) edits) after from × IsFirstUnfit rows edits unfit.number unfit.fault

-- A step from front to front as code.
use Rattle.std.specs.Prelude.{◌≡◌, ◌≢◌, ℕ, ◌<◌, ◌≤◌, List, [], ◌∷◌, ◌++◌, length, map, Some, slice_get}
use Rattle.boc_program.specs.declared.program.Program.{Program}
use Rattle.boc_program.specs.Programs.{cown_count}
use Rattle.boc_runs.specs.Serial.{Behaviour, behaviour_of, after_outputs}
use Rattle.boc_eval.specs.Queue.{QueueFits}
use Rattle.boc_eval.specs.Wishes.{wish_of}
use Rattle.boc_fronts.specs.Fronts as fronts
use Rattle.boc_fronts.specs.Steps.{IsOpening, IsStep, IsArranged}
use Rattle.boc_front_rows.specs.declared.arranging.Arranged.{Arranged}
use Rattle.boc_front_rows.specs.declared.row.Front.{Front}
use Rattle.boc_front_rows.specs.Claims.{AreSpawned}
use Rattle.boc_front_rows.specs.Lists.{list_at}
use Rattle.boc_front_rows.specs.Rows.{Plain, plains, AreIn, AreLow}
use Rattle.boc_front_rows.specs.Seen.{front_of}
use Rattle.boc_all_ends.specs.declared.turn.Turn.{Turn}
use Rattle.boc_all_ends.specs.Runs.{meant_at}

-- each behaviour of these lists fits the program
abbrev pub ListsFit : Program → List (List Behaviour) → Type 0
ListsFit p lists = (n : ℕ) → QueueFits p (list_at lists n)

-- further lists may have been added after the others
abbrev pub Grows : List (List Behaviour) → List (List Behaviour) → Type 0
Grows old new = (more : List (List Behaviour)) × (new ≡ old ++ more)

-- a front whose lists of wishes are there, with at most so many live rows
pub record IsKept (lists : List (List Behaviour)) (most : ℕ) (f : Front) : Type 0 where
  pub there : AreIn lists (plains f.live.items)
  pub few : length f.live.items ≤ most

-- a front that can make a step at a place
pub record CanStep (p : Program) (lists : List (List Behaviour)) (f : Front) (place : ℕ) : Type 0 where
  pub there : AreIn lists (plains f.live.items)
  pub low : AreLow (length f.live.items) (plains f.live.items)
  pub long : length f.values.items ≡ cown_count p.cowns
  pub row : Plain
  pub is : slice_get (plains f.live.items) place ≡ Some row
  pub some : list_at lists row.wishes ≢ []

-- The next behaviour of the row at a place ran at once on the values: its wishes, and the values then.
pub record TakesTurn (p : Program) (lists : List (List Behaviour)) (f : Front) (place : ℕ) (t : Turn) : Type 0 where
  pub row : Plain
  pub is : slice_get (plains f.live.items) place ≡ Some row
  pub wish : Behaviour
  pub first : list_at lists row.wishes ≡ wish ∷ list_at lists t.rest
  pub rest_there : t.rest < length lists
  pub cowns_are : t.cowns.items ≡ wish.cowns
  pub wishes_are : map wish_of t.wishes.items ≡ (meant_at p wish f.values.items).wishes
  pub values_are : t.values.items ≡ after_outputs f.values.items wish.cowns (meant_at p wish f.values.items).outputs
  pub fits : QueueFits p (map behaviour_of (map wish_of t.wishes.items))

-- the front after a step at a place, with its live rows arranged
pub record Steps (p : Program) (old : List (List Behaviour)) (f : Front) (place : ℕ) (new : List (List Behaviour)) (g : Front) : Type 0 where
  pub stepped : fronts.Front
  pub order : List ℕ
  pub step : IsStep p (front_of old f) place stepped
  pub arranged : IsArranged stepped order (front_of new g)

-- the same, with the places that the live rows had before they were arranged
pub record StepsSo (p : Program) (old : List (List Behaviour)) (f : Front) (place : ℕ) (new : List (List Behaviour)) (a : Arranged) : Type 0 where
  pub stepped : fronts.Front
  pub step : IsStep p (front_of old f) place stepped
  pub arranged : IsArranged stepped a.kept.items (front_of new a.front)

-- the front of main alone, arranged
pub record Opens (p : Program) (lists : List (List Behaviour)) (a : Arranged) : Type 0 where
  pub opening : fronts.Front
  pub opens : IsOpening p opening
  pub arranged : IsArranged opening a.kept.items (front_of lists a.front)

-- a front, and what it is after the spawn of a behaviour by the row at a place
pub record Spawning (p : Program) (a b : List (List Behaviour)) (f g : Front) (place rest wishes : ℕ) (wish : Behaviour) (r : Plain) : Type 0 where
  pub there : AreIn a (plains f.live.items)
  pub is : slice_get (plains f.live.items) place ≡ Some r
  pub first : list_at a r.wishes ≡ wish ∷ list_at a rest
  pub rest_there : rest < length a
  pub grows : Grows a b
  pub added : list_at b wishes ≡ map behaviour_of (meant_at p wish f.values.items).wishes
  pub values_are : g.values.items ≡ after_outputs f.values.items wish.cowns (meant_at p wish f.values.items).outputs
  pub spawned : AreSpawned wish.cowns place rest wishes (plains f.live.items) (plains g.live.items)

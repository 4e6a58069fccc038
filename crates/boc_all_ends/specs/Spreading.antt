-- The fronts to which one spawn leads from others, as code.
use Rattle.std.specs.Prelude.{◌≡◌, ◌≢◌, ◌⊎◌, ℕ, ◌+◌, ◌<◌, ◌≤◌, List, [], length, map, Some, slice_get}
use Rattle.std.specs.List.{Contains}
use Rattle.boc_program.specs.declared.program.Program.{Program}
use Rattle.boc_program.specs.Programs.{cown_count}
use Rattle.boc_runs.specs.Serial.{Behaviour}
use Rattle.boc_fronts.specs.Fronts as fronts
use Rattle.boc_closed_sets.specs.Enough.{IsEnough}
use Rattle.boc_front_rows.specs.declared.row.Front.{Front}
use Rattle.boc_front_rows.specs.Lists.{list_at}
use Rattle.boc_front_rows.specs.Rows.{Plain, plains, AreLow}
use Rattle.boc_front_rows.specs.Seen.{front_of}
use Rattle.boc_all_ends.specs.Stepping.{IsKept}

-- fronts, where the lists of wishes are these
abbrev pub seen : List (List Behaviour) → List Front → List fronts.Front
seen lists fs = map (front_of lists) fs

-- each of these fronts has its lists there, and at most so many live rows
abbrev pub AreKept : List (List Behaviour) → ℕ → List Front → Type 0
AreKept lists most fs = (f : Front) → Contains fs f → IsKept lists most f

-- a front of so many rows, each live row of which has a wish
pub record IsReady (p : Program) (lists : List (List Behaviour)) (rows : ℕ) (f : Front) : Type 0 where
  pub kept : IsKept lists rows f
  pub low : AreLow (length f.live.items) (plains f.live.items)
  pub long : length f.values.items ≡ cown_count p.cowns
  pub some : (i : ℕ) (r : Plain) → slice_get (plains f.live.items) i ≡ Some r → list_at lists r.wishes ≢ []

-- a front was put among others, unless an equal one was there
pub record IsPut (front : Front) (old new : List Front) : Type 0 where
  pub stays : (f : Front) → Contains old f → Contains new f
  pub only : (f : Front) → Contains new f → Contains old f ⊎ (front ≡ f)
  pub same : Front
  pub there : Contains new same
  pub alike : (lists : List (List Behaviour)) → front_of lists same ≡ front_of lists front
  pub as_kept : (lists : List (List Behaviour)) (most : ℕ) → IsKept lists most front → IsKept lists most same

-- a search makes the steps of a front at these places: they are free, and enough if there is a live row
pub record AreToTry (p : Program) (front : fronts.Front) (places : List ℕ) : Type 0 where
  pub free : (i : ℕ) → Contains places i → fronts.IsFree front i
  pub enough : front.live ≢ [] → IsEnough p front places

-- to each of these places of a front there is one of these fronts to which the step there leads
abbrev pub HasSteps : Program → fronts.Front → List ℕ → List (List Behaviour) → List Front → Type 0
HasSteps p front places lists fs = (i : ℕ) → Contains places i → (g : Front) × Contains fs g × fronts.Leads p front i (front_of lists g)

-- the fronts to which the steps of a front at these places lead were put among others
pub record IsSpreadAt (p : Program) (front : fronts.Front) (places : List ℕ) (lists : List (List Behaviour)) (old new : List Front) : Type 0 where
  pub stays : (g : Front) → Contains old g → Contains new g
  pub only : (g : Front) → Contains new g → Contains old g ⊎ ((i : ℕ) × Contains places i × fronts.Leads p front i (front_of lists g))
  pub all : HasSteps p front places lists new

-- the same at the places that are to be tried
pub record IsSpread (p : Program) (front : fronts.Front) (lists : List (List Behaviour)) (old new : List Front) : Type 0 where
  pub places : List ℕ
  pub to_try : AreToTry p front places
  pub at : IsSpreadAt p front places lists old new

-- the same of several fronts
pub record AreSpread (p : Program) (fs : List fronts.Front) (lists : List (List Behaviour)) (new : List Front) : Type 0 where
  pub only : (g : Front) → Contains new g
      → (f : fronts.Front) × (i : ℕ) × Contains fs f × fronts.IsFree f i × fronts.Leads p f i (front_of lists g)
  pub all : (f : fronts.Front) → Contains fs f → f.live ≢ [] → (places : List ℕ) × IsEnough p f places × HasSteps p f places lists new

-- Lines of rows, as rows come and go.
use Rattle.std.specs.Prelude.{◌≡◌, ◌≢◌, ◌⊎◌, ◌<◌, ◌≤◌, ℕ, Bool, true, false, List, [], Option, Some, None, slice_get}
use Rattle.std.specs.List.{Contains}
use Rattle.std.specs.Option.{option_map_or}
use Rattle.boc_eager.specs.declared.line.Line.{Line}

-- a list has x and what it had
pub record Adds {K : Type 0} (old new : List K) (x : K) : Type 0 where
  pub here : Contains new x
  pub stays : (y : K) → Contains old y → Contains new y
  pub was : (y : K) → Contains new y → (y ≡ x) ⊎ Contains old y

-- the row stands behind the one in front
pub record StandsBehind (old new : Line) (row : ℕ) : Type 0 where
  pub front : ℕ
  pub is_front : old.front ≡ Some front
  pub lower : front < row
  pub stays : new.front ≡ Some front
  pub joins : Adds old.behind.keys new.behind.keys row

-- the row stands in front, and one that stood there has no lower number
pub record StandsInFront (old new : Line) (row : ℕ) : Type 0 where
  pub front : new.front ≡ Some row
  pub none_lower : (front : ℕ) → old.front ≡ Some front → row ≤ front
  pub behind : new.behind.keys ≡ old.behind.keys

-- the row has come in line, in front or not
abbrev pub IsJoined : Line → Line → ℕ → Bool → Type 0
IsJoined old new row true = StandsInFront old new row
IsJoined old new row false = StandsBehind old new row

-- the row was in front; the next one stands there now, the lowest of those that were behind
pub record IsLeft (old new : Line) (row next : ℕ) : Type 0 where
  pub was_front : old.front ≡ Some row
  pub front : new.front ≡ Some next
  pub was_behind : Contains old.behind.keys next
  pub lowest : (r : ℕ) → Contains new.behind.keys r → next < r
  pub stays : (r : ℕ) → Contains old.behind.keys r → (r ≡ next) ⊎ Contains new.behind.keys r
  pub was : (r : ℕ) → Contains new.behind.keys r → Contains old.behind.keys r

-- nobody else comes to the front: the row was not there, or no row was behind it
pub record IsLastLeft (old new : Line) (row : ℕ) : Type 0 where
  pub behind : new.behind.keys ≡ old.behind.keys
  pub front : ((old.front ≡ Some row) × (new.front ≡ None)) ⊎ ((old.front ≢ Some row) × (new.front ≡ old.front))
  pub none_behind : old.front ≡ Some row → (r : ℕ) → Contains old.behind.keys r → ⊥

-- ---- several lines

-- the row in front of a line
abbrev pub front_of : List Line → ℕ → Option ℕ
front_of lines k = option_map_or (λ line. line.front) (slice_get lines k) None

-- the rows behind it
abbrev pub behind_of : List Line → ℕ → List ℕ
behind_of lines k = option_map_or (λ line. line.behind.keys) (slice_get lines k) []

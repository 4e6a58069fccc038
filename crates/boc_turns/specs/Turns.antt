-- Rows that hold some cowns only while they use them: the rules of turns, the earliest times that keep them, and their end.
use Rattle.std.specs.Prelude.{◌≡◌, ◌==◌, ℕ, ◌+◌, ◌-◌, ◌<◌, ◌≤◌, nat_eq, Bool, true, false, cond, List, [], ◌∷◌, length, take, drop, Option, Some, None}
use Rattle.std.specs.List.{list_any, sum_by}
use Rattle.boc_runs.specs.declared.rows.Row.{Row}
use Rattle.boc_runs.specs.Rows.{offset_of, ticks_of, cowns_of}
use Rattle.boc_runs.specs.Changes.{without}
use Rattle.boc_plans.specs.Plans.{IsChild, ConflictOn}
use Rattle.boc_uses.specs.declared.uses.Use.{Use}

-- ---- uses

-- how many cowns the first n rows have together
abbrev pub cowns_before : List Row → ℕ → ℕ
cowns_before rows n = sum_by (λ x. length x.cowns.items) (take n rows)

-- the use of a cown, where these are the uses of these cowns, in their order; none where it is not among them, or not used
abbrev pub use_at : List ℕ → List (Option Use) → ℕ → Option Use
use_at [] uses c = None
use_at (x ∷ cowns) [] c = None
use_at (x ∷ cowns) (u ∷ uses) c = cond (x == c) u (use_at cowns uses c)

-- how a row uses a cown, where these are the uses of all cowns of all rows, in their order
abbrev pub use_of : List Row → List (Option Use) → ℕ → ℕ → Option Use
use_of rows uses r c = use_at (cowns_of rows r) (drop (cowns_before rows r) uses) c

-- the first use is at the first tick or later, and no later than the last use, which is within the row's ticks
pub record IsWithin (ticks : ℕ) (u : Use) : Type 0 where
  pub from_one : 1 ≤ u.first
  pub rises : u.first ≤ u.last
  pub ends : u.last ≤ ticks

-- for each cown of each row, in their order, whether and how the row uses it
pub record AreUses (rows : List Row) (uses : List (Option Use)) : Type 0 where
  pub whole : length uses ≡ cowns_before rows (length rows)
  pub within : (r c : ℕ) (u : Use) → use_of rows uses r c ≡ Some u → IsWithin (ticks_of rows r) u

-- ---- the rules of turns

-- When each row has made a number of its ticks (it starts when it has made none), and when its turn at a cown begins.
pub record Times : Type 0 where
  pub made : ℕ → ℕ → ℕ
  pub begun : ℕ → ℕ → ℕ

-- When a row's turn at a cown is over. If the row needs the cown's value, that is when the row has made the tick of its last use. Otherwise the turn takes as
-- many ticks as there are from the first use to the last, beside the body.
abbrev pub over : Times → ℕ → ℕ → Use → ℕ
over times r c u = cond u.needed (times.made r u.last) (times.begun r c + (u.last + 1 - u.first))

-- Some cowns are relaxed: they are held only while they are used. Row r has a turn at a cown if the cown is relaxed, and the row uses it.
pub record IsTurn (rows : List Row) (uses : List (Option Use)) (relaxed : ℕ → Bool) (r c : ℕ) (u : Use) : Type 0 where
  pub is_relaxed : relaxed c ≡ true
  pub is_use : use_of rows uses r c ≡ Some u

-- The rule of a row's turn at a cown. The turn begins when the turns there of all rows that the row is ordered after are over, and when the body begins the
-- tick of its first use, or later. If the row needs the cown's value, its body waits with that tick until the turn begins.
pub record KeepsTurn (rows : List Row) (uses : List (Option Use)) (times : Times) (b c : ℕ) (u : Use) : Type 0 where
  pub after : (a : ℕ) (other : Use) → a < b → ConflictOn rows c a b → use_of rows uses a c ≡ Some other → over times a c other ≤ times.begun b c
  pub from_first : times.made b u.first ≤ times.begun b c + 1
  pub waits : u.needed ≡ true → times.begun b c + 1 ≤ times.made b u.first

-- The rules of a row. It makes its ticks one after the other. It starts when its parent has made the tick of the row's offset, or later. The cowns that are
-- not relaxed are held from start to end, so it starts when all rows that it is ordered after over one of them have ended, or later. And its turns keep
-- their rule.
pub record KeepsRow (rows : List Row) (uses : List (Option Use)) (relaxed : ℕ → Bool) (times : Times) (b : ℕ) : Type 0 where
  pub one_by_one : (k : ℕ) → k < ticks_of rows b → times.made b k + 1 ≤ times.made b (k + 1)
  pub spawned : (a : ℕ) → IsChild rows a b → times.made a (offset_of rows b) ≤ times.made b 0
  pub in_order : (a c : ℕ) → a < b → ConflictOn rows c a b → relaxed c ≡ false → times.made a (ticks_of rows a) ≤ times.made b 0
  pub turns : (c : ℕ) (u : Use) → IsTurn rows uses relaxed b c u → KeepsTurn rows uses times b c u

-- the times keep the rules where the relaxed cowns are held only while they are used
abbrev pub KeepsTurns : List Row → List (Option Use) → (ℕ → Bool) → Times → Type 0
KeepsTurns rows uses relaxed times = (b : ℕ) → b < length rows → KeepsRow rows uses relaxed times b

-- ---- the earliest times, and their end

-- a row makes each of its ticks at one time no later than at another, and begins each of its turns no later
pub record IsNoLater (rows : List Row) (uses : List (Option Use)) (relaxed : ℕ → Bool) (times others : Times) (r : ℕ) : Type 0 where
  pub ticks : (k : ℕ) → k ≤ ticks_of rows r → times.made r k ≤ others.made r k
  pub turns : (c : ℕ) (u : Use) → IsTurn rows uses relaxed r c u → times.begun r c ≤ others.begun r c

-- the times keep the rules, and no others that keep them are earlier at any row or turn
pub record AreEarliest (rows : List Row) (uses : List (Option Use)) (relaxed : ℕ → Bool) (times : Times) : Type 0 where
  pub keeps : KeepsTurns rows uses relaxed times
  pub least : (others : Times) → KeepsTurns rows uses relaxed others → (r : ℕ) → r < length rows → IsNoLater rows uses relaxed times others r

-- by this tick a row has ended, and its turns are over
pub record IsOverBy (rows : List Row) (uses : List (Option Use)) (relaxed : ℕ → Bool) (times : Times) (tick r : ℕ) : Type 0 where
  pub row : times.made r (ticks_of rows r) ≤ tick
  pub turns : (c : ℕ) (u : Use) → IsTurn rows uses relaxed r c u → over times r c u ≤ tick

-- by this tick all rows have ended, and all turns are over
abbrev pub AreOverBy : List Row → List (Option Use) → (ℕ → Bool) → Times → ℕ → Type 0
AreOverBy rows uses relaxed times tick = (r : ℕ) → r < length rows → IsOverBy rows uses relaxed times tick r

-- the end of the earliest times: the first tick by which all rows have ended and all turns are over
pub record IsUsedEnd (rows : List Row) (uses : List (Option Use)) (relaxed : ℕ → Bool) (end : ℕ) : Type 0 where
  pub times : Times
  pub earliest : AreEarliest rows uses relaxed times
  pub all_over : AreOverBy rows uses relaxed times end
  pub none_sooner : (tick : ℕ) → AreOverBy rows uses relaxed times tick → end ≤ tick

-- the rows, none of which has one of these cowns
abbrev pub without_all : List ℕ → List Row → List Row
without_all [] rows = rows
without_all (cown ∷ cowns) rows = without cown (without_all cowns rows)

-- the cowns that are among these
abbrev pub among : List ℕ → ℕ → Bool
among cowns c = list_any (nat_eq c) cowns

-- each cown that is relaxed is relaxed by another test too
abbrev pub AreWithin : (ℕ → Bool) → (ℕ → Bool) → Type 0
AreWithin relaxed others = (c : ℕ) → relaxed c ≡ true → others c ≡ true

-- What may hold a program back, each with the rows without what it costs.
use Rattle.std.specs.Prelude.{◌≡◌, ◌<◌, ◌==◌, ◌+◌, ℕ, suc, max, Bool, false, not, nat_eq, List, [], ◌∷◌, length, filter, cond, Some, slice_get, slice_index}
use Rattle.std.specs.Prelude.{slice_index_or}
use Rattle.std.specs.Int.{div_ceil}
use Rattle.std.specs.List.{list_any}
use Rattle.boc_program.specs.declared.limits.TheConstants.{MOST_COWNS}
use Rattle.boc_runs.specs.declared.rows.Row.{Row}
use Rattle.boc_runs.specs.Rows.{IsLast, parent_of, offset_of}
use Rattle.boc_runs.specs.Changes.{without}
use Rattle.boc_plans.specs.declared.edit.Edit.{Edit}
use Rattle.boc_plans.specs.declared.edit.Change.TheVariants.{Cost}
use Rattle.boc_plans.specs.Fractions.{Fraction}
use Rattle.boc_plans.specs.Edits.{AreEdited}
use Rattle.boc_why.specs.declared.causes.Cause.{Cause}
use Rattle.boc_why.specs.declared.causes.Cause.TheVariants as causes

-- the edits by which each row of a def costs this part of what it did, in the order of the rows; the first of these defs is that of this row
abbrev pub def_edits : Fraction → ℕ → ℕ → List ℕ → List Edit
def_edits part def row [] = []
def_edits part def row (d ∷ defs) =
    cond (d == def) (record { row = row; change = Cost part } ∷ def_edits part def (suc row) defs) (def_edits part def (suc row) defs)

-- one half
abbrev pub half : Fraction
half = record { over = 1; under = 2 }

-- the rows, none of which has one of these cowns
abbrev pub without_all : List ℕ → List Row → List Row
without_all [] rows = rows
without_all (cown ∷ cowns) rows = without_all cowns (without cown rows)

-- a row other than main that a row of this def spawned
abbrev pub IsSpawnedBy : List Row → List ℕ → ℕ → ℕ → Type 0
IsSpawnedBy rows defs def b = (0 < b) × (b < length rows) × (slice_index defs (parent_of rows b) ≡ def)

-- the rows in which those of one def spawn as early as they can: the first child at tick 1, and each other one a tick after its elder sibling.
-- Nothing else changes
pub record AreSpawnedEarly (rows : List Row) (defs : List ℕ) (def : ℕ) (after : List Row) : Type 0 where
  pub whole : length after ≡ length rows
  pub same : (r : ℕ) (x y : Row) → slice_get rows r ≡ Some x → slice_get after r ≡ Some y → y ≡ record x { offset = y.offset }
  pub early : (b elder : ℕ) → IsSpawnedBy rows defs def b → IsLast after b (parent_of rows b) elder → offset_of after b ≡ elder + 1
  pub others : (b : ℕ) → (IsSpawnedBy rows defs def b → ⊥) → offset_of after b ≡ offset_of rows b

-- the rows with a cause changed: a def's behaviours cost half as much, some cowns order nobody, or a def's behaviours spawn as early as they can
abbrev pub IsWith : List Row → List ℕ → Cause → List Row → Type 0
IsWith rows defs (causes.Cost def) after = AreEdited rows (def_edits half def 0 defs) after
IsWith rows defs (causes.Order cowns) after = after ≡ without_all cowns.items rows
IsWith rows defs (causes.Spawns def) after = AreSpawnedEarly rows defs def after

-- ---- on the way

-- for each cown whether it is one of these
pub record AreMarks (cowns : List ℕ) (marks : List Bool) : Type 0 where
  pub whole : length marks ≡ MOST_COWNS
  pub each : (cown : ℕ) → cown < MOST_COWNS → slice_index_or marks cown false ≡ list_any (nat_eq cown) cowns

-- the row without those of its cowns that are marked
abbrev pub freed_from : List Bool → Row → Row
freed_from marks x = record x {
  cowns = record { items = filter (λ c. not (slice_index_or marks c false)) x.cowns.items };
  written = record { items = filter (λ c. not (slice_index_or marks c false)) x.written.items };
}

-- half of these ticks, rounded up
abbrev pub half_of : ℕ → ℕ
half_of ticks = div_ceil ticks 2

-- the rows in which those of one def spawn their children after half as many ticks, each at least a tick after its elder sibling, and for each row the offset
-- of its last child, or 0 for rows of other defs and without children. Nothing else changes
pub record AreOffsetsHalved (rows : List Row) (defs : List ℕ) (def : ℕ) (after : List Row) (lasts : List ℕ) : Type 0 where
  pub whole : length after ≡ length rows
  pub same : (r : ℕ) (x y : Row) → slice_get rows r ≡ Some x → slice_get after r ≡ Some y → y ≡ record x { offset = y.offset }
  pub halved : (b elder : ℕ) → IsSpawnedBy rows defs def b → IsLast after b (parent_of rows b) elder →
      offset_of after b ≡ max (half_of (offset_of rows b)) (elder + 1)
  pub others : (b : ℕ) → (IsSpawnedBy rows defs def b → ⊥) → offset_of after b ≡ offset_of rows b
  pub lasts_whole : length lasts ≡ length rows
  pub lasts_are : (r last : ℕ) → r < length rows → slice_index defs r ≡ def → IsLast after (length after) r last → slice_index lasts r ≡ last

-- Rows of which one takes other ticks conflict and are ordered as before.
use Rattle.std.proofs.Common.{ℕ, List}
use Rattle.boc_runs.specs.declared.rows.Row.{Row}
use Rattle.boc_runs.specs.Rows.{edited}
use Rattle.boc_plans.specs.Plans.{ConflictOn, Ordered}
use Rattle.boc_runs.proofs.Editing.{cowns_of-edited, written_of-edited}

-- rows conflict as before
pub conflict_edited : (rows : List Row) (row ticks c a b : ℕ) → ConflictOn rows c a b → ConflictOn (edited rows row ticks) c a b
conflict_edited rows row ticks c a b o = record {
  first = rw (cowns_of-edited rows row ticks a) o.first;
  second = rw (cowns_of-edited rows row ticks b) o.second;
  wrote = rw (written_of-edited rows row ticks a, written_of-edited rows row ticks b) o.wrote;
}

pub conflict_back : (rows : List Row) (row ticks c a b : ℕ) → ConflictOn (edited rows row ticks) c a b → ConflictOn rows c a b
conflict_back rows row ticks c a b o = record {
  first = rw (cowns_of-edited rows row ticks a) at o.first;
  second = rw (cowns_of-edited rows row ticks b) at o.second;
  wrote = rw (written_of-edited rows row ticks a, written_of-edited rows row ticks b) at o.wrote;
}

-- the order stays
pub ordered_edited : (rows : List Row) (row ticks a b : ℕ) → Ordered rows a b → Ordered (edited rows row ticks) a b
ordered_edited rows row ticks a b o = record { before = o.before; shared = (o.shared.0, conflict_edited rows row ticks o.shared.0 a b o.shared.1) }

pub ordered_back : (rows : List Row) (row ticks a b : ℕ) → Ordered (edited rows row ticks) a b → Ordered rows a b
ordered_back rows row ticks a b o = record { before = o.before; shared = (o.shared.0, conflict_back rows row ticks o.shared.0 a b o.shared.1) }

-- The queue of what changes next for the rows that are under way.
use Rattle.std.specs.Prelude.{◌≡◌, ◌≢◌, ℕ, ◌≤◌, ◌⊎◌, List, Some, slice_get, nat_eq}
use Rattle.std.specs.List.{Contains, count_by}
use Rattle.std.specs.declared.cmp.Ordering.{Ordering}
use Rattle.std.specs.declared.cmp.Reverse.{Reverse}
use Rattle.std.specs.Ordering.{nat_cmp, ordering_then}
use Rattle.std.specs.BinaryHeap.{IsHeap}

-- a tick, and the row for which something changes then; the earliest is the greatest
abbrev pub Entry : Type 0
Entry = Reverse (ℕ × ℕ)

-- an entry with an earlier tick is the greater one, and of two with the same tick the one with the smaller row
abbrev pub entry_order : Entry → Entry → Ordering
entry_order x y = ordering_then (nat_cmp y.0.0 x.0.0) (nat_cmp y.0.1 x.0.1)

-- how often row r stands in a queue
abbrev pub entries_of : ℕ → List Entry → ℕ
entries_of r queue = count_by (λ e. nat_eq e.0.1 r) queue

-- row r stands in the queue, with this tick
abbrev pub IsIn : List Entry → ℕ → ℕ → Type 0
IsIn queue tick r = Contains queue (record { 0 = (tick, r) })

-- row r stands on top of the queue, with this tick
abbrev pub IsOnTop : List Entry → ℕ → ℕ → Type 0
IsOnTop queue tick r = slice_get queue 0 ≡ Some (record { 0 = (tick, r) })

-- the earliest is on top, and no row stands in the queue twice
pub record IsQueue (queue : List Entry) : Type 0 where
  pub ordered : IsHeap entry_order queue
  pub once : (r : ℕ) → entries_of r queue ≤ 1

-- the later queue is a queue too: row r stands in it with this tick, the other rows as before, and no others
pub record IsPutOff (queue : List Entry) (r tick : ℕ) (later : List Entry) : Type 0 where
  pub is_queue : IsQueue later
  pub here : IsIn later tick r
  pub was : (at q : ℕ) → IsIn later at q → ((at ≡ tick) × (q ≡ r)) ⊎ (IsIn queue at q × (q ≢ r))
  pub stays : (at q : ℕ) → q ≢ r → IsIn queue at q → IsIn later at q

-- What the plain lists keep.
use Rattle.std.specs.Prelude.{◌≡◌, ℕ, ◌+◌, ◌<◌, ◌≤◌, List, length, drop, slice_get, Option, Some, None}
use Rattle.std.specs.List.{sum_by}
use Rattle.std.specs.Vec.{vec_len, vec_capacity}
use Rattle.std.specs.declared.vec.Vec.{Vec}
use Rattle.std.specs.declared.alloc.Global.{Global}
use Rattle.boc_chain.specs.declared.request.Request.{Request}
use Rattle.boc_chain.specs.declared.held.Held.{Held}
use Rattle.boc_chain.specs.Chain.{Place, times, cowns_of, cown}

-- what was admitted, if anything was
abbrev pub place_of : Option Held → Option Place
place_of None = None
place_of (Some h) = Some (record { cowns = h.cowns.items; exchanged = h.exchanged })

-- the same at a place of the table, if there is one
abbrev pub place_in : Option (Option Held) → Option Place
place_in None = None
place_in (Some h) = place_of h

-- what is at a slot
abbrev pub place_at : List (Option Held) → ℕ → Option Place
place_at places slot = place_in (slice_get places slot)

-- how many of its requests are still to go into the list of c
abbrev pub awaits : ℕ → Option Held → ℕ
awaits c None = 0
awaits c (Some h) = times c (drop h.exchanged h.cowns.items)

-- the list of each cown has room for so many more
abbrev pub HasRoom : List (Vec Request Global) → (ℕ → ℕ) → Type 0
HasRoom lines more = (c : ℕ) (v : Vec Request Global) → slice_get lines c ≡ Some v → vec_len v + more c ≤ vec_capacity v

-- there is room for each request that is still to come
pub record IsKept (lines : List (Vec Request Global)) (places : List (Option Held)) : Type 0 where
  pub in_range : (slot i : ℕ) → i < length (cowns_of (place_at places slot)) → cown (place_at places slot) i < length lines
  pub room : HasRoom lines (λ c. sum_by (awaits c) places)

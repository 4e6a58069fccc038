-- How the chains see the linked requests.
use Rattle.std.specs.Prelude.{◌≡◌, ℕ, ◌+◌, ◌^◌, ◌<◌, ◌≤◌, max, List, length, Option}
use Rattle.slab.specs.Slab.{slab_len}
use Rattle.slab.specs.Slab as slab
use Rattle.boc_chain.specs.declared.request.Request.{Request}
use Rattle.boc_chain.specs.declared.link_chains.LinkChains.{LinkChains}
use Rattle.boc_chain.specs.declared.kept_links.TheConstants.{FEW}
use Rattle.boc_chain.specs.Chain.{Place}
use Rattle.boc_chain.specs.Linked.{lists_of, place_at}

-- the lists that the links spell
abbrev pub lists : LinkChains → List (List Request)
lists s = lists_of s.last.items s.slots

-- what was admitted at a slot
abbrev pub place : LinkChains → ℕ → Option Place
place s slot = place_at s.slots slot

-- how many slots are held, and the greatest number held at once so far
abbrev pub held : LinkChains → ℕ
held s = slab_len s.slots

-- the greatest number of slots held at once so far
abbrev pub peak : LinkChains → ℕ
peak s = s.peak

-- there is room for a behaviour of these cowns: for a slot more, the next slot has 16 bits, and its links stand in the slot itself
pub record HasRoomFor (cowns : List ℕ) (s : LinkChains) : Type 0 where
  pub spare : slab.HasRoomFor s.slots 1
  pub low : s.slots.vacant_key < 2 ^ 16
  pub inside : length cowns ≤ FEW

-- one slot more is held, which may be a new peak
pub record HoldsOneMore (old new : LinkChains) : Type 0 where
  pub held_more : held new ≡ held old + 1
  pub peak_kept : peak new ≡ max (peak old) (held new)

-- as many slots are held, and were
pub record HoldsAsMany (old new : LinkChains) : Type 0 where
  pub held_same : held new ≡ held old
  pub peak_same : peak new ≡ peak old

-- one slot less is held
pub record HoldsOneLess (old new : LinkChains) : Type 0 where
  pub held_less : held new + 1 ≡ held old
  pub peak_same : peak new ≡ peak old

-- The links and places in the slots.
use Rattle.std.specs.Prelude.{◌≡◌, ℕ, zero, suc, ◌^◌, ◌<◌, ◌≤◌, ◌==◌, if◌then◌else◌, List, [], ◌∷◌, length, slice_get, slice_index_or, Option, Some, None}
use Rattle.std.specs.Prelude.{position}
use Rattle.std.specs.Option.{option_and_then, option_map}
use Rattle.slab.specs.Slab.{Slab, get, slab_len}
use Rattle.boc_chain.specs.declared.linked.Node.{Node}
use Rattle.boc_chain.specs.declared.linked.Link.{Link}
use Rattle.boc_chain.specs.KeptLinks.{Linked}
use Rattle.boc_chain.specs.Chain.{Place, IsGranted, times, slots, cowns_of, cown}
use Rattle.boc_chain.specs.declared.request.Request.{Request}
use Rattle.boc_chain.specs.declared.request.Slot.{Slot}
use Rattle.boc_chain.specs.Links.{Tie, Spells, end_of, walk}

-- the slot of a number
abbrev pub slot_at : ℕ → Slot
slot_at i = record { index = i }

-- the link that is kept of the request on c
abbrev pub stored_in : Option Linked → ℕ → Option Link
stored_in None c = None
stored_in (Some h) c = option_and_then (λ i. slice_get h.links i) (position (λ d. d == c) h.cowns.items)

-- the link as it is kept
abbrev pub stored : Slab Linked → ℕ → ℕ → Option Link
stored held s c = stored_in (get held s) c

-- a link by the slots that it names
abbrev pub seen : Link → Tie
seen l = record {
  settled = l.settled;
  scheduled = l.scheduled;
  before = option_map (λ n. n.slot) l.before;
  next = option_map (λ n. n.slot) l.next;
}

-- the link seen by slots alone
abbrev pub links : Slab Linked → ℕ → ℕ → Option Tie
links held s c = option_map seen (stored held s c)

-- what was admitted at a slot that is held
abbrev pub place_in : Option Linked → Option Place
place_in None = None
place_in (Some h) = Some (record { cowns = h.cowns.items; exchanged = length h.links })

-- what is at a slot
abbrev pub place_at : Slab Linked → ℕ → Option Place
place_at slots s = place_in (get slots s)

-- the lists

-- the links of cown c spell the list, and no slot is in it twice
pub record IsSpelled (link : ℕ → ℕ → Option Tie) (c : ℕ) (xs : List Request) : Type 0 where
  pub spells : Spells link c None xs
  pub once : (s : ℕ) → times s (slots xs) ≤ 1

-- such a list with a request of this slot
pub record IsIn (link : ℕ → ℕ → Option Tie) (c slot : ℕ) (xs : List Request) : Type 0 where
  pub spelled : IsSpelled link c xs
  pub there : 0 < times slot (slots xs)

-- such a list with the granted request of this slot in front
pub record IsFront (link : ℕ → ℕ → Option Tie) (c slot : ℕ) (xs : List Request) : Type 0 where
  pub spelled : IsSpelled link c xs
  pub granted : IsGranted slot xs

-- the list without its front, where the next has settled
abbrev pub passed : List Request → List Request
passed [] = []
passed (r ∷ []) = r ∷ []
passed (r ∷ (next ∷ rest)) = if next.settled then next ∷ rest else r ∷ (next ∷ rest)

-- and this is the slot at its end
pub record IsList (link : ℕ → ℕ → Option Tie) (c : ℕ) (last : Option ℕ) (xs : List Request) : Type 0 where
  pub spelled : IsSpelled link c xs
  pub ends : end_of None xs ≡ last

-- the node names the request on cown c of its slot
abbrev pub IsAt : Slab Linked → Node → ℕ → Type 0
IsAt held n c = position (λ d. d == c) (cowns_of (place_at held n.slot)) ≡ Some n.place

-- so does each node in the link of a request on c
pub record NamesWell (held : Slab Linked) (c : ℕ) (l : Link) : Type 0 where
  pub before : (n : Node) → l.before ≡ Some n → IsAt held n c
  pub next : (n : Node) → l.next ≡ Some n → IsAt held n c

-- and in those of a list of c
abbrev pub IsPlaced : Slab Linked → ℕ → List Request → Type 0
IsPlaced held c xs = (s : ℕ) (l : Link) → 0 < times s (slots xs) → stored held s c ≡ Some l → NamesWell held c l

-- the request of a node is in this list of c
pub record Holds (held : Slab Linked) (c : ℕ) (n : Node) (xs : List Request) : Type 0 where
  pub inside : IsIn (links held) c n.slot xs
  pub at : IsAt held n c
  pub placed : IsPlaced held c xs

-- the request of a node is first in this list of c, and granted
pub record Leads (held : Slab Linked) (c : ℕ) (n : Node) (xs : List Request) : Type 0 where
  pub front : IsFront (links held) c n.slot xs
  pub at : IsAt held n c
  pub placed : IsPlaced held c xs

-- the node at the end of the list of c, and its slot
abbrev pub last_at : List (Option Node) → ℕ → Option Node
last_at last c = slice_index_or last c None

-- the slot of the last request of a cown
abbrev pub last_of : List (Option Node) → ℕ → Option ℕ
last_of last c = option_map (λ n. n.slot) (last_at last c)

-- the list of c, read back from its end
abbrev pub line : List (Option Node) → Slab Linked → ℕ → List Request
line last slots c = walk (links slots) c (length slots.slots) (last_of last c)

-- f of each number from b on, n of them
abbrev pub from : (ℕ → List Request) → ℕ → ℕ → List (List Request)
from f b zero = []
from f b (suc n) = f b ∷ from f (suc b) n

-- the list of each cown
unfoldable pub lists_of : List (Option Node) → Slab Linked → List (List Request)
lists_of last slots = from (line last slots) 0 (length last)

-- What linked chains keep: the links spell the list of each cown, `last` is its end, and each node is at the place
-- of the cown.
pub record IsLinked (last : List (Option Node)) (slots : Slab Linked) (peak : ℕ) : Type 0 where
  pub spelled : (c : ℕ) → c < length last → IsList (links slots) c (last_of last c) (line last slots c)
  pub placed : (c : ℕ) → c < length last → IsPlaced slots c (line last slots c)
  pub ended : (c : ℕ) (n : Node) → c < length last → last_at last c ≡ Some n → IsAt slots n c
  pub distinct : (s c : ℕ) → times c (cowns_of (place_at slots s)) ≤ 1
  pub in_range : (s i : ℕ) → i < length (cowns_of (place_at slots s)) → cown (place_at slots s) i < length last
  -- slots have 16 bits, and places 8
  pub short : (s i : ℕ) → i < length (cowns_of (place_at slots s)) → (s < 2 ^ 16) × (i < 2 ^ 8)
  pub held : slab_len slots ≤ peak

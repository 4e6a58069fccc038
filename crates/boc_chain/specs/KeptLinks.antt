-- What a slot keeps of one behaviour.
use Rattle.std.specs.Prelude.{◌≡◌, ℕ, ◌≤◌, ◌++◌, List, length, take}
use Rattle.arrayvec.specs.ArrayVec.{ArrayVec}
use Rattle.boc_program.specs.declared.limits.TheConstants.{MOST_HELD}
use Rattle.boc_chain.specs.declared.linked.Link.{Link}
use Rattle.boc_chain.specs.declared.kept_links.Head.{Head}
use Rattle.boc_chain.specs.declared.kept_links.Kept.{Kept}
use Rattle.boc_chain.specs.declared.kept_links.Kept.TheVariants.{Few, More}
use Rattle.boc_chain.specs.declared.kept_links.TheConstants.{FEW}

-- the cowns that were admitted, and the links of the requests exchanged so far
pub record Linked : Type 0 where
  pub cowns : ArrayVec ℕ
  pub links : List Link

-- the cowns, how many links there are, and the first places for links
abbrev pub head_of : Kept → Head
head_of (Few head) = head
head_of (More head rest) = head

-- all places for links; the links stand first
abbrev pub places_of : Kept → List Link
places_of (Few head) = head.first
places_of (More head rest) = head.first ++ rest.value

-- how many places there are
abbrev pub room_of : Kept → ℕ
room_of (Few head) = FEW
room_of (More head rest) = MOST_HELD

-- what is kept
abbrev pub linked : Kept → Linked
linked kept = record { cowns = (head_of kept).cowns; links = take (head_of kept).count (places_of kept) }

-- all places are there
pub record HasPlaces (kept : Kept) : Type 0 where
  pub first : length (head_of kept).first ≡ FEW
  pub whole : length (places_of kept) ≡ room_of kept

-- there is a place for the link of each cown, and no place has more than one
pub record IsKept (kept : Kept) : Type 0 where
  pub places : HasPlaces kept
  pub count : (head_of kept).count ≤ room_of kept
  pub room : length (head_of kept).cowns.items ≤ room_of kept

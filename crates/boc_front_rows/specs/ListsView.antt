-- How lists of behaviours are seen.
use Rattle.std.specs.Prelude.{◌≡◌, ℕ, ◌≤◌, List, [], ◌∷◌, ◌++◌, Some, slice_get}
use Rattle.boc_runs.specs.Serial.{Behaviour}
use Rattle.boc_front_rows.specs.declared.wish_lists.Link.{Link}
use Rattle.boc_front_rows.specs.declared.wish_lists.WishLists.TheInside.{Inside}
use Rattle.boc_front_rows.specs.Lists.{wished, list_at}

-- the lists, and after them those of the links, each of which names one before it
abbrev pub listed : List (List Behaviour) → List Link → List (List Behaviour)
listed lists [] = lists
listed lists (link ∷ links) = listed (lists ++ (wished link.first ∷ list_at lists link.rest) ∷ []) links

-- the empty list, and those of the links
abbrev pub lists_of : Inside → List (List Behaviour)
lists_of w = listed ([] ∷ []) w.links.keys

-- each link leads to a list before its own
abbrev pub LeadDown : Inside → Type 0
LeadDown w = (n : ℕ) (link : Link) → slice_get w.links.keys n ≡ Some link → link.rest ≤ n

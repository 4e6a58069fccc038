-- Links as numbers, and the first place of each number in a list.
use Rattle.std.specs.Prelude.{◌≡◌, ◌≢◌, ◌<◌, ◌+◌, ◌*◌, ℕ, List, [], ◌∷◌, length, All, Some, slice_get, slice_index}
use Rattle.boc_program.specs.declared.limits.TheConstants.{MOST_COWNS}
use Rattle.boc_why.specs.declared.links.Link.{Link}
use Rattle.boc_why.specs.declared.links.Link.TheVariants.{SpawnBy, Hands, Frees, Ends}

-- cowns as one number: a byte for each, the first the lowest, and a 1 above them
abbrev pub cowns_code : List ℕ → ℕ
cowns_code [] = 1
cowns_code (c ∷ cowns) = c + MOST_COWNS * cowns_code cowns

-- a link as one number: odd and above 1 for a spawn, even and above 0 for cowns
abbrev pub link_code : Link → ℕ
link_code (SpawnBy def) = 2 * def + 3
link_code (Hands cowns) = 2 * cowns_code cowns.items
link_code Frees = 1
link_code Ends = 0

-- each cown of the link has a byte
abbrev pub HasBytes : Link → Type 0
HasBytes (SpawnBy def) = Unit {0}
HasBytes (Hands cowns) = All (λ c. c < MOST_COWNS) cowns.items
HasBytes Frees = Unit {0}
HasBytes Ends = Unit {0}

-- the number is the link's, and tells it from all others
pub record IsCode (link : Link) (code : ℕ) : Type 0 where
  pub is : code ≡ link_code link
  pub bytes : HasBytes link

-- each link's number
pub record AreCodes (links : List Link) (codes : List ℕ) : Type 0 where
  pub whole : length codes ≡ length links
  pub at : (k : ℕ) (link : Link) → slice_get links k ≡ Some link → IsCode link (slice_index codes k)

-- this is the first place at which the number stands
pub record IsFirstAt (codes : List ℕ) (code first : ℕ) : Type 0 where
  pub there : first < length codes
  pub same : slice_index codes first ≡ code
  pub none_before : (j : ℕ) → j < first → slice_index codes j ≢ code

-- for each number the first place at which it stands
pub record AreFirstPlaces (codes firsts : List ℕ) : Type 0 where
  pub whole : length firsts ≡ length codes
  pub at : (k : ℕ) → k < length codes → IsFirstAt codes (slice_index codes k) (slice_index firsts k)

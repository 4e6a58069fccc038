-- How the chains see the plain lists.
use Rattle.std.specs.Prelude.{ℕ, List, map, Option}
use Rattle.boc_chain.specs.declared.request.Request.{Request}
use Rattle.boc_chain.specs.declared.list_chains.ListChains.{ListChains}
use Rattle.boc_chain.specs.Chain.{Place}
use Rattle.boc_chain.specs.Kept.{place_at}

-- the lists as they are kept
abbrev pub lists : ListChains → List (List Request)
lists s = map (λ v. v.items) s.lines.items

-- what was admitted at a slot
abbrev pub place : ListChains → ℕ → Option Place
place s slot = place_at s.places.items slot

-- Links of a chain that hand on cowns of none but some families.
use Rattle.std.specs.Prelude.{◌≡◌, ℕ, List, Option, Some, slice_get}
use Rattle.std.specs.List.{Contains}
use Rattle.boc_runs.specs.declared.rows.Row.{Row}
use Rattle.boc_plans.specs.Greedy.{IsSpan}
use Rattle.boc_plans.specs.Seen.{seen}
use Rattle.boc_why.specs.declared.links.Link.{Link}
use Rattle.boc_why.specs.declared.links.Link.TheVariants.{Hands}
use Rattle.boc_remedies.specs.Questions.{Asked}
use Rattle.boc_remedies.specs.declared.remedy.Remedy.TheVariants.{NoOrder}
use Rattle.boc_remedies.specs.Remedies.{AreRowsAfter}

-- the span that is left without these families, planned from nothing
pub record IsSpanWithout (question : Asked) (set : List ℕ) (span : ℕ) : Type 0 where
  pub after : List Row
  pub without : AreRowsAfter question (NoOrder set) after
  pub is : IsSpan (seen question.sharing after) span

-- the link is there, and hands these cowns on
abbrev pub HandsOn : Option Link → List ℕ → Type 0
HandsOn (Some (Hands held)) cowns = cowns ≡ held.items
HandsOn link cowns = ⊥

-- some link hands on cowns that all belong to families of this set
pub record HasLinkIn (families : List ℕ) (links : List Link) (set : List ℕ) : Type 0 where
  pub place : ℕ
  pub cowns : List ℕ
  pub hands : HandsOn (slice_get links place) cowns
  pub within : (cown : ℕ) → Contains cowns cown → (family : ℕ) × (slice_get families cown ≡ Some family) × Contains set family

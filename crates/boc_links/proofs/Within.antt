-- A chain stands in the rows without some cowns, or has an order link over none but them.
use Rattle.std.proofs.Common.{◌≡◌, ℕ, zero, suc, ◌<◌, ◌⊎◌, List, [], ◌∷◌, Option, Some, None, refl, sym, ◌∙◌, inl, inr, subst, arith}
use Rattle.std.specs.Prelude.{slice_get}
use Rattle.boc_runs.specs.declared.rows.Row.{Row}
use Rattle.boc_runs.specs.Rows.{IsRows}
use Rattle.boc_plans.specs.declared.chain.ChainStep.{ChainStep}
use Rattle.boc_plans.specs.declared.chain.Via.{Via}
use Rattle.boc_plans.specs.declared.chain.Via.TheVariants.{Spawn, Order, Last}
use Rattle.boc_plans.specs.declared.sharing.Sharing.{Sharing}
use Rattle.boc_plans.specs.Plans.{Keeps, IsEnd, IsEarliest}
use Rattle.boc_plans.specs.Chains.{weight_of, LinkVia, IsLink, IsChain, IsPicked}
use Rattle.boc_plans.specs.Greedy.{IsSpan}
use Rattle.boc_plans.specs.Seen.{seen}
use Rattle.boc_plans.proofs.Seeing.{rows_seen}
use Rattle.boc_order.proofs.Chaining.{Links, weight_le_end}
use Rattle.boc_order.proofs.Weighing.{weight_is_end}
use Rattle.boc_links.specs.Within.{IsOrderedWithin, HasLinkWithin}
use Rattle.boc_why.specs.Causes.{without_all}
use Rattle.boc_links.proofs.LessCowns.{length-without_all, offset_of-without_all, ticks_of-without_all, without_all-seen, still_child, still_ordered}

module _ (cowns : List ℕ) (rows : List Row) where
  -- the link is an order over none but these cowns
  abbrev pub IsWithin : ℕ → Via → Option ChainStep → Type 0
  IsWithin a Order (Some next) = IsOrderedWithin rows cowns a next.row
  IsWithin a Spawn next = ⊥
  IsWithin a Last next = ⊥
  IsWithin a Order None = ⊥

  -- a link stands, or is one over none but these cowns
  via_stands : (a weight : ℕ) (via : Via) (next : Option ChainStep) → LinkVia rows a weight via next
      → LinkVia (without_all cowns rows) a weight via next ⊎ IsWithin a via next
  via_stands a weight Spawn (Some next) l = inl (still_child cowns rows a next.row l.0, l.1 ∙ sym (offset_of-without_all cowns rows next.row))
  via_stands a weight Order (Some next) l = elim (still_ordered cowns rows a next.row l.0) [
    | inl o ↦ inl (o, l.1 ∙ sym (ticks_of-without_all cowns rows a))
    | inr within ↦ inr (record { ordered = l.0; within = within })
  ]
  via_stands a weight Last None l = inl (l ∙ sym (ticks_of-without_all cowns rows a))
  via_stands a weight Spawn None l = absurd l
  via_stands a weight Order None l = absurd l
  via_stands a weight Last (Some next) l = absurd l

  link_stands : (s : ChainStep) (next : Option ChainStep) → IsLink rows s next → IsLink (without_all cowns rows) s next ⊎ IsWithin s.row s.via next
  link_stands s next l = elim (via_stands s.row s.weight s.via next l.1) [
    | inl v ↦ inl (omega (arith, length-without_all cowns rows, l.0), v)
    | inr w ↦ inr w
  ]

  -- where the first link is within, there is one
  within_first : (s : ChainStep) (rest : List ChainStep) (via : Via) (next : Option ChainStep) → s.via ≡ via → slice_get rest 0 ≡ next
      → IsWithin s.row via next → HasLinkWithin rows cowns (s ∷ rest)
  within_first s rest Order (Some next) v q w = record { place = 0; from = s; to = next; here = refl; next = q; via_order = v; over_these = w }
  within_first s rest Spawn next v q w = absurd w
  within_first s rest Last next v q w = absurd w
  within_first s rest Order None v q w = absurd w

  within_behind : (s : ChainStep) (rest : List ChainStep) → HasLinkWithin rows cowns rest → HasLinkWithin rows cowns (s ∷ rest)
  within_behind s rest h = record {
    place = suc h.place;
    from = h.from;
    to = h.to;
    here = h.here;
    next = h.next;
    via_order = h.via_order;
    over_these = h.over_these;
  }

  more_links : (s : ChainStep) (rest : List ChainStep) → IsLink (without_all cowns rows) s (slice_get rest 0) → Links (without_all cowns rows) rest
      → Links (without_all cowns rows) (s ∷ rest)
  more_links s rest l ls zero t q = let same : s ≡ t = cc in subst (λ (y : ChainStep). IsLink (without_all cowns rows) y (slice_get rest 0)) same l
  more_links s rest l ls (suc k) t q = ls k t q

  -- all links stand, or one is over none but these cowns
  links_stand : (steps : List ChainStep) → Links rows steps → Links (without_all cowns rows) steps ⊎ HasLinkWithin rows cowns steps
  links_stand [] links = inl (λ k t q. absurd (cc))
  links_stand (s ∷ rest) links = elim (link_stands s (slice_get rest 0) (links 0 s refl)) [
    | inr w ↦ inr (within_first s rest s.via (slice_get rest 0) refl refl w)
    | inl l ↦ elim (links_stand rest (λ k t q. links (suc k) t q)) [
      | inr h ↦ inr (within_behind s rest h)
      | inl ls ↦ inl (more_links s rest l ls)
    ]
  ]

  -- so does the chain, with the weight that it has
  pub chain_stands : (steps : List ChainStep) → IsChain rows steps → IsChain (without_all cowns rows) steps ⊎ HasLinkWithin rows cowns steps
  chain_stands steps c = elim (links_stand steps (λ k t q. (c.holds k t q).1)) [
    | inl ls ↦ inl (record { not_empty = c.not_empty; holds = λ k t q. ((c.holds k t q).0, ls k t q) })
    | inr h ↦ inr h
  ]

  -- a plan without these cowns that ends sooner than a chain weighs
  pub within_chain : (plan : List ℕ) (last : ℕ) (steps : List ChainStep) → IsChain rows steps → Keeps (without_all cowns rows) plan
      → IsEnd (without_all cowns rows) plan last → last < weight_of steps → HasLinkWithin rows cowns steps
  within_chain plan last steps c keeps ends sooner = elim (chain_stands steps c) [
    | inl stands ↦ absurd (omega (arith, sooner, weight_le_end (without_all cowns rows) plan keeps last ends steps stands))
    | inr h ↦ h
  ]

  -- the span
  pub within_picked : (plan : List ℕ) (span other : ℕ) (steps : List ChainStep) → IsRows rows → IsEarliest rows plan → IsEnd rows plan span
      → IsPicked rows plan steps → IsSpan (without_all cowns rows) other → other < span → HasLinkWithin rows cowns steps
  within_picked plan span other steps hr earliest ends picked less sooner =
      within_chain less.plan other steps picked.chain less.earliest.keeps less.ends
      (omega (arith, sooner, weight_is_end rows hr plan span steps earliest ends picked))

-- the same of the rows as they are seen
pub within_seen : (rows : List Row) (sharing : Sharing) (cowns plan : List ℕ) (span other : ℕ) (steps : List ChainStep) → IsRows rows
    → IsEarliest (seen sharing rows) plan → IsEnd (seen sharing rows) plan span → IsPicked (seen sharing rows) plan steps
    → IsSpan (seen sharing (without_all cowns rows)) other → other < span → HasLinkWithin (seen sharing rows) cowns steps
within_seen rows sharing cowns plan span other steps hr earliest ends picked less sooner =
    within_picked cowns (seen sharing rows) plan span other steps (rows_seen sharing rows hr) earliest ends picked
    (subst (λ (x : List Row). IsSpan x other) (without_all-seen cowns sharing rows) less) sooner

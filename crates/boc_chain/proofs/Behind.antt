-- Settling a request that has one before it.
use Rattle.std.proofs.Common.{◌≡◌, ◌≢◌, ℕ, Bool, true, false, cond, List, sym, ◌∙◌, ap}
use Rattle.std.specs.Prelude.{Some}
use Rattle.std.specs.Option.{option_map}
use Rattle.slab.specs.Slab.{Slab}
use Rattle.boc_chain.specs.declared.request.Request.{Request}
use Rattle.boc_chain.specs.declared.request.Settled.TheVariants.{Linked as SettleLinked, Blocked}
use Rattle.boc_chain.specs.declared.linked.Node.{Node}
use Rattle.boc_chain.specs.declared.linked.Link.{Link}
use Rattle.boc_chain.specs.KeptLinks.{Linked}
use Rattle.boc_chain.specs.Chain.{before, answer_behind, cowns_of, settle_answer, after_settle}
use Rattle.boc_chain.specs.Linked.{stored, seen, links, place_at, IsAt, IsSpelled, IsPlaced, Holds}
use Rattle.boc_chain.proofs.Steps.{behind_answer, linked_spelled, blocked_spelled, far_before}
use Rattle.boc_chain.proofs.Placed.{Neighbour, at_kept, before_it, linked_placed}

-- the link of a request names m as the one before it, whose link is la
module _ {held : Slab Linked} {c : ℕ} {own m : Node} {xs : List Request} {l la : Link} (h : Holds held c own xs) (got : stored held own.slot c ≡ Some l)
    (is : l.before ≡ Some m) (ahead : IsAt held m c → stored held m.slot c ≡ Some la) where
  it : Neighbour held c m xs
  it = before_it held c own m xs l h got is

  named : option_map (λ (n : Node). n.slot) l.before ≡ Some m.slot
  named = ap (option_map (λ (n : Node). n.slot)) is

  tie_ahead : links held m.slot c ≡ Some (seen la)
  tie_ahead = ap (option_map seen) (ahead it.at)

  -- the answer
  pub answered_behind : (b : Bool) → la.scheduled ≡ b → cond b SettleLinked Blocked ≡ settle_answer own.slot xs
  answered_behind b e =
      let q = behind_answer (links held) c own.slot xs (seen l) (seen la) m.slot b h.inside (ap (option_map seen) got) named tie_ahead e in
      ap (λ f. cond f SettleLinked Blocked) (sym q.2) ∙ ap answer_behind (sym q.1)

  -- the list, where that one isn't scheduled
  pub blocked_behind : la.scheduled ≡ false → IsSpelled (links held) c (after_settle own.slot xs)
  blocked_behind e = blocked_spelled (links held) c own.slot m.slot xs (seen l) (seen la) h.inside (ap (option_map seen) got) named tie_ahead e

  -- and where it is: it is linked first
  pub linked_behind : (mid held' : Slab Linked) → la.scheduled ≡ true
      → ((d : ℕ) (k : Link) → IsAt held m d → stored held m.slot d ≡ Some k → stored mid m.slot d ≡ Some (record k { next = Some own }))
      → ((s d : ℕ) → s ≢ m.slot → stored mid s d ≡ stored held s d) → ((s : ℕ) → place_at mid s ≡ place_at held s)
      → ((d : ℕ) (k : Link) → IsAt mid own d → stored mid own.slot d ≡ Some k → stored held' own.slot d ≡ Some (record k { settled = true }))
      → ((s d : ℕ) → s ≢ own.slot → stored held' s d ≡ stored mid s d) → ((s : ℕ) → place_at held' s ≡ place_at mid s)
      → IsSpelled (links held') c (after_settle own.slot xs) × IsPlaced held' c (after_settle own.slot xs)
  linked_behind mid held' on here others places here' others' places' =
      let far = far_before (links held) c own.slot m.slot xs (seen l) h.inside (ap (option_map seen) got) named in
      let put = here c la it.at (ahead it.at) in
      let put' = here' c l (at_kept held mid own c (ap cowns_of (places own.slot)) h.at) (others own.slot c far ∙ got) in (
        linked_spelled (links held) (links mid) (links held') c own.slot m.slot xs (seen l) (seen la) h.inside (ap (option_map seen) got) named tie_ahead on
            (ap (option_map seen) put) (λ t n. ap (option_map seen) (others t c n)) (ap (option_map seen) put') (λ t n. ap (option_map seen) (others' t c n)),
        linked_placed held mid held' c own m xs (before own.slot xs) l la h got (ahead it.at) it.there put (λ t n. others t c n) places put'
            (λ t n. others' t c n) places',
      )

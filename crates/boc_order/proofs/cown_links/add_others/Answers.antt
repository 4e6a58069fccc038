use Rattle.std.proofs.Common.{◌≡◌, ◌≢◌, ◌<◌, ℕ, List, Some, length, ap, ◌∙◌, arith, get_or}
use Rattle.std.specs.Prelude.{slice_get}
use Rattle.std.proofs.lemmas.Option.{slice_get-get_or, slice_get_within, get_or_from_slice_get}
use Rattle.boc_order.specs.declared.cown_links.CownLink.{CownLink}
use Rattle.boc_order.specs.CownLinks.{link_to}
use Rattle.boc_order.proofs.CownLinked.{passed_over, passed_more, next_at, adds_others}
use Rattle.boc_order.proofs.cown_links.add_others.Goals as goal
use Rattle.boc_order.proofs.cown_links.add_others.Goals.{then-link-cown+in_ok-push, else-link-cown}

pub loop-place-preserved : goal.loop-place-preserved
loop-place-preserved c =
    let is = slice_get-get_or c.args.links.now c.loop-place.place (link_to 0 0 0) c.loop-place-test.true in
    elim c.if-link-cown.branch [
      | then-link-cown+in_ok-push w ↦ rw (w.list-is, w.in_ok-push.ensures.items)
          (passed_more _ _ _ _ _ _ _ _ is c.if-links-place.true c.loop-place.invariant w.if-link-cown.true)
      | else-link-cown w ↦ rw w.list-is (passed_over _ _ _ _ _ _ _ _ is c.if-links-place.true c.loop-place.invariant w.if-link-cown.false)
    ]

-- the link at a place is that which is read there
read : (links : List CownLink) (place row : ℕ) → ((get_or links place (link_to 0 0 0)).before ≡ row → ⊥) → (l : CownLink) → slice_get links place ≡ Some l
    → l.before ≢ row
read links place row other l is e = other (ap (λ (m : CownLink). m.before) (get_or_from_slice_get links place l (link_to 0 0 0) is) ∙ e)

-- behind the last link there is none
behind : (links : List CownLink) (place row : ℕ) → (place < length links → ⊥) → (l : CownLink) → slice_get links place ≡ Some l → l.before ≢ row
behind links place row past l is e = past (slice_get_within links place l is)

pub returns-else-links-place-clause-next : goal.returns-else-links-place-clause-next
returns-else-links-place-clause-next c =
    next_at _ _ _ _ _ _ _ c.requires c.loop-place.invariant (read c.args.links.now c.loop-place.place c.args.row c.if-links-place.false)

pub returns-else-links-place-clause-adds : goal.returns-else-links-place-clause-adds
returns-else-links-place-clause-adds c =
    adds_others _ _ _ _ _ _ _ c.requires c.loop-place.invariant (read c.args.links.now c.loop-place.place c.args.row c.if-links-place.false)

pub returns-after-loop-place-clause-next : goal.returns-after-loop-place-clause-next
returns-after-loop-place-clause-next c =
    next_at _ _ _ _ _ _ _ c.requires c.loop-place.invariant
    (behind c.args.links.now c.loop-place.place c.args.row (λ h. omega (arith, h, c.loop-place-test.false)))

pub returns-after-loop-place-clause-adds : goal.returns-after-loop-place-clause-adds
returns-after-loop-place-clause-adds c =
    adds_others _ _ _ _ _ _ _ c.requires c.loop-place.invariant
    (behind c.args.links.now c.loop-place.place c.args.row (λ h. omega (arith, h, c.loop-place-test.false)))

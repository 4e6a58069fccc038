use Rattle.std.proofs.Common.{◌+◌, ◌∙◌, ℕ, Option, Some, ap, sym, subst}
use Rattle.std.proofs.lemmas.Option.{slice_get-get_or}
use Rattle.boc_cut.proofs.Rising.{Risen, risen_none, risen_some, risen_all}
use Rattle.boc_cut.proofs.origins.rise.Goals as goal
use Rattle.boc_cut.proofs.origins.rise.Goals.{in-Some+else-not-is_above, in-None}

pub loop-place-preserved : goal.loop-place-preserved
loop-place-preserved c =
    let origins = c.args.origins.now in
    let place = c.loop-place.place in
    elim c.match-origins-place.branch [
      | in-Some+else-not-is_above w ↦
          subst (λ (last : Option ℕ). Risen origins (place + 1) last) (sym w.last-is)
          (risen_some origins place c.loop-place.last w.in-Some.number c.loop-place.invariant
          (slice_get-get_or origins place _ c.loop-place-test.true ∙ ap Some w.in-Some.is) (w.is_above.ensures w.if-not-is_above.false))
      | in-None w ↦
          subst (λ (last : Option ℕ). Risen origins (place + 1) last) (sym w.last-is)
          (risen_none origins place c.loop-place.last c.loop-place.invariant
          (slice_get-get_or origins place _ c.loop-place-test.true ∙ ap Some w.in-None.is))
    ]

pub returns : goal.returns
returns c = λ _. risen_all c.args.origins.now c.loop-place.place c.loop-place.last c.loop-place.invariant c.loop-place-test.false

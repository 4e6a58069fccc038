use Rattle.std.proofs.Common.{◌≡◌, ◌<◌, ℕ, length, inl, inr, subst, arith}
use Rattle.std.specs.Prelude.{slice_index}
use Rattle.std.proofs.lemmas.Bool.{cases_lt}
use Rattle.boc_cut.specs.Windows.{HasCown}
use Rattle.boc_cut.proofs.Keeping.{kept_at}
use Rattle.boc_cut.proofs.origins.are_kept_of.Goals as goal

pub loop-place-preserved : goal.loop-place-preserved
loop-place-preserved c = λ place within. elim (cases_lt place c.loop-place.place) [
  | inl l ↦ c.loop-place.invariant place l
  | inr g ↦ (
      let here : c.loop-place.place ≡ place = omega (arith, g, within) in
      let held = c.args.held.now in
      let kept = c.args.kept.now in
      let uses = c.args.uses.now in
      subst (λ (p : ℕ). (slice_index held p < length kept) × HasCown uses (slice_index kept (slice_index held p))) here
      (kept_at kept uses held c.loop-place.place c.from-number.result c.from-number.ensures c.if-number-kept.false
      (c.has_cown.ensures c.if-not-has_cown.false)))
]

pub returns : goal.returns
returns c = λ _ place within. c.loop-place.invariant place (omega (arith, within, c.loop-place-test.false))

use Rattle.std.proofs.Common.{◌≡◌, ℕ, ◌≤◌, take, length, List, refl, subst, arith}
use Rattle.std.specs.Prelude.{slice_index}
use Rattle.std.specs.List.{AllZip}
use Rattle.std.proofs.lemmas.List.{take_more, take_all}
use Rattle.std.proofs.lemmas.List.Elements.{AllZip-push}
use Rattle.boc_sweep.specs.Passes.{tick_at}
use Rattle.boc_sweep.proofs.freed.all_at.Goals as goal

pub loop-place-preserved : goal.loop-place-preserved
loop-place-preserved c =
    let At = λ (place span : ℕ). span ≡ tick_at c.args.found.now place in
    let places : List ℕ = c.args.places.now in
    let i : ℕ = c.loop-place.place-index in
    rw (c.in_ok-push.ensures.items, take_more places i 0 c.loop-place-test.true)
    (AllZip-push At (take i places) c.loop-place.spans.items (slice_index places i) (tick_at c.args.found.now (slice_index places i))
    c.loop-place.invariant refl)

pub returns : goal.returns
returns c =
    let places : List ℕ = c.args.places.now in
    let all : length places ≤ c.loop-place.place-index = omega (arith, c.loop-place-test.false) in
    subst (λ (l : List ℕ). AllZip (λ (place span : ℕ). span ≡ tick_at c.args.found.now place) l c.loop-place.spans.items)
    (take_all c.loop-place.place-index places all) c.loop-place.invariant

use Rattle.std.proofs.Common.{◌≡◌, ◌∙◌, ◌<◌, ℕ, Bool, [], length, ap, sym, subst, arith}
use Rattle.std.proofs.lemmas.List.Elements.{All-nil, All-same}
use Rattle.boc_many_runs.specs.Lines.{is_told}
use Rattle.boc_many_runs.proofs.Ranges.{HavePassed, passed_more, passed_same}
use Rattle.boc_many_runs.proofs.lines.told_places.Goals as goal
use Rattle.boc_many_runs.proofs.lines.told_places.Goals.{then-is_told+in_ok-push, else-is_told}

pub loop-place-init : goal.loop-place-init
loop-place-init c =
    let low : ℕ → Type 0 = λ k. k < length c.args.remedies.now in
    record { are = c.new-places.ensures.items; there = All-same low c.new-places.result.items [] c.new-places.ensures.items (All-nil low) }

pub loop-place-preserved : goal.loop-place-preserved
loop-place-preserved c =
    let test : ℕ → Bool = is_told c.args.remedies.now c.args.columns.now c.args.runs in
    let n : ℕ = c.loop-place.place in
    elim c.if-is_told.branch [
      | then-is_told+in_ok-push w ↦
          passed_more test (length c.args.remedies.now) n c.loop-place.places.items c.if-is_told.places.items c.loop-place.invariant c.loop-place-test.true
          (sym c.is_told.ensures ∙ w.if-is_told.true) (ap (λ v. v.items) w.places-is ∙ w.in_ok-push.ensures.items)
      | else-is_told w ↦
          passed_same test (length c.args.remedies.now) n c.loop-place.places.items c.if-is_told.places.items c.loop-place.invariant
          (sym c.is_told.ensures ∙ w.if-is_told.false) (ap (λ v. v.items) w.places-is)
    ]

pub returns-clause-are : goal.returns-clause-are
returns-clause-are c =
    let all : c.loop-place.place ≡ length c.args.remedies.now = omega (arith, c.loop-place.auto.place-end, c.loop-place-test.false) in
    let so = subst (λ (n : ℕ). HavePassed (is_told c.args.remedies.now c.args.columns.now c.args.runs) (length c.args.remedies.now) n
    c.loop-place.places.items) all c.loop-place.invariant in
    so.are

pub returns-clause-there : goal.returns-clause-there
returns-clause-there c = c.loop-place.invariant.there

use Rattle.std.proofs.Common.{◌≡◌, ◌∙◌, ◌+◌, ◌<◌, ◌≤◌, ◌⊎◌, ◌++◌, ◌∷◌, [], ℕ, ℤ, pos, List, length, get_or, take, sym, subst, arith, rules, w64, Some, inl, inr}
use Rattle.std.specs.Int.RustNames.{FitsSigned}
use Rattle.std.specs.Prelude.{slice_get, slice_set}
use Rattle.std.proofs.lemmas.Bool.{cases_lt}
use Rattle.std.proofs.lemmas.Int.{to_z-of_z}
use Rattle.std.proofs.lemmas.Option.{slice_get-get_or}
use Rattle.boc_many_runs.specs.Runs.{pushed}
use Rattle.boc_many_runs.proofs.Pushing.{pushed_all, pushed_more, pushed_none}
use Rattle.boc_many_runs.proofs.columns.push_run.Goals as goal

pub loop-place-init : goal.loop-place-init
loop-place-init c = pushed_none c.args.columns.now

pub loop-place-preserved : goal.loop-place-preserved
loop-place-preserved c =
    let columns : List (List ℤ) = c.args.columns.now in
    let less : List ℤ = c.args.less.now in
    let i : ℕ = c.loop-place.place in
    let column : List ℤ = get_or c.loop-place.columns i c.index-columns-place.result in
    let own : ℤ = get_or less i (pos 0) in
    let fits : FitsSigned w64 own = search rules in
    let new = rw (to_z-of_z w64 own fits) at c.in_ok-push.ensures in
    let low : i < length columns = omega (arith, c.loop-place-test.true, c.min-count.ensures) in
    let there : i < length less = omega (arith, c.loop-place-test.true, c.min-count.ensures) in
    let here : slice_get c.loop-place.columns i ≡ Some column =
    slice_get-get_or c.loop-place.columns i c.index-columns-place.result (omega (arith, low)) in
    let got : slice_get (pushed columns (take i less)) i ≡ Some column = subst (λ (cs : List (List ℤ)). slice_get cs i ≡ Some column) c.loop-place.invariant here in
    let more : slice_set (pushed columns (take i less)) i (column ++ own ∷ []) ≡ pushed columns (take (i + 1) less) =
    pushed_more columns less i column own low (slice_get-get_or less i (pos 0) there) got in
    subst (λ (cs : List (List ℤ)). slice_set cs i c.push.new.self ≡ pushed columns (take (i + 1) less)) (sym c.loop-place.invariant)
    (subst (λ (l : List ℤ). slice_set (pushed columns (take i less)) i l ≡ pushed columns (take (i + 1) less)) (sym new) more)

pub returns : goal.returns
returns c =
    let columns : List (List ℤ) = c.args.columns.now in
    let less : List ℤ = c.args.less.now in
    let whole : (length columns ≤ c.loop-place.place) ⊎ (length less ≤ c.loop-place.place) = elim (cases_lt (length less) (length columns)) [
      | inl shorter ↦ inr (omega (arith, c.loop-place-test.false, c.min-count.ensures))
      | inr longer ↦ inl (omega (arith, c.loop-place-test.false, c.min-count.ensures))
    ] in
    c.loop-place.invariant ∙ pushed_all columns less c.loop-place.place whole

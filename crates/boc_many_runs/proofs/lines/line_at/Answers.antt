use Rattle.std.proofs.Common.{◌≡◌, ◌∙◌, ℕ, List, [], length, ap, sym, subst, refl, arith, rules, w64, Option, Some, ℤ}
use Rattle.std.specs.Prelude.{slice_get, slice_index_or}
use Rattle.std.specs.Int.RustNames.{FitsSigned}
use Rattle.std.specs.Ordering.{int_cmp}
use Rattle.std.proofs.lemmas.Int.{to_z-of_z}
use Rattle.std.proofs.lemmas.List.{get_or_read}
use Rattle.std.proofs.lemmas.Option.{slice_get_read}
use Rattle.boc_remedies.specs.declared.remedy.Remedy.{Remedy}
use Rattle.boc_many_runs.specs.Lines.{times_best}
use Rattle.boc_many_runs.specs.Spreads.{AreSpread}
use Rattle.boc_many_runs.proofs.lines.line_at.Goals as goal

pub returns : goal.returns
returns c = λ runs same.
    let remedies : List Remedy = c.args.remedies.now in
    let columns : List (List ℤ) = c.args.columns.now in
    let place : ℕ = c.args.place in
    let got : slice_get remedies place ≡ Some c.index-remedies-place.result =
    slice_get_read remedies (length remedies) place c.index-remedies-place.result refl c.requires.place c.index-remedies-place.is in
    let column : c.in_ok-numbers.numbers.items ≡ slice_index_or columns place [] = c.in_ok-numbers.ensures
    ∙ get_or_read columns place c.index-columns-place.result (omega (arith, c.requires.place, c.requires.whole)) c.index-columns-place.is [] in
    let s = c.signed_spread_of-least in
    let a : FitsSigned w64 s.result.0 = search rules in
    let b : FitsSigned w64 s.result.1 = search rules in
    let d : FitsSigned w64 s.result.2 = search rules in
    record {
      remedy = got ∙ ap (λ (r : Remedy). Some r) (sym c.in_ok-remedy.ensures);
      spread = rw (to_z-of_z w64 s.result.0 a, to_z-of_z w64 s.result.1 b, to_z-of_z w64 s.result.2 d)
          (subst (λ (xs : List ℤ). AreSpread int_cmp xs s.result.0 s.result.1 s.result.2) column s.ensures);
      best_in = c.times_best-best_in.ensures ∙ ap (λ (bs : List (Option ℕ)). times_best bs place) same;
    }

use Rattle.std.proofs.Common.{w64, rules, ◌≡◌, ◌∙◌, ℕ, ℤ, List, length, arith, refl, ap, ◌-◌, ◌/◌}
use Rattle.std.specs.Prelude.{slice_get}
use Rattle.std.specs.Int.RustNames.{FitsSigned}
use Rattle.std.proofs.lemmas.Int.{to_z-of_z}
use Rattle.std.proofs.lemmas.List.Sorted.{length_permutation}
use Rattle.std.proofs.lemmas.Option.{slice_get_read}
use Rattle.boc_many_runs.proofs.spread.signed_spread_of.Goals as goal

pub returns : goal.returns
returns c =
    let a : FitsSigned w64 c.index.result.now = search rules in
    let b : FitsSigned w64 c.index-2.result.now = search rules in
    let d : FitsSigned w64 c.index-3.result.now = search rules in
    let xs : List ℤ = c.args.numbers.items in
    let ys : List ℤ = c.sort_unstable.new.self.items in
    let long : length ys ≡ length xs = length_permutation xs ys c.sort_unstable.ensures.permutation in
    let last : ℕ = c.len-last.result - 1 in
    let is_last : length xs - 1 ≡ last = omega (arith, long) in
    rw (to_z-of_z w64 c.index.result.now a, to_z-of_z w64 c.index-2.result.now b, to_z-of_z w64 c.index-3.result.now d)
    record {
      ys = ys;
      in_order = record { same = c.sort_unstable.ensures.permutation; rising = c.sort_unstable.ensures.sorted };
      least_is = slice_get_read ys (length ys) 0 c.index.result.now refl (omega (arith, long)) c.index.ensures;
      median_is = ap (λ n. slice_get ys (n / 2)) is_last
          ∙ slice_get_read ys (length ys) (last / 2) c.index-2.result.now refl (omega (arith, long, is_last)) c.index-2.ensures;
      most_is = ap (slice_get ys) is_last ∙ slice_get_read ys (length ys) last c.index-3.result.now refl (omega (arith, long, is_last)) c.index-3.ensures;
    }

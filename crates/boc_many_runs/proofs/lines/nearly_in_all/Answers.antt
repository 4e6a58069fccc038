use Rattle.std.proofs.Common.{◌≡◌, ◌∙◌, ℕ, Bool, false, sym, rules, w64}
use Rattle.std.specs.Int.RustNames.{FitsSigned}
use Rattle.std.proofs.lemmas.Int.{to_z-of_z}
use Rattle.boc_many_runs.specs.Lines.{brings_nearly, in_run}
use Rattle.boc_many_runs.proofs.Ranges.{all_at}
use Rattle.boc_many_runs.proofs.lines.nearly_in_all.Goals as goal

pub returns-then-not-brings_nearly : goal.returns-then-not-brings_nearly
returns-then-not-brings_nearly c =
    let test : ℕ → Bool = λ number. brings_nearly (in_run c.args.column.now number) (in_run c.args.other.now number) in
    let a : FitsSigned w64 c.in_run.result = search rules in
    let b : FitsSigned w64 c.in_run-in-loop-number.result = search rules in
    let own = to_z-of_z w64 c.in_run.result a ∙ c.in_run.ensures in
    let other = to_z-of_z w64 c.in_run-in-loop-number.result b ∙ c.in_run-in-loop-number.ensures in
    let less : test c.loop-number.number ≡ false =
    sym (c.brings_nearly.ensures ∙ (λ i. brings_nearly (own i) (other i))) ∙ c.if-not-brings_nearly.true in
    sym (all_at test c.args.runs c.loop-number.number c.loop-number-test.true less)

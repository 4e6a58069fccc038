-- The runs of outcomes add up to the samples.
use Rattle.std.proofs.Common.{◌≡◌, ◌≢◌, ℕ, zero, suc, ◌+◌, ◌<◌, List, [], ◌∷◌, length, arith, refl, sym, ap, ◌∙◌, Some, None}
use Rattle.std.specs.Prelude.{slice_get}
use Rattle.std.specs.List.{Contains, sum_by}
use Rattle.std.proofs.lemmas.List.Elements.{Contains-append_right}
use Rattle.std.proofs.lemmas.List.Sums.{sum_by-cons}
use Rattle.boc_rules.proofs.Lists.{one_got}
use Rattle.boc_outcomes.specs.declared.tally.Outcome.{Outcome}
use Rattle.boc_outcomes.specs.declared.tally.Outcomes.{Outcomes}
use Rattle.boc_outcomes.specs.Samples.{Sample}
use Rattle.boc_outcomes.specs.Tallies.{HasOutcome, IsTally, all_runs, runs_to}
use Rattle.boc_outcomes.proofs.Counting.{one_for, one_no, one_yes}

-- one for an outcome to which a sample came
abbrev one_of : Sample → Outcome → ℕ
one_of s o = one_for o.values.items s

-- how many samples came to each outcome
abbrev runs_of : List Sample → Outcome → ℕ
runs_of samples o = runs_to o.values.items samples

abbrev Apart : List Outcome → Type 0
Apart all = (i j : ℕ) (a b : Outcome) → i < j → slice_get all i ≡ Some a → slice_get all j ≡ Some b → a.values.items ≢ b.values.items

apart_behind : (o : Outcome) (all : List Outcome) → Apart (o ∷ all) → Apart all
apart_behind o all apart i j a b l ia ib = apart (suc i) (suc j) a b (omega (arith, l)) ia ib

none_of : (s : Sample) (all : List Outcome) → ((i : ℕ) (o : Outcome) → slice_get all i ≡ Some o → s.values ≢ o.values.items) → sum_by (one_of s) all ≡ 0
none_of s [] none = refl
none_of s (o ∷ all) none =
    let here : one_of s o ≡ 0 = one_no o.values.items s (none 0 o refl) in
    let later : sum_by (one_of s) all ≡ 0 = none_of s all (λ i x is. none (suc i) x is) in
    omega (arith, sum_by-cons (one_of s) o all, here, later)

one_at : (s : Sample) (all : List Outcome) (place : ℕ) (x : Outcome) → Apart all → slice_get all place ≡ Some x → x.values.items ≡ s.values
    → sum_by (one_of s) all ≡ 1
one_at s [] place x apart is same = absurd (let g : None ≡ Some x = is in cc)
one_at s (o ∷ all) zero x apart is same =
    let own : o ≡ x = one_got (o ∷ all) 0 o x refl is in
    let here : one_of s o ≡ 1 = one_yes o.values.items s (sym same ∙ ap (λ (y : Outcome). y.values.items) (sym own)) in
    let later : sum_by (one_of s) all ≡ 0 = none_of s all (λ i y iy e. apart 0 (suc i) o y (omega arith) refl iy
    (ap (λ (z : Outcome). z.values.items) own ∙ same ∙ e)) in
    omega (arith, sum_by-cons (one_of s) o all, here, later)
one_at s (o ∷ all) (suc place) x apart is same =
    let here : one_of s o ≡ 0 = one_no o.values.items s (λ e. apart 0 (suc place) o x (omega arith) refl is (sym e ∙ sym same)) in
    let later : sum_by (one_of s) all ≡ 1 = one_at s all place x (apart_behind o all apart) is same in
    omega (arith, sum_by-cons (one_of s) o all, here, later)

no_runs : (all : List Outcome) → sum_by (runs_of []) all ≡ 0
no_runs [] = refl
no_runs (o ∷ all) = omega (arith, sum_by-cons (runs_of []) o all, no_runs all)

more_runs : (s : Sample) (samples : List Sample) (all : List Outcome)
    → sum_by (runs_of (s ∷ samples)) all ≡ sum_by (one_of s) all + sum_by (runs_of samples) all
more_runs s samples [] = refl
more_runs s samples (o ∷ all) =
    let own : runs_of (s ∷ samples) o ≡ one_of s o + runs_of samples o = sum_by-cons (one_for o.values.items) s samples in
    omega (arith, own, sum_by-cons (runs_of (s ∷ samples)) o all, sum_by-cons (one_of s) o all, sum_by-cons (runs_of samples) o all, more_runs s samples all)

counted_all : (samples : List Sample) (all : List Outcome) → Apart all → ((s : Sample) → Contains samples s → HasOutcome all s.values)
    → sum_by (runs_of samples) all ≡ length samples
counted_all [] all apart has = no_runs all
counted_all (s ∷ samples) all apart has =
    let h = has s (0, omega arith, refl) in
    let one : sum_by (one_of s) all ≡ 1 = one_at s all h.place h.outcome apart h.there h.same in
    let later : sum_by (runs_of samples) all ≡ length samples = counted_all samples all apart
    (λ x there. has x (Contains-append_right (s ∷ []) samples x there)) in
    omega (arith, more_runs s samples all, one, later)

same_runs : (samples : List Sample) (all : List Outcome) → ((i : ℕ) (o : Outcome) → slice_get all i ≡ Some o → o.runs ≡ runs_of samples o)
    → all_runs all ≡ sum_by (runs_of samples) all
same_runs samples [] each = refl
same_runs samples (o ∷ all) each =
    omega (
      arith,
      each 0 o refl,
      sum_by-cons (λ (x : Outcome). x.runs) o all,
      sum_by-cons (runs_of samples) o all,
      same_runs samples all (λ i x is. each (suc i) x is),
    )

pub runs_add_up : (seed : ℕ) (samples : List Sample) (a : Outcomes) → IsTally seed samples a → all_runs a.all.items ≡ length samples
runs_add_up seed samples a is =
    same_runs samples a.all.items (λ i o at. (is.outcomes_are.each i o at).runs)
    ∙ counted_all samples a.all.items is.outcomes_are.distinct is.outcomes_are.all

-- What draws come to is a function of the program and of what is asked.
use Rattle.std.proofs.Common.{◌≡◌, ℕ, suc, ◌+◌, List, [], ◌∷◌, length, map, arith, refl, sym, ap, subst, ◌∙◌, Some, ℤ}
use Rattle.std.specs.Prelude.{slice_get, Ok, Err}
use Rattle.boc_program.proofs.ChangedItems.{item_at}
use Rattle.boc_program.specs.declared.program.Program.{Program}
use Rattle.boc_runs.specs.declared.event.Event.{Event}
use Rattle.boc_runs.specs.declared.rows.Row.{Row}
use Rattle.boc_runs.specs.Legal.{entries}
use Rattle.boc_runs.specs.machine.Steps.{values as values_at}
use Rattle.boc_runs.specs.machine.Turns.{Driven}
use Rattle.boc_plans.specs.declared.sharing.Sharing.TheVariants.{Exclusive}
use Rattle.boc_plans.specs.Greedy.{IsSpan}
use Rattle.boc_plans.specs.Seen.{seen}
use Rattle.boc_order.proofs.Alone.{one_span}
use Rattle.boc_rules.specs.Logged.{row_of}
use Rattle.boc_rules.proofs.KeptRows.{rows_of_run}
use Rattle.boc_draws.specs.declared.drawing.Drawn.{Drawn}
use Rattle.boc_draws.specs.declared.fault.DrawFault.TheVariants as faults
use Rattle.boc_draws.specs.declared.way.Way.{Way}
use Rattle.boc_draws.specs.Draws.{IsDrawn}
use Rattle.boc_draws.proofs.OneDraw.{drawn_or_full, one_drawn}
use Rattle.boc_outcomes.specs.declared.asked.Asked.{Asked}
use Rattle.boc_outcomes.specs.declared.tally.Outcome.{Outcome}
use Rattle.boc_outcomes.specs.declared.tally.Outcomes.{Outcomes}
use Rattle.boc_outcomes.specs.Samples.{AreSamples, IsSample, IsSampleOf, Sample, seed_of}
use Rattle.boc_outcomes.specs.Tallies.{AnswersAsked, AreSame, IsTally, all_runs}
use Rattle.boc_outcomes.proofs.Alone.{one_tally}
use Rattle.boc_outcomes.proofs.AddingUp.{runs_add_up}

-- two draws have the same rows
same_rows : (p : Program) (workers : ℕ) (way : Way) (seed : ℕ) (a b : Drawn) → IsDrawn p workers way seed a → IsDrawn p workers way seed b
    → a.record.rows ≡ b.record.rows
same_rows p workers way seed a b x y =
    let events : a.record.events ≡ b.record.events =
    x.events ∙ ap (λ (d : Driven). d.state.log) (one_drawn p workers way seed a b x y) ∙ sym y.events in
    sym (rows_of_run (entries a.record.events) a.record.rows x.whole.rows_are)
    ∙ ap (λ (es : List Event). map row_of (entries es)) events
    ∙ rows_of_run (entries b.record.events) b.record.rows y.whole.rows_are

-- and the same values
same_values : (p : Program) (workers : ℕ) (way : Way) (seed : ℕ) (a b : Drawn) → IsDrawn p workers way seed a → IsDrawn p workers way seed b
    → a.values.items ≡ b.values.items
same_values p workers way seed a b x y =
    x.values_are ∙ ap (λ (d : Driven). values_at p d.state) (one_drawn p workers way seed a b x y) ∙ sym y.values_are

abbrev sample_made : List ℤ → ℕ → ℕ → Sample
sample_made values rows span = record { values = values; rows = rows; span = span }

-- a draw comes to one sample
pub one_sample : (p : Program) (workers : ℕ) (way : Way) (seed : ℕ) (a b : Sample) → IsSample p workers way seed a → IsSample p workers way seed b → a ≡ b
one_sample p workers way seed a b x y =
    let rows : x.drawn.record.rows ≡ y.drawn.record.rows = same_rows p workers way seed x.drawn y.drawn x.is_draw y.is_draw in
    let values : a.values ≡ b.values =
    x.values_are ∙ same_values p workers way seed x.drawn y.drawn x.is_draw y.is_draw ∙ sym y.values_are in
    let many : a.rows ≡ b.rows = x.rows_are ∙ ap (λ (rs : List Row). length rs) rows ∙ sym y.rows_are in
    let span : a.span ≡ b.span = one_span (seen Exclusive y.drawn.record.rows) a.span b.span
    (subst (λ (rs : List Row). IsSpan (seen Exclusive rs) a.span) rows x.span_is) y.span_is in
    λ i. sample_made (values i) (many i) (span i)

-- and so many draws to one list of them
module _ (p : Program) (asked : Asked) where
  same_lists : (from : ℕ) (xs ys : List Sample) → length xs ≡ length ys
      → ((k : ℕ) (s : Sample) → slice_get xs k ≡ Some s → IsSampleOf p asked (from + k) s)
      → ((k : ℕ) (s : Sample) → slice_get ys k ≡ Some s → IsSampleOf p asked (from + k) s) → xs ≡ ys
  same_lists from [] [] long ex ey = refl
  same_lists from [] (y ∷ ys) long ex ey = absurd (omega (arith, long))
  same_lists from (x ∷ xs) [] long ex ey = absurd (omega (arith, long))
  same_lists from (x ∷ xs) (y ∷ ys) long ex ey =
      let here : x ≡ y = one_sample p asked.workers asked.way (seed_of asked.seed (from + 0)) x y (ex 0 x refl) (ey 0 y refl) in
      let behind : xs ≡ ys = same_lists (suc from) xs ys (omega (arith, long))
      (λ k s is. let e : from + suc k ≡ suc from + k = omega arith in subst (λ (n : ℕ). IsSampleOf p asked n s) e (ex (suc k) s is))
      (λ k s is. let e : from + suc k ≡ suc from + k = omega arith in subst (λ (n : ℕ). IsSampleOf p asked n s) e (ey (suc k) s is)) in
      ap (λ (s : Sample). s ∷ xs) here ∙ ap (λ (l : List Sample). y ∷ l) behind

  from_none : (xs : List Sample) (count : ℕ) → AreSamples p asked count xs → (k : ℕ) (s : Sample) → slice_get xs k ≡ Some s → IsSampleOf p asked (0 + k) s
  from_none xs count are k s is =
      let e : k ≡ 0 + k = omega arith in
      subst (λ (n : ℕ). IsSampleOf p asked n s) e (are.each k s is)

  pub one_list : (count : ℕ) (xs ys : List Sample) → AreSamples p asked count xs → AreSamples p asked count ys → xs ≡ ys
  one_list count xs ys x y = same_lists 0 xs ys (x.all ∙ sym y.all) (from_none xs count x) (from_none ys count y)

  pub same_outcomes : (a b : Outcomes) → AnswersAsked p asked (Ok a) → AnswersAsked p asked (Ok b) → AreSame a b
  same_outcomes a b x y =
      let one : x.0 ≡ y.0 = one_list asked.runs x.0 y.0 x.1 y.1 in
      one_tally asked.seed y.0 a b (subst (λ (l : List Sample). IsTally asked.seed l a) one x.2) y.2

  pub runs_are_all : (a : Outcomes) → AnswersAsked p asked (Ok a) → all_runs a.all.items ≡ asked.runs
  runs_are_all a x = runs_add_up asked.seed x.0 a x.2 ∙ x.1.all

  pub outcomes_or_full : (a : Outcomes) → AnswersAsked p asked (Ok a) → AnswersAsked p asked (Err faults.Behaviours) → ⊥
  outcomes_or_full a (samples, are, tally) (number, low, full) =
      let w = item_at samples number (omega (arith, low, are.all)) in
      let is = are.each number w.0 w.1 in
      drawn_or_full p asked.workers asked.way (seed_of asked.seed number) is.drawn is.is_draw full

  pub brought_back : (a : Outcomes) (i : ℕ) (o : Outcome) → AnswersAsked p asked (Ok a) → slice_get a.all.items i ≡ Some o
      → (sample : Sample) × IsSample p asked.workers asked.way o.seed sample × (sample.values ≡ o.values.items)
  brought_back a i o (samples, are, tally) is =
      let own = tally.outcomes_are.each i o is in (
        own.first.sample,
        subst (λ (seed : ℕ). IsSample p asked.workers asked.way seed own.first.sample) (sym own.seed_is)
            (are.each o.first own.first.sample own.first.there),
        own.first.same,
      )

-- Samples have one tally at most.
use Rattle.std.proofs.Common.{◌≡◌, ℕ, zero, suc, ◌<◌, ◌≤◌, List, length, arith, sym, ap, subst, ◌∙◌, ⊎_elim, Some, ℤ}
use Rattle.std.specs.Prelude.{slice_get}
use Rattle.std.proofs.lemmas.Bool.{cases_lt, cases_order}
use Rattle.std.proofs.lemmas.Option.{slice_get_within}
use Rattle.boc_program.proofs.ChangedItems.{item_at}
use Rattle.boc_rules.proofs.Lists.{one_got}
use Rattle.boc_outcomes.specs.declared.bounds.Bounds.{Bounds}
use Rattle.boc_outcomes.specs.declared.tally.Outcome.{Outcome}
use Rattle.boc_outcomes.specs.declared.tally.Outcomes.{Outcomes}
use Rattle.boc_outcomes.specs.Samples.{Sample, seed_of}
use Rattle.boc_outcomes.specs.Tallies.{Any, AreBounds, AreSame, HasOutcomes, IsFirstTo, IsOutcome, IsSame, IsTally, StandInOrder, StandsBefore, runs_to}
use Rattle.boc_order.proofs.Places.{contains_from_place}
use Rattle.boc_outcomes.proofs.Counting.{one_first}

abbrev bounds_made : ℕ → ℕ → Bounds
bounds_made least most = record { least = least; most = most }

-- ---- bounds

module _ (So : Sample → Type 0) (measure : Sample → ℕ) (samples : List Sample) where
  no_less : (a b : Bounds) → AreBounds So measure samples a → AreBounds So measure samples b → a.least ≤ b.least
  no_less a b x y =
      let low = y.least_is in
      let w = x.within low.0 low.1 low.2 in
      omega (arith, w.0, low.3)

  no_more : (a b : Bounds) → AreBounds So measure samples a → AreBounds So measure samples b → b.most ≤ a.most
  no_more a b x y =
      let high = y.most_is in
      let w = x.within high.0 high.1 high.2 in
      omega (arith, w.1, high.3)

  pub one_bounds : (a b : Bounds) → AreBounds So measure samples a → AreBounds So measure samples b → a ≡ b
  one_bounds a b x y =
      let least : a.least ≡ b.least = omega (arith, no_less a b x y, no_less b a y x) in
      let most : a.most ≡ b.most = omega (arith, no_more a b x y, no_more b a y x) in
      λ i. bounds_made (least i) (most i)

-- ---- outcomes

module _ (seed : ℕ) (samples : List Sample) where
  one_outcome : (a b : Outcome) → IsOutcome seed samples a → IsOutcome seed samples b → a.values.items ≡ b.values.items → IsSame a b
  one_outcome a b x y e =
      let first : a.first ≡ b.first = one_first b.values.items samples a.first b.first
      (subst (λ (v : List ℤ). IsFirstTo v samples a.first) e x.first) y.first in
      record {
        values = e;
        runs = x.runs ∙ ap (λ (v : List ℤ). runs_to v samples) e ∙ sym y.runs;
        first = first;
        seed = x.seed_is ∙ ap (seed_of seed) first ∙ sym y.seed_is;
        spans = one_bounds (λ (s : Sample). s.values ≡ b.values.items) (λ (s : Sample). s.span) samples a.spans b.spans
            (subst (λ (v : List ℤ). AreBounds (λ (s : Sample). s.values ≡ v) (λ (s : Sample). s.span) samples a.spans) e x.spans) y.spans;
      }

  -- an outcome of the one list stands in the other
  record Twin (ys : List Outcome) (x : Outcome) : Type 0 where
    pub place : ℕ
    pub outcome : Outcome
    pub there : slice_get ys place ≡ Some outcome
    pub same : IsSame x outcome

  module _ (xs ys : List Outcome) (hx : HasOutcomes seed samples xs) (hy : HasOutcomes seed samples ys) where
    twin : (i : ℕ) (x : Outcome) → slice_get xs i ≡ Some x → Twin ys x
    twin i x is =
        let first = (hx.each i x is).first in
        let h = hy.all first.sample (contains_from_place samples x.first first.sample first.there) in
        record {
          place = h.place;
          outcome = h.outcome;
          there = h.there;
          same = one_outcome x h.outcome (hx.each i x is) (hy.each h.place h.outcome h.there) (sym (h.same ∙ first.same));
        }

    module _ (ox : StandInOrder xs) (oy : StandInOrder ys) where
      not_before : (a b c d : Outcome) → IsSame a c → IsSame b d → StandsBefore a b → StandsBefore d c → ⊥
      not_before a b c d ac bd before behind = ⊎_elim
          (λ (l : b.runs < a.runs). ⊎_elim
          (λ (m : c.runs < d.runs). omega (arith, ac.runs, bd.runs, l, m))
          (λ (m : (d.runs ≡ c.runs) × (d.first < c.first)). omega (arith, ac.runs, bd.runs, l, m.0))
          behind)
          (λ (l : (a.runs ≡ b.runs) × (a.first < b.first)). ⊎_elim
          (λ (m : c.runs < d.runs). omega (arith, ac.runs, bd.runs, l.0, m))
          (λ (m : (d.runs ≡ c.runs) × (d.first < c.first)). omega (arith, ac.first, bd.first, l.1, m.1))
          behind)
          before

      rises : (i j : ℕ) (x z : Outcome) (ix : slice_get xs i ≡ Some x) (jz : slice_get xs j ≡ Some z) → i < j → (twin i x ix).place < (twin j z jz).place
      rises i j x z ix jz l =
          let t = twin i x ix in
          let u = twin j z jz in
          ⊎_elim
          (λ (e : t.place ≡ u.place).
          let one : t.outcome ≡ u.outcome = one_got ys u.place t.outcome u.outcome (ap (slice_get ys) (sym e) ∙ t.there) u.there in
          absurd (hx.distinct i j x z l ix jz (t.same.values ∙ ap (λ (o : Outcome). o.values.items) one ∙ sym u.same.values)))
          (⊎_elim
          (λ (m : t.place < u.place). m)
          (λ (g : u.place < t.place). absurd (not_before x z t.outcome u.outcome t.same u.same (ox i j x z l ix jz)
          (oy u.place t.place u.outcome t.outcome g u.there t.there))))
          (cases_order t.place u.place)

      no_lower : (i : ℕ) (x : Outcome) (ix : slice_get xs i ≡ Some x) → i ≤ (twin i x ix).place
      no_lower zero x ix = omega arith
      no_lower (suc i) x ix =
          let w = item_at xs i (omega (arith, slice_get_within xs (suc i) x ix)) in
          omega (arith, no_lower i w.0 w.1, rises i (suc i) w.0 x w.1 ix (omega arith))

  -- an outcome stands at the same place of both
  same_place : (xs ys : List Outcome) (hx : HasOutcomes seed samples xs) (hy : HasOutcomes seed samples ys) → StandInOrder xs → StandInOrder ys
      → (i : ℕ) (x : Outcome) (ix : slice_get xs i ≡ Some x) → (twin xs ys hx hy i x ix).place ≡ i
  same_place xs ys hx hy ox oy i x ix =
      let t = twin xs ys hx hy i x ix in
      let back = twin ys xs hy hx t.place t.outcome t.there in
      let again : back.outcome.values.items ≡ x.values.items = sym back.same.values ∙ sym t.same.values in
      let home : back.place ≡ i = ⊎_elim
      (λ (e : back.place ≡ i). e)
      (⊎_elim
      (λ (l : back.place < i). absurd (hx.distinct back.place i back.outcome x l back.there ix again))
      (λ (g : i < back.place). absurd (hx.distinct i back.place x back.outcome g ix back.there (sym again))))
      (cases_order back.place i) in
      omega (arith, home, no_lower xs ys hx hy ox oy i x ix, no_lower ys xs hy hx oy ox t.place t.outcome t.there)

  no_longer : (xs ys : List Outcome) → HasOutcomes seed samples xs → HasOutcomes seed samples ys → StandInOrder xs → StandInOrder ys → length xs ≤ length ys
  no_longer xs ys hx hy ox oy = ⊎_elim
      (λ (l : length ys < length xs).
      let w = item_at xs (length ys) l in
      let t = twin xs ys hx hy (length ys) w.0 w.1 in
      absurd (omega (arith, slice_get_within ys t.place t.outcome t.there, same_place xs ys hx hy ox oy (length ys) w.0 w.1)))
      (λ (g : length xs ≤ length ys). g)
      (cases_lt (length ys) (length xs))

  pub one_tally : (a b : Outcomes) → IsTally seed samples a → IsTally seed samples b → AreSame a b
  one_tally a b x y = record {
    rows = one_bounds Any (λ (s : Sample). s.rows) samples a.rows b.rows x.rows y.rows;
    spans = one_bounds Any (λ (s : Sample). s.span) samples a.spans b.spans x.spans y.spans;
    many = omega (
      arith,
      no_longer a.all.items b.all.items x.outcomes_are y.outcomes_are x.in_order y.in_order,
      no_longer b.all.items a.all.items y.outcomes_are x.outcomes_are y.in_order x.in_order,
    );
    each = λ i v w iv iw.
        (let t = twin a.all.items b.all.items x.outcomes_are y.outcomes_are i v iv in
        let e : t.place ≡ i = same_place a.all.items b.all.items x.outcomes_are y.outcomes_are x.in_order y.in_order i v iv in
        subst (IsSame v) (one_got b.all.items i t.outcome w (ap (slice_get b.all.items) (sym e) ∙ t.there) iw) t.same);
  }

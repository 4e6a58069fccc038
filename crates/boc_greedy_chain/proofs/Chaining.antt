-- The steps of a greedy plan's chain: what ties them, and what they weigh.
use Rattle.std.proofs.Common.{◌≡◌, ℕ, zero, suc, ◌+◌, ◌<◌, ◌≤◌, List, [], ◌∷◌, ◌++◌, reverse, length, Some, None, refl, sym, ◌∙◌, ap, subst}
use Rattle.std.proofs.Common.{inl, inr, arith}
use Rattle.std.specs.Prelude.{slice_get, ⊤}
use Rattle.std.specs.List.{sum_by}
use Rattle.std.proofs.lemmas.Bool.{cases_lt}
use Rattle.std.proofs.lemmas.List.{reverse-append}
use Rattle.std.proofs.lemmas.List.Sums.{sum_by-cons}
use Rattle.boc_runs.specs.declared.rows.Row.{Row}
use Rattle.boc_runs.specs.Rows.{IsRows, ticks_of}
use Rattle.boc_plans.specs.Plans.{IsEnd, HasEnds, end_of, start_of}
use Rattle.boc_plans.specs.Greedy.{IsGreedy}
use Rattle.boc_greedy_chain.specs.declared.chain.GreedyStep.{GreedyStep}
use Rattle.boc_greedy_chain.specs.declared.chain.Tie.{Tie}
use Rattle.boc_greedy_chain.specs.declared.chain.Tie.TheVariants.{Spawn, Order, Worker, Last}
use Rattle.boc_greedy_chain.specs.GreedyChains.{IsFirstAt, IsGreedyChain, IsTiedTo, TieSays}
use Rattle.boc_greedy_chain.proofs.Freeing.{main_at_once}

-- what the steps weigh together
abbrev pub weight_of : List GreedyStep → ℕ
weight_of steps = sum_by (λ (s : GreedyStep). s.weight) steps

-- a plan has one end
same_end : (rows : List Row) (plan : List ℕ) (last other : ℕ) → IsEnd rows plan last → IsEnd rows plan other → last ≡ other
same_end rows plan last other e f =
    omega (arith, e.reached.2, f.reached.2, e.none_later f.reached.0 f.reached.1, f.none_later e.reached.0 e.reached.1)

module _ (rows : List Row) (plan workers : List ℕ) where
  -- of the steps each is a row's, and tied to the one after it
  abbrev pub AreTied : List GreedyStep → Type 0
  AreTied [] = ⊤
  AreTied (s ∷ steps) = (s.row < length rows) × TieSays rows plan workers s.row s.weight s.tie (slice_get steps 0) × AreTied steps

  -- the steps lead on from row r to the end of the plan
  pub record LeadOn (r : ℕ) (steps : List GreedyStep) : Type 0 where
    pub top : GreedyStep
    pub rest : List GreedyStep
    pub is : steps ≡ top ∷ rest
    pub at : top.row ≡ r
    pub tied : AreTied steps

  -- the last step alone
  pub lead_last : (s : GreedyStep) → s.row < length rows → s.tie ≡ Last → s.weight ≡ ticks_of rows s.row → IsEnd rows plan (end_of rows plan s.row)
      → ((other : ℕ) → other < length rows → IsEnd rows plan (end_of rows plan other) → s.row ≤ other) → LeadOn s.row (s ∷ [])
  lead_last s there tie weight ends first = record {
    top = s;
    rest = [];
    is = refl;
    at = refl;
    tied = (there, subst (λ (x : Tie). TieSays rows plan workers s.row s.weight x None) (sym tie) (ends, first, weight), tt);
  }

  -- one more step in front
  pub lead_more : (s : GreedyStep) (b : ℕ) (steps : List GreedyStep) → s.row < length rows → IsTiedTo rows plan workers s b → LeadOn b steps
      → LeadOn s.row (s ∷ steps)
  lead_more s b steps there tied l = rw l.is (record {
    top = s;
    rest = l.top ∷ l.rest;
    is = refl;
    at = refl;
    tied = (there, tied l.top l.at, rw l.is at l.tied);
  })

  each_tied : (steps : List GreedyStep) → AreTied steps → (k : ℕ) (s : GreedyStep) → slice_get steps k ≡ Some s →
      (s.row < length rows) × TieSays rows plan workers s.row s.weight s.tie (slice_get steps (suc k))
  each_tied [] t k s q = absurd (cc)
  each_tied (x ∷ steps) t zero s q =
      let same : x ≡ s = cc in
      subst (λ (y : GreedyStep). (y.row < length rows) × TieSays rows plan workers y.row y.weight y.tie (slice_get steps 0)) same (t.0, t.1)
  each_tied (x ∷ steps) t (suc k) s q = each_tied steps t.2 k s q

  -- all the way back
  pub lead_all : (steps : List GreedyStep) → LeadOn 0 steps → IsGreedyChain rows plan workers steps
  lead_all steps l = record {
    not_empty = omega (arith, ap length l.is);
    main = λ s q. (let p : slice_get (l.top ∷ l.rest) 0 ≡ Some s = rw l.is at q in let same : l.top ≡ s = cc in rw (sym same) l.at);
    there = λ k s q. (each_tied steps l.tied k s q).0;
    ties = λ k s q. (each_tied steps l.tied k s q).1;
  }

  module _ (hr : IsRows rows) where
    -- a tie leads from start to start
    pub tie_starts : (tie : Tie) (a weight : ℕ) (next : GreedyStep) → next.row < length rows → TieSays rows plan workers a weight tie (Some next)
        → (a < length rows) × (start_of plan a + weight ≡ start_of plan next.row) × (0 < weight)
    tie_starts Spawn a weight next there t =
        let before = hr.parent_before next.row t.0.not_main there in
        let same : start_of plan t.1.0 ≡ start_of plan a = ap (start_of plan) (sym t.1.1.parent ∙ t.0.parent) in (
          omega (arith, before, t.0.parent, there),
          omega (arith, t.1.2, same, t.2),
          omega (arith, t.2, hr.offset_above next.row t.0.not_main there),
        )
    tie_starts Order a weight next there t =
        let in_rows : a < length rows = omega (arith, t.1.0.before, there) in (
          in_rows,
          omega (arith, t.1.1, t.3),
          omega (arith, t.3, hr.ticks_low a in_rows),
        )
    tie_starts Worker a weight next there t = (t.1.there, omega (arith, t.1.at_once, t.2), omega (arith, t.2, hr.ticks_low a t.1.there))
    tie_starts Last a weight next there t = absurd t

    tie_ends : (last : ℕ) → IsEnd rows plan last → (tie : Tie) (a weight : ℕ) → TieSays rows plan workers a weight tie None → start_of plan a + weight ≡ last
    tie_ends last end Spawn a weight t = absurd t
    tie_ends last end Order a weight t = absurd t
    tie_ends last end Worker a weight t = absurd t
    tie_ends last end Last a weight t = omega (arith, t.2, same_end rows plan _ last t.0 end)

    -- a step that is tied to a row is that of a row that starts sooner
    pub tied_sooner : (s : GreedyStep) (b : ℕ) → b < length rows → IsTiedTo rows plan workers s b
        → (s.row < length rows) × (start_of plan s.row < start_of plan b)
    tied_sooner s b there tied =
        let t = tie_starts s.tie s.row s.weight (record { row = b; tie = Last; weight = 0 }) there (tied (record { row = b; tie = Last; weight = 0 }) refl) in
        (t.0, omega (arith, t.1, t.2))

    -- so the steps lead from the start of the first one to the end of the plan
    reaches : (last : ℕ) → IsEnd rows plan last → (s : GreedyStep) (rest : List GreedyStep)
        → ((k : ℕ) (t : GreedyStep) → slice_get (s ∷ rest) k ≡ Some t → t.row < length rows)
        → ((k : ℕ) (t : GreedyStep) → slice_get (s ∷ rest) k ≡ Some t → TieSays rows plan workers t.row t.weight t.tie (slice_get (s ∷ rest) (suc k)))
        → start_of plan s.row + weight_of (s ∷ rest) ≡ last
    reaches last end s [] there ties =
        let here : start_of plan s.row + s.weight ≡ last = tie_ends last end s.tie s.row s.weight (ties 0 s refl) in
        omega (arith, here)
    reaches last end s (next ∷ rest) there ties =
        let here = tie_starts s.tie s.row s.weight next (there 1 next refl) (ties 0 s refl) in
        let on : start_of plan next.row + weight_of (next ∷ rest) ≡ last =
        reaches last end next rest (λ k t e. there (suc k) t e) (λ k t e. ties (suc k) t e) in
        let sums : weight_of (s ∷ next ∷ rest) ≡ s.weight + weight_of (next ∷ rest) = sum_by-cons (λ (t : GreedyStep). t.weight) s (next ∷ rest) in
        omega (arith, here.1, on, sums)

    -- the weights of a chain add up to the end of the plan
    pub weight_is_end : (p last : ℕ) (steps : List GreedyStep) → IsGreedy rows p plan workers → IsEnd rows plan last → IsGreedyChain rows plan workers steps
        → weight_of steps ≡ last
    weight_is_end p last [] g end c = absurd (omega (arith, c.not_empty))
    weight_is_end p last (s ∷ rest) g end c =
        let first : start_of plan s.row ≡ start_of plan 0 = ap (start_of plan) (c.main s refl) in
        omega (arith, reaches last end s rest c.there c.ties, first, main_at_once rows hr p plan workers g)

-- the first row that ends when the plan does
pub first_is_least : (rows : List Row) (plan ends : List ℕ) (last r : ℕ) → HasEnds rows plan ends → IsEnd rows plan last → IsFirstAt ends last r
    → (r < length rows) × IsEnd rows plan (end_of rows plan r)
    × ((other : ℕ) → other < length rows → IsEnd rows plan (end_of rows plan other) → r ≤ other)
first_is_least rows plan ends last r has end f =
    let there : r < length rows = omega (arith, f.there, has.whole) in
    let at : end_of rows plan r ≡ last = sym (has.at r there) ∙ f.ends_then in (
      there,
      subst (IsEnd rows plan) (sym at) end,
      λ other h e. elim (cases_lt other r) [
        | inl l ↦ absurd (f.none_before other l (has.at other h ∙ same_end rows plan _ last e end))
        | inr ge ↦ ge
      ],
    )

pub reverse_push : (xs : List GreedyStep) (x : GreedyStep) → reverse (xs ++ x ∷ []) ≡ x ∷ reverse xs
reverse_push xs x = reverse-append xs (x ∷ [])

-- the first step that is made
pub lead_first : (rows : List Row) (plan workers ends : List ℕ) (last r : ℕ) → HasEnds rows plan ends → IsEnd rows plan last → IsFirstAt ends last r
    → (s : GreedyStep) (steps all : List GreedyStep) → s.row ≡ r → s.tie ≡ Last → s.weight ≡ ticks_of rows r → steps ≡ [] → all ≡ steps ++ s ∷ []
    → (r < length rows) × LeadOn rows plan workers r (reverse all)
lead_first rows plan workers ends last r has end f s steps all row tie weight none push =
    let first = first_is_least rows plan ends last r has end f in (
      first.0,
      rw (push, none) (subst (λ (x : ℕ). LeadOn rows plan workers x (s ∷ [])) row
          (lead_last rows plan workers s (omega (arith, first.0, row)) tie (weight ∙ ap (ticks_of rows) (sym row))
          (subst (λ (x : ℕ). IsEnd rows plan (end_of rows plan x)) (sym row) first.1)
          (λ other h e. omega (arith, first.2 other h e, row)))),
    )

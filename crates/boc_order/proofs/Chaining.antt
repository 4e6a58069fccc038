-- Chains: what the links back from a last row make, and what a chain says of every plan.
use Rattle.std.proofs.Common.{◌≡◌, ℕ, zero, suc, ◌+◌, ◌<◌, ◌≤◌, List, [], ◌∷◌, ◌++◌, reverse, get_or, length, Option, Some, None, refl, sym, ap, subst, inl}
use Rattle.std.proofs.Common.{inr, arith}
use Rattle.std.specs.Prelude.{slice_get, slice_index, slice_index_or}
use Rattle.std.proofs.lemmas.List.Sums.{sum_by-cons}
use Rattle.std.proofs.lemmas.Bool.{cases_eq}
use Rattle.boc_runs.specs.declared.rows.Row.{Row}
use Rattle.boc_plans.specs.declared.chain.ChainStep.{ChainStep}
use Rattle.boc_plans.specs.declared.chain.Via.{Via}
use Rattle.boc_plans.specs.declared.chain.Via.TheVariants.{Spawn, Order, Last}
use Rattle.boc_runs.specs.Rows.{IsRows, parent_of, ticks_of}
use Rattle.boc_plans.specs.Plans.{start_of, end_of, Keeps, IsEnd, IsEarliest}
use Rattle.boc_plans.specs.Chains.{weight_of, LinkVia, IsLink, PickedVia, IsChain, IsPicked}
use Rattle.boc_order.specs.Placed.{IsTight, ArePlaced}
use Rattle.boc_order.specs.Back.{IsStepBefore, ArePicked, LeadsTo, IsFirstLatest}
use Rattle.std.proofs.lemmas.List.{reverse-append, get_or_read}
use Rattle.std.proofs.lemmas.Option.{get_or_from_slice_get}

-- every link holds, whatever the first row is
abbrev pub Links : List Row → List ChainStep → Type 0
Links rows steps = (k : ℕ) (s : ChainStep) → slice_get steps k ≡ Some s → IsLink rows s (slice_get steps (suc k))

-- a chain of links takes its weight from any plan that keeps
module _ (rows : List Row) (plan : List ℕ) (keeps : Keeps rows plan) (last : ℕ) (ends : IsEnd rows plan last) where
  at_last : (via : Via) (a weight : ℕ) → a < length rows → LinkVia rows a weight via None → start_of plan a + weight ≤ last
  at_last Spawn a weight h l = absurd l
  at_last Order a weight h l = absurd l
  at_last Last a weight h l = omega (arith, ends.none_later a h, l)

  at_link : (via : Via) (a weight : ℕ) (next : ChainStep) → next.row < length rows → LinkVia rows a weight via (Some next) →
      start_of plan a + weight ≤ start_of plan next.row
  at_link Spawn a weight next h l = omega (arith, keeps.spawned a next.row l.0, l.1)
  at_link Order a weight next h l = omega (arith, keeps.in_order a next.row h l.0, l.1)
  at_link Last a weight next h l = absurd l

  links_le : (s : ChainStep) (rest : List ChainStep) → Links rows (s ∷ rest) → start_of plan s.row + weight_of (s ∷ rest) ≤ last
  links_le s [] links =
      let l = links 0 s refl in
      let h : start_of plan s.row + s.weight ≤ last = at_last s.via s.row s.weight l.0 l.1 in
      omega arith
  links_le s (next ∷ rest) links =
      let l = links 0 s refl in
      let m = links 1 next refl in
      let h : start_of plan s.row + s.weight ≤ start_of plan next.row = at_link s.via s.row s.weight next m.0 l.1 in
      let k : start_of plan next.row + weight_of (next ∷ rest) ≤ last = links_le next rest (λ k t e. links (suc k) t e) in
      let sums : weight_of (s ∷ next ∷ rest) ≡ s.weight + weight_of (next ∷ rest) = sum_by-cons (λ (t : ChainStep). t.weight) s (next ∷ rest) in
      omega arith

  pub weight_le_end : (steps : List ChainStep) → IsChain rows steps → weight_of steps ≤ last
  weight_le_end [] c = omega (arith, c.not_empty)
  weight_le_end (s ∷ rest) c =
      let h : start_of plan s.row + weight_of (s ∷ rest) ≤ last = links_le s rest (λ k t e. (c.holds k t e).1) in
      omega arith

-- the last step alone
pub leads_last : (rows : List Row) (plan : List ℕ) (r : ℕ) → r < length rows → IsFirstLatest rows plan r →
    LeadsTo rows plan (end_of rows plan r) r (record { row = r; via = Last; weight = ticks_of rows r } ∷ [])
leads_last rows plan r h f = record {
  top = record { row = r; via = Last; weight = ticks_of rows r };
  rest = [];
  is = refl;
  at = refl;
  picked = ((h, refl), (f.ends, f.first), tt);
  weight = omega arith;
}

-- one more step in front
module _ (rows : List Row) (hr : IsRows rows) (starts ends : List ℕ) (after : List (Option ℕ))
    (placed : ArePlaced rows starts ends after (length rows)) (last b : ℕ) (above : 0 < b) (there : b < length rows) where
  lead : (s : ChainStep) (steps : List ChainStep) → (l : LeadsTo rows starts last b steps) → IsLink rows s (Some l.top) →
      PickedVia rows starts s.row s.via (Some l.top) → start_of starts s.row + s.weight ≡ start_of starts b → LeadsTo rows starts last s.row (s ∷ steps)
  lead s steps l link picked w = rw l.is (record {
    top = s;
    rest = l.top ∷ l.rest;
    is = refl;
    at = refl;
    picked = (link, picked, rw l.is at l.picked);
    weight =
        let e : start_of starts b + weight_of (l.top ∷ l.rest) ≡ last = rw l.is at l.weight in
        omega (arith, sum_by-cons (λ (t : ChainStep). t.weight) s (l.top ∷ l.rest));
  })

  -- the step that row b waited for is an earlier row's, and leads on
  step_by : (o : Option ℕ) → IsTight rows starts b o → (s : ChainStep) (steps : List ChainStep) → IsStepBefore rows o b s → LeadsTo rows starts last b steps →
      (s.row < b) × LeadsTo rows starts last s.row (s ∷ steps)
  step_by None tight s steps q l =
      let before : parent_of rows b < b = hr.parent_before b above there in
      rw q (
        before,
        lead _ steps l (omega (arith, there), rw l.at (record { not_main = above; there = there; parent = refl }, refl)) (rw l.at tight)
            (rw tight.1.parent tight.2),
      )
  step_by (Some a) tight s steps q l =
      let before : a < b = tight.1.0.before in
      rw q (before, lead _ steps l (omega (arith, there), rw l.at (tight.1.0, refl)) (rw l.at tight) tight.1.1)

  pub step_back : (s : ChainStep) (steps : List ChainStep) → IsStepBefore rows (slice_index_or after b None) b s → LeadsTo rows starts last b steps →
      (s.row < b) × LeadsTo rows starts last s.row (s ∷ steps)
  step_back = step_by (slice_index_or after b None) ((placed.placed b there).tight above)

-- of the steps each one, by its place
each_picked : (rows : List Row) (plan : List ℕ) (steps : List ChainStep) → ArePicked rows plan steps → (k : ℕ) (s : ChainStep) → slice_get steps k ≡ Some s →
    IsLink rows s (slice_get steps (suc k)) × PickedVia rows plan s.row s.via (slice_get steps (suc k))
each_picked rows plan [] p k s q = absurd (cc)
each_picked rows plan (x ∷ steps) p zero s q =
    let same : x ≡ s = cc in subst (λ (y : ChainStep). IsLink rows y (slice_get steps 0) × PickedVia rows plan y.row y.via (slice_get steps 0)) same (p.0, p.1)
each_picked rows plan (x ∷ steps) p (suc k) s q = each_picked rows plan steps p.2 k s q

-- all the way back
pub leads_all : (rows : List Row) (hr : IsRows rows) (starts ends : List ℕ) (after : List (Option ℕ)) → ArePlaced rows starts ends after (length rows) →
    (last : ℕ) (steps : List ChainStep) → LeadsTo rows starts last 0 steps → IsPicked rows starts steps × (weight_of steps ≡ last)
leads_all rows hr starts ends after placed last steps l = (
  record {
    chain = record {
      not_empty = omega (arith, ap length l.is);
      holds = λ k s q. (
        λ z. (let p : slice_get (l.top ∷ l.rest) 0 ≡ Some s = rw (z, l.is) at q in let same : l.top ≡ s = cc in rw (sym same) l.at),
        (each_picked rows starts steps l.picked k s q).0,
      );
    };
    picked = λ k s q. (each_picked rows starts steps l.picked k s q).1;
  },
  omega (arith, l.weight, (placed.placed 0 hr.not_empty).main refl),
)

-- what the placed rows make
pub placed_earliest : (rows : List Row) (hr : IsRows rows) (starts ends : List ℕ) (after : List (Option ℕ)) →
    ArePlaced rows starts ends after (length rows) → IsEarliest rows starts
placed_earliest rows hr starts ends after placed = record {
  keeps = record {
    whole = placed.starts_len;
    spawned = λ a b child. (placed.placed b child.there).spawned a child;
    in_order = λ a b there o. (placed.placed b there).in_order a o;
  };
  least = λ other keeps r h. below (suc r) other keeps r (omega arith) h;
}
  where
    by_tight : (o : Option ℕ) (other : List ℕ) → Keeps rows other → (r : ℕ) → r < length rows →
        ((a : ℕ) → a < r → a < length rows → start_of starts a ≤ start_of other a) →
        IsTight rows starts r o → start_of starts r ≤ start_of other r
    by_tight None other keeps r there ih tight =
        let before : tight.0 < r = omega (arith, hr.parent_before r tight.1.not_main there, tight.1.parent) in
        omega (arith, ih tight.0 before (omega arith), keeps.spawned tight.0 r tight.1, tight.2)
    by_tight (Some a) other keeps r there ih tight =
        let before : a < r = tight.1.0.before in
        omega (arith, ih a before (omega arith), keeps.in_order a r there tight.1.0, tight.1.1)

    below : (n : ℕ) (other : List ℕ) → Keeps rows other → (r : ℕ) → r < n → r < length rows → start_of starts r ≤ start_of other r
    below zero other keeps r h there = absurd (omega (arith, h))
    below (suc n) other keeps r h there = elim (cases_eq r 0) [
      | inl e ↦ omega (arith, (placed.placed r there).main e)
      | inr ne ↦ by_tight (slice_index_or after r None) other keeps r there
          (λ a before there'. below n other keeps a (omega arith) there') ((placed.placed r there).tight (omega arith))
    ]

pub reverse_push : (xs : List ChainStep) (x : ChainStep) → reverse (xs ++ x ∷ []) ≡ x ∷ reverse xs
reverse_push xs x = reverse-append xs (x ∷ [])

-- a row waits for an earlier one
pub waits_below : (rows : List Row) (starts ends : List ℕ) (after : List (Option ℕ)) → ArePlaced rows starts ends after (length rows) →
    (b : ℕ) → 0 < b → b < length rows → (a : ℕ) → slice_get after b ≡ Some (Some a) → a < length rows
waits_below rows starts ends after placed b above there a q =
    let e : slice_index_or after b None ≡ Some a = get_or_from_slice_get after b (Some a) None q in
    let t = rw e at ((placed.placed b there).tight above) in
    omega (arith, t.1.0.before, there)

-- the first step that is made
pub leads_first : (rows : List Row) (plan : List ℕ) (r weight : ℕ) (steps all : List ChainStep) → r < length rows → IsFirstLatest rows plan r →
    weight ≡ ticks_of rows r → steps ≡ [] → all ≡ steps ++ record { row = r; via = Last; weight = weight } ∷ []
    → LeadsTo rows plan (end_of rows plan r) r (reverse all)
leads_first rows plan r weight steps all h f m none e = rw (e, none, m) (leads_last rows plan r h f)

-- no plan that keeps ends sooner than the earliest
pub earliest_le_end : (rows : List Row) (plan : List ℕ) (span : ℕ) → IsEarliest rows plan → IsEnd rows plan span →
    (other : List ℕ) (last : ℕ) → Keeps rows other → IsEnd rows other last → span ≤ last
earliest_le_end rows plan span e s other last keeps end =
    let r : ℕ = s.reached.0 in
    let there : r < length rows = s.reached.1 in
    omega (arith, s.reached.2, e.least other keeps r there, end.none_later r there)

-- the end of the row that ends last is the span
pub span_is_end : (rows : List Row) (starts ends : List ℕ) (after : List (Option ℕ)) → ArePlaced rows starts ends after (length rows) →
    (r span : ℕ) → r < length ends → ((k : ℕ) → k < length ends → slice_index ends k ≤ slice_index ends r) → span ≡ get_or ends r span →
    IsEnd rows starts span
span_is_end rows starts ends after placed r span h latest e =
    let same : span ≡ slice_index ends r = get_or_read ends r span h e 0 in
    record {
      none_later = λ k there. omega (arith, latest k (omega (arith, there, placed.ends_len)), (placed.placed k there).ends_then);
      reached = (r, omega (arith, placed.ends_len), omega (arith, (placed.placed r (omega (arith, placed.ends_len))).ends_then));
    }

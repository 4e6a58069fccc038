-- The chain that is picked in the earliest plan weighs as many ticks as the plan takes.
use Rattle.std.proofs.Common.{◌≡◌, ℕ, zero, suc, ◌+◌, ◌-◌, ◌<◌, ◌≤◌, List, [], ◌∷◌, length, Some, None, refl, sym, ◌∙◌, ap, inl, inr, arith}
use Rattle.std.specs.Prelude.{slice_get}
use Rattle.std.proofs.lemmas.List.Sums.{sum_by-cons}
use Rattle.std.proofs.lemmas.Bool.{cases_eq}
use Rattle.boc_runs.specs.declared.rows.Row.{Row}
use Rattle.boc_plans.specs.declared.chain.ChainStep.{ChainStep}
use Rattle.boc_plans.specs.declared.chain.Via.{Via}
use Rattle.boc_plans.specs.declared.chain.Via.TheVariants.{Spawn, Order, Last}
use Rattle.boc_runs.specs.Rows.{IsRows, parent_of}
use Rattle.boc_plans.specs.Plans.{start_of, Keeps, IsChild, IsEnd, IsEarliest}
use Rattle.boc_plans.specs.Chains.{weight_of, LinkVia, IsLink, PickedVia, IsPicked}
use Rattle.boc_order.proofs.Alone.{one_end}

-- a plan in which each row starts so many ticks earlier
earlier : ℕ → List ℕ → List ℕ
earlier ticks [] = []
earlier ticks (start ∷ plan) = (start - ticks) ∷ earlier ticks plan

length-earlier : (ticks : ℕ) (plan : List ℕ) → length (earlier ticks plan) ≡ length plan
unfolding earlier
length-earlier ticks [] = refl
length-earlier ticks (start ∷ plan) = ap suc (length-earlier ticks plan)

start_of-earlier : (ticks : ℕ) (plan : List ℕ) (r : ℕ) → start_of (earlier ticks plan) r ≡ start_of plan r - ticks
unfolding earlier
start_of-earlier ticks [] r = omega arith
start_of-earlier ticks (start ∷ plan) zero = refl
start_of-earlier ticks (start ∷ plan) (suc r) = start_of-earlier ticks plan r

-- no row starts before main
module _ (rows : List Row) (hr : IsRows rows) (plan : List ℕ) (keeps : Keeps rows plan) where
  after_main : (n r : ℕ) → r < n → r < length rows → start_of plan 0 ≤ start_of plan r
  after_main zero r h there = absurd (omega (arith, h))
  after_main (suc n) r h there = elim (cases_eq r 0) [
    | inl e ↦ (rw e (omega arith))
    | inr ne ↦ (
        let before : parent_of rows r < r = hr.parent_before r (omega arith) there in
        let child : IsChild rows (parent_of rows r) r = record { not_main = omega arith; there = there; parent = refl } in
        omega (arith, after_main n (parent_of rows r) (omega (arith, before, h)) (omega (arith, before, there)), keeps.spawned (parent_of rows r) r child))
  ]

  -- so all rows can start earlier, by the ticks that main waits
  keeps_earlier : Keeps rows (earlier (start_of plan 0) plan)
  keeps_earlier = record {
    whole = length-earlier (start_of plan 0) plan ∙ keeps.whole;
    spawned = λ a b child.
        (let before : parent_of rows b < b = hr.parent_before b child.not_main child.there in
        omega (
          arith,
          start_of-earlier (start_of plan 0) plan a,
          start_of-earlier (start_of plan 0) plan b,
          keeps.spawned a b child,
          after_main (suc a) a (omega arith) (omega (arith, before, child.parent, child.there)),
        ));
    in_order = λ a b there o.
        omega (
          arith,
          start_of-earlier (start_of plan 0) plan a,
          start_of-earlier (start_of plan 0) plan b,
          keeps.in_order a b there o,
          after_main (suc a) a (omega arith) (omega (arith, o.before, there)),
        );
  }

-- main starts at once in the earliest plan
main_starts_at_once : (rows : List Row) → IsRows rows → (plan : List ℕ) → IsEarliest rows plan → start_of plan 0 ≡ 0
main_starts_at_once rows hr plan e =
    omega (arith, e.least _ (keeps_earlier rows hr plan e.keeps) 0 hr.not_empty, start_of-earlier (start_of plan 0) plan 0)

-- the steps of a chain that is picked lead from start to start, and to the end of the plan
module _ (rows : List Row) (plan : List ℕ) (last : ℕ) (ends : IsEnd rows plan last) where
  reaches_end : (via : Via) (a weight : ℕ) → LinkVia rows a weight via None → PickedVia rows plan a via None → start_of plan a + weight ≡ last
  reaches_end Spawn a weight l p = absurd l
  reaches_end Order a weight l p = absurd l
  reaches_end Last a weight l p = omega (arith, l, one_end rows plan _ last p.0 ends)

  reaches_next : (via : Via) (a weight : ℕ) (next : ChainStep) → LinkVia rows a weight via (Some next) → PickedVia rows plan a via (Some next) →
      start_of plan a + weight ≡ start_of plan next.row
  reaches_next Spawn a weight next l p =
      let same : start_of plan p.0 ≡ start_of plan a = ap (start_of plan) (sym p.1.parent ∙ l.0.parent) in
      omega (arith, l.1, p.2, same)
  reaches_next Order a weight next l p = omega (arith, l.1, p.1.1)
  reaches_next Last a weight next l p = absurd l

  reaches : (s : ChainStep) (rest : List ChainStep) →
      ((k : ℕ) (t : ChainStep) → slice_get (s ∷ rest) k ≡ Some t → IsLink rows t (slice_get (s ∷ rest) (suc k))) →
      ((k : ℕ) (t : ChainStep) → slice_get (s ∷ rest) k ≡ Some t → PickedVia rows plan t.row t.via (slice_get (s ∷ rest) (suc k))) →
      start_of plan s.row + weight_of (s ∷ rest) ≡ last
  reaches s [] links picked =
      let here : start_of plan s.row + s.weight ≡ last = reaches_end s.via s.row s.weight (links 0 s refl).1 (picked 0 s refl) in
      omega (arith, here)
  reaches s (next ∷ rest) links picked =
      let here : start_of plan s.row + s.weight ≡ start_of plan next.row = reaches_next s.via s.row s.weight next (links 0 s refl).1 (picked 0 s refl) in
      let on : start_of plan next.row + weight_of (next ∷ rest) ≡ last = reaches next rest (λ k t e. links (suc k) t e) (λ k t e. picked (suc k) t e) in
      let sums : weight_of (s ∷ next ∷ rest) ≡ s.weight + weight_of (next ∷ rest) = sum_by-cons (λ (t : ChainStep). t.weight) s (next ∷ rest) in
      omega (arith, here, on, sums)

pub weight_is_end : (rows : List Row) → IsRows rows → (plan : List ℕ) (span : ℕ) (steps : List ChainStep) → IsEarliest rows plan → IsEnd rows plan span →
    IsPicked rows plan steps → weight_of steps ≡ span
weight_is_end rows hr plan span [] e ends p = absurd (omega (arith, p.chain.not_empty))
weight_is_end rows hr plan span (s ∷ rest) e ends p =
    let main : start_of plan s.row ≡ start_of plan 0 = ap (start_of plan) ((p.chain.holds 0 s refl).0 refl) in
    omega (arith, reaches rows plan span ends s rest (λ k t q. (p.chain.holds k t q).1) p.picked, main, main_starts_at_once rows hr plan e)

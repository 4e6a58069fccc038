-- The steps of a chain, one by one.
use Rattle.std.proofs.Common.{◌≡◌, ℕ, suc, ◌+◌, ◌*◌, ◌<◌, ◌≤◌, List, [], ◌∷◌, length, take, Option, Some, None, get_or, add-one, below_more, refl, sym, ap}
use Rattle.std.proofs.Common.{subst, arith}
use Rattle.boc_program.specs.declared.limits.TheConstants.{MOST_TICKS}
use Rattle.std.specs.Prelude.{slice_get}
use Rattle.std.proofs.lemmas.List.Sums.{sum_by_more}
use Rattle.std.proofs.lemmas.Option.{slice_get_within, slice_get-get_or}
use Rattle.boc_runs.specs.declared.rows.Row.{Row}
use Rattle.boc_plans.specs.declared.chain.ChainStep.{ChainStep}
use Rattle.boc_plans.specs.declared.chain.Via.{Via}
use Rattle.boc_plans.specs.declared.chain.Via.TheVariants.{Spawn, Order, Last}
use Rattle.boc_runs.specs.Rows.{IsRows, parent_of, ticks_of}
use Rattle.boc_plans.specs.Chains.{weight_of, LinkVia, IsLink, StepHolds, IsChain}
use Rattle.boc_order.proofs.Chaining.{Links}

module _ (rows : List Row) (steps : List ChainStep) (k : ℕ) (d : ChainStep) (there : k < length steps) (next : Option ChainStep)
    (is_next : next ≡ slice_get steps (k + 1)) where
  here : slice_get steps k ≡ Some (get_or steps k d)
  here = slice_get-get_or steps k d there

  is_next' : next ≡ slice_get steps (suc k)
  is_next' = rw add-one at is_next

  pub holds_here : (k ≡ 0 → (get_or steps k d).row ≡ 0) × IsLink rows (get_or steps k d) next → StepHolds rows steps k
  holds_here h s q =
      let same : get_or steps k d ≡ s = (let p = here in cc) in
      subst (λ (u : ChainStep). (k ≡ 0 → u.row ≡ 0) × IsLink rows u (slice_get steps (suc k))) same
      (h.0, subst (λ (o : Option ChainStep). IsLink rows (get_or steps k d) o) is_next' h.1)

  pub here_holds : StepHolds rows steps k → (k ≡ 0 → (get_or steps k d).row ≡ 0) × IsLink rows (get_or steps k d) next
  here_holds h =
      let p = h (get_or steps k d) here in
      (p.0, subst (λ (o : Option ChainStep). IsLink rows (get_or steps k d) o) (sym is_next') p.1)

-- a link leads to a later row
pub link_rises : (rows : List Row) (hr : IsRows rows) (via : Via) (a weight : ℕ) (next : ChainStep) → LinkVia rows a weight via (Some next) → a < next.row
link_rises rows hr Spawn a weight next l = omega (arith, hr.parent_before next.row l.0.not_main l.0.there, l.0.parent)
link_rises rows hr Order a weight next l = l.0.before
link_rises rows hr Last a weight next l = absurd l

pub link_small : (rows : List Row) (hr : IsRows rows) (via : Via) (a weight : ℕ) (next : Option ChainStep) → a < length rows → LinkVia rows a weight via next
    → weight ≤ MOST_TICKS
link_small rows hr Spawn a weight None h l = absurd l
link_small rows hr Order a weight None h l = absurd l
link_small rows hr Last a weight None h l = omega (arith, l, hr.ticks_high a h)
link_small rows hr Spawn a weight (Some next) h l =
    let same : ticks_of rows (parent_of rows next.row) ≡ ticks_of rows a = ap (ticks_of rows) l.0.parent in
    omega (arith, l.1, hr.ticks_cover next.row l.0.not_main l.0.there, hr.ticks_high a h)
link_small rows hr Order a weight (Some next) h l = omega (arith, l.1, hr.ticks_high a h)
link_small rows hr Last a weight (Some next) h l = absurd l

-- so a chain has no more steps than there are rows
chain_rises : (rows : List Row) → IsRows rows → (s : ChainStep) (rest : List ChainStep) → Links rows (s ∷ rest) → s.row + length (s ∷ rest) ≤ length rows
chain_rises rows hr s [] links = omega (arith, (links 0 s refl).0)
chain_rises rows hr s (next ∷ rest) links =
    omega (arith, link_rises rows hr s.via s.row s.weight next (links 0 s refl).1, chain_rises rows hr next rest (λ k t e. links (suc k) t e))

pub chain_short : (rows : List Row) → IsRows rows → (steps : List ChainStep) → IsChain rows steps → length steps ≤ length rows
chain_short rows hr [] c = omega (arith, c.not_empty)
chain_short rows hr (s ∷ rest) c = omega (arith, chain_rises rows hr s rest (λ k t e. (c.holds k t e).1))

pub chain_made : (rows : List Row) (steps : List ChainStep) (n : ℕ) → length steps ≤ n → 0 < length steps → ((j : ℕ) → j < n → StepHolds rows steps j)
    → IsChain rows steps
chain_made rows steps n h some hold = record {
  not_empty = some;
  holds = λ k s q. hold k (omega (arith, slice_get_within steps k s q)) s q;
}

-- what the loop keeps
pub record Checked (rows : List Row) (steps : List ChainStep) (k weight : ℕ) : Type 0 where
  pub hold : (j : ℕ) → j < k → StepHolds rows steps j
  pub rise : (s : ChainStep) → slice_get steps k ≡ Some s → k ≤ s.row
  pub sum : weight ≡ weight_of (take k steps)
  pub small : weight ≤ k * MOST_TICKS
  pub few : k ≤ length rows

pub checked_more : (rows : List Row) (hr : IsRows rows) (steps : List ChainStep) (k : ℕ) (d : ChainStep) (weight : ℕ) → k < length steps
    → (next : Option ChainStep) →
    next ≡ slice_get steps (k + 1) → (k ≡ 0 → (get_or steps k d).row ≡ 0) × IsLink rows (get_or steps k d) next → Checked rows steps k weight →
    Checked rows steps (k + 1) (weight + (get_or steps k d).weight)
checked_more rows hr steps k d weight there next is_next h c =
    let x : ChainStep = get_or steps k d in
    let at : k ≤ x.row = c.rise x (slice_get-get_or steps k d there) in
    record {
      hold = below_more (λ j. StepHolds rows steps j) k c.hold (holds_here rows steps k d there next is_next h);
      rise = λ s q. (
          let e : next ≡ Some s = cc in
          let l : LinkVia rows x.row x.weight x.via (Some s) = subst (λ (o : Option ChainStep). LinkVia rows x.row x.weight x.via o) e h.1.1 in
          omega (arith, at, link_rises rows hr x.via x.row x.weight s l));
      sum = omega (arith, c.sum, sum_by_more (λ (s : ChainStep). s.weight) steps k d there);
      small = omega (arith, c.small, link_small rows hr x.via x.row x.weight next h.1.0 h.1.1);
      few = omega (arith, at, h.1.0);
    }

-- What stays as one row moves on to another state.
use Rattle.std.proofs.Common.{◌≡◌, ◌≢◌, ℕ, zero, suc, ◌+◌, ◌<◌, ◌⊎◌, List, length, sym, ◌∙◌, subst, inl, inr, arith, length-set}
use Rattle.std.specs.Prelude.{slice_set, Some}
use Rattle.std.specs.List.{Contains}
use Rattle.std.proofs.lemmas.Bool.{cases_eq}
use Rattle.boc_program.proofs.ChangedItems.{place_below, set_same, set_other}
use Rattle.boc_runs.specs.declared.rows.Row.{Row}
use Rattle.boc_plans.specs.Plans.{Ordered}
use Rattle.boc_order.specs.Waits.{links_of, AreWaits}
use Rattle.boc_order.proofs.Near.{near_complete, near_ordered}
use Rattle.boc_greedy.specs.declared.frontier.RowState.{RowState}
use Rattle.boc_greedy.specs.declared.frontier.RowState.TheVariants.{Waiting, UnderWay, Over}
use Rattle.boc_greedy.specs.RowStates.{IsAt, CanStart}
use Rattle.boc_greedy.specs.Frontier.{HasNoWaits, AwaitsWorker, AreInTurn}

-- the state of a row in a list of which one row's state was changed
pub moved : (states : List RowState) (r k : ℕ) (s t : RowState) → IsAt (slice_set states r s) k t → ((k ≡ r) × (s ≡ t)) ⊎ ((k ≢ r) × IsAt states k t)
moved states r k s t e = elim (cases_eq k r) [
  | inl same ↦ (let at = set_same states r s (omega (arith, place_below (slice_set states r s) k t e, length-set states r s)) in inl (same, (cc at)))
  | inr ne ↦ inr (ne, sym (set_other states r k s ne) ∙ e)
]

pub moved_same : (states : List RowState) (r : ℕ) (s t : RowState) → IsAt states r t → IsAt (slice_set states r s) r s
moved_same states r s t e = set_same states r s (place_below states r t e)

pub moved_other : (states : List RowState) (r k : ℕ) (s t : RowState) → k ≢ r → IsAt states k t → IsAt (slice_set states r s) k t
moved_other states r k s t n e = set_other states r k s n ∙ e

-- a row is at one state only
pub one_state : (states : List RowState) (r : ℕ) (s t : RowState) → IsAt states r s → IsAt states r t → s ≡ t
one_state states r s t e f = let g : Some s ≡ Some t = sym e ∙ f in cc

-- the rows that wait for nothing but a worker are those that can start
module _ (rows : List Row) (waits : List (List ℕ)) (states : List RowState) (are : AreWaits rows waits) where
  module _ (past : (r : ℕ) → IsAt states r Over → (a : ℕ) → Ordered rows a r → IsAt states a Over) (r : ℕ) (there : r < length rows)
      (none : HasNoWaits waits states r) where
    over_from : (n a : ℕ) → Ordered rows a r → r < a + n → IsAt states a Over
    over_from zero a o h = absurd (omega (arith, o.before, h))
    over_from (suc n) a o h = elim (near_complete rows a r there o) [
      | inl near ↦ none a ((are.at r there).complete a near)
      | inr p ↦ past p.0 (over_from n p.0 p.2 (omega (arith, h, p.1.before))) a p.1
    ]

    waits_clear : (a : ℕ) → Ordered rows a r → IsAt states a Over
    waits_clear a o = over_from (r + 1) a o (omega arith)

  pub ready_can : ((r : ℕ) → IsAt states r Over → (a : ℕ) → Ordered rows a r → IsAt states a Over) →
      (r : ℕ) → r < length rows → AwaitsWorker waits states r → CanStart rows states r
  ready_can past r there is = record { waits = is.waiting; clear = waits_clear past r there is.over }

  pub can_ready : (r : ℕ) → r < length rows → CanStart rows states r → AwaitsWorker waits states r
  can_ready r there can = record { waiting = can.waits; over = λ a has. can.clear a (near_ordered rows a r ((are.at r there).sound a has)) }

-- a row that isn't over moves on
module _ (rows : List Row) (states : List RowState) (row : ℕ) (from to : RowState) (was : IsAt states row from) (lives : from ≡ Over → ⊥) where
  pub over_stays : (a : ℕ) → IsAt states a Over → IsAt (slice_set states row to) a Over
  over_stays a e = elim (cases_eq a row) [
    | inl f ↦ absurd (lives (one_state states row from Over was (subst (λ (x : ℕ). IsAt states x Over) f e)))
    | inr n ↦ moved_other states row a to Over n e
  ]

  stay : (q : RowState) → (to ≡ q → (a : ℕ) → Ordered rows a row → IsAt states a Over)
      → ((r : ℕ) → IsAt states r q → (a : ℕ) → Ordered rows a r → IsAt states a Over) →
      (r : ℕ) → IsAt (slice_set states row to) r q → (a : ℕ) → Ordered rows a r → IsAt (slice_set states row to) a Over
  stay q clear past r e a o = over_stays a (elim (moved states row r to q e) [
    | inl p ↦ clear p.1 a (subst (Ordered rows a) p.0 o)
    | inr p ↦ past r p.1 a o
  ])

  pub stay_in_turn : (to ≢ Waiting → (a : ℕ) → Ordered rows a row → IsAt states a Over) → AreInTurn rows states → AreInTurn rows (slice_set states row to)
  stay_in_turn clear is = record {
    whole = simp length-set is.whole;
    turns = stay UnderWay (λ e. clear (λ w. (cc))) is.turns;
    past = stay Over (λ e. clear (λ w. (cc))) is.past;
  }

  pub ready_stays : (waits : List (List ℕ)) (r : ℕ) → r ≢ row → AwaitsWorker waits states r → AwaitsWorker waits (slice_set states row to) r
  ready_stays waits r n is = record { waiting = moved_other states row r to Waiting n is.waiting; over = λ a has. over_stays a (is.over a has) }

  -- a row that doesn't wait for this one, or not for its end
  pub was_ready : (waits : List (List ℕ)) (r : ℕ) → r ≢ row → (to ≡ Over → Contains (links_of waits r) row → ⊥) →
      AwaitsWorker waits (slice_set states row to) r → AwaitsWorker waits states r
  was_ready waits r n lacks is = record {
    waiting = elim (moved states row r to Waiting is.waiting) [ inl p ↦ absurd (n p.0) | inr p ↦ p.1 ];
    over = λ a has. elim (moved states row a to Over (is.over a has)) [
      | inl p ↦ absurd (lacks p.1 (subst (λ (x : ℕ). Contains (links_of waits r) x) p.0 has))
      | inr p ↦ p.1
    ];
  }

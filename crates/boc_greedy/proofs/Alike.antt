-- Rows of which one takes other ticks, as they are seen at ticks before that row is over.
use Rattle.std.proofs.Common.{◌≡◌, ℕ, ◌+◌, ◌<◌, ◌≤◌, ◌⊎◌, List, length, refl, sym, ◌∙◌, inl, inr, arith}
use Rattle.std.proofs.lemmas.Bool.{cases_eq}
use Rattle.boc_runs.specs.declared.rows.Row.{Row}
use Rattle.boc_runs.specs.Rows.{parent_of, offset_of, ticks_of, edited, Fits}
use Rattle.boc_runs.proofs.Editing.{length-edited, parent_of-edited, offset_of-edited, ticks_of-edited_same, ticks_of-edited_other}
use Rattle.boc_plans.specs.Plans.{start_of, end_of, IsChild, Ordered}
use Rattle.boc_plans.specs.Greedy.{worker_of, IsReady, IsFree, IsTaken, IsGreedyAt, IsMoment, CountsAll}
use Rattle.boc_plans.proofs.EditedOrder.{ordered_edited, ordered_back}
use Rattle.boc_greedy.specs.declared.frontier.RowState.{RowState}
use Rattle.boc_greedy.specs.RowStates.{CanStart}
use Rattle.boc_greedy.specs.Simulating.{Given, IsFull, IsPast}
use Rattle.boc_greedy.proofs.Counting.{counts_same}

-- the others have the same parents, offsets and orders as the rows, and at each tick up to t the same of them are over
pub record AreAlike (rows others : List Row) (starts : List ℕ) (t : ℕ) : Type 0 where
  pub whole : length others ≡ length rows
  pub parents : (r : ℕ) → parent_of others r ≡ parent_of rows r
  pub offsets : (r : ℕ) → offset_of others r ≡ offset_of rows r
  pub ordered : (a b : ℕ) → Ordered rows a b → Ordered others a b
  pub ordered_before : (a b : ℕ) → Ordered others a b → Ordered rows a b
  pub ends : (r : ℕ) → (end_of others starts r ≡ end_of rows starts r) ⊎ ((t < end_of others starts r) × (t < end_of rows starts r))

alike_back : (rows others : List Row) (starts : List ℕ) (t : ℕ) → AreAlike rows others starts t → AreAlike others rows starts t
alike_back rows others starts t a = record {
  whole = sym a.whole;
  parents = λ r. sym (a.parents r);
  offsets = λ r. sym (a.offsets r);
  ordered = a.ordered_before;
  ordered_before = a.ordered;
  ends = λ r. elim (a.ends r) [ inl e ↦ inl (sym e) | inr p ↦ inr (p.1, p.0) ];
}

-- rows are alike themselves
pub alike_self : (rows : List Row) (starts : List ℕ) (t : ℕ) → AreAlike rows rows starts t
alike_self rows starts t = record {
  whole = refl;
  parents = λ r. refl;
  offsets = λ r. refl;
  ordered = λ a b o. o;
  ordered_before = λ a b o. o;
  ends = λ r. inl refl;
}

-- a row that is not over at tick t takes fewer ticks, after which it would not be over then either
pub alike_edited : (rows : List Row) (row ticks : ℕ) (starts : List ℕ) (t : ℕ) → Fits rows row ticks → ticks ≤ ticks_of rows row →
    t < start_of starts row + ticks → AreAlike rows (edited rows row ticks) starts t
alike_edited rows row ticks starts t f less ahead = record {
  whole = length-edited rows row ticks;
  parents = parent_of-edited rows row ticks;
  offsets = offset_of-edited rows row ticks;
  ordered = ordered_edited rows row ticks;
  ordered_before = ordered_back rows row ticks;
  ends = λ r. elim (cases_eq r row) [
    | inl e ↦ rw e (inr (omega (arith, ahead, ticks_of-edited_same rows row ticks f.there), omega (arith, ahead, less)))
    | inr ne ↦ inl (omega (arith, ticks_of-edited_other rows row ticks r ne))
  ];
}

module _ (rows others : List Row) (starts : List ℕ) (t : ℕ) (a : AreAlike rows others starts t) where
  pub child_there : (x y : ℕ) → IsChild rows x y → IsChild others x y
  child_there x y c = record { not_main = c.not_main; there = omega (arith, a.whole, c.there); parent = a.parents y ∙ c.parent }

  pub child_back : (x y : ℕ) → IsChild others x y → IsChild rows x y
  child_back x y c = record { not_main = c.not_main; there = omega (arith, a.whole, c.there); parent = sym (a.parents y) ∙ c.parent }

  pub over_by : (r u : ℕ) → u ≤ t → end_of rows starts r ≤ u → end_of others starts r ≤ u
  over_by r u le h = elim (a.ends r) [ inl e ↦ omega (arith, e, h) | inr p ↦ absurd (omega (arith, p.1, le, h)) ]

  pub not_over : (r : ℕ) → t < end_of rows starts r → t < end_of others starts r
  not_over r h = elim (a.ends r) [ inl e ↦ omega (arith, e, h) | inr p ↦ p.0 ]

  ready_there : (u r : ℕ) → u ≤ t → IsReady rows starts u r → IsReady others starts u r
  ready_there u r le i = record {
    there = omega (arith, a.whole, i.there);
    waits = i.waits;
    spawned = λ x c. omega (arith, a.offsets r, i.spawned x (child_back x r c));
    in_order = λ x o. over_by x u le (i.in_order x (a.ordered_before x r o));
  }

  free_there : (p : ℕ) (workers : List ℕ) (u w : ℕ) → u ≤ t → IsFree rows p starts workers u w → IsFree others p starts workers u w
  free_there p workers u w le f =
      record { below = f.below; idle = λ r h on lt. over_by r u le (f.idle r (omega (arith, a.whole, h)) on lt) }

  taken_there : (workers : List ℕ) (u w : ℕ) → IsTaken rows starts workers u w → IsTaken others starts workers u w
  taken_there workers u w x = (x.0, omega (arith, a.whole, x.1), x.2, x.3)

  moment_there : (u : ℕ) → u ≤ t → IsMoment rows starts u → IsMoment others starts u
  moment_there u le (inl z) = inl z
  moment_there u le (inr (inl m)) =
      inr (inl (m.0, omega (arith, a.whole, m.1), elim (a.ends m.0) [ inl e ↦ e ∙ m.2 | inr p ↦ absurd (omega (arith, p.1, m.2, le)) ]))
  moment_there u le (inr (inr m)) = inr (inr (m.0, m.1, child_there m.0 m.1 m.2, omega (arith, a.offsets m.1, m.3)))

module _ (rows others : List Row) (p : ℕ) (starts workers : List ℕ) (t : ℕ) (a : AreAlike rows others starts t) where
  back : AreAlike others rows starts t
  back = alike_back rows others starts t a

  within : (r : ℕ) → r < length others → r < length rows
  within r h = omega (arith, a.whole, h)

  -- the plan is greedy for both at the same ticks
  pub greedy_alike : (u : ℕ) → u ≤ t → IsGreedyAt rows p starts workers u → IsGreedyAt others p starts workers u
  greedy_alike u le g = record {
    ready = λ r h e. ready_there rows others starts t a u r le (g.ready r (within r h) e);
    free = λ r h e. free_there rows others starts t a p workers u (worker_of workers r) le (g.free r (within r h) e);
    rising = λ x y lt h ex ey. g.rising x y lt (within y h) ex ey;
    least_rows = λ x y i lt h e. g.least_rows x y (ready_there others rows starts t back u y le i) lt (within x h) e;
    none_idle = λ y w i lt f. taken_there rows others starts t a workers u w
        (g.none_idle y w (ready_there others rows starts t back u y le i) lt (free_there others rows starts t back p workers u w le f));
    least_workers = λ r w h e f lt. taken_there rows others starts t a workers u w
        (g.least_workers r w (within r h) e (free_there others rows starts t back p workers u w le f) lt);
  }

  module _ (states : List RowState) where
    can_start_back : (b : ℕ) → CanStart others states b → CanStart rows states b
    can_start_back b c = record { waits = c.waits; clear = λ x o. c.clear x (a.ordered x b o) }

    pub given_alike : (idle : ℕ) → Given rows p starts workers states idle t → Given others p starts workers states idle t
    given_alike idle g = record {
      ready = λ r h e. ready_there rows others starts t a t r (omega arith) (g.ready r (within r h) e);
      free = λ r h e. free_there rows others starts t a p workers t (worker_of workers r) (omega arith) (g.free r (within r h) e);
      rising = λ x y lt h ex ey. g.rising x y lt (within y h) ex ey;
      least_rows = λ x y h e c. g.least_rows x y (within x h) e (can_start_back y c);
      least_workers = λ r w h e is. g.least_workers r w (within r h) e is;
    }

    pub full_alike : (idle : ℕ) → IsFull rows states idle → IsFull others states idle
    full_alike idle full = λ b w c. full b w (can_start_back b c)

  pub counts_alike : (n : ℕ) → CountsAll n (IsPast rows starts t) → CountsAll n (IsPast others starts t)
  counts_alike n c = counts_same n (IsPast rows starts t) (IsPast others starts t)
      (λ u i. record { come = i.come; moment = moment_there rows others starts t a u i.come i.moment })
      (λ u i. record { come = i.come; moment = moment_there others rows starts t back u i.come i.moment }) c

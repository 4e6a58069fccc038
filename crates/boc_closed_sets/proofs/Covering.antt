-- Fronts through which enough orders go: layers, the next fronts, and the ends.
use Rattle.std.proofs.Common.{◌≡◌, ◌≢◌, ◌↔◌, ℕ, ◌+◌, ◌<◌, ◌≤◌, List, [], ◌∷◌, ◌++◌, length}
use Rattle.std.proofs.Common.{take, drop, refl, sym, ◌∙◌, ap, subst, arith, length-append, append_assoc, append-nil, ℤ}
use Rattle.std.specs.List.{Contains}
use Rattle.std.proofs.lemmas.List.{length-take, take-append-drop}
use Rattle.boc_program.specs.declared.limits.TheConstants.{MOST_ROWS}
use Rattle.boc_program.specs.declared.program.Program.{Program}
use Rattle.boc_program.proofs.ChangedItems.{place_below, item_at}
use Rattle.boc_program.proofs.RisingNumbers.{none_in_none}
use Rattle.boc_runs.specs.declared.event.Event.{Event}
use Rattle.boc_runs.specs.Run.{config_of, IsWholeRun}
use Rattle.boc_runs.specs.Serial.{serial_along}
use Rattle.boc_runs.specs.machine.AlongRows.{parents_of_rows}
use Rattle.boc_runs.proofs.OwnOrders.{rows_done}
use Rattle.boc_machine_laws.proofs.Serially.{values_at_end}
use Rattle.boc_fronts.specs.Orders.{HasWish, IsOrder, IsWholeOrder}
use Rattle.boc_fronts.specs.Fronts.{LiveRow, Front, Stands, IsLayer, HasEnd}
use Rattle.boc_fronts.proofs.Orderly.{order_more, next_later, whole_runs_make_orders}
use Rattle.boc_fronts.proofs.Layers.{named_has_wish, free_can, next_can}
use Rattle.boc_closed_sets.specs.Enough.{EndsWhole, IsUnfinished, AreEnoughFor, IsEnough}
use Rattle.boc_closed_sets.specs.Covers.{Passes, CoversAll, Covers, AreNextEnough}
use Rattle.boc_closed_sets.proofs.Turns.{order_parts}

-- ---- layers

layer_passes : (p : Program) (Kind : List ℕ → Type 0) (rows : ℕ) (fronts : List Front) → ((qs : List ℕ) → Kind qs → IsOrder p qs)
    → IsLayer p rows fronts → CoversAll p Kind rows fronts
layer_passes p Kind rows fronts is_order layer parents many kind =
    let first = take rows parents in
    let rest = drop rows parents in
    let whole : first ++ rest ≡ parents = take-append-drop rows parents in
    let long : length first ≡ rows = omega (arith, length-take rows parents, many) in
    let order = order_parts p (serial_along p []) first rest (subst (IsOrder p) (sym whole) (is_order parents kind)) in
    let x = layer.all first order.0 long in
    record {
      front = x.0;
      among = x.2;
      parents = first;
      names = x.1;
      stands = x.3;
      first_are = long;
      rest = rest;
      as_many = ap (length {A = ℕ}) whole;
      is = subst Kind (sym whole) kind;
    }

pub layers_cover : (p : Program) (rows : ℕ) (fronts : List Front) → IsLayer p rows fronts → Covers p rows fronts
layers_cover p rows fronts layer = record {
  each = layer.each;
  whole = λ values. layer_passes p (EndsWhole p values) rows fronts (λ qs k. k.0.order) layer;
  endless = layer_passes p (IsUnfinished p) rows fronts (λ qs k. k.0) layer;
}

-- ---- the next fronts

next_each : (p : Program) (rows : ℕ) (fronts others : List Front) → 0 < rows → Covers p rows fronts → AreNextEnough p fronts others
    → (g : Front) → Contains others g
    → (parents : List ℕ) × (names : List ℕ) × IsOrder p parents × (length parents ≡ rows + 1) × Stands p parents names g
next_each p rows fronts others some covers next g among =
    let x = next.each g among in
    let y = covers.each x.0 x.2 in
    let c = free_can p y.0 y.1 x.0 y.4 x.1 x.3 in
    let z = x.4 y.0 y.1 c.0 y.4 c.1 in (
      y.0 ++ (c.0 ∷ []),
      z.0,
      order_more p (serial_along p []) y.0 c.0 y.2
          (next_later (serial_along p y.0).rows c.0 (omega (arith, some, y.3, rows_done p y.0)) c.2),
      length-append y.0 (c.0 ∷ []) ∙ omega (arith, y.3),
      z.1,
    )

-- a front that an order goes on from has a live row
live_there : (p : Program) (parents names rest : List ℕ) (f : Front) → 0 < length parents → Stands p parents names f → rest ≢ []
    → IsOrder p (parents ++ rest) → f.live ≢ []
live_there p parents names [] f some st more order none = more refl
live_there p parents names (r ∷ rest) f some st more order none =
    let o = (order_parts p (serial_along p []) parents (r ∷ rest) order).1 in
    let can = next_can (serial_along p parents).rows r (omega (arith, some, rows_done p parents)) o.0 in
    let i = st.loosely.all r can.wishes in
    omega (arith, place_below names i.0 r i.1, st.loosely.many, ap (length {A = LiveRow}) none)

one_moved : (Kind : List ℕ → Type 0) (ps : List ℕ) (r : ℕ) (rest : List ℕ) → Kind (ps ++ r ∷ rest) → Kind ((ps ++ r ∷ []) ++ rest)
one_moved Kind ps r rest kind = subst Kind (sym (append_assoc ps (r ∷ []) rest)) kind

next_passes : (p : Program) (Kind : List ℕ → Type 0) (rows : ℕ) (fronts others : List Front) → ((qs : List ℕ) → Kind qs → IsOrder p qs)
    → ((f : Front) (places : List ℕ) → IsEnough p f places → AreEnoughFor p Kind f places) → 0 < rows → CoversAll p Kind rows fronts
    → AreNextEnough p fronts others → CoversAll p Kind (rows + 1) others
next_passes p Kind rows fronts others is_order enough some covers next parents many kind =
    let x = covers parents (omega (arith, many)) kind in
    let more : x.rest ≢ [] = λ none. omega (arith, many, x.as_many, x.first_are, length-append x.parents x.rest, ap (length {A = ℕ}) none) in
    let live = live_there p x.parents x.names x.rest x.front (omega (arith, some, x.first_are)) x.stands more (is_order (x.parents ++ x.rest) x.is) in
    let places = next.all x.front x.among live in
    let go = enough x.front places.0 places.1 x.parents x.names x.rest x.stands more x.is in
    let g = places.2 go.place go.among in
    let z = g.2 x.parents x.names go.row x.stands go.named in
    record {
      front = g.0;
      among = g.1;
      parents = x.parents ++ go.row ∷ [];
      names = z.0;
      stands = z.1;
      first_are = omega (arith, x.first_are, length-append x.parents (go.row ∷ []));
      rest = go.others;
      as_many = omega (
        arith,
        x.as_many,
        go.as_many,
        length-append (x.parents ++ go.row ∷ []) go.others,
        length-append x.parents (go.row ∷ []),
        length-append x.parents x.rest,
      );
      is = one_moved Kind x.parents go.row go.others go.is;
    }

pub next_covers : (p : Program) (rows : ℕ) (fronts others : List Front) → 0 < rows → Covers p rows fronts → AreNextEnough p fronts others
    → Covers p (rows + 1) others
next_covers p rows fronts others some covers next = record {
  each = next_each p rows fronts others some covers next;
  whole = λ values. next_passes p (EndsWhole p values) rows fronts others (λ qs k. k.0.order) (λ f places e. e.whole values) some (covers.whole values) next;
  endless = next_passes p (IsUnfinished p) rows fronts others (λ qs k. k.0) (λ f places e. e.endless) some covers.endless next;
}

-- ---- the ends

none_live : (p : Program) (parents names : List ℕ) (f : Front) → Stands p parents names f → ((r : ℕ) → HasWish (serial_along p parents).rows r → ⊥)
    → (ls : List LiveRow) → f.live ≡ ls → ls ≡ []
none_live p parents names f st none [] e = refl
none_live p parents names f st none (l ∷ ls) e =
    let q = item_at names 0 (omega (arith, st.loosely.many, ap (length {A = LiveRow}) e)) in
    absurd (none q.0 (named_has_wish p parents names f st 0 q.0 q.1))

no_rest : (rest : List ℕ) → length rest ≡ 0 → rest ≡ []
no_rest [] h = refl
no_rest (r ∷ rest) h = absurd (omega (arith, h))

-- where an order has no more rows, its own end stands there
all_rows : (p : Program) (Kind : List ℕ → Type 0) (rows : ℕ) (fronts : List Front) (many : ℕ) → many ≡ rows → (x : Passes p Kind rows fronts many)
    → Kind x.parents
all_rows p Kind rows fronts many e x =
    let none = no_rest x.rest (omega (arith, e, x.as_many, x.first_are, length-append x.parents x.rest)) in
    subst Kind (append-nil x.parents) (subst (λ (zs : List ℕ). Kind (x.parents ++ zs)) none x.is)

pub whole_orders_end : (p : Program) (rows : ℕ) (fronts : List Front) → Covers p rows fronts → (parents : List ℕ) → IsWholeOrder p parents
    → length parents ≡ rows → HasEnd fronts (serial_along p parents).values
whole_orders_end p rows fronts covers parents whole many =
    let values = (serial_along p parents).values in
    let x = covers.whole values parents (omega (arith, many)) (whole, refl) in
    let k = all_rows p (EndsWhole p values) rows fronts (length parents) many x in
    record {
      front = x.front;
      among = x.among;
      over = none_live p x.parents x.names x.front x.stands k.0.none_left x.front.live refl;
      values_are = sym x.stands.loosely.values_are ∙ k.1;
    }

pub whole_runs_end : (p : Program) (rows : ℕ) (fronts : List Front) → Covers p rows fronts → (log : List Event) → IsWholeRun p log
    → length (parents_of_rows log) ≡ rows → HasEnd fronts (config_of p log).values
whole_runs_end p rows fronts covers log whole many =
    subst (HasEnd fronts) (sym (values_at_end p log whole))
    (whole_orders_end p rows fronts covers (parents_of_rows log) (whole_runs_make_orders p log whole) many)

pub ends_are_whole : (p : Program) (rows : ℕ) (fronts : List Front) → 0 < rows → rows ≤ MOST_ROWS → Covers p rows fronts → (values : List ℤ)
    → HasEnd fronts values → (parents : List ℕ) × IsWholeOrder p parents × (length parents ≡ rows) × ((serial_along p parents).values ≡ values)
ends_are_whole p rows fronts some few covers values h =
    let x = covers.each h.front h.among in (
      x.0,
      record {
        order = x.2;
        some = omega (arith, some, x.3);
        few = omega (arith, few, x.3);
        none_left = λ r w.
            let i = x.4.loosely.all r w in
            omega (arith, place_below x.1 i.0 r i.1, x.4.loosely.many, ap (length {A = LiveRow}) h.over);
      },
      x.3,
      x.4.loosely.values_are ∙ h.values_are,
    )

pub live_if_unfinished : (p : Program) (rows : ℕ) (fronts : List Front) → Covers p rows fronts
    → (((f : Front) × Contains fronts f × (f.live ≢ [])) ↔ ((parents : List ℕ) × IsUnfinished p parents × (length parents ≡ rows)))
live_if_unfinished p rows fronts covers = (
  λ h.
      let x = covers.each h.0 h.1 in
      let q = item_at x.1 0 (omega (arith, more_than_none h.0.live h.2, x.4.loosely.many)) in
      (x.0, (x.2, (q.0, named_has_wish p x.0 x.1 h.0 x.4 0 q.0 q.1)), x.3),
  λ h.
      let x = covers.endless h.0 (omega (arith, h.2)) h.1 in
      let k = all_rows p (IsUnfinished p) rows fronts (length h.0) h.2 x in
      let i = x.stands.loosely.all k.1.0 k.1.1 in (
        x.front,
        x.among,
        λ none. omega (arith, place_below x.names i.0 k.1.0 i.1, x.stands.loosely.many, ap (length {A = LiveRow}) none),
      ),
)
  where
    more_than_none : (ls : List LiveRow) → ls ≢ [] → 0 < length ls
    more_than_none [] e = absurd (e refl)
    more_than_none (l ∷ ls) e = omega arith

pub no_more_ends : (p : Program) (rows : ℕ) → Covers p rows [] → (parents : List ℕ) → rows ≤ length parents → IsWholeOrder p parents → ⊥
no_more_ends p rows covers parents many whole =
    let x = covers.whole (serial_along p parents).values parents many (whole, refl) in
    none_in_none x.front x.among

pub no_more_endless : (p : Program) (rows : ℕ) → Covers p rows [] → (parents : List ℕ) → rows ≤ length parents → IsUnfinished p parents → ⊥
no_more_endless p rows covers parents many ends =
    let x = covers.endless parents many ends in
    none_in_none x.front x.among

-- The front of an end, and the order for which it stands.
use Rattle.std.proofs.Common.{◌≡◌, ◌⊎◌, ℕ, ◌<◌, ◌≤◌, inl, inr, List, [], ◌∷◌, ◌++◌, length, sym, ◌∙◌, ap, subst, arith, ℤ}
use Rattle.std.specs.List.{Contains}
use Rattle.boc_program.specs.declared.limits.TheConstants.{MOST_ROWS}
use Rattle.boc_program.specs.declared.program.Program.{Program}
use Rattle.boc_program.proofs.ChangedItems.{place_below}
use Rattle.boc_program.proofs.RisingNumbers.{none_in_none}
use Rattle.boc_runs.specs.Serial.{serial_along}
use Rattle.boc_fronts.specs.Orders.{IsWholeOrder}
use Rattle.boc_front_rows.specs.declared.row.Front.{Front}
use Rattle.boc_front_rows.specs.declared.row.LiveRow.{LiveRow}
use Rattle.boc_front_rows.specs.Seen.{front_of}
use Rattle.boc_front_rows.proofs.Mapped.{mapped_has}
use Rattle.boc_front_rows.proofs.Places.{old_or_last}
use Rattle.boc_all_ends.specs.Ends.{IsEnd}
use Rattle.boc_all_ends.specs.Gathered.{HaveEnds}
use Rattle.boc_all_ends.proofs.EndsOfLayers.{layer_has_ends, order_of_end}
use Rattle.boc_all_ends.proofs.Ready.{same_many}
use Rattle.boc_all_ends.proofs.Seeing.{Lists}
use Rattle.boc_end_orders.specs.declared.search.Trace.{Trace}
use Rattle.boc_end_orders.specs.Orders.{order_at}
use Rattle.boc_end_orders.specs.Traces.{HasNoEnd, HasOrder, IsTracedLayer, fronts_of}

-- an end of so many rows is that of a front
pub end_there : (p : Program) (lists : Lists) (orders : List (List ℕ)) (rows : ℕ) (es : List (Front × Trace)) (values : List ℤ) → 0 < rows
    → rows ≤ MOST_ROWS → IsTracedLayer p lists orders rows es → IsEnd p rows values → HasNoEnd es values → ⊥
end_there p lists orders rows es values some few layer end none =
    let have : HaveEnds p rows (fronts_of es) = layer_has_ends p lists rows (fronts_of es) some few layer.stands.covers in
    let here = (have values).1 (order_of_end p rows values end) in
    let e = mapped_has (λ (e : Front × Trace). e.0) es here.front here.among in
    none e.0 e.1 (ap (λ (z : Front). z.live.items) e.2 ∙ here.over) (ap (λ (z : Front). z.values.items) e.2 ∙ here.values_are)

-- one more front without that end
pub none_more : (es : List (Front × Trace)) (e : Front × Trace) (values : List ℤ) → HasNoEnd es values
    → (e.0.live.items ≡ [] → e.0.values.items ≡ values → ⊥) → HasNoEnd (es ++ (e ∷ [])) values
none_more es e values none not x among =
    elim (old_or_last es e x among) [
      | inl old ↦ none x old
      | inr is ↦ subst (λ (z : Front × Trace). z.0.live.items ≡ [] → z.0.values.items ≡ values → ⊥) is not
    ]

pub none_of_none : (values : List ℤ) → HasNoEnd [] values
none_of_none values x among = absurd (none_in_none x among)

-- the order for which the front of an end stands is whole, and ends so
pub record Comes (p : Program) (rows : ℕ) (values : List ℤ) (parents : List ℕ) : Type 0 where
  pub whole : IsWholeOrder p parents
  pub many : length parents ≡ rows
  pub values_are : (serial_along p parents).values ≡ values

pub comes : (p : Program) (lists : Lists) (orders : List (List ℕ)) (rows order : ℕ) (es : List (Front × Trace)) (values : List ℤ) → 0 < rows
    → rows ≤ MOST_ROWS → IsTracedLayer p lists orders rows es → HasOrder es values order → Comes p rows values (order_at orders order)
comes p lists orders rows order es values some few layer h =
    let t = layer.each h.entry h.among in
    let dead : length (front_of lists h.entry.0).live ≡ 0 = same_many lists h.entry.0 ∙ ap (length {A = LiveRow}) h.over in
    subst (λ (n : ℕ). Comes p rows values (order_at orders n)) h.order_is (record {
      whole = record {
        order = t.order;
        some = omega (arith, some, t.many);
        few = omega (arith, few, t.many);
        none_left = λ r w.
            let i = t.stands.loosely.all r w in
            omega (arith, place_below h.entry.1.names.items i.0 r i.1, t.stands.loosely.many, dead);
      };
      many = t.many;
      values_are = t.stands.loosely.values_are ∙ h.values_are;
    })

-- and it is among the orders
pub order_there : (p : Program) (lists : Lists) (orders : List (List ℕ)) (rows order : ℕ) (es : List (Front × Trace)) (values : List ℤ)
    → IsTracedLayer p lists orders rows es → HasOrder es values order → order < length orders
order_there p lists orders rows order es values layer h =
    subst (λ (n : ℕ). n < length orders) h.order_is (layer.each h.entry h.among).there

-- the rows of an end are some, and no more than there may be
pub end_rows : (p : Program) (rows : ℕ) (values : List ℤ) → IsEnd p rows values → (0 < rows) × (rows ≤ MOST_ROWS)
end_rows p rows values end =
    let o = order_of_end p rows values end in
    (omega (arith, o.whole.some, o.many), omega (arith, o.whole.few, o.many))

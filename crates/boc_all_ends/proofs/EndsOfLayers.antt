-- The ends of layers are those of whole runs.
use Rattle.std.proofs.Common.{◌≡◌, ◌≢◌, ◌↔◌, ℕ, zero, suc, ◌+◌, ◌-◌, ◌<◌, ◌≤◌, List, [], ◌∷◌, length, map, refl, sym, ◌∙◌, ap, subst, arith, ℤ, true, false, inl, inr}
use Rattle.std.specs.Prelude.{slice_get, Some, None}
use Rattle.std.specs.List.{Contains}
use Rattle.std.proofs.lemmas.Bool.{cases_lt}
use Rattle.std.proofs.lemmas.List.{length-map}
use Rattle.boc_program.specs.declared.limits.TheConstants.{MOST_ROWS}
use Rattle.boc_program.specs.declared.program.Program.{Program}
use Rattle.boc_runs.specs.Legal.{entries}
use Rattle.boc_runs.specs.Serial.{serial_along}
use Rattle.boc_runs.specs.machine.AlongRows.{parents_of_rows}
use Rattle.boc_machine_laws.proofs.Serially.{values_at_end}
use Rattle.boc_fronts.specs.Fronts as fronts
use Rattle.boc_fronts.specs.Orders.{HasWish, IsOrder, IsWholeOrder}
use Rattle.boc_fronts.proofs.Orderly.{runs_make_orders, whole_runs_make_orders}
use Rattle.boc_fronts.proofs.OrdersRun.{orders_make_runs, whole_orders_make_runs}
use Rattle.boc_closed_sets.specs.Covers.{Covers}
use Rattle.boc_closed_sets.proofs.Covering.{ends_are_whole, live_if_unfinished, no_more_ends, no_more_endless, whole_orders_end}
use Rattle.boc_front_rows.specs.declared.row.LiveRow.{LiveRow}
use Rattle.boc_front_rows.specs.declared.row.Front.{Front}
use Rattle.boc_front_rows.specs.Seen.{front_of}
use Rattle.boc_front_rows.proofs.Mapped.{has_mapped, mapped_has}
use Rattle.boc_all_ends.specs.declared.ends.Ends.{Ends}
use Rattle.boc_all_ends.specs.declared.found.End.{End}
use Rattle.boc_all_ends.specs.Ends.{IsEnd, HasEndOf, AreEndsBelow, IsEndless}
use Rattle.boc_all_ends.specs.Gathered.{IsOrderEnd, EndsHere, HasLive, HaveEnds, noted, AreNoted, HoldsEnds}
use Rattle.boc_all_ends.specs.Spreading.{seen}
use Rattle.boc_all_ends.proofs.Seeing.{Lists}
use Rattle.boc_all_ends.proofs.Ready.{same_many}

-- ---- ends of orders are ends of runs

pub end_of_order : (p : Program) (rows : ℕ) (values : List ℤ) → IsOrderEnd p rows values → IsEnd p rows values
end_of_order p rows values e =
    let r = whole_orders_make_runs p e.parents e.whole in
    record {
      log = r.0;
      whole = r.1;
      many = sym (length-map (entries r.0) (λ x. x.parent)) ∙ ap (length {A = ℕ}) r.2 ∙ e.many;
      values_are = values_at_end p r.0 r.1 ∙ ap (λ ps. (serial_along p ps).values) r.2 ∙ e.values_are;
    }

pub order_of_end : (p : Program) (rows : ℕ) (values : List ℤ) → IsEnd p rows values → IsOrderEnd p rows values
order_of_end p rows values e = record {
  parents = parents_of_rows e.log;
  whole = whole_runs_make_orders p e.log e.whole;
  many = length-map (entries e.log) (λ x. x.parent) ∙ e.many;
  values_are = sym (values_at_end p e.log e.whole) ∙ e.values_are;
}

-- ---- ends of layers

pub no_items : {A : Type 0} (xs : List A) → length xs ≡ 0 → xs ≡ []
no_items [] h = refl
no_items (x ∷ xs) h = absurd (omega (arith, h))

pub layer_has_ends : (p : Program) (lists : Lists) (rows : ℕ) (fs : List Front) → 0 < rows → rows ≤ MOST_ROWS → Covers p rows (seen lists fs)
    → HaveEnds p rows fs
layer_has_ends p lists rows fs some few covers values = (
  λ h.
      let w = ends_are_whole p rows (seen lists fs) some few covers values (record {
        front = front_of lists h.front;
        among = has_mapped (front_of lists) fs h.front h.among;
        over = no_items (front_of lists h.front).live (same_many lists h.front ∙ ap (length {A = LiveRow}) h.over);
        values_are = h.values_are;
      }) in
      record { parents = w.0; whole = w.1; many = w.2; values_are = w.3 },
  λ e.
      let x = whole_orders_end p rows (seen lists fs) covers e.parents e.whole e.many in
      let f = mapped_has (front_of lists) fs x.front x.among in
      record {
        front = f.0;
        among = f.1;
        over = no_items f.0.live.items (sym (same_many lists f.0)
            ∙ ap (λ (z : fronts.Front). length z.live) f.2 ∙ ap (length {A = fronts.LiveRow}) x.over);
        values_are = ap (λ (z : fronts.Front). z.values) f.2 ∙ x.values_are ∙ e.values_are;
      },
)

-- where no front is left there are no more ends
pub no_more : (p : Program) (rows from below : ℕ) (ends : Ends) → Covers p rows [] → rows ≤ from → from ≤ below → AreNoted p from ends
    → AreNoted p below ends
no_more p rows from below ends covers past more n = record {
  least = n.least;
  most = n.most;
  low = λ values x is. let h = n.low values x is in (h.0, omega (arith, h.1, more));
  all = λ k values low e.
      elim (cases_lt k from) [
        | inl less ↦ n.all k values less e
        | inr high ↦ absurd (no_more_ends p rows covers e.parents (omega (arith, high, past, e.many)) e.whole)
      ];
}

-- nor is a run endless
pub not_endless : (p : Program) (rows : ℕ) → rows ≤ MOST_ROWS → Covers p rows [] → IsEndless p → ⊥
not_endless p rows few covers e =
    no_more_endless p rows covers (parents_of_rows e.log) (omega (arith, few, length-map (entries e.log) (λ y. y.parent), e.many))
    (runs_make_orders p e.log e.run, (e.row, e.wishes))

-- a run is endless if a front of the last layer has a live row, and only then
pub endless_if : (p : Program) (lists : Lists) (fs : List Front) → Covers p MOST_ROWS (seen lists fs) → (HasLive fs ↔ IsEndless p)
endless_if p lists fs covers =
    let live = live_if_unfinished p MOST_ROWS (seen lists fs) covers in (
      λ h.
          let u = live.0 (
            front_of lists h.0,
            has_mapped (front_of lists) fs h.0 h.1,
            λ none. h.2 (no_items h.0.live.items (sym (same_many lists h.0) ∙ ap (length {A = fronts.LiveRow}) none)),
          ) in
          let r = orders_make_runs p u.0 u.1.0 (omega (arith, u.2)) in
          record {
            log = r.0;
            run = r.1;
            many = sym (length-map (entries r.0) (λ y. y.parent)) ∙ ap (length {A = ℕ}) r.2 ∙ u.2;
            row = u.1.1.0;
            wishes = subst (λ ps. HasWish (serial_along p ps).rows u.1.1.0) (sym r.2) u.1.1.1;
          },
      λ e.
          let x = live.1 (
            parents_of_rows e.log,
            (runs_make_orders p e.log e.run, (e.row, e.wishes)),
            length-map (entries e.log) (λ y. y.parent) ∙ e.many,
          ) in
          let f = mapped_has (front_of lists) fs x.0 x.1 in (
            f.0,
            f.1,
            λ none. x.2 (no_items x.0.live (ap (λ (z : fronts.Front). length z.live) (sym f.2) ∙ same_many lists f.0 ∙ ap (length {A = LiveRow}) none)),
          ),
    )

-- ---- all that was noted

pub ends_below : (p : Program) (below : ℕ) (ends : Ends) (all : List End) → AreNoted p below ends → HoldsEnds ends all → AreEndsBelow p below all
ends_below p below ends all n h = record {
  least = λ e among. end_of_order p e.least e.values.items (n.least e.values.items (record { least = e.least; most = e.most }) (h.each e among));
  most = λ e among. end_of_order p e.most e.values.items (n.most e.values.items (record { least = e.least; most = e.most }) (h.each e among));
  all = λ rows values low is.
      let x = n.all rows values low (order_of_end p rows values is) in
      let e = h.every values x.0 x.1 in
      record {
        end = e.0;
        among = e.1;
        values_are = e.2;
        least = omega (arith, e.3, x.2);
        most = omega (arith, e.4, x.3);
      };
  in_order = h.in_order;
}

-- A front after a step stands for an order that is one spawn longer.
use Rattle.std.proofs.Common.{◌≡◌, ◌≢◌, ◌⊎◌, ℕ, ◌+◌, ◌<◌, ◌≤◌, inl, inr, List, [], ◌∷◌, ◌++◌, length, map, refl, sym, ◌∙◌, ap, subst, arith, append-nil, append_assoc, length-append}
use Rattle.std.specs.Prelude.{slice_get, slice_index_or, Some}
use Rattle.std.specs.List.{Contains}
use Rattle.std.proofs.lemmas.List.{get_or_append_left}
use Rattle.boc_program.specs.declared.program.Program.{Program}
use Rattle.boc_runs.specs.Serial.{Behaviour, Serial, after_turn, serial_along}
use Rattle.boc_runs.proofs.OwnOrders.{along_more, rows_done}
use Rattle.boc_fronts.specs.Fronts as fronts
use Rattle.boc_fronts.specs.Orders.{CanSpawn, IsOrder}
use Rattle.boc_fronts.specs.Steps.{IsStep, IsArranged}
use Rattle.boc_fronts.proofs.Arranging.{arranged_stands}
use Rattle.boc_fronts.proofs.Layers.{free_can}
use Rattle.boc_fronts.proofs.LooseSteps.{after_step}
use Rattle.boc_fronts.proofs.Orderly.{next_later, order_more}
use Rattle.boc_front_rows.specs.declared.row.Front.{Front}
use Rattle.boc_front_rows.specs.Rows.{plains}
use Rattle.boc_front_rows.specs.Seen.{front_of}
use Rattle.boc_front_rows.proofs.Mapped.{has_mapped, mapped_has}
use Rattle.boc_all_ends.specs.Spreading.{AreKept, IsPut}
use Rattle.boc_all_ends.specs.Stepping.{Grows, IsKept}
use Rattle.boc_all_ends.proofs.Seeing.{Lists, grows_not, kept_on, same_front}
use Rattle.boc_end_orders.specs.declared.search.Trace.{Trace}
use Rattle.boc_end_orders.specs.Orders.{order_at}
use Rattle.boc_end_orders.specs.Traces.{Adds, AreTraced, IsNew, IsPutTraced, IsTraced, fronts_of, names_at}

-- an order, with one spawn more, for which a front stands
pub record Longer (p : Program) (ps : List ℕ) (r : ℕ) (names : List ℕ) (g : fronts.Front) : Type 0 where
  pub order : IsOrder p (ps ++ r ∷ [])
  pub stands : fronts.Stands p (ps ++ r ∷ []) names g

pub one_longer : (p : Program) (ps names : List ℕ) (f h g : fronts.Front) (i r : ℕ) (places : List ℕ) → IsOrder p ps → 0 < length ps
    → fronts.Stands p ps names f → fronts.IsFree f i → slice_get names i ≡ Some r → IsStep p f i h → IsArranged h places g
    → Longer p ps r (names_at (names ++ length ps ∷ []) places) g
one_longer p ps names f h g i r places order some st free name step arranged =
    let s : Serial = serial_along p ps in
    let many : length s.rows ≡ length ps = rows_done p ps in
    let loose = after_step p s names f h st.loosely i r name step in
    let stands = arranged_stands (after_turn p s r) (names ++ (length s.rows ∷ [])) h g places loose arranged in
    let c = free_can p ps names f st i free in
    let same : c.0 ≡ r = (let q : Some c.0 ≡ Some r = sym c.1 ∙ name in cc) in
    record {
      order = order_more p (serial_along p []) ps r order
          (next_later s.rows r (omega (arith, some, many)) (subst (λ (z : ℕ). CanSpawn s.rows z) same c.2));
      stands = record {
        loosely = subst (λ (t : Serial). fronts.StandsLoosely t (names_at (names ++ (length ps ∷ [])) places) g)
            (sym (along_more p (serial_along p []) ps r))
            (subst (λ (n : ℕ). fronts.StandsLoosely (after_turn p s r) (names_at (names ++ (n ∷ [])) places) g) many stands);
        some = arranged.some;
      };
    }

-- ---- orders that are added

pub adds_none : (orders : List (List ℕ)) → Adds orders orders
adds_none orders = ([], sym (append-nil orders))

pub adds_on : (a b c : List (List ℕ)) → Adds a b → Adds b c → Adds a c
adds_on a b c g h = (g.0 ++ h.0, h.1 ∙ ap (λ xs. xs ++ h.0) g.1 ∙ append_assoc a g.0 h.0)

pub same_order : (a b : List (List ℕ)) (n : ℕ) → Adds a b → n < length a → order_at b n ≡ order_at a n
same_order a b n g low = ap (λ xs. order_at xs n) g.1 ∙ get_or_append_left a g.0 [] n low

pub more_orders : (a b : List (List ℕ)) → Adds a b → length a ≤ length b
more_orders a b g = omega (arith, ap (length {A = List ℕ}) g.1, length-append a g.0)

-- a traced front stays so while lists and orders are added
pub traced_on : (p : Program) (a b : Lists) (orders more : List (List ℕ)) (rows : ℕ) (e : Front × Trace) → Grows a b → Adds orders more
    → IsTraced p a orders rows e → IsTraced p b more rows e
traced_on p a b orders more rows e grows adds t =
    let same = same_order orders more e.1.order adds t.there in
    record {
      there = omega (arith, t.there, more_orders orders more adds);
      order = subst (IsOrder p) (sym same) t.order;
      many = ap (length {A = ℕ}) same ∙ t.many;
      stands = subst (λ (ps : List ℕ). fronts.Stands p ps e.1.names.items (front_of b e.0)) (sym same)
          (subst (λ (z : fronts.Front). fronts.Stands p (order_at orders e.1.order) e.1.names.items z)
          (sym (same_front a b e.0 grows t.kept.there)) t.stands);
      kept = kept_on a b rows e.0 grows t.kept;
    }

pub all_traced_on : (p : Program) (a b : Lists) (orders more : List (List ℕ)) (rows : ℕ) (es : List (Front × Trace)) → Grows a b → Adds orders more
    → AreTraced p a orders rows es → AreTraced p b more rows es
all_traced_on p a b orders more rows es grows adds t e among = traced_on p a b orders more rows e grows adds (t e among)

-- the front that was put is traced, and so are the others
pub put_traced : (p : Program) (lists : Lists) (old new : List (List ℕ)) (rows before parent : ℕ) (names : List ℕ) (front : Front)
    (was now : List (Front × Trace)) → AreTraced p lists old (rows + 1) was → IsPutTraced front before parent names old new was now
    → length (order_at old before) ≡ rows → Longer p (order_at old before) parent names (front_of lists front) → IsKept lists (rows + 1) front
    → AreTraced p lists new (rows + 1) now
put_traced p lists old new rows before parent names front was now traced put many longer kept e among =
    elim (put.only e among) [
      | inl before ↦ traced_on p lists lists old new (rows + 1) e (grows_not lists) put.adds (traced e before)
      | inr n ↦ record {
        there = n.there;
        order = subst (IsOrder p) (sym n.order_is) longer.order;
        many = ap (length {A = ℕ}) n.order_is ∙ omega (arith, length-append (order_at old before) (parent ∷ []), many);
        stands = subst (λ (ps : List ℕ). fronts.Stands p ps e.1.names.items (front_of lists e.0)) (sym n.order_is)
            (subst (λ (ns : List ℕ). fronts.Stands p (order_at old before ++ parent ∷ []) ns (front_of lists e.0)) (sym n.names_are)
            (subst (λ (z : Front). fronts.Stands p (order_at old before ++ parent ∷ []) names (front_of lists z)) (sym n.front_is) longer.stands));
        kept = subst (IsKept lists (rows + 1)) (sym n.front_is) kept;
      }
    ]

-- ---- their fronts

-- the fronts of traced ones are kept
pub fronts_kept : (p : Program) (lists : Lists) (orders : List (List ℕ)) (rows : ℕ) (es : List (Front × Trace)) → AreTraced p lists orders rows es
    → AreKept lists rows (fronts_of es)
fronts_kept p lists orders rows es traced f among =
    let e = mapped_has (λ (e : Front × Trace). e.0) es f among in
    subst (IsKept lists rows) e.2 (traced e.0 e.1).kept

-- and the front was put among them
pub put_front : (front : Front) (before parent : ℕ) (names : List ℕ) (old new : List (List ℕ)) (was now : List (Front × Trace))
    → IsPutTraced front before parent names old new was now → IsPut front (fronts_of was) (fronts_of now)
put_front front before parent names old new was now put = record {
  stays = λ f among.
      let e = mapped_has (λ (e : Front × Trace). e.0) was f among in
      subst (λ (z : Front). Contains (fronts_of now) z) e.2 (has_mapped (λ (e : Front × Trace). e.0) now e.0 (put.stays e.0 e.1));
  only = λ f among.
      let e = mapped_has (λ (e : Front × Trace). e.0) now f among in
      elim (put.only e.0 e.1) [
        | inl old_one ↦ inl (subst (λ (z : Front). Contains (fronts_of was) z) e.2 (has_mapped (λ (e : Front × Trace). e.0) was e.0 old_one))
        | inr n ↦ inr (sym n.front_is ∙ e.2)
      ];
  same = put.same.0;
  there = has_mapped (λ (e : Front × Trace). e.0) now put.same put.there;
  alike = put.alike;
  as_kept = put.as_kept;
}

pub fronts_more : (es : List (Front × Trace)) (e : Front × Trace) → fronts_of (es ++ (e ∷ [])) ≡ fronts_of es ++ (e.0 ∷ [])
fronts_more [] e = refl
fronts_more (x ∷ es) e = ap (λ fs. x.0 ∷ fs) (fronts_more es e)

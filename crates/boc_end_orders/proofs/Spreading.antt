-- The fronts of a layer, each with an order, lead to those of the next.
use Rattle.std.proofs.Common.{◌≡◌, ◌⊎◌, ℕ, ◌+◌, ◌<◌, inl, inr, List, [], ◌∷◌, ◌++◌, length, map, refl, sym, ◌∙◌, ap, subst, arith, append_assoc, append-nil}
use Rattle.std.specs.List.{Contains}
use Rattle.boc_program.specs.declared.program.Program.{Program}
use Rattle.boc_program.proofs.RisingNumbers.{has_first, has_later, first_or_later, none_in_none}
use Rattle.boc_runs.specs.Serial.{serial_along}
use Rattle.boc_fronts.specs.Fronts as fronts
use Rattle.boc_fronts.specs.Orders.{IsOrder}
use Rattle.boc_fronts.proofs.Arranging.{arranged_stands}
use Rattle.boc_fronts.proofs.Opening.{first_layer, opening_stands}
use Rattle.boc_front_rows.specs.declared.arranging.Arranged.{Arranged}
use Rattle.boc_front_rows.specs.declared.row.Front.{Front}
use Rattle.boc_front_rows.specs.Seen.{front_of}
use Rattle.boc_front_rows.proofs.Mapped.{has_mapped}
use Rattle.boc_all_ends.specs.Searching.{StandsAt}
use Rattle.boc_all_ends.specs.Spreading.{IsReady, IsSpread, seen}
use Rattle.boc_all_ends.specs.Stepping.{Grows, IsKept, ListsFit, Opens}
use Rattle.boc_all_ends.proofs.Layering.{next_stands, none_spread}
use Rattle.boc_all_ends.proofs.Ready.{ready}
use Rattle.boc_all_ends.proofs.Searching as searching
use Rattle.boc_all_ends.proofs.Seeing.{Lists, grows_not, same_front}
use Rattle.boc_end_orders.specs.declared.search.Trace.{Trace}
use Rattle.boc_end_orders.specs.Orders.{order_at}
use Rattle.boc_end_orders.specs.Traces.{Adds, AreTraced, IsStepPut, IsTraced, IsTracedLayer, fronts_of, names_at}
use Rattle.boc_end_orders.proofs.Tracing.{adds_none, adds_on, all_traced_on, fronts_kept, fronts_more, Longer, one_longer, put_front, put_traced, traced_on}

abbrev pub Entries : Type 0
Entries = List (Front × Trace)

abbrev pub Orders : Type 0
Orders = List (List ℕ)

-- ---- the steps of one front

-- the steps at these places were put among others, with their orders
pub record SpreadSoFar (p : Program) (a : Lists) (first : Orders) (f : Front) (rows : ℕ) (ns : List ℕ) (b : Lists) (orders : Orders)
    (old mid : Entries) : Type 0 where
  pub so_far : searching.SpreadSoFar p a f rows ns b (fronts_of old) (fronts_of mid)
  pub traced : AreTraced p b orders (rows + 1) mid
  pub adds : Adds first orders

pub so_far_none : (p : Program) (a : Lists) (orders : Orders) (f : Front) (rows : ℕ) (old : Entries) → AreTraced p a orders (rows + 1) old → ListsFit p a
    → SpreadSoFar p a orders f rows [] a orders old old
so_far_none p a orders f rows old traced fits = record {
  so_far = searching.so_far_none p a f rows (fronts_of old) (fronts_kept p a orders (rows + 1) old traced) fits;
  traced = traced;
  adds = adds_none orders;
}

-- one step more
pub so_far_put : (p : Program) (a : Lists) (first : Orders) (f : Front) (t : Trace) (rows : ℕ) (ns : List ℕ) (n : ℕ) (b c : Lists) (orders more : Orders)
    (old mid new : Entries) → 0 < rows → SpreadSoFar p a first f rows ns b orders old mid → IsReady p a rows f → IsTraced p a first rows (f, t)
    → fronts.IsFree (front_of a f) n → IsStepPut p b f t rows n c orders more mid new → Grows b c → ListsFit p c
    → SpreadSoFar p a first f rows (ns ++ (n ∷ [])) c more old new
so_far_put p a first f t rows ns n b c orders more old mid new some s ready traced free h grows fits =
    let after = h.after in
    let parent = h.parent in
    let names = h.names in
    let step = h.step in
    let kept = h.kept in
    let put = h.put in
    let here : front_of b f ≡ front_of a f = same_front a b f s.so_far.grows traced.kept.there in
    let now = traced_on p a b first orders rows (f, t) s.so_far.grows s.adds traced in
    let ps = order_at orders t.order in
    let longer = one_longer p ps t.names.items (front_of b f) step.stepped (front_of c after.front) n parent after.kept.items now.order
    (omega (arith, some, now.many)) now.stands (subst (λ (z : fronts.Front). fronts.IsFree z n) (sym here) free) h.name step.step step.arranged in
    let named : names_at (t.names.items ++ (length ps ∷ [])) after.kept.items ≡ names =
    ap (λ k. names_at (t.names.items ++ (k ∷ [])) after.kept.items) now.many ∙ sym h.names_are in
    let few : IsKept c (rows + 1) after.front = record { there = kept.there; few = omega (arith, kept.few, traced.kept.few) } in
    let were = all_traced_on p b c orders orders (rows + 1) mid grows (adds_none orders) s.traced in
    record {
      so_far = searching.so_far_put p a f rows ns n b c (fronts_of old) (fronts_of mid) (fronts_of new) after.front s.so_far ready
          (record { stepped = step.stepped; order = after.kept.items; step = step.step; arranged = step.arranged }) kept grows fits
          (put_front after.front t.order parent names orders more mid new put);
      traced = put_traced p c orders more rows t.order parent names after.front mid new were put now.many
          (subst (λ (ks : List ℕ). Longer p ps parent ks (front_of c after.front)) named longer) few;
      adds = adds_on first orders more s.adds put.adds;
    }

-- ---- the fronts of a layer

-- the fronts of a layer that come first were spread
pub record LayerSoFar (p : Program) (a : Lists) (first : Orders) (rows : ℕ) (done : Entries) (b : Lists) (orders : Orders) (new : Entries) : Type 0 where
  pub so_far : searching.LayerSoFar p a rows (fronts_of done) b (fronts_of new)
  pub traced : AreTraced p b orders (rows + 1) new
  pub adds : Adds first orders

pub layer_none : (p : Program) (a : Lists) (orders : Orders) (rows : ℕ) → ListsFit p a → LayerSoFar p a orders rows [] a orders []
layer_none p a orders rows fits = record {
  so_far = record {
    spread = none_spread p a;
    kept = λ f among. absurd (none_in_none f among);
    grows = grows_not a;
    fits = fits;
  };
  traced = λ e among. absurd (none_in_none e among);
  adds = adds_none orders;
}

pub layer_more : (p : Program) (a : Lists) (first : Orders) (rows : ℕ) (done : Entries) (e : Front × Trace) (b c : Lists) (orders more : Orders)
    (mid new : Entries) → LayerSoFar p a first rows done b orders mid → IsReady p a rows e.0
    → IsSpread p (front_of b e.0) c (fronts_of mid) (fronts_of new) → AreTraced p c more (rows + 1) new → Grows b c → Adds orders more → ListsFit p c
    → LayerSoFar p a first rows (done ++ e ∷ []) c more new
layer_more p a first rows done e b c orders more mid new s ready spread traced grows adds fits = record {
  so_far = subst (λ (fs : List Front). searching.LayerSoFar p a rows fs c (fronts_of new)) (sym (fronts_more done e))
      (searching.layer_more p a rows (fronts_of done) e.0 b c (fronts_of mid) (fronts_of new) s.so_far ready spread
      (fronts_kept p c more (rows + 1) new traced) grows fits);
  traced = traced;
  adds = adds_on first orders more s.adds adds;
}

-- the fronts to which all fronts of a layer lead are the next layer
pub next_traced : (p : Program) (a : Lists) (first : Orders) (rows : ℕ) (es : Entries) (b : Lists) (orders : Orders) (new : Entries) → 0 < rows
    → IsTracedLayer p a first rows es → LayerSoFar p a first rows es b orders new → IsTracedLayer p b orders (rows + 1) new
next_traced p a first rows es b orders new some layer s = record {
  each = s.traced;
  stands = next_stands p b rows (seen a (fronts_of es)) (fronts_of new) some layer.stands.covers s.so_far.spread s.so_far.kept;
}

-- a front of a layer is ready
pub entry_ready : (p : Program) (lists : Lists) (orders : Orders) (rows : ℕ) (es : Entries) (e : Front × Trace) → IsTracedLayer p lists orders rows es
    → Contains es e → IsReady p lists rows e.0
entry_ready p lists orders rows es e layer among =
    ready p lists rows (fronts_of es) e.0 layer.stands.covers layer.stands.kept (has_mapped (λ (z : Front × Trace). z.0) es e among)

-- what stands behind others is there
pub has_middle : (done : Entries) (e : Front × Trace) (rest : Entries) → Contains (done ++ (e ∷ rest)) e
has_middle [] e rest = has_first e rest
has_middle (x ∷ done) e rest = has_later x e (done ++ (e ∷ rest)) (has_middle done e rest)

-- fronts that were gone over, the next one, and those to come
pub one_shown : (all : Entries) (left : Entries) (e : Front × Trace) (done : Entries) → done ++ (e ∷ left) ≡ all → (done ++ (e ∷ [])) ++ left ≡ all
one_shown all left e done whole = append_assoc done (e ∷ []) left ∙ whole

pub shown_here : (all : Entries) (left : Entries) (e : Front × Trace) (done : Entries) → done ++ (e ∷ left) ≡ all → Contains all e
shown_here all left e done whole = subst (λ (es : Entries). Contains es e) whole (has_middle done e left)

pub all_shown : (all : Entries) (rest done : Entries) → done ++ rest ≡ all → rest ≡ [] → done ≡ all
all_shown all rest done whole none = sym (append-nil done) ∙ ap (λ (es : Entries). done ++ es) (sym none) ∙ whole

-- ---- the first layer

pub first_traced : (p : Program) (lists : Lists) (orders : Orders) (a : Arranged) (t : Trace) → Opens p lists a → IsKept lists 1 a.front
    → orders ≡ (0 ∷ []) ∷ [] → t.order ≡ 0 → t.names.items ≡ names_at (0 ∷ []) a.kept.items → IsTracedLayer p lists orders 1 ((a.front, t) ∷ [])
first_traced p lists orders a t opens kept is number named = record {
  each = λ e among.
      elim (first_or_later (a.front, t) e [] among) [
        | inl same ↦ subst (λ (z : Front × Trace). IsTraced p lists orders 1 z) same (record {
          there = omega (arith, number, ap (length {A = List ℕ}) is);
          order = subst (IsOrder p) (sym one) (refl, tt);
          many = ap (length {A = ℕ}) one;
          stands = subst (λ (ps : List ℕ). fronts.Stands p ps t.names.items (front_of lists a.front)) (sym one)
              (subst (λ (ns : List ℕ). fronts.Stands p (0 ∷ []) ns (front_of lists a.front)) (sym named) stands);
          kept = kept;
        })
        | inr later ↦ absurd (none_in_none e later)
      ];
  stands = searching.first_stands p lists a.front (first_layer p opens.opening (front_of lists a.front) a.kept.items opens.opens opens.arranged) kept;
}
  where
    one : order_at orders t.order ≡ 0 ∷ []
    one = ap (λ (os : Orders). order_at os t.order) is ∙ ap (λ n. order_at ((0 ∷ []) ∷ []) n) number

    stands : fronts.Stands p (0 ∷ []) (names_at (0 ∷ []) a.kept.items) (front_of lists a.front)
    stands = record {
      loosely = arranged_stands (serial_along p (0 ∷ [])) (0 ∷ []) opens.opening (front_of lists a.front) a.kept.items
          (opening_stands p opens.opening opens.opens) opens.arranged;
      some = opens.arranged.some;
    }

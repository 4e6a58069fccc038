-- A front with an order is put among others, unless an equal front is there.
use Rattle.std.proofs.Common.{◌≡◌, ◌⊎◌, ℕ, zero, suc, ◌+◌, ◌<◌, Bool, true, false, inl, inr, List, [], ◌∷◌, ◌++◌, length, refl, sym, ◌∙◌, ap, subst, arith, length-append}
use Rattle.std.specs.Prelude.{is_some, if◌then◌else◌, Option, Some, None}
use Rattle.std.specs.List.{Contains}
use Rattle.std.specs.Map.{lookup}
use Rattle.indexmap.specs.IndexMap.{insert_entry}
use Rattle.boc_program.proofs.RisingNumbers.{has_first, has_later}
use Rattle.boc_front_rows.specs.declared.row.Front.{Front}
use Rattle.boc_front_rows.proofs.Places.{has_old, has_last, old_or_last}
use Rattle.boc_all_ends.proofs.Putting.{alike, front_eq, kept_alike, seen_alike}
use Rattle.boc_end_orders.specs.declared.search.Trace.{Trace}
use Rattle.boc_end_orders.specs.Orders.{order_at}
use Rattle.boc_end_orders.specs.Traces.{Adds, IsNew, IsPutTraced}
use Rattle.boc_end_orders.proofs.Tracing.{adds_none}
use Rattle.boc_end_orders.proofs.Trails.{last_order}

-- an equal front is there
found_by : (f : Front) (e : Front × Trace) (es : List (Front × Trace)) (b : Bool) → front_eq f e.0 ≡ b
    → (is_some (lookup (front_eq f) es) ≡ true → (x : Front × Trace) × Contains es x × (front_eq f x.0 ≡ true))
    → is_some (if b then Some e.1 else lookup (front_eq f) es) ≡ true → (x : Front × Trace) × Contains (e ∷ es) x × (front_eq f x.0 ≡ true)
found_by f e es true is later some = (e, has_first e es, is)
found_by f e es false is later some = let x = later some in (x.0, has_later e x.0 es x.1, x.2)

found : (f : Front) (es : List (Front × Trace)) → is_some (lookup (front_eq f) es) ≡ true
    → (x : Front × Trace) × Contains es x × (front_eq f x.0 ≡ true)
found f [] some = absurd (let q : false ≡ true = some in cc)
found f (e ∷ es) some = found_by f e es (front_eq f e.0) refl (found f es) some

-- or none, and the front goes last
absent_by : (f : Front) (t : Trace) (e : Front × Trace) (es : List (Front × Trace)) (b : Bool)
    → (is_some (lookup (front_eq f) es) ≡ false → insert_entry front_eq es f t ≡ es ++ ((f, t) ∷ []))
    → is_some (if b then Some e.1 else lookup (front_eq f) es) ≡ false
    → (if b then (e.0, t) ∷ es else e ∷ insert_entry front_eq es f t) ≡ e ∷ (es ++ ((f, t) ∷ []))
absent_by f t e es true later none = absurd (let q : true ≡ false = none in cc)
absent_by f t e es false later none = ap (λ xs. e ∷ xs) (later none)

pub absent : (f : Front) (t : Trace) (es : List (Front × Trace)) → is_some (lookup (front_eq f) es) ≡ false
    → insert_entry front_eq es f t ≡ es ++ ((f, t) ∷ [])
absent f t [] none = refl
absent f t (e ∷ es) none = absent_by f t e es (front_eq f e.0) (absent f t es) none

pub put_there : (f : Front) (before parent : ℕ) (names : List ℕ) (orders : List (List ℕ)) (es : List (Front × Trace))
    → is_some (lookup (front_eq f) es) ≡ true → IsPutTraced f before parent names orders orders es es
put_there f before parent names orders es some =
    let x = found f es some in
    let same = alike f x.0.0 x.2 in
    record {
      adds = adds_none orders;
      stays = λ e among. among;
      only = λ e among. inl among;
      same = x.0;
      there = x.1;
      alike = λ lists. seen_alike f x.0.0 lists same;
      as_kept = λ lists most k. kept_alike f x.0.0 lists most same k;
    }

pub put_new : (f : Front) (before parent : ℕ) (names : List ℕ) (old new : List (List ℕ)) (es : List (Front × Trace)) (t : Trace)
    → new ≡ old ++ ((order_at old before ++ parent ∷ []) ∷ []) → t.order ≡ length old → t.names.items ≡ names
    → IsPutTraced f before parent names old new es (es ++ ((f, t) ∷ []))
put_new f before parent names old new es t more number named = record {
  adds = ((order_at old before ++ parent ∷ []) ∷ [], more);
  stays = λ e among. has_old es (f, t) e among;
  only = λ e among.
      elim (old_or_last es (f, t) e among) [
        | inl was ↦ inl was
        | inr is ↦ inr (subst (λ (z : Front × Trace). IsNew f before parent names old new z) is (record {
          front_is = refl;
          there = omega (arith, number, ap (length {A = List ℕ}) more, length-append old ((order_at old before ++ parent ∷ []) ∷ []));
          order_is = ap (λ os. order_at os t.order) more ∙ last_order old (order_at old before ++ parent ∷ []) t.order number;
          names_are = named;
        }))
      ];
  same = (f, t);
  there = has_last es (f, t);
  alike = λ lists. refl;
  as_kept = λ lists most k. k;
}

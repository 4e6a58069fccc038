use Rattle.std.proofs.Common.{◌≡◌, ◌++◌, ◌∷◌, [], true, false, List, ℤ, refl, sym, ◌∙◌, ap, subst}
use Rattle.boc_front_rows.specs.declared.row.Front.{Front}
use Rattle.boc_end_orders.specs.declared.search.Trace.{Trace}
use Rattle.boc_end_orders.specs.Traces.{HasNoEnd}
use Rattle.boc_end_orders.proofs.Ending.{none_more}
use Rattle.boc_end_orders.proofs.Spreading.{Entries, all_shown, one_shown, shown_here}
use Rattle.boc_end_orders.proofs.search.order_with.Goals as goal

pub returns-then-is_end : goal.returns-then-is_end
returns-then-is_end c =
    let inv = c.loop-front.invariant in
    let all : Entries = c.args.layer.now.entries in
    let left : Entries = c.next.new.self in
    let done : Entries = inv.0 in
    let e : Front × Trace = (c.in-Some.front.now, c.in-Some.trace.now) in
    let whole : done ++ (e ∷ left) ≡ all = ap (λ (es : Entries). done ++ es) (sym c.in-Some.ensures.steps) ∙ inv.1 in
    let h = c.is_end.ensures.0 c.if-is_end.true in
    record { entry = e; among = shown_here all left e done whole; over = h.0; values_are = h.1; order_is = refl }

pub loop-front-preserved : goal.loop-front-preserved
loop-front-preserved c =
    let inv = c.loop-front.invariant in
    let all : Entries = c.args.layer.now.entries in
    let left : Entries = c.next.new.self in
    let done : Entries = inv.0 in
    let e : Front × Trace = (c.in-Some.front.now, c.in-Some.trace.now) in
    let whole : done ++ (e ∷ left) ≡ all = ap (λ (es : Entries). done ++ es) (sym c.in-Some.ensures.steps) ∙ inv.1 in (
      done ++ (e ∷ []),
      one_shown all left e done whole,
      none_more done e c.args.values.now inv.2
          (λ over same. let f : false ≡ true = sym c.if-is_end.false ∙ c.is_end.ensures.1 (over, same) in cc),
    )

pub returns : goal.returns
returns c =
    let inv = c.loop-front.invariant in
    let all : Entries = c.args.layer.now.entries in
    subst (λ (es : Entries). HasNoEnd es c.args.values.now) (all_shown all c.loop-front.front-iterator inv.0 inv.1 c.in-None.ensures.steps.0) inv.2

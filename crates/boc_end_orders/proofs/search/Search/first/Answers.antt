use Rattle.std.proofs.Common.{◌≡◌, ◌+◌, ◌≤◌, ◌++◌, ◌∷◌, [], List, ℕ, length, refl, sym, ◌∙◌, ap, subst, arith}
use Rattle.std.specs.List.{All}
use Rattle.indexmap.specs.IndexMap.{insert_entry}
use Rattle.boc_fronts.specs.Fronts as fronts
use Rattle.boc_front_rows.specs.Seen.{front_of}
use Rattle.boc_all_ends.proofs.EndsOfLayers.{no_items}
use Rattle.boc_all_ends.proofs.Putting.{front_eq}
use Rattle.boc_end_orders.specs.declared.search.Trace.{Trace}
use Rattle.boc_end_orders.specs.Traces.{IsTracedLayer, names_at}
use Rattle.boc_end_orders.proofs.Naming.{places_low}
use Rattle.boc_end_orders.proofs.Spreading.{Entries, first_traced}
use Rattle.boc_end_orders.proofs.search.Search.first.Goals as goal

pub names_after-requires : goal.names_after-requires
names_after-requires c =
    let o = c.in_ok-after.ensures.opens in
    let kept : List ℕ = c.in_ok-after.after.kept.items in
    let few : length o.opening.live ≤ 0 + 1 = omega (arith, ap (length {A = fronts.LiveRow}) o.opens.live_are) in
    let all = places_low o.opening (front_of c.first_arranged.new.self.lists c.in_ok-after.after.front) kept 0 o.arranged few in
    subst (λ (xs : List ℕ). All (λ place. place ≤ 0) xs) (sym c.deref.ensures.value) all

pub returns-clause-layer : goal.returns-clause-layer
returns-clause-layer c =
    let t : Trace = record { order = 0; names = c.in_ok-names.names } in
    let p = c.first_arranged.new.self.program.now in
    let lists = c.first_arranged.new.self.lists in
    let none = no_items c.new-layer.result.entries c.new-layer.ensures.len in
    let now = c.in_ok-insert.ensures.entries ∙ ap (λ (es : Entries). insert_entry front_eq es c.in_ok-after.after.front t) none in
    subst (λ (es : Entries). IsTracedLayer p lists c.args.self.now.trail 1 es) (sym now)
    (first_traced p lists c.args.self.now.trail c.in_ok-after.after t c.in_ok-after.ensures.opens c.in_ok-after.ensures.kept c.requires.trail refl
    (c.in_ok-names.ensures ∙ ap (λ ks. names_at (0 ∷ []) ks) c.deref.ensures.value))

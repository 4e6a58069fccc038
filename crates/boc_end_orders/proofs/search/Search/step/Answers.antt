use Rattle.std.proofs.Common.{◌≡◌, ◌+◌, ◌<◌, ◌≤◌, ℕ, List, [], ◌∷◌, ◌++◌, length, Some, refl, sym, ◌∙◌, ap, subst, arith}
use Rattle.std.specs.Prelude.{slice_get}
use Rattle.std.specs.List.{All}
use Rattle.std.proofs.lemmas.List.{length-map}
use Rattle.std.proofs.lemmas.Option.{slice_get_read}
use Rattle.boc_program.specs.declared.program.Program.{Program}
use Rattle.boc_program.proofs.ChangedItems.{place_below}
use Rattle.boc_fronts.specs.Fronts as fronts
use Rattle.boc_front_rows.specs.declared.row.Front.{Front}
use Rattle.boc_front_rows.specs.Rows.{plain, plains}
use Rattle.boc_front_rows.specs.Seen.{front_of}
use Rattle.boc_all_ends.specs.declared.stepper.Stepper.{Stepper}
use Rattle.boc_all_ends.specs.Stepping.{Grows, ListsFit}
use Rattle.boc_all_ends.proofs.Ready.{same_many}
use Rattle.boc_end_orders.specs.declared.search.Trace.{Trace}
use Rattle.boc_end_orders.specs.Traces.{IsStepPut, names_at}
use Rattle.boc_end_orders.proofs.Naming.{places_low}
use Rattle.boc_end_orders.proofs.search.Search.step.Goals as goal

pub names_after-requires : goal.names_after-requires
names_after-requires c =
    let f : Front = c.args.front.now in
    let s = c.in_ok-after.ensures.steps in
    let kept : List ℕ = c.in_ok-after.after.kept.items in
    let few : length s.stepped.live ≤ length f.live.items + 1 = omega (arith, s.step.many, same_many c.args.self.now.stepper.lists f) in
    let all = places_low s.stepped (front_of c.step_arranged.new.self.lists c.in_ok-after.after.front) kept (length f.live.items) s.arranged few in
    subst (λ (m : ℕ). All (λ place. place ≤ m) c.deref-2.result.now) (sym (ap (length {A = ℕ}) c.deref.ensures.value ∙ c.requires.names))
    (subst (λ (xs : List ℕ). All (λ place. place ≤ length f.live.items) xs) (sym c.deref-2.ensures.value) all)

pub returns-clause-step : goal.returns-clause-step
returns-clause-step c =
    let f : Front = c.args.front.now in
    let t : Trace = c.args.trace.now in
    let a = c.args.self.now.stepper.lists in
    let low : c.args.place < length t.names.items = omega (
      arith,
      c.requires.names,
      place_below (plains f.live.items) c.args.place c.requires.can.row c.requires.can.is,
      length-map f.live.items plain,
    ) in
    let same : c.put.new.self.stepper ≡ c.step_arranged.new.self = c.in_ok-put.ensures.stepper in
    let named = c.in_ok-names.ensures
    ∙ ap (λ ks. names_at (c.deref.result.now ++ c.args.rows ∷ []) ks) c.deref-2.ensures.value
    ∙ ap (λ ns. names_at (ns ++ c.args.rows ∷ []) c.in_ok-after.after.kept.items) c.deref.ensures.value in
    subst (λ (z : Stepper). IsStepPut z.program.now a f t c.args.rows c.args.place z.lists c.args.self.now.trail c.put.new.self.trail c.args.next.now.entries
    c.put.new.layer.entries) (sym same) (record {
      after = c.in_ok-after.after;
      step = c.in_ok-after.ensures.steps;
      kept = c.in_ok-after.ensures.kept;
      parent = c.index-parent.result.now;
      name = slice_get_read t.names.items (length t.names.items) c.args.place c.index-parent.result.now refl low c.index-parent.ensures;
      names = c.in_ok-names.names.items;
      names_are = named;
      put = c.in_ok-put.ensures.put;
    })

pub returns-clause-grows : goal.returns-clause-grows
returns-clause-grows c =
    subst (λ (z : Stepper). Grows c.args.self.now.stepper.lists z.lists) (sym c.in_ok-put.ensures.stepper) c.in_ok-after.ensures.grows

pub returns-clause-fits : goal.returns-clause-fits
returns-clause-fits c = subst (λ (z : Stepper). ListsFit z.program.now z.lists) (sym c.in_ok-put.ensures.stepper) c.in_ok-after.ensures.fits

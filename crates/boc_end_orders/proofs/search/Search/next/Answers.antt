use Rattle.std.proofs.Common.{◌≡◌, ◌+◌, ◌<◌, ◌≤◌, ◌++◌, ◌∷◌, [], List, ℕ, length, refl, sym, ◌∙◌, ap, subst, arith}
use Rattle.std.specs.List.{Contains}
use Rattle.boc_program.specs.declared.program.Program.{Program}
use Rattle.boc_all_ends.specs.Spreading.{IsReady}
use Rattle.boc_all_ends.proofs.EndsOfLayers.{no_items}
use Rattle.boc_all_ends.proofs.Ready.{ready_on}
use Rattle.boc_front_rows.specs.declared.row.Front.{Front}
use Rattle.boc_end_orders.specs.declared.search.Trace.{Trace}
use Rattle.boc_end_orders.specs.Traces.{IsTraced, IsTracedLayer}
use Rattle.boc_end_orders.proofs.Spreading.{Entries, LayerSoFar, all_shown, entry_ready, layer_more, layer_none, next_traced, one_shown, shown_here}
use Rattle.boc_end_orders.proofs.Tracing.{traced_on}
use Rattle.boc_end_orders.proofs.search.Search.next.Goals as goal

pub loop-front-init : goal.loop-front-init
loop-front-init c =
    let p : Program = c.args.self.now.stepper.program.now in
    let a = c.args.self.now.stepper.lists in
    let trail = c.args.self.now.trail in
    record {
      so_far = (
        [],
        c.into_iter-front-iterator.ensures.into_iter_gives ∙ c.iter-front-items.ensures.rest,
        subst (λ (es : Entries). LayerSoFar p a trail c.args.rows [] a trail es) (sym (no_items c.new-next.result.entries c.new-next.ensures.len))
            (layer_none p a trail c.args.rows c.requires.fits),
      );
      program = refl;
    }

pub spread-requires-clause-ready : goal.spread-requires-clause-ready
spread-requires-clause-ready c =
    let p : Program = c.args.self.now.stepper.program.now in
    let inv = c.loop-front.invariant in
    let a = c.args.self.now.stepper.lists in
    let all : Entries = c.args.layer.now.entries in
    let left : Entries = c.next.new.self in
    let done : Entries = inv.so_far.0 in
    let e : Front × Trace = (c.in-Some.front.now, c.in-Some.trace.now) in
    let whole : done ++ (e ∷ left) ≡ all = ap (λ (es : Entries). done ++ es) (sym c.in-Some.ensures.steps) ∙ inv.so_far.1 in
    let first = entry_ready p a c.args.self.now.trail c.args.rows all e c.requires.layer (shown_here all left e done whole) in
    ready_on c.loop-front.self.stepper.program.now a c.loop-front.self.stepper.lists c.args.rows c.in-Some.front.now inv.so_far.2.so_far.grows
    (subst (λ (q : Program). IsReady q a c.args.rows c.in-Some.front.now) (sym inv.program) first)

pub spread-requires-clause-traced : goal.spread-requires-clause-traced
spread-requires-clause-traced c =
    let inv = c.loop-front.invariant in
    let a = c.args.self.now.stepper.lists in
    let trail = c.args.self.now.trail in
    let all : Entries = c.args.layer.now.entries in
    let left : Entries = c.next.new.self in
    let done : Entries = inv.so_far.0 in
    let e : Front × Trace = (c.in-Some.front.now, c.in-Some.trace.now) in
    let whole : done ++ (e ∷ left) ≡ all = ap (λ (es : Entries). done ++ es) (sym c.in-Some.ensures.steps) ∙ inv.so_far.1 in
    traced_on c.loop-front.self.stepper.program.now a c.loop-front.self.stepper.lists trail c.loop-front.self.trail c.args.rows e
    inv.so_far.2.so_far.grows inv.so_far.2.adds
    (subst (λ (q : Program). IsTraced q a trail c.args.rows e) (sym inv.program) (c.requires.layer.each e (shown_here all left e done whole)))

pub loop-front-preserved : goal.loop-front-preserved
loop-front-preserved c =
    let p : Program = c.spread.new.self.stepper.program.now in
    let inv = c.loop-front.invariant in
    let a = c.args.self.now.stepper.lists in
    let b = c.loop-front.self.stepper.lists in
    let lists = c.spread.new.self.stepper.lists in
    let first = c.args.self.now.trail in
    let trail = c.loop-front.self.trail in
    let rows = c.args.rows in
    let all : Entries = c.args.layer.now.entries in
    let left : Entries = c.next.new.self in
    let done : Entries = inv.so_far.0 in
    let mid : Entries = c.loop-front.next.entries in
    let new : Entries = c.spread.new.next.entries in
    let e : Front × Trace = (c.in-Some.front.now, c.in-Some.trace.now) in
    let whole : done ++ (e ∷ left) ≡ all = ap (λ (es : Entries). done ++ es) (sym c.in-Some.ensures.steps) ∙ inv.so_far.1 in
    let same = c.in_ok-spread.ensures.program ∙ inv.program in
    let was = entry_ready c.args.self.now.stepper.program.now a first rows all e c.requires.layer (shown_here all left e done whole) in
    let ready = subst (λ (q : Program). IsReady q a rows c.in-Some.front.now) (sym same) was in
    let s = subst (λ (q : Program). LayerSoFar q a first rows done b trail mid) (sym c.in_ok-spread.ensures.program) inv.so_far.2 in
    record {
      so_far = (
        done ++ (e ∷ []),
        one_shown all left e done whole,
        layer_more p a first rows done e b lists trail c.spread.new.self.trail mid new s ready c.in_ok-spread.ensures.spread
            c.in_ok-spread.ensures.traced c.in_ok-spread.ensures.grows c.in_ok-spread.ensures.adds c.in_ok-spread.ensures.fits,
      );
      program = same;
    }

pub returns-clause-next : goal.returns-clause-next
returns-clause-next c =
    let p : Program = c.loop-front.self.stepper.program.now in
    let inv = c.loop-front.invariant in
    let a = c.args.self.now.stepper.lists in
    let first = c.args.self.now.trail in
    let rows = c.args.rows in
    let all : Entries = c.args.layer.now.entries in
    let new : Entries = c.loop-front.next.entries in
    let whole = all_shown all c.loop-front.front-iterator inv.so_far.0 inv.so_far.1 c.in-None.ensures.steps.0 in
    let s = subst (λ (ds : Entries). LayerSoFar p a first rows ds c.loop-front.self.stepper.lists c.loop-front.self.trail new) whole inv.so_far.2 in
    let layer = subst (λ (q : Program). IsTracedLayer q a first rows all) (sym inv.program) c.requires.layer in
    next_traced p a first rows all c.loop-front.self.stepper.lists c.loop-front.self.trail new (omega (arith, c.requires.few.0)) layer s

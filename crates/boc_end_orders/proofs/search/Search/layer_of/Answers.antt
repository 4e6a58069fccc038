use Rattle.std.proofs.Common.{◌≡◌, ◌+◌, ◌<◌, ◌≤◌, ℕ, sym, ◌∙◌, ap, subst, arith}
use Rattle.boc_program.specs.declared.program.Program.{Program}
use Rattle.boc_all_ends.specs.Stepping.{ListsFit}
use Rattle.boc_end_orders.specs.Traces.{IsTracedLayer}
use Rattle.boc_end_orders.proofs.search.Search.layer_of.Goals as goal

pub loop-spawned-init : goal.loop-spawned-init
loop-spawned-init c = record {
  layer = subst (λ (q : Program). IsTracedLayer q c.first.new.self.stepper.lists c.first.new.self.trail 1 c.in_ok-layer.layer.entries)
      c.in_ok-layer.ensures.program c.in_ok-layer.ensures.layer;
  fits = subst (λ (q : Program). ListsFit q c.first.new.self.stepper.lists) c.in_ok-layer.ensures.program c.in_ok-layer.ensures.fits;
  program = c.in_ok-layer.ensures.program;
}

pub next-requires-clause-layer : goal.next-requires-clause-layer
next-requires-clause-layer c =
    let inv = c.loop-spawned.invariant in
    subst (λ (q : Program). IsTracedLayer q c.loop-spawned.self.stepper.lists c.loop-spawned.self.trail c.loop-spawned.spawned c.loop-spawned.layer.entries)
    (sym inv.program) inv.layer

pub next-requires-clause-fits : goal.next-requires-clause-fits
next-requires-clause-fits c =
    let inv = c.loop-spawned.invariant in
    subst (λ (q : Program). ListsFit q c.loop-spawned.self.stepper.lists) (sym inv.program) inv.fits

pub loop-spawned-preserved : goal.loop-spawned-preserved
loop-spawned-preserved c =
    let inv = c.loop-spawned.invariant in
    let same = c.in_ok-layer-2.ensures.program ∙ inv.program in
    record {
      layer = subst (λ (q : Program). IsTracedLayer q c.next.new.self.stepper.lists c.next.new.self.trail (c.loop-spawned.spawned + 1)
          c.in_ok-layer-2.layer.entries) same c.in_ok-layer-2.ensures.next;
      fits = subst (λ (q : Program). ListsFit q c.next.new.self.stepper.lists) same c.in_ok-layer-2.ensures.fits;
      program = same;
    }

pub returns : goal.returns
returns c =
    let inv = c.loop-spawned.invariant in
    let last : c.loop-spawned.spawned ≡ c.args.rows = omega (arith, c.loop-spawned-test.false, c.loop-spawned.auto.spawned-end) in
    record {
      layer = subst (λ (n : ℕ). IsTracedLayer c.args.self.now.stepper.program.now c.loop-spawned.self.stepper.lists c.loop-spawned.self.trail n
          c.loop-spawned.layer.entries) last inv.layer;
    }

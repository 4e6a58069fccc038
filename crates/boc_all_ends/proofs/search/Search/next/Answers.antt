use Rattle.std.proofs.Common.{◌≡◌, ◌+◌, ◌<◌, List, [], ◌∷◌, ◌++◌, length, take, sym, ◌∙◌, ap, subst, arith}
use Rattle.std.proofs.lemmas.List.{take_more, take_all}
use Rattle.boc_program.specs.declared.program.Program.{Program}
use Rattle.boc_closed_sets.specs.Covers.{Covers}
use Rattle.boc_front_rows.specs.declared.row.Front.{Front}
use Rattle.boc_front_rows.specs.Seen.{front_of}
use Rattle.boc_all_ends.specs.Spreading.{seen, IsReady, IsSpread}
use Rattle.boc_all_ends.proofs.Layering.{next_stands}
use Rattle.boc_all_ends.proofs.Ready.{ready, ready_on}
use Rattle.boc_all_ends.proofs.Searching.{LayerSoFar, layer_more, when_true}
use Rattle.boc_all_ends.proofs.search.Search.next.Goals as goal

pub spread-requires-clause-ready : goal.spread-requires-clause-ready
spread-requires-clause-ready c =
    let inv = c.loop-front.invariant in
    let p : Program = c.loop-front.self.stepper.program.now in
    let a = c.args.self.now.stepper.lists in
    let fs : List Front = c.args.layer.now in
    let f : Front = c.front-item.result in
    let low : c.loop-front.front-index < length fs = omega (arith, c.loop-front-test.true) in
    let first = ready c.args.self.now.stepper.program.now a c.args.rows fs f c.requires.layer.covers c.requires.layer.kept
    (c.loop-front.front-index, low, sym c.front-item.is) in
    ready_on p a c.loop-front.self.stepper.lists c.args.rows f inv.so_far.grows
    (subst (λ (q : Program). IsReady q a c.args.rows f) (sym inv.program) first)

pub loop-front-preserved : goal.loop-front-preserved
loop-front-preserved c =
    let inv = c.loop-front.invariant in
    let p : Program = c.spread.new.self.stepper.program.now in
    let a = c.args.self.now.stepper.lists in
    let b = c.loop-front.self.stepper.lists in
    let rows = c.args.rows in
    let fs : List Front = c.args.layer.now in
    let k = c.loop-front.front-index in
    let f : Front = c.front-item.result in
    let low : k < length fs = omega (arith, c.loop-front-test.true) in
    let more : take (k + 1) fs ≡ take k fs ++ (f ∷ []) = take_more fs k f low ∙ ap (λ z. take k fs ++ (z ∷ [])) (sym c.front-item.is) in
    let same = c.in_ok-spread.ensures.program ∙ inv.program in
    let first = ready c.args.self.now.stepper.program.now a rows fs f c.requires.layer.covers c.requires.layer.kept (k, low, sym c.front-item.is) in
    let s = subst (λ (q : Program). LayerSoFar q a rows (take k fs) b c.loop-front.next.keys) (sym c.in_ok-spread.ensures.program) inv.so_far in
    let spread : Type 0 = IsSpread p (front_of b f) c.spread.new.self.stepper.lists c.loop-front.next.keys c.spread.new.next.keys in
    record {
      so_far = subst (λ (gs : List Front). LayerSoFar p a rows gs c.spread.new.self.stepper.lists c.spread.new.next.keys) (sym more)
          (layer_more p a rows (take k fs) f b c.spread.new.self.stepper.lists c.loop-front.next.keys c.spread.new.next.keys s
          (subst (λ (q : Program). IsReady q a rows f) (sym same) first)
          (when_true c.in_ok-spread.field-0 spread (c.spread.new.self.fronts ≡ c.spread.new.self.most) c.in_ok-spread.ensures.spread c.if-not-branch.false)
          c.in_ok-spread.ensures.kept c.in_ok-spread.ensures.grows c.in_ok-spread.ensures.fits);
      program = same;
      most = c.in_ok-spread.ensures.most ∙ inv.most;
    }

pub returns-clause-next : goal.returns-clause-next
returns-clause-next c =
    let inv = c.loop-front.invariant in
    let p : Program = c.loop-front.self.stepper.program.now in
    let a = c.args.self.now.stepper.lists in
    let b = c.loop-front.self.stepper.lists in
    let fs : List Front = c.args.layer.now in
    let whole : take c.loop-front.front-index fs ≡ fs = take_all c.loop-front.front-index fs (omega (arith, c.loop-front-test.false)) in
    let so = subst (λ (gs : List Front). LayerSoFar p a c.args.rows gs b c.loop-front.next.keys) whole inv.so_far in
    next_stands p b c.args.rows (seen a fs) c.loop-front.next.keys (omega (arith, c.requires.few.0))
    (subst (λ (q : Program). Covers q c.args.rows (seen a fs)) (sym inv.program) c.requires.layer.covers) so.spread so.kept

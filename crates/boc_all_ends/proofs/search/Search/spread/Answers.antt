use Rattle.std.proofs.Common.{◌≡◌, ◌+◌, ◌<◌, ℕ, List, ◌∷◌, [], ◌++◌, take, length, get_or, sym, ◌∙◌, ap, subst, refl, arith}
use Rattle.std.specs.List.{Contains}
use Rattle.std.proofs.lemmas.List.{take_more, take_all}
use Rattle.boc_program.specs.declared.program.Program.{Program}
use Rattle.boc_fronts.specs.Fronts as fronts
use Rattle.boc_front_rows.specs.declared.row.Front.{Front}
use Rattle.boc_front_rows.specs.Seen.{front_of}
use Rattle.boc_all_ends.specs.declared.search.Search.{Search}
use Rattle.boc_all_ends.specs.declared.stepper.Stepper.{Stepper}
use Rattle.boc_all_ends.specs.Spreading.{AreKept, AreToTry, IsReady}
use Rattle.boc_all_ends.proofs.Ready.{can_try, ready_on}
use Rattle.boc_all_ends.proofs.Searching.{SpreadSoFar, spread_whole, so_far_put, still_kept}
use Rattle.boc_all_ends.proofs.Seeing.{has_at, same_front}
use Rattle.boc_all_ends.proofs.search.Search.spread.Goals as goal

pub places_to_try-requires-clause-few : goal.places_to_try-requires-clause-few
places_to_try-requires-clause-few c = omega (arith, c.requires.ready.kept.few, c.requires.few)

pub places_to_try-requires-clause-low : goal.places_to_try-requires-clause-low
places_to_try-requires-clause-low c = c.requires.ready.low

pub step-requires-clause-can : goal.step-requires-clause-can
step-requires-clause-can c =
    let inv = c.loop-place.invariant in
    let p : Program = c.loop-place.self.stepper.program.now in
    let a = c.args.self.now.stepper.lists in
    let b = c.loop-place.self.stepper.lists in
    let f : Front = c.args.front.now in
    let places : List ℕ = c.deref-place-items.result.now in
    let n : ℕ = get_or places c.loop-place.place-index 0 in
    let at = has_at places c.loop-place.place-index c.loop-place-test.true in
    let free = c.in_ok-places.ensures.free n (subst (λ (xs : List ℕ). Contains xs n) c.deref-place-items.ensures.value at) in
    let ready = subst (λ (q : Program). IsReady q a c.args.rows f) (sym inv.program) c.requires.ready in
    can_try p b c.args.rows f n (ready_on p a b c.args.rows f inv.so_far.grows ready)
    (subst (λ (z : fronts.Front). fronts.IsFree z n) (sym (same_front a b f inv.so_far.grows ready.kept.there)) free)

pub returns-then-not-branch-clause-kept : goal.returns-then-not-branch-clause-kept
returns-then-not-branch-clause-kept c =
    let p : Program = c.loop-place.self.stepper.program.now in
    let a = c.args.self.now.stepper.lists in
    let f : Front = c.args.front.now in
    let ready = subst (λ (q : Program). IsReady q a c.args.rows f) (sym c.loop-place.invariant.program) c.requires.ready in
    subst (λ (s : Stepper). AreKept s.lists (c.args.rows + 1) c.put.new.layer.keys) (sym c.in_ok-put.ensures.stepper)
    (still_kept p a f c.args.rows (take c.loop-place.place-index c.deref-place-items.result.now) c.loop-place.self.stepper.lists c.step.new.self.lists
    c.args.next.now.keys c.loop-place.next.keys c.put.new.layer.keys c.in_ok-after.after c.loop-place.invariant.so_far ready c.in_ok-after.ensures.kept
    c.in_ok-after.ensures.grows c.in_ok-put.ensures.there)

pub loop-place-preserved : goal.loop-place-preserved
loop-place-preserved c =
    let inv = c.loop-place.invariant in
    let p : Program = c.step.new.self.program.now in
    let a = c.args.self.now.stepper.lists in
    let b = c.loop-place.self.stepper.lists in
    let f : Front = c.args.front.now in
    let rows = c.args.rows in
    let places : List ℕ = c.deref-place-items.result.now in
    let i : ℕ = c.loop-place.place-index in
    let n : ℕ = get_or places i 0 in
    let old : List Front = c.args.next.now.keys in
    let mid : List Front = c.loop-place.next.keys in
    let new : List Front = c.put.new.layer.keys in
    let same : c.put.new.self.stepper ≡ c.step.new.self = c.in_ok-put.ensures.stepper in
    let s = subst (λ (q : Program). SpreadSoFar q a f rows (take i places) b old mid) (sym c.in_ok-after.ensures.program) inv.so_far in
    let ready = subst (λ (q : Program). IsReady q a rows f) (sym (c.in_ok-after.ensures.program ∙ inv.program)) c.requires.ready in
    let so = so_far_put p a f rows (take i places) n b c.step.new.self.lists old mid new c.in_ok-after.after s ready c.in_ok-after.ensures.steps
    c.in_ok-after.ensures.kept c.in_ok-after.ensures.grows c.in_ok-after.ensures.fits c.in_ok-put.ensures.there in
    record {
      so_far = subst (λ (z : Stepper). SpreadSoFar z.program.now a f rows (take (i + 1) places) z.lists old new) (sym same)
          (subst (λ (ns : List ℕ). SpreadSoFar p a f rows ns c.step.new.self.lists old new) (sym (take_more places i 0 c.loop-place-test.true)) so);
      program = ap (λ (z : Stepper). z.program.now) same ∙ c.in_ok-after.ensures.program ∙ inv.program;
      most = c.in_ok-put.ensures.most ∙ inv.most;
    }

pub returns-clause-spread : goal.returns-clause-spread
returns-clause-spread c =
    let p : Program = c.loop-place.self.stepper.program.now in
    let a = c.args.self.now.stepper.lists in
    let f : Front = c.args.front.now in
    let places : List ℕ = c.deref-place-items.result.now in
    let i : ℕ = c.loop-place.place-index in
    let whole : take i places ≡ places = take_all i places (omega (arith, c.loop-place-test.false)) in
    spread_whole p a f c.args.rows places c.loop-place.self.stepper.lists c.args.next.now.keys c.loop-place.next.keys
    (subst (λ (xs : List ℕ). AreToTry p (front_of a f) xs) (sym c.deref-place-items.ensures.value)
    (subst (λ (q : Program). AreToTry q (front_of a f) c.in_ok-places.places.items) (sym c.loop-place.invariant.program) c.in_ok-places.ensures))
    (subst (λ (ns : List ℕ). SpreadSoFar p a f c.args.rows ns c.loop-place.self.stepper.lists c.args.next.now.keys c.loop-place.next.keys) whole
    c.loop-place.invariant.so_far)

pub places_to_try-requires-clause-there : goal.places_to_try-requires-clause-there
places_to_try-requires-clause-there c = c.requires.ready.kept.there

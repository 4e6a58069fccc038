use Rattle.std.proofs.Common.{◌≡◌, ◌+◌, ◌<◌, ℕ, List, ◌∷◌, [], ◌++◌, take, length, get_or, sym, ◌∙◌, ap, subst, refl, arith}
use Rattle.std.specs.List.{Contains}
use Rattle.std.proofs.lemmas.List.{take_more, take_all}
use Rattle.boc_program.specs.declared.program.Program.{Program}
use Rattle.boc_fronts.specs.Fronts as fronts
use Rattle.boc_front_rows.specs.declared.row.Front.{Front}
use Rattle.boc_front_rows.specs.Seen.{front_of}
use Rattle.boc_all_ends.specs.Spreading.{AreToTry, IsReady}
use Rattle.boc_all_ends.proofs.Ready.{can_try, ready_on, same_many}
use Rattle.boc_all_ends.proofs.Searching.{spread_whole}
use Rattle.boc_all_ends.proofs.Seeing.{has_at, same_front}
use Rattle.boc_end_orders.specs.declared.search.Search.{Search}
use Rattle.boc_end_orders.specs.declared.search.Trace.{Trace}
use Rattle.boc_end_orders.specs.Traces.{AreTraced, IsTraced, fronts_of}
use Rattle.boc_end_orders.proofs.Spreading.{Entries, SpreadSoFar, so_far_none, so_far_put}
use Rattle.boc_end_orders.proofs.Tracing.{more_orders}
use Rattle.boc_end_orders.proofs.search.Search.spread.Goals as goal

pub places_to_try-requires-clause-few : goal.places_to_try-requires-clause-few
places_to_try-requires-clause-few c = omega (arith, c.requires.ready.kept.few, c.requires.few.1)

pub places_to_try-requires-clause-low : goal.places_to_try-requires-clause-low
places_to_try-requires-clause-low c = c.requires.ready.low

pub loop-place-init : goal.loop-place-init
loop-place-init c =
    let s = c.args.self.now in
    record {
      so_far = so_far_none s.stepper.program.now s.stepper.lists s.trail c.args.front.now c.args.rows c.args.next.now.entries c.requires.others
          c.requires.fits;
      program = refl;
    }

pub step-requires-clause-can : goal.step-requires-clause-can
step-requires-clause-can c =
    let inv = c.loop-place.invariant in
    let p : Program = c.loop-place.self.stepper.program.now in
    let a = c.args.self.now.stepper.lists in
    let b = c.loop-place.self.stepper.lists in
    let f : Front = c.args.front.now in
    let grows = inv.so_far.so_far.grows in
    let places : List ℕ = c.deref-place-items.result.now in
    let n : ℕ = get_or places c.loop-place.place-index 0 in
    let at = has_at places c.loop-place.place-index c.loop-place-test.true in
    let free = c.in_ok-places.ensures.free n (subst (λ (xs : List ℕ). Contains xs n) c.deref-place-items.ensures.value at) in
    let ready = subst (λ (q : Program). IsReady q a c.args.rows f) (sym inv.program) c.requires.ready in
    can_try p b c.args.rows f n (ready_on p a b c.args.rows f grows ready)
    (subst (λ (z : fronts.Front). fronts.IsFree z n) (sym (same_front a b f grows ready.kept.there)) free)

pub step-requires-clause-few : goal.step-requires-clause-few
step-requires-clause-few c = omega (arith, c.requires.ready.kept.few, c.requires.few.1)

pub step-requires-clause-fits : goal.step-requires-clause-fits
step-requires-clause-fits c = c.loop-place.invariant.so_far.so_far.fits

pub step-requires-clause-order : goal.step-requires-clause-order
step-requires-clause-order c =
    omega (arith, c.requires.traced.there, more_orders c.args.self.now.trail c.loop-place.self.trail c.loop-place.invariant.so_far.adds)

pub step-requires-clause-names : goal.step-requires-clause-names
step-requires-clause-names c = c.requires.traced.stands.loosely.many ∙ same_many c.args.self.now.stepper.lists c.args.front.now

pub loop-place-preserved : goal.loop-place-preserved
loop-place-preserved c =
    let inv = c.loop-place.invariant in
    let p : Program = c.step.new.self.stepper.program.now in
    let a = c.args.self.now.stepper.lists in
    let b = c.loop-place.self.stepper.lists in
    let lists = c.step.new.self.stepper.lists in
    let first = c.args.self.now.trail in
    let f : Front = c.args.front.now in
    let t : Trace = c.args.trace.now in
    let rows = c.args.rows in
    let places : List ℕ = c.deref-place-items.result.now in
    let i : ℕ = c.loop-place.place-index in
    let n : ℕ = get_or places i 0 in
    let old : Entries = c.args.next.now.entries in
    let mid : Entries = c.loop-place.next.entries in
    let new : Entries = c.step.new.next.entries in
    let same = c.in_ok-step.ensures.program ∙ inv.program in
    let s = subst (λ (q : Program). SpreadSoFar q a first f rows (take i places) b c.loop-place.self.trail old mid)
    (sym c.in_ok-step.ensures.program) inv.so_far in
    let ready = subst (λ (q : Program). IsReady q a rows f) (sym same) c.requires.ready in
    let traced = subst (λ (q : Program). IsTraced q a first rows (f, t)) (sym same) c.requires.traced in
    let at = has_at places i c.loop-place-test.true in
    let free = c.in_ok-places.ensures.free n (subst (λ (xs : List ℕ). Contains xs n) c.deref-place-items.ensures.value at) in
    let so = so_far_put p a first f t rows (take i places) n b lists c.loop-place.self.trail c.step.new.self.trail old mid new
    (omega (arith, c.requires.few.0)) s ready traced free c.in_ok-step.ensures.step c.in_ok-step.ensures.grows c.in_ok-step.ensures.fits in
    record {
      so_far = subst (λ (ns : List ℕ). SpreadSoFar p a first f rows ns lists c.step.new.self.trail old new)
          (sym (take_more places i 0 c.loop-place-test.true)) so;
      program = same;
    }

pub returns-clause-spread : goal.returns-clause-spread
returns-clause-spread c =
    let inv = c.loop-place.invariant in
    let p : Program = c.loop-place.self.stepper.program.now in
    let a = c.args.self.now.stepper.lists in
    let f : Front = c.args.front.now in
    let places : List ℕ = c.deref-place-items.result.now in
    let i : ℕ = c.loop-place.place-index in
    let old : Entries = c.args.next.now.entries in
    let new : Entries = c.loop-place.next.entries in
    let whole : take i places ≡ places = take_all i places (omega (arith, c.loop-place-test.false)) in
    let s = subst (λ (ns : List ℕ). SpreadSoFar p a c.args.self.now.trail f c.args.rows ns c.loop-place.self.stepper.lists c.loop-place.self.trail old new)
    whole inv.so_far in
    spread_whole p a f c.args.rows places c.loop-place.self.stepper.lists (fronts_of old) (fronts_of new)
    (subst (λ (xs : List ℕ). AreToTry p (front_of a f) xs) (sym c.deref-place-items.ensures.value)
    (subst (λ (q : Program). AreToTry q (front_of a f) c.in_ok-places.places.items) (sym inv.program) c.in_ok-places.ensures)) s.so_far

pub returns-clause-traced : goal.returns-clause-traced
returns-clause-traced c = c.loop-place.invariant.so_far.traced

pub returns-clause-grows : goal.returns-clause-grows
returns-clause-grows c = c.loop-place.invariant.so_far.so_far.grows

pub returns-clause-adds : goal.returns-clause-adds
returns-clause-adds c = c.loop-place.invariant.so_far.adds

pub returns-clause-fits : goal.returns-clause-fits
returns-clause-fits c = c.loop-place.invariant.so_far.so_far.fits

pub returns-clause-program : goal.returns-clause-program
returns-clause-program c = c.loop-place.invariant.program

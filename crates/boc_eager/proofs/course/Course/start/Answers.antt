use Rattle.std.proofs.Common.{◌≡◌, ℕ, ◌+◌, List, length, set, refl, sym, ◌∙◌, subst, arith}
use Rattle.std.specs.Prelude.{max}
use Rattle.std.specs.Vec.{with_item, with_items}
use Rattle.std.proofs.lemmas.List.{with_items_is}
use Rattle.std.proofs.lemmas.Result.{on_ok_weaker}
use Rattle.boc_runs.specs.Rows.{cowns_of, ticks_of}
use Rattle.boc_eager.specs.declared.place.Place.{Place}
use Rattle.boc_eager.specs.declared.place.Place.TheVariants.{Started}
use Rattle.boc_eager.specs.Courses.{AreRaised, AreSpawned}
use Rattle.boc_eager.proofs.Leaving.{moves}
use Rattle.boc_eager.proofs.Starting.{starts_row}
use Rattle.boc_eager.proofs.course.Course.start.Goals as goal

pub returns : goal.returns
returns c =
    let s = c.args.self.now in
    let rows = c.args.rows.now in
    let r : ℕ = c.args.row in
    let k = c.requires.hand.kept in
    let e : c.from.result ≡ ticks_of rows r = c.from.ensures ∙ c.ticks.ensures in
    let raised = subst (λ (t : ℕ). AreRaised rows r (s.tick + t) (length (cowns_of rows r)) s.free.items c.raise.new.free) e
    (subst (λ (xs : List ℕ). AreRaised rows r (s.tick + c.from.result) (length (cowns_of rows r)) xs c.raise.new.free) c.deref_mut.ensures.value
    c.raise.ensures) in
    let end_is : c.max-self.result ≡ max s.end (s.tick + ticks_of rows r) =
    subst (λ (t : ℕ). c.max-self.result ≡ max s.end (s.tick + t)) e c.max-self.ensures in
    let whole : length c.raise.new.free ≡ s.free.len = omega (arith, c.raise.auto.free, c.deref_mut.ensures.len) in
    let kept : length c.spawn_children.new.places ≡ s.places.len = omega (arith, c.spawn_children.auto.places, c.deref_mut-2.ensures.len) in
    on_ok_weaker c.spawn_children.result (λ spawned. starts_row rows c.requires.shape s r c.requires.hand c.requires.first c.requires.not_front c.requires.clear
    (with_item s.starts r s.tick) refl (with_items s.free c.raise.new.free)
    (subst (λ (xs : List ℕ). AreRaised rows r (s.tick + ticks_of rows r) (length (cowns_of rows r)) s.free.items xs)
    (sym (with_items_is s.free c.raise.new.free whole)) raised) (set s.places.items r Started)
    (moves s.places.items r Started (omega (arith, c.requires.hand.there, k.of_rows.places_whole)))
    (with_items (with_item s.places r Started) c.spawn_children.new.places) c.spawn_children.new.next
    (subst (λ (ys : List Place). AreSpawned rows r s.tick (length rows) (set s.places.items r Started) ys s.next.keys c.spawn_children.new.next.keys)
    (sym (with_items_is (with_item s.places r Started) c.spawn_children.new.places kept))
    (subst (λ (xs : List Place). AreSpawned rows r s.tick (length rows) xs c.spawn_children.new.places s.next.keys c.spawn_children.new.next.keys)
    c.deref_mut-2.ensures.value spawned)) c.max-self.result end_is) c.spawn_children.ensures

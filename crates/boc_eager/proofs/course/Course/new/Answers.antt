use Rattle.std.proofs.Common.{◌≡◌, ℕ, length, rules, refl, subst}
use Rattle.std.specs.Prelude.{replicate}
use Rattle.boc_eager.specs.declared.place.Place.TheVariants.{Unspawned}
use Rattle.boc_eager.specs.Courses.{AreEmpty, later}
use Rattle.boc_eager.proofs.Beginning.{begins}
use Rattle.boc_eager.proofs.course.Course.new.Goals as goal

pub returns : goal.returns
returns c =
    let rows = c.args.rows.now in
    let starts : c.in_ok-vec.field-0.items ≡ replicate (length rows) later = search rules in
    let places : c.in_ok-places.places.items ≡ replicate (length rows) Unspawned = search rules in
    let free : c.in_ok-vec-2.field-0.items ≡ replicate 512 0 = search rules in
    begins rows c.requires.shape _ starts refl (rw places refl) c.in_ok-kinds_of.ensures
    (subst (λ (n : ℕ). AreEmpty n c.in_ok-lines_of.field-0.items) c.len-3.ensures.count c.in_ok-lines_of.ensures) free c.in_ok-lines_of-2.ensures
    c.new.ensures.empty refl refl c.requires.siblings

use Rattle.std.proofs.Common.{◌<◌, ℕ, length, get_or, ap, arith}
use Rattle.std.specs.Prelude.{slice_index}
use Rattle.std.proofs.lemmas.List.Elements.{Contains-get_or}
use Rattle.boc_plans.specs.Plans.{start_of}
use Rattle.boc_busy.proofs.keeping.keeps_at.Goals as goal

pub are_over-requires : goal.are_over-requires
are_over-requires c = λ k d h.
    let near = c.requires.waits.sound _ (Contains-get_or c.args.waits.now k d h) in
    omega (arith, near.near.before, c.requires.there, c.requires.ends.whole)

pub returns : goal.returns
returns c = (
  λ over. record {
    spawned = λ a child. omega (arith, ap (start_of c.args.starts.now) child.parent, c.spawned_at.ensures.child child.not_main, c.if-spawned_at-starts.false);
    near = λ a near.
        let (k, h, is) = c.requires.waits.complete a near in
        let there : a < length c.args.rows.now = omega (arith, near.near.before, c.requires.there) in
        omega (arith, c.are_over.ensures.0 over k a h, ap (slice_index c.args.ends.now) is, c.requires.ends.at a there);
  },
  λ keeps. c.are_over.ensures.1 (λ k d h.
      let a : ℕ = get_or c.args.waits.now k d in
      let near = c.requires.waits.sound a (Contains-get_or c.args.waits.now k d h) in
      let there : a < length c.args.rows.now = omega (arith, near.near.before, c.requires.there) in
      omega (arith, keeps.near a near, c.requires.ends.at a there)),
)

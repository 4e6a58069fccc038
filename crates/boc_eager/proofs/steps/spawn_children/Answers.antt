use Rattle.std.proofs.Common.{◌≡◌, ℕ, List, ◌+◌, ◌<◌, length, ◌∙◌, sym, subst, arith}
use Rattle.boc_runs.specs.Siblings.{IsNextChild}
use Rattle.boc_runs.specs.Rows.{offset_of, parent_of}
use Rattle.boc_eager.specs.Lines.{Adds}
use Rattle.boc_eager.proofs.Sets.{adds_pair}
use Rattle.boc_eager.proofs.Spawning.{spawned_all, spawned_more}
use Rattle.boc_eager.proofs.steps.spawn_children.Goals as goal

pub loop-child-preserved : goal.loop-child-preserved
loop-child-preserved c =
    let rows = c.args.rows.now in
    let i = c.loop-child.invariant in
    let there : c.loop-child.child < length rows = omega (arith, c.loop-child-test.true, c.len.ensures.count) in
    let kid = i.child there in
    let y : IsNextChild rows c.args.row (c.loop-child.child + 1) c.younger-child.result =
    subst (λ (p : ℕ). IsNextChild rows p (c.loop-child.child + 1) c.younger-child.result) kid.2
    (subst (λ (x : ℕ). IsNextChild rows (parent_of rows c.loop-child.child) (c.loop-child.child + 1) x) (sym c.younger-child.ensures)
    (c.requires.youngers.younger c.loop-child.child kid.0 there)) in
    let e : c.from.result ≡ offset_of rows c.loop-child.child = c.from.ensures ∙ c.offset.ensures in
    let a : Adds c.loop-child.next.keys c.insert.new.self.keys (c.args.tick + offset_of rows c.loop-child.child, c.loop-child.child) =
    subst (λ (o : ℕ). Adds c.loop-child.next.keys c.insert.new.self.keys (c.args.tick + o, c.loop-child.child)) e
    (subst (λ (keys : List (ℕ × ℕ)). Adds c.loop-child.next.keys keys (c.args.tick + c.from.result, c.loop-child.child)) (sym c.in_ok-insert.ensures.keys)
    (adds_pair c.loop-child.next.keys (c.args.tick + c.from.result, c.loop-child.child))) in
    record {
      within = y.below;
      child = y.child;
      spawned = spawned_more rows c.args.row c.args.tick c.loop-child.child c.younger-child.result c.args.places.now c.loop-child.places c.args.next.now.keys
          c.loop-child.next.keys c.insert.new.self.keys c.requires.whole there kid y i.spawned a;
    }

pub returns : goal.returns
returns c = spawned_all c.args.rows.now c.args.row c.args.tick c.loop-child.child c.args.places.now c.loop-child.places c.args.next.now.keys
    c.loop-child.next.keys c.loop-child.invariant.within (omega (arith, c.loop-child-test.false, c.len.ensures.count)) c.loop-child.invariant.spawned

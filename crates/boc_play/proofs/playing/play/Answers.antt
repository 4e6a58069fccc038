use Rattle.std.proofs.Common.{◌≡◌, ◌<◌, ℕ, length, ◌∙◌, ap, subst, arith}
use Rattle.boc_program.specs.Programs.{cown_count}
use Rattle.boc_follow.specs.Following.{Following}
use Rattle.boc_play.specs.Waiting.{tables}
use Rattle.boc_play.proofs.WholeRuns.{PlayedSo, all_parents, next_can_come, none_played, one_played, parent_at, whole_played}
use Rattle.boc_play.proofs.playing.play.Goals as goal

pub loop-parent-init : goal.loop-parent-init
loop-parent-init c =
    none_played c.args.program.now c.args.parents.now c.in_ok-run.run' (tables c.in_ok-rows.rows) c.cowns-cowns.result c.in_ok-run.ensures c.in_ok-rows.ensures
    (c.cowns-cowns.ensures ∙ ap (λ (f : Following). cown_count f.program.cowns) c.in_ok-run.ensures)

pub play_one-requires-clause-can : goal.play_one-requires-clause-can
play_one-requires-clause-can c =
    let low : c.loop-parent.parent-index < length c.args.parents.now = omega (arith, c.loop-parent-test.true) in
    next_can_come c.args.program.now c.args.parents.now c.loop-parent.parent-index _ c.loop-parent.run (tables c.loop-parent.rows) c.requires
    c.loop-parent.invariant (parent_at c.args.parents.now c.loop-parent.parent-index low)

pub loop-parent-preserved : goal.loop-parent-preserved
loop-parent-preserved c =
    let low : c.loop-parent.parent-index < length c.args.parents.now = omega (arith, c.loop-parent-test.true) in
    one_played c.args.program.now c.args.parents.now c.loop-parent.parent-index _ c.loop-parent.run c.play_one.new.run (tables c.loop-parent.rows)
    (tables c.play_one.new.rows) c.loop-parent.invariant (parent_at c.args.parents.now c.loop-parent.parent-index low) c.in_ok-play_one.ensures.spawns
    c.in_ok-play_one.ensures.tables c.in_ok-play_one.ensures.rest

pub returns-clause-whole : goal.returns-clause-whole
returns-clause-whole c =
    let all : c.loop-parent.parent-index ≡ length c.args.parents.now = omega (arith, c.loop-parent-test.false, c.loop-parent.auto.parent-index-end) in
    whole_played c.args.program.now c.args.parents.now c.loop-parent.run (tables c.loop-parent.rows) c.requires
    (subst (λ (n : ℕ). PlayedSo c.args.program.now c.args.parents.now n c.loop-parent.run (tables c.loop-parent.rows)) all c.loop-parent.invariant)

pub returns-clause-parents : goal.returns-clause-parents
returns-clause-parents c =
    let all : c.loop-parent.parent-index ≡ length c.args.parents.now = omega (arith, c.loop-parent-test.false, c.loop-parent.auto.parent-index-end) in
    all_parents c.args.program.now c.args.parents.now c.loop-parent.run (tables c.loop-parent.rows)
    (subst (λ (n : ℕ). PlayedSo c.args.program.now c.args.parents.now n c.loop-parent.run (tables c.loop-parent.rows)) all c.loop-parent.invariant)

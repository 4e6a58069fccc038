use Rattle.std.proofs.Common.{◌∙◌, ℕ, ◌<◌, ◌≤◌, sym, arith}
use Rattle.boc_program.specs.declared.limits.TheConstants.{MOST_TICKS}
use Rattle.boc_runs.specs.Rows.{parent_of, ticks_of}
use Rattle.boc_turns.specs.Course.{made_in}
use Rattle.boc_turns.proofs.Spawning.{pace_there, made_in_by}
use Rattle.boc_turns.proofs.course.Course.spawned_at.Goals as goal

pub made-requires : goal.made-requires
made-requires c =
    let rows = c.args.rows.now in
    let hr = c.requires.shape in
    let row : ℕ = c.args.row in
    let has = c.requires.placed.2 in
    let above : 0 < row = omega (arith, c.if-row-eq0.false) in
    let before : parent_of rows row < row = hr.parent_before row above c.requires.there in
    let there : c.parent.result < row = omega (arith, before, c.parent.ensures) in
    let pace = c.index-parent.result.now in
    let at = pace_there has.times row c.args.self.now has.have_paces c.parent.result there pace c.index-parent.ensures in
    let is = (has.have_paces.each c.parent.result pace at).made_is c.offset.result in
    let low = (has.have_passed.low c.parent.result there).ticks c.offset.result in
    let most : ticks_of rows (parent_of rows row) ≤ MOST_TICKS = hr.ticks_high (parent_of rows row) (omega (arith, before, c.requires.there)) in
    rw c.deref.ensures.value
    (omega (arith, is, low, c.offset.ensures, hr.ticks_cover row above c.requires.there, most, there, c.requires.there, hr.not_many))

pub returns-clause-child : goal.returns-clause-child
returns-clause-child c = λ above.
    let rows = c.args.rows.now in
    let row : ℕ = c.args.row in
    let has = c.requires.placed.2 in
    let before : parent_of rows row < row = c.requires.shape.parent_before row above c.requires.there in
    let there : c.parent.result < row = omega (arith, before, c.parent.ensures) in
    let pace = c.index-parent.result.now in
    let at = pace_there has.times row c.args.self.now has.have_paces c.parent.result there pace c.index-parent.ensures in
    let made = rw c.deref.ensures.value at c.made.ensures in
    made ∙ (sym (made_in_by has.times row c.args.self.now has.have_paces c.parent.result there pace c.offset.result at)
    ∙ λ i. made_in c.args.self.now (c.parent.ensures i) (c.offset.ensures i))

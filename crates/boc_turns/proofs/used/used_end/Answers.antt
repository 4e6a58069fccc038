use Rattle.std.proofs.Common.{◌≡◌, ℕ, ◌<◌, List, get_or, arith}
use Rattle.std.specs.Prelude.{All}
use Rattle.std.proofs.lemmas.List.{get_or_default}
use Rattle.boc_program.specs.declared.limits.TheConstants.{MOST_COWNS}
use Rattle.boc_turns.proofs.Ending.{end_is}
use Rattle.boc_turns.proofs.used.used_end.Goals as goal

pub returns : goal.returns
returns c =
    let rows = c.args.rows.now in
    let cowns : List ℕ = c.args.relaxed.now in
    let small : All (λ c. c < MOST_COWNS) cowns = λ k d h. (
    let fits = c.type_inv.relaxed k in
    let same : get_or cowns k 0 ≡ get_or cowns k d = get_or_default cowns k 0 d h in
    omega (arith, fits, same)) in
    rw c.last.ensures (end_is c.in_ok-marks.marks.items cowns c.in_ok-marks.ensures.whole c.in_ok-marks.ensures.marked small rows c.args.uses.now
    c.loop-row.course c.loop-row.row (omega (arith, c.loop-row-test.false, c.loop-row.auto.row-end, c.len-row-end.ensures.count)) c.loop-row.invariant)

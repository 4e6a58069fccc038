use Rattle.std.proofs.Common.{◌≡◌, ℕ, ◌<◌, Bool, List, get_or, subst, arith}
use Rattle.std.specs.Prelude.{All}
use Rattle.std.proofs.lemmas.List.{get_or_default}
use Rattle.boc_program.specs.declared.limits.TheConstants.{MOST_COWNS}
use Rattle.boc_turns.specs.Turns.{among}
use Rattle.boc_turns.specs.Course.{marked}
use Rattle.boc_turns.specs.Workers.{IsUsedGreedyEnd}
use Rattle.boc_turns.proofs.Ending.{same_marks}
use Rattle.boc_used_greedy.specs.Holds.{AreHolds}
use Rattle.boc_used_greedy.proofs.Final.{final_end}
use Rattle.boc_used_greedy.proofs.entry.used_greedy_end.Goals as goal

pub finish-requires-clause-made : goal.finish-requires-clause-made
finish-requires-clause-made c = (c.number.result, c.in_ok-plan.ensures.made)

pub end-requires-clause-finished : goal.end-requires-clause-finished
end-requires-clause-finished c = (c.number.result, c.in_ok-finish.ensures c.number.result c.in_ok-plan.ensures.made)

pub returns : goal.returns
returns c =
    let rows = c.args.rows.now in
    let uses = c.args.uses.now in
    let cowns : List ℕ = c.args.relaxed.now in
    let marks : List Bool = c.in_ok-marks.marks.items in
    let small : All (λ c. c < MOST_COWNS) cowns = λ k d h. (
    let fits = c.type_inv.relaxed k in
    let same : get_or cowns k 0 ≡ get_or cowns k d = get_or_default cowns k 0 d h in
    omega (arith, fits, same)) in
    let are : AreHolds rows uses (marked marks) c.in_ok-holds.holds.all.items = rw c.deref.ensures.value at c.in_ok-holds.ensures.are in
    let f = c.in_ok-finish.ensures c.number.result c.in_ok-plan.ensures.made in
    let e : IsUsedGreedyEnd rows uses (marked marks) c.number.result c.end.result =
    final_end rows c.requires.shape uses (marked marks) c.in_ok-holds.holds.all.items are c.number.result _ _ f.whole
    (λ r there. omega (arith, f.low r there)) f.greedy f.served c.end.result c.end.ensures in
    subst (λ (p : ℕ). IsUsedGreedyEnd rows uses (among cowns) p c.end.result) c.number.ensures.value
    (subst (λ (test : ℕ → Bool). IsUsedGreedyEnd rows uses test c.number.result c.end.result)
    (same_marks marks cowns c.in_ok-marks.ensures.whole c.in_ok-marks.ensures.marked small) e)

use Rattle.std.proofs.Common.{◌≡◌, ℕ, ◌<◌, length, subst, sym, arith}
use Rattle.boc_runs.specs.Rows.{cowns_of}
use Rattle.boc_turns.proofs.Gathering.{use_has}
use Rattle.boc_used_greedy.specs.Fronts.{AreTold}
use Rattle.boc_used_greedy.proofs.Fronting.{stands_after}
use Rattle.boc_used_greedy.proofs.Passing.{told_still}
use Rattle.boc_used_greedy.proofs.fronts.go_on.Goals as goal

pub tell-requires-clause-told : goal.tell-requires-clause-told
tell-requires-clause-told c = λ lt.
    let rows = c.args.rows.now in
    let holds = c.args.holds.now.all.items in
    let e = c.passed-passed.ensures in
    let at = c.passed-passed.result.at in
    let old = c.args.front.now in
    let before : at < old.told = omega (arith, lt, e.told) in
    let t = c.requires.told (omega (arith, before, e.further)) in
    let there : at < length rows = omega (arith, before, t.below) in
    subst (λ (x : ℕ). AreTold rows holds c.args.cown at x) (sym e.told)
    (told_still rows holds c.args.cown old.at at old.told t e.further before (e.stops there).held)

pub returns-clause-notes : goal.returns-clause-notes
returns-clause-notes c = λ b ge lt s.
    let rows = c.args.rows.now in
    let holds = c.args.holds.now.all.items in
    let e = c.passed-passed.ensures in
    c.in_ok-told.ensures.notes b (omega (arith, ge, e.told))
    (stands_after rows holds c.args.cown c.args.starts.now c.passed-passed.result b e.come s) lt (use_has (cowns_of rows b) _ c.args.cown s.held.0 s.held.1)

use Rattle.std.proofs.Common.{◌≡◌, ℕ, ◌+◌, Bool, Option, Some, None, subst, sym, ap, ◌∙◌, arith}
use Rattle.boc_runs.specs.Rows.{written_of}
use Rattle.boc_plans.specs.Plans.{start_of}
use Rattle.boc_uses.specs.declared.uses.Use.{Use}
use Rattle.boc_turns.specs.Turns.{use_of}
use Rattle.boc_turns.specs.Course.{wrote_cown}
use Rattle.boc_turns.proofs.Folding.{same_test}
use Rattle.boc_used_greedy.specs.Users.{IsNextUser}
use Rattle.boc_used_greedy.specs.Ready.{left_after}
use Rattle.boc_used_greedy.specs.Fronts.{left_of}
use Rattle.boc_used_greedy.proofs.Fronting.{front_low, come_past}
use Rattle.boc_used_greedy.proofs.Within.{within_uses}
use Rattle.boc_used_greedy.proofs.fronts.Front.step.Goals as goal

pub after-requires-clause-held : goal.after-requires-clause-held
after-requires-clause-held c =
    let rows = c.args.rows.now in
    let hr = c.requires.shape in
    let holds = c.args.holds.now.all.items in
    (front_low rows holds c.args.cown (within_uses rows hr holds c.requires.holds.are_uses c.args.cown) c.args.starts.now c.args.self.now c.requires.come
    c.requires.low hr.not_many).0

pub after-requires-clause-wrote : goal.after-requires-clause-wrote
after-requires-clause-wrote c =
    let rows = c.args.rows.now in
    let hr = c.requires.shape in
    let holds = c.args.holds.now.all.items in
    (front_low rows holds c.args.cown (within_uses rows hr holds c.requires.holds.are_uses c.args.cown) c.args.starts.now c.args.self.now c.requires.come
    c.requires.low hr.not_many).1

pub returns-in-None-clause-come : goal.returns-in-None-clause-come
returns-in-None-clause-come c =
    let rows = c.args.rows.now in
    let holds = c.args.holds.now.all.items in
    let self = c.args.self.now in
    come_past rows holds c.args.cown c.args.starts.now self _ c.requires.come (omega (arith, c.if-row-len.false, c.len.ensures.count)) c.after-next.ensures
    (λ u e. absurd (let s : None ≡ Some u = c.in-None.ensures ∙ e in cc))
    (ap (λ (o : Option Use). left_after o (wrote_cown rows self.at c.args.cown) (start_of c.args.starts.now self.at) (left_of self)) c.in-None.ensures)

pub returns-else-starts-row-clause-come : goal.returns-else-starts-row-clause-come
returns-else-starts-row-clause-come c =
    let rows = c.args.rows.now in
    let holds = c.args.holds.now.all.items in
    let self = c.args.self.now in
    let starts = c.args.starts.now in
    let cown : ℕ = c.args.cown in
    come_past rows holds cown starts self c.after.result c.requires.come (omega (arith, c.if-row-len.false, c.len.ensures.count))
    (subst (IsNextUser rows cown (self.at + 1)) (sym c.after.ensures.at) c.after-next.ensures)
    (λ u e. (let fits = c.type_inv.starts self.at in omega (arith, c.if-starts-row.false, fits)))
    (c.after.ensures.left ∙ (ap (λ (o : Option Use). left_after o c.writes.result (start_of starts self.at) (left_of self)) c.in-Some.ensures
    ∙ ap (λ (w : Bool). left_after (use_of rows holds self.at cown) w (start_of starts self.at) (left_of self))
    (same_test c.writes.result cown (written_of rows self.at) c.writes.ensures)))

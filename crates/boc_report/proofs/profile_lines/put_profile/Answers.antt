use Rattle.std.proofs.Common.{◌≡◌, ℕ, Bool, List, ◌++◌, ◌-◌, ◌≤◌, length, codes, drop, take, subst, arith}
use Rattle.std.specs.Prelude.{Option}
use Rattle.boc_plans.specs.declared.chain.ChainStep.{ChainStep}
use Rattle.boc_report.specs.Texts.{report_head, step_lines, plan_text}
use Rattle.boc_text.specs.declared.outgoing.Outgoing.{Outgoing}
use Rattle.boc_text.specs.Outgoing.{Puts}
use Rattle.boc_text.proofs.Sending.{HasPut, StopsIn, puts_more, puts_then, puts_stopped, stops_after, stops_early}
use Rattle.boc_order.specs.declared.report.Profile.{Profile}
use Rattle.boc_report.specs.declared.profile_lines.TheConstants.{MOST_HEAD}
use Rattle.boc_report.proofs.ByLines.{room_put, put_stopped}
use Rattle.boc_report.proofs.profile_lines.put_profile.Goals as goal

-- the parts of the text
abbrev head : Profile → List ℕ
head p = report_head (length p.starts.items) p.work p.span ++ codes "chain\n"

abbrev steps : Profile → List ℕ
steps p = step_lines p.chain.steps.items

abbrev plan : Bool → Profile → List ℕ
plan unplanned p = plan_text unplanned p.starts.items p.ends.items

abbrev whole : Bool → Profile → List ℕ
whole unplanned p = (head p ++ steps p) ++ plan unplanned p

-- the head was put, formed in a room, and the steps were put behind it
stepped : (p : Profile) (room : List ℕ) (begin : ℕ) (passed : List ChainStep) (old middle new : Outgoing) (from between to : Option (List ℕ))
    → length room ≤ MOST_HEAD
    → drop begin room ≡ head p → HasPut (take (MOST_HEAD - begin) (drop begin room)) old middle from between → passed ≡ p.chain.steps.items
    → HasPut (step_lines passed) middle new between to → HasPut (head p ++ steps p) old new from to
stepped p room begin passed old middle new from between to all is came same comes =
    puts_more (head p) (steps p) old middle new from between to (room_put room (head p) MOST_HEAD begin old middle from between all is came)
    (subst (λ (xs : List ChainStep). HasPut (step_lines xs) middle new between to) same comes)

pub returns-in_err-put-clause-goes_on : goal.returns-in_err-put-clause-goes_on
returns-in_err-put-clause-goes_on g c =
    put_stopped (whole c.args.unplanned c.args.profile.now) c.from_residual.result _ c.args.out.now c.put.new.self _ _ c.in_err-put.ensures.goes_on
    c.from_residual.ensures.1

pub returns-in_err-put_steps-clause-goes_on : goal.returns-in_err-put_steps-clause-goes_on
returns-in_err-put_steps-clause-goes_on g c =
    let p = c.args.profile.now in
    let from = g.W.Sink.written c.args.sink.now in
    let at_steps = g.W.Sink.written c.put.new.sink in
    let to = g.W.Sink.written c.put_steps.new.sink in
    let gone = c.in_err-put_steps.field-0.0.gone in
    puts_stopped (whole c.args.unplanned p) c.from_residual-in_err-put_steps.result _ c.args.out.now c.put_steps.new.out from to
    c.from_residual-in_err-put_steps.ensures.1
    (stops_early (head p ++ steps p) (plan c.args.unplanned p) gone c.args.out.now from to
    (stops_after (head p) (steps p) gone c.args.out.now c.put.new.self from at_steps to
    (room_put c.head_before-begin.new.room (head p) MOST_HEAD c.head_before-begin.result c.args.out.now c.put.new.self from at_steps (omega arith)
    c.head_before-begin.ensures.written c.in_ok-put.ensures.goes_on)
    (subst (λ (xs : List ChainStep). StopsIn (step_lines xs) gone c.put.new.self at_steps to) c.deref.ensures.value c.in_err-put_steps.ensures.goes_on)))

pub returns-clause-goes_on : goal.returns-clause-goes_on
returns-clause-goes_on g c =
    let p = c.args.profile.now in
    let unplanned = c.args.unplanned in
    let from = g.W.Sink.written c.args.sink.now in
    let at_plan = g.W.Sink.written c.put_steps.new.sink in
    let to = g.W.Sink.written c.put_rows.new.sink in
    puts_then (head p ++ steps p) (plan unplanned p) c.put_rows.result c.args.out.now c.put_steps.new.out c.put_rows.new.out from at_plan to
    (stepped p c.head_before-begin.new.room c.head_before-begin.result _ c.args.out.now c.put.new.self c.put_steps.new.out from _ at_plan (omega arith)
    c.head_before-begin.ensures.written c.in_ok-put.ensures.goes_on c.deref.ensures.value c.in_ok-put_steps.ensures.goes_on)
    (subst (λ (xs : List ℕ). Puts (plan_text unplanned p.starts.items xs) c.put_rows.result c.put_steps.new.out c.put_rows.new.out at_plan to)
    c.deref-3.ensures.value
    (subst (λ (xs : List ℕ). Puts (plan_text unplanned xs c.deref-3.result.now) c.put_rows.result c.put_steps.new.out c.put_rows.new.out at_plan to)
    c.deref-2.ensures.value c.put_rows.ensures.goes_on))

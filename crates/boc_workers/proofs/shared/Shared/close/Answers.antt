use Rattle.std.proofs.Common.{◌≡◌, ◌∙◌, ap, rules}
use Rattle.std.specs.Prelude.{Some, Ok}
use Rattle.boc_runs.specs.Records.{IsRecordOf}
use Rattle.boc_dispatch.specs.Calls.{EndsAsRecord}
use Rattle.boc_workers.specs.declared.fault.RunFault.TheVariants.{Behaviours}
use Rattle.boc_workers.proofs.Reached.{can_reach}
use Rattle.boc_workers.proofs.Ended.{ends_as_serial, steps_of_record}
use Rattle.boc_workers.proofs.shared.Shared.close.Goals as goal

pub returns-in-Ok-clause-ends : goal.returns-in-Ok-clause-ends
returns-in-Ok-clause-ends g c =
    let own : IsRecordOf c.args.program.now c.in-Ok.record = search rules in
    ends_as_serial c.args.program.now c.in-Ok.record own

pub returns-in-Ok-clause-steps : goal.returns-in-Ok-clause-steps
returns-in-Ok-clause-steps g c =
    let ends : EndsAsRecord c.args.self.dispatcher (Ok c.in-Ok.record) = c.in-Ok.ensures in
    let steps = steps_of_record c.args.self.dispatcher c.in-Ok.record c.program.ensures.sound ends in
    search rules

pub returns-in-Some-clause-behaviours : goal.returns-in-Some-clause-behaviours
returns-in-Some-clause-behaviours g c is =
    let own : c.args.self.dispatcher.program ≡ c.args.program.now = search rules in
    let noted : c.args.self.fault ≡ Some Behaviours = c.in-Some.is ∙ ap (λ fault. Some fault) is in
    can_reach c.args.self.dispatcher c.args.program.now own c.args.self.reached (c.args.self.at_limit noted)

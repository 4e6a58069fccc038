use Rattle.boc_record.proofs.Handing.{rules_hand}
use Rattle.boc_record.proofs.sink.RulesEventSink.hand_over.Goals as goal

pub returns-clause-taken : goal.returns-clause-taken
returns-clause-taken c = λ log e. rules_hand c.take.result c.args.self.now c.take.new.self log c.args.event c.take.ensures e

use Rattle.boc_record.proofs.Handing.{judge_hands}
use Rattle.boc_record.proofs.sink.JudgeEventSink.hand_over.Goals as goal

pub returns-clause-taken : goal.returns-clause-taken
returns-clause-taken c = λ log e. judge_hands c.take.result c.args.self.now c.take.new.self log c.args.event c.take.ensures e

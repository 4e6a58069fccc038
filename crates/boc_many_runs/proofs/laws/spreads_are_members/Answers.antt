use Rattle.std.specs.Ordering.{int_cmp, nat_cmp}
use Rattle.boc_many_runs.proofs.Spreading.{members}
use Rattle.boc_many_runs.proofs.laws.spreads_are_members.Goals as goal

pub returns-clause-numbers : goal.returns-clause-numbers
returns-clause-numbers c = λ xs least median most s. members nat_cmp xs least median most s

pub returns-clause-signed : goal.returns-clause-signed
returns-clause-signed c = λ xs least median most s. members int_cmp xs least median most s

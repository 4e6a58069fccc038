use Rattle.std.proofs.Common.{ap, sym}
use Rattle.boc_run_commands.specs.Faults.{of_serial}
use Rattle.boc_run_commands.proofs.fault.FaultFromSerialFault.from.Goals as goal

pub returns-in-Behaviours : goal.returns-in-Behaviours
returns-in-Behaviours c = sym (ap of_serial c.in-Behaviours.is)

use Rattle.std.proofs.Common.{ap, sym}
use Rattle.boc_run_commands.specs.Faults.{of_write}
use Rattle.boc_run_commands.proofs.fault.FaultFromWriteFault.from.Goals as goal

pub returns-in-Device : goal.returns-in-Device
returns-in-Device c = sym (ap of_write c.in-Device.is)

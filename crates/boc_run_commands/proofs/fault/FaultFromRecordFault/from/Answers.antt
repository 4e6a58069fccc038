use Rattle.std.proofs.Common.{ap, sym}
use Rattle.boc_run_commands.specs.Faults.{of_record}
use Rattle.boc_run_commands.proofs.fault.FaultFromRecordFault.from.Goals as goal

pub returns-in-Device : goal.returns-in-Device
returns-in-Device c = sym (ap (of_record c.args.fault) c.in-Device.is)

use Rattle.std.proofs.Common.{length}
use Rattle.boc_names.proofs.behaviours.+put_more_args.Given as goal

abbrev pub decreases-put_more_args : goal.decreases-put_more_args
decreases-put_more_args l = length l.args.now

use Rattle.std.proofs.Common.{arith}
use Rattle.std.proofs.lemmas.Bool.Decides.{nat_tests}
use Rattle.boc_record.proofs.Runs.{nothing_left}
use Rattle.boc_stream.proofs.Telling.{may_empty, empty_rest}
use Rattle.boc_stream.proofs.told.has_form.Goals as goal

pub returns-then-is_empty-clause-yes : goal.returns-then-is_empty-clause-yes
returns-then-is_empty-clause-yes c = λ t cowns of. may_empty _ _ _ cowns (nothing_left c.args.fields.now (grind (arith, nat_tests))) of

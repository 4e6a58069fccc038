use Rattle.std.proofs.Common.{arith}
use Rattle.std.proofs.lemmas.Bool.Decides.{nat_tests}
use Rattle.boc_record.proofs.Runs.{apart_first, first_apart}
use Rattle.boc_stream.proofs.Telling.{last_front, last_follows}
use Rattle.boc_stream.proofs.told.last_of.Goals.{else-not-is_empty-via-then-not-is_empty+else-fields-ne32, else-not-is_empty-via-else-not-is_empty}
use Rattle.boc_stream.proofs.told.last_of.Goals as goal

pub returns-then-fields-ne32 : goal.returns-then-fields-ne32
returns-then-fields-ne32 c = λ told rest t.
    absurd (c.if-fields-ne32.true (apart_first c.args.fields.now (last_front c.args.fields.now told rest t) (grind (arith, nat_tests))))

pub returns : goal.returns
returns c = last_follows c.args.fields.now (first_apart c.args.fields.now (λ more. elim c.else-not-is_empty.branch [
  | else-not-is_empty-via-then-not-is_empty+else-fields-ne32 w ↦ w.if-fields-ne32.false
  | else-not-is_empty-via-else-not-is_empty w ↦ absurd (grind (arith, nat_tests))
]))

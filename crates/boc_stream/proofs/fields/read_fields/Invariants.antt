use Rattle.std.proofs.Common.{◌≡◌, ◌<◌, ◌++◌, length}
use Rattle.boc_record.specs.RecordTexts.{fields as fields_of}
use Rattle.boc_record.specs.Fields.{IsApart}
use Rattle.boc_stream.specs.StreamFields.{AreShort}
use Rattle.boc_stream.proofs.fields.read_fields.Given as goal

abbrev pub invariant-loop-rest : goal.invariant-loop-rest
invariant-loop-rest l = (l.text ≡ fields_of l.numbers.items ++ l.rest) × AreShort l.numbers.items × (0 < length l.numbers.items → IsApart l.rest)

abbrev pub decreases-loop-rest : goal.decreases-loop-rest
decreases-loop-rest l = length l.rest

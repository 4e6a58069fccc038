use Rattle.std.proofs.Common.{◌≡◌, ◌<◌, ◌≤◌, ◌++◌, length}
use Rattle.boc_record.specs.RecordTexts.{fields as fields_of}
use Rattle.boc_record.specs.Fields.{AreSmall, IsApart}
use Rattle.boc_record.proofs.fields.cowns_of.Given as goal

abbrev pub invariant-loop-rest : goal.invariant-loop-rest
invariant-loop-rest l = (l.text ≡ fields_of l.cowns.items ++ l.rest) × AreSmall l.cowns.items × (0 < length l.cowns.items → IsApart l.rest)
    × (length l.cowns.items ≤ 8)

abbrev pub decreases-loop-rest : goal.decreases-loop-rest
decreases-loop-rest l = length l.rest

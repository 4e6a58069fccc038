use Rattle.std.proofs.Common.{◌≤◌, ◌-◌, length}
use Rattle.boc_record.specs.Ahead.{AreFieldsAhead}
use Rattle.boc_record.proofs.ahead.cowns_ahead.Given as goal

abbrev pub invariant-loop-rest : goal.invariant-loop-rest
invariant-loop-rest l = record {
  fields : AreFieldsAhead l.text l.cowns.items l.rest;
  few : length l.cowns.items ≤ 8;
}

abbrev pub decreases-loop-rest : goal.decreases-loop-rest
decreases-loop-rest l = 8 - length l.cowns.items

use Rattle.std.proofs.Common.{◌≡◌, ℕ, ◌<◌, take, get_or}
use Rattle.std.specs.Int.{IsInRange}
use Rattle.boc_record.proofs.Runs.{value_of}
use Rattle.boc_stream.proofs.fields.front_digits.Given as goal

abbrev pub invariant-loop-i : goal.invariant-loop-i
invariant-loop-i l = record {
  value : l.value ≡ value_of (take l.i l.text);
  digits : (k : ℕ) → k < l.i → IsInRange 48 57 (get_or l.text k 0);
}

use Rattle.std.proofs.Common.{◌≡◌, ℕ, ◌<◌, ◌^◌, take, get_or}
use Rattle.std.specs.Int.{IsInRange}
use Rattle.boc_text.proofs.Numerals.{value_of}
use Rattle.boc_text.proofs.decimal.value_of.Given as goal

abbrev pub invariant-loop-byte : goal.invariant-loop-byte
invariant-loop-byte l = record {
  value : l.number ≡ value_of (take l.byte-index l.digits);
  digits : (i : ℕ) → i < l.byte-index → IsInRange 48 57 (get_or l.digits i 0);
  small : l.number < 2 ^ 32;
}

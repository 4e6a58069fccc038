use Rattle.std.proofs.Common.{◌≡◌, ◌+◌, ◌<◌, ◌^◌, drop}
use Rattle.boc_page.specs.Columns.{wrote_from, wrote_of}
use Rattle.boc_page.proofs.rows.wrote_of.Given as goal

-- what each place is worth, and the sum so far with what comes
abbrev pub invariant-loop-cown : goal.invariant-loop-cown
invariant-loop-cown l = record {
  bit : l.bit ≡ 2 ^ l.cown-index;
  low : l.sum < l.bit;
  rest : l.sum + wrote_from l.bit l.written (drop l.cown-index l.cown-items) ≡ wrote_of l.row;
}

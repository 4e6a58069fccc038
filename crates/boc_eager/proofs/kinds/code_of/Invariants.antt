use Rattle.std.proofs.Common.{◌≡◌, ◌*◌, ◌^◌, ◌<◌, drop}
use Rattle.boc_runs.specs.Rows.{cowns_of, written_of}
use Rattle.boc_eager.specs.Kinds.{code_from, kind_code}
use Rattle.boc_eager.proofs.kinds.code_of.Given as goal

-- what is left goes on from the code so far
abbrev pub invariant-loop-cown : goal.invariant-loop-cown
invariant-loop-cown l = record {
  code : code_from l.code (drop l.cown-index (cowns_of l.rows l.row)) (written_of l.rows l.row) ≡ kind_code l.rows l.row;
  low : l.code < 2 * 512 ^ l.cown-index;
}

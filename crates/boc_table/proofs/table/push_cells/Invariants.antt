use Rattle.std.proofs.Common.{◌≡◌, ◌++◌, length, map, flat_map, take}
use Rattle.boc_table.proofs.table.push_cells.Given as goal

abbrev pub invariant-loop-cell : goal.invariant-loop-cell
invariant-loop-cell l = record {
  lens : l.lens.items ≡ l.fn.lens.items ++ map (λ c. length c.now) (take l.cell-index l.cells);
  bytes : l.bytes.items ≡ l.fn.bytes.items ++ flat_map (λ c. c.now) (take l.cell-index l.cells);
}

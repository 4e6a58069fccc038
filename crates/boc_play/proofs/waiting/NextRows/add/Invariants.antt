use Rattle.std.proofs.Common.{◌≡◌, ◌<◌, drop, length}
use Rattle.boc_play.specs.Waiting.{AreThere, all_linked, tables, with_row}
use Rattle.boc_play.proofs.waiting.NextRows.add.Given as goal

-- what is left of the cowns makes the tables
abbrev pub invariant-loop-cown : goal.invariant-loop-cown
invariant-loop-cown l = record {
  so_far : all_linked (tables l.self) l.row (drop l.cown-index l.cowns) ≡ with_row (tables l.fn.self) l.row l.cowns;
  many : length l.self.latest.items ≡ length l.fn.self.latest.items;
  there : AreThere (tables l.self);
  low : l.row < length (tables l.self).next;
}

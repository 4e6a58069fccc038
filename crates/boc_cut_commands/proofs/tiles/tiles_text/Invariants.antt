use Rattle.std.proofs.Common.{◌≡◌, take}
use Rattle.boc_cut_commands.specs.CutAnswers.{tiles_text}
use Rattle.boc_cut_commands.proofs.tiles.tiles_text.Given as goal

-- the lines of the windows so far
abbrev pub invariant-loop-tile : goal.invariant-loop-tile
invariant-loop-tile l = l.text.items ≡ tiles_text (take l.tile-index l.tiles)

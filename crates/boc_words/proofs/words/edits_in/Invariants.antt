use Rattle.std.proofs.Common.{◌≡◌, map, take}
use Rattle.std.specs.List.{All}
use Rattle.boc_words.specs.EditWords.{IsEditWord, IsWritable, edit_word}
use Rattle.boc_words.proofs.words.edits_in.Given as goal

abbrev pub invariant-loop-index : goal.invariant-loop-index
invariant-loop-index l = record {
  writable : All IsWritable l.edits.items;
  taken : map edit_word l.edits.items ≡ map (λ t. t.now) (take l.index l.words);
  spelt : All IsEditWord (map (λ t. t.now) (take l.index l.words));
}

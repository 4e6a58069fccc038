use Rattle.std.proofs.Common.{◌≡◌, if◌then◌else◌, map, not, take}
use Rattle.std.specs.List.{filter}
use Rattle.boc_words.specs.EditWords.{is_edit}
use Rattle.boc_words.proofs.words.words_that.Given as goal

abbrev pub invariant-loop-word : goal.invariant-loop-word
invariant-loop-word l = map (λ t. t.now) l.some.items
    ≡ filter (λ word. if l.edits then is_edit word else not (is_edit word)) (map (λ t. t.now) (take l.word-index l.words))

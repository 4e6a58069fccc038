use Rattle.std.proofs.Common.{map, take}
use Rattle.std.specs.List.{AllZip}
use Rattle.boc_words.specs.Words.{IsCownText}
use Rattle.boc_words.proofs.words.cowns_asked.Given as goal

abbrev pub invariant-loop-text : goal.invariant-loop-text
invariant-loop-text l = AllZip IsCownText (map (λ t. t.now) (take l.text-index l.texts)) l.cowns.items

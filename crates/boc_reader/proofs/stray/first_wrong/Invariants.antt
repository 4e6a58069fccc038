use Rattle.std.proofs.Common.{◌≡◌, [], ◌∷◌, reverse, take, drop, Some}
use Rattle.boc_reader.specs.Placed.{tokens_of}
use Rattle.boc_reader.specs.Wanted.{wanted_after}
use Rattle.boc_reader.specs.Room.{room_of_text, within_after}
use Rattle.boc_reader.specs.declared.wanted.Wanted.TheVariants.{Cowns}
use Rattle.boc_reader.proofs.stray.first_wrong.Given as goal

abbrev pub invariant-loop-before : goal.invariant-loop-before
invariant-loop-before l =
    (wanted_after (take l.before (tokens_of l.tokens)) (Cowns ∷ []) ≡ Some (reverse l.wanted.items))
    × (within_after (take l.before (tokens_of l.tokens)) (drop l.before (tokens_of l.tokens)) (Cowns ∷ []) room_of_text
    ≡ Some (record { wanted = reverse l.wanted.items; room = l.room }))

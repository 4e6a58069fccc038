-- The words of a seed, orders and picks, tried on worked ones.
use Rattle.std.proofs.Common.{◌≡◌, ℕ, [], ◌∷◌, List, refl}
use Rattle.std.specs.Prelude.{Some, None}
use Rattle.rand_core.specs.Steps.{stream_of, word_bytes, u32_at}
use Rattle.rand_core.specs.Stream.{fill_bytes}
use Rattle.rand_xoshiro.specs.Xoshiro256.{plus_plus}
use Rattle.boc_draws.specs.declared.picker.Picker.{Picker}
use Rattle.boc_draws.specs.declared.picker.Picker.TheVariants as pickers
use Rattle.boc_draws.specs.Picks.{generator_of, shuffled, order_before, picked}

-- the first word of seed 0, as SplitMix64 and xoshiro256++ give it
first_word : (plus_plus (generator_of 0)).0 ≡ 5987356902031041503
unfolding fill_bytes stream_of word_bytes u32_at
first_word = refl

-- a generator whose first words are 41943041, 58720359 and 3588806011781223
abbrev generator : List ℕ
generator = 1 ∷ 2 ∷ 3 ∷ 4 ∷ []

-- of three that can move, the one at the place that is left of the word, which is 2, and not the first
by_word : (picked (pickers.Words generator) 0 (1 ∷ 4 ∷ 6 ∷ [])).0 ≡ Some 6
by_word = refl

-- where none can move none is picked
none_there : (picked (pickers.Words generator) 0 []).0 ≡ None
none_there = refl

-- worker 0 comes first; 1 at place 1 of 2, as 58720359 is odd; and 2 at place 0 of 3
three_workers : (shuffled 3 generator).0 ≡ 2 ∷ 0 ∷ 1 ∷ []
three_workers = refl

-- an order of four workers, in which before step 7 one falls
abbrev picker : Picker
picker = pickers.Order (record { items = 2 ∷ 0 ∷ 3 ∷ 1 ∷ [] }) (record { items = 7 ∷ [] })

-- the first of an order that can move is picked, though a smaller number could
by_order : (picked picker 6 (1 ∷ 3 ∷ [])).0 ≡ Some 3
by_order = refl

-- before step 7 it falls to the last, and the next one goes
falls : (picked picker 7 (1 ∷ 3 ∷ [])).0 ≡ Some 1
falls = refl

order_after : order_before (2 ∷ 0 ∷ 3 ∷ 1 ∷ []) (7 ∷ []) 7 (1 ∷ 3 ∷ []) ≡ 2 ∷ 0 ∷ 1 ∷ 3 ∷ []
order_after = refl

-- where it is the only one that can move, it goes all the same
only_one : (picked picker 7 (3 ∷ [])).0 ≡ Some 3
only_one = refl

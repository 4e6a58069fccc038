-- Changes from one run to another.
use Rattle.std.specs.Prelude.{ℕ, List}
use Rattle.std.specs.List.{sum_by}
use Rattle.std.specs.Option.{option_map_or}
use Rattle.boc_compare.specs.declared.pairs.Pair.{Pair}

-- the ticks on the chain before, and after, of what is told by name
abbrev pub chain_before : List Pair → ℕ
chain_before pairs = sum_by (λ (pair : Pair). option_map_or (λ own. own.chain) pair.before 0) pairs

abbrev pub chain_after : List Pair → ℕ
chain_after pairs = sum_by (λ (pair : Pair). option_map_or (λ own. own.chain) pair.after 0) pairs

-- the pair with before and after exchanged
abbrev pub turned : Pair → Pair
turned pair = record { before = pair.after; after = pair.before }

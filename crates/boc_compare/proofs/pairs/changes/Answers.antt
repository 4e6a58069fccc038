use Rattle.std.proofs.Common.{rules}
use Rattle.std.proofs.lemmas.List.Sorted.{answers_always}
use Rattle.boc_names.specs.Names.{texts_of}
use Rattle.boc_compare.specs.declared.pairs.Pair.{Pair}
use Rattle.boc_compare.specs.Pairing.{chain_of, ticks_of}
use Rattle.boc_compare.proofs.Sorting.{sorted_changes}
use Rattle.boc_compare.proofs.pairs.changes.Goals as goal

pub returns : goal.returns
returns c = sorted_changes c.args.before.now (texts_of c.args.before_names.now) c.args.after.now (texts_of c.args.after_names.now) c.in_ok-pairs.pairs.items
    c.sort_by_key.new.self.items c.in_ok-pairs.ensures c.sort_by_key.ensures.permutation
    (c.in_ok-sort_by_key.ensures.sorted (λ (p : Pair). (record { 0 = chain_of p }, record { 0 = ticks_of p }))
    (answers_always _ _ _ (λ f a r g h. search rules)))
    (c.sort_by_key.ensures.stable (λ (p : Pair). (record { 0 = chain_of p }, record { 0 = ticks_of p })) (answers_always _ _ _ (λ f a r g h. search rules)))

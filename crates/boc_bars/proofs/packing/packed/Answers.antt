use Rattle.std.proofs.Common.{◌≡◌, ◌≤◌, ◌∙◌, ap, length, map, sym, subst, take}
use Rattle.std.proofs.lemmas.List.{take_all}
use Rattle.std.proofs.lemmas.List.Sorted.{IsPermutation-map}
use Rattle.std.specs.List.Sorted.{IsPermutation}
use Rattle.boc_bars.specs.Bars.{times_of}
use Rattle.boc_bars.proofs.packing.packed.Goals as goal

pub returns-clause-bars : goal.returns-clause-bars
returns-clause-bars c =
    let own = c.in_ok-bars.bars.items in
    let sorted = c.sort_unstable_by_key.new.self.items in
    let index = c.loop-bar.bar-index in
    let same = c.deref-bar-items.ensures.value in
    let end = subst (λ xs. length xs ≤ index) same c.loop-bar-test.false in
    let whole = c.loop-bar.invariant.0 ∙ ap (map times_of) (ap (take index) same ∙ take_all index sorted end) in (
      own,
      c.in_ok-bars.ensures,
      subst (λ xs. IsPermutation (map times_of own) xs) (sym whole)
          (IsPermutation-map times_of own sorted c.sort_unstable_by_key.ensures.permutation),
    )

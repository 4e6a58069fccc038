use Rattle.std.proofs.Common.{ℕ, List, subst}
use Rattle.std.specs.Prelude.{IsPermutation}
use Rattle.boc_front_rows.proofs.arranging.kept.Goals as goal

pub returns : goal.returns
returns c = subst (λ (xs : List ℕ). IsPermutation xs c.sort_unstable_by.new.self.items) c.in_ok-kept.ensures c.sort_unstable_by.ensures.permutation

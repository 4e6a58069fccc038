use Rattle.std.proofs.Common.{ℕ, List, map}
use Rattle.boc_many_runs.specs.declared.seen.Numbers.{Numbers}
use Rattle.boc_many_runs.proofs.Spreading.{in_order}
use Rattle.boc_many_runs.proofs.many.told_of.Goals as goal

pub bins_of-requires : goal.bins_of-requires
bins_of-requires c =
    let end = c.in_ok-spreads.spreads.end in
    let ends : List ℕ = map (λ (n : Numbers). n.end) c.args.numbers.now in
    in_order ends end.least end.median end.most c.in_ok-spreads.ensures.end

use Rattle.std.proofs.Common.{◌≡◌, ◌<◌, ◌≤◌, ◌^◌, All, take, length}
use Rattle.boc_cut.proofs.whole.short_cowns.Given as goal

abbrev pub invariant-loop-number : goal.invariant-loop-number
invariant-loop-number l = (l.cowns.items ≡ take l.number-index l.numbers) × All (λ n. n < 2 ^ 32) l.cowns.items × (length l.cowns.items ≤ 8)

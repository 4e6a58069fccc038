use Rattle.std.proofs.Common.{◌≡◌, ◌≤◌, map, replicate, []}
use Rattle.std.specs.Vec.{vec_len, vec_capacity}
use Rattle.boc_chain.proofs.list_chains.ListChains.new.Given as goal

-- so many empty lists, and room for the rest
abbrev pub invariant-loop : goal.invariant-loop
invariant-loop l = (map (λ v. v.items) l.lines.items ≡ replicate l.counter []) × (vec_len l.lines ≡ l.counter) × (l.cowns ≤ vec_capacity l.lines)

use Rattle.std.proofs.Common.{◌≡◌, [], ◌∷◌, ◌++◌, drop}
use Rattle.boc_end_orders.specs.Traces.{names_at}
use Rattle.boc_end_orders.proofs.search.names_after.Given as goal

-- the names so far, and those of the places to come
abbrev pub invariant-loop-place : goal.invariant-loop-place
invariant-loop-place l = l.after.items ++ names_at (l.names ++ l.row ∷ []) (drop l.place-index l.kept) ≡ names_at (l.names ++ l.row ∷ []) l.kept

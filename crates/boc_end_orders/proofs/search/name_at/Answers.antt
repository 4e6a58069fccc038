use Rattle.std.proofs.Common.{◌≡◌, ◌<◌, [], ◌∷◌, length, sym, arith}
use Rattle.std.proofs.lemmas.List.{get_or_append_left}
use Rattle.boc_end_orders.proofs.Naming.{name_new}
use Rattle.boc_end_orders.proofs.search.name_at.Goals as goal

pub returns-then-place-names : goal.returns-then-place-names
returns-then-place-names c =
    let low : c.args.place < length c.args.names.now = omega (arith, c.if-place-names.true) in
    sym (get_or_append_left c.args.names.now (c.args.row ∷ []) 0 c.args.place low)

pub returns-else-place-names : goal.returns-else-place-names
returns-else-place-names c =
    let last : c.args.place ≡ length c.args.names.now = omega (arith, c.if-place-names.false, c.requires) in
    sym (name_new c.args.names.now c.args.row c.args.place last)

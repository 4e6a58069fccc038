use Rattle.std.proofs.Common.{◌≡◌, ℤ, List, subst, Decides}
use Rattle.std.proofs.lemmas.Bool.Decides.{Decides-int_eq}
use Rattle.std.proofs.lemmas.Slice.Eq.{slice_eq-Decides}
use Rattle.boc_end_orders.proofs.search.has_values.Goals as goal

pub returns : goal.returns
returns c =
    let P : List ℤ → Type 0 = λ xs. Decides c.eq.result (xs ≡ c.args.values.now) in
    subst P c.as_slice.ensures.value (slice_eq-Decides Decides-int_eq _ _ c.eq.result c.eq.ensures)

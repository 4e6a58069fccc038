use Rattle.std.proofs.Common.{◌≡◌, ℤ, List, subst, Decides}
use Rattle.std.proofs.lemmas.Bool.Decides.{Decides-int_eq}
use Rattle.std.proofs.lemmas.Slice.Eq.{slice_eq-Decides}
use Rattle.boc_dispatch.proofs.live.Live.has_args.Goals as goal

pub returns : goal.returns
returns c =
    let P : List ℤ → Type 0 = λ ys. Decides c.eq.result (c.args.args.now ≡ ys) in
    subst P c.as_slice.ensures.value (slice_eq-Decides Decides-int_eq _ _ c.eq.result c.eq.ensures)

use Rattle.std.proofs.Common.{◌≡◌, ℕ, ◌+◌, ◌*◌, ◌<◌, List, ◌++◌, get_or, length, ◌∙◌, refl, sym, ap, subst, arith}
use Rattle.std.specs.Prelude.{min, slice_get, Some}
use Rattle.std.specs.declared.alloc.Global.{Global}
use Rattle.std.specs.declared.vec.Vec.{Vec}
use Rattle.std.proofs.lemmas.Option.{slice_get_read}
use Rattle.boc_runs.specs.declared.rows.Row.{Row}
use Rattle.boc_plans.specs.Seen.{seen}
use Rattle.boc_whatif.specs.declared.least_ends.TheConstants.{PIECE}
use Rattle.boc_whatif.specs.Pieces.{AreEnds}
use Rattle.boc_whatif.proofs.Ends.{one_piece_more}
use Rattle.boc_whatif.proofs.least_ends.ends_between.Goals as goal

pub loop-piece-preserved : goal.loop-piece-preserved
loop-piece-preserved g c =
    let parts = c.args.parts.now in
    let p : ℕ = parts.workers in
    let from : ℕ = c.args.from in
    let to : ℕ = c.args.to in
    let all : List Row = seen parts.sharing parts.rows.now in
    let i : ℕ = c.loop-piece.piece-index in
    let before : List ℕ = c.loop-piece.ends.items in
    let pieces : List (Vec ℕ Global) = c.in_ok-pieces.pieces.items in
    let piece : Vec ℕ Global = c.piece-item.result in
    let same : c.deref-piece-items.result.now ≡ pieces = c.deref-piece-items.ensures.value in
    let there : i < length pieces = omega (arith, c.loop-piece-test.true, ap (length {A = Vec ℕ Global}) same) in
    let read : slice_get pieces i ≡ Some piece =
    slice_get_read pieces _ i piece refl there (c.piece-item.is ∙ ap (λ (l : List (Vec ℕ Global)). get_or l i piece) same) in
    let items : c.extend_from_slice.new.self.items ≡ before ++ piece.items =
    c.in_ok-extend_from_slice.ensures.items ∙ ap (λ (l : List ℕ). before ++ l) c.deref.ensures.value in
    subst (AreEnds all p from (min to (from + (i + 1) * PIECE))) (sym items)
    (one_piece_more all p from to i before piece.items c.loop-piece.invariant (c.in_ok-pieces.ensures.at i piece read))

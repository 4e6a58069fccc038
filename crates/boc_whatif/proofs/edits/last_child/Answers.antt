use Rattle.std.proofs.Common.{◌<◌, ℕ, length, sym, subst, arith}
use Rattle.boc_runs.specs.Rows.{IsLast}
use Rattle.boc_runs.specs.Siblings.{IsLastChild}
use Rattle.boc_runs.proofs.NextChildren.{last_is}
use Rattle.boc_whatif.proofs.Between.{last_there, read_offset}
use Rattle.boc_whatif.proofs.edits.last_child.Goals as goal

pub returns : goal.returns
returns c =
    let rows = c.args.rows.now in
    let p : ℕ = c.args.parent in
    let a : ℕ = c.last_child.result in
    let last : IsLastChild rows p (length rows) a =
    subst (IsLastChild rows p (length rows)) (sym c.last_child.ensures) (c.requires.siblings.up.last p c.requires.there) in
    let there : a < length rows = last_there rows c.requires.shape p (length rows) a last in
    subst (IsLast rows (length rows) p) (read_offset rows a c.index-rows-last_child.result there c.index-rows-last_child.is)
    (last_is rows c.requires.shape p (length rows) a (omega arith) last)

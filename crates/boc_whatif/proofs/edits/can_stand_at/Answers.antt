use Rattle.std.proofs.Common.{◌≡◌, ◌+◌, ◌<◌, ◌≤◌, ℕ, false, true, length, get_or, refl, sym, subst, arith}
use Rattle.std.proofs.lemmas.Bool.{false≢true, le-leb, lt-ltb, ltb-true}
use Rattle.boc_runs.specs.declared.rows.Row.{Row}
use Rattle.boc_runs.specs.Rows.{parent_of, offset_of, ticks_of}
use Rattle.boc_runs.specs.Changes.{FitsAt}
use Rattle.boc_runs.specs.Siblings.{IsLastChild, IsNextChild}
use Rattle.boc_whatif.proofs.Between.{last_there, read_offset, read_parent, read_ticks, above_elder, below_younger, fits_between}
use Rattle.boc_whatif.proofs.edits.can_stand_at.Goals.{then-offset-rows-via-then-offset-rows, then-offset-rows-via-else-offset-rows+then-rows-parent}
use Rattle.boc_whatif.proofs.edits.can_stand_at.Goals as goal

pub returns-then-offset-rows : goal.returns-then-offset-rows
returns-then-offset-rows c =
    let rows = c.args.rows.now in
    let row : ℕ = c.args.row in
    let elder : ℕ = c.elder-elder.result in
    let before : IsLastChild rows (parent_of rows row) row elder =
    subst (IsLastChild rows (parent_of rows row) row) (sym c.elder-elder.ensures) (c.requires.siblings.up.elder row c.requires.there) in
    let y : Row = c.index-rows-elder.result in
    let offset : offset_of rows elder ≡ (get_or rows elder y).offset =
    read_offset rows elder y (last_there rows c.requires.shape (parent_of rows row) row elder before) c.index-rows-elder.is in
    let parent = read_parent rows rows refl c.requires.shape row c.index-rows-row.result c.requires.there c.index-rows-row.is in (
      λ (t : false ≡ true). absurd (false≢true t),
      λ (f : FitsAt rows row c.args.offset).
          let bad : ⊥ = elim c.then-offset-rows.branch [
            | then-offset-rows-via-then-offset-rows w ↦ omega (
              arith,
              w.if-offset-rows.true,
              offset,
              above_elder rows c.requires.shape row c.args.offset elder c.requires.there before f,
            )
            | then-offset-rows-via-else-offset-rows+then-rows-parent w ↦ omega (
              arith,
              w.if-rows-parent.true,
              read_ticks rows (parent_of rows row) _ w.index-rows-parent.result parent.0 parent.1 w.index-rows-parent.is,
              f.within,
            )
          ] in
          absurd bad,
    )

pub returns-then-younger-rows : goal.returns-then-younger-rows
returns-then-younger-rows c =
    let rows = c.args.rows.now in
    let row : ℕ = c.args.row in
    let elder : ℕ = c.elder-elder.result in
    let younger : ℕ = c.younger-younger.result in
    let before : IsLastChild rows (parent_of rows row) row elder =
    subst (IsLastChild rows (parent_of rows row) row) (sym c.elder-elder.ensures) (c.requires.siblings.up.elder row c.requires.there) in
    let behind : IsNextChild rows (parent_of rows row) (row + 1) younger =
    subst (IsNextChild rows (parent_of rows row) (row + 1)) (sym c.younger-younger.ensures)
    (c.requires.siblings.down.younger row c.requires.child c.requires.there) in
    let y : Row = c.index-rows-elder.result in
    let offset : offset_of rows elder ≡ (get_or rows elder y).offset =
    read_offset rows elder y (last_there rows c.requires.shape (parent_of rows row) row elder before) c.index-rows-elder.is in
    let parent = read_parent rows rows refl c.requires.shape row c.index-rows-row.result c.requires.there c.index-rows-row.is in
    let ticks = read_ticks rows (parent_of rows row) _ c.index-rows-parent.result parent.0 parent.1 c.index-rows-parent.is in (
      λ t. fits_between rows c.requires.shape row c.args.offset elder younger c.requires.child c.requires.there before behind
          (omega (arith, offset, c.if-offset-rows.false)) (omega (arith, ticks, c.if-rows-parent.false))
          (λ inside. absurd (omega (arith, inside, c.if-younger-rows.true))),
      λ f. le-leb (length rows) younger c.if-younger-rows.true,
    )

pub returns-else-younger-rows : goal.returns-else-younger-rows
returns-else-younger-rows c =
    let rows = c.args.rows.now in
    let row : ℕ = c.args.row in
    let elder : ℕ = c.elder-elder.result in
    let younger : ℕ = c.younger-younger.result in
    let before : IsLastChild rows (parent_of rows row) row elder =
    subst (IsLastChild rows (parent_of rows row) row) (sym c.elder-elder.ensures) (c.requires.siblings.up.elder row c.requires.there) in
    let behind : IsNextChild rows (parent_of rows row) (row + 1) younger =
    subst (IsNextChild rows (parent_of rows row) (row + 1)) (sym c.younger-younger.ensures)
    (c.requires.siblings.down.younger row c.requires.child c.requires.there) in
    let y : Row = c.index-rows-elder.result in
    let offset : offset_of rows elder ≡ (get_or rows elder y).offset =
    read_offset rows elder y (last_there rows c.requires.shape (parent_of rows row) row elder before) c.index-rows-elder.is in
    let parent = read_parent rows rows refl c.requires.shape row c.index-rows-row.result c.requires.there c.index-rows-row.is in
    let ticks = read_ticks rows (parent_of rows row) _ c.index-rows-parent.result parent.0 parent.1 c.index-rows-parent.is in
    let inside : younger < length rows = c.if-younger-rows.false in
    let z : Row = c.index-rows-younger.result in
    let next : offset_of rows younger ≡ (get_or rows younger z).offset = read_offset rows younger z inside c.index-rows-younger.is in (
      λ t. fits_between rows c.requires.shape row c.args.offset elder younger c.requires.child c.requires.there before behind
          (omega (arith, offset, c.if-offset-rows.false)) (omega (arith, ticks, c.if-rows-parent.false))
          (λ here. omega (arith, next, ltb-true c.args.offset (get_or rows younger z).offset t)),
      λ f. lt-ltb c.args.offset (get_or rows younger z).offset
          (omega (arith, next, below_younger rows row c.args.offset younger behind f inside)),
    )

use Rattle.std.proofs.Common.{◌≡◌, List, sym, ◌∙◌, ap, get_or}
use Rattle.boc_runs.specs.declared.rows.Row.{Row}
use Rattle.boc_runs.specs.Rows.{ticks_of}
use Rattle.boc_runs.proofs.Children.{row_read}
use Rattle.boc_whatif.proofs.Least.{end_now}
use Rattle.boc_whatif.proofs.least_ends.fewer_ticks.Goals as goal

pub returns-then-rows-row-clause-none : goal.returns-then-rows-row-clause-none
returns-then-rows-row-clause-none c =
    let k = c.requires.parts in
    let rows : List Row = c.args.parts.now.rows.now in
    let x : Row = c.index-rows-row.result in
    let read = row_read rows c.args.row x c.requires.there
    (c.index-rows-row.is ∙ ap (λ (l : List Row). get_or l c.args.row x) c.as_slice-rows.ensures.same) in
    let same : c.least_ticks-least.result ≡ ticks_of rows c.args.row =
    sym (read.ticks ∙ ap (λ (y : Row). y.ticks) c.index-rows-row.is ∙ c.if-rows-row.true) in
    end_now _ k.shape c.args.parts.now.sharing _ k.lasts_are _ c.requires.there _ c.least_ticks-least.ensures _ _ same k.end_is

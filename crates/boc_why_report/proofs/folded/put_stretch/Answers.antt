use Rattle.std.proofs.Common.{◌∙◌, ◌++◌, List, ap, arith, sym}
use Rattle.boc_names.specs.Names.{Text}
use Rattle.boc_table.specs.Tables.{Grid}
use Rattle.boc_why_report.specs.ChainTexts.{legs}
use Rattle.boc_why_report.proofs.Folds.{folds}
use Rattle.boc_why_report.proofs.Legs.{legs_length}
use Rattle.boc_why_report.proofs.folded.put_stretch.Goals as goal

pub returns : goal.returns
returns c =
    let all = legs c.args.steps.now c.args.links.now in
    let old : Grid = c.args.table.now in
    c.in_ok-put_folded.ensures
    ∙ ap (λ (lines : List (List Text)). record old { lines = old.lines ++ lines })
    (sym (folds c.args.names.now c.args.starts.now c.args.count all
    (omega (arith, legs_length c.args.steps.now c.args.links.now c.requires.whole, c.requires.within)) (omega arith)))

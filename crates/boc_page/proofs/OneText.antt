-- A data block has one text.
use Rattle.std.proofs.Common.{◌≡◌, List, ◌++◌, sym, ap, ◌∙◌}
use Rattle.std.specs.Prelude.{Option, codes}
use Rattle.boc_names.specs.Names.{Text}
use Rattle.boc_page.specs.declared.block.Block.{Block}
use Rattle.boc_page.specs.Blocks.{IsBlock, advice_part, head_part, names_part, plans_part, program_part, rows_part}
use Rattle.boc_page.proofs.Args.{one_args}

pub one_text : (block : Block) (source : Option Text) (text other : Text) → IsBlock block source text → IsBlock block source other → text ≡ other
one_text block source text other x y = x.is ∙ ap (λ (args : List Text). head_part block ++ names_part block args ++ rows_part block.rows.now ++ plans_part block
    ++ advice_part block ++ program_part source block.lines.now ++ codes "}") (one_args block.names.now x.args y.args x.are_args y.are_args) ∙ sym y.is

use Rattle.std.proofs.Common.{◌++◌, ◌∙◌, ap, codes, refl}
use Rattle.std.proofs.lemmas.Result.{on_ok_weaker}
use Rattle.boc_names.specs.Names.{texts_of}
use Rattle.boc_table.specs.Tables.{table_text}
use Rattle.boc_compare_report.specs.PairTexts.{pair_sides, pairs_lines, words_of}
use Rattle.boc_compare_report.proofs.Parts.{put_table_behind}
use Rattle.boc_compare_report.proofs.told.put_pairs.Goals as goal

pub returns : goal.returns
returns c =
    let own = c.args in
    let pairs = c.in_ok-pairs.pairs.items in
    let lines = pairs_lines (words_of own.heads) (texts_of own.before_names.now) (texts_of own.after_names.now) in
    on_ok_weaker c.put_table.result (λ put. (
      codes "\n" ++ table_text pair_sides (lines pairs),
      record { pairs = pairs; are = c.in_ok-pairs.ensures; is = refl },
      put_table_behind own.text.now.items _ _ _ _ _ _ c.in_ok-push.ensures.items c.in_ok-table.ensures.sides
          (c.in_ok-table.ensures.lines ∙ ap lines c.deref.ensures.value) put,
    )) c.put_table.ensures

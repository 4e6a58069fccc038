use Rattle.std.proofs.Common.{◌≡◌, ◌++◌, [], ◌∷◌, ◌<◌, length, ◌+◌, ap, ◌∙◌, arith}
use Rattle.std.proofs.lemmas.List.{length_push}
use Rattle.boc_names.specs.Names.{texts_of}
use Rattle.boc_page.specs.Columns.{IsArgs, def_name}
use Rattle.boc_page.proofs.Listed.{text_read, texts_count, texts_pushed}
use Rattle.boc_page.proofs.Args.{args_more}
use Rattle.boc_page.proofs.defs.args.Goals as goal

pub loop-row-preserved : goal.loop-row-preserved
loop-row-preserved c = let names = c.args.names.now in let row = c.index.result.now in let column = c.loop-row.column.items in
    let args = c.args_of-args.result.now in
    let is : texts_of c.push.new.self.items ≡ texts_of column ++ args ∷ [] =
    texts_pushed column c.push.new.self.items c.in_ok-from_slice.field-0 args c.in_ok-push.ensures.items c.in_ok-from_slice.ensures.items in
    let there : c.loop-row.row < length names.rows.items = omega (arith, c.len-row-end.ensures, c.loop-row-test.true) in
    let are : IsArgs (def_name names c.loop-row.row) row.items args = rw (c.def_name.ensures, c.deref.ensures.value) at c.args_of-args.ensures in
    record {
      whole = ap (λ xs. length xs) c.in_ok-push.ensures.items ∙ length_push column c.in_ok-from_slice.field-0 ∙ ap (λ n. n + 1) c.loop-row.invariant.whole;
      at = args_more names (texts_of column) (texts_of c.push.new.self.items) c.loop-row.row row.items args
          (texts_count column ∙ c.loop-row.invariant.whole)
          (text_read names.rows.items c.loop-row.row row there c.index.ensures) is are c.loop-row.invariant.at;
    }

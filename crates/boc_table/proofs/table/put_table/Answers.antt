use Rattle.std.proofs.Common.{◌≡◌, ◌++◌, ℕ, List, length, flat_map, ap, ◌∙◌, subst}
use Rattle.std.specs.Prelude.{OnOk}
use Rattle.boc_table.specs.Storage.{lines_of, stored_widths}
use Rattle.boc_table.specs.Tables.{line_text, table_text}
use Rattle.boc_table.proofs.Stored.{table_put, widths_counted}
use Rattle.boc_table.proofs.table.put_table.Goals as goal

pub put_lines-requires-clause-widths : goal.put_lines-requires-clause-widths
put_lines-requires-clause-widths c =
    ap length (c.deref-2.ensures.value ∙ c.in_ok-widths.ensures) ∙ widths_counted (length c.table.inside.sides.now) c.table.inside.count c.deref.result.now

pub returns : goal.returns
returns c =
    let t = c.table.inside in
    let sides = t.sides.now in
    let lines = lines_of t.count (length sides) in
    let widths : c.deref-2.result.now ≡ stored_widths (length sides) t.count t.lens.items =
    c.deref-2.ensures.value ∙ c.in_ok-widths.ensures ∙ ap (stored_widths (length sides) t.count) c.deref.ensures.value in
    subst (λ (put : List ℕ). OnOk c.put_lines.result (c.put_lines.new.text.items ≡ c.args.text.now.items ++ put))
    (ap (λ ls. flat_map (line_text sides c.deref-2.result.now) (lines ls c.deref-4.result.now)) c.deref-3.ensures.value
    ∙ ap (λ bs. flat_map (line_text sides c.deref-2.result.now) (lines t.lens.items bs)) c.deref-4.ensures.value
    ∙ table_put sides t.count t.lens.items t.bytes.items c.deref-2.result.now c.table.invariant widths
    ∙ ap (λ g. table_text g.sides g.lines) c.table.view_is)
    c.put_lines.ensures

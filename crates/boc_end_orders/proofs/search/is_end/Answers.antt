use Rattle.std.proofs.Common.{◌≡◌, true, false, List, [], length, sym, ◌∙◌, ap, arith}
use Rattle.boc_front_rows.specs.declared.row.Front.{Front}
use Rattle.boc_front_rows.specs.declared.row.LiveRow.{LiveRow}
use Rattle.boc_all_ends.proofs.EndsOfLayers.{no_items}
use Rattle.boc_all_ends.proofs.Noting.{none_if, some_if}
use Rattle.boc_end_orders.proofs.search.is_end.Goals as goal

pub returns-then-not-is_empty : goal.returns-then-not-is_empty
returns-then-not-is_empty c =
    let f : Front = c.args.front.now in (
      λ e. absurd (let g : false ≡ true = e in cc),
      λ h. absurd (some_if f.live.len c.is_empty.result c.is_empty.ensures c.if-not-is_empty.true
          (omega (arith, ap (length {A = LiveRow}) h.0, f.live.ok.0))),
    )

pub returns : goal.returns
returns c =
    let f : Front = c.args.front.now in
    let none = none_if f.live.len c.is_empty.result c.is_empty.ensures c.if-not-is_empty.false in
    (λ e. (no_items f.live.items (omega (arith, none, f.live.ok.0)), c.has_values.ensures.0 e), λ h. c.has_values.ensures.1 h.1)

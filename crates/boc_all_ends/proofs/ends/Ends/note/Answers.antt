use Rattle.std.proofs.Common.{sym, ◌∙◌, ap}
use Rattle.std.specs.BTreeMap.{insert_entry}
use Rattle.std.specs.Option.{option_copied}
use Rattle.boc_all_ends.specs.declared.ends.Ends.{Ends}
use Rattle.boc_all_ends.specs.declared.ends.Extent.{Extent}
use Rattle.boc_all_ends.proofs.Noting.{by_values, notes_more, wide_none, wide_some}
use Rattle.boc_all_ends.proofs.ends.Ends.note.Goals.{in-Some, in-None}
use Rattle.boc_all_ends.proofs.ends.Ends.note.Goals as goal

pub returns : goal.returns
returns c =
    let values = c.args.values.now in
    let old : Ends = c.args.self.now in
    let new : Ends = record { found = c.insert.new.self } in
    let key = c.in_ok-key.key in
    let x : Extent = record { least = c.match-get.least; most = c.args.rows } in
    elim c.match-get.branch [
      | in-Some w ↦ notes_more old new key values c.args.rows x c.in_ok-key.ensures.items
          (c.in_ok-insert.ensures.entries ∙ ap (λ (s : Ends). insert_entry by_values s.found.entries key x) w.self-is)
          (wide_some old values c.args.rows c.match-get.least w.in-Some.extent.now (sym c.get.ensures.value ∙ ap (λ o. option_copied o) w.in-Some.is) w.least-is)
      | in-None w ↦ notes_more old new key values c.args.rows x c.in_ok-key.ensures.items
          (c.in_ok-insert.ensures.entries ∙ ap (λ (s : Ends). insert_entry by_values s.found.entries key x) w.self-is)
          (wide_none old values c.args.rows c.match-get.least (sym c.get.ensures.value ∙ ap (λ o. option_copied o) w.in-None.is) w.least-is)
    ]

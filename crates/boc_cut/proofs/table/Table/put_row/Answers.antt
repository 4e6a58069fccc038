use Rattle.std.proofs.Common.{◌++◌, ◌∷◌, ◌∙◌, List, [], ap, false, refl, rules}
use Rattle.boc_program.specs.declared.body.EndStatus.TheVariants.{Done}
use Rattle.boc_cut.specs.declared.table.Life.TheVariants.{Pending}
use Rattle.boc_cut.specs.declared.table.Row.{Row}
use Rattle.boc_cut.proofs.Spawning.{row_put, on_ok}
use Rattle.boc_cut.proofs.table.Table.put_row.Goals as goal

pub returns : goal.returns
returns c =
    let row : Row = record {
      number = c.args.number;
      parent = c.args.parent;
      offset = c.args.offset;
      last = 0;
      progress = 0;
      ticks = 0;
      from = c.len-from.result;
      to = c.len.result;
      life = Pending;
      ran = false;
      status = Done;
    } in
    on_ok c.put_last.result
    (row_put c.args.number c.args.cowns.now c.args.self.now.rows.items c.push.new.self.items c.args.self.now.uses.items c.put_uses.new.self.uses.items row
    c.in_ok-put_uses.ensures.uses refl (search rules) (search rules)
    (c.in_ok-push.ensures.items ∙ ap (λ (xs : List Row). xs ++ row ∷ []) c.in_ok-put_uses.ensures.rows))

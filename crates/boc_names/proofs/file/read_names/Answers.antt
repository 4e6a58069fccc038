use Rattle.std.proofs.lemmas.Result.{err_from_is_err_and}
use Rattle.boc_names.proofs.Reading.{named_by, not_named_by, each_row, each_cown, rows_fit, cowns_fit}
use Rattle.boc_names.proofs.file.read_names.Goals as goal

pub returns-in_err-take_lines : goal.returns-in_err-take_lines
returns-in_err-take_lines c =
    let p = err_from_is_err_and c.from_residual-in_err-take_lines.result c.from_residual-in_err-take_lines.ensures.1 in
    record {
      named = rw (p.1, p.2) (not_named_by c.args.text.now c.args.base c.in_ok-things.things _ c.in_ok-things.ensures c.in_err-take_lines.ensures);
      each_row = rw p.1 tt;
      each_cown = rw p.1 tt;
    }

pub names_of-requires-clause-rows : goal.names_of-requires-clause-rows
names_of-requires-clause-rows c = rows_fit c.args.text.now c.args.base c.in_ok-things.things c.take_lines.new.things c.in_ok-things.ensures
    c.in_ok-take_lines.ensures c.requires.few_rows

pub names_of-requires-clause-cowns : goal.names_of-requires-clause-cowns
names_of-requires-clause-cowns c = cowns_fit c.args.text.now c.args.base c.in_ok-things.things c.take_lines.new.things c.in_ok-things.ensures
    c.in_ok-take_lines.ensures c.requires.few_cowns

pub returns : goal.returns
returns c = record {
  named = named_by c.args.text.now c.args.base c.in_ok-names_of.field-0 c.in_ok-things.things c.take_lines.new.things c.in_ok-things.ensures
      c.in_ok-take_lines.ensures c.in_ok-names_of.ensures;
  each_row = each_row c.args.text.now c.args.base c.in_ok-names_of.field-0 c.in_ok-things.things c.take_lines.new.things c.in_ok-things.ensures
      c.in_ok-take_lines.ensures c.in_ok-names_of.ensures;
  each_cown = each_cown c.args.text.now c.args.base c.in_ok-names_of.field-0 c.in_ok-things.things c.take_lines.new.things c.in_ok-things.ensures
      c.in_ok-take_lines.ensures c.in_ok-names_of.ensures;
}

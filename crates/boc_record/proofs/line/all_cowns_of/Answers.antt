use Rattle.std.proofs.Common.{◌∙◌, sym, ap, [], Option}
use Rattle.std.specs.Option.{option_map_or}
use Rattle.std.proofs.lemmas.Option.{slice_get_past}
use Rattle.boc_runs.specs.Legal.{Entry}
use Rattle.boc_record.proofs.line.all_cowns_of.Goals as goal

pub returns-in-None-clause-all : goal.returns-in-None-clause-all
returns-in-None-clause-all c =
    c.new.ensures ∙ sym (ap (λ (o : Option Entry). option_map_or (λ (e : Entry). e.cowns) o [])
    (slice_get_past c.args.judge.now.rows c.args.row c.in-None.ensures))

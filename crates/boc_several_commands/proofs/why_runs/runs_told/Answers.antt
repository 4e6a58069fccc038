use Rattle.std.proofs.Common.{[]}
use Rattle.boc_several_commands.proofs.FewFamilies.{few_cowns, few_families}
use Rattle.boc_several_commands.proofs.ManyDrawn.{in_text}
use Rattle.boc_several_commands.proofs.why_runs.runs_told.Goals as goal

pub runs_named-requires-clause-few : goal.runs_named-requires-clause-few
runs_named-requires-clause-few g c κs within = few_cowns c.in_ok-program.program _ [] c.in_ok-names.names c.in_ok-names.ensures

pub runs_named-requires-clause-few_families : goal.runs_named-requires-clause-few_families
runs_named-requires-clause-few_families g c κs within = few_families c.in_ok-program.program _ [] c.in_ok-names.names c.in_ok-names.ensures

pub returns : goal.returns
returns g c =
    in_text c.args.asked c.args.text.now c.in_ok-program.program c.in_ok-names.names c.runs_named.result
    (record {
      spells = c.in_ok-program.ensures.0;
      defs = c.in_ok-program.defs.items;
      lists = c.in_ok-program.ensures.1;
      names_are = c.in_ok-names.ensures;
    }) c.runs_named.ensures

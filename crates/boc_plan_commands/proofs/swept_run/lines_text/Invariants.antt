use Rattle.std.proofs.Common.{◌≡◌, take}
use Rattle.std.specs.Option.{option_copied, option_map}
use Rattle.boc_names.specs.Names.{texts_of}
use Rattle.boc_plan_commands.specs.SweepAnswers.{lines_text}
use Rattle.boc_plan_commands.proofs.swept_run.lines_text.Given as goal

-- the lines of the ends so far
abbrev pub invariant-loop-index : goal.invariant-loop-index
invariant-loop-index l = l.text.items ≡ lines_text l.first (option_map texts_of (option_copied l.called)) (take l.index l.ends)

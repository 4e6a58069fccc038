use Rattle.std.proofs.Common.{◌≡◌, take}
use Rattle.std.specs.Option.{option_copied, option_map}
use Rattle.boc_names.specs.Names.{texts_of}
use Rattle.boc_plan_commands.specs.SweepAnswers.{best_text}
use Rattle.boc_plan_commands.proofs.swept_run.best_text.Given as goal

-- the lines of the ends so far
abbrev pub invariant-loop-own : goal.invariant-loop-own
invariant-loop-own l = l.text.items ≡ best_text l.was l.first (option_map texts_of (option_copied l.called)) (take l.own-index l.best)

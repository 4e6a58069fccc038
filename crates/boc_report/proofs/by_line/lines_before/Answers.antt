use Rattle.std.proofs.Common.{◌∙◌, arith}
use Rattle.std.proofs.lemmas.List.{drop_all}
use Rattle.boc_report.specs.declared.by_line.TheConstants.{LINES_ROOM}
use Rattle.boc_report.proofs.ByLines.{lines_none}
use Rattle.boc_report.proofs.by_line.lines_before.Goals as goal

pub loop-place-init : goal.loop-place-init
loop-place-init g c = record {
  within = (c.requires.few.0, omega arith);
  long = c.requires.room;
  written = drop_all LINES_ROOM c.args.room.now (omega (arith, c.requires.room)) ∙ lines_none (g.L.Lines.line c.args.lines.now) c.args.after _ (omega arith);
  near = (omega arith, omega arith);
}

use Rattle.std.proofs.Common.{◌∙◌, arith, rules}
use Rattle.boc_report.specs.declared.by_line.TheConstants.{LINES_ROOM}
use Rattle.boc_report.proofs.ByLines.{block_put, blocks_put, blocks_stopped}
use Rattle.boc_report.proofs.by_line.put_lines.Goals as goal

pub returns-in_err-put-clause-goes_on : goal.returns-in_err-put-clause-goes_on
returns-in_err-put-clause-goes_on g c =
    blocks_stopped (g.L.Lines.line c.args.lines.now) (g.L.Lines.count c.args.lines.now) c.loop-first.first c.from_residual.result _ c.args.out.now
    c.loop-first.out _ (g.W.Sink.written c.args.sink.now) (g.W.Sink.written c.loop-first.sink) (g.W.Sink.written c.put.new.sink)
    (omega (arith, c.loop-first.invariant.within, c.len-count.ensures)) c.loop-first.invariant.came c.in_err-put.ensures.goes_on c.from_residual.ensures.1

pub loop-first-preserved : goal.loop-first-preserved
loop-first-preserved g c = record {
  within = omega arith;
  long = search rules;
  came = block_put (g.L.Lines.line c.args.lines.now) c.loop-first.first c.min-after.result c.lines_before-begin.new.room LINES_ROOM
      c.lines_before-begin.result c.args.out.now c.loop-first.out c.put.new.self
      _ _ _ (omega arith) c.loop-first.invariant.came (omega arith) c.lines_before-begin.ensures.written c.in_ok-put.ensures.goes_on;
  size = omega (arith, c.in_ok-put.ensures.size, c.lines_before-begin.ensures.near.1);
  failures = c.in_ok-put.ensures.failures ∙ c.loop-first.invariant.failures;
}

pub returns-clause-goes_on : goal.returns-clause-goes_on
returns-clause-goes_on g c = blocks_put (g.L.Lines.line c.args.lines.now) (g.L.Lines.count c.args.lines.now) c.loop-first.first _ _ _ _
    (omega (arith, c.len-count.ensures)) (omega (arith, c.loop-first.invariant.within, c.len-count.ensures)) c.loop-first.invariant.came

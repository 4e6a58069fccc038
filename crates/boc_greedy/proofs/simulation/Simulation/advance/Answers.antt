use Rattle.std.proofs.Common.{◌+◌, ◌<◌, arith}
use Rattle.boc_program.specs.declared.limits.TheConstants.{MOST_TICKS}
use Rattle.boc_greedy.specs.Simulating.{later}
use Rattle.boc_greedy.proofs.Queued.{on_top}
use Rattle.boc_greedy.proofs.Standing.{change_soon}
use Rattle.boc_greedy.proofs.Advancing.{forward, kept_next, fresh_next, next_moment, no_moment}
use Rattle.boc_greedy.proofs.Counting.{counts_next}
use Rattle.boc_greedy.proofs.simulation.Simulation.advance.Goals as goal

pub change-requires-clause-stepping : goal.change-requires-clause-stepping
change-requires-clause-stepping c =
    let g = c.requires.settled.giving in
    let k = g.kept in
    let full = c.requires.settled.full in
    let top = on_top _ _ _ c.requires.top in
    let early : c.args.tick + MOST_TICKS < later = omega
    (arith, change_soon _ c.requires.shape _ _ _ _ _ _ _ _ _ k c.args.tick c.args.row top, g.low, c.requires.shape.not_many) in
    let up = forward _ c.requires.shape _ _ _ _ _ _ _ _ _ k g.given g.passed full c.args.row c.args.tick top c.requires.least early in
    record {
      frontier = g.frontier;
      kept = kept_next _ c.requires.shape _ _ _ _ _ _ _ _ _ k g.given g.passed full c.args.row c.args.tick top c.requires.least early;
      fresh = fresh_next _ c.requires.shape _ _ _ _ _ _ _ _ _ k g.given g.passed full c.args.row c.args.tick top c.requires.least early;
      are_timed = g.are_timed;
      are_next = g.are_next;
      queue = g.queue;
      counted = record {
        all = counts_next _ _ _ c.args.tick _ up (next_moment _ c.requires.shape _ _ _ _ _ _ _ _ _ k g.given g.passed full c.args.row c.args.tick top
            c.requires.least early)
            (no_moment _ c.requires.shape _ _ _ _ _ _ _ _ _ k g.given g.passed full c.args.row c.args.tick top c.requires.least early) g.counted.all;
        low = omega (arith, up, g.counted.low);
      };
    }

pub returns-clause-low : goal.returns-clause-low
returns-clause-low c =
    let g = c.requires.settled.giving in
    omega (arith, change_soon _ c.requires.shape _ _ _ _ _ _ _ _ _ g.kept c.args.tick c.args.row (on_top _ _ _ c.requires.top), g.low)

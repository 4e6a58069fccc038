use Rattle.std.proofs.Common.{◌≡◌, ◌*◌, ◌≤◌, drop, length, map, sum}
use Rattle.boc_program.specs.Programs.{cown_count}
use Rattle.boc_eval.specs.Instances.{behaviour_in}
use Rattle.boc_lines.specs.Books.{tally}
use Rattle.boc_lines.specs.Replays.{all_charges, charges_along, charges_through}
use Rattle.boc_lines.proofs.replay.run_rows.Given as goal

-- what was counted so far, and then the rows that are left, make what all rows make
abbrev pub invariant-loop-row : goal.invariant-loop-row
invariant-loop-row l = record {
  values : length l.values ≡ cown_count l.program.cowns;
  counts : sum l.walk.counts.items ≤ 1000000 * l.row;
  chain : sum l.walk.chain.items ≤ 1000000 * l.row;
  ticks : tally l.walk.counts.items (all_charges (charges_along l.program l.values (drop l.row (map behaviour_in l.rows))))
      ≡ tally l.fn.walk.counts.items (all_charges (charges_along l.program l.fn.values (map behaviour_in l.rows)));
  chained : tally l.walk.chain.items (charges_through (drop l.row l.through) (charges_along l.program l.values (drop l.row (map behaviour_in l.rows))))
      ≡ tally l.fn.walk.chain.items (charges_through l.through (charges_along l.program l.fn.values (map behaviour_in l.rows)));
}

use Rattle.std.proofs.Common.{◌∙◌, ◌+◌, ap, sym, drop, get_or, length, map, arith}
use Rattle.std.proofs.lemmas.List.{length-map}
use Rattle.boc_runs.proofs.Behaviours.{length-after_outputs}
use Rattle.boc_runs.specs.Serial.{inputs_of}
use Rattle.boc_eval.specs.Instances.{behaviour_in}
use Rattle.boc_lines.specs.Books.{Book, tally}
use Rattle.boc_lines.specs.Replays.{all_charges, charges_along, charges_of, charges_through, meaning_of}
use Rattle.boc_lines.specs.Walks.{book_of}
use Rattle.boc_lines.proofs.Places.{none_left, numbers_on, rows_on}
use Rattle.boc_lines.proofs.Replaying.{row_at, row_counted, row_through}
use Rattle.boc_lines.proofs.Tallies.{noted_chain, noted_ticks}
use Rattle.boc_lines.proofs.replay.run_rows.Goals as goal

pub run_row-requires-clause-fits : goal.run_row-requires-clause-fits
run_row-requires-clause-fits c =
    c.requires.fit c.loop-row.row (behaviour_in c.index-rows-row.result)
    (row_at c.args.rows.now c.loop-row.row c.index-rows-row.result c.loop-row-test.true c.index-rows-row.is)

pub loop-row-preserved : goal.loop-row-preserved
loop-row-preserved c =
    let p = c.args.program.now in
    let bs = map behaviour_in c.args.rows.now in
    let row = c.loop-row.row in
    let b = behaviour_in c.index-rows-row.result in
    let before = c.loop-row.values in
    let charges = charges_of p b (inputs_of b.cowns before) in
    let book : Book = record (book_of c.loop-row.walk) { left = get_or c.args.through.now row 0 } in
    let on = rows_on c.args.rows.now row c.index-rows-row.result c.loop-row-test.true c.index-rows-row.is in
    let own = c.in_ok-run_row.ensures in
    record {
      values = ap length own.values ∙ length-after_outputs before b.cowns (meaning_of p b before).outputs ∙ c.loop-row.invariant.values;
      counts = omega (arith, own.counts, c.loop-row.invariant.counts);
      chain = omega (arith, own.chain, c.loop-row.invariant.chain);
      ticks = row_counted p c.loop-row.walk.counts.items c.run_row.new.walk.counts.items before c.run_row.new.values (drop row bs) (drop (row + 1) bs) b
          (ap (λ k. k.ticks) own.book ∙ noted_ticks book charges) own.values on ∙ c.loop-row.invariant.ticks;
      chained = row_through p c.loop-row.walk.chain.items c.run_row.new.walk.chain.items before c.run_row.new.values (drop row bs) (drop (row + 1) bs) b
          (drop row c.args.through.now) (drop (row + 1) c.args.through.now) (get_or c.args.through.now row 0)
          (ap (λ k. k.chain) own.book ∙ noted_chain book charges) own.values on
          (numbers_on c.args.through.now row (omega (arith, c.loop-row-test.true, c.requires.both)))
          ∙ c.loop-row.invariant.chained;
    }

pub returns-clause-counts : goal.returns-clause-counts
returns-clause-counts c =
    ap (λ bs. tally c.loop-row.walk.counts.items (all_charges (charges_along c.args.program.now c.loop-row.values bs)))
    (sym (none_left (map behaviour_in c.args.rows.now) c.loop-row.row (omega (arith, c.loop-row-test.false, length-map c.args.rows.now behaviour_in)))) ∙ c.loop-row.invariant.ticks

pub returns-clause-chain : goal.returns-clause-chain
returns-clause-chain c =
    let all = charges_along c.args.program.now c.loop-row.values (drop c.loop-row.row (map behaviour_in c.args.rows.now)) in
    ap (λ ns. tally c.loop-row.walk.chain.items (charges_through ns all))
    (sym (none_left c.args.through.now c.loop-row.row (omega (arith, c.loop-row-test.false, c.requires.both)))) ∙ c.loop-row.invariant.chained

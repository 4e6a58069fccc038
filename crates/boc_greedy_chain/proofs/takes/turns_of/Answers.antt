use Rattle.std.proofs.Common.{ap, length, refl, arith}
use Rattle.std.specs.Prelude.{slice_index}
use Rattle.std.proofs.lemmas.List.{length_push}
use Rattle.boc_greedy_chain.specs.declared.takes.Turn.{Turn}
use Rattle.boc_greedy_chain.proofs.ByStart.{turns_more, turns_all}
use Rattle.boc_greedy_chain.proofs.takes.turns_of.Goals as goal

pub loop-row-preserved : goal.loop-row-preserved
loop-row-preserved c =
    let i = c.loop-row.invariant in
    let r = c.loop-row.row in
    let own : Turn = record {
      start = slice_index c.args.starts.now r;
      row = r;
      worker = slice_index c.args.workers.now r;
    } in
    record {
      room = omega (arith, i.room, c.push_reserved.ensures.capacity);
      whole = omega (arith, ap length c.push_reserved.ensures.items, length_push c.loop-row.turns.items own, i.whole);
      at = rw c.push_reserved.ensures.items (turns_more c.args.starts.now c.args.workers.now c.loop-row.turns.items own r i.whole i.at
          (record { row = refl; start = refl; worker = refl }));
    }

pub returns : goal.returns
returns c = turns_all c.args.starts.now c.args.workers.now c.loop-row.turns.items
    (omega (arith, c.loop-row.invariant.whole, c.loop-row-test.false, c.loop-row.auto.row-end)) c.loop-row.invariant.at

use Rattle.std.proofs.Common.{ℕ, List, ◌++◌, ◌∙◌, ap, arith, rules}
use Rattle.std.proofs.lemmas.List.{drop_all}
use Rattle.boc_record.specs.RecordTexts.{Second, line, event_line}
use Rattle.boc_record.specs.declared.text.TheConstants.{ROOM}
use Rattle.boc_record.proofs.Sending.{line_in_front, no_lines}
use Rattle.boc_record.proofs.text.lines_before.Goals as goal

pub loop-place-init : goal.loop-place-init
loop-place-init c = record {
  ordered = omega (arith, c.requires.ordered);
  within = omega arith;
  long = c.requires.room;
  written = drop_all ROOM c.args.room.now (omega (arith, c.requires.room))
      ∙ no_lines Second c.args.events.now c.args.behind;
  near = (omega arith, omega arith);
}

pub loop-place-preserved : goal.loop-place-preserved
loop-place-preserved c = let i = c.loop-place.invariant in record {
  ordered = omega arith;
  within = omega (arith, i.within);
  long = search rules;
  written = c.line_before-begin.ensures.written ∙ ap (λ (xs : List ℕ). line (event_line Second c.get.result) ++ xs) i.written
      ∙ line_in_front Second c.args.events.now _ c.loop-place.place _ _ c.get.result c.get.ensures (omega arith) (omega (arith, i.within));
  near = (omega (arith, i.near.0, c.line_before-begin.ensures.near.0), omega (arith, i.near.1, i.within, c.line_before-begin.ensures.near.1));
}

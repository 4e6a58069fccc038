use Rattle.std.proofs.Common.{take}
use Rattle.boc_names.specs.Names.{texts_of}
use Rattle.boc_names.specs.Grouping.{IsGrouping}
use Rattle.boc_names.specs.Laying.{KnowsNames}
use Rattle.boc_names.proofs.grouping.grouped.Given as goal

abbrev pub invariant-loop-text : goal.invariant-loop-text
invariant-loop-text l = record {
  grouping : IsGrouping (texts_of (take l.text-index l.texts)) l.numbers.items (texts_of l.names.items);
  knows : KnowsNames l.seen (texts_of l.names.items);
}

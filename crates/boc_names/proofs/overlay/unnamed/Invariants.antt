use Rattle.std.proofs.Common.{◌≡◌, length, take}
use Rattle.boc_names.specs.Names.{texts_of}
use Rattle.boc_names.specs.NamesFile.{names_at}
use Rattle.boc_names.specs.Laying.{texts_in, groups_in, NoneIsNamed}
use Rattle.boc_names.proofs.overlay.unnamed.Given as goal

abbrev pub invariant-loop-text : goal.invariant-loop-text
invariant-loop-text l = record {
  place_is : l.place ≡ length l.yielded;
  texts_are : texts_in l.things.items ≡ texts_of l.yielded;
  groups_are : groups_in l.things.items ≡ names_at (texts_of l.names) (take l.place l.numbers);
  none : NoneIsNamed l.things.items;
}

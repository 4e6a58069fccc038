use Rattle.std.proofs.Common.{◌≡◌}
use Rattle.boc_names.specs.Names.{texts_of}
use Rattle.boc_names.specs.Laying.{texts_in, groups_in}
use Rattle.boc_names.proofs.overlay.parted.Given as goal

abbrev pub invariant-loop-thing : goal.invariant-loop-thing
invariant-loop-thing l = record { texts : texts_of l.texts.items ≡ texts_in l.yielded; groups : texts_of l.groups.items ≡ groups_in l.yielded }

use Rattle.std.proofs.Common.{◌≡◌, ◌++◌}
use Rattle.boc_names.specs.Names.{member_names, texts_of}
use Rattle.boc_names.proofs.texts.put_members.Given as goal

abbrev pub invariant-loop-member : goal.invariant-loop-member
invariant-loop-member l = texts_of l.names.items ≡ texts_of l.initial.names.items ++ member_names l.name 0 l.member

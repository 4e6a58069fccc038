use Rattle.std.proofs.Common.{◌≡◌, ◌<◌, length, arith}
use Rattle.std.proofs.lemmas.Bool.Decides.{nat_tests}
use Rattle.boc_several_commands.proofs.Compared.{none_told, some_told}
use Rattle.boc_several_commands.proofs.compare.put_notes.Goals as goal

pub returns-then-is_empty : goal.returns-then-is_empty
returns-then-is_empty c =
    let none : length c.args.own.now ≡ 0 = grind (arith, nat_tests) in
    none_told c.args.head.now c.args.own.now c.args.notes.now.items none

pub returns : goal.returns
returns c =
    let some : 0 < length c.args.own.now = grind (arith, nat_tests) in
    some_told c.args.head.now c.args.own.now c.args.notes.now.items c.extend_from_slice.new.self.items c.extend_from_slice-2.new.self.items
    c.extend_from_slice-2.result some c.in_ok-extend_from_slice.ensures.items c.extend_from_slice-2.ensures.items

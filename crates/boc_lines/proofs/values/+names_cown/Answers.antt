use Rattle.std.proofs.Common.{◌≡◌, false, arith}
use Rattle.std.specs.Prelude.{nat_eq}
use Rattle.std.proofs.lemmas.Bool.Decides.{nat_tests}
use Rattle.boc_lines.proofs.Having.{named_later}
use Rattle.boc_lines.proofs.values.+names_cown.Goals as goal

pub returns-else-other-cown : goal.returns-else-other-cown
returns-else-other-cown t c ticks cowns is =
    let no : nat_eq c.in-Ok.other c.args.cown ≡ false = grind (arith, nat_tests) in
    named_later c.args.references.now c.first-item.result (record { held = c.args.held.now; slots = c.args.slots.now; ticks = ticks }) c.in-Ok.other c.args.cown
    cowns c.names_cown.result c.in-len1-up.len_at_least c.first-item.is (c.in-Ok.ensures ticks) no (c.names_cown.ensures ticks) is

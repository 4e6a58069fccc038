use Rattle.std.proofs.Common.{[]}
use Rattle.boc_reader.proofs.TokenPlaces.{stands_at}
use Rattle.boc_reader.proofs.stray.place_of.Goals as goal

pub returns-in-Some : goal.returns-in-Some
returns-in-Some c =
    let found = c.in-Some.ensures.lookup in
    stands_at c.args.text.now [] c.args.tokens.now c.args.before c.in-Some.token.now c.requires.placed c.requires.reached found.3.0 found.1

use Rattle.std.proofs.Common.{drop, length, length-drop, arith}
use Rattle.std.proofs.Math.ListN.{drop_of_length-le}
use Rattle.boc_input.proofs.Taking.{front_read, rest_read}
use Rattle.boc_input.proofs.ahead.AheadSource.read.Goals as goal

pub returns-then-self-len-clause-bytes : goal.returns-then-self-len-clause-bytes
returns-then-self-len-clause-bytes g c =
    let bytes = c.args.self.now.front.bytes.items in
    let taken = c.args.self.now.front.taken in
    front_read c.read.result (drop taken bytes) (drop c.read.new.self.taken c.read.new.self.bytes.items) c.read.new.buffer
    (g.S.Source.remaining c.args.self.now.rest) (omega (arith, length-drop taken bytes, c.if-self-len.true, c.len.ensures)) c.read.ensures.bytes

pub returns-clause-bytes : goal.returns-clause-bytes
returns-clause-bytes g c =
    let bytes = c.args.self.now.front.bytes.items in
    let taken = c.args.self.now.front.taken in
    rest_read c.read-2.result (drop taken bytes) c.read-2.new.buffer (g.S.Source.remaining c.args.self.now.rest)
    (g.S.Source.remaining c.read-2.new.self) (drop_of_length-le bytes (omega (arith, c.if-self-len.false, c.len.ensures))) c.read-2.ensures.bytes

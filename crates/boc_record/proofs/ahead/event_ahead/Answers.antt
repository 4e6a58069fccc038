use Rattle.std.proofs.Common.{drop, get_or, arith, subst}
use Rattle.boc_record.specs.Versions.{spelling}
use Rattle.boc_record.specs.Ahead.{TellsAhead}
use Rattle.boc_record.proofs.Runs.{whole_tail}
use Rattle.boc_record.proofs.InFront.{line_ahead}
use Rattle.boc_record.proofs.ahead.event_ahead.Goals as goal

pub returns : goal.returns
returns c =
    let bytes = c.args.bytes.now in
    let v = spelling c.args.version in
    let event = c.in_ok-event.event in
    let rest = c.in_ok-event.rest.now in
    let told : TellsAhead v (get_or bytes 0 0) (drop 1 bytes) event rest =
    subst (λ r. TellsAhead v (get_or bytes 0 0) r event rest) (whole_tail bytes 1) c.in_ok-event.ensures in
    line_ahead v bytes rest event (omega (arith, c.if-bytes-lt-AHEAD.false)) told c.if-rest-ne10.false (omega (arith, c.if-len-gt-MOST_LINE.false))

use Rattle.boc_record.proofs.Known.{long_header, gives_part, on_false}
use Rattle.boc_record.proofs.read.read_header.Goals as goal

pub returns-in-TooLong-clause-header : goal.returns-in-TooLong-clause-header
returns-in-TooLong-clause-header g c =
    let answer = on_false c.args.lines.now.is_over c.requires.open c.in-TooLong.ensures.found in
    long_header _ answer.0

pub returns-in-Device-clause-within : goal.returns-in-Device-clause-within
returns-in-Device-clause-within g c =
    let is_open = c.requires.open in
    gives_part _ _ _ (on_false c.args.lines.now.is_over is_open c.in-Device.ensures.found) (on_false c.args.lines.now.is_over is_open c.in-Device.ensures.open)

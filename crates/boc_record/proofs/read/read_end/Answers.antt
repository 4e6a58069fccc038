use Rattle.boc_record.proofs.Known.{gives_part, on_false}
use Rattle.boc_record.proofs.read.read_end.Goals as goal

pub returns-in-Device-clause-end : goal.returns-in-Device-clause-end
returns-in-Device-clause-end g c =
    let is_open = c.requires.open in
    gives_part _ _ _ (on_false c.args.lines.now.is_over is_open c.in-Device.ensures.found) (on_false c.args.lines.now.is_over is_open c.in-Device.ensures.open)

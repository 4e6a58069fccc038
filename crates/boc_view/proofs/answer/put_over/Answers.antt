use Rattle.std.proofs.Common.{arith}
use Rattle.boc_view.proofs.Over.{put_note}
use Rattle.boc_view.proofs.answer.put_over.Goals as goal

pub returns : goal.returns
returns c =
    put_note c.args.text.now.items c.extend_from_slice.new.self.items c.put_number.new.text.items c.extend_from_slice-2.new.self.items c.args.more
    c.args.rows (omega (arith, c.if-more-eq0.false)) c.in_ok-extend_from_slice.ensures.items c.in_ok-put_number.ensures.ok
    c.in_ok-extend_from_slice-2.ensures.items

use Rattle.std.proofs.Common.{arith}
use Rattle.boc_said.proofs.Joined.{headed-one, headed-two}
use Rattle.boc_said.proofs.said.headed.Goals as goal
use Rattle.boc_said.proofs.said.headed.Goals.{then-size-gt-MOST_LINE, else-size-gt-MOST_LINE}

pub returns : goal.returns
returns c =
    let size = c.saturating_add-size.ensures in
    rw (c.in_ok-push_str-4.ensures.bytes, c.in_ok-push_str-3.ensures.bytes, c.in_ok-push_str-2.ensures.bytes)
    (rw (c.in_ok-push_str.ensures.bytes, c.in_ok-text.ensures.ok)
    (elim c.if-size-gt-MOST_LINE.branch [
      | then-size-gt-MOST_LINE w ↦ rw w.push_str-is (headed-two _ _ _ c.requires.place c.requires.message)
      | else-size-gt-MOST_LINE w ↦ rw w.push_str-is (headed-one _ _ _ c.requires.place c.requires.message (omega (arith, size, w.if-size-gt-MOST_LINE.false)))
    ]))

use Rattle.boc_said.proofs.Joined.{line-behind}
use Rattle.boc_said.proofs.said.put_line.Goals as goal

pub returns : goal.returns
returns c =
    rw (c.in_ok-push_str-3.ensures.bytes, c.in_ok-push_str-2.ensures.bytes, c.in_ok-push_str.ensures.bytes)
    (line-behind _ _ c.requires.text c.requires.line)

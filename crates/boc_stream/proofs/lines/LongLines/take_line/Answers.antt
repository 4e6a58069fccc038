use Rattle.std.proofs.Common.{◌≤◌, ◌+◌, ◌-◌, length, drop, arith, ap, ◌∙◌}
use Rattle.boc_stream.proofs.Ahead.{range-later, range-length}
use Rattle.boc_stream.proofs.lines.LongLines.take_line.Goals as goal

pub returns-clause-rest : goal.returns-clause-rest
returns-clause-rest c =
    let inside = c.self.inside in
    let v = c.self.view_is in
    let few : c.args.len + 1 ≤ inside.end - inside.start =
    omega (arith, c.requires.within, ap (λ x. length x.buffered) v, range-length inside.buffer inside.start inside.end) in
    range-later inside.buffer inside.start inside.end (c.args.len + 1) few ∙ ap (λ x. drop (c.args.len + 1) x.buffered) v

use Rattle.std.proofs.Common.{subst, arith}
use Rattle.boc_plans.specs.Seen.{seen}
use Rattle.boc_plans.specs.Greedy.{IsSpan}
use Rattle.boc_plans.proofs.Seeing.{length-seen, rows_seen}
use Rattle.boc_whatif.specs.Asked.{Asked}
use Rattle.boc_whatif.proofs.what_if.WhatIf.span.Goals as goal

pub span-requires : goal.span-requires
span-requires c = omega (arith, c.self.invariant.placed.ends_len, length-seen c.self.inside.sharing c.self.inside.rows, c.self.invariant.shape.not_empty)

pub returns : goal.returns
returns c =
    let kept = c.self.inside in
    subst (λ (a : Asked). IsSpan (seen a.sharing a.rows) c.span.result) c.self.view_is
    (c.span.ensures (seen kept.sharing kept.rows) (rows_seen kept.sharing kept.rows c.self.invariant.shape) c.self.invariant.placed)

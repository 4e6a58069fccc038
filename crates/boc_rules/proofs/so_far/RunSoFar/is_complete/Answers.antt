use Rattle.std.proofs.Common.{arith, ◌≡◌, ◌<◌, length, eqb-true, eq-eqb, ◌∙◌, sym}
use Rattle.boc_rules.proofs.Judging.{complete_is}
use Rattle.boc_rules.proofs.so_far.RunSoFar.is_complete.Goals as goal

pub returns-then-rows-gt0 : goal.returns-then-rows-gt0
returns-then-rows-gt0 c =
    let run = c.args.self.now in
    let long : c.len-rows.result ≡ length run.rows.items = c.len-rows.ensures ∙ run.rows.ok.0 in
    let some : 0 < length run.rows.items = omega (arith, long, c.if-rows-gt0.true) in
    let is = complete_is run c.requires some in (
      λ t. is.0 (eqb-true _ _ t ∙ long),
      λ o. eq-eqb _ _ (is.1 o ∙ sym long),
    )

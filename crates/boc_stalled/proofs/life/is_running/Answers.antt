use Rattle.std.proofs.Common.{◌≡◌, ◌↔◌, sym, subst}
use Rattle.std.specs.Prelude.{Bool, IsTrue, Some}
use Rattle.boc_runs.specs.Lives.{Running}
use Rattle.boc_runs.specs.Legal.{life_of}
use Rattle.boc_stalled.proofs.Judged.{end_judged}
use Rattle.boc_stalled.proofs.life.is_running.Goals as goal

pub returns : goal.returns
returns c =
    let rows = c.args.run.now.rows in
    subst (λ (b : Bool). IsTrue b ↔ (life_of rows c.args.row ≡ Some Running)) (sym c.is_ok.ensures.value)
    (end_judged c.args.run.now.cowns rows c.args.row c.new.result c.judge.result c.cowns-cowns.ensures.legal c.new.ensures c.judge.ensures)

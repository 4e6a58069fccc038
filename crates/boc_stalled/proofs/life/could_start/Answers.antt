use Rattle.std.proofs.Common.{◌↔◌, sym, subst}
use Rattle.std.specs.Prelude.{Bool, IsTrue}
use Rattle.boc_runs.specs.Lives.{MayStart}
use Rattle.boc_runs.specs.Legal.{life_of, entry_cowns}
use Rattle.boc_stalled.proofs.Judged.{start_judged}
use Rattle.boc_stalled.proofs.life.could_start.Goals as goal

pub returns : goal.returns
returns c =
    let rows = c.args.run.now.rows in
    subst (λ (b : Bool). IsTrue b ↔ MayStart (life_of rows) (entry_cowns rows) c.args.row) (sym c.is_ok.ensures.value)
    (start_judged c.args.run.now.cowns rows c.args.row c.judge.result c.judge.ensures)

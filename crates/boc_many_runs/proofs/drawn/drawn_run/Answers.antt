use Rattle.std.proofs.Common.{ℕ, subst, Ok}
use Rattle.boc_draws.specs.Draws.{IsDraw}
use Rattle.boc_many_runs.proofs.drawn.drawn_run.Goals as goal

pub returns-clause-run : goal.returns-clause-run
returns-clause-run c =
    let asked = c.args.asked.now in
    record {
      drawn = c.in_ok-drawn.drawn;
      is_draw = subst (λ (seed : ℕ). IsDraw c.args.program.now asked.workers asked.way seed (Ok c.in_ok-drawn.drawn)) c.seed_of-seed.ensures
          c.in_ok-drawn.ensures.draw;
      is_rowed = record { rows_are = c.into_rows-rows.ensures.value; shape = c.as_slice-shape.ensures.shape; defs_are = c.in_ok-defs.ensures.are };
    }

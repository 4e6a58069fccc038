use Rattle.std.proofs.Common.{◌≡◌, ◌+◌, ◌∙◌, ℕ, List, length, sym, ap, subst, arith}
use Rattle.std.specs.Prelude.{true, false}
use Rattle.boc_runs.specs.Lives.{MayStart}
use Rattle.boc_runs.specs.Legal.{life_of, entry_cowns}
use Rattle.boc_stalled.specs.Stalled.{AreThose, Begun, Taken, Left}
use Rattle.boc_stalled.proofs.stalled.rows_that_could_start.Goals.{then-could_start+in_ok-push, else-could_start}
use Rattle.boc_stalled.proofs.stalled.rows_that_could_start.Goals as goal

pub loop-row-init : goal.loop-row-init
loop-row-init c =
    let rows = c.args.run.now.rows in
    subst (AreThose (MayStart (life_of rows) (entry_cowns rows)) 0) (sym c.new-those.ensures.items) Begun

pub loop-row-preserved : goal.loop-row-preserved
loop-row-preserved c =
    let rows = c.args.run.now.rows in
    let row : ℕ = c.loop-row.row in
    let old : List ℕ = c.loop-row.those.items in
    elim c.if-could_start.branch [
      | then-could_start+in_ok-push w ↦
          subst (AreThose (MayStart (life_of rows) (entry_cowns rows)) (row + 1)) (sym {A = List ℕ} (ap (λ m. m.items) w.those-is ∙ w.in_ok-push.ensures.items))
          (Taken row old c.loop-row.invariant (c.could_start.ensures.0 w.if-could_start.true))
      | else-could_start w ↦
          subst (AreThose (MayStart (life_of rows) (entry_cowns rows)) (row + 1)) (sym {A = List ℕ} (ap (λ m. m.items) w.those-is))
          (Left row old c.loop-row.invariant (λ may. let f : false ≡ true = sym w.if-could_start.false ∙ c.could_start.ensures.1 may in cc))
    ]

pub returns : goal.returns
returns c =
    let rows = c.args.run.now.rows in
    let all : c.loop-row.row ≡ length rows = omega arith in
    subst (λ (n : ℕ). AreThose (MayStart (life_of rows) (entry_cowns rows)) n c.loop-row.those.items) all c.loop-row.invariant

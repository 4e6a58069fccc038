use Rattle.std.proofs.Common.{◌≡◌, ◌+◌, ◌∙◌, ℕ, List, length, sym, ap, subst, arith}
use Rattle.std.specs.Prelude.{Bool, true, false, replicate}
use Rattle.boc_runs.specs.Legal.{life_of, entry_cowns}
use Rattle.boc_stalled.specs.Stalled.{WaitsFor, AreThose, Begun, Taken, Left}
use Rattle.boc_stalled.proofs.Marking.{unmarked}
use Rattle.boc_stalled.proofs.Waiting.{AreMarked, waits_if, waits_only, waits_later, mark_first, mark_more, mark_same}
use Rattle.boc_stalled.proofs.stalled.rows_that_wait_for.Goals.{then-waits+in_ok-push, else-waits}
use Rattle.boc_stalled.proofs.stalled.rows_that_wait_for.Goals as goal

pub loop-row-init : goal.loop-row-init
loop-row-init c =
    let rows = c.args.run.now.rows in
    let none = replicate 256 false in
    record {
      those = subst (AreThose (WaitsFor (life_of rows) (entry_cowns rows) c.args.first) 0) (sym c.new-those.ensures.items) Begun;
      marked = mark_first (life_of rows) (entry_cowns rows) c.args.first none c.mark_cowns.new.marks (unmarked 256) c.mark_cowns.ensures.marked;
      all = c.mark_cowns.ensures.all;
    }

pub loop-row-preserved : goal.loop-row-preserved
loop-row-preserved c =
    let rows = c.args.run.now.rows in
    let first : ℕ = c.args.first in
    let row : ℕ = c.loop-row.row in
    let life = life_of rows in
    let cowns = entry_cowns rows in
    let old : List ℕ = c.loop-row.those.items in
    let marks : List Bool = c.loop-row.marks in
    let is = c.loop-row.invariant in
    elim c.if-waits.branch [
      | then-waits+in_ok-push w ↦
          let y = c.waits.ensures.0 w.if-waits.true in
          let waiting = waits_if life cowns first row marks is.marked y.0 y.1 y.2 in
          let new = w.mark_cowns-then-waits.new.marks in
          record {
            those = subst (AreThose (WaitsFor life cowns first) (row + 1)) (sym {A = List ℕ} (ap (λ m. m.items) w.those-is ∙ w.in_ok-push.ensures.items))
                (Taken row old is.those waiting);
            marked = subst (AreMarked life cowns first (row + 1)) (sym {A = List Bool} w.marks-is)
                (mark_more life cowns first row marks new is.marked waiting w.mark_cowns-then-waits.ensures.marked);
            all = ap length w.marks-is ∙ w.mark_cowns-then-waits.ensures.all;
          }
      | else-waits w ↦
          let not : WaitsFor life cowns first row → ⊥ = λ waiting.
          let o = waits_only life cowns first row marks is.marked waiting in
          let f : false ≡ true = sym w.if-waits.false ∙ c.waits.ensures.1 (waits_later life cowns first row waiting, o.0, o.1) in cc
          in
          record {
            those = subst (AreThose (WaitsFor life cowns first) (row + 1)) (sym {A = List ℕ} (ap (λ m. m.items) w.those-is)) (Left row old is.those not);
            marked = subst (AreMarked life cowns first (row + 1)) (sym {A = List Bool} w.marks-is) (mark_same life cowns first row marks is.marked not);
            all = ap length w.marks-is ∙ is.all;
          }
    ]

pub returns : goal.returns
returns c =
    let rows = c.args.run.now.rows in
    let all : c.loop-row.row ≡ length rows = omega arith in
    subst (λ (n : ℕ). AreThose (WaitsFor (life_of rows) (entry_cowns rows) c.args.first) n c.loop-row.those.items) all c.loop-row.invariant.those

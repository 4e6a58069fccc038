use Rattle.std.proofs.Common.{◌≡◌, ◌∙◌, ℕ, suc, List, length, add-one, refl, sym, subst, ap, true, false, arith}
use Rattle.std.specs.Prelude.{slice_get, Some}
use Rattle.std.proofs.lemmas.Option.{slice_get_read}
use Rattle.std.proofs.lemmas.List.{length-map}
use Rattle.boc_runs.specs.machine.Turns.{Driven}
use Rattle.boc_program.specs.declared.program.Program.{Program}
use Rattle.boc_dispatch.specs.declared.worker.Worker.{Worker}
use Rattle.boc_dispatch.specs.Working.{row_in}
use Rattle.boc_draws.specs.Draws.{stands_at}
use Rattle.boc_draws.proofs.Moving.{AreBelow, one_more, none_more, all_below, can_move, can_turn}
use Rattle.boc_draws.proofs.movers.movers_of.Goals.{then-can_move, else-can_move}
use Rattle.boc_draws.proofs.movers.movers_of.Goals as goal

pub loop-number-preserved : goal.loop-number-preserved
loop-number-preserved c =
    let crew : List Worker = c.args.crew.now in
    let number : ℕ = c.loop-number.number in
    let w : Worker = c.index-crew-number.result in
    let p : Program = c.args.core.now.program in
    let d : Driven = stands_at c.args.core.now crew in
    let is : slice_get crew number ≡ Some w = slice_get_read crew (length crew) number w refl c.loop-number-test.true c.index-crew-number.is in
    elim c.if-can_move.branch [
      | then-can_move t ↦
          subst (λ (n : ℕ). AreBelow p d n c.if-can_move.movers.items) (sym (add-one number))
          (subst (AreBelow p d (suc number)) (sym (ap (λ m. m.items) t.movers-is ∙ t.push.ensures.items))
          (one_more p d number c.loop-number.movers.items c.loop-number.invariant
          (can_move c.args.core.now crew number w is (c.can_move.ensures.0 t.if-can_move.true))))
      | else-can_move t ↦
          subst (λ (n : ℕ). AreBelow p d n c.if-can_move.movers.items) (sym (add-one number))
          (subst (AreBelow p d (suc number)) (sym (ap (λ m. m.items) t.movers-is))
          (none_more p d number c.loop-number.movers.items c.loop-number.invariant
          (λ can. absurd (let f : false ≡ true = sym t.if-can_move.false ∙ c.can_move.ensures.1 (can_turn c.args.core.now crew number w is can) in cc))))
    ]

pub returns : goal.returns
returns c =
    let d : Driven = stands_at c.args.core.now c.args.crew.now in
    let all : c.loop-number.number ≡ length d.serves =
    omega (arith, c.loop-number-test.false, c.loop-number.auto.number-end, length-map c.args.crew.now (λ (w : Worker). row_in w.hand)) in
    all_below c.args.core.now.program d c.loop-number.movers.items
    (subst (λ (n : ℕ). AreBelow c.args.core.now.program d n c.loop-number.movers.items) all c.loop-number.invariant)

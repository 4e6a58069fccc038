use Rattle.std.proofs.Common.{◌≡◌, ◌+◌, ◌-◌, ap, sym, ◌∙◌, length, map, take, drop, Bool, Some, ℤ, subst, arith, rules, w64}
use Rattle.std.specs.Prelude.{if◌then◌else◌}
use Rattle.std.specs.Int.RustNames.{FitsSigned}
use Rattle.std.proofs.lemmas.Int.{to_z-of_z}
use Rattle.boc_program.specs.Syntax.{Code, Done, When}
use Rattle.boc_program.specs.Meaning.{as_count, cowns_held, is_zero}
use Rattle.boc_program.specs.memory.View.{slot_expr_of, cown_ref_of, code_of, before}
use Rattle.boc_registers.specs.Values.{if_any}
use Rattle.boc_uses.specs.Uses.{code_uses, if_value, turns_use}
use Rattle.boc_uses.specs.Noting.{noted_all, noted_then, standing}
use Rattle.boc_uses.proofs.Noted.{split_first}
use Rattle.boc_uses.proofs.Walked.{charged, notes_both, notes_first, some_count, turned, turned_cut}
use Rattle.boc_uses.proofs.walk.+walk.Goals as goal

pub walk-returns-then-walk_one-clause-used : goal.walk-returns-then-walk_one-clause-used
walk-returns-then-walk_one-clause-used t c next =
    let held = cowns_held c.args.inputs.now in
    let stmts = c.args.stmts.now in
    let first = c.first-item.result in
    let s0 = standing held c.args.slots.now c.args.ticks.now in
    ap (λ xs. noted_all c.args.params c.args.uses.now (code_uses (code_of xs) s0 next)) (split_first stmts first c.in-len1-up.len_at_least c.first-item.is)
    ∙ notes_both c.args.params first (code_of (take (length stmts - 1) (drop 1 stmts))) c.args.uses.now c.walk_one.new.uses c.walk.new.uses s0
    (standing held c.walk_one.new.slots c.walk_one.new.ticks) (standing held c.walk.new.slots c.walk.new.ticks) c.walk_one.result c.walk.result
    c.if-walk_one.true c.walk_one.ensures.used c.walk.ensures.used next

pub walk-returns-else-walk_one-clause-used : goal.walk-returns-else-walk_one-clause-used
walk-returns-else-walk_one-clause-used t c next =
    let held = cowns_held c.args.inputs.now in
    let stmts = c.args.stmts.now in
    let first = c.first-item.result in
    let s0 = standing held c.args.slots.now c.args.ticks.now in
    let s1 = standing held c.walk_one.new.slots c.walk_one.new.ticks in
    ap (λ xs. noted_all c.args.params c.args.uses.now (code_uses (code_of xs) s0 next)) (split_first stmts first c.in-len1-up.len_at_least c.first-item.is)
    ∙ notes_first c.args.params first (code_of (take (length stmts - 1) (drop 1 stmts))) c.args.uses.now c.walk_one.new.uses s0 s1 s1 c.walk_one.result
    c.if-walk_one.false c.walk_one.ensures.used next

pub walk_one-returns-in-None-clause-used : goal.walk_one-returns-in-None-clause-used
walk_one-returns-in-None-clause-used t c next =
    let held = cowns_held c.args.inputs.now in
    let s0 = standing held c.args.slots.now c.args.ticks.now in
    ap (λ s. noted_all c.args.params c.args.uses.now (code_uses (before s Done) s0 next)) c.in-If.is
    ∙ c.in-None.ensures.used held (λ v s. (if is_zero v then code_uses c.in-If.second else code_uses c.in-If.first) s next)

pub walk_one-returns-then-is_zero-clause-used : goal.walk_one-returns-then-is_zero-clause-used
walk_one-returns-then-is_zero-clause-used t c next =
    let held = cowns_held c.args.inputs.now in
    let s0 = standing held c.args.slots.now c.args.ticks.now in
    let s1 = standing held c.args.slots.now c.begin.new.ticks in
    let v : ℤ = c.in-Some.value in
    let fits : FitsSigned w64 v = search rules in
    ap (λ s. noted_all c.args.params c.args.uses.now (code_uses (before s Done) s0 next)) c.in-If.is
    ∙ c.in-Some.ensures.used held (λ v s. (if is_zero v then code_uses c.in-If.second else code_uses c.in-If.first) s next)
    ∙ ap (λ (b : Bool). noted_all c.args.params c.begin.new.uses ((if b then code_uses c.in-If.second else code_uses c.in-If.first) s1 next))
    (ap is_zero (sym (to_z-of_z w64 v fits)) ∙ sym c.is_zero.ensures ∙ c.if-is_zero.true)
    ∙ ap (λ (b : Code). noted_all c.args.params c.begin.new.uses (code_uses b s1 next)) (sym c.as_slice.ensures)
    ∙ c.walk.ensures.used next

pub walk_one-returns-else-is_zero-clause-used : goal.walk_one-returns-else-is_zero-clause-used
walk_one-returns-else-is_zero-clause-used t c next =
    let held = cowns_held c.args.inputs.now in
    let s0 = standing held c.args.slots.now c.args.ticks.now in
    let s1 = standing held c.args.slots.now c.begin.new.ticks in
    let v : ℤ = c.in-Some.value in
    let fits : FitsSigned w64 v = search rules in
    ap (λ s. noted_all c.args.params c.args.uses.now (code_uses (before s Done) s0 next)) c.in-If.is
    ∙ c.in-Some.ensures.used held (λ v s. (if is_zero v then code_uses c.in-If.second else code_uses c.in-If.first) s next)
    ∙ ap (λ (b : Bool). noted_all c.args.params c.begin.new.uses ((if b then code_uses c.in-If.second else code_uses c.in-If.first) s1 next))
    (ap is_zero (sym (to_z-of_z w64 v fits)) ∙ sym c.is_zero.ensures ∙ c.if-is_zero.false)
    ∙ ap (λ (b : Code). noted_all c.args.params c.begin.new.uses (code_uses b s1 next)) (sym c.as_slice-else-is_zero.ensures)
    ∙ c.walk-else-is_zero.ensures.used next

pub walk_one-returns-in-None-begin-clause-used : goal.walk_one-returns-in-None-begin-clause-used
walk_one-returns-in-None-begin-clause-used t c next =
    let held = cowns_held c.args.inputs.now in
    let s0 = standing held c.args.slots.now c.args.ticks.now in
    ap (λ s. noted_all c.args.params c.args.uses.now (code_uses (before s Done) s0 next)) c.in-Repeat.is
    ∙ c.in-None-begin.ensures.used held (λ v s. if_value (as_count v) (λ n. turns_use n (code_uses c.in-Repeat.block) s next))

pub walk_one-returns-in-Some-begin-clause-used : goal.walk_one-returns-in-Some-begin-clause-used
walk_one-returns-in-Some-begin-clause-used t c next =
    let held = cowns_held c.args.inputs.now in
    let s0 = standing held c.args.slots.now c.args.ticks.now in
    let s1 = standing held c.args.slots.now c.begin-in-Repeat.new.ticks in
    let v : ℤ = c.in-Some-begin.count in
    let fits : FitsSigned w64 v = search rules in
    ap (λ s. noted_all c.args.params c.args.uses.now (code_uses (before s Done) s0 next)) c.in-Repeat.is
    ∙ c.in-Some-begin.ensures.used held (λ v s. if_value (as_count v) (λ n. turns_use n (code_uses c.in-Repeat.block) s next))
    ∙ ap (λ z. noted_all c.args.params c.begin-in-Repeat.new.uses (if_value (as_count z) (λ n. turns_use n (code_uses c.in-Repeat.block) s1 next)))
    (sym (to_z-of_z w64 v fits))
    ∙ c.walk_turns.ensures.used next

pub walk_one-returns-in-When-clause-used : goal.walk_one-returns-in-When-clause-used
walk_one-returns-in-When-clause-used t c next =
    let held = cowns_held c.args.inputs.now in
    let s0 = standing held c.args.slots.now c.args.ticks.now in
    let kind = c.in-When.field-0 in
    ap (λ s. noted_all c.args.params c.args.uses.now (code_uses (before s Done) s0 next)) c.in-When.is
    ∙ ap (λ es. noted_all c.args.params c.args.uses.now
    (code_uses (When kind (map slot_expr_of es) (map cown_ref_of c.in-When.references.items) Done) s0 next)) (sym c.deref.ensures.value)
    ∙ ap (λ rs. noted_all c.args.params c.args.uses.now
    (code_uses (When kind (map slot_expr_of c.deref.result.now) (map cown_ref_of rs) Done) s0 next)) (sym c.deref-in-When.ensures.value)
    ∙ c.wish.ensures.used kind next

pub walk_turns-loop-init : goal.walk_turns-loop-init
walk_turns-loop-init t c = record {
  few = c.requires.ticks;
  long = search rules;
  used = λ next.
      let n : c.in-Some.count ≡ c.in-Some.count - 0 = omega arith in
      ap (λ n. noted_all c.args.params c.args.uses.now
      (turns_use n (code_uses c.args.block.now) (standing (cowns_held c.args.inputs.now) c.args.slots.now c.args.ticks.now) next)) n;
}

pub walk_turns-loop-preserved : goal.walk_turns-loop-preserved
walk_turns-loop-preserved t c = record {
  few = c.walk_turn.ensures.few;
  long = c.walk_turn.ensures.long ∙ c.loop.invariant.long;
  used = λ next.
      let held = cowns_held c.args.inputs.now in
      c.loop.invariant.used next
      ∙ turned c.args.params (code_uses c.args.block.now) (c.in-Some.count - c.loop.counter) (c.in-Some.count - (c.loop.counter + 1)) c.loop.uses
      c.walk_turn.new.uses (standing held c.loop.slots c.loop.ticks) (standing held c.walk_turn.new.slots c.walk_turn.new.ticks) c.walk_turn.result
      (omega arith) c.if-not-walk_turn.false c.walk_turn.ensures.used next;
}

pub walk_turns-returns-then-not-walk_turn-clause-used : goal.walk_turns-returns-then-not-walk_turn-clause-used
walk_turns-returns-then-not-walk_turn-clause-used t c next =
    let fits : FitsSigned w64 c.args.number = search rules in
    let held = cowns_held c.args.inputs.now in
    some_count c.args.params c.args.uses.now (as_count c.args.number) c.in-Some.count
    (λ n. turns_use n (code_uses c.args.block.now) (standing held c.args.slots.now c.args.ticks.now) next)
    (subst (λ (z : ℤ). Some c.in-Some.count ≡ if_any (as_count z)) (to_z-of_z w64 c.args.number fits) c.in-Some.ensures)
    ∙ c.loop.invariant.used next
    ∙ turned_cut c.args.params (code_uses c.args.block.now) (c.in-Some.count - c.loop.counter) (c.in-Some.count - (c.loop.counter + 1)) c.loop.uses
    c.walk_turn.new.uses (standing held c.loop.slots c.loop.ticks) (standing held c.walk_turn.new.slots c.walk_turn.new.ticks) c.walk_turn.result
    (omega arith) c.if-not-walk_turn.true c.walk_turn.ensures.used next

pub walk_turns-returns-after-loop-clause-used : goal.walk_turns-returns-after-loop-clause-used
walk_turns-returns-after-loop-clause-used t c next =
    let held = cowns_held c.args.inputs.now in
    let n : c.in-Some.count - c.loop.counter ≡ 0 = omega arith in
    let fits : FitsSigned w64 c.args.number = search rules in
    some_count c.args.params c.args.uses.now (as_count c.args.number) c.in-Some.count
    (λ n. turns_use n (code_uses c.args.block.now) (standing held c.args.slots.now c.args.ticks.now) next)
    (subst (λ (z : ℤ). Some c.in-Some.count ≡ if_any (as_count z)) (to_z-of_z w64 c.args.number fits) c.in-Some.ensures)
    ∙ c.loop.invariant.used next
    ∙ ap (λ n. noted_all c.args.params c.loop.uses (turns_use n (code_uses c.args.block.now) (standing held c.loop.slots c.loop.ticks) next)) n

pub walk_turn-returns-then-charge-clause-used : goal.walk_turn-returns-then-charge-clause-used
walk_turn-returns-then-charge-clause-used t c next =
    let held = cowns_held c.args.inputs.now in
    let s1 = standing held c.args.slots.now c.charge.new.ticks in
    charged c.args.params 1 c.args.uses.now held c.args.slots.now c.args.ticks.now c.charge.new.ticks (λ s. code_uses c.args.block.now s next) c.charge.result
    c.charge.ensures.counts c.charge.ensures.ticks
    ∙ ap (λ b. noted_then b c.args.params c.args.uses.now (code_uses c.args.block.now s1 next)) c.if-charge.true
    ∙ ap (λ (b : Code). noted_all c.args.params c.args.uses.now (code_uses b s1 next)) (sym c.as_slice.ensures)
    ∙ c.walk.ensures.used next

use Rattle.std.proofs.Common.{◌+◌, ◌-◌, ◌<◌, ◌∙◌, true, false, map, ap, sym, arith}
use Rattle.boc_program.specs.Syntax.{Done, When, code_size}
use Rattle.boc_program.specs.memory.View.{before, code_of, cown_ref_of, slot_expr_of}
use Rattle.boc_lines.specs.Books.{entered}
use Rattle.boc_lines.specs.Charges.{charged, turns}
use Rattle.boc_lines.specs.Walks.{book_of, state_of}
use Rattle.boc_lines.proofs.Walking.{repeat_stops, repeat_goes, run_stops, run_goes, either_stops, either_goes, turn_stops, block_stops, turn_goes, turn_counted}
use Rattle.boc_lines.proofs.Sizing.{item_few, item_less, item_sized, others_few, others_less, others_sized}
use Rattle.boc_lines.proofs.Walking.{keeps_trans, has_room}
use Rattle.boc_lines.proofs.walk.Walk.+walk.Goals as goal

pub repeat-returns-in_default-clause-charges : goal.repeat-returns-in_default-clause-charges
repeat-returns-in_default-clause-charges t c =
    repeat_stops (slot_expr_of c.args.expr.now) c.args.block.now c.args.k c.args.self.now c.turns.new.self c.turns.result c.turns.ensures.charges
    c.in_default.is

pub repeat-returns-clause-charges : goal.repeat-returns-clause-charges
repeat-returns-clause-charges t c =
    repeat_goes (slot_expr_of c.args.expr.now) c.args.block.now c.args.k c.args.self.now c.turns.new.self c.run_turns.new.self c.turns.result c.in-Some.count
    c.run_turns.result c.turns.ensures.charges c.in-Some.is
    (λ next. ap (λ b. entered (book_of c.turns.new.self) (turns c.args.k c.in-Some.count (charged b (c.args.k + 1)) (state_of c.turns.new.self) next))
    (sym c.as_slice.ensures) ∙ c.run_turns.ensures.charges next)

pub run-returns-then-not-run_one-clause-charges : goal.run-returns-then-not-run_one-clause-charges
run-returns-then-not-run_one-clause-charges t c =
    run_stops c.args.stmts.now c.stmt-item.result c.args.first c.args.self.now c.run_one.new.self c.run_one.result c.in-len1-up.len_at_least c.stmt-item.is
    c.run_one.ensures.charges c.if-not-run_one.true

pub run-returns-else-not-run_one-clause-charges : goal.run-returns-else-not-run_one-clause-charges
run-returns-else-not-run_one-clause-charges t c =
    run_goes c.args.stmts.now c.stmt-item.result c.args.first (c.args.first + c.size_at.result) c.args.self.now c.run_one.new.self c.run.new.self
    c.run_one.result c.run.result c.in-len1-up.len_at_least c.stmt-item.is (ap (λ n. c.args.first + n) c.size_at.ensures) c.run_one.ensures.charges
    c.if-not-run_one.false c.run.ensures.charges

pub run_either-returns-in-None-clause-charges : goal.run_either-returns-in-None-clause-charges
run_either-returns-in-None-clause-charges t c =
    either_stops (slot_expr_of c.args.expr.now) c.args.block.now c.args.other.now c.args.k c.args.self.now c.test-found.new.self c.test-found.result
    c.test-found.ensures.charges c.in-None.is

pub run_either-returns-then-is_zero-clause-charges : goal.run_either-returns-then-is_zero-clause-charges
run_either-returns-then-is_zero-clause-charges t c =
    either_goes (slot_expr_of c.args.expr.now) c.args.block.now c.args.other.now c.args.k c.args.self.now c.test-found.new.self c.run.new.self
    c.test-found.result c.in-Some.number c.run.result true c.test-found.ensures.charges c.in-Some.is (sym c.is_zero.ensures ∙ c.if-is_zero.true)
    (λ next. ap (λ b. entered (book_of c.test-found.new.self) (charged b (c.args.k + 1 + code_size c.args.block.now) (state_of c.test-found.new.self) next))
    (sym c.as_slice.ensures)
    ∙ ap (λ n. entered (book_of c.test-found.new.self) (charged (code_of c.as_slice.result.now) (c.args.k + 1 + n) (state_of c.test-found.new.self) next))
    (sym c.first_size.ensures)
    ∙ c.run.ensures.charges next)

pub run_either-returns-else-is_zero-clause-charges : goal.run_either-returns-else-is_zero-clause-charges
run_either-returns-else-is_zero-clause-charges t c =
    either_goes (slot_expr_of c.args.expr.now) c.args.block.now c.args.other.now c.args.k c.args.self.now c.test-found.new.self c.run-in-Some.new.self
    c.test-found.result c.in-Some.number c.run-in-Some.result false c.test-found.ensures.charges c.in-Some.is (sym c.is_zero.ensures ∙ c.if-is_zero.false)
    (λ next. ap (λ b. entered (book_of c.test-found.new.self) (charged b (c.args.k + 1) (state_of c.test-found.new.self) next)) (sym c.as_slice-in-Some.ensures)
    ∙ c.run-in-Some.ensures.charges next)

pub run_one-returns-in-When-clause-charges : goal.run_one-returns-in-When-clause-charges
run_one-returns-in-When-clause-charges t c next =
    ap (λ s. entered (book_of c.args.self.now) (charged (before s Done) c.args.k (state_of c.args.self.now) next)) c.in-When.is
    ∙ ap (λ es. entered (book_of c.args.self.now) (charged (When c.in-When.field-0 (map slot_expr_of es) (map cown_ref_of c.in-When.references.items) Done)
    c.args.k (state_of c.args.self.now) next)) (sym c.deref.ensures.value)
    ∙ ap (λ rs. entered (book_of c.args.self.now) (charged (When c.in-When.field-0 (map slot_expr_of c.deref.result.now) (map cown_ref_of rs) Done)
    c.args.k (state_of c.args.self.now) next)) (sym c.deref-in-When.ensures.value)
    ∙ c.wish.ensures.charges c.in-When.field-0 next

pub run_turns-returns-then-not-charge-clause-charges : goal.run_turns-returns-then-not-charge-clause-charges
run_turns-returns-then-not-charge-clause-charges t c next =
    let some : 0 < c.args.count - c.loop-turn._turn = omega (arith, c.loop-turn-test.true) in
    c.loop-turn.invariant.charges next
    ∙ turn_stops c.args.k (c.args.count - c.loop-turn._turn) (charged (code_of c.args.stmts.now) (c.args.k + 1)) c.loop-turn.self c.charge.new.self
    c.charge.result c.charge.ensures.charges c.if-not-charge.true some next

pub run_turns-returns-then-not-run-clause-charges : goal.run_turns-returns-then-not-run-clause-charges
run_turns-returns-then-not-run-clause-charges t c next =
    let some : 0 < c.args.count - c.loop-turn._turn = omega (arith, c.loop-turn-test.true) in
    c.loop-turn.invariant.charges next
    ∙ block_stops c.args.k (c.args.count - c.loop-turn._turn) (charged (code_of c.args.stmts.now) (c.args.k + 1)) c.loop-turn.self c.charge.new.self
    c.run.new.self c.charge.result c.run.result c.charge.ensures.charges c.if-not-charge.false c.run.ensures.charges c.if-not-run.true some next

pub run_turns-loop-turn-preserved : goal.run_turns-loop-turn-preserved
run_turns-loop-turn-preserved t c =
    let some : 0 < c.args.count - c.loop-turn._turn = omega (arith, c.loop-turn-test.true) in
    let both = keeps_trans c.loop-turn.self c.charge.new.self c.run.new.self c.charge.ensures.keeps c.run.ensures.keeps in
    record {
      charges = λ next. c.loop-turn.invariant.charges next
          ∙ turn_goes c.args.k (c.args.count - c.loop-turn._turn) (charged (code_of c.args.stmts.now) (c.args.k + 1)) c.loop-turn.self c.charge.new.self
          c.run.new.self c.charge.result c.run.result c.charge.ensures.charges c.if-not-charge.false c.run.ensures.charges c.if-not-run.false some next
          ∙ ap (λ n. entered (book_of c.run.new.self) (turns c.args.k n (charged (code_of c.args.stmts.now) (c.args.k + 1)) (state_of c.run.new.self) next))
          (turn_counted c.args.count c.loop-turn._turn);
      room = has_room c.loop-turn.self c.run.new.self c.loop-turn.invariant.room both;
      keeps = keeps_trans c.args.self.now c.loop-turn.self c.run.new.self c.loop-turn.invariant.keeps both;
    }

pub run-size_at-requires : goal.run-size_at-requires
run-size_at-requires t c =
    item_sized c.args.sizes.now c.args.stmts.now c.stmt-item.result c.args.first c.in-len1-up.len_at_least c.stmt-item.is c.requires.sized

pub run-run_one-requires : goal.run-run_one-requires
run-run_one-requires t c = (
  omega (arith, item_less c.args.stmts.now c.stmt-item.result c.in-len1-up.len_at_least c.stmt-item.is, c.decreases),
  (
    c.requires.room,
    (
      item_sized c.args.sizes.now c.args.stmts.now c.stmt-item.result c.args.first c.in-len1-up.len_at_least c.stmt-item.is c.requires.sized,
      item_few c.args.stmts.now c.stmt-item.result c.args.first c.in-len1-up.len_at_least c.stmt-item.is c.requires.few,
    ),
  ),
)

pub run-run-requires : goal.run-run-requires
run-run-requires t c =
    let last = ap (λ n. c.args.first + n) c.size_at.ensures in (
      omega (arith, others_less c.args.stmts.now c.in-len1-up.len_at_least, c.decreases),
      (
        has_room c.args.self.now c.run_one.new.self c.requires.room c.run_one.ensures.keeps,
        (
          others_sized c.args.sizes.now c.args.stmts.now c.stmt-item.result c.args.first (c.args.first + c.size_at.result) c.in-len1-up.len_at_least
              c.stmt-item.is last c.requires.sized,
          others_few c.args.stmts.now c.stmt-item.result c.args.first (c.args.first + c.size_at.result) c.in-len1-up.len_at_least c.stmt-item.is last
              c.requires.few,
        ),
      ),
    )

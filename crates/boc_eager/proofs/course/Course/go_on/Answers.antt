use Rattle.std.proofs.Common.{sym, true≢false}
use Rattle.boc_eager.proofs.Going.{goes_on, done, no_key, if_none}
use Rattle.boc_eager.proofs.course.Course.go_on.Goals as goal

pub returns : goal.returns
returns c = record {
  next = λ rows hr k. goes_on rows hr c.args.self.now k c.pop_first.new.self c.in_ok-tick.tick c.in_ok-tick.row c.in_ok-tick.ensures.removal
      c.in_ok-tick.ensures.all_above;
  done = tt;
}

pub returns-in_err-tick-clause-done : goal.returns-in_err-tick-clause-done
returns-in_err-tick-clause-done c = if_none c.from_residual.result
    (λ rows hr k. done rows hr c.args.self.now k (no_key c.args.self.now.next.keys (λ some. true≢false (sym (c.in_err-tick.ensures.variant.1 some)))))

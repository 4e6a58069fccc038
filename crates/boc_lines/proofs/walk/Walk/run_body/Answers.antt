use Rattle.std.proofs.Common.{◌≡◌, ◌+◌, ◌∙◌, true, false, ap, sym, arith}
use Rattle.boc_lines.specs.Books.{entered}
use Rattle.boc_lines.specs.Charges.{charged}
use Rattle.boc_lines.specs.Walks.{book_of, state_of}
use Rattle.boc_lines.proofs.Walking.{body_entered}
use Rattle.boc_lines.proofs.walk.Walk.run_body.Goals as goal

pub returns-then-not-charge-clause-entered : goal.returns-then-not-charge-clause-entered
returns-then-not-charge-clause-entered c args inputs is =
    let e : true ≡ false = sym (c.charge.ensures.fits (omega (arith, c.requires.ticks))) ∙ c.if-not-charge.true in
    absurd cc

pub returns-clause-entered : goal.returns-clause-entered
returns-clause-entered c args inputs is =
    body_entered c.args.body.now c.args.start c.args.self.now c.charge.new.self c.run.new.self c.charge.result c.run.result c.charge.ensures.charges
    c.if-not-charge.false
    (λ next. ap (λ b. entered (book_of c.charge.new.self) (charged b (c.args.start + 1) (state_of c.charge.new.self) next)) (sym c.as_slice.ensures)
    ∙ c.run.ensures.charges next)
    args inputs is

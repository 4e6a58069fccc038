use Rattle.std.proofs.Common.{arith}
use Rattle.boc_reader.proofs.WrongPlaces.{found_name, passes_name, passes_other}
use Rattle.boc_reader.proofs.read.place_of_name.Goals as goal
use Rattle.boc_reader.proofs.read.place_of_name.Goals.{in-Name+else-left-eq0, in_default}

pub returns-then-left-eq0 : goal.returns-then-left-eq0
returns-then-left-eq0 c =
    found_name c.args.tokens.now c.loop-placed.placed-index c.placed-item.result c.in-Name.field-0 c.args.before (omega arith) c.placed-item.is c.in-Name.is
    (omega (arith, c.loop-placed.invariant, c.if-left-eq0.true))

pub loop-placed-preserved : goal.loop-placed-preserved
loop-placed-preserved c =
    elim c.match-placed.branch [
      | in-Name+else-left-eq0 w ↦
          let h = w.if-left-eq0.false in
          omega (
            arith,
            c.loop-placed.invariant,
            passes_name c.args.tokens.now c.loop-placed.placed-index c.placed-item.result w.in-Name.field-0 (omega arith) c.placed-item.is w.in-Name.is,
          )
      | in_default w ↦
          omega (
            arith,
            c.loop-placed.invariant,
            passes_other c.args.tokens.now c.loop-placed.placed-index c.placed-item.result (omega arith) c.placed-item.is w.in_default.not-Name,
          )
    ]

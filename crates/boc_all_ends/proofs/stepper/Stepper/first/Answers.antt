use Rattle.boc_fronts.proofs.Opening.{first_layer}
use Rattle.boc_front_rows.specs.Seen.{front_of}
use Rattle.boc_all_ends.proofs.stepper.Stepper.first.Goals as goal

pub returns-clause-layer : goal.returns-clause-layer
returns-clause-layer c =
    let o = c.in_ok-arranged.ensures.opens in
    first_layer c.first_arranged.new.self.program.now o.opening (front_of c.first_arranged.new.self.lists c.in_ok-arranged.arranged.front)
    c.in_ok-arranged.arranged.kept.items o.opens o.arranged

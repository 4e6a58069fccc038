use Rattle.std.proofs.Common.{◌≡◌, ◌≤◌, ◌<◌, ◌∷◌, [], ℕ, List, length, refl, sym, ◌∙◌, ap, subst, arith}
use Rattle.boc_program.specs.declared.program.Program.{Program}
use Rattle.boc_fronts.specs.Orders.{IsWholeOrder}
use Rattle.boc_runs.specs.Serial.{Behaviour, serial_along}
use Rattle.boc_all_ends.specs.Stepping.{ListsFit}
use Rattle.boc_all_ends.proofs.Searching.{first_fits}
use Rattle.boc_end_orders.specs.Traces.{IsTracedLayer}
use Rattle.boc_end_orders.proofs.Ending.{comes, end_rows, end_there, order_there}
use Rattle.boc_end_orders.proofs.search.order_to.Goals as goal

pub layer_of-requires-clause-few : goal.layer_of-requires-clause-few
layer_of-requires-clause-few c =
    let e = end_rows c.args.program.now c.args.rows c.args.values.now c.requires in
    (omega (arith, e.0), e.1)

pub layer_of-requires-clause-fits : goal.layer_of-requires-clause-fits
layer_of-requires-clause-fits c =
    let p : Program = c.in_ok-new.field-0.program.now in
    subst (λ (ls : List (List Behaviour)). ListsFit p ls) (sym c.in_ok-new.ensures.lists) (first_fits p)

pub unreachable-requires : goal.unreachable-requires
unreachable-requires c =
    let p : Program = c.args.program.now in
    let lists = c.layer_of.new.self.stepper.lists in
    let trail = c.layer_of.new.self.trail in
    let rows = c.args.rows in
    let es = c.in_ok-layer.layer.entries in
    let few = end_rows p rows c.args.values.now c.requires in
    let layer = subst (λ (q : Program). IsTracedLayer q lists trail rows es) c.in_ok-new.ensures.program c.in_ok-layer.ensures.layer in
    end_there p lists trail rows es c.args.values.now few.0 few.1 layer c.requires c.in_default.ensures

pub order-requires : goal.order-requires
order-requires c =
    order_there c.in_ok-new.field-0.program.now c.layer_of.new.self.stepper.lists c.layer_of.new.self.trail c.args.rows c.in-Some.order
    c.in_ok-layer.layer.entries c.args.values.now c.in_ok-layer.ensures.layer c.in-Some.ensures

pub returns-clause-whole : goal.returns-clause-whole
returns-clause-whole c =
    let p : Program = c.args.program.now in
    let lists = c.layer_of.new.self.stepper.lists in
    let trail = c.layer_of.new.self.trail in
    let rows = c.args.rows in
    let es = c.in_ok-layer.layer.entries in
    let few = end_rows p rows c.args.values.now c.requires in
    let layer = subst (λ (q : Program). IsTracedLayer q lists trail rows es) c.in_ok-new.ensures.program c.in_ok-layer.ensures.layer in
    subst (λ (ps : List ℕ). IsWholeOrder p ps) (sym c.in_ok-parents.ensures)
    (comes p lists trail rows c.in-Some.order es c.args.values.now few.0 few.1 layer c.in-Some.ensures).whole

pub returns-clause-many : goal.returns-clause-many
returns-clause-many c =
    let p : Program = c.args.program.now in
    let lists = c.layer_of.new.self.stepper.lists in
    let trail = c.layer_of.new.self.trail in
    let rows = c.args.rows in
    let es = c.in_ok-layer.layer.entries in
    let few = end_rows p rows c.args.values.now c.requires in
    let layer = subst (λ (q : Program). IsTracedLayer q lists trail rows es) c.in_ok-new.ensures.program c.in_ok-layer.ensures.layer in
    ap (length {A = ℕ}) c.in_ok-parents.ensures
    ∙ (comes p lists trail rows c.in-Some.order es c.args.values.now few.0 few.1 layer c.in-Some.ensures).many

pub returns-clause-values : goal.returns-clause-values
returns-clause-values c =
    let p : Program = c.args.program.now in
    let lists = c.layer_of.new.self.stepper.lists in
    let trail = c.layer_of.new.self.trail in
    let rows = c.args.rows in
    let es = c.in_ok-layer.layer.entries in
    let few = end_rows p rows c.args.values.now c.requires in
    let layer = subst (λ (q : Program). IsTracedLayer q lists trail rows es) c.in_ok-new.ensures.program c.in_ok-layer.ensures.layer in
    ap (λ (ps : List ℕ). (serial_along p ps).values) c.in_ok-parents.ensures
    ∙ (comes p lists trail rows c.in-Some.order es c.args.values.now few.0 few.1 layer c.in-Some.ensures).values_are

use Rattle.std.proofs.Common.{◌≡◌, ◌∙◌, ℕ, ◌<◌, ◌≤◌, List, length, map, take, ap, refl, rules, sym, subst, arith}
use Rattle.std.proofs.Math.Logic.{∥∥₁_elim}
use Rattle.std.proofs.Props.{props}
use Rattle.std.proofs.Math.Seq.{take-length}
use Rattle.std.proofs.lemmas.Option.{slice_get_past, slice_get_read}
use Rattle.std.specs.Prelude.{None, Some, slice_get}
use Rattle.boc_runs.specs.Run.{Member}
use Rattle.boc_eval.specs.Instances.{AreRowsOf, behaviour_in}
use Rattle.boc_dispatch.proofs.TellingRows.{lacks, one_more_row}
use Rattle.boc_dispatch.proofs.told.rows_in_order.Goals.{After-index}
use Rattle.boc_dispatch.proofs.told.rows_in_order.Goals as goal

-- the place that is read
placed : (c : After-index) → slice_get c.in_ok-places.places.items c.loop-row.row ≡ Some c.index.result.now
placed c =
    let places = c.in_ok-places.places.items in
    let below : c.loop-row.row < length places = omega (arith, c.loop-row-test.true, c.in_ok-places.ensures.all) in
    slice_get_read places (length places) c.loop-row.row c.index.result.now refl below c.index.ensures

pub loop-row-init : goal.loop-row-init
loop-row-init c run are count = ap (map behaviour_in) c.in_ok-rows.ensures.items

pub returns-in_default : goal.returns-in_default
returns-in_default c =
    let far : length c.args.told.now ≤ c.index.result.now = search rules in
    lacks c.args.told.now c.args.count c.in_ok-places.places.items c.loop-row.row c.index.result.now c.in_ok-places.ensures c.loop-row-test.true
    (placed (goal.at.returns-in_default c).After-index) (slice_get_past c.args.told.now c.index.result.now far)

pub loop-row-preserved : goal.loop-row-preserved
loop-row-preserved c run are count =
    let told = c.args.told.now in
    let there : c.index.result.now < length told = search rules in
    let read = slice_get_read told (length told) c.index.result.now c.in-Some.told.now refl there c.in-Some.ensures.lookup.1 in
    one_more_row run told c.args.count c.in_ok-places.places.items c.loop-row.row c.index.result.now c.in-Some.told.now c.loop-row.rows.items
    c.push.new.self.items c.in_ok-places.ensures (placed (goal.at.loop-row-preserved c).After-index) read are (c.loop-row.invariant run are count) (search rules)

pub returns : goal.returns
returns c run right count =
    let all : c.loop-row.row ≡ length run = omega (arith, c.loop-row.auto.row-end, c.loop-row-test.false, count) in
    ∥∥₁_elim right (hlevel props) (λ are. c.loop-row.invariant run are count
    ∙ ap (λ n. map (λ (m : Member). m.behaviour) (take n run)) all ∙ ap (map (λ (m : Member). m.behaviour)) (take-length run))

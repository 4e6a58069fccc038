use Rattle.std.proofs.Common.{◌≡◌, ◌∙◌, ap, sym}
use Rattle.boc_program.specs.declared.body.Body.{Body}
use Rattle.boc_runs.specs.Serial.{inputs_of}
use Rattle.boc_eval.specs.Instances.{behaviour_in}
use Rattle.boc_lines.specs.Books.{Book, entered}
use Rattle.boc_lines.specs.Charges.{bill}
use Rattle.boc_lines.specs.Walks.{book_of}
use Rattle.boc_lines.proofs.Sizing.{sized_at}
use Rattle.boc_lines.proofs.Replaying.{start_at, start_there, start_few, row_entered, row_values, on_ok, on_both, same_some}
use Rattle.boc_lines.proofs.replay.run_row.Goals as goal

pub bounds-starts-instance : goal.bounds-starts-instance
bounds-starts-instance c = start_there c.args.program.now c.args.instance.now.kind c.body-body.result.now c.args.starts.now c.requires.starts c.body-body.ensures

pub run_behaviour-requires-clause-few : goal.run_behaviour-requires-clause-few
run_behaviour-requires-clause-few c =
    start_few c.args.program.now c.args.instance.now.kind c.body-body.result.now c.args.starts.now c.requires.starts c.body-body.ensures

pub run_behaviour-requires-clause-sized : goal.run_behaviour-requires-clause-sized
run_behaviour-requires-clause-sized c =
    sized_at c.args.sizes.now c.args.program.now.bodies c.args.instance.now.kind c.body-body.result.now _ c.requires.sizes c.body-body.ensures
    (start_at c.args.program.now c.args.instance.now.kind c.body-body.result.now c.args.starts.now c.requires.starts c.body-body.ensures)

pub returns-clause-book : goal.returns-clause-book
returns-clause-book c =
    let p = c.args.program.now in
    let b = behaviour_in c.args.instance.now in
    let body = c.body-body.result.now in
    let book : Book = record (book_of c.args.walk.now) { left = c.args.through } in
    let inputs = inputs_of b.cowns c.args.values.now in
    on_ok c.run_behaviour.result _ _
    (λ h. (row_entered p b c.args.values.now body book (book_of c.run_behaviour.new.walk) c.run_behaviour.new.walk.slots.items c.body-body.ensures
    (ap (λ n. entered book (bill n body b.args inputs)) (sym (start_at p b.kind body c.args.starts.now c.requires.starts c.body-body.ensures)) ∙ h)).0)
    c.run_behaviour.ensures.entered

pub returns-clause-values : goal.returns-clause-values
returns-clause-values c =
    let p = c.args.program.now in
    let b = behaviour_in c.args.instance.now in
    let body = c.body-body.result.now in
    let book : Book = record (book_of c.args.walk.now) { left = c.args.through } in
    let inputs = inputs_of b.cowns c.args.values.now in
    let same : c.requires.fits.body ≡ body = same_some c.requires.fits.body body (sym c.requires.fits.is ∙ c.body-body.ensures) in
    on_both c.run_behaviour.result _ _ _
    (λ h v. row_values p b c.args.values.now c.run_behaviour.new.values body c.run_behaviour.new.walk.slots.items c.body-body.ensures
    (c.requires.fits.args ∙ ap (λ (x : Body). x.params) same) (c.requires.fits.cowns ∙ ap (λ (x : Body). x.cown_params) same)
    (row_entered p b c.args.values.now body book (book_of c.run_behaviour.new.walk) c.run_behaviour.new.walk.slots.items c.body-body.ensures
    (ap (λ n. entered book (bill n body b.args inputs)) (sym (start_at p b.kind body c.args.starts.now c.requires.starts c.body-body.ensures)) ∙ h)).1
    v)
    c.run_behaviour.ensures.entered c.run_behaviour.ensures.values

use Rattle.std.proofs.Common.{◌≡◌, length, refl}
use Rattle.std.proofs.lemmas.Option.{slice_get_read}
use Rattle.std.proofs.lemmas.Bool.{eqb-true}
use Rattle.std.specs.Prelude.{true, false}
use Rattle.boc_stalled.proofs.Judged.{is_pending_row, pending_row_is, none_pending, not_true, true_not}
use Rattle.boc_stalled.proofs.life.is_pending.Goals as goal

pub returns-then-told-eq0 : goal.returns-then-told-eq0
returns-then-told-eq0 c =
    let h = c.in-Some.ensures.lookup in
    let run = c.args.run.now in
    let rows = c.rows.result.now in
    let row = c.in-Some.told.now in
    let at = slice_get_read rows (length rows) c.args.row row refl h.3.0 h.1 in
    let yes = is_pending_row run.cowns run.rows rows c.args.row row c.cowns-cowns.ensures.legal c.rows.ensures at in
    let no = pending_row_is run.cowns run.rows rows c.args.row row c.cowns-cowns.ensures.legal c.rows.ensures at in (
      (λ t. yes c.if-told-eq0.true (λ runs. not_true c.is_running.result t (c.is_running.ensures.1 runs))),
      (λ waits. true_not c.is_running.result (λ r. (no waits).1 (c.is_running.ensures.0 r))),
    )

pub returns-else-told-eq0 : goal.returns-else-told-eq0
returns-else-told-eq0 c =
    let h = c.in-Some.ensures.lookup in
    let run = c.args.run.now in
    let rows = c.rows.result.now in
    let row = c.in-Some.told.now in
    let at = slice_get_read rows (length rows) c.args.row row refl h.3.0 h.1 in
    let no = pending_row_is run.cowns run.rows rows c.args.row row c.cowns-cowns.ensures.legal c.rows.ensures at in
    ((λ t. absurd (c.if-told-eq0.false (eqb-true row.ticks 0 t))), (λ waits. absurd (c.if-told-eq0.false (no waits).0)))

pub returns-in-None : goal.returns-in-None
returns-in-None c =
    let h = c.in-None.ensures.lookup in
    let no = none_pending c.args.run.now.rows c.rows.result.now c.args.row c.rows.ensures h.3 in
    ((λ f. absurd (let g : false ≡ true = f in cc)), (λ waits. absurd (no waits)))

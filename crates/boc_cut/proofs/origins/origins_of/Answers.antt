use Rattle.std.proofs.Common.{ℕ, List, get_or, subst}
use Rattle.std.proofs.lemmas.Option.{slice_get-get_or}
use Rattle.boc_cut.specs.declared.table.CownUse.{CownUse}
use Rattle.boc_cut.specs.declared.table.Row.{Row}
use Rattle.boc_cut.specs.Windows.{ComesFrom}
use Rattle.boc_cut.proofs.Keeping.{one_more}
use Rattle.boc_cut.proofs.origins.origins_of.Goals as goal

pub loop-number-preserved : goal.loop-number-preserved
loop-number-preserved c =
    let i = c.loop-number.invariant in
    let rows = c.args.table.now.rows.items in
    let uses = c.args.table.now.uses.items in
    let kept = c.args.kept.now in
    let made = c.args.rows.now in
    let number = c.loop-number.number in
    let row = get_or made number c.index-rows-number.result in
    let origin = c.in-Some.origin in
    let from_held = subst (λ (held : List ℕ). ComesFrom c.deref.result.now c.deref-in-loop-number.result.now kept held origin) c.as_slice-held.ensures.value
    c.in-Some.ensures in
    let from_uses = subst (λ (some : List CownUse). ComesFrom c.deref.result.now some kept row.cowns.items origin) c.deref-in-loop-number.ensures.value
    from_held in
    let from_rows = subst (λ (some : List Row). ComesFrom some uses kept row.cowns.items origin) c.deref.ensures.value from_uses in
    rw c.in_ok-push.ensures.items (
    one_more rows uses kept made c.loop-number.origins.items number row origin i.0 i.1
    (slice_get-get_or made number c.index-rows-number.result c.loop-number-test.true) from_rows
    )

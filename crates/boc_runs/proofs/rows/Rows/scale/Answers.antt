use Rattle.std.proofs.Common.{◌≡◌, List, length, ap, sym, ◌∙◌, subst, arith}
use Rattle.boc_runs.specs.declared.rows.Row.{Row}
use Rattle.boc_runs.specs.Rows.{IsRows}
use Rattle.boc_runs.specs.Changes.{IsScaled}
use Rattle.boc_runs.proofs.Scaling.{rows_scaled}
use Rattle.boc_runs.proofs.Joining.{written_back}
use Rattle.boc_runs.proofs.rows.Rows.scale.Goals as goal

pub invariant_of-self : goal.invariant_of-self
invariant_of-self c =
    let value = c.deref_mut.ensures.value in
    let new : List Row = c.scale_rows.new.rows in
    let s = c.scale_rows.ensures.scaled in
    let items : List Row = c.self.inside.list.items in
    let same : length new ≡ length items = s.whole ∙ ap (length {A = Row}) value in
    let whole : c.self.inside.list.len ≡ length items = sym c.deref_mut.ensures.len ∙ ap (length {A = Row}) value in
    rw (written_back new items c.self.inside.list.len same whole)
    (rows_scaled c.deref_mut.result.now (subst IsRows (sym value) c.self.invariant) c.args.row c.args.over c.args.under new s
    (omega (arith, c.requires.there, ap (length {A = Row}) c.self.view_is, ap (length {A = Row}) value))
    (omega (arith, c.scale_rows.ensures.ticks, c.if-ticks-from.false, c.from.ensures)))

pub returns-clause-scaled : goal.returns-clause-scaled
returns-clause-scaled c =
    let value = c.deref_mut.ensures.value in
    let new : List Row = c.scale_rows.new.rows in
    let s = c.scale_rows.ensures.scaled in
    let items : List Row = c.self.inside.list.items in
    let same : length new ≡ length items = s.whole ∙ ap (length {A = Row}) value in
    let whole : c.self.inside.list.len ≡ length items = sym c.deref_mut.ensures.len ∙ ap (length {A = Row}) value in
    λ t. rw (written_back new items c.self.inside.list.len same whole) (
      subst (λ (list : List Row). IsScaled list c.args.row c.args.over c.args.under new) (value ∙ c.self.view_is) s,
      omega (arith, c.scale_rows.ensures.ticks, c.if-ticks-from.false, c.from.ensures),
    )

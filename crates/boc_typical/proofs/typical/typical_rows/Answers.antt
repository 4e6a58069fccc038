use Rattle.std.proofs.Common.{◌<◌, ℕ, List, sym, ◌∙◌, subst}
use Rattle.std.specs.Prelude.{All}
use Rattle.boc_program.specs.declared.limits.TheConstants.{MOST_ROWS}
use Rattle.boc_runs.specs.declared.rows.Row.{Row}
use Rattle.boc_typical.specs.Spread.{AreMiddlesBy, AreOffsets, AreTimed}
use Rattle.boc_typical.specs.Typical.{IsTypical}
use Rattle.boc_typical.proofs.TypicalRows.{made_typical, middles_within, typical_rows_are}
use Rattle.boc_typical.proofs.typical.typical_rows.Goals as goal

pub middles_of-requires : goal.middles_of-requires
middles_of-requires c = rw c.deref.ensures.value
    (subst (λ (n : ℕ). All (λ d. d < n) c.args.defs.now) (sym c.in_ok-typical.ensures.whole) c.requires.few_defs)

pub offsets_of-requires-clause-shape : goal.offsets_of-requires-clause-shape
offsets_of-requires-clause-shape c = rw c.as_slice.ensures.same c.as_slice.ensures.shape

pub offsets_of-requires-clause-middles : goal.offsets_of-requires-clause-middles
offsets_of-requires-clause-middles c =
    let by : AreMiddlesBy c.args.defs.now c.in_ok-typical.typical.items c.in_ok-middles.middles.items = rw c.deref.ensures.value at c.in_ok-middles.ensures in
    rw (c.as_slice.ensures.same, c.deref-2.ensures.value) (middles_within c.args.rows.now c.args.defs.now c.in_ok-typical.typical.items
    c.in_ok-middles.middles.items MOST_ROWS c.as_slice.ensures.shape c.requires.defs c.requires.few_defs c.in_ok-typical.ensures by)

pub timed-requires-clause-middles : goal.timed-requires-clause-middles
timed-requires-clause-middles c =
    let by : AreMiddlesBy c.args.defs.now c.in_ok-typical.typical.items c.in_ok-middles.middles.items = rw c.deref.ensures.value at c.in_ok-middles.ensures in
    rw (c.as_slice-2.ensures.same, c.deref-3.ensures.value) (by.whole ∙ c.requires.defs)

pub timed-requires-clause-offsets : goal.timed-requires-clause-offsets
timed-requires-clause-offsets c =
    let o : AreOffsets c.args.rows.now c.in_ok-middles.middles.items c.in_ok-all.all.offsets.items c.in_ok-all.all.lasts.items =
    rw (c.as_slice.ensures.same, c.deref-2.ensures.value) at c.in_ok-all.ensures in
    rw (c.as_slice-2.ensures.same, c.deref-4.ensures.value) o.whole

pub timed-requires-clause-lasts : goal.timed-requires-clause-lasts
timed-requires-clause-lasts c =
    let o : AreOffsets c.args.rows.now c.in_ok-middles.middles.items c.in_ok-all.all.offsets.items c.in_ok-all.all.lasts.items =
    rw (c.as_slice.ensures.same, c.deref-2.ensures.value) at c.in_ok-all.ensures in
    rw (c.as_slice-2.ensures.same, c.deref-5.ensures.value) o.lasts_whole

pub new-requires : goal.new-requires
new-requires c =
    let by : AreMiddlesBy c.args.defs.now c.in_ok-typical.typical.items c.in_ok-middles.middles.items = rw c.deref.ensures.value at c.in_ok-middles.ensures in
    let o : AreOffsets c.args.rows.now c.in_ok-middles.middles.items c.in_ok-all.all.offsets.items c.in_ok-all.all.lasts.items =
    rw (c.as_slice.ensures.same, c.deref-2.ensures.value) at c.in_ok-all.ensures in
    let made : AreTimed c.args.rows.now c.in_ok-middles.middles.items c.in_ok-all.all.offsets.items c.in_ok-all.all.lasts.items c.in_ok-list.list.items =
    rw (c.as_slice-2.ensures.same, c.deref-3.ensures.value, c.deref-4.ensures.value, c.deref-5.ensures.value) at c.in_ok-list.ensures in
    typical_rows_are c.args.rows.now c.as_slice.ensures.shape c.args.defs.now c.requires.defs c.in_ok-list.list.items
    (made_typical c.args.rows.now c.as_slice.ensures.shape c.args.defs.now c.in_ok-typical.typical.items c.in_ok-middles.middles.items MOST_ROWS
    c.requires.defs c.requires.few_defs c.in_ok-typical.ensures by c.in_ok-all.all.offsets.items c.in_ok-all.all.lasts.items o c.in_ok-list.list.items made)

pub returns : goal.returns
returns c =
    let by : AreMiddlesBy c.args.defs.now c.in_ok-typical.typical.items c.in_ok-middles.middles.items = rw c.deref.ensures.value at c.in_ok-middles.ensures in
    let o : AreOffsets c.args.rows.now c.in_ok-middles.middles.items c.in_ok-all.all.offsets.items c.in_ok-all.all.lasts.items =
    rw (c.as_slice.ensures.same, c.deref-2.ensures.value) at c.in_ok-all.ensures in
    let made : AreTimed c.args.rows.now c.in_ok-middles.middles.items c.in_ok-all.all.offsets.items c.in_ok-all.all.lasts.items c.in_ok-list.list.items =
    rw (c.as_slice-2.ensures.same, c.deref-3.ensures.value, c.deref-4.ensures.value, c.deref-5.ensures.value) at c.in_ok-list.ensures in
    subst (λ (l : List Row). IsTypical c.args.rows.now c.args.defs.now l) (sym {A = List Row} c.new.ensures)
    (made_typical c.args.rows.now c.as_slice.ensures.shape c.args.defs.now c.in_ok-typical.typical.items c.in_ok-middles.middles.items MOST_ROWS
    c.requires.defs c.requires.few_defs c.in_ok-typical.ensures by c.in_ok-all.all.offsets.items c.in_ok-all.all.lasts.items o c.in_ok-list.list.items made)

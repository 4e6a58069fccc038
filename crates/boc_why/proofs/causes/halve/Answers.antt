use Rattle.std.proofs.Common.{◌≡◌, ◌<◌, max, length, ap, arith}
use Rattle.std.specs.Prelude.{slice_index}
use Rattle.std.proofs.lemmas.List.{get_or_read}
use Rattle.boc_runs.specs.declared.rows.Row.{Row}
use Rattle.boc_runs.specs.Rows.{ticks_of}
use Rattle.boc_why.specs.Causes.{half_of}
use Rattle.boc_why.proofs.Halving.{step_ticks, ticks_skip, ticks_next, ticks_fit, last_halved, both_halved}
use Rattle.boc_why.proofs.causes.halve.Goals.{then-defs-row, else-defs-row}
use Rattle.boc_why.proofs.causes.halve.Goals as goal

pub index-requires : goal.index-requires
index-requires c = omega (
  arith,
  c.in_ok-lasts.ensures.halved.lasts_whole,
  c.in_ok-lasts.ensures.halved.whole,
  c.in_ok-lasts.lasts.ok.0,
  c.loop-row-test.true,
  ap (length {A = Row}) c.as_slice-row-end.ensures.same,
)

pub set_ticks-requires : goal.set_ticks-requires
set_ticks-requires c =
    let mid = c.halve_offsets.new.rows in
    let lasts = c.in_ok-lasts.lasts.items in
    let halved = c.in_ok-lasts.ensures.halved in
    let there : c.loop-row.row < length mid = omega (arith, c.loop-row-test.true, ap (length {A = Row}) c.as_slice-row-end.ensures.same) in
    let last = get_or_read lasts c.loop-row.row c.index.result.now (omega (arith, there, halved.lasts_whole, halved.whole)) c.index.ensures 0 in
    let own = step_ticks mid c.args.defs.now c.args.def lasts c.loop-row.row c.loop-row.rows c.loop-row.invariant c.as_slice.result.now
    c.index-as_slice-row.result there c.as_slice.ensures.same c.index-as_slice-row.is in
    ticks_fit mid c.args.defs.now c.args.def lasts c.loop-row.row c.loop-row.rows c.loop-row.invariant there c.if-defs-row.true c.max-ticks.result
    (omega (arith, c.max-ticks.ensures, c.div_ceil.ensures, own, last)) c.as_slice.ensures.shape
    (last_halved c.args.rows.now c.args.defs.now c.args.def mid lasts halved c.loop-row.row (omega (arith, there, halved.whole)) c.if-defs-row.true)

pub loop-row-preserved : goal.loop-row-preserved
loop-row-preserved c =
    let mid = c.halve_offsets.new.rows in
    let lasts = c.in_ok-lasts.lasts.items in
    let halved = c.in_ok-lasts.ensures.halved in
    let there : c.loop-row.row < length mid = omega (arith, c.loop-row-test.true, ap (length {A = Row}) c.as_slice-row-end.ensures.same) in
    elim c.if-defs-row.branch [
      | then-defs-row w ↦ (
          let last = get_or_read lasts c.loop-row.row w.index.result.now (omega (arith, there, halved.lasts_whole, halved.whole)) w.index.ensures 0 in
          let own = step_ticks mid c.args.defs.now c.args.def lasts c.loop-row.row c.loop-row.rows c.loop-row.invariant w.as_slice.result.now
          w.index-as_slice-row.result there w.as_slice.ensures.same w.index-as_slice-row.is in
          let is : w.max-ticks.result ≡ max (half_of (ticks_of mid c.loop-row.row)) (slice_index lasts c.loop-row.row) =
          omega (arith, w.max-ticks.ensures, w.div_ceil.ensures, own, last) in
          let fits = ticks_fit mid c.args.defs.now c.args.def lasts c.loop-row.row c.loop-row.rows c.loop-row.invariant there w.if-defs-row.true
          w.max-ticks.result is w.as_slice.ensures.shape (last_halved c.args.rows.now c.args.defs.now c.args.def mid lasts halved c.loop-row.row
          (omega (arith, there, halved.whole)) w.if-defs-row.true) in
          rw (w.rows-is, w.set_ticks.ensures)
          (ticks_next mid c.args.defs.now c.args.def lasts c.loop-row.row c.loop-row.rows c.loop-row.invariant there w.if-defs-row.true
          w.max-ticks.result is fits.high))
      | else-defs-row w ↦ rw w.rows-is
          (ticks_skip mid c.args.defs.now c.args.def lasts c.loop-row.row c.loop-row.rows c.loop-row.invariant w.if-defs-row.false)
    ]

pub returns-clause-halved : goal.returns-clause-halved
returns-clause-halved c = both_halved c.args.rows.now c.args.defs.now c.args.def c.halve_offsets.new.rows c.in_ok-lasts.lasts.items c.loop-row.row
    c.loop-row.rows c.as_slice-row-end.ensures.shape c.requires.defs
    (omega (arith, c.loop-row-test.false, ap (length {A = Row}) c.as_slice-row-end.ensures.same, c.in_ok-lasts.ensures.halved.whole))
    c.in_ok-lasts.ensures.halved c.loop-row.invariant

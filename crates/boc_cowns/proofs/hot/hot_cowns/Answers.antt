use Rattle.std.proofs.Common.{◌∙◌, length, refl}
use Rattle.boc_order.specs.Least.{wrote_cown}
use Rattle.boc_order.proofs.LeastBusy.{busiest_is, until_low}
use Rattle.boc_order.proofs.LeastSpawns.{length-bare}
use Rattle.boc_cowns.specs.Hot.{has_cown}
use Rattle.boc_cowns.proofs.Parts.{held_low, hot_is, rows_few, span_some}
use Rattle.boc_cowns.proofs.Sums.{counts_few}
use Rattle.boc_cowns.proofs.hot.hot_cowns.Goals as goal

pub sorted-requires-clause-few_rows : goal.sorted-requires-clause-few_rows
sorted-requires-clause-few_rows g c = counts_few (has_cown c.args.rows.now) (length c.args.rows.now) c.in_ok-columns.columns.rows.items
    c.in_ok-columns.ensures.with_it (rows_few c.args.rows.now c.args.sharing (rw c.new-seen.ensures.same at c.new-seen.ensures.shape))

pub sorted-requires-clause-few_wrote : goal.sorted-requires-clause-few_wrote
sorted-requires-clause-few_wrote g c = counts_few (wrote_cown c.args.rows.now) (length c.args.rows.now) c.in_ok-columns.columns.wrote.items
    c.in_ok-columns.ensures.that_wrote (rows_few c.args.rows.now c.args.sharing (rw c.new-seen.ensures.same at c.new-seen.ensures.shape))

pub busiest_of-requires-clause-low : goal.busiest_of-requires-clause-low
busiest_of-requires-clause-low g c =
    rw (c.deref.ensures.value, c.deref-2.ensures.value) (until_low c.new-seen.result c.in_ok-alone.alone.starts.items c.in_ok-columns.columns.held.items
    c.in_ok-columns.columns.from.items c.in_ok-columns.ensures.for_ticks c.in_ok-columns.ensures.first c.new-seen.ensures.shape c.in_ok-alone.ensures.low
    (c.in_ok-alone.ensures.is.earliest.keeps.whole ∙ length-bare c.new-seen.result))

pub returns-clause-hot : goal.returns-clause-hot
returns-clause-hot g c =
    let shape = rw c.new-seen.ensures.same at c.new-seen.ensures.shape in
    hot_is c.args.rows.now c.args.sharing shape c.in_ok-plan.plan (rw c.new-seen.ensures.same at c.in_ok-plan.ensures.placed) c.in_ok-profile.profile
    (rw c.new-seen.ensures.same at c.in_ok-profile.ensures) c.args.cowns c.in_ok-columns.columns c.in_ok-sorted.field-0.items
    c.in_ok-alone.alone.starts.items (record {
      span = c.in_ok-profile.profile.span;
      least = record { spawns = c.in_ok-alone.alone.span; busiest = c.busiest_of.result };
      shared = c.in_ok-shared_span.field-0;
      cowns = c.in_ok-sorted.field-0;
    }) c.requires
    (rw (c.new-seen.ensures.same, c.as_slice-steps.ensures.value) at c.in_ok-columns.ensures) c.in_ok-sorted.ensures.tell c.in_ok-sorted.ensures.sorted refl
    (rw c.new-seen.ensures.same at c.in_ok-alone.ensures.is)
    (rw c.new-seen.ensures.same at (busiest_is c.new-seen.result c.in_ok-alone.alone.starts.items c.in_ok-columns.columns.held.items
    c.in_ok-columns.columns.from.items c.in_ok-columns.ensures.for_ticks c.in_ok-columns.ensures.first c.args.cowns c.busiest_of.result c.requires
    (rw (c.deref.ensures.value, c.deref-2.ensures.value) at c.busiest_of.ensures))) c.in_ok-shared_span.ensures refl

pub returns-clause-some : goal.returns-clause-some
returns-clause-some g c = span_some c.new-seen.result c.new-seen.ensures.shape c.in_ok-profile.profile.starts.items c.in_ok-profile.profile.span
    c.in_ok-profile.ensures.span

pub returns-clause-low : goal.returns-clause-low
returns-clause-low g c = held_low c.new-seen.result c.in_ok-columns.columns c.args.cowns c.in_ok-sorted.field-0.items c.requires
    c.new-seen.ensures.shape c.in_ok-columns.ensures.for_ticks
    c.in_ok-sorted.ensures.tell c.in_ok-sorted.ensures.sorted

use Rattle.std.proofs.Common.{◌≡◌, arith}
use Rattle.std.specs.Prelude.{slice_index}
use Rattle.std.proofs.lemmas.List.{get_or_read}
use Rattle.boc_sweep.specs.declared.sweeping.Cut.TheVariants.{Before}
use Rattle.boc_sweep.specs.Bases.{AreTopsOver}
use Rattle.boc_sweep.proofs.Spawning.{early_parts}
use Rattle.boc_sweep.proofs.spawns.spawn_sweep.Goals as goal

pub tops_over-requires-clause-counted : goal.tops_over-requires-clause-counted
tops_over-requires-clause-counted c = c.in_ok-chosen.ensures.counts

pub spans-requires-clause-parts : goal.spans-requires-clause-parts
spans-requires-clause-parts c =
    let tails = c.in_ok-tails.ensures in
    let from_starts = c.in_ok-tails.tails.starts.items in
    let over : AreTopsOver Before c.args.rows.now c.args.plan.now.starts.items from_starts c.in_ok-chosen.chosen c.deref-2.result.now =
    rw c.deref-2.ensures.value c.in_ok-tops.ensures in
    let span : c.index.result.now ≡ slice_index from_starts 0 =
    get_or_read from_starts 0 c.index.result.now (omega (arith, tails.starts_len, c.requires.shape.not_empty)) c.index.ensures 0 in
    early_parts c.args.rows.now c.requires.shape _ c.requires.waits _ _ _ c.requires.placed _ _ tails c.deref.result.now
    (rw c.deref.ensures.value c.in_ok-elders.ensures) _ c.in_ok-chosen.ensures over span

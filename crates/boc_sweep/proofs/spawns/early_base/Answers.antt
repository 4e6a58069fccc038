use Rattle.std.proofs.Common.{◌≡◌, ℕ, ◌+◌, ◌*◌, ◌<◌, ◌≤◌, length, inl, inr, ap, ◌∙◌, arith}
use Rattle.std.specs.Prelude.{slice_index}
use Rattle.std.proofs.lemmas.Bool.{cases_eq}
use Rattle.std.proofs.lemmas.List.{get_or_read}
use Rattle.boc_program.specs.declared.limits.TheConstants.{MOST_ROWS, MOST_TICKS}
use Rattle.boc_runs.specs.Rows.{parent_of, offset_of}
use Rattle.boc_plans.proofs.Children.{rows_fit, parent_there}
use Rattle.boc_sweep.proofs.Spawning.{are_small, ready_low}
use Rattle.boc_sweep.proofs.spawns.early_base.Goals as goal

pub ready_at-ready-requires : goal.ready_at-ready-requires
ready_at-ready-requires c = λ a k. (let near = c.requires.waits.sound a k in
    rw c.deref.ensures.value (omega (arith, near.near.before, c.requires.there, c.requires.placed.ends_len)))

pub overflow_add-ready : goal.overflow_add-ready
overflow_add-ready c =
    let rows = c.args.rows.now in
    let small = are_small rows c.requires.shape _ _ _ c.requires.placed _ _ c.requires.tails c.args.row c.requires.there c.parent.result
    c.index-start.result.now c.index-tail.result.now c.offset-offset.result c.parent.ensures c.index-start.ensures c.index-tail.ensures
    c.offset-offset.ensures in
    let low : c.index-start.result.now + c.from-then-start-from.result ≤ MOST_ROWS * MOST_TICKS + MOST_TICKS =
    omega (arith, small.start_low, small.offset_low, c.if-least-offset.true, c.from-then-start-from.ensures) in
    let ready : c.ready_at-ready.result ≤ MOST_ROWS * MOST_TICKS + MOST_TICKS =
    ready_low rows c.requires.shape _ _ _ c.requires.placed c.args.row c.requires.there c.args.waits.now c.requires.waits
    (c.index-start.result.now + c.from-then-start-from.result) c.ready_at-ready.result (MOST_ROWS * MOST_TICKS + MOST_TICKS) (omega arith) low
    (rw c.deref.ensures.value at c.ready_at-ready.ensures) in
    omega (arith, ready, small.tail_low)

pub returns-then-start-from : goal.returns-then-start-from
returns-then-start-from c =
    let rows = c.args.rows.now in
    let row : ℕ = c.args.row in
    let starts = c.args.plan.now.starts.items in
    let from_starts = c.args.tails.now.starts.items in
    let elders = c.args.elders.now in
    let there : row < length rows = c.requires.there in
    let inside : parent_of rows row < length rows = parent_there rows row (rows_fit rows c.requires.shape row there) there in
    let start_is : c.index-start.result.now ≡ slice_index starts (parent_of rows row) =
    get_or_read starts c.parent.result c.index-start.result.now (omega (arith, c.parent.ensures, inside, c.requires.placed.starts_len)) c.index-start.ensures 0
    ∙ ap (slice_index starts) c.parent.ensures in
    let tail_is : c.index-tail.result.now ≡ slice_index from_starts row =
    get_or_read from_starts row c.index-tail.result.now (omega (arith, there, c.requires.tails.starts_len)) c.index-tail.ensures 0 in
    let spawned : c.index-start.result.now + c.from-then-start-from.result ≡ slice_index starts (parent_of rows row) + (slice_index elders row + 1) =
    omega (arith, start_is, c.from-then-start-from.ensures) in
    record {
      child = elim (cases_eq row 0) [
        | inl z ↦ absurd (omega (arith, c.if-least-offset.true, c.offset-offset.ensures, ap (offset_of rows) z, c.requires.shape.main_offset))
        | inr ne ↦ omega (arith, ne)
      ];
      waits = c.args.waits.now;
      has_waits = c.requires.waits;
      ready = c.ready_at-ready.result;
      is_ready = rw spawned at (rw c.deref.ensures.value at c.ready_at-ready.ensures);
      over = record { latest = c.args.latest; is_latest = c.requires.latest; is = omega (arith, c.max.ensures, tail_is) };
    }

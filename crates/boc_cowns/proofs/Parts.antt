-- What the parts of an answer say of one another.
use Rattle.std.proofs.Common.{◌≡◌, ℕ, ◌<◌, ◌≤◌, ◌^◌, List, length, get_or, Some, ap, subst, sym, arith}
use Rattle.std.specs.Prelude.{All, slice_get, slice_index}
use Rattle.std.proofs.lemmas.Option.{slice_get-get_or}
use Rattle.boc_program.specs.declared.limits.TheConstants.{MOST_COWNS, MOST_ROWS}
use Rattle.boc_runs.specs.declared.rows.Row.{Row}
use Rattle.boc_runs.specs.Rows.{IsRows}
use Rattle.boc_plans.specs.declared.sharing.Sharing.{Sharing}
use Rattle.boc_plans.specs.Seen.{seen}
use Rattle.boc_plans.specs.declared.sharing.Sharing.TheVariants.{SharedReads}
use Rattle.boc_plans.specs.Plans.{IsEnd}
use Rattle.boc_plans.specs.Chains.{IsPicked}
use Rattle.boc_plans.specs.Greedy.{IsSpan}
use Rattle.boc_plans.proofs.Seeing.{length-seen}
use Rattle.boc_order.specs.declared.plan.Earliest.{Earliest}
use Rattle.boc_order.specs.declared.report.Profile.{Profile}
use Rattle.boc_order.specs.Profiles.{IsProfileOf}
use Rattle.boc_order.specs.Standing.{IsPlanOf}
use Rattle.boc_order.proofs.Alone.{one_plan}
use Rattle.boc_order.proofs.Chaining.{placed_earliest}
use Rattle.boc_cowns.specs.declared.columns.Columns.{Columns}
use Rattle.boc_order.specs.Least.{AreLoads, IsBusiestOf, IsSpawnPlan}
use Rattle.boc_order.proofs.LeastLoads.{all_low}
use Rattle.boc_cowns.specs.declared.hot.HotCown.{HotCown}
use Rattle.boc_cowns.specs.declared.hot.HotCowns.{HotCowns}
use Rattle.boc_cowns.specs.Hot.{AreSorted, IsHotCowns}
use Rattle.boc_cowns.specs.Columns.{HasColumns, TellColumns}
use Rattle.boc_cowns.proofs.Telling.{awaited, column_tells}

-- all columns count no more rows than there may be
pub rows_few : (list : List Row) (sharing : Sharing) → IsRows (seen sharing list) → length list ≤ MOST_ROWS
rows_few list sharing hr = omega (arith, hr.not_many, length-seen sharing list)

-- no plan ends at the tick at which it begins
pub span_some : (rows : List Row) → IsRows rows → (plan : List ℕ) (span : ℕ) → IsEnd rows plan span → 0 < span
span_some rows hr plan span end = omega (arith, end.none_later 0 hr.not_empty, hr.ticks_low 0 hr.not_empty)

-- no cown is held for longer than all rows can take
pub held_low : (rows : List Row) (columns : Columns) (count : ℕ) (cowns : List HotCown) → count ≤ MOST_COWNS → IsRows rows
    → AreLoads rows columns.held.items → TellColumns columns cowns → AreSorted count cowns
    → All (λ own. own.held < 2 ^ 56) cowns
held_low rows columns count cowns few shape loads tell sorted k d h =
    let own : HotCown = get_or cowns k d in
    let there = slice_get-get_or cowns k d h in
    let is : own.held ≡ slice_index columns.held.items own.cown = ap (λ (hot : HotCown). hot.held) (tell k own there) in
    omega (arith, is, loads.at own.cown (omega (arith, sorted.below k own there, few)), all_low rows shape own.cown)

module _ (list : List Row) (sharing : Sharing) (hr : IsRows (seen sharing list)) (plan : Earliest) (placed : IsPlanOf (seen sharing list) plan)
    (profile : Profile) (is : IsProfileOf (seen sharing list) profile) where
  -- the plan of the profile is this one
  starts_same : profile.starts.items ≡ plan.starts.items
  starts_same = one_plan (seen sharing list) profile.starts.items plan.starts.items is.earliest
      (placed_earliest (seen sharing list) hr plan.starts.items plan.ends.items plan.after.items placed)

  -- the answer, from its parts
  pub hot_is : (count : ℕ) (columns : Columns) (cowns : List HotCown) (spawned : List ℕ) (hot : HotCowns) → count ≤ MOST_COWNS
      → HasColumns list (seen sharing list) plan.starts.items plan.after.items spawned profile.chain.steps.items count columns
      → TellColumns columns cowns → AreSorted count cowns → hot.span ≡ profile.span → IsSpawnPlan (seen sharing list) spawned hot.least.spawns
      → IsBusiestOf (seen sharing list) spawned count hot.least.busiest → IsSpan (seen SharedReads list) hot.shared → hot.cowns.items ≡ cowns → IsHotCowns list sharing count hot
  hot_is count columns cowns spawned hot few has tell sorted span by_spawns busiest by_shared items = record {
    plan = plan.starts.items;
    earliest = placed_earliest (seen sharing list) hr plan.starts.items plan.ends.items plan.after.items placed;
    after = plan.after.items;
    awaited = awaited (seen sharing list) plan placed;
    steps = profile.chain.steps.items;
    picked = subst (λ (starts : List ℕ). IsPicked (seen sharing list) starts profile.chain.steps.items) starts_same is.picked;
    ends = rw span (subst (λ (starts : List ℕ). IsEnd (seen sharing list) starts profile.span) starts_same is.span);
    least = record { spawned = spawned; by_spawns = by_spawns; busiest = busiest };
    by_shared_reads = by_shared;
    each = λ i own at.
        let there : slice_get cowns i ≡ Some own = subst (λ (l : List HotCown). slice_get l i ≡ Some own) items at in
        column_tells list sharing plan.starts.items plan.after.items spawned profile.chain.steps.items count columns few has own
        (tell i own there) (sorted.below i own there);
    sorted = subst (AreSorted count) (sym items) sorted;
  }

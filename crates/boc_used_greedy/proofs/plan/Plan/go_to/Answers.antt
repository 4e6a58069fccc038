use Rattle.std.proofs.Common.{◌⊎◌, inl, inr, ℕ, ◌<◌, ◌≤◌, arith}
use Rattle.std.specs.Prelude.{slice_index}
use Rattle.boc_used_greedy.specs.Ready.{IsReadyBy}
use Rattle.boc_used_greedy.specs.Plans.{NotStarted}
use Rattle.boc_used_greedy.proofs.Scheduling.{goes_on, next_goes_on}
use Rattle.boc_used_greedy.proofs.Queueing.{gathered}
use Rattle.boc_used_greedy.proofs.plan.Plan.go_to.Goals as goal

pub returns-clause-made : goal.returns-clause-made
returns-clause-made c = λ p m.
    let rows = c.args.rows.now in
    let hr = c.requires.shape in
    let self = c.args.self.now in
    let holds = c.args.holds.now.all.items in
    let idle : (t : ℕ) → self.tick ≤ t → t < c.args.tick → ((w : ℕ) → w < p → t < slice_index self.free.items w)
    ⊎ ((b : ℕ) → NotStarted rows self.starts.items b → IsReadyBy rows holds self.starts.items t b → ⊥) = λ t ge lt. elim (c.requires.idle.idle t ge lt) [
      | inl busy ↦ inl (λ w below. busy w (omega (arith, below, m.free.whole)))
      | inr none ↦ inr none
    ] in
    record {
      greedy = goes_on rows hr holds p _ _ _ m.greedy _ m.free m.coming c.args.tick c.requires.next c.requires.idle.before idle;
      free = m.free;
      coming = next_goes_on rows hr holds p _ _ _ m.greedy _ m.free m.coming c.args.tick c.requires.next c.requires.idle.before idle;
      fronts = m.fronts;
      queued = gathered rows hr holds _ _ _ _ _ _ c.args.tick c.requires.next m.queued c.in_ok-gather.ensures;
      few = m.few;
      some = m.some;
    }

pub returns-clause-after : goal.returns-clause-after
returns-clause-after c = c.in_ok-gather.ensures.later_left

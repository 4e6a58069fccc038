use Rattle.std.proofs.Common.{rules, ◌∙◌, ℕ, ◌<◌, inl, inr, List, [], subst, arith}
use Rattle.std.specs.Prelude.{slice_index, slice_index_or, slice_set}
use Rattle.std.proofs.lemmas.Bool.{cases_eq}
use Rattle.std.proofs.lemmas.List.{length-set}
use Rattle.boc_program.specs.declared.limits.TheConstants.{MOST_COWNS}
use Rattle.boc_sweep.specs.Freed.{in_lane, IsFreed}
use Rattle.boc_sweep.proofs.Laning.{stays_in, freed_in}
use Rattle.boc_sweep.proofs.freed.set_free.Goals as goal

pub loop-lane-preserved : goal.loop-lane-preserved
loop-lane-preserved c =
    let so_far = c.loop-lane.invariant in
    let ends : List (List ℕ) = c.loop-lane.ends in
    let i : ℕ = c.loop-lane.lane in
    let cown : ℕ = slice_index c.args.cowns.now i in
    let small : cown < MOST_COWNS = search rules in
    let next : List (List ℕ) = slice_set ends cown (slice_set (slice_index_or ends cown []) i 0) in
    record {
      whole = length-set ends cown (slice_set (slice_index_or ends cown []) i 0) ∙ so_far.whole;
      freed = λ lane h. elim (cases_eq lane i) [
        | inl e ↦ rw e (subst (λ (old : List ℕ). IsFreed cown old (in_lane i next)) (so_far.left i (omega arith))
            (freed_in ends cown i (omega (arith, small, so_far.whole))))
        | inr ne ↦ rw (stays_in ends cown i lane ne) (so_far.freed lane (omega arith))
      ];
      left = λ lane h. stays_in ends cown i lane (omega (arith, h)) ∙ so_far.left lane (omega (arith, h));
    }

use Rattle.std.proofs.Common.{◌<◌, refl, ap, ℕ, List, arith, length, ◌≡◌}
use Rattle.boc_sweep.proofs.Freeing.{placed_none}
use Rattle.std.specs.Prelude.{replicate, slice_index}
use Rattle.std.proofs.lemmas.List.{ext_get_or}
use Rattle.boc_sweep.specs.declared.lanes.TheConstants.{LANES}
use Rattle.boc_sweep.proofs.Laning.{lane_zeros, zero_in}
use Rattle.boc_sweep.proofs.freed.Placing.new.Goals as goal

-- ticks that are clones of zeros
same_zeros : (ticks : List ℕ) → length ticks ≡ LANES → ((i : ℕ) → i < LANES → slice_index ticks i ≡ slice_index (replicate LANES 0) i)
    → ticks ≡ replicate LANES 0
same_zeros ticks long same = ext_get_or 0 ticks (replicate LANES 0) long (λ i h. same i (omega (arith, h, long)))

pub returns-clause-placed : goal.returns-clause-placed
returns-clause-placed c =
    let none : length c.in_ok-with_capacity.field-0.items ≡ 0 = ap (length {A = List ℕ}) c.in_ok-with_capacity.ensures.items in
    placed_none c.args.rows.now _ none (omega (arith, c.in_ok-with_capacity.ensures.capacity, c.len.ensures.count))
    (omega (arith, c.in_ok-vec.ensures.len, c.in_ok-vec.field-0.ok.0)) (omega (arith, c.in_ok-vec-2.ensures.len, c.in_ok-vec-2.field-0.ok.0))
    (λ lane cown. rw (c.in_ok-vec.ensures.items_if_clones_equal (λ y e. same_zeros y e.long (λ i. e.at i 0 0))) (lane_zeros lane cown))
    (λ lane cown. rw (c.in_ok-vec-2.ensures.items_if_clones_equal (λ y e. same_zeros y e.long (λ i. e.at i 0 0))) (lane_zeros lane cown))
    (λ lane low. zero_in LANES lane) refl

use denote.Param.Send.{sendable}
use Rattle.std.proofs.Crossing.{crosses}
use Rattle.std.proofs.Common.{ℕ, ◌∙◌, List, subst}
use Rattle.std.specs.List.{AllZip}
use Rattle.std.specs.declared.result.Result.{Result}
use Rattle.rayon.specs.Numbers.{nat_range}
use Rattle.boc_draws.specs.declared.fault.DrawFault.{DrawFault}
use Rattle.boc_registers.proofs.Crossing.{compiled_sync}
use Rattle.boc_many_runs.specs.declared.seen.Numbers.{Numbers}
use Rattle.boc_many_runs.specs.Runs.{AreNumbersDrawn, manner}
use Rattle.boc_many_runs.proofs.Rounds.{round_of}
use Rattle.boc_many_runs.proofs.many_numbers.numbers_between.Goals as goal

pub map-requires-send-F : goal.map-requires-send-F
map-requires-send-F g c κs within = search (sendable, crosses, compiled_sync) depth 60

pub map-requires-sync-F : goal.map-requires-sync-F
map-requires-sync-F g c κs within = search (sendable, crosses, compiled_sync) depth 60

pub collect-requires-send-Self : goal.collect-requires-send-Self
collect-requires-send-Self g c κs within = search (sendable, crosses, compiled_sync) depth 60

-- the closure's `requires` at each run
pub collect-requires-clause-ready : goal.collect-requires-clause-ready
collect-requires-clause-ready g c κs within =
    let ends = c.into_par_iter.ensures in
    rw (c.map.ensures.base, c.map.ensures.f, c.with_min_len.ensures.base, ends.0, ends.1)
    (λ k d lt. (c.requires.asked, λ y p. tt))

pub returns : goal.returns
returns g c =
    let ends = c.into_par_iter.ensures in
    let h = c.in_ok-collect.ensures in
    let numbers = rw (c.map.ensures.base, c.with_min_len.ensures.base) at h.1.1 in
    let places = numbers ∙ (λ i. nat_range (ends.0 i) (ends.1 i)) in
    let came = rw c.map.ensures.f at h.1.2 in
    let Is = AreNumbersDrawn c.args.program.now c.args.asked.now (manner c.args.judging.now) in
    let each = subst (λ (l : List ℕ). AllZip (λ (number : ℕ) (r : Result Numbers DrawFault). Is number r) l h.0) places came in
    round_of Is c.args.from c.args.to h.0 c.in_ok-collect.field-0 c.requires.order each h.2

use Rattle.std.proofs.Common.{◌≡◌, ◌++◌, List, map, subst, arith}
use Rattle.std.specs.Prelude.{flat_map}
use Rattle.std.specs.List.{fold}
use Rattle.boc_many_runs.specs.declared.seen.Seen.{Seen}
use Rattle.boc_many_runs.specs.Runs.{manner}
use Rattle.boc_many_runs.specs.Union.{counted}
use Rattle.boc_many_runs.proofs.Rounds.{found_more, found_none}
use Rattle.boc_many_runs.proofs.first_pass.first_pass.Goals as goal

pub loop-done-init : goal.loop-done-init
loop-done-init g c = record {
  within = omega arith;
  found = found_none c.args.program.now c.args.asked.now (manner c.args.judging.now) c.in_ok-pass.pass.numbers.items c.in_ok-pass.pass.counted.items
      c.in_ok-pass.ensures.numbers c.in_ok-pass.ensures.counted;
}

pub loop-done-preserved : goal.loop-done-preserved
loop-done-preserved g c =
    let all : List Seen = c.in_ok-all.all.items in
    let was = c.loop-done.pass in
    let now = c.add_all.new.self in
    record {
      within = omega (arith, c.min-next.ensures);
      found = found_more c.args.program.now c.args.asked.now (manner c.args.judging.now) c.loop-done.done c.min-next.result all
          was.numbers.items now.numbers.items was.counted.items now.counted.items c.loop-done.invariant.found c.in_ok-all.ensures
          (subst (λ (l : List Seen). now.numbers.items ≡ was.numbers.items ++ map (λ (s : Seen). s.numbers) l) c.deref.ensures.value
          c.in_ok-add_all.ensures.numbers)
          (subst (λ (l : List Seen). now.counted.items ≡ fold counted was.counted.items (flat_map (λ (s : Seen). s.tried.items) l)) c.deref.ensures.value
          c.in_ok-add_all.ensures.counted);
    }

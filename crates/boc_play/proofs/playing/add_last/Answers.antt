use Rattle.std.proofs.Common.{◌≡◌, ◌<◌, ℕ, List, sym, ◌∙◌, ap, subst, arith}
use Rattle.std.specs.Prelude.{slice_index_or}
use Rattle.std.specs.List.{Contains}
use Rattle.boc_program.specs.Programs.{cown_count}
use Rattle.boc_eval.specs.Instances.{behaviour_in}
use Rattle.boc_runs.specs.Run.{member_cowns}
use Rattle.boc_play.proofs.Chaining.{read_here}
use Rattle.boc_play.proofs.Spawning.{cowns_below, told_cowns}
use Rattle.boc_play.proofs.Standing.{members}
use Rattle.boc_play.proofs.playing.add_last.Goals as goal

pub add-requires-clause-cowns : goal.add-requires-clause-cowns
add-requires-clause-cowns c = λ k d low.
    let xs = c.deref.result.now in
    let x : ℕ = slice_index_or xs k d in
    let same : xs ≡ member_cowns (members c.args.run.now) c.args.row =
    c.deref.ensures.0 ∙ sym (told_cowns (members c.args.run.now) c.args.row (behaviour_in c.in-Some.instance.now) c.in-Some.ensures) in
    let has : Contains xs x = (k, low, read_here xs k x d low) in
    let below : x < cown_count c.args.run.now.program.cowns = cowns_below c.args.run.now c.requires.run c.args.row x
    (subst (λ (cs : List ℕ). Contains cs x) same has) in
    omega (arith, below, c.requires.cowns)

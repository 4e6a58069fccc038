use Rattle.std.proofs.Common.{◌∙◌, ℕ, Bool, length, sym}
use Rattle.std.specs.List.{list_any, range_with_len}
use Rattle.boc_many_runs.specs.Lines.{outdoes_in}
use Rattle.boc_many_runs.proofs.Ranges.{any_at, outdone}
use Rattle.boc_many_runs.proofs.bests.races.Goals as goal

pub returns-then-outdoes_in : goal.returns-then-outdoes_in
returns-then-outdoes_in c =
    let test : ℕ → Bool = outdoes_in c.args.remedies.now c.args.columns.now c.args.number c.args.place in
    outdone _ (list_any test (range_with_len 0 (length c.args.remedies.now)))
    (any_at test (length c.args.remedies.now) c.loop-other.other c.loop-other-test.true (sym c.outdoes_in.ensures ∙ c.if-outdoes_in.true))

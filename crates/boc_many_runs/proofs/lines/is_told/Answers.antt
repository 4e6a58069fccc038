use Rattle.std.proofs.Common.{◌∙◌, ℕ, Bool, length, sym}
use Rattle.std.specs.List.{list_any, range_with_len}
use Rattle.boc_many_runs.specs.Lines.{outdoes_in_all}
use Rattle.boc_many_runs.proofs.Ranges.{any_at, untold}
use Rattle.boc_many_runs.proofs.lines.is_told.Goals as goal

pub returns-then-outdoes_in_all : goal.returns-then-outdoes_in_all
returns-then-outdoes_in_all c =
    let test : ℕ → Bool = outdoes_in_all c.args.remedies.now c.args.columns.now c.args.runs c.args.place in
    untold (list_any test (range_with_len 0 (length c.args.remedies.now)))
    (any_at test (length c.args.remedies.now) c.loop-other.other c.loop-other-test.true (sym c.outdoes_in_all.ensures ∙ c.if-outdoes_in_all.true))

use Rattle.std.proofs.Common.{◌≡◌, [], take}
use Rattle.std.specs.Prelude.{filter}
use Rattle.std.specs.List.{fold}
use Rattle.boc_remedies.specs.Told.{is_told, ranked_with}
use Rattle.boc_remedies.proofs.candidates.told.Given as goal

-- those that are reported of the candidates so far
abbrev pub invariant-loop-own : goal.invariant-loop-own
invariant-loop-own l = l.ranked.items ≡ fold ranked_with [] (filter (is_told l.now l.all) (take l.own-index l.all))

use Rattle.std.proofs.Common.{◌≡◌, take, false}
use Rattle.std.specs.List.{list_any}
use Rattle.boc_remedies.specs.Advice.{leaves_out}
use Rattle.boc_remedies.proofs.advice.is_untold.Given as goal

-- none of the candidates so far is the set
abbrev pub invariant-loop-own : goal.invariant-loop-own
invariant-loop-own l = list_any (λ c. leaves_out l.set c.remedy) (take l.own-index l.candidates) ≡ false

-- Of two truths.
use Rattle.std.proofs.Common.{Bool, true, false, IsTrue, refl}
use Rattle.std.specs.Prelude.{◌&&◌}
use Rattle.boc_program.specs.Syntax.{Code, Done, Assign, Work, If, Repeat, When}
use Rattle.boc_program.specs.Signatures.{whens_pass}

pub and_true : (a b : Bool) → IsTrue (a && b) → IsTrue a × IsTrue b
and_true true true h = (refl, refl)
and_true true false h = (refl, h)
and_true false b h = (h, cc)

two : (a b : Bool) → IsTrue a → IsTrue b → IsTrue (a && b)
two true b h k = k
two false b h k = absurd cc

pub all_pass : (c : Code) → IsTrue (whens_pass (λ kind es ps. true) c)
all_pass Done = refl
all_pass (Assign slot e rest) = all_pass rest
all_pass (Work e rest) = all_pass rest
all_pass (If e a b rest) = two _ _ (two _ _ (all_pass a) (all_pass b)) (all_pass rest)
all_pass (Repeat e a rest) = two _ _ (all_pass a) (all_pass rest)
all_pass (When kind args places rest) = all_pass rest

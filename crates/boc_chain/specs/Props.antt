-- That links spell a list is a proposition.
use Rattle.std.specs.Prelude.{ℕ, Bool, List, [], ◌∷◌, Option, Some, refl}
use Rattle.std.specs.Coded.{Coded, code_by, coded×, coded_bool, coded_ℕ, coded_option}
use base.Stored.{Coded-set}
use mathlib.Core.HLevel.{×_prop, Unit-prop}
use Rattle.boc_chain.specs.declared.request.Request.{Request}
use Rattle.boc_chain.specs.Links.{Tie, Spells}

tie_code : Coded Tie
tie_code = code_by (Bool × (Bool × (Option ℕ × Option ℕ))) (coded× coded_bool (coded× coded_bool (coded× (coded_option coded_ℕ) (coded_option coded_ℕ))))
    (λ t. (t.settled, (t.scheduled, (t.before, t.next)))) (λ u. record { settled = u.0; scheduled = u.1.0; before = u.1.1.0; next = u.1.1.1 }) (λ _. refl)

pub tie_set : IsSet (Option Tie)
tie_set = Coded-set (coded_option tie_code)

pub Spells-prop : (link : ℕ → ℕ → Option Tie) (c : ℕ) (b : Option ℕ) (xs : List Request) → IsProp (Spells link c b xs)
Spells-prop link c b [] = Unit-prop
Spells-prop link c b (r ∷ xs) = ×_prop (tie_set _ _) (Spells-prop link c (Some r.slot) xs)

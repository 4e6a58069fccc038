-- Rows, or none, by numbers of 16 bits.
use Rattle.std.specs.Prelude.{◌≡◌, ◌==◌, ℕ, Bool, true, false, Option, Some, None, if◌then◌else◌}
use Rattle.std.proofs.Common.{refl, sym, eqb-true}
use Rattle.boc_rules.specs.declared.before.TheConstants.{NO_ROW}

-- the row with a number, or none where no row has it
abbrev pub row_numbered : ℕ → Option ℕ
row_numbered number = if number == NO_ROW then None else Some number

-- the number of a row, or that of none
abbrev pub number_of : Option ℕ → ℕ
number_of None = NO_ROW
number_of (Some number) = number

number_at : (n : ℕ) (is : Bool) → (n == NO_ROW) ≡ is → number_of (if is then None else Some n) ≡ n
number_at n true e = sym (eqb-true n NO_ROW e)
number_at n false e = refl

-- the number of the row with a number is that number
pub number_again : (n : ℕ) → number_of (row_numbered n) ≡ n
number_again n = number_at n (n == NO_ROW) refl

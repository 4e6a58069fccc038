-- Texts that are alike, in one group.
use Rattle.std.specs.Prelude.{◌≡◌, ℕ, suc, ◌<◌, ◌⊎◌, List, [], ◌∷◌, length, map}
use Rattle.boc_names.specs.Names.{Text, text_at}

-- Numbers stand in the order in which they come first, where this one is the next, and this one is left next: each is one that was there, or the next one.
abbrev pub CountUp : ℕ → List ℕ → ℕ → Type 0
CountUp next [] left = next ≡ left
CountUp next (number ∷ numbers) left = ((number < next) × CountUp next numbers left) ⊎ ((number ≡ next) × CountUp (suc next) numbers left)

-- no two of the names are the same
abbrev pub AreDistinct : List Text → Type 0
AreDistinct names = (i j : ℕ) → i < length names → j < length names → text_at names i ≡ text_at names j → i ≡ j

-- each text is the name at its number; the names are distinct, and numbered in the order in which they come first
pub record IsGrouping (texts : List Text) (numbers : List ℕ) (names : List Text) : Type 0 where
  pub called : texts ≡ map (text_at names) numbers
  pub in_order : CountUp 0 numbers (length names)
  pub distinct : AreDistinct names

-- Lists of which one item is changed.
use Rattle.std.specs.Prelude.{ℕ, List, Option, Some, None, slice_set}

-- a list with the item at a place changed, where one is there
abbrev pub changed : {A : Type 0} → List A → ℕ → (A → A) → Option A → List A
changed items place change None = items
changed items place change (Some item) = slice_set items place (change item)

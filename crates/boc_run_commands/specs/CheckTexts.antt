-- The text of how many rows a record has.
use Rattle.std.specs.Prelude.{ℕ, List, ◌++◌, codes, decimal}

-- how many rows a record has
abbrev pub check_text : ℕ → List ℕ
check_text rows = codes "ok " ++ decimal rows ++ codes "\n"

-- The text of all ends of a program.
use Rattle.std.specs.Prelude.{◌≡◌, ℕ, suc, min, max, Bool, true, false, ◌&&◌, List, [], ◌∷◌, ◌++◌, length, codes, decimal}
use Rattle.boc_program.specs.declared.cown.Cown.{Cown}
use Rattle.boc_program.specs.Programs.{cown_count}
use Rattle.boc_ends_report.specs.ValueTexts.{values_text}
use Rattle.boc_all_ends.specs.declared.found.End.{End}
use Rattle.boc_all_ends.specs.declared.found.Found.{Found}

-- the end has a value for each cown
abbrev pub HasAllValues : List Cown → End → Type 0
HasAllValues cowns end = length end.values.items ≡ cown_count cowns

-- the line of whether there are no other ends, or of how many rows whole runs have no others
abbrev pub scope_line : Bool → ℕ → List ℕ
scope_line true below = codes "all yes\n"
scope_line false below = codes "all below " ++ decimal below ++ codes "\n"

-- the line of how many fronts were looked at
abbrev pub fronts_line : ℕ → List ℕ
fronts_line fronts = codes "fronts " ++ decimal fronts ++ codes "\n"

-- what ends in the least and the greatest number of rows
abbrev pub rows_line : ℕ → ℕ → List ℕ
rows_line least most = codes "rows " ++ decimal least ++ codes " " ++ decimal most ++ codes "\n"

-- the least of a number and of the least numbers of rows of ends
abbrev pub least_of : ℕ → List End → ℕ
least_of n [] = n
least_of n (e ∷ ends) = least_of (min n e.least) ends

-- the greatest of a number and of the greatest numbers of rows of ends
abbrev pub most_of : ℕ → List End → ℕ
most_of n [] = n
most_of n (e ∷ ends) = most_of (max n e.most) ends

-- the line of the least and the greatest number of rows of all ends; where there is no end there is no line
abbrev pub bounds_line : List End → List ℕ
bounds_line [] = []
bounds_line (e ∷ ends) = rows_line (least_of e.least ends) (most_of e.most ends)

-- the line of runs that need more rows than there may be, if there are any
abbrev pub endless_line : Bool → List ℕ
endless_line true = codes "endless\n"
endless_line false = []

-- an end: its number and its numbers of rows, and the lines of its values
abbrev pub end_text : List Cown → ℕ → End → List ℕ
end_text cowns number end = codes "end " ++ decimal number ++ codes " " ++ rows_line end.least end.most ++ values_text cowns end.values.items

-- ends, one after the other, numbered from a number on
abbrev pub end_texts : List Cown → ℕ → List End → List ℕ
end_texts cowns number [] = []
end_texts cowns number (e ∷ ends) = end_text cowns number e ++ end_texts cowns (suc number) ends

-- what is told of the ends: the least and the greatest number of rows of all, whether some run needs more rows than there may be, and each end
abbrev pub told_ends : List Cown → Bool → List End → List ℕ
told_ends cowns endless ends = bounds_line ends ++ endless_line endless ++ end_texts cowns 1 ends

-- all of it: whether there are no other ends, how many fronts were looked at, and what is told of the ends; of endless runs nothing is told where the
-- search has stopped
abbrev pub ends_text : List Cown → Found → List ℕ
ends_text cowns found =
    scope_line found.whole found.below ++ fronts_line found.fronts ++ told_ends cowns (found.whole && found.endless) found.all.items

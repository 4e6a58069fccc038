-- How what would bring the end forward is told.
use Rattle.std.specs.Prelude.{◌-◌, ℕ, List, [], ◌∷◌, ◌++◌, length, map, flat_map, take, cond, nat_lt, Option, Some, None, codes, decimal}
use Rattle.boc_table.specs.declared.side.Side.{Side}
use Rattle.boc_table.specs.declared.side.Side.TheVariants.{Left, Right}
use Rattle.boc_table.specs.Tables.{table_text}
use Rattle.boc_names.specs.declared.names.Names.{Names}
use Rattle.boc_names.specs.Names.{Text, text_at, texts_of}
use Rattle.boc_why_report.specs.WhyTexts.{workers_word}
use Rattle.boc_remedies.specs.declared.candidates.Candidate.{Candidate}
use Rattle.boc_remedies.specs.declared.ends.Ends.{Ends}
use Rattle.boc_remedies.specs.declared.remedy.Remedy.{Remedy}
use Rattle.boc_remedies.specs.declared.remedy.Remedy.TheVariants.{HalfCost, NoOrder, EarlySpawns}
use Rattle.boc_remedies.specs.declared.together.Together.{Together}
use Rattle.boc_advice_report.specs.declared.candidates.TheConstants.{MOST_LISTED}

-- ---- names

-- families behind others, by their names
abbrev pub more_families : Names → List ℕ → Text
more_families names families = flat_map (λ f. codes " and " ++ text_at (texts_of names.family_names.items) f) families

-- families, by their names
abbrev pub families_text : Names → List ℕ → Text
families_text names [] = []
families_text names (f ∷ families) = text_at (texts_of names.family_names.items) f ++ more_families names families

-- what a remedy is called
abbrev pub remedy_text : Names → Remedy → Text
remedy_text names (HalfCost def) = text_at (texts_of names.def_names.items) def ++ codes " at 1/2"
remedy_text names (NoOrder set) = codes "without " ++ families_text names set
remedy_text names (EarlySpawns def) = codes "early spawns by " ++ text_at (texts_of names.def_names.items) def

-- by how much an end is sooner than it was, with a sign where it is later
abbrev pub saved_text : ℕ → ℕ → Text
saved_text was now = cond (nat_lt was now) (codes "-" ++ decimal (now - was)) (decimal (was - now))

-- a number of workers
abbrev pub count_text : ℕ → Text
count_text p = decimal p ++ workers_word p

-- ---- lists

-- how many more there are
abbrev pub more_text : ℕ → Text
more_text count = codes "  " ++ decimal count ++ codes " more"

-- the sides of a list's columns: a name, the span and how much sooner that is; before these the same of the greedy plan, where there is one
abbrev pub sides_for : Option ℕ → List Side
sides_for None = Left ∷ Right ∷ Right ∷ []
sides_for (Some end) = Left ∷ Right ∷ Right ∷ Right ∷ Right ∷ []

-- the same for these ends
abbrev pub list_sides : Ends → List Side
list_sides ends = sides_for ends.greedy

-- what stands above the names of a list, under this word
abbrev pub head_name : Text → Option ℕ → Text
head_name word None = word
head_name word (Some p) = word ++ codes " for " ++ count_text p

-- what stands above the numbers of a list, with a greedy plan's where there is one
abbrev pub numbers_head : Option ℕ → List Text
numbers_head None = codes "span" ∷ codes "less" ∷ []
numbers_head (Some end) = codes "end" ∷ codes "less" ∷ codes "span" ∷ codes "less" ∷ []

-- what stands above the columns of a list of changes, under this word
abbrev pub list_head : Text → Option ℕ → Ends → List Text
list_head word workers now = head_name word workers ∷ numbers_head now.greedy

-- the end of a greedy plan, where there is one
abbrev pub end_text : Option ℕ → Text
end_text None = []
end_text (Some end) = decimal end

-- by how much it is sooner than it was, where there was one and is
abbrev pub end_saved : Option ℕ → Option ℕ → Text
end_saved None left = []
end_saved (Some was) None = []
end_saved (Some was) (Some end) = saved_text was end

-- what is left of an end, and how much sooner that is than it was, in a list for these greedy ends
abbrev pub left_texts : Option ℕ → Ends → Ends → List Text
left_texts None was left = decimal left.span ∷ saved_text was.span left.span ∷ []
left_texts (Some end) was left =
    end_text left.greedy ∷ end_saved was.greedy left.greedy ∷ decimal left.span ∷ saved_text was.span left.span ∷ []

-- the line of a change, by its name, in a list for these ends: what is left, and how much sooner that is than it was
abbrev pub ends_texts : Text → Ends → Ends → Ends → List Text
ends_texts name now was left = name ∷ left_texts now.greedy was left

-- empty cells for the numbers of a line, where there is a greedy plan, or none
abbrev pub empty_for : Option ℕ → List Text
empty_for None = [] ∷ [] ∷ []
empty_for (Some end) = [] ∷ [] ∷ [] ∷ [] ∷ []

-- the same for these ends
abbrev pub no_numbers : Ends → List Text
no_numbers now = empty_for now.greedy

-- the line behind a list of so many, where that is more than are told
abbrev pub more_line : ℕ → List Text → List (List Text)
more_line count empty = cond (nat_lt MOST_LISTED count) ((more_text (count - MOST_LISTED) ∷ empty) ∷ []) []

-- ---- candidates

-- what a candidate is called in a list
abbrev pub candidate_name : Names → Candidate → Text
candidate_name names c = codes "  " ++ remedy_text names c.remedy

-- the line of a candidate
abbrev pub candidate_texts : Names → Ends → Candidate → List Text
candidate_texts names now c = ends_texts (candidate_name names c) now now c.ends

-- the lines of the candidates: the first, and how many more there are
abbrev pub candidates_lines : Names → Option ℕ → Ends → List Candidate → List (List Text)
candidates_lines names workers now candidates = list_head (codes "candidates") workers now
    ∷ map (candidate_texts names now) (take MOST_LISTED candidates) ++ more_line (length candidates) (no_numbers now)

-- the table of the candidates
abbrev pub candidates_table : Names → Option ℕ → Ends → List Candidate → Text
candidates_table names workers now candidates = table_text (list_sides now) (candidates_lines names workers now candidates)

-- ---- several cowns at once

-- what several cowns are called
abbrev pub set_name : Names → Option (List ℕ) → Text
set_name names None = codes "every cown"
set_name names (Some set) = families_text names set

-- the same behind two blanks
abbrev pub set_text : Names → Together → Text
set_text names own = codes "  " ++ set_name names own.families

-- the ends without several cowns, in a table for these greedy ends
abbrev pub without_texts : Option ℕ → Ends → List Text
without_texts None ends = decimal ends.span ∷ []
without_texts (Some end) ends = end_text ends.greedy ∷ decimal ends.span ∷ []

-- the line of several cowns
abbrev pub together_line : Names → Option ℕ → Together → List Text
together_line names greedy own = set_text names own ∷ without_texts greedy own.ends

-- the sides of the columns, where there is a greedy plan, or none
abbrev pub together_sides : Option ℕ → List Side
together_sides None = Left ∷ Right ∷ []
together_sides (Some end) = Left ∷ Right ∷ Right ∷ []

-- what stands above the columns
abbrev pub together_head : Option ℕ → List Text
together_head None = codes "several cowns at once" ∷ codes "without" ∷ []
together_head (Some end) = codes "several cowns at once" ∷ codes "end without" ∷ codes "without" ∷ []

-- empty cells for the numbers of a line
abbrev pub no_ends : Option ℕ → List Text
no_ends None = [] ∷ []
no_ends (Some end) = [] ∷ [] ∷ []

-- the lines of several cowns at once: the first, and how many more there are
abbrev pub together_lines : Names → Option ℕ → List Together → List (List Text)
together_lines names greedy together =
    together_head greedy ∷ map (together_line names greedy) (take MOST_LISTED together) ++ more_line (length together) (no_ends greedy)

-- the table of several cowns at once, with greedy ends where there is one
abbrev pub sets_table : Names → Option ℕ → List Together → Text
sets_table names greedy together = table_text (together_sides greedy) (together_lines names greedy together)

-- the same, with greedy ends where the first has one; nothing where it has no lines
abbrev pub together_table : Names → List Together → Text
together_table names [] = []
together_table names (own ∷ others) = sets_table names own.ends.greedy (own ∷ others)

-- The definition of the text of all ends tried on those of a program with a cown and an array.
use Rattle.std.proofs.Common.{◌≡◌, true, false, List, [], ◌∷◌, ◌++◌, Some, None, ap, arith, codes, decimal, length, pos}
use Rattle.std.specs.Prelude.{◌&&◌, min, max}
use Rattle.std.specs.Fmt.{digits}
use Rattle.boc_program.specs.declared.cown.Cown.{Cown}
use Rattle.boc_ends_report.specs.ValueTexts.{values_text}
use Rattle.boc_all_ends.specs.declared.found.End.{End}
use Rattle.boc_all_ends.specs.declared.found.Found.{Found}
use Rattle.boc_all_ends_report.specs.EndTexts.{HasAllValues, bounds_line, end_text, ends_text, fronts_line, rows_line, scope_line, told_ends}

abbrev cowns : List Cown
cowns = (record { name = codes "a"; size = None; initial = pos 0 }) ∷ (record { name = codes "b"; size = Some 2; initial = pos 0 }) ∷ []

-- the second end, which whole runs of 5 to 7 rows come to
text_of_one : (e : End) → e.least ≡ 5 → e.most ≡ 7 → e.values.items ≡ pos 10 ∷ pos 1 ∷ pos 2 ∷ []
    → end_text cowns 2 e ≡ codes "end 2 rows 5 7\na 10\nb[0] 1\nb[1] 2\n"
unfolding digits
text_of_one e least most values = λ i.
    codes "end " ++ decimal 2 ++ codes " " ++ rows_line (least i) (most i) ++ values_text cowns (values i)

-- what is told of the least and the greatest number of rows of two
bounds_of_two : (e f : End) → e.least ≡ 5 → e.most ≡ 7 → f.least ≡ 4 → f.most ≡ 6 → bounds_line (e ∷ f ∷ []) ≡ codes "rows 4 7\n"
unfolding digits
bounds_of_two e f least most other_least other_most = λ i. rows_line (min (least i) (other_least i)) (max (most i) (other_most i))

-- a search that went through all fronts, and found that no run comes to an end
text_of_none : (f : Found) → f.whole ≡ true → f.below ≡ 65536 → f.endless ≡ true → f.fronts ≡ 65535 → f.all.items ≡ []
    → ends_text cowns f ≡ codes "all yes\nfronts 65535\nendless\n"
unfolding digits
text_of_none f whole below endless fronts none = λ i.
    scope_line (whole i) (below i) ++ fronts_line (fronts i) ++ told_ends cowns (whole i && endless i) (none i)

-- a search that stopped: of endless runs nothing is told
text_of_stopped : (f : Found) → f.whole ≡ false → f.below ≡ 3 → f.fronts ≡ 2 → f.all.items ≡ []
    → ends_text cowns f ≡ codes "all below 3\nfronts 2\n"
unfolding digits
text_of_stopped f whole below fronts none = λ i.
    scope_line (whole i) (below i) ++ fronts_line (fronts i) ++ told_ends cowns (whole i && f.endless) (none i)

-- a value fewer are not all
too_few : (e : End) → e.values.items ≡ pos 10 ∷ pos 1 ∷ [] → HasAllValues cowns e → ⊥
too_few e values all = let two : length e.values.items ≡ 2 = ap length values in omega (arith, two, all)

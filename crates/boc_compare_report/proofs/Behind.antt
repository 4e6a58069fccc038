-- Lines that are put one behind the other.
use Rattle.std.proofs.Common.{◌≡◌, ◌++◌, ◌∙◌, List, append_assoc, ap}
use Rattle.boc_names.specs.Names.{Text}
use Rattle.boc_table.specs.Tables.{Grid}

-- more lines behind those that were put behind some
pub behind_both : (own one two : Grid) (a b : List (List Text)) → one ≡ record own { lines = own.lines ++ a }
    → two ≡ record one { lines = one.lines ++ b } → two ≡ record own { lines = own.lines ++ (a ++ b) }
behind_both own one two a b first second =
    second ∙ (ap (λ (g : Grid). record g { lines = g.lines ++ b }) first
    ∙ ap (λ (lines : List (List Text)). record own { lines = lines }) (append_assoc own.lines a b))

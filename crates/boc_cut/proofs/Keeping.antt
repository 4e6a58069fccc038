-- The cowns of a row of a record, looked at one after the other.
use Rattle.std.proofs.Common.{◌≡◌, ◌<◌, ◌+◌, ◌∙◌, ◌∷◌, ◌++◌, ℕ, List, [], Option, Some, length, length-append, subst, ap, sym, inl, inr, arith}
use Rattle.std.specs.Option.{option_map_or}
use Rattle.std.specs.Prelude.{slice_get, slice_index}
use Rattle.boc_rules.proofs.Lists.{got_push}
use Rattle.boc_runs.specs.declared.rows.Row.{Row as Kept}
use Rattle.boc_runs.specs.Rows.{cowns_of}
use Rattle.boc_cut.specs.declared.table.CownUse.{CownUse}
use Rattle.boc_cut.specs.declared.table.Row.{Row}
use Rattle.boc_cut.specs.Windows.{HasCown, ComesFrom}

pub kept_at : (kept : List ℕ) (uses : List CownUse) (held : List ℕ) (place number : ℕ) → number ≡ slice_index held place → number < length kept
    → HasCown uses (slice_index kept number) → (slice_index held place < length kept) × HasCown uses (slice_index kept (slice_index held place))
kept_at kept uses held place number is below has =
    (subst (λ (m : ℕ). m < length kept) is below, subst (λ (m : ℕ). HasCown uses (slice_index kept m)) is has)

-- the cowns of a row that is there
pub cowns_at : (rows : List Kept) (number : ℕ) (row : Kept) → slice_get rows number ≡ Some row → cowns_of rows number ≡ row.cowns.items
cowns_at rows number row is = ap (λ o. option_map_or (λ x. x.cowns.items) o []) is

-- each of these rows comes from the table
abbrev pub AreFrom : List Row → List CownUse → List ℕ → List Kept → List (Option ℕ) → Type 0
AreFrom rows uses kept made origins = (row : ℕ) (origin : Option ℕ) → slice_get origins row ≡ Some origin
    → ComesFrom rows uses kept (cowns_of made row) origin

-- one more does
pub one_more : (rows : List Row) (uses : List CownUse) (kept : List ℕ) (made : List Kept) (origins : List (Option ℕ)) (number : ℕ) (row : Kept)
    (origin : Option ℕ) → length origins ≡ number → AreFrom rows uses kept made origins → slice_get made number ≡ Some row
    → ComesFrom rows uses kept row.cowns.items origin
    → (length (origins ++ origin ∷ []) ≡ number + 1) × AreFrom rows uses kept made (origins ++ origin ∷ [])
one_more rows uses kept made origins number row origin count each there comes = (
  (let more : length (origins ++ origin ∷ []) ≡ length origins + 1 = length-append origins (origin ∷ []) in omega (arith, more, count)),
  λ r o is. elim (got_push origins r origin o is) [
    | inl old ↦ each r o old
    | inr p ↦
        subst (λ (x : Option ℕ). ComesFrom rows uses kept (cowns_of made r) x) p.1
        (subst (λ (n : ℕ). ComesFrom rows uses kept (cowns_of made n) origin) (sym (p.0 ∙ count))
        (subst (λ (cs : List ℕ). ComesFrom rows uses kept cs origin) (sym (cowns_at made number row there)) comes))
  ],
)

-- A remedy keeps the number of rows.
use Rattle.std.proofs.Common.{◌≡◌, ◌∙◌, ℕ, suc, ◌==◌, Bool, true, false, List, [], ◌∷◌, length, ap, refl}
use Rattle.boc_runs.specs.declared.rows.Row.{Row}
use Rattle.boc_plans.specs.Edits.{AreEdited}
use Rattle.boc_links.proofs.LessCowns.{length-without_all}
use Rattle.boc_why.specs.Causes.{def_edits, half}
use Rattle.boc_remedies.specs.declared.remedy.Remedy.{Remedy}
use Rattle.boc_remedies.specs.declared.remedy.Remedy.TheVariants.{HalfCost, NoOrder, EarlySpawns}
use Rattle.boc_remedies.specs.Families.{members_of}
use Rattle.boc_remedies.specs.Remedies.{AreRowsWith}

-- where a def's behaviours cost half as much
length-halved : (def row : ℕ) (defs : List ℕ) (rows after : List Row) → AreEdited rows (def_edits half def row defs) after → length after ≡ length rows
length-halved def row [] rows after edited = ap (length {A = Row}) edited
length-halved def row (d ∷ defs) rows after edited = by (d == def) refl (length-halved def (suc row) defs)
  where
    by : (b : Bool) → (d == def) ≡ b → ((list next : List Row) → AreEdited list (def_edits half def (suc row) defs) next → length next ≡ length list)
        → length after ≡ length rows
    by true e further =
        let h = rw e at edited in
        further h.0 after h.2 ∙ h.1.1.whole
    by false e further = further rows after (rw e at edited)

pub length-after : (rows : List Row) (defs families : List ℕ) (remedy : Remedy) (after : List Row) → AreRowsWith rows defs families remedy after
    → length after ≡ length rows
length-after rows defs families (HalfCost def) after with_it = length-halved def 0 defs rows after with_it
length-after rows defs families (NoOrder set) after with_it = ap (length {A = Row}) with_it ∙ length-without_all (members_of set families) rows
length-after rows defs families (EarlySpawns def) after with_it = with_it.whole

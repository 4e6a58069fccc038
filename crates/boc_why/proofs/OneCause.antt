-- With a cause changed rows are one list.
use Rattle.std.proofs.Common.{◌≡◌, ◌∙◌, ℕ, List, [], ◌∷◌, subst, sym}
use Rattle.boc_runs.specs.declared.rows.Row.{Row}
use Rattle.boc_runs.proofs.Scaling.{one_scaling}
use Rattle.boc_plans.specs.declared.edit.Change.{Change}
use Rattle.boc_plans.specs.declared.edit.Change.TheVariants.{Ticks, Offset, Cost}
use Rattle.boc_plans.specs.declared.edit.Edit.{Edit}
use Rattle.boc_plans.specs.Edits.{AreEdited, IsChanged}
use Rattle.boc_why.specs.declared.causes.Cause.{Cause}
use Rattle.boc_why.specs.declared.causes.Cause.TheVariants as causes
use Rattle.boc_why.specs.Causes.{IsWith, def_edits, half}
use Rattle.boc_why.proofs.EarlySpawns.{one_early}

one_change : (rows : List Row) (row : ℕ) (change : Change) (after other : List Row) → IsChanged rows row change after → IsChanged rows row change other
    → after ≡ other
one_change rows row (Ticks ticks) after other a b = a.1 ∙ sym b.1
one_change rows row (Offset offset) after other a b = a.1 ∙ sym b.1
one_change rows row (Cost part) after other a b = one_scaling rows row part.over part.under after other a.1 b.1

-- rows are one list after edits
pub one_edited : (rows : List Row) (edits : List Edit) (after other : List Row) → AreEdited rows edits after → AreEdited rows edits other → after ≡ other
one_edited rows [] after other a b = a ∙ sym b
one_edited rows (edit ∷ edits) after other a b =
    let same : a.0 ≡ b.0 = one_change rows edit.row edit.change a.0 b.0 a.1 b.1 in
    one_edited b.0 edits after other (subst (λ (list : List Row). AreEdited list edits after) same a.2) b.2

pub one_with : (rows : List Row) (defs : List ℕ) (cause : Cause) (after other : List Row) → IsWith rows defs cause after → IsWith rows defs cause other
    → after ≡ other
one_with rows defs (causes.Cost def) after other a b = one_edited rows (def_edits half def 0 defs) after other a b
one_with rows defs (causes.Order cowns) after other a b = a ∙ sym b
one_with rows defs (causes.Spawns def) after other a b = one_early rows defs def after other a b

-- Edits made one after the other.
use Rattle.std.proofs.Common.{zero, suc, get_or, length, take, drop, ◌≡◌, ℕ, ◌+◌, ◌<◌, ◌∷◌, List, [], ◌++◌, refl, sym, ap, subst, ◌∙◌, arith}
use Rattle.boc_runs.specs.declared.rows.Row.{Row}
use Rattle.boc_plans.specs.declared.edit.Edit.{Edit}
use Rattle.boc_plans.specs.declared.edit.EditFault.{EditFault}
use Rattle.boc_plans.specs.Edits.{AreEdited, IsChanged, IsEditFault, IsFirstUnfit}

edited_more : (rows now after : List Row) (edits : List Edit) (i : ℕ) (d : Edit) → i < length edits → AreEdited rows (take i edits) now
    → IsChanged now (get_or edits i d).row (get_or edits i d).change after → AreEdited rows (take (suc i) edits) after
edited_more rows now after [] i d h made changed = absurd (omega (arith, h))
edited_more rows now after (edit ∷ edits) zero d h made changed =
    (after, subst (λ (list : List Row). IsChanged list edit.row edit.change after) made changed, refl)
edited_more rows now after (edit ∷ edits) (suc i) d h made changed =
    (made.0, made.1, edited_more made.0 now after edits i d (omega (arith, h)) made.2 changed)

add_one : (i : ℕ) → i + 1 ≡ suc i
add_one i = omega arith

-- the rows after this edit are those after all up to it
pub edited_next : (rows now after : List Row) (edits : List Edit) (i : ℕ) (d : Edit) → i < length edits → AreEdited rows (take i edits) now
    → IsChanged now (get_or edits i d).row (get_or edits i d).change after → AreEdited rows (take (i + 1) edits) after
edited_next rows now after edits i d h made changed =
    subst (λ (n : ℕ). AreEdited rows (take n edits) after) (sym (add_one i)) (edited_more rows now after edits i d h made changed)

-- the edits before one, that edit, and those after it
around : (edits : List Edit) (i : ℕ) (d : Edit) → i < length edits → edits ≡ take i edits ++ (get_or edits i d ∷ drop (suc i) edits)
around [] i d h = absurd (omega (arith, h))
around (edit ∷ edits) zero d h = refl
around (edit ∷ edits) (suc i) d h = ap (λ xs. edit ∷ xs) (around edits i d (omega (arith, h)))

length_before : (edits : List Edit) (i : ℕ) → i < length edits → length (take i edits) ≡ i
length_before [] i h = absurd (omega (arith, h))
length_before (edit ∷ edits) zero h = refl
length_before (edit ∷ edits) (suc i) h = ap suc (length_before edits i (omega (arith, h)))

-- the first edit that does not fit
pub first_unfit : (rows now : List Row) (edits : List Edit) (i : ℕ) (d : Edit) (fault : EditFault) → i < length edits → AreEdited rows (take i edits) now
    → IsEditFault now (get_or edits i d) fault → IsFirstUnfit rows edits (i + 1) fault
first_unfit rows now edits i d fault h made wrong = record {
  before = take i edits;
  edit = get_or edits i d;
  after = drop (suc i) edits;
  split = around edits i d h;
  number_is = ap (λ n. n + 1) (sym (length_before edits i h));
  made = now;
  edited = made;
  wrong = wrong;
}

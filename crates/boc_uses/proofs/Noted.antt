-- Uses that are noted in two parts.
use Rattle.std.proofs.Common.{◌≡◌, ◌≤◌, ℕ, ◌-◌, List, [], ◌∷◌, ◌++◌, refl, sym, ap, ◌∙◌, Option, Ok, ℤ, arith, length, take, drop, get_or}
use Rattle.std.proofs.Math.Seq.{take-length}
use Rattle.boc_uses.specs.declared.uses.Use.{Use}
use Rattle.boc_program.specs.declared.body.Operator.{Operator}
use Rattle.boc_program.specs.Syntax.{SlotExpr, Binary, CownRef}
use Rattle.boc_program.specs.Value.{OrFault, value}
use Rattle.boc_program.specs.Meaning.{State, cown_of}
use Rattle.boc_uses.specs.Uses.{SlotUse, all_slots_read, if_value, reads, ref_slots_read, refs_slots_read, slots_read}
use Rattle.boc_uses.specs.Noting.{noted, noted_all}

pub noted_append : (params : ℕ) (uses : List (Option Use)) (us vs : List SlotUse)
    → noted_all params uses (us ++ vs) ≡ noted_all params (noted_all params uses us) vs
noted_append params uses [] vs = refl
noted_append params uses (u ∷ us) vs = noted_append params (noted params uses u) us vs

-- reads of the slots of two lists
pub reads_append : (tick : ℕ) (own : Option ℕ) (xs ys : List ℕ) → reads tick own (xs ++ ys) ≡ reads tick own xs ++ reads tick own ys
reads_append tick own [] ys = refl
reads_append tick own (x ∷ xs) ys = rw (reads_append tick own xs ys)

-- what is read after something else was
pub read_then : (params tick : ℕ) (own : Option ℕ) (u0 u1 u2 : List (Option Use)) (xs ys : List ℕ)
    → u1 ≡ noted_all params u0 (reads tick own xs) → u2 ≡ noted_all params u1 (reads tick own ys)
    → u2 ≡ noted_all params u0 (reads tick own (xs ++ ys))
read_then params tick own u0 u1 u2 xs ys e f =
    f ∙ ap (λ u. noted_all params u (reads tick own ys)) e
    ∙ sym (noted_append params u0 (reads tick own xs) (reads tick own ys))
    ∙ ap (noted_all params u0) (sym (reads_append tick own xs ys))

-- what an expression with two operands reads, the first of which has a value
pub read_pair : (params tick : ℕ) (own : Option ℕ) (u0 u1 u2 : List (Option Use)) (op : Operator) (a b : SlotExpr) (slots : List ℤ) (v : ℤ)
    → Ok v ≡ value a slots → u1 ≡ noted_all params u0 (reads tick own (slots_read a slots)) → u2 ≡ noted_all params u1 (reads tick own (slots_read b slots))
    → u2 ≡ noted_all params u0 (reads tick own (slots_read (Binary op a b) slots))
read_pair params tick own u0 u1 u2 op a b slots v is e f =
    read_then params tick own u0 u1 u2 (slots_read a slots) (slots_read b slots) e f
    ∙ ap (λ (r : OrFault ℤ). noted_all params u0 (reads tick own (slots_read a slots ++ if_value r (λ v. slots_read b slots)))) is

-- a list that has a first item
pub split_first : {A : Type 0} (xs : List A) (x : A) → 1 ≤ length xs → x ≡ get_or xs 0 x → xs ≡ x ∷ take (length xs - 1) (drop 1 xs)
split_first [] x h e = absurd (omega arith)
split_first (y ∷ xs) x h e =
    let n : length (y ∷ xs) - 1 ≡ length xs = omega arith in
    λ i. sym e i ∷ (sym (take-length xs) ∙ ap (λ n. take n xs) (sym n)) i

-- what the first of several expressions reads, and then the others
pub read_first : (params tick : ℕ) (own : Option ℕ) (u0 u1 u2 : List (Option Use)) (e : SlotExpr) (es : List SlotExpr) (slots : List ℤ) (v : ℤ)
    → Ok v ≡ value e slots → u1 ≡ noted_all params u0 (reads tick own (slots_read e slots))
    → u2 ≡ noted_all params u1 (reads tick own (all_slots_read es slots))
    → u2 ≡ noted_all params u0 (reads tick own (all_slots_read (e ∷ es) slots))
read_first params tick own u0 u1 u2 e es slots v is f g =
    read_then params tick own u0 u1 u2 (slots_read e slots) (all_slots_read es slots) f g
    ∙ ap (λ (r : OrFault ℤ). noted_all params u0 (reads tick own (slots_read e slots ++ if_value r (λ v. all_slots_read es slots)))) is

-- what the first of several references reads, and then the others
pub read_first_ref : (params : ℕ) (own : Option ℕ) (u0 u1 u2 : List (Option Use)) (r : CownRef) (rs : List CownRef) (s : State) (cown : ℕ)
    → Ok cown ≡ cown_of r s → u1 ≡ noted_all params u0 (reads s.ticks own (ref_slots_read r s.slots))
    → u2 ≡ noted_all params u1 (reads s.ticks own (refs_slots_read rs s))
    → u2 ≡ noted_all params u0 (reads s.ticks own (refs_slots_read (r ∷ rs) s))
read_first_ref params own u0 u1 u2 r rs s cown is f g =
    read_then params s.ticks own u0 u1 u2 (ref_slots_read r s.slots) (refs_slots_read rs s) f g
    ∙ ap (λ (c : OrFault ℕ). noted_all params u0 (reads s.ticks own (ref_slots_read r s.slots ++ if_value c (λ c. refs_slots_read rs s)))) is

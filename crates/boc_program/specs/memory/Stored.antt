-- How what a body says is stored: as a tree of numbers, from which it can be read back.
use Rattle.std.specs.Prelude.{◌≡◌, List, [], ◌∷◌, ℤ, pos, negsuc, refl, zero, suc, slice_index_or}
use mathlib.Core.Path.{sym, ap, ◌∙◌}
use base.Stored.{Coded, Gv, gnil, gnum, gcons}
use Rattle.boc_program.specs.declared.body.Operator.{Operator}
use Rattle.boc_program.specs.declared.body.Operator.TheVariants as op
use Rattle.boc_program.specs.Syntax.{SlotExpr, Number, Slot, Negate, Binary, CownRef, Held, Single, Member, Code, Done, Assign, Work, If, Repeat, When}

-- a type whose values can be read back from where they are stored
abbrev by_back : {A : Type 0} (code : A → Gv) (back : Gv → A) → ((x : A) → back (code x) ≡ x) → Coded A
by_back code back law = record { code = code; inj = λ x y p. sym (law x) ∙ ap back p ∙ law y }

abbrev integer : ℤ → Gv
integer (pos n) = gcons (gnum 0) (gnum n)
integer (negsuc n) = gcons (gnum 1) (gnum n)

pub integer_back : Gv → ℤ
integer_back (gcons (gnum (suc zero)) (gnum n)) = negsuc n
integer_back (gcons a (gnum n)) = pos n
integer_back _ = pos 0

pub integer_law : (z : ℤ) → integer_back (integer z) ≡ z
unfolding integer_back
integer_law (pos n) = refl
integer_law (negsuc n) = refl

abbrev operator : Operator → Gv
operator op.Add = gnum 0
operator op.Subtract = gnum 1
operator op.Multiply = gnum 2
operator op.Divide = gnum 3
operator op.Remainder = gnum 4
operator op.Equal = gnum 5
operator op.NotEqual = gnum 6
operator op.Less = gnum 7
operator op.AtMost = gnum 8
operator op.Greater = gnum 9
operator op.AtLeast = gnum 10

operators : List Operator
operators = op.Add ∷ op.Subtract ∷ op.Multiply ∷ op.Divide ∷ op.Remainder ∷ op.Equal ∷ op.NotEqual ∷ op.Less ∷ op.AtMost ∷ op.Greater ∷ op.AtLeast ∷ []

pub operator_back : Gv → Operator
operator_back (gnum n) = slice_index_or operators n op.Add
operator_back _ = op.Add

pub operator_law : (o : Operator) → operator_back (operator o) ≡ o
unfolding operator_back operators
operator_law op.Add = refl
operator_law op.Subtract = refl
operator_law op.Multiply = refl
operator_law op.Divide = refl
operator_law op.Remainder = refl
operator_law op.Equal = refl
operator_law op.NotEqual = refl
operator_law op.Less = refl
operator_law op.AtMost = refl
operator_law op.Greater = refl
operator_law op.AtLeast = refl

abbrev slot_expr : SlotExpr → Gv
slot_expr (Number z) = gcons (gnum 0) (integer z)
slot_expr (Slot i) = gcons (gnum 1) (gnum i)
slot_expr (Negate e) = gcons (gnum 2) (slot_expr e)
slot_expr (Binary o a b) = gcons (gnum 3) (gcons (operator o) (gcons (slot_expr a) (slot_expr b)))

pub slot_expr_back : Gv → SlotExpr
slot_expr_back (gcons (gnum zero) z) = Number (integer_back z)
slot_expr_back (gcons (gnum (suc zero)) (gnum i)) = Slot i
slot_expr_back (gcons (gnum (suc (suc zero))) e) = Negate (slot_expr_back e)
slot_expr_back (gcons (gnum (suc (suc (suc zero)))) (gcons o (gcons a b))) = Binary (operator_back o) (slot_expr_back a) (slot_expr_back b)
slot_expr_back _ = Slot 0

pub slot_expr_law : (e : SlotExpr) → slot_expr_back (slot_expr e) ≡ e
unfolding slot_expr_back
slot_expr_law (Number z) = ap Number (integer_law z)
slot_expr_law (Slot i) = refl
slot_expr_law (Negate e) = ap Negate (slot_expr_law e)
slot_expr_law (Binary o a b) = λ i. Binary (operator_law o i) (slot_expr_law a i) (slot_expr_law b i)

abbrev slot_exprs : List SlotExpr → Gv
slot_exprs [] = gnil
slot_exprs (e ∷ es) = gcons (slot_expr e) (slot_exprs es)

pub slot_exprs_back : Gv → List SlotExpr
slot_exprs_back (gcons e es) = slot_expr_back e ∷ slot_exprs_back es
slot_exprs_back _ = []

pub slot_exprs_law : (es : List SlotExpr) → slot_exprs_back (slot_exprs es) ≡ es
unfolding slot_exprs_back
slot_exprs_law [] = refl
slot_exprs_law (e ∷ es) = λ i. slot_expr_law e i ∷ slot_exprs_law es i

abbrev cown_ref : CownRef → Gv
cown_ref (Held i) = gcons (gnum 0) (gnum i)
cown_ref (Single cown) = gcons (gnum 1) (gnum cown)
cown_ref (Member first size index) = gcons (gnum 2) (gcons (gnum first) (gcons (gnum size) (slot_expr index)))

pub cown_ref_back : Gv → CownRef
cown_ref_back (gcons (gnum zero) (gnum i)) = Held i
cown_ref_back (gcons (gnum (suc zero)) (gnum cown)) = Single cown
cown_ref_back (gcons (gnum (suc (suc zero))) (gcons (gnum first) (gcons (gnum size) index))) = Member first size (slot_expr_back index)
cown_ref_back _ = Held 0

pub cown_ref_law : (p : CownRef) → cown_ref_back (cown_ref p) ≡ p
unfolding cown_ref_back
cown_ref_law (Held i) = refl
cown_ref_law (Single cown) = refl
cown_ref_law (Member first size index) = ap (Member first size) (slot_expr_law index)

abbrev cown_refs : List CownRef → Gv
cown_refs [] = gnil
cown_refs (p ∷ ps) = gcons (cown_ref p) (cown_refs ps)

pub cown_refs_back : Gv → List CownRef
cown_refs_back (gcons p ps) = cown_ref_back p ∷ cown_refs_back ps
cown_refs_back _ = []

pub cown_refs_law : (ps : List CownRef) → cown_refs_back (cown_refs ps) ≡ ps
unfolding cown_refs_back
cown_refs_law [] = refl
cown_refs_law (p ∷ ps) = λ i. cown_ref_law p i ∷ cown_refs_law ps i

abbrev code : Code → Gv
code Done = gnil
code (Assign slot e rest) = gcons (gnum 0) (gcons (gnum slot) (gcons (slot_expr e) (code rest)))
code (Work e rest) = gcons (gnum 1) (gcons (slot_expr e) (code rest))
code (If e a b rest) = gcons (gnum 2) (gcons (slot_expr e) (gcons (code a) (gcons (code b) (code rest))))
code (Repeat e a rest) = gcons (gnum 3) (gcons (slot_expr e) (gcons (code a) (code rest)))
code (When kind args cowns rest) = gcons (gnum 4) (gcons (gnum kind) (gcons (slot_exprs args) (gcons (cown_refs cowns) (code rest))))

pub code_back : Gv → Code
code_back (gcons (gnum zero) (gcons (gnum slot) (gcons e rest))) = Assign slot (slot_expr_back e) (code_back rest)
code_back (gcons (gnum (suc zero)) (gcons e rest)) = Work (slot_expr_back e) (code_back rest)
code_back (gcons (gnum (suc (suc zero))) (gcons e (gcons a (gcons b rest)))) = If (slot_expr_back e) (code_back a) (code_back b) (code_back rest)
code_back (gcons (gnum (suc (suc (suc zero)))) (gcons e (gcons a rest))) = Repeat (slot_expr_back e) (code_back a) (code_back rest)
code_back (gcons (gnum (suc (suc (suc (suc zero))))) (gcons (gnum kind) (gcons args (gcons cowns rest)))) =
    When kind (slot_exprs_back args) (cown_refs_back cowns) (code_back rest)
code_back _ = Done

pub code_law : (c : Code) → code_back (code c) ≡ c
unfolding code_back
code_law Done = refl
code_law (Assign slot e rest) = λ i. Assign slot (slot_expr_law e i) (code_law rest i)
code_law (Work e rest) = λ i. Work (slot_expr_law e i) (code_law rest i)
code_law (If e a b rest) = λ i. If (slot_expr_law e i) (code_law a i) (code_law b i) (code_law rest i)
code_law (Repeat e a rest) = λ i. Repeat (slot_expr_law e i) (code_law a i) (code_law rest i)
code_law (When kind args cowns rest) = λ i. When kind (slot_exprs_law args i) (cown_refs_law cowns i) (code_law rest i)

-- expressions can be read back
abbrev pub coded_SlotExpr : Coded SlotExpr
coded_SlotExpr = by_back slot_expr slot_expr_back slot_expr_law

-- statements can be read back
abbrev pub coded_Code : Coded Code
coded_Code = by_back code code_back code_law

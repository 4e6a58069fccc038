-- Cells are of one code alone.
use Rattle.std.proofs.Common.{◌≡◌, ℕ, ◌≤◌, List, ◌∷◌, [], ◌++◌, ℤ, pos, negsuc, arith, refl, sym, ap, ◌∙◌, append_assoc}
use Rattle.std.specs.Prelude.{unsigned_abs}
use Rattle.boc_program.specs.declared.body.Operator.{Operator}
use Rattle.boc_program.specs.declared.body.Operator.TheVariants as op
use Rattle.boc_program.specs.Syntax.{SlotExpr, Number, Slot, Negate, Binary, CownRef, Held, Single, Member, Code, Done, Assign, Work, If, Repeat, When}
use Rattle.boc_program.specs.memory.Cells.{sign_cell, operator_cell, expr_cells, exprs_cells, ref_cells, refs_cells, cells_of}

-- what is known of two things whose cells, with more behind them, are the same
abbrev Alike : {A : Type 0} → A → A → List ℕ → List ℕ → Type 0
Alike a b xs ys = (a ≡ b) × (xs ≡ ys)

-- the first items and the rests of two lists that are the same
heads : {x y : ℕ} {xs ys : List ℕ} → x ∷ xs ≡ y ∷ ys → (x ≡ y) × (xs ≡ ys)
heads h = (cc, cc)

-- what a tag and a number tell
one_tagged : {A : Type 0} {t i j : ℕ} {xs ys : List ℕ} (f : ℕ → A) → t ∷ i ∷ xs ≡ t ∷ j ∷ ys → Alike (f i) (f j) xs ys
one_tagged f h = let more = heads (heads h).1 in (ap f more.0, more.1)

-- a number by its tag and its size
one_number : (y z : ℤ) → sign_cell y ≡ sign_cell z → unsigned_abs y ≡ unsigned_abs z → y ≡ z
one_number (pos m) (pos n) s h = ap pos h
one_number (negsuc m) (negsuc n) s h = let e : m ≡ n = omega (arith, h) in ap negsuc e
one_number (pos m) (negsuc n) s h = absurd (omega (arith, s))
one_number (negsuc m) (pos n) s h = absurd (omega (arith, s))

-- the tag of a number is above 0
sign_above : (z : ℤ) → 1 ≤ sign_cell z
sign_above (pos n) = omega arith
sign_above (negsuc n) = omega arith

-- and below all other tags of expressions
sign_below : (z : ℤ) → sign_cell z ≤ 2
sign_below (pos n) = omega arith
sign_below (negsuc n) = omega arith

-- the tag of an operator is above all others
operator_above : (o : Operator) → 5 ≤ operator_cell o
operator_above op.Add = omega arith
operator_above op.Subtract = omega arith
operator_above op.Multiply = omega arith
operator_above op.Divide = omega arith
operator_above op.Remainder = omega arith
operator_above op.Equal = omega arith
operator_above op.NotEqual = omega arith
operator_above op.Less = omega arith
operator_above op.AtMost = omega arith
operator_above op.Greater = omega arith
operator_above op.AtLeast = omega arith

-- an operator by its tag
one_operator : (o p : Operator) → operator_cell o ≡ operator_cell p → o ≡ p
one_operator op.Add op.Add h = refl
one_operator op.Subtract op.Subtract h = refl
one_operator op.Multiply op.Multiply h = refl
one_operator op.Divide op.Divide h = refl
one_operator op.Remainder op.Remainder h = refl
one_operator op.Equal op.Equal h = refl
one_operator op.NotEqual op.NotEqual h = refl
one_operator op.Less op.Less h = refl
one_operator op.AtMost op.AtMost h = refl
one_operator op.Greater op.Greater h = refl
one_operator op.AtLeast op.AtLeast h = refl
one_operator o p h = absurd (omega (arith, h))

-- what follows two parts is taken together with the second
regroup : (a b xs c d ys : List ℕ) → (a ++ b) ++ xs ≡ (c ++ d) ++ ys → a ++ (b ++ xs) ≡ c ++ (d ++ ys)
regroup a b xs c d ys h = sym (append_assoc a b xs) ∙ h ∙ append_assoc c d ys

-- what is told by its cells is told with more behind them
told_first : {A : Type 0} (cells : A → List ℕ) → ((a b : A) (xs ys : List ℕ) → cells a ++ xs ≡ cells b ++ ys → Alike a b xs ys)
    → (a b : A) (more others xs ys : List ℕ) → (cells a ++ more) ++ xs ≡ (cells b ++ others) ++ ys → Alike a b (more ++ xs) (others ++ ys)
told_first cells one a b more others xs ys h = one a b (more ++ xs) (others ++ ys) (regroup (cells a) more xs (cells b) others ys h)

-- an expression by its cells, whatever is behind them
one_expr : (a b : SlotExpr) (xs ys : List ℕ) → expr_cells a ++ xs ≡ expr_cells b ++ ys → Alike a b xs ys
one_expr (Number y) (Number z) xs ys h =
    let more = heads (heads h).1 in
    (ap Number (one_number y z (heads h).0 more.0), more.1)
one_expr (Slot i) (Slot j) xs ys h = one_tagged Slot h
one_expr (Negate a) (Negate b) xs ys h =
    let rest = one_expr a b xs ys (heads h).1 in
    (ap Negate rest.0, rest.1)
one_expr (Binary o a b) (Binary p c d) xs ys h =
    let left = one_expr a c (expr_cells b ++ xs) (expr_cells d ++ ys)
    (regroup (expr_cells a) (expr_cells b) xs (expr_cells c) (expr_cells d) ys (heads h).1) in
    let right = one_expr b d xs ys left.1 in
    let same = one_operator o p (heads h).0 in
    (λ i. Binary (same i) (left.0 i) (right.0 i), right.1)
one_expr a b xs ys h = absurd (let tags = (heads h).0 in grind (arith, sign_below, operator_above))

-- the cells of an expression do not begin with the end of a list
expr_goes_on : (e : SlotExpr) (xs ys : List ℕ) → expr_cells e ++ xs ≡ 0 ∷ ys → ⊥
expr_goes_on (Number z) xs ys h = let tags = (heads h).0 in omega (arith, tags, sign_above z)
expr_goes_on (Slot i) xs ys h = cc
expr_goes_on (Negate e) xs ys h = cc
expr_goes_on (Binary o a b) xs ys h = let tags = (heads h).0 in omega (arith, tags, operator_above o)

-- lists of things that are told by their cells, and whose cells do not begin with the end of a list
module _ {A : Type 0} (cells : A → List ℕ) (all : List A → List ℕ) (end : all [] ≡ 0 ∷ [])
    (more : (a : A) (rest : List A) → all (a ∷ rest) ≡ cells a ++ all rest)
    (one : (a b : A) (xs ys : List ℕ) → cells a ++ xs ≡ cells b ++ ys → Alike a b xs ys) (goes_on : (a : A) (xs ys : List ℕ) → cells a ++ xs ≡ 0 ∷ ys → ⊥) where
  ends_apart : (a : A) (rest : List A) (xs ys : List ℕ) → all (a ∷ rest) ++ xs ≡ all [] ++ ys → ⊥
  ends_apart a rest xs ys h = goes_on a (all rest ++ xs) ys
      (sym (append_assoc (cells a) (all rest) xs) ∙ ap (λ ws. ws ++ xs) (sym (more a rest)) ∙ h ∙ ap (λ ws. ws ++ ys) end)

  one_list : (rest others : List A) (xs ys : List ℕ) → all rest ++ xs ≡ all others ++ ys → Alike rest others xs ys
  one_list [] [] xs ys h = (refl, (heads (rw end at h)).1)
  one_list [] (b ∷ others) xs ys h = absurd (ends_apart b others ys xs (sym h))
  one_list (a ∷ rest) [] xs ys h = absurd (ends_apart a rest xs ys h)
  one_list (a ∷ rest) (b ∷ others) xs ys h =
      let first = told_first cells one a b (all rest) (all others) xs ys (ap (λ ws. ws ++ xs) (sym (more a rest)) ∙ h ∙ ap (λ ws. ws ++ ys) (more b others)) in
      let more_of = one_list rest others xs ys first.1 in
      (λ i. first.0 i ∷ more_of.0 i, more_of.1)

-- expressions by their cells
one_exprs : (es fs : List SlotExpr) (xs ys : List ℕ) → exprs_cells es ++ xs ≡ exprs_cells fs ++ ys → Alike es fs xs ys
one_exprs = one_list expr_cells exprs_cells refl (λ e es. refl) one_expr expr_goes_on

-- a reference by its cells
one_ref : (p q : CownRef) (xs ys : List ℕ) → ref_cells p ++ xs ≡ ref_cells q ++ ys → Alike p q xs ys
one_ref (Held i) (Held j) xs ys h = one_tagged Held h
one_ref (Single c) (Single d) xs ys h = one_tagged Single h
one_ref (Member first size index) (Member first' size' index') xs ys h =
    let one = heads (heads h).1 in
    let two = heads one.1 in
    let rest = one_expr index index' xs ys two.1 in
    (λ i. Member (one.0 i) (two.0 i) (rest.0 i), rest.1)
one_ref p q xs ys h = absurd cc

-- the cells of a reference do not begin with the end of a list
ref_goes_on : (p : CownRef) (xs ys : List ℕ) → ref_cells p ++ xs ≡ 0 ∷ ys → ⊥
ref_goes_on (Held i) xs ys h = cc
ref_goes_on (Single cown) xs ys h = cc
ref_goes_on (Member first size index) xs ys h = cc

-- references by their cells
one_refs : (ps qs : List CownRef) (xs ys : List ℕ) → refs_cells ps ++ xs ≡ refs_cells qs ++ ys → Alike ps qs xs ys
one_refs = one_list ref_cells refs_cells refl (λ p ps. refl) one_ref ref_goes_on

-- statements by their cells: their tags differ, and each part ends where its own cells say
one_code : (a b : Code) (xs ys : List ℕ) → cells_of a ++ xs ≡ cells_of b ++ ys → Alike a b xs ys
one_code Done Done xs ys h = (refl, (heads h).1)
one_code (Assign s e rest) (Assign t f rest') xs ys h =
    let slot = heads (heads h).1 in
    let expr = told_first expr_cells one_expr e f (cells_of rest) (cells_of rest') xs ys slot.1 in
    let more = one_code rest rest' xs ys expr.1 in
    (λ i. Assign (slot.0 i) (expr.0 i) (more.0 i), more.1)
one_code (Work e rest) (Work f rest') xs ys h =
    let expr = told_first expr_cells one_expr e f (cells_of rest) (cells_of rest') xs ys (heads h).1 in
    let more = one_code rest rest' xs ys expr.1 in
    (λ i. Work (expr.0 i) (more.0 i), more.1)
one_code (If e a b rest) (If f c d rest') xs ys h =
    let expr = told_first expr_cells one_expr e f (cells_of a ++ (cells_of b ++ cells_of rest)) (cells_of c ++ (cells_of d ++ cells_of rest')) xs ys
    (heads h).1 in
    let first = one_code a c ((cells_of b ++ cells_of rest) ++ xs) ((cells_of d ++ cells_of rest') ++ ys)
    (regroup (cells_of a) (cells_of b ++ cells_of rest) xs (cells_of c) (cells_of d ++ cells_of rest') ys expr.1) in
    let second = one_code b d (cells_of rest ++ xs) (cells_of rest' ++ ys)
    (regroup (cells_of b) (cells_of rest) xs (cells_of d) (cells_of rest') ys first.1) in
    let more = one_code rest rest' xs ys second.1 in
    (λ i. If (expr.0 i) (first.0 i) (second.0 i) (more.0 i), more.1)
one_code (Repeat e a rest) (Repeat f c rest') xs ys h =
    let expr = told_first expr_cells one_expr e f (cells_of a ++ cells_of rest) (cells_of c ++ cells_of rest') xs ys (heads h).1 in
    let block = one_code a c (cells_of rest ++ xs) (cells_of rest' ++ ys)
    (regroup (cells_of a) (cells_of rest) xs (cells_of c) (cells_of rest') ys expr.1) in
    let more = one_code rest rest' xs ys block.1 in
    (λ i. Repeat (expr.0 i) (block.0 i) (more.0 i), more.1)
one_code (When k es ps rest) (When l fs qs rest') xs ys h =
    let kind = heads (heads h).1 in
    let args = told_first exprs_cells one_exprs es fs (refs_cells ps ++ cells_of rest) (refs_cells qs ++ cells_of rest') xs ys kind.1 in
    let refs = told_first refs_cells one_refs ps qs (cells_of rest) (cells_of rest') xs ys args.1 in
    let more = one_code rest rest' xs ys refs.1 in
    (λ i. When (kind.0 i) (args.0 i) (refs.0 i) (more.0 i), more.1)
one_code a b xs ys h = absurd cc

-- two codes of the same cells are the same
pub same_code : (a b : Code) → cells_of a ≡ cells_of b → a ≡ b
same_code a b h = (one_code a b [] [] (ap (λ (cells : List ℕ). cells ++ []) h)).0

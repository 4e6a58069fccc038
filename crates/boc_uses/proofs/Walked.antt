-- What is noted of statements, one after another.
use Rattle.std.proofs.Common.{◌≡◌, ℕ, suc, ◌+◌, List, [], ◌∷◌, ◌++◌, refl, sym, ap, ◌∙◌, Bool, true, false, Option, Some, None, Ok, Err, ℤ}
use Rattle.std.specs.Prelude.{nat_le, not, if◌then◌else◌, slice_set}
use Rattle.boc_program.specs.declared.body.Stmt.{Stmt}
use Rattle.boc_program.specs.declared.body.Stmt.TheVariants as stmt
use Rattle.boc_program.specs.declared.body.EndStatus.TheVariants.{SameCown}
use Rattle.boc_program.specs.Syntax.{SlotExpr, CownRef, Code, Done}
use Rattle.boc_program.specs.Value.{OrFault, then_value, value, values}
use Rattle.boc_program.specs.Meaning.{State, cowns_of, distinct, has_same_twice}
use Rattle.boc_program.specs.memory.View.{before}
use Rattle.boc_registers.specs.Values.{if_any}
use Rattle.boc_uses.specs.declared.uses.Use.{Use}
use Rattle.boc_uses.specs.Uses.{SlotUse, Using, all_slots_read, code_uses, evaluated, if_value, paid, reads, refs_slots_read, slots_read, turns_use}
use Rattle.boc_uses.specs.Noting.{has_value, named, noted_all, noted_then, noted_with, standing}
use Rattle.boc_uses.proofs.Noted.{noted_append}

-- a statement, and then the rest
pub uses_before : (s : Stmt) (rest : Code) (at : State) (next : Using)
    → code_uses (before s rest) at next ≡ code_uses (before s Done) at (λ at. code_uses rest at next)
uses_before (stmt.Assign slot e) rest at next = refl
uses_before (stmt.Work e) rest at next = refl
uses_before (stmt.If e a b) rest at next = refl
uses_before (stmt.Repeat e a) rest at next = refl
uses_before (stmt.When kind args refs) rest at next = refl

-- what notes a statement, or statements, from one state to another
abbrev pub Notes : ℕ → (State → Using → List SlotUse) → List (Option Use) → State → Bool → List (Option Use) → State → Type 0
Notes params act u0 s0 goes_on u1 s1 = (next : Using) → noted_all params u0 (act s0 next) ≡ noted_then goes_on params u1 (next s1)

pub notes_both : (params : ℕ) (first : Stmt) (rest : Code) (u0 u1 u2 : List (Option Use)) (s0 s1 s2 : State) (a b : Bool) → a ≡ true
    → Notes params (code_uses (before first Done)) u0 s0 a u1 s1 → Notes params (code_uses rest) u1 s1 b u2 s2
    → Notes params (code_uses (before first rest)) u0 s0 b u2 s2
notes_both params first rest u0 u1 u2 s0 s1 s2 a b e f g next =
    ap (noted_all params u0) (uses_before first rest s0 next)
    ∙ f (λ at. code_uses rest at next)
    ∙ ap (λ a. noted_then a params u1 (code_uses rest s1 next)) e
    ∙ g next

pub notes_first : (params : ℕ) (first : Stmt) (rest : Code) (u0 u1 : List (Option Use)) (s0 s1 s2 : State) (a : Bool) → a ≡ false
    → Notes params (code_uses (before first Done)) u0 s0 a u1 s1 → Notes params (code_uses (before first rest)) u0 s0 a u1 s2
notes_first params first rest u0 u1 s0 s1 s2 a e f next =
    ap (noted_all params u0) (uses_before first rest s0 next)
    ∙ f (λ at. code_uses rest at next)
    ∙ ap (λ a. noted_then a params u1 (code_uses rest s1 next)) e
    ∙ ap (λ a. noted_then a params u1 (next s2)) (sym e)

-- n ticks are counted, or the body ends
pub paid_noted : (params n : ℕ) (u : List (Option Use)) (s : State) (next : Using) (b : Bool) → b ≡ nat_le (s.ticks + n) 1000000
    → noted_all params u (paid n s next) ≡ noted_then b params u (next (record s { ticks = s.ticks + n }))
paid_noted params n u s next true e = ap (λ (b : Bool). noted_all params u (if b then next (record s { ticks = s.ticks + n }) else [])) (sym e)
paid_noted params n u s next false e = ap (λ (b : Bool). noted_all params u (if b then next (record s { ticks = s.ticks + n }) else [])) (sym e)

-- the same, where the ticks that are counted then are given
pub charged : (params n : ℕ) (u : List (Option Use)) (held : List ℕ) (slots : List ℤ) (t0 t1 : ℕ) (next : Using) (b : Bool) → b ≡ nat_le (t0 + n) 1000000
    → t1 ≡ (if b then t0 + n else t0)
    → noted_all params u (paid n (standing held slots t0) next) ≡ noted_then b params u (next (standing held slots t1))
charged params n u held slots t0 t1 next true e t =
    paid_noted params n u (standing held slots t0) next true e ∙ ap (λ t. noted_all params u (next (standing held slots t))) (sym t)
charged params n u held slots t0 t1 next false e t = paid_noted params n u (standing held slots t0) next false e

given_noted : (params : ℕ) (u : List (Option Use)) (r : OrFault ℤ) (go : ℤ → List SlotUse)
    → noted_all params u (if_value r go) ≡ noted_with (if_any r) params u go
given_noted params u (Ok v) go = refl
given_noted params u (Err fault) go = refl

-- an expression is evaluated
pub evaluated_noted : (params : ℕ) (own : Option ℕ) (e : SlotExpr) (s : State) (u0 u1 : List (Option Use)) (r : OrFault ℤ) (go : ℤ → List SlotUse)
    → r ≡ value e s.slots → u1 ≡ noted_all params u0 (reads s.ticks own (slots_read e s.slots))
    → noted_all params u0 (evaluated own e s go) ≡ noted_with (if_any r) params u1 go
evaluated_noted params own e s u0 u1 r go is f =
    noted_append params u0 (reads s.ticks own (slots_read e s.slots)) (if_value (value e s.slots) go)
    ∙ ap (λ u. noted_all params u (if_value (value e s.slots) go)) (sym f)
    ∙ ap (λ (r : OrFault ℤ). noted_all params u1 (if_value r go)) (sym is)
    ∙ given_noted params u1 r go

-- a turn, and then those that are left
pub turned : (params : ℕ) (act : State → Using → List SlotUse) (n m : ℕ) (u0 u1 : List (Option Use)) (s0 s1 : State) (b : Bool) → n ≡ suc m → b ≡ true
    → Notes params (λ s next. paid 1 s (λ s. act s next)) u0 s0 b u1 s1
    → (next : Using) → noted_all params u0 (turns_use n act s0 next) ≡ noted_all params u1 (turns_use m act s1 next)
turned params act n m u0 u1 s0 s1 b e is f next =
    ap (λ n. noted_all params u0 (turns_use n act s0 next)) e
    ∙ f (λ s. turns_use m act s next)
    ∙ ap (λ b. noted_then b params u1 (turns_use m act s1 next)) is

-- a turn that ends the body
pub turned_cut : (params : ℕ) (act : State → Using → List SlotUse) (n m : ℕ) (u0 u1 : List (Option Use)) (s0 s1 : State) (b : Bool) → n ≡ suc m → b ≡ false
    → Notes params (λ s next. paid 1 s (λ s. act s next)) u0 s0 b u1 s1
    → (next : Using) → noted_all params u0 (turns_use n act s0 next) ≡ u1
turned_cut params act n m u0 u1 s0 s1 b e is f next =
    ap (λ n. noted_all params u0 (turns_use n act s0 next)) e
    ∙ f (λ s. turns_use m act s next)
    ∙ ap (λ b. noted_then b params u1 (turns_use m act s1 next)) is

-- the uses that are noted where nothing comes after them
pub noted_end : (b : Bool) (params : ℕ) (u : List (Option Use)) → noted_then b params u [] ≡ u
noted_end true params u = refl
noted_end false params u = refl

pub no_count : (params : ℕ) (u : List (Option Use)) (r : OrFault ℕ) (go : ℕ → List SlotUse) → None ≡ if_any r → noted_all params u (if_value r go) ≡ u
no_count params u (Ok n) go e = absurd (let b : ⊥ = cc in b)
no_count params u (Err fault) go e = refl

pub some_count : (params : ℕ) (u : List (Option Use)) (r : OrFault ℕ) (n : ℕ) (go : ℕ → List SlotUse) → Some n ≡ if_any r
    → noted_all params u (if_value r go) ≡ noted_all params u (go n)
some_count params u (Ok m) n go e = let same : n ≡ m = cc in ap (λ k. noted_all params u (go k)) (sym same)
some_count params u (Err fault) n go e = absurd (let b : ⊥ = cc in b)

-- what a `when` uses once its tick is counted
abbrev pub wish_uses : List SlotExpr → List CownRef → Using → Using
wish_uses args refs next s =
    reads s.ticks None (all_slots_read args s.slots) ++ if_value (values args s.slots) (λ vs.
    reads s.ticks None (refs_slots_read refs s) ++ if_value (then_value (cowns_of refs s) distinct) (λ cs. next s))

no_values : (params : ℕ) (u : List (Option Use)) (r : OrFault (List ℤ)) (rest : List SlotUse) → false ≡ has_value r
    → noted_all params u (if_value r (λ vs. rest)) ≡ u
no_values params u (Ok vs) rest e = absurd (let b : ⊥ = cc in b)
no_values params u (Err fault) rest e = refl

some_values : (params : ℕ) (u : List (Option Use)) (r : OrFault (List ℤ)) (rest : List SlotUse) → true ≡ has_value r
    → noted_all params u (if_value r (λ vs. rest)) ≡ noted_all params u rest
some_values params u (Ok vs) rest e = refl
some_values params u (Err fault) rest e = absurd (let b : ⊥ = cc in b)

-- a fault cuts the arguments short
pub wish_args : (params : ℕ) (args : List SlotExpr) (refs : List CownRef) (next : Using) (s : State) (u0 u1 : List (Option Use))
    → false ≡ has_value (values args s.slots) → u1 ≡ noted_all params u0 (reads s.ticks None (all_slots_read args s.slots))
    → noted_all params u0 (wish_uses args refs next s) ≡ u1
wish_args params args refs next s u0 u1 e f =
    let rest = reads s.ticks None (refs_slots_read refs s) ++ if_value (then_value (cowns_of refs s) distinct) (λ cs. next s) in
    noted_append params u0 (reads s.ticks None (all_slots_read args s.slots)) (if_value (values args s.slots) (λ vs. rest))
    ∙ ap (λ u. noted_all params u (if_value (values args s.slots) (λ vs. rest))) (sym f)
    ∙ no_values params u1 (values args s.slots) rest e

-- the arguments have values, and what the references read is noted too
pub wish_refs : (params : ℕ) (args : List SlotExpr) (refs : List CownRef) (next : Using) (s : State) (u0 u1 u2 : List (Option Use))
    → true ≡ has_value (values args s.slots) → u1 ≡ noted_all params u0 (reads s.ticks None (all_slots_read args s.slots))
    → u2 ≡ noted_all params u1 (reads s.ticks None (refs_slots_read refs s))
    → noted_all params u0 (wish_uses args refs next s) ≡ noted_all params u2 (if_value (then_value (cowns_of refs s) distinct) (λ cs. next s))
wish_refs params args refs next s u0 u1 u2 e f g =
    let last = if_value (then_value (cowns_of refs s) distinct) (λ cs. next s) in
    let rest = reads s.ticks None (refs_slots_read refs s) ++ last in
    noted_append params u0 (reads s.ticks None (all_slots_read args s.slots)) (if_value (values args s.slots) (λ vs. rest))
    ∙ ap (λ u. noted_all params u (if_value (values args s.slots) (λ vs. rest))) (sym f)
    ∙ some_values params u1 (values args s.slots) rest e
    ∙ noted_append params u1 (reads s.ticks None (refs_slots_read refs s)) last
    ∙ ap (λ u. noted_all params u last) (sym g)

-- a fault cuts the references short
pub refs_cut : (params : ℕ) (u : List (Option Use)) (old new : List ℕ) (r : OrFault (List ℕ)) (rest : List SlotUse) → named false old new r
    → noted_all params u (if_value (then_value r distinct) (λ cs. rest)) ≡ u
refs_cut params u old new (Ok cs) rest h = absurd h
refs_cut params u old new (Err fault) rest h = refl

distinct_noted : (params : ℕ) (u : List (Option Use)) (rest : List SlotUse) (cs : List ℕ) (twice : Bool)
    → noted_all params u (if_value (let r : OrFault (List ℕ) = if twice then Err SameCown else Ok cs in r) (λ cs. rest)) ≡ noted_then (not twice) params u rest
distinct_noted params u rest cs true = refl
distinct_noted params u rest cs false = refl

-- the cowns are there, and differ or not
pub refs_named : (params : ℕ) (u : List (Option Use)) (new : List ℕ) (r : OrFault (List ℕ)) (rest : List SlotUse) → named true [] new r
    → noted_all params u (if_value (then_value r distinct) (λ cs. rest)) ≡ noted_then (not (has_same_twice new)) params u rest
refs_named params u new (Ok cs) rest h =
    distinct_noted params u rest cs (has_same_twice cs) ∙ ap (λ cs. noted_then (not (has_same_twice cs)) params u rest) (sym h)
refs_named params u new (Err fault) rest h = absurd h

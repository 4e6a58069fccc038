-- What the names of a phrase stand for, as the program keeps it in memory.
use Rattle.std.specs.Prelude.{◌≡◌, ℕ, ◌+◌, ◌≤◌, List, [], ◌∷◌, ◌++◌, map, length, Option, Some, None, Result, Ok, Err, if◌then◌else◌}
use Rattle.std.proofs.Common.{Bor}
use Rattle.std.specs.Option.{option_map, option_and_then}
use Rattle.boc_program.specs.declared.body.Operator.{Operator}
use Rattle.boc_program.specs.declared.body.Expr.{Expr}
use Rattle.boc_program.specs.declared.body.Stmt.{Stmt}
use Rattle.boc_program.specs.declared.body.Stmt.TheVariants as stmts
use Rattle.boc_program.specs.memory.View.{slot_expr_of, cown_ref_of}
use Rattle.boc_program.specs.Sizes.{members}
use Rattle.boc_reader.specs.Shape as shape
use Rattle.boc_reader.specs.Shape.{Block, Cown, Def, Tree}
use Rattle.boc_reader.specs.Names.{Named, Left, ResolvedStmt, Set, Spend, Choose, Loop, Spawn, Global, Callee, Top, Outside, PlainBody, PlainProgram, among}
use Rattle.boc_reader.specs.Names.{top_names, are_free, block_names, body_names, expr_names, plain_cown, slot_of}
use Rattle.boc_reader.specs.declared.fault.Unresolved.{Unresolved}
use Rattle.boc_reader.specs.declared.fault.Unresolved.TheVariants.{Memory, WrongName}
use Rattle.boc_reader.specs.declared.names.top.Global.{Global as Global'}
use Rattle.boc_reader.specs.declared.names.top.Callee.{Callee as Callee'}
use Rattle.boc_reader.specs.declared.names.top.Top.{Top as Top'}
use Rattle.boc_reader.specs.declared.names.top.Outside.{Outside as Outside'}
use Rattle.boc_reader.specs.Views.{name_of}

-- what was resolved is what the names give, and one of them is wrong where they give nothing, unless memory was refused
abbrev pub Yields : {X Y : Type 0} → (Y → X) → Result Y Unresolved → Option X → Type 0
Yields view (Ok y) found = found ≡ Some (view y)
Yields view (Err Memory) found = Unit {0}
Yields view (Err WrongName) found = found ≡ None

-- the same of a statement, with the names in scope after it
abbrev pub YieldsIn : {X Y : Type 0} → (Y → X) → Result Y Unresolved → List Named → Option (X × List Named) → Type 0
YieldsIn view (Ok y) scope found = found ≡ Some (view y, scope)
YieldsIn view (Err Memory) scope found = Unit {0}
YieldsIn view (Err WrongName) scope found = found ≡ None

-- names that are lent
abbrev pub names_of : List (Bor Named) → List Named
names_of ns = map (λ n. n.now) ns

-- the left side of an operator, if there is one
abbrev pub left_of : Option (Expr × Operator) → Left
left_of left = option_map (λ l. (slot_expr_of l.0, l.1)) left

-- a statement without those after it
abbrev pub resolved_stmt_of : Stmt → ResolvedStmt
resolved_stmt_of (stmts.Assign slot e) = Set slot (slot_expr_of e)
resolved_stmt_of (stmts.Work e) = Spend (slot_expr_of e)
resolved_stmt_of (stmts.If e a b) = Choose (slot_expr_of e) a b
resolved_stmt_of (stmts.Repeat e a) = Loop (slot_expr_of e) a
resolved_stmt_of (stmts.When kind args refs) = Spawn kind (map slot_expr_of args.items) (map cown_ref_of refs.items)

-- an assignment to a name in scope
abbrev pub assign_names : Named → shape.Expr → List Named → Option ResolvedStmt
assign_names x e scope = option_and_then (λ slot. option_map (λ v. Set slot v) (expr_names e scope)) (slot_of scope x)

-- a choice between two blocks
abbrev pub choice_names : shape.Expr → Block → Block → Outside → List Named → Option ResolvedStmt
choice_names e b c outside scope =
    option_and_then (λ v. option_and_then (λ a. option_map (λ o. Choose v a o) (block_names c outside scope)) (block_names b outside scope))
    (expr_names e scope)

-- a block that is repeated
abbrev pub loop_names : shape.Expr → Block → Outside → List Named → Option ResolvedStmt
loop_names e b outside scope = option_and_then (λ v. option_map (λ a. Loop v a) (block_names b outside scope)) (expr_names e scope)

-- a declared cown without where its name lies
abbrev pub global_of : Global' → Global
global_of g = record { name = g.name.now; first = g.first; size = g.size }

-- a declared def without where its name lies
abbrev pub callee_of : Callee' → Callee
callee_of d = record { name = d.name.now; args = d.args; cowns = d.cowns }

-- all that is declared at the top
abbrev pub declared_of : Top' → Top
declared_of t = record { cowns = map global_of t.cowns.items; defs = map callee_of t.defs.items }

-- what a body sees from outside: what is declared at the top, and its cown parameters
abbrev pub outside_of : Outside' → Outside
outside_of o = record { top = declared_of o.top.now; held = map name_of o.held.now }

-- the scope with further names, where each is free where it is declared
abbrev pub scope_with : Top → List Named → List Named → Option (List Named)
scope_with top scope xs = if are_free top scope xs then Some (scope ++ xs) else None

-- the cowns end at `most` at the latest
abbrev pub EndWithin : ℕ → List Global → Type 0
EndWithin most [] = Unit {0}
EndWithin most (g ∷ gs) = (g.first + members g.size ≤ most) × EndWithin most gs

-- The same names in the order of the text, in which they are resolved.

-- the names of cowns
abbrev pub cown_names : List Global → List Named
cown_names gs = map (λ g. g.name) gs

-- a declaration of cowns of which the first has this number
abbrev pub global_at : ℕ → Cown → Global
global_at n c = record { name = c.name; first = n; size = c.size }

-- what a `when` has to know of a def
abbrev pub callee_for : Def → Callee
callee_for d = record { name = d.name; args = length d.params; cowns = length d.cowns }

-- the cowns after others, where no name occurs twice
abbrev pub cowns_behind : List Global → ℕ → List Cown → Option (List Global)
cowns_behind before n [] = Some before
cowns_behind before n (c ∷ cs) =
    if among (cown_names before) c.name then None else cowns_behind (before ++ global_at n c ∷ []) (n + members c.size) cs

-- the defs after others, where the first def of a name counts, and none that has a cown's name
abbrev pub defs_behind : List Global → List Callee → List Def → List Callee
defs_behind cowns before [] = before
defs_behind cowns before (d ∷ ds) =
    if among (top_names (record { cowns = cowns; defs = before })) d.name then defs_behind cowns before ds
    else defs_behind cowns (before ++ callee_for d ∷ []) ds

-- the body of a def, where its names resolve
abbrev pub def_names : Top → Def → Option PlainBody
def_names top d = body_names top d.params d.cowns d.block

-- the bodies of defs, where none of them has a name that comes before it
abbrev pub bodies_behind : Top → List Named → List Def → Option (List PlainBody)
bodies_behind top before [] = Some []
bodies_behind top before (d ∷ ds) =
    if among before d.name then None
    else option_and_then (λ b. option_map (λ bs. b ∷ bs) (bodies_behind top (before ++ d.name ∷ []) ds)) (def_names top d)

-- what a tree declares at its top, where no cown has a name that is taken
abbrev pub top_in_order : Tree → Option Top
top_in_order t = option_map (λ gs. let top : Top = record { cowns = gs; defs = defs_behind gs [] t.defs } in top) (cowns_behind [] 0 t.cowns)

-- the program of a tree where this is declared at its top, by way of the bodies of its defs, and main's
abbrev pub program_at : Tree → Top → Option PlainProgram
program_at t top =
    option_and_then (λ defs. option_map (λ main. let p : PlainProgram = record { cowns = map plain_cown t.cowns; bodies = main ∷ defs } in p)
    (body_names top [] [] t.main)) (bodies_behind top (cown_names top.cowns) t.defs)

-- the program of a tree, by way of what is declared at its top
abbrev pub program_in_order : Tree → Option PlainProgram
program_in_order t = option_and_then (program_at t) (top_in_order t)

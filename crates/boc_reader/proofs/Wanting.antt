-- The tokens of a tree are what is wanted of a text, one after the other.
use Rattle.std.proofs.Common.{◌≡◌, ℕ, zero, suc, Bool, true, false, List, [], ◌∷◌, ◌++◌, Option, Some, None, refl, ap, ◌∙◌, arith}
use Rattle.boc_reader.specs.declared.terminal.Keyword.TheVariants as keywords
use Rattle.boc_reader.specs.declared.terminal.Sign.TheVariants as signs
use Rattle.boc_reader.specs.declared.level.SumOperator.{SumOperator}
use Rattle.boc_reader.specs.declared.level.SumOperator.TheVariants as sums
use Rattle.boc_reader.specs.declared.level.TermOperator.{TermOperator}
use Rattle.boc_reader.specs.declared.level.TermOperator.TheVariants as terms
use Rattle.boc_reader.specs.declared.level.Comparison.{Comparison}
use Rattle.boc_reader.specs.declared.level.Comparison.TheVariants as comparisons
use Rattle.boc_reader.specs.declared.wanted.Wanted.{Wanted}
use Rattle.boc_reader.specs.declared.wanted.Wanted.TheVariants as the
use Rattle.boc_reader.specs.Tokens.{Token, name, number, keyword, sign}
use Rattle.boc_reader.specs.Shape.{comparison_sign, sum_sign, term_sign, Expr, plain, compared, expr_tokens, Sum, one_term, more_terms, sum_tokens, Term}
use Rattle.boc_reader.specs.Shape.{one_factor, more_factors, term_tokens, Unary, negated, unsigned, unary_tokens, Atom, literal, variable, parens, atom_tokens}
use Rattle.boc_reader.specs.Shape.{NamedCown, alone, member, ref_tokens, Stmt, declare, assign, work, if_only, if_else, repeat, when, stmt_tokens, Block, done}
use Rattle.boc_reader.specs.Shape.{next, block_tokens, braced_tokens, behind_commas, list_tokens, each_tokens, name_tokens, Cown, cown_tokens, HasMembers}
use Rattle.boc_reader.specs.Shape.{HaveMembers, size_tokens, minus_tokens, Def, def_tokens}
use Rattle.boc_reader.specs.Wanted.{behind, wanted_behind, wanted_after}
use Rattle.boc_reader.specs.WrongShape.{AreWhole, BeginTree}

-- an operand where an expression is wanted, or a side of a comparison; and after it
abbrev pub operand : Bool → Wanted
operand true = the.Sum
operand false = the.Expr

abbrev pub inside : Bool → Wanted
inside true = the.InSum
inside false = the.InExpr

minus_wanted : (c : Bool) (ts : List Token) (ws : List Wanted)
    → wanted_after (sign signs.Minus ∷ ts) (operand c ∷ ws) ≡ wanted_after ts (operand c ∷ ws)
minus_wanted true ts ws = refl
minus_wanted false ts ws = refl

name_wanted : (c : Bool) (x : List ℕ) (ts : List Token) (ws : List Wanted) → wanted_after (name x ∷ ts) (operand c ∷ ws) ≡ wanted_after ts (inside c ∷ ws)
name_wanted true x ts ws = refl
name_wanted false x ts ws = refl

number_wanted : (c : Bool) (n : ℕ) (ts : List Token) (ws : List Wanted) → wanted_after (number n ∷ ts) (operand c ∷ ws) ≡ wanted_after ts (inside c ∷ ws)
number_wanted true n ts ws = refl
number_wanted false n ts ws = refl

open_wanted : (c : Bool) (ts : List Token) (ws : List Wanted)
    → wanted_after (sign signs.Open ∷ ts) (operand c ∷ ws) ≡ wanted_after ts (the.Expr ∷ the.Close ∷ inside c ∷ ws)
open_wanted true ts ws = refl
open_wanted false ts ws = refl

term_sign_wanted : (c : Bool) (op : TermOperator) (ts : List Token) (ws : List Wanted)
    → wanted_after (sign (term_sign op) ∷ ts) (inside c ∷ ws) ≡ wanted_after ts (operand c ∷ ws)
term_sign_wanted true terms.Multiply ts ws = refl
term_sign_wanted true terms.Divide ts ws = refl
term_sign_wanted true terms.Remainder ts ws = refl
term_sign_wanted false terms.Multiply ts ws = refl
term_sign_wanted false terms.Divide ts ws = refl
term_sign_wanted false terms.Remainder ts ws = refl

sum_sign_wanted : (c : Bool) (op : SumOperator) (ts : List Token) (ws : List Wanted)
    → wanted_after (sign (sum_sign op) ∷ ts) (inside c ∷ ws) ≡ wanted_after ts (operand c ∷ ws)
sum_sign_wanted true sums.Add ts ws = refl
sum_sign_wanted true sums.Subtract ts ws = refl
sum_sign_wanted false sums.Add ts ws = refl
sum_sign_wanted false sums.Subtract ts ws = refl

comparison_wanted : (op : Comparison) (ts : List Token) (ws : List Wanted)
    → wanted_after (sign (comparison_sign op) ∷ ts) (the.InExpr ∷ ws) ≡ wanted_after ts (the.Sum ∷ ws)
comparison_wanted comparisons.Equal ts ws = refl
comparison_wanted comparisons.NotEqual ts ws = refl
comparison_wanted comparisons.Less ts ws = refl
comparison_wanted comparisons.AtMost ts ws = refl
comparison_wanted comparisons.Greater ts ws = refl
comparison_wanted comparisons.AtLeast ts ws = refl

-- what is wanted after an expression: an operator, a comparison only where there is none yet
abbrev pub in_expr : Expr → Wanted
in_expr (plain s) = the.InExpr
in_expr (compared s op t) = the.InSum

mutual
  expr_wanted : (e : Expr) (ts : List Token) (ws : List Wanted) → wanted_after (expr_tokens e ts) (the.Expr ∷ ws) ≡ wanted_after ts (in_expr e ∷ ws)
  expr_wanted (plain s) ts ws = sum_wanted false s ts ws
  expr_wanted (compared s op t) ts ws =
      sum_wanted false s (sign (comparison_sign op) ∷ sum_tokens t ts) ws ∙ comparison_wanted op (sum_tokens t ts) ws ∙ sum_wanted true t ts ws

  sum_wanted : (c : Bool) (s : Sum) (ts : List Token) (ws : List Wanted)
      → wanted_after (sum_tokens s ts) (operand c ∷ ws) ≡ wanted_after ts (inside c ∷ ws)
  sum_wanted c (one_term t) ts ws = term_wanted c t ts ws
  sum_wanted c (more_terms t op s) ts ws =
      term_wanted c t (sign (sum_sign op) ∷ sum_tokens s ts) ws ∙ sum_sign_wanted c op (sum_tokens s ts) ws ∙ sum_wanted c s ts ws

  term_wanted : (c : Bool) (t : Term) (ts : List Token) (ws : List Wanted)
      → wanted_after (term_tokens t ts) (operand c ∷ ws) ≡ wanted_after ts (inside c ∷ ws)
  term_wanted c (one_factor u) ts ws = unary_wanted c u ts ws
  term_wanted c (more_factors u op t) ts ws =
      unary_wanted c u (sign (term_sign op) ∷ term_tokens t ts) ws ∙ term_sign_wanted c op (term_tokens t ts) ws ∙ term_wanted c t ts ws

  unary_wanted : (c : Bool) (u : Unary) (ts : List Token) (ws : List Wanted)
      → wanted_after (unary_tokens u ts) (operand c ∷ ws) ≡ wanted_after ts (inside c ∷ ws)
  unary_wanted c (negated u) ts ws = minus_wanted c (unary_tokens u ts) ws ∙ unary_wanted c u ts ws
  unary_wanted c (unsigned a) ts ws = atom_wanted c a ts ws

  atom_wanted : (c : Bool) (a : Atom) (ts : List Token) (ws : List Wanted)
      → wanted_after (atom_tokens a ts) (operand c ∷ ws) ≡ wanted_after ts (inside c ∷ ws)
  atom_wanted c (literal n) ts ws = number_wanted c n ts ws
  atom_wanted c (variable x) ts ws = name_wanted c x ts ws
  atom_wanted c (parens e) ts ws =
      open_wanted c (expr_tokens e (sign signs.Close ∷ ts)) ws
      ∙ expr_wanted e (sign signs.Close ∷ ts) (the.Close ∷ inside c ∷ ws)
      ∙ close_wanted e ts (inside c ∷ ws)

  close_wanted : (e : Expr) (ts : List Token) (ws : List Wanted) → wanted_after (sign signs.Close ∷ ts) (in_expr e ∷ the.Close ∷ ws) ≡ wanted_after ts ws
  close_wanted (plain s) ts ws = refl
  close_wanted (compared s op t) ts ws = refl

-- what is wanted after tokens, by what the first of them was found to be, where it may be no more than what is wanted after that
abbrev read_by : Token → List Token → List Wanted → Option (List Wanted) → Option (List Wanted)
read_by t ts ws found =
    let behind_it : Option (List Wanted) = elim found [ Some all ↦ Some (all ++ ws) | None ↦ wanted_behind t ws ] in
    elim behind_it [ Some vs ↦ wanted_after ts vs | None ↦ None ]

-- after an expression a token that is no operator is read as if nothing more of the expression were wanted
no_operator : (e : Expr) (t : Token) (ts : List Token) (ws : List Wanted) → behind t the.InExpr ≡ None → behind t the.InSum ≡ None
    → wanted_after (t ∷ ts) (in_expr e ∷ ws) ≡ wanted_after (t ∷ ts) ws
no_operator (plain s) t ts ws none nor = ap (read_by t ts ws) none
no_operator (compared s op r) t ts ws none nor = ap (read_by t ts ws) nor

-- an expression, and a token after it that is no operator
ended : (e : Expr) (t : Token) (ts : List Token) (ws : List Wanted) → behind t the.InExpr ≡ None → behind t the.InSum ≡ None
    → wanted_after (expr_tokens e (t ∷ ts)) (the.Expr ∷ ws) ≡ wanted_after (t ∷ ts) ws
ended e t ts ws none nor = expr_wanted e (t ∷ ts) ws ∙ no_operator e t ts ws none nor

-- Names, and the sign after them.
more_params : (xs : List (List ℕ)) (ts : List Token) (ws : List Wanted)
    → wanted_after (behind_commas name_tokens xs (sign signs.Semicolon ∷ ts)) (the.MoreParams ∷ ws) ≡ wanted_after ts ws
more_params [] ts ws = refl
more_params (x ∷ xs) ts ws = more_params xs ts ws

params : (xs : List (List ℕ)) (ts : List Token) (ws : List Wanted)
    → wanted_after (list_tokens name_tokens xs (sign signs.Semicolon ∷ ts)) (the.Params ∷ ws) ≡ wanted_after ts ws
params [] ts ws = refl
params (x ∷ xs) ts ws = more_params xs ts ws

more_held : (xs : List (List ℕ)) (ts : List Token) (ws : List Wanted)
    → wanted_after (behind_commas name_tokens xs (sign signs.Close ∷ ts)) (the.MoreHeld ∷ ws) ≡ wanted_after ts ws
more_held [] ts ws = refl
more_held (x ∷ xs) ts ws = more_held xs ts ws

held : (xs : List (List ℕ)) (ts : List Token) (ws : List Wanted)
    → wanted_after (list_tokens name_tokens xs (sign signs.Close ∷ ts)) (the.Held ∷ ws) ≡ wanted_after ts ws
held [] ts ws = refl
held (x ∷ xs) ts ws = more_held xs ts ws

-- Arguments: the first one begins as every expression does.
first_unary : (u : Unary) (ts : List Token) (ws : List Wanted)
    → wanted_after (unary_tokens u ts) (the.Args ∷ ws) ≡ wanted_after (unary_tokens u ts) (the.Expr ∷ the.MoreArgs ∷ ws)
first_unary (negated u) ts ws = refl
first_unary (unsigned (literal n)) ts ws = refl
first_unary (unsigned (variable x)) ts ws = refl
first_unary (unsigned (parens e)) ts ws = refl

first_term : (t : Term) (ts : List Token) (ws : List Wanted)
    → wanted_after (term_tokens t ts) (the.Args ∷ ws) ≡ wanted_after (term_tokens t ts) (the.Expr ∷ the.MoreArgs ∷ ws)
first_term (one_factor u) ts ws = first_unary u ts ws
first_term (more_factors u op t) ts ws = first_unary u (sign (term_sign op) ∷ term_tokens t ts) ws

first_sum : (s : Sum) (ts : List Token) (ws : List Wanted)
    → wanted_after (sum_tokens s ts) (the.Args ∷ ws) ≡ wanted_after (sum_tokens s ts) (the.Expr ∷ the.MoreArgs ∷ ws)
first_sum (one_term t) ts ws = first_term t ts ws
first_sum (more_terms t op s) ts ws = first_term t (sign (sum_sign op) ∷ sum_tokens s ts) ws

first_expr : (e : Expr) (ts : List Token) (ws : List Wanted)
    → wanted_after (expr_tokens e ts) (the.Args ∷ ws) ≡ wanted_after (expr_tokens e ts) (the.Expr ∷ the.MoreArgs ∷ ws)
first_expr (plain s) ts ws = first_sum s ts ws
first_expr (compared s op t) ts ws = first_sum s (sign (comparison_sign op) ∷ sum_tokens t ts) ws

-- so does one after a comma
next_unary : (u : Unary) (ts : List Token) (ws : List Wanted)
    → wanted_after (unary_tokens u ts) (the.NextArg ∷ ws) ≡ wanted_after (unary_tokens u ts) (the.Expr ∷ ws)
next_unary (negated u) ts ws = refl
next_unary (unsigned (literal n)) ts ws = refl
next_unary (unsigned (variable x)) ts ws = refl
next_unary (unsigned (parens e)) ts ws = refl

next_term : (t : Term) (ts : List Token) (ws : List Wanted)
    → wanted_after (term_tokens t ts) (the.NextArg ∷ ws) ≡ wanted_after (term_tokens t ts) (the.Expr ∷ ws)
next_term (one_factor u) ts ws = next_unary u ts ws
next_term (more_factors u op t) ts ws = next_unary u (sign (term_sign op) ∷ term_tokens t ts) ws

next_sum : (s : Sum) (ts : List Token) (ws : List Wanted)
    → wanted_after (sum_tokens s ts) (the.NextArg ∷ ws) ≡ wanted_after (sum_tokens s ts) (the.Expr ∷ ws)
next_sum (one_term t) ts ws = next_term t ts ws
next_sum (more_terms t op s) ts ws = next_term t (sign (sum_sign op) ∷ sum_tokens s ts) ws

next_expr : (e : Expr) (ts : List Token) (ws : List Wanted)
    → wanted_after (expr_tokens e ts) (the.NextArg ∷ ws) ≡ wanted_after (expr_tokens e ts) (the.Expr ∷ ws)
next_expr (plain s) ts ws = next_sum s ts ws
next_expr (compared s op t) ts ws = next_sum s (sign (comparison_sign op) ∷ sum_tokens t ts) ws

more_args : (e : Expr) (es : List Expr) (ts : List Token) (ws : List Wanted)
    → wanted_after (expr_tokens e (behind_commas expr_tokens es (sign signs.Semicolon ∷ ts))) (the.Expr ∷ the.MoreArgs ∷ ws) ≡ wanted_after ts ws
more_args e [] ts ws = ended e (sign signs.Semicolon) ts (the.MoreArgs ∷ ws) refl refl
more_args e (f ∷ fs) ts ws =
    let rest = behind_commas expr_tokens fs (sign signs.Semicolon ∷ ts) in
    ended e (sign signs.Comma) (expr_tokens f rest) (the.MoreArgs ∷ ws) refl refl ∙ next_expr f rest (the.MoreArgs ∷ ws) ∙ more_args f fs ts ws

args : (es : List Expr) (ts : List Token) (ws : List Wanted)
    → wanted_after (list_tokens expr_tokens es (sign signs.Semicolon ∷ ts)) (the.Args ∷ ws) ≡ wanted_after ts ws
args [] ts ws = refl
args (e ∷ es) ts ws = first_expr e (behind_commas expr_tokens es (sign signs.Semicolon ∷ ts)) ws ∙ more_args e es ts ws

-- a reference, and a token after it that begins no index
one_ref : (r : NamedCown) (t : Token) (ts : List Token) (ws : List Wanted) → behind t the.Index ≡ None
    → wanted_after (ref_tokens r (t ∷ ts)) (the.NextRef ∷ ws) ≡ wanted_after (t ∷ ts) ws
one_ref (alone x) t ts ws none = ap (read_by t ts ws) none
one_ref (member x e) t ts ws none = ended e (sign signs.CloseIndex) (t ∷ ts) (the.CloseIndex ∷ ws) refl refl

first_ref : (r : NamedCown) (ts : List Token) (ws : List Wanted)
    → wanted_after (ref_tokens r ts) (the.Refs ∷ ws) ≡ wanted_after (ref_tokens r ts) (the.NextRef ∷ the.MoreRefs ∷ ws)
first_ref (alone x) ts ws = refl
first_ref (member x e) ts ws = refl

more_refs : (r : NamedCown) (rs : List NamedCown) (ts : List Token) (ws : List Wanted)
    → wanted_after (ref_tokens r (behind_commas ref_tokens rs (sign signs.Close ∷ ts))) (the.NextRef ∷ the.MoreRefs ∷ ws) ≡ wanted_after ts ws
more_refs r [] ts ws = one_ref r (sign signs.Close) ts (the.MoreRefs ∷ ws) refl
more_refs r (q ∷ qs) ts ws =
    one_ref r (sign signs.Comma) (ref_tokens q (behind_commas ref_tokens qs (sign signs.Close ∷ ts))) (the.MoreRefs ∷ ws) refl ∙ more_refs q qs ts ws

refs : (rs : List NamedCown) (ts : List Token) (ws : List Wanted)
    → wanted_after (list_tokens ref_tokens rs (sign signs.Close ∷ ts)) (the.Refs ∷ ws) ≡ wanted_after ts ws
refs [] ts ws = refl
refs (r ∷ rs) ts ws = first_ref r (behind_commas ref_tokens rs (sign signs.Close ∷ ts)) ws ∙ more_refs r rs ts ws

-- no statement begins with `else`, nor does the end of a block
no_else : (b : Block) (ts : List Token) (ws : List Wanted)
    → wanted_after (block_tokens b (sign signs.CloseBlock ∷ ts)) (the.Else ∷ ws) ≡ wanted_after (block_tokens b (sign signs.CloseBlock ∷ ts)) ws
no_else done ts ws = refl
no_else (next (declare x e) b) ts ws = refl
no_else (next (assign x e) b) ts ws = refl
no_else (next (work e) b) ts ws = refl
no_else (next (if_only e a) b) ts ws = refl
no_else (next (if_else e a c) b) ts ws = refl
no_else (next (repeat e a) b) ts ws = refl
no_else (next (when f es rs) b) ts ws = refl

-- an expression, and the semicolon after it
written : (e : Expr) (ts : List Token) (ws : List Wanted)
    → wanted_after (expr_tokens e (sign signs.Semicolon ∷ ts)) (the.Expr ∷ the.Semicolon ∷ ws) ≡ wanted_after ts ws
written e ts ws = ended e (sign signs.Semicolon) ts (the.Semicolon ∷ ws) refl refl

-- an expression, and the block after it
guarded : (e : Expr) (b : Block) (ts : List Token) (ws : List Wanted)
    → wanted_after (expr_tokens e (braced_tokens b ts)) (the.Expr ∷ the.OpenBlock ∷ the.Stmts ∷ ws)
    ≡ wanted_after (block_tokens b (sign signs.CloseBlock ∷ ts)) (the.Stmts ∷ ws)
guarded e b ts ws = ended e (sign signs.OpenBlock) (block_tokens b (sign signs.CloseBlock ∷ ts)) (the.OpenBlock ∷ the.Stmts ∷ ws) refl refl

mutual
  stmt_wanted : (s : Stmt) (b : Block) (ts : List Token) (ws : List Wanted)
      → wanted_after (stmt_tokens s (block_tokens b (sign signs.CloseBlock ∷ ts))) (the.Stmts ∷ ws)
      ≡ wanted_after (block_tokens b (sign signs.CloseBlock ∷ ts)) (the.Stmts ∷ ws)
  stmt_wanted (declare x e) b ts ws = written e (block_tokens b (sign signs.CloseBlock ∷ ts)) (the.Stmts ∷ ws)
  stmt_wanted (assign x e) b ts ws = written e (block_tokens b (sign signs.CloseBlock ∷ ts)) (the.Stmts ∷ ws)
  stmt_wanted (work e) b ts ws = written e (block_tokens b (sign signs.CloseBlock ∷ ts)) (the.Stmts ∷ ws)
  stmt_wanted (if_only e a) b ts ws =
      let rest = block_tokens b (sign signs.CloseBlock ∷ ts) in
      guarded e a rest (the.Else ∷ the.Stmts ∷ ws) ∙ block_wanted a rest (the.Else ∷ the.Stmts ∷ ws) ∙ no_else b ts (the.Stmts ∷ ws)
  stmt_wanted (if_else e a c) b ts ws =
      let rest = block_tokens b (sign signs.CloseBlock ∷ ts) in
      let other = keyword keywords.Else ∷ braced_tokens c rest in
      guarded e a other (the.Else ∷ the.Stmts ∷ ws) ∙ block_wanted a other (the.Else ∷ the.Stmts ∷ ws) ∙ block_wanted c rest (the.Stmts ∷ ws)
  stmt_wanted (repeat e a) b ts ws =
      let rest = block_tokens b (sign signs.CloseBlock ∷ ts) in
      guarded e a rest (the.Stmts ∷ ws) ∙ block_wanted a rest (the.Stmts ∷ ws)
  stmt_wanted (when f es rs) b ts ws =
      let rest = block_tokens b (sign signs.CloseBlock ∷ ts) in
      args es (list_tokens ref_tokens rs (sign signs.Close ∷ sign signs.Semicolon ∷ rest)) (the.Refs ∷ the.Semicolon ∷ the.Stmts ∷ ws)
      ∙ refs rs (sign signs.Semicolon ∷ rest) (the.Semicolon ∷ the.Stmts ∷ ws)

  block_wanted : (b : Block) (ts : List Token) (ws : List Wanted)
      → wanted_after (block_tokens b (sign signs.CloseBlock ∷ ts)) (the.Stmts ∷ ws) ≡ wanted_after ts ws
  block_wanted done ts ws = refl
  block_wanted (next s b) ts ws = stmt_wanted s b ts ws ∙ block_wanted b ts ws

-- the tokens of defs, and of main after them
abbrev pub defs_tokens : List Def → Block → List Token
defs_tokens ds b = each_tokens def_tokens ds (keyword keywords.Main ∷ braced_tokens b [])

defs_wanted : (ds : List Def) (b : Block) → wanted_after (defs_tokens ds b) (the.Defs ∷ []) ≡ Some []
defs_wanted [] b = block_wanted b [] []
defs_wanted (d ∷ ds) b =
    let rest = defs_tokens ds b in
    params d.params (list_tokens name_tokens d.cowns (sign signs.Close ∷ braced_tokens d.block rest))
    (the.Held ∷ the.OpenBlock ∷ the.Stmts ∷ the.Defs ∷ [])
    ∙ held d.cowns (braced_tokens d.block rest) (the.OpenBlock ∷ the.Stmts ∷ the.Defs ∷ [])
    ∙ block_wanted d.block rest (the.Defs ∷ [])
    ∙ defs_wanted ds b

first_def : (ds : List Def) (b : Block) → wanted_after (defs_tokens ds b) (the.Cowns ∷ []) ≡ wanted_after (defs_tokens ds b) (the.Defs ∷ [])
first_def [] b = refl
first_def (d ∷ ds) b = refl

value_wanted : (negative : Bool) (n : ℕ) (ts : List Token) (ws : List Wanted)
    → wanted_after (minus_tokens negative (number n ∷ sign signs.Semicolon ∷ ts)) (the.Initial ∷ the.Semicolon ∷ ws) ≡ wanted_after ts ws
value_wanted true n ts ws = refl
value_wanted false n ts ws = refl

size_wanted : (n : Option ℕ) (ts : List Token) (ws : List Wanted) → HasMembers n
    → wanted_after (size_tokens n (sign signs.Assign ∷ ts)) (the.Size ∷ the.Assign ∷ ws) ≡ wanted_after ts ws
size_wanted None ts ws m = refl
size_wanted (Some zero) ts ws m = absurd (omega (arith, m))
size_wanted (Some (suc n)) ts ws m = refl

cowns_wanted : (cs : List Cown) (ds : List Def) (b : Block) → HaveMembers cs
    → wanted_after (each_tokens cown_tokens cs (defs_tokens ds b)) (the.Cowns ∷ []) ≡ Some []
cowns_wanted [] ds b m = first_def ds b ∙ defs_wanted ds b
cowns_wanted (c ∷ cs) ds b m =
    let rest = each_tokens cown_tokens cs (defs_tokens ds b) in
    size_wanted c.size (minus_tokens c.negative (number c.value ∷ sign signs.Semicolon ∷ rest)) (the.Initial ∷ the.Semicolon ∷ the.Cowns ∷ []) m.0
    ∙ value_wanted c.negative c.value rest (the.Cowns ∷ [])
    ∙ cowns_wanted cs ds b m.1

-- all tokens of a tree whose arrays have members are wanted, and nothing after them
pub whole_wanted : (ts : List Token) → AreWhole ts → wanted_after ts (the.Cowns ∷ []) ≡ Some []
whole_wanted ts w =
    ap (λ (ts : List Token). wanted_after ts (the.Cowns ∷ [])) w.tokens_are ∙ cowns_wanted w.tree.cowns w.tree.defs w.tree.main w.arrays

-- tokens after one that is stray
stray_on : (ts more : List Token) (found : Option (List Wanted))
    → ((us : List Wanted) → wanted_after ts us ≡ None → wanted_after (ts ++ more) us ≡ None)
    → ◌≡◌ {A = Option (List Wanted)} (elim found [ Some us ↦ wanted_after ts us | None ↦ None ]) None
    → ◌≡◌ {A = Option (List Wanted)} (elim found [ Some us ↦ wanted_after (ts ++ more) us | None ↦ None ]) None
stray_on ts more (Some us) deeper e = deeper us e
stray_on ts more None deeper e = refl

strays_on : (ts more : List Token) (ws : List Wanted) → wanted_after ts ws ≡ None → wanted_after (ts ++ more) ws ≡ None
strays_on [] more ws e = absurd cc
strays_on (t ∷ ts) more ws e = stray_on ts more (wanted_behind t ws) (λ us d. strays_on ts more us d) e

-- no tree begins with tokens of which one is stray
pub stray_begins_none : (ts : List Token) → wanted_after ts (the.Cowns ∷ []) ≡ None → BeginTree ts → ⊥
stray_begins_none ts e l =
    let none = strays_on ts l.more (the.Cowns ∷ []) e in
    let all = whole_wanted (ts ++ l.more) l.whole in
    cc

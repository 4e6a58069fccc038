-- What is wanted of a text, as parts of a tree: what stands where a token was read stands in its place.
use Rattle.std.proofs.Common.{◌≡◌, ℕ, zero, suc, ◌≤◌, Bool, true, false, if◌then◌else◌, List, [], ◌∷◌, ◌++◌, Option, Some, None, refl, sym, ap, ◌∙◌, subst}
use Rattle.std.proofs.Common.{arith, append-nil}
use Rattle.boc_reader.specs.declared.terminal.Keyword.{Keyword}
use Rattle.boc_reader.specs.declared.terminal.Keyword.TheVariants as keywords
use Rattle.boc_reader.specs.declared.terminal.Sign.{Sign}
use Rattle.boc_reader.specs.declared.terminal.Sign.TheVariants as signs
use Rattle.boc_reader.specs.declared.level.SumOperator.{SumOperator}
use Rattle.boc_reader.specs.declared.level.SumOperator.TheVariants as sums
use Rattle.boc_reader.specs.declared.level.TermOperator.{TermOperator}
use Rattle.boc_reader.specs.declared.level.TermOperator.TheVariants as terms
use Rattle.boc_reader.specs.declared.level.Comparison.{Comparison}
use Rattle.boc_reader.specs.declared.level.Comparison.TheVariants as comparisons
use Rattle.boc_reader.specs.declared.wanted.Wanted.{Wanted}
use Rattle.boc_reader.specs.declared.wanted.Wanted.TheVariants as the
use Rattle.boc_reader.specs.Tokens.{Token, name, number, keyword, sign}
use Rattle.boc_reader.specs.Shape.{comparison_sign, sum_sign, term_sign, Expr, plain, compared, expr_tokens, Sum, one_term, more_terms, sum_tokens, Term}
use Rattle.boc_reader.specs.Shape.{one_factor, more_factors, term_tokens, Unary, negated, unsigned, unary_tokens, literal, variable, parens, NamedCown}
use Rattle.boc_reader.specs.Shape.{alone, member, ref_tokens, Stmt, declare, assign, work, if_only, if_else, repeat, when, stmt_tokens, Block, done, next}
use Rattle.boc_reader.specs.Shape.{block_tokens, braced_tokens, behind_commas, list_tokens, each_tokens, name_tokens, Cown, cown_tokens, HasMembers}
use Rattle.boc_reader.specs.Shape.{HaveMembers, size_tokens, minus_tokens, Def, def_tokens}
use Rattle.boc_reader.specs.Wanted.{behind, behind_name, behind_number, behind_size, behind_keyword, in_declaration, in_def, in_statement, in_else}
use Rattle.boc_reader.specs.Wanted.{behind_sign, behind_operator, behind_comparison, behind_minus, behind_open, behind_close, behind_semicolon, behind_comma}
use Rattle.boc_reader.specs.Wanted.{behind_open_index, behind_close_index, behind_open_block, behind_close_block, behind_assign, may_be_left_out}
use Rattle.boc_reader.specs.Wanted.{wanted_behind, wanted_after}
use Rattle.boc_reader.specs.WrongShape.{AreWhole, BeginTree}

-- what is wanted comes before the rest
abbrev pub Fills : Wanted → List Token → List Token → Type 0
Fills the.Cowns ts rest =
    (cs : List Cown) × (ds : List Def) × (b : Block) × HaveMembers cs
    × (ts ≡ each_tokens cown_tokens cs (each_tokens def_tokens ds (keyword keywords.Main ∷ braced_tokens b rest)))
Fills the.Defs ts rest = (ds : List Def) × (b : Block) × (ts ≡ each_tokens def_tokens ds (keyword keywords.Main ∷ braced_tokens b rest))
Fills the.Name ts rest = (x : List ℕ) × (ts ≡ name x ∷ rest)
Fills the.Number ts rest = (n : ℕ) × (ts ≡ number n ∷ rest)
Fills the.Assign ts rest = ts ≡ sign signs.Assign ∷ rest
Fills the.Semicolon ts rest = ts ≡ sign signs.Semicolon ∷ rest
Fills the.Open ts rest = ts ≡ sign signs.Open ∷ rest
Fills the.Close ts rest = ts ≡ sign signs.Close ∷ rest
Fills the.OpenBlock ts rest = ts ≡ sign signs.OpenBlock ∷ rest
Fills the.CloseIndex ts rest = ts ≡ sign signs.CloseIndex ∷ rest
Fills the.Size ts rest = (n : Option ℕ) × HasMembers n × (ts ≡ size_tokens n rest)
Fills the.Members ts rest = (n : ℕ) × (1 ≤ n) × (ts ≡ number n ∷ rest)
Fills the.Initial ts rest = (negative : Bool) × (n : ℕ) × (ts ≡ minus_tokens negative (number n ∷ rest))
Fills the.Params ts rest = (xs : List (List ℕ)) × (ts ≡ list_tokens name_tokens xs (sign signs.Semicolon ∷ rest))
Fills the.MoreParams ts rest = (xs : List (List ℕ)) × (ts ≡ behind_commas name_tokens xs (sign signs.Semicolon ∷ rest))
Fills the.Held ts rest = (xs : List (List ℕ)) × (ts ≡ list_tokens name_tokens xs (sign signs.Close ∷ rest))
Fills the.MoreHeld ts rest = (xs : List (List ℕ)) × (ts ≡ behind_commas name_tokens xs (sign signs.Close ∷ rest))
Fills the.Stmts ts rest = (b : Block) × (ts ≡ block_tokens b (sign signs.CloseBlock ∷ rest))
Fills the.Else ts rest = (e : Expr) (b : Block) → (s : Stmt) × (stmt_tokens (if_only e b) ts ≡ stmt_tokens s rest)
Fills the.Args ts rest = (es : List Expr) × (ts ≡ list_tokens expr_tokens es (sign signs.Semicolon ∷ rest))
Fills the.MoreArgs ts rest = (es : List Expr) × (ts ≡ behind_commas expr_tokens es (sign signs.Semicolon ∷ rest))
Fills the.Refs ts rest = (rs : List NamedCown) × (ts ≡ list_tokens ref_tokens rs (sign signs.Close ∷ rest))
Fills the.MoreRefs ts rest = (rs : List NamedCown) × (ts ≡ behind_commas ref_tokens rs (sign signs.Close ∷ rest))
Fills the.Index ts rest = (x : List ℕ) → (r : NamedCown) × (name x ∷ ts ≡ ref_tokens r rest)
Fills the.Expr ts rest = (e : Expr) × (ts ≡ expr_tokens e rest)
Fills the.InExpr ts rest = (u : Unary) → (e : Expr) × (unary_tokens u ts ≡ expr_tokens e rest)
Fills the.Sum ts rest = (s : Sum) × (ts ≡ sum_tokens s rest)
Fills the.InSum ts rest = (u : Unary) → (s : Sum) × (unary_tokens u ts ≡ sum_tokens s rest)
Fills the.CownName ts rest = (x : List ℕ) × (n : Option ℕ) × HasMembers n × (ts ≡ name x ∷ size_tokens n rest)
Fills the.NextName ts rest = (x : List ℕ) × (ts ≡ name x ∷ rest)
Fills the.NextArg ts rest = (e : Expr) × (ts ≡ expr_tokens e rest)
Fills the.NextRef ts rest = (r : NamedCown) × (ts ≡ ref_tokens r rest)

-- all that is wanted stands there, one after the other, and nothing else
abbrev pub FillAll : List Wanted → List Token → Type 0
FillAll [] ts = ts ≡ []
FillAll (w ∷ ws) ts = (rest : List Token) × Fills w ts rest × FillAll ws rest

-- the same of what is wanted after a token, if it can stand there
abbrev FillThen : Option (List Wanted) → List Wanted → List Token → Type 0
FillThen None ws ts = ⊥
FillThen (Some all) ws ts = FillAll (all ++ ws) ts

-- where what is wanted after a token comes after it, what was wanted stands from the token on
abbrev Behind : Token → Wanted → Option (List Wanted) → Type 0
Behind t w found = (ws : List Wanted) (ts : List Token) → FillThen found ws ts → FillAll (w ∷ ws) (t ∷ ts)

at_name : (x : List ℕ) (w : Wanted) → Behind (name x) w (behind_name w)
at_name x the.Name ws ts h = (ts, (x, refl), h)
at_name x the.Params ws ts (r, more, h) = (r, (x ∷ more.0, cc), h)
at_name x the.Held ws ts (r, more, h) = (r, (x ∷ more.0, cc), h)
at_name x the.Stmts ws ts (r, a, (s, e, (t, c, (u, b, h)))) = (u, (next (assign x e.0) b.0, cc), h)
at_name x the.Args ws ts (r, e, (s, more, h)) = let first = e (unsigned (variable x)) in (s, (first.0 ∷ more.0, cc), h)
at_name x the.Refs ws ts (r, i, (s, more, h)) = let first = i x in (s, (first.0 ∷ more.0, cc), h)
at_name x the.Expr ws ts (r, e, h) = (r, e (unsigned (variable x)), h)
at_name x the.Sum ws ts (r, e, h) = (r, e (unsigned (variable x)), h)
at_name x the.CownName ws ts (r, n, h) = (r, (x, n.0, n.1, cc), h)
at_name x the.NextName ws ts h = (ts, (x, refl), h)
at_name x the.NextArg ws ts (r, e, h) = (r, e (unsigned (variable x)), h)
at_name x the.NextRef ws ts (r, i, h) = (r, i x, h)
at_name x _ ws ts h = absurd h

at_size : (n : ℕ) → Behind (number n) the.Members (behind_size n)
at_size zero ws ts h = absurd h
at_size (suc n) ws ts h = (ts, (suc n, omega arith, refl), h)

at_number : (n : ℕ) (w : Wanted) → Behind (number n) w (behind_number n w)
at_number n the.Number ws ts h = (ts, (n, refl), h)
at_number n the.Members ws ts h = at_size n ws ts h
at_number n the.Initial ws ts h = (ts, (false, n, refl), h)
at_number n the.Args ws ts (r, e, (s, more, h)) = let first = e (unsigned (literal n)) in (s, (first.0 ∷ more.0, cc), h)
at_number n the.Expr ws ts (r, e, h) = (r, e (unsigned (literal n)), h)
at_number n the.Sum ws ts (r, e, h) = (r, e (unsigned (literal n)), h)
at_number n the.NextArg ws ts (r, e, h) = (r, e (unsigned (literal n)), h)
at_number n _ ws ts h = absurd h

at_statement : (k : Keyword) → Behind (keyword k) the.Stmts (in_statement k)
at_statement keywords.Let ws ts (q, x, (r, a, (s, e, (t, c, (u, b, h))))) = (u, (next (declare x.0 e.0) b.0, cc), h)
at_statement keywords.Work ws ts (s, e, (t, c, (u, b, h))) = (u, (next (work e.0) b.0, cc), h)
at_statement keywords.If ws ts (p, e, (q, o, (r, a, (s, other, (t, b, h))))) =
    let chosen = other e.0 a.0 in
    (t, (next chosen.0 b.0, cc), h)
at_statement keywords.Repeat ws ts (p, e, (q, o, (r, a, (s, b, h)))) = (s, (next (repeat e.0 a.0) b.0, cc), h)
at_statement keywords.When ws ts (p, x, (q, o, (r, es, (s, rs, (t, c, (u, b, h)))))) = (u, (next (when x.0 es.0 rs.0) b.0, cc), h)
at_statement _ ws ts h = absurd h

at_def : (k : Keyword) → Behind (keyword k) the.Defs (in_def k)
at_def keywords.Def ws ts (p, x, (q, o, (r, xs, (s, ys, (t, c, (u, b, (v, all, h))))))) =
    let d : Def = record { name = x.0; params = xs.0; cowns = ys.0; block = b.0 } in
    (v, (d ∷ all.0, all.1, cc), h)
at_def keywords.Main ws ts (q, o, (r, b, h)) = (r, ([], b.0, cc), h)
at_def _ ws ts h = absurd h

-- what begins with a def or main is a text without declarations of cowns
no_cowns : (k : Keyword) (o : Option (List Wanted)) → Behind (keyword k) the.Defs o → Behind (keyword k) the.Cowns o
no_cowns k None at ws ts h = absurd h
no_cowns k (Some all) at ws ts h = let found = at ws ts h in (found.0, ([], found.1.0, found.1.1, tt, found.1.2), found.2)

at_declaration : (k : Keyword) → Behind (keyword k) the.Cowns (in_declaration k)
at_declaration keywords.Cown ws ts (q, n, (r, a, (s, v, (t, c, (u, all, h))))) =
    let d : Cown = record { name = n.0; size = n.1; negative = v.0; value = v.1 } in
    (u, (d ∷ all.0, all.1, all.2, (n.2, all.3), cc), h)
at_declaration k ws ts h = no_cowns k (in_def k) (at_def k) ws ts h

at_else : (k : Keyword) → Behind (keyword k) the.Else (in_else k)
at_else keywords.Else ws ts (q, o, (r, b, h)) = (r, (λ e a. (if_else e a b.0, cc)), h)
at_else _ ws ts h = absurd h

at_keyword : (k : Keyword) (w : Wanted) → Behind (keyword k) w (behind_keyword k w)
at_keyword k the.Cowns ws ts h = at_declaration k ws ts h
at_keyword k the.Defs ws ts h = at_def k ws ts h
at_keyword k the.Stmts ws ts h = at_statement k ws ts h
at_keyword k the.Else ws ts h = at_else k ws ts h
at_keyword k _ ws ts h = absurd h

-- an operator between a factor and an expression
more_in_sum : (u : Unary) (op : SumOperator) (s : Sum) (r : List Token) → (t : Sum) × (unary_tokens u (sign (sum_sign op) ∷ sum_tokens s r) ≡ sum_tokens t r)
more_in_sum u op s r = (more_terms (one_factor u) op s, refl)

more_in_expr : (u : Unary) (op : SumOperator) (e : Expr) (r : List Token)
    → (f : Expr) × (unary_tokens u (sign (sum_sign op) ∷ expr_tokens e r) ≡ expr_tokens f r)
more_in_expr u op (plain s) r = (plain (more_terms (one_factor u) op s), refl)
more_in_expr u op (compared s o t) r = (compared (more_terms (one_factor u) op s) o t, refl)

factor_in_sum : (u : Unary) (op : TermOperator) (s : Sum) (r : List Token)
    → (t : Sum) × (unary_tokens u (sign (term_sign op) ∷ sum_tokens s r) ≡ sum_tokens t r)
factor_in_sum u op (one_term t) r = (one_term (more_factors u op t), refl)
factor_in_sum u op (more_terms t o s) r = (more_terms (more_factors u op t) o s, refl)

factor_in_expr : (u : Unary) (op : TermOperator) (e : Expr) (r : List Token)
    → (f : Expr) × (unary_tokens u (sign (term_sign op) ∷ expr_tokens e r) ≡ expr_tokens f r)
factor_in_expr u op (plain s) r = let m = factor_in_sum u op s r in (plain m.0, m.1)
factor_in_expr u op (compared s o t) r = let m = factor_in_sum u op s (sign (comparison_sign o) ∷ sum_tokens t r) in (compared m.0 o t, m.1)

-- a minus before an expression comes before its first factor
minus_term : (t : Term) (r : List Token) → (m : Term) × (sign signs.Minus ∷ term_tokens t r ≡ term_tokens m r)
minus_term (one_factor u) r = (one_factor (negated u), refl)
minus_term (more_factors u op t) r = (more_factors (negated u) op t, refl)

minus_sum : (s : Sum) (r : List Token) → (m : Sum) × (sign signs.Minus ∷ sum_tokens s r ≡ sum_tokens m r)
minus_sum (one_term t) r = let m = minus_term t r in (one_term m.0, m.1)
minus_sum (more_terms t op s) r = let m = minus_term t (sign (sum_sign op) ∷ sum_tokens s r) in (more_terms m.0 op s, m.1)

minus_expr : (e : Expr) (r : List Token) → (m : Expr) × (sign signs.Minus ∷ expr_tokens e r ≡ expr_tokens m r)
minus_expr (plain s) r = let m = minus_sum s r in (plain m.0, m.1)
minus_expr (compared s op t) r = let m = minus_sum s (sign (comparison_sign op) ∷ sum_tokens t r) in (compared m.0 op t, m.1)

at_sum_sign : (op : SumOperator) (w : Wanted) → Behind (sign (sum_sign op)) w (behind_operator w)
at_sum_sign op the.InExpr ws ts (r, e, h) = (r, (λ u. let m = more_in_expr u op e.0 r in (m.0, cc)), h)
at_sum_sign op the.InSum ws ts (r, s, h) = (r, (λ u. let m = more_in_sum u op s.0 r in (m.0, cc)), h)
at_sum_sign op _ ws ts h = absurd h

at_term_sign : (op : TermOperator) (w : Wanted) → Behind (sign (term_sign op)) w (behind_operator w)
at_term_sign op the.InExpr ws ts (r, e, h) = (r, (λ u. let m = factor_in_expr u op e.0 r in (m.0, cc)), h)
at_term_sign op the.InSum ws ts (r, s, h) = (r, (λ u. let m = factor_in_sum u op s.0 r in (m.0, cc)), h)
at_term_sign op _ ws ts h = absurd h

at_comparison : (op : Comparison) (w : Wanted) → Behind (sign (comparison_sign op)) w (behind_comparison w)
at_comparison op the.InExpr ws ts (r, s, h) = (r, (λ u. (compared (one_term (one_factor u)) op s.0, cc)), h)
at_comparison op _ ws ts h = absurd h

at_minus : (w : Wanted) → Behind (sign signs.Minus) w (behind_minus w)
at_minus the.Initial ws ts (r, n, h) = (r, (true, n.0, cc), h)
at_minus the.Args ws ts (r, e, (s, more, h)) = let m = minus_expr e.0 r in (s, (m.0 ∷ more.0, cc), h)
at_minus the.Expr ws ts (r, e, h) = let m = minus_expr e.0 r in (r, (m.0, cc), h)
at_minus the.Sum ws ts (r, s, h) = let m = minus_sum s.0 r in (r, (m.0, cc), h)
at_minus the.NextArg ws ts (r, e, h) = let m = minus_expr e.0 r in (r, (m.0, cc), h)
at_minus w ws ts h = at_sum_sign sums.Subtract w ws ts h

at_open : (w : Wanted) → Behind (sign signs.Open) w (behind_open w)
at_open the.Open ws ts h = (ts, refl, h)
at_open the.Args ws ts (q, e, (r, c, (s, all, (t, more, h)))) = let first = all (unsigned (parens e.0)) in (t, (first.0 ∷ more.0, cc), h)
at_open the.Expr ws ts (q, e, (r, c, (s, all, h))) = let whole = all (unsigned (parens e.0)) in (s, (whole.0, cc), h)
at_open the.Sum ws ts (q, e, (r, c, (s, all, h))) = let whole = all (unsigned (parens e.0)) in (s, (whole.0, cc), h)
at_open the.NextArg ws ts (q, e, (r, c, (s, all, h))) = let whole = all (unsigned (parens e.0)) in (s, (whole.0, cc), h)
at_open _ ws ts h = absurd h

at_close : (w : Wanted) → Behind (sign signs.Close) w (behind_close w)
at_close the.Close ws ts h = (ts, refl, h)
at_close the.Held ws ts h = (ts, ([], refl), h)
at_close the.MoreHeld ws ts h = (ts, ([], refl), h)
at_close the.Refs ws ts h = (ts, ([], refl), h)
at_close the.MoreRefs ws ts h = (ts, ([], refl), h)
at_close _ ws ts h = absurd h

at_semicolon : (w : Wanted) → Behind (sign signs.Semicolon) w (behind_semicolon w)
at_semicolon the.Semicolon ws ts h = (ts, refl, h)
at_semicolon the.Params ws ts h = (ts, ([], refl), h)
at_semicolon the.MoreParams ws ts h = (ts, ([], refl), h)
at_semicolon the.Args ws ts h = (ts, ([], refl), h)
at_semicolon the.MoreArgs ws ts h = (ts, ([], refl), h)
at_semicolon _ ws ts h = absurd h

at_comma : (w : Wanted) → Behind (sign signs.Comma) w (behind_comma w)
at_comma the.MoreParams ws ts (r, x, (s, more, h)) = (s, (x.0 ∷ more.0, cc), h)
at_comma the.MoreHeld ws ts (r, x, (s, more, h)) = (s, (x.0 ∷ more.0, cc), h)
at_comma the.MoreArgs ws ts (r, e, (s, more, h)) = (s, (e.0 ∷ more.0, cc), h)
at_comma the.MoreRefs ws ts (r, named, (s, more, h)) = (s, (named.0 ∷ more.0, cc), h)
at_comma _ ws ts h = absurd h

at_open_index : (w : Wanted) → Behind (sign signs.OpenIndex) w (behind_open_index w)
at_open_index the.Size ws ts (r, n, (s, c, h)) = (s, (Some n.0, n.1, cc), h)
at_open_index the.Index ws ts (r, e, (s, c, h)) = (s, (λ x. (member x e.0, cc)), h)
at_open_index _ ws ts h = absurd h

at_close_index : (w : Wanted) → Behind (sign signs.CloseIndex) w (behind_close_index w)
at_close_index the.CloseIndex ws ts h = (ts, refl, h)
at_close_index _ ws ts h = absurd h

at_open_block : (w : Wanted) → Behind (sign signs.OpenBlock) w (behind_open_block w)
at_open_block the.OpenBlock ws ts h = (ts, refl, h)
at_open_block _ ws ts h = absurd h

at_close_block : (w : Wanted) → Behind (sign signs.CloseBlock) w (behind_close_block w)
at_close_block the.Stmts ws ts h = (ts, (done, refl), h)
at_close_block _ ws ts h = absurd h

at_assign : (w : Wanted) → Behind (sign signs.Assign) w (behind_assign w)
at_assign the.Assign ws ts h = (ts, refl, h)
at_assign _ ws ts h = absurd h

at_sign : (s : Sign) (w : Wanted) → Behind (sign s) w (behind_sign s w)
at_sign signs.Assign w = at_assign w
at_sign signs.Equal w = at_comparison comparisons.Equal w
at_sign signs.NotEqual w = at_comparison comparisons.NotEqual w
at_sign signs.Less w = at_comparison comparisons.Less w
at_sign signs.AtMost w = at_comparison comparisons.AtMost w
at_sign signs.Greater w = at_comparison comparisons.Greater w
at_sign signs.AtLeast w = at_comparison comparisons.AtLeast w
at_sign signs.Plus w = at_sum_sign sums.Add w
at_sign signs.Minus w = at_minus w
at_sign signs.Star w = at_term_sign terms.Multiply w
at_sign signs.Slash w = at_term_sign terms.Divide w
at_sign signs.Percent w = at_term_sign terms.Remainder w
at_sign signs.Open w = at_open w
at_sign signs.Close w = at_close w
at_sign signs.OpenBlock w = at_open_block w
at_sign signs.CloseBlock w = at_close_block w
at_sign signs.OpenIndex w = at_open_index w
at_sign signs.CloseIndex w = at_close_index w
at_sign signs.Semicolon w = at_semicolon w
at_sign signs.Comma w = at_comma w

at_token : (t : Token) (w : Wanted) → Behind t w (behind t w)
at_token (name x) w = at_name x w
at_token (number n) w = at_number n w
at_token (keyword k) w = at_keyword k w
at_token (sign s) w = at_sign s w

-- what may be left out comes before anything
left_out : (w : Wanted) → may_be_left_out w ≡ true → (rest : List Token) → Fills w rest rest
left_out the.Size e rest = (None, tt, refl)
left_out the.Else e rest = λ e b. (if_only e b, refl)
left_out the.Index e rest = λ x. (alone x, refl)
left_out the.InExpr e rest = λ u. (plain (one_term (one_factor u)), refl)
left_out the.InSum e rest = λ u. (one_term (one_factor u), refl)
left_out w e rest = absurd cc

-- where a token isn't what is wanted, that is left out
passed : (t : Token) (w : Wanted) (ws vs : List Wanted) (may : Bool) → may_be_left_out w ≡ may → (if may then wanted_behind t ws else None) ≡ Some vs
    → (ts : List Token) → (wanted_behind t ws ≡ Some vs → FillAll ws (t ∷ ts)) → FillAll (w ∷ ws) (t ∷ ts)
passed t w ws vs true out e ts deeper = (t ∷ ts, left_out w out (t ∷ ts), deeper e)
passed t w ws vs false out e ts deeper = absurd cc

taken : (t : Token) (w : Wanted) (ws vs : List Wanted) (found : Option (List Wanted)) → Behind t w found
    → (elim found [ Some all ↦ Some (all ++ ws) | None ↦ if may_be_left_out w then wanted_behind t ws else None ]) ≡ Some vs
    → (ts : List Token) → FillAll vs ts → (wanted_behind t ws ≡ Some vs → FillAll ws (t ∷ ts)) → FillAll (w ∷ ws) (t ∷ ts)
taken t w ws vs (Some all) at e ts h deeper =
    let same : all ++ ws ≡ vs = cc in
    at ws ts (subst (λ (vs : List Wanted). FillAll vs ts) (sym same) h)
taken t w ws vs None at e ts h deeper = passed t w ws vs (may_be_left_out w) refl e ts deeper

-- a token before what is wanted after it
token_fills : (t : Token) (ws vs : List Wanted) → wanted_behind t ws ≡ Some vs → (ts : List Token) → FillAll vs ts → FillAll ws (t ∷ ts)
token_fills t [] vs e ts h = absurd cc
token_fills t (w ∷ ws) vs e ts h = taken t w ws vs (behind t w) (at_token t w) e ts h (λ d. token_fills t ws vs d ts h)

read_on : (t : Token) (ts : List Token) (ws vs : List Wanted) (found : Option (List Wanted)) → wanted_behind t ws ≡ found
    → (elim found [ Some us ↦ wanted_after ts us | None ↦ None ]) ≡ Some vs
    → (more : List Token) → ((us : List Wanted) → wanted_after ts us ≡ Some vs → FillAll us (ts ++ more)) → FillAll ws (t ∷ (ts ++ more))
read_on t ts ws vs (Some us) is e more deeper = token_fills t ws us is (ts ++ more) (deeper us e)
read_on t ts ws vs None is e more deeper = absurd cc

-- tokens before what is wanted after them
tokens_fill : (ts : List Token) (ws vs : List Wanted) → wanted_after ts ws ≡ Some vs → (more : List Token) → FillAll vs more → FillAll ws (ts ++ more)
tokens_fill [] ws vs e more h =
    let same : ws ≡ vs = cc in
    subst (λ (vs : List Wanted). FillAll vs more) (sym same) h
tokens_fill (t ∷ ts) ws vs e more h = read_on t ts ws vs (wanted_behind t ws) refl e more (λ us d. tokens_fill ts us vs d more h)

-- whatever is wanted, there is something that stands for it
fillable : (w : Wanted) (rest : List Token) → (ts : List Token) × Fills w ts rest
fillable the.Cowns rest = (keyword keywords.Main ∷ braced_tokens done rest, ([], [], done, tt, refl))
fillable the.Defs rest = (keyword keywords.Main ∷ braced_tokens done rest, ([], done, refl))
fillable the.Name rest = (name [] ∷ rest, ([], refl))
fillable the.Number rest = (number 0 ∷ rest, (0, refl))
fillable the.Assign rest = (sign signs.Assign ∷ rest, refl)
fillable the.Semicolon rest = (sign signs.Semicolon ∷ rest, refl)
fillable the.Open rest = (sign signs.Open ∷ rest, refl)
fillable the.Close rest = (sign signs.Close ∷ rest, refl)
fillable the.OpenBlock rest = (sign signs.OpenBlock ∷ rest, refl)
fillable the.CloseIndex rest = (sign signs.CloseIndex ∷ rest, refl)
fillable the.Size rest = (rest, left_out the.Size refl rest)
fillable the.Members rest = (number 1 ∷ rest, (1, omega arith, refl))
fillable the.Initial rest = (number 0 ∷ rest, (false, 0, refl))
fillable the.Params rest = (sign signs.Semicolon ∷ rest, ([], refl))
fillable the.MoreParams rest = (sign signs.Semicolon ∷ rest, ([], refl))
fillable the.Held rest = (sign signs.Close ∷ rest, ([], refl))
fillable the.MoreHeld rest = (sign signs.Close ∷ rest, ([], refl))
fillable the.Stmts rest = (sign signs.CloseBlock ∷ rest, (done, refl))
fillable the.Else rest = (rest, left_out the.Else refl rest)
fillable the.Args rest = (sign signs.Semicolon ∷ rest, ([], refl))
fillable the.MoreArgs rest = (sign signs.Semicolon ∷ rest, ([], refl))
fillable the.Refs rest = (sign signs.Close ∷ rest, ([], refl))
fillable the.MoreRefs rest = (sign signs.Close ∷ rest, ([], refl))
fillable the.Index rest = (rest, left_out the.Index refl rest)
fillable the.Expr rest = (number 0 ∷ rest, (plain (one_term (one_factor (unsigned (literal 0)))), refl))
fillable the.InExpr rest = (rest, left_out the.InExpr refl rest)
fillable the.Sum rest = (number 0 ∷ rest, (one_term (one_factor (unsigned (literal 0))), refl))
fillable the.InSum rest = (rest, left_out the.InSum refl rest)
fillable the.CownName rest = (name [] ∷ rest, ([], None, tt, refl))
fillable the.NextName rest = (name [] ∷ rest, ([], refl))
fillable the.NextArg rest = (number 0 ∷ rest, (plain (one_term (one_factor (unsigned (literal 0)))), refl))
fillable the.NextRef rest = (name [] ∷ rest, (alone [], refl))

all_fillable : (ws : List Wanted) → (ts : List Token) × FillAll ws ts
all_fillable [] = ([], refl)
all_fillable (w ∷ ws) = let after = all_fillable ws in let here = fillable w after.0 in (here.0, (after.0, here.1, after.1))

-- where a whole text was wanted, its tokens are those of a tree
all_whole : (ts : List Token) → FillAll (the.Cowns ∷ []) ts → AreWhole ts
all_whole ts (rest, (cs, ds, b, arrays, is), none) =
    record {
      tree = record { cowns = cs; defs = ds; main = b };
      arrays = arrays;
      tokens_are = is ∙ ap (λ (r : List Token). each_tokens cown_tokens cs (each_tokens def_tokens ds (keyword keywords.Main ∷ braced_tokens b r))) none;
    }

-- a tree begins with tokens that were read, none of which was stray
pub read_begins : (ts : List Token) (vs : List Wanted) → wanted_after ts (the.Cowns ∷ []) ≡ Some vs → BeginTree ts
read_begins ts vs e =
    let after = all_fillable vs in
    record { more = after.0; whole = all_whole (ts ++ after.0) (tokens_fill ts (the.Cowns ∷ []) vs e after.0 after.1) }

-- where nothing more is wanted the tokens are all those of a tree
pub all_read : (ts : List Token) → wanted_after ts (the.Cowns ∷ []) ≡ Some [] → AreWhole ts
all_read ts e = subst AreWhole (append-nil ts) (all_whole (ts ++ []) (tokens_fill ts (the.Cowns ∷ []) [] e [] refl))

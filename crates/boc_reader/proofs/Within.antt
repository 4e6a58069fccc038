-- The tokens of a tree within the limits pass none.
use Rattle.std.proofs.Common.{◌≡◌, ℕ, zero, suc, ◌+◌, ◌-◌, ◌≤◌, nat_le, if◌then◌else◌, Bool, true, false, List, [], ◌∷◌, ◌++◌, length, Option, Some, None, refl}
use Rattle.std.proofs.Common.{ap, ◌∙◌, ◌<◌, arith, sym, subst, append_assoc, inl, inr}
use Rattle.std.proofs.lemmas.Bool.{cases_Bool, le-leb, leb-false, lt-leb}
use Rattle.boc_program.specs.declared.limits.TheConstants.{MOST_COWNS, MOST_DEFS, MOST_NODES}
use Rattle.boc_program.specs.Sizes.{members}
use Rattle.boc_reader.specs.declared.parse.TheConstants.{MOST_LISTED}
use Rattle.boc_reader.specs.declared.terminal.Keyword.TheVariants as keywords
use Rattle.boc_reader.specs.declared.terminal.Sign.{Sign}
use Rattle.boc_reader.specs.declared.terminal.Sign.TheVariants as signs
use Rattle.boc_reader.specs.declared.level.SumOperator.{SumOperator}
use Rattle.boc_reader.specs.declared.level.SumOperator.TheVariants as sums
use Rattle.boc_reader.specs.declared.level.TermOperator.{TermOperator}
use Rattle.boc_reader.specs.declared.level.TermOperator.TheVariants as terms
use Rattle.boc_reader.specs.declared.level.Comparison.{Comparison}
use Rattle.boc_reader.specs.declared.level.Comparison.TheVariants as comparisons
use Rattle.boc_reader.specs.declared.room.Room.{Room}
use Rattle.boc_reader.specs.declared.wanted.Wanted.{Wanted}
use Rattle.boc_reader.specs.declared.wanted.Wanted.TheVariants as the
use Rattle.boc_reader.specs.Tokens.{Token, name, number, keyword, sign}
use Rattle.boc_reader.specs.Shape.{comparison_sign, sum_sign, term_sign, Expr, plain, compared, expr_tokens, expr_nodes, Sum, one_term, more_terms, sum_tokens}
use Rattle.boc_reader.specs.Shape.{sum_nodes, Term, one_factor, more_factors, term_tokens, term_nodes, Unary, negated, unsigned, unary_tokens, unary_nodes}
use Rattle.boc_reader.specs.Shape.{Atom, literal, variable, parens, atom_tokens, atom_nodes, NamedCown, alone, member, ref_tokens, ref_nodes, list_nodes, Stmt}
use Rattle.boc_reader.specs.Shape.{declare, assign, work, if_only, if_else, repeat, when, stmt_tokens, stmt_nodes, IsSmallStmt, Block, done, next, block_tokens}
use Rattle.boc_reader.specs.Shape.{block_nodes, IsSmallBlock, IsSmallBody, braced_tokens, behind_commas, list_tokens, each_tokens, name_tokens, Cown}
use Rattle.boc_reader.specs.Shape.{cown_tokens, HasMembers, HaveMembers, cowns_declared, size_tokens, minus_tokens, Def, AreSmallDefs, Tree}
use Rattle.boc_reader.specs.Shape.{HasShape}
use Rattle.boc_reader.specs.Wanted.{behind, may_be_left_out}
use Rattle.boc_reader.specs.Room.{Within, room_of_text, take_cowns, left_in_cown, left_behind, with_room, within_behind, within_after}
use Rattle.boc_reader.proofs.Wanting.{operand, inside, in_expr, defs_tokens}

abbrev pub room : ℕ → ℕ → ℕ → ℕ → Room
room k d n l = record { cowns = k; defs = d; nodes = n; listed = l }

-- The room that a phrase takes, and after it so much more.

abbrev mutual
  pub expr_room : Expr → ℕ → ℕ
  expr_room (plain s) n = sum_room s n
  expr_room (compared s op t) n = sum_room s (suc (sum_room t n))

  pub sum_room : Sum → ℕ → ℕ
  sum_room (one_term t) n = term_room t n
  sum_room (more_terms t op s) n = term_room t (suc (sum_room s n))

  pub term_room : Term → ℕ → ℕ
  term_room (one_factor u) n = unary_room u n
  term_room (more_factors u op t) n = unary_room u (suc (term_room t n))

  pub unary_room : Unary → ℕ → ℕ
  unary_room (negated u) n = suc (unary_room u n)
  unary_room (unsigned a) n = atom_room a n

  pub atom_room : Atom → ℕ → ℕ
  atom_room (literal m) n = suc n
  atom_room (variable x) n = suc n
  atom_room (parens e) n = suc (expr_room e n)

abbrev pub args_room : List Expr → ℕ → ℕ
args_room [] n = n
args_room (e ∷ es) n = expr_room e (args_room es n)

-- after the name of a reference, which is a node
abbrev pub index_room : NamedCown → ℕ → ℕ
index_room (alone x) n = n
index_room (member x e) n = expr_room e n

abbrev pub refs_room : List NamedCown → ℕ → ℕ
refs_room [] n = n
refs_room (r ∷ rs) n = suc (index_room r (refs_room rs n))

abbrev mutual
  pub stmt_room : Stmt → ℕ → ℕ
  stmt_room (declare x e) n = suc (expr_room e n)
  stmt_room (assign x e) n = suc (expr_room e n)
  stmt_room (work e) n = suc (expr_room e n)
  stmt_room (if_only e b) n = suc (expr_room e (block_room b n))
  stmt_room (if_else e b c) n = suc (expr_room e (block_room b (block_room c n)))
  stmt_room (repeat e b) n = suc (expr_room e (block_room b n))
  stmt_room (when f es rs) n = suc (args_room es (refs_room rs n))

  pub block_room : Block → ℕ → ℕ
  block_room done n = n
  block_room (next s b) n = stmt_room s (block_room b n)

-- as many more
abbrev many : {X : Type 0} → List X → ℕ → ℕ
many [] l = l
many (x ∷ xs) l = suc (many xs l)

many_is : {X : Type 0} (xs : List X) (l : ℕ) → many xs l ≡ length xs + l
many_is [] l = omega arith
many_is (x ∷ xs) l = omega (arith, many_is xs l)

mutual
  pub expr_room_is : (e : Expr) (n : ℕ) → expr_room e n ≡ expr_nodes e + n
  expr_room_is (plain s) n = sum_room_is s n
  expr_room_is (compared s op t) n = omega (arith, sum_room_is s (suc (sum_room t n)), sum_room_is t n)

  sum_room_is : (s : Sum) (n : ℕ) → sum_room s n ≡ sum_nodes s + n
  sum_room_is (one_term t) n = term_room_is t n
  sum_room_is (more_terms t op s) n = omega (arith, term_room_is t (suc (sum_room s n)), sum_room_is s n)

  term_room_is : (t : Term) (n : ℕ) → term_room t n ≡ term_nodes t + n
  term_room_is (one_factor u) n = unary_room_is u n
  term_room_is (more_factors u op t) n = omega (arith, unary_room_is u (suc (term_room t n)), term_room_is t n)

  unary_room_is : (u : Unary) (n : ℕ) → unary_room u n ≡ unary_nodes u + n
  unary_room_is (negated u) n = omega (arith, unary_room_is u n)
  unary_room_is (unsigned a) n = atom_room_is a n

  atom_room_is : (a : Atom) (n : ℕ) → atom_room a n ≡ atom_nodes a + n
  atom_room_is (literal m) n = omega arith
  atom_room_is (variable x) n = omega arith
  atom_room_is (parens e) n = omega (arith, expr_room_is e n)

pub args_room_is : (es : List Expr) (n : ℕ) → args_room es n ≡ list_nodes expr_nodes es + n
args_room_is [] n = omega arith
args_room_is (e ∷ es) n = omega (arith, expr_room_is e (args_room es n), args_room_is es n)

index_room_is : (r : NamedCown) (n : ℕ) → suc (index_room r n) ≡ ref_nodes r + n
index_room_is (alone x) n = omega arith
index_room_is (member x e) n = omega (arith, expr_room_is e n)

pub refs_room_is : (rs : List NamedCown) (n : ℕ) → refs_room rs n ≡ list_nodes ref_nodes rs + n
refs_room_is [] n = omega arith
refs_room_is (r ∷ rs) n = omega (arith, index_room_is r (refs_room rs n), refs_room_is rs n)

mutual
  stmt_room_is : (s : Stmt) (n : ℕ) → stmt_room s n ≡ stmt_nodes s + n
  stmt_room_is (declare x e) n = omega (arith, expr_room_is e n)
  stmt_room_is (assign x e) n = omega (arith, expr_room_is e n)
  stmt_room_is (work e) n = omega (arith, expr_room_is e n)
  stmt_room_is (if_only e b) n = omega (arith, expr_room_is e (block_room b n), block_room_is b n)
  stmt_room_is (if_else e b c) n =
      omega (arith, expr_room_is e (block_room b (block_room c n)), block_room_is b (block_room c n), block_room_is c n)
  stmt_room_is (repeat e b) n = omega (arith, expr_room_is e (block_room b n), block_room_is b n)
  stmt_room_is (when f es rs) n = omega (arith, args_room_is es (refs_room rs n), refs_room_is rs n)

  pub block_room_is : (b : Block) (n : ℕ) → block_room b n ≡ block_nodes b + n
  block_room_is done n = omega arith
  block_room_is (next s b) n = omega (arith, stmt_room_is s (block_room b n), block_room_is b n)

-- tokens that are read to the end of a text
abbrev pub read_all : List Token → List Wanted → Room → Option Within
read_all ts ws r = within_after ts [] ws r

-- One token.
module _ (k d n l : ℕ) (ts : List Token) (ws : List Wanted) where
  minus_within : (c : Bool) → read_all (sign signs.Minus ∷ ts) (operand c ∷ ws) (room k d (suc n) l) ≡ read_all ts (operand c ∷ ws) (room k d n l)
  minus_within true = refl
  minus_within false = refl

  name_within : (c : Bool) (x : List ℕ) → read_all (name x ∷ ts) (operand c ∷ ws) (room k d (suc n) l) ≡ read_all ts (inside c ∷ ws) (room k d n l)
  name_within true x = refl
  name_within false x = refl

  number_within : (c : Bool) (m : ℕ) → read_all (number m ∷ ts) (operand c ∷ ws) (room k d (suc n) l) ≡ read_all ts (inside c ∷ ws) (room k d n l)
  number_within true m = refl
  number_within false m = refl

  open_within : (c : Bool)
      → read_all (sign signs.Open ∷ ts) (operand c ∷ ws) (room k d (suc n) l) ≡ read_all ts (the.Expr ∷ the.Close ∷ inside c ∷ ws) (room k d n l)
  open_within true = refl
  open_within false = refl

  term_sign_within : (c : Bool) (op : TermOperator)
      → read_all (sign (term_sign op) ∷ ts) (inside c ∷ ws) (room k d (suc n) l) ≡ read_all ts (operand c ∷ ws) (room k d n l)
  term_sign_within true terms.Multiply = refl
  term_sign_within true terms.Divide = refl
  term_sign_within true terms.Remainder = refl
  term_sign_within false terms.Multiply = refl
  term_sign_within false terms.Divide = refl
  term_sign_within false terms.Remainder = refl

  sum_sign_within : (c : Bool) (op : SumOperator)
      → read_all (sign (sum_sign op) ∷ ts) (inside c ∷ ws) (room k d (suc n) l) ≡ read_all ts (operand c ∷ ws) (room k d n l)
  sum_sign_within true sums.Add = refl
  sum_sign_within true sums.Subtract = refl
  sum_sign_within false sums.Add = refl
  sum_sign_within false sums.Subtract = refl

  comparison_within : (op : Comparison)
      → read_all (sign (comparison_sign op) ∷ ts) (the.InExpr ∷ ws) (room k d (suc n) l) ≡ read_all ts (the.Sum ∷ ws) (room k d n l)
  comparison_within comparisons.Equal = refl
  comparison_within comparisons.NotEqual = refl
  comparison_within comparisons.Less = refl
  comparison_within comparisons.AtMost = refl
  comparison_within comparisons.Greater = refl
  comparison_within comparisons.AtLeast = refl

  close_within : (e : Expr)
      → read_all (sign signs.Close ∷ ts) (in_expr e ∷ the.Close ∷ ws) (room k d n l) ≡ read_all ts ws (room k d n l)
  close_within (plain s) = refl
  close_within (compared s op t) = refl

module _ (k d l : ℕ) where
  mutual
    expr_within : (e : Expr) (n : ℕ) (ts : List Token) (ws : List Wanted)
        → read_all (expr_tokens e ts) (the.Expr ∷ ws) (room k d (expr_room e n) l) ≡ read_all ts (in_expr e ∷ ws) (room k d n l)
    expr_within (plain s) n ts ws = sum_within false s n ts ws
    expr_within (compared s op t) n ts ws =
        sum_within false s (suc (sum_room t n)) (sign (comparison_sign op) ∷ sum_tokens t ts) ws
        ∙ comparison_within k d (sum_room t n) l (sum_tokens t ts) ws op ∙ sum_within true t n ts ws

    sum_within : (c : Bool) (s : Sum) (n : ℕ) (ts : List Token) (ws : List Wanted)
        → read_all (sum_tokens s ts) (operand c ∷ ws) (room k d (sum_room s n) l) ≡ read_all ts (inside c ∷ ws) (room k d n l)
    sum_within c (one_term t) n ts ws = term_within c t n ts ws
    sum_within c (more_terms t op s) n ts ws =
        term_within c t (suc (sum_room s n)) (sign (sum_sign op) ∷ sum_tokens s ts) ws
        ∙ sum_sign_within k d (sum_room s n) l (sum_tokens s ts) ws c op ∙ sum_within c s n ts ws

    term_within : (c : Bool) (t : Term) (n : ℕ) (ts : List Token) (ws : List Wanted)
        → read_all (term_tokens t ts) (operand c ∷ ws) (room k d (term_room t n) l) ≡ read_all ts (inside c ∷ ws) (room k d n l)
    term_within c (one_factor u) n ts ws = unary_within c u n ts ws
    term_within c (more_factors u op t) n ts ws =
        unary_within c u (suc (term_room t n)) (sign (term_sign op) ∷ term_tokens t ts) ws
        ∙ term_sign_within k d (term_room t n) l (term_tokens t ts) ws c op ∙ term_within c t n ts ws

    unary_within : (c : Bool) (u : Unary) (n : ℕ) (ts : List Token) (ws : List Wanted)
        → read_all (unary_tokens u ts) (operand c ∷ ws) (room k d (unary_room u n) l) ≡ read_all ts (inside c ∷ ws) (room k d n l)
    unary_within c (negated u) n ts ws = minus_within k d (unary_room u n) l (unary_tokens u ts) ws c ∙ unary_within c u n ts ws
    unary_within c (unsigned a) n ts ws = atom_within c a n ts ws

    atom_within : (c : Bool) (a : Atom) (n : ℕ) (ts : List Token) (ws : List Wanted)
        → read_all (atom_tokens a ts) (operand c ∷ ws) (room k d (atom_room a n) l) ≡ read_all ts (inside c ∷ ws) (room k d n l)
    atom_within c (literal m) n ts ws = number_within k d n l ts ws c m
    atom_within c (variable x) n ts ws = name_within k d n l ts ws c x
    atom_within c (parens e) n ts ws =
        open_within k d (expr_room e n) l (expr_tokens e (sign signs.Close ∷ ts)) ws c
        ∙ expr_within e n (sign signs.Close ∷ ts) (the.Close ∷ inside c ∷ ws)
        ∙ close_within k d n l ts (inside c ∷ ws) e

-- what follows tokens, by what the first of them was found to be, where it may be no more than what is wanted after that
abbrev pub within_by : Token → List Token → Wanted → List Wanted → Room → Option (List Wanted) → Option Within
within_by t ts w ws r found =
    let behind_it : Option Within = elim found [ Some all ↦ with_room (all ++ ws) (left_behind t (ts ++ []) w r) | None ↦ within_behind t (ts ++ []) ws r ] in
    elim behind_it [ Some s ↦ read_all ts s.wanted s.room | None ↦ None ]

-- after an expression a token that is no operator is read as if nothing more of the expression were wanted
pub no_operator : (e : Expr) (t : Token) (ts : List Token) (ws : List Wanted) (r : Room) → behind t the.InExpr ≡ None → behind t the.InSum ≡ None
    → read_all (t ∷ ts) (in_expr e ∷ ws) r ≡ read_all (t ∷ ts) ws r
no_operator (plain s) t ts ws r none nor = ap (within_by t ts the.InExpr ws r) none
no_operator (compared s op q) t ts ws r none nor = ap (within_by t ts the.InSum ws r) nor

-- an expression, and a token after it that is no operator
ended : (k d l : ℕ) (e : Expr) (n : ℕ) (t : Token) (ts : List Token) (ws : List Wanted) → behind t the.InExpr ≡ None → behind t the.InSum ≡ None
    → read_all (expr_tokens e (t ∷ ts)) (the.Expr ∷ ws) (room k d (expr_room e n) l) ≡ read_all (t ∷ ts) ws (room k d n l)
ended k d l e n t ts ws none nor = expr_within k d l e n (t ∷ ts) ws ∙ no_operator e t ts ws (room k d n l) none nor

-- Lists, of eight members at most.
module _ (k d : ℕ) where
  more_params : (xs : List (List ℕ)) (n l : ℕ) (ts : List Token) (ws : List Wanted)
      → read_all (behind_commas name_tokens xs (sign signs.Semicolon ∷ ts)) (the.MoreParams ∷ ws) (room k d n (many xs l))
      ≡ read_all ts ws (room k d n 0)
  more_params [] n l ts ws = refl
  more_params (x ∷ xs) n l ts ws = more_params xs n l ts ws

  more_held : (xs : List (List ℕ)) (n l : ℕ) (ts : List Token) (ws : List Wanted)
      → read_all (behind_commas name_tokens xs (sign signs.Close ∷ ts)) (the.MoreHeld ∷ ws) (room k d n (many xs l)) ≡ read_all ts ws (room k d n 0)
  more_held [] n l ts ws = refl
  more_held (x ∷ xs) n l ts ws = more_held xs n l ts ws

  params : (xs : List (List ℕ)) (n : ℕ) (ts : List Token) (ws : List Wanted) → length xs ≤ MOST_LISTED
      → read_all (list_tokens name_tokens xs (sign signs.Semicolon ∷ ts)) (the.Params ∷ ws) (room k d n 0) ≡ read_all ts ws (room k d n 0)
  params [] n ts ws few = refl
  params (x ∷ xs) n ts ws few =
      let left = 7 - length xs in
      let enough : 7 ≡ many xs left = omega (arith, many_is xs left, few) in
      ap (λ (l : ℕ). read_all (behind_commas name_tokens xs (sign signs.Semicolon ∷ ts)) (the.MoreParams ∷ ws) (room k d n l)) enough
      ∙ more_params xs n left ts ws

  held : (xs : List (List ℕ)) (n : ℕ) (ts : List Token) (ws : List Wanted) → length xs ≤ MOST_LISTED
      → read_all (list_tokens name_tokens xs (sign signs.Close ∷ ts)) (the.Held ∷ ws) (room k d n 0) ≡ read_all ts ws (room k d n 0)
  held [] n ts ws few = refl
  held (x ∷ xs) n ts ws few =
      let left = 7 - length xs in
      let enough : 7 ≡ many xs left = omega (arith, many_is xs left, few) in
      ap (λ (l : ℕ). read_all (behind_commas name_tokens xs (sign signs.Close ∷ ts)) (the.MoreHeld ∷ ws) (room k d n l)) enough
      ∙ more_held xs n left ts ws

  -- the first argument begins as every expression does
  pub first_unary : (u : Unary) (n : ℕ) (ts : List Token) (ws : List Wanted)
      → read_all (unary_tokens u ts) (the.Args ∷ ws) (room k d n 0)
      ≡ read_all (unary_tokens u ts) (the.Expr ∷ the.MoreArgs ∷ ws) (room k d n 7)
  first_unary (negated u) zero ts ws = refl
  first_unary (negated u) (suc n) ts ws = refl
  first_unary (unsigned (literal m)) zero ts ws = refl
  first_unary (unsigned (literal m)) (suc n) ts ws = refl
  first_unary (unsigned (variable x)) zero ts ws = refl
  first_unary (unsigned (variable x)) (suc n) ts ws = refl
  first_unary (unsigned (parens e)) zero ts ws = refl
  first_unary (unsigned (parens e)) (suc n) ts ws = refl

  pub first_term : (t : Term) (n : ℕ) (ts : List Token) (ws : List Wanted)
      → read_all (term_tokens t ts) (the.Args ∷ ws) (room k d n 0)
      ≡ read_all (term_tokens t ts) (the.Expr ∷ the.MoreArgs ∷ ws) (room k d n 7)
  first_term (one_factor u) n ts ws = first_unary u n ts ws
  first_term (more_factors u op t) n ts ws = first_unary u n (sign (term_sign op) ∷ term_tokens t ts) ws

  pub first_sum : (s : Sum) (n : ℕ) (ts : List Token) (ws : List Wanted)
      → read_all (sum_tokens s ts) (the.Args ∷ ws) (room k d n 0)
      ≡ read_all (sum_tokens s ts) (the.Expr ∷ the.MoreArgs ∷ ws) (room k d n 7)
  first_sum (one_term t) n ts ws = first_term t n ts ws
  first_sum (more_terms t op s) n ts ws = first_term t n (sign (sum_sign op) ∷ sum_tokens s ts) ws

  pub first_expr : (e : Expr) (n : ℕ) (ts : List Token) (ws : List Wanted)
      → read_all (expr_tokens e ts) (the.Args ∷ ws) (room k d n 0)
      ≡ read_all (expr_tokens e ts) (the.Expr ∷ the.MoreArgs ∷ ws) (room k d n 7)
  first_expr (plain s) n ts ws = first_sum s n ts ws
  first_expr (compared s op t) n ts ws = first_sum s n (sign (comparison_sign op) ∷ sum_tokens t ts) ws

  -- so does one after a comma
  pub next_unary : (u : Unary) (n l : ℕ) (ts : List Token) (ws : List Wanted)
      → read_all (unary_tokens u ts) (the.NextArg ∷ ws) (room k d n (suc l))
      ≡ read_all (unary_tokens u ts) (the.Expr ∷ ws) (room k d n l)
  next_unary (negated u) zero l ts ws = refl
  next_unary (negated u) (suc n) l ts ws = refl
  next_unary (unsigned (literal m)) zero l ts ws = refl
  next_unary (unsigned (literal m)) (suc n) l ts ws = refl
  next_unary (unsigned (variable x)) zero l ts ws = refl
  next_unary (unsigned (variable x)) (suc n) l ts ws = refl
  next_unary (unsigned (parens e)) zero l ts ws = refl
  next_unary (unsigned (parens e)) (suc n) l ts ws = refl

  pub next_term : (t : Term) (n l : ℕ) (ts : List Token) (ws : List Wanted)
      → read_all (term_tokens t ts) (the.NextArg ∷ ws) (room k d n (suc l))
      ≡ read_all (term_tokens t ts) (the.Expr ∷ ws) (room k d n l)
  next_term (one_factor u) n l ts ws = next_unary u n l ts ws
  next_term (more_factors u op t) n l ts ws = next_unary u n l (sign (term_sign op) ∷ term_tokens t ts) ws

  pub next_sum : (s : Sum) (n l : ℕ) (ts : List Token) (ws : List Wanted)
      → read_all (sum_tokens s ts) (the.NextArg ∷ ws) (room k d n (suc l))
      ≡ read_all (sum_tokens s ts) (the.Expr ∷ ws) (room k d n l)
  next_sum (one_term t) n l ts ws = next_term t n l ts ws
  next_sum (more_terms t op s) n l ts ws = next_term t n l (sign (sum_sign op) ∷ sum_tokens s ts) ws

  pub next_expr : (e : Expr) (n l : ℕ) (ts : List Token) (ws : List Wanted)
      → read_all (expr_tokens e ts) (the.NextArg ∷ ws) (room k d n (suc l))
      ≡ read_all (expr_tokens e ts) (the.Expr ∷ ws) (room k d n l)
  next_expr (plain s) n l ts ws = next_sum s n l ts ws
  next_expr (compared s op t) n l ts ws = next_sum s n l (sign (comparison_sign op) ∷ sum_tokens t ts) ws

  more_args : (e : Expr) (es : List Expr) (n l : ℕ) (ts : List Token) (ws : List Wanted)
      → read_all (expr_tokens e (behind_commas expr_tokens es (sign signs.Semicolon ∷ ts))) (the.Expr ∷ the.MoreArgs ∷ ws)
      (room k d (expr_room e (args_room es n)) (many es l)) ≡ read_all ts ws (room k d n 0)
  more_args e [] n l ts ws = ended k d l e n (sign signs.Semicolon) ts (the.MoreArgs ∷ ws) refl refl
  more_args e (f ∷ fs) n l ts ws =
      let rest = behind_commas expr_tokens fs (sign signs.Semicolon ∷ ts) in
      ended k d (many (f ∷ fs) l) e (args_room (f ∷ fs) n) (sign signs.Comma) (expr_tokens f rest) (the.MoreArgs ∷ ws) refl refl
      ∙ next_expr f (expr_room f (args_room fs n)) (many fs l) rest (the.MoreArgs ∷ ws)
      ∙ more_args f fs n l ts ws

  args : (es : List Expr) (n : ℕ) (ts : List Token) (ws : List Wanted) → length es ≤ MOST_LISTED
      → read_all (list_tokens expr_tokens es (sign signs.Semicolon ∷ ts)) (the.Args ∷ ws) (room k d (args_room es n) 0) ≡ read_all ts ws (room k d n 0)
  args [] n ts ws few = refl
  args (e ∷ es) n ts ws few =
      let rest = behind_commas expr_tokens es (sign signs.Semicolon ∷ ts) in
      let left = 7 - length es in
      let enough : 7 ≡ many es left = omega (arith, many_is es left, few) in
      first_expr e (expr_room e (args_room es n)) rest ws
      ∙ ap (λ (l : ℕ). read_all (expr_tokens e rest) (the.Expr ∷ the.MoreArgs ∷ ws) (room k d (expr_room e (args_room es n)) l)) enough
      ∙ more_args e es n left ts ws

  -- a reference, and a token after it that begins no index
  one_ref : (r : NamedCown) (n l : ℕ) (t : Token) (ts : List Token) (ws : List Wanted) → behind t the.Index ≡ None
      → read_all (ref_tokens r (t ∷ ts)) (the.NextRef ∷ ws) (room k d (suc (index_room r n)) (suc l)) ≡ read_all (t ∷ ts) ws (room k d n l)
  one_ref (alone x) n l t ts ws none = ap (within_by t ts the.Index ws (room k d n l)) none
  one_ref (member x e) n l t ts ws none = ended k d l e n (sign signs.CloseIndex) (t ∷ ts) (the.CloseIndex ∷ ws) refl refl

  first_ref : (r : NamedCown) (n : ℕ) (ts : List Token) (ws : List Wanted)
      → read_all (ref_tokens r ts) (the.Refs ∷ ws) (room k d (suc n) 0) ≡ read_all (ref_tokens r ts) (the.NextRef ∷ the.MoreRefs ∷ ws) (room k d (suc n) 8)
  first_ref (alone x) n ts ws = refl
  first_ref (member x e) n ts ws = refl

  more_refs : (r : NamedCown) (rs : List NamedCown) (n l : ℕ) (ts : List Token) (ws : List Wanted)
      → read_all (ref_tokens r (behind_commas ref_tokens rs (sign signs.Close ∷ ts))) (the.NextRef ∷ the.MoreRefs ∷ ws)
      (room k d (refs_room (r ∷ rs) n) (many (r ∷ rs) l)) ≡ read_all ts ws (room k d n 0)
  more_refs r [] n l ts ws = one_ref r n l (sign signs.Close) ts (the.MoreRefs ∷ ws) refl
  more_refs r (q ∷ qs) n l ts ws =
      one_ref r (refs_room (q ∷ qs) n) (many (q ∷ qs) l) (sign signs.Comma) (ref_tokens q (behind_commas ref_tokens qs (sign signs.Close ∷ ts)))
      (the.MoreRefs ∷ ws) refl
      ∙ more_refs q qs n l ts ws

  refs : (rs : List NamedCown) (n : ℕ) (ts : List Token) (ws : List Wanted) → length rs ≤ MOST_LISTED
      → read_all (list_tokens ref_tokens rs (sign signs.Close ∷ ts)) (the.Refs ∷ ws) (room k d (refs_room rs n) 0) ≡ read_all ts ws (room k d n 0)
  refs [] n ts ws few = refl
  refs (r ∷ rs) n ts ws few =
      let rest = behind_commas ref_tokens rs (sign signs.Close ∷ ts) in
      let left = 8 - length (r ∷ rs) in
      let enough : 8 ≡ many (r ∷ rs) left = omega (arith, many_is rs left, few) in
      first_ref r (index_room r (refs_room rs n)) rest ws
      ∙ ap (λ (l : ℕ). read_all (ref_tokens r rest) (the.NextRef ∷ the.MoreRefs ∷ ws) (room k d (refs_room (r ∷ rs) n) l)) enough
      ∙ more_refs r rs n left ts ws

-- no statement begins with `else`, nor does the end of a block
pub no_else : (b : Block) (ts : List Token) (ws : List Wanted) (r : Room)
    → read_all (block_tokens b (sign signs.CloseBlock ∷ ts)) (the.Else ∷ ws) r ≡ read_all (block_tokens b (sign signs.CloseBlock ∷ ts)) ws r
no_else done ts ws r = refl
no_else (next (declare x e) b) ts ws r = refl
no_else (next (assign x e) b) ts ws r = refl
no_else (next (work e) b) ts ws r = refl
no_else (next (if_only e a) b) ts ws r = refl
no_else (next (if_else e a c) b) ts ws r = refl
no_else (next (repeat e a) b) ts ws r = refl
no_else (next (when f es rs) b) ts ws r = refl

module _ (k d : ℕ) where
  -- an expression, and the semicolon after it
  written : (e : Expr) (n : ℕ) (ts : List Token) (ws : List Wanted)
      → read_all (expr_tokens e (sign signs.Semicolon ∷ ts)) (the.Expr ∷ the.Semicolon ∷ ws) (room k d (expr_room e n) 0)
      ≡ read_all ts ws (room k d n 0)
  written e n ts ws = ended k d 0 e n (sign signs.Semicolon) ts (the.Semicolon ∷ ws) refl refl

  -- an expression, and the block after it
  guarded : (e : Expr) (b : Block) (n : ℕ) (ts : List Token) (ws : List Wanted)
      → read_all (expr_tokens e (braced_tokens b ts)) (the.Expr ∷ the.OpenBlock ∷ the.Stmts ∷ ws) (room k d (expr_room e n) 0)
      ≡ read_all (block_tokens b (sign signs.CloseBlock ∷ ts)) (the.Stmts ∷ ws) (room k d n 0)
  guarded e b n ts ws = ended k d 0 e n (sign signs.OpenBlock) (block_tokens b (sign signs.CloseBlock ∷ ts)) (the.OpenBlock ∷ the.Stmts ∷ ws) refl refl

module _ (k d : ℕ) where
  mutual
    stmt_within : (s : Stmt) (b : Block) (n : ℕ) (ts : List Token) (ws : List Wanted) → IsSmallStmt s
        → read_all (stmt_tokens s (block_tokens b (sign signs.CloseBlock ∷ ts))) (the.Stmts ∷ ws) (room k d (stmt_room s n) 0)
        ≡ read_all (block_tokens b (sign signs.CloseBlock ∷ ts)) (the.Stmts ∷ ws) (room k d n 0)
    stmt_within (declare x e) b n ts ws small = written k d e n (block_tokens b (sign signs.CloseBlock ∷ ts)) (the.Stmts ∷ ws)
    stmt_within (assign x e) b n ts ws small = written k d e n (block_tokens b (sign signs.CloseBlock ∷ ts)) (the.Stmts ∷ ws)
    stmt_within (work e) b n ts ws small = written k d e n (block_tokens b (sign signs.CloseBlock ∷ ts)) (the.Stmts ∷ ws)
    stmt_within (if_only e a) b n ts ws small =
        let rest = block_tokens b (sign signs.CloseBlock ∷ ts) in
        guarded k d e a (block_room a n) rest (the.Else ∷ the.Stmts ∷ ws) ∙ block_within a n rest (the.Else ∷ the.Stmts ∷ ws) small
        ∙ no_else b ts (the.Stmts ∷ ws) (room k d n 0)
    stmt_within (if_else e a c) b n ts ws small =
        let rest = block_tokens b (sign signs.CloseBlock ∷ ts) in
        let other = keyword keywords.Else ∷ braced_tokens c rest in
        guarded k d e a (block_room a (block_room c n)) other (the.Else ∷ the.Stmts ∷ ws)
        ∙ block_within a (block_room c n) other (the.Else ∷ the.Stmts ∷ ws) small.0
        ∙ block_within c n rest (the.Stmts ∷ ws) small.1
    stmt_within (repeat e a) b n ts ws small =
        let rest = block_tokens b (sign signs.CloseBlock ∷ ts) in
        guarded k d e a (block_room a n) rest (the.Stmts ∷ ws) ∙ block_within a n rest (the.Stmts ∷ ws) small
    stmt_within (when f es rs) b n ts ws small =
        let rest = block_tokens b (sign signs.CloseBlock ∷ ts) in
        args k d es (refs_room rs n) (list_tokens ref_tokens rs (sign signs.Close ∷ sign signs.Semicolon ∷ rest)) (the.Refs ∷ the.Semicolon ∷ the.Stmts ∷ ws)
        small.0
        ∙ refs k d rs n (sign signs.Semicolon ∷ rest) (the.Semicolon ∷ the.Stmts ∷ ws) small.1

    block_within : (b : Block) (n : ℕ) (ts : List Token) (ws : List Wanted) → IsSmallBlock b
        → read_all (block_tokens b (sign signs.CloseBlock ∷ ts)) (the.Stmts ∷ ws) (room k d (block_room b n) 0) ≡ read_all ts ws (room k d n 0)
    block_within done n ts ws small = refl
    block_within (next s b) n ts ws small = stmt_within s b (block_room b n) ts ws small.0 ∙ block_within b n ts ws small.1

-- a body that has room, and what is left of it
body_within : (k d : ℕ) (b : Block) (ts : List Token) (ws : List Wanted) → IsSmallBody b
    → read_all (block_tokens b (sign signs.CloseBlock ∷ ts)) (the.Stmts ∷ ws) (room k d MOST_NODES 0)
    ≡ read_all ts ws (room k d (MOST_NODES - block_nodes b) 0)
body_within k d b ts ws small =
    let left = MOST_NODES - block_nodes b in
    let enough : MOST_NODES ≡ block_room b left = omega (arith, block_room_is b left, small.nodes) in
    ap (λ (n : ℕ). read_all (block_tokens b (sign signs.CloseBlock ∷ ts)) (the.Stmts ∷ ws) (room k d n 0)) enough
    ∙ block_within k d b left ts ws small.calls

-- tokens were read to the end of a text, within the limits
abbrev pub IsRead : Option Within → Type 0
IsRead found = (r : Room) × (found ≡ Some (record { wanted = []; room = r }))

defs_within : (k : ℕ) (ds : List Def) (b : Block) (d n : ℕ) → AreSmallDefs ds → IsSmallBody b
    → IsRead (read_all (defs_tokens ds b) (the.Defs ∷ []) (room k (many ds d) n 0))
defs_within k [] b d n small last = (room k d (MOST_NODES - block_nodes b) 0, body_within k d b [] [] last)
defs_within k (x ∷ ds) b d n small last =
    let rest = defs_tokens ds b in
    let left = many ds d in
    let ws = the.Defs ∷ [] in
    let behind_it = defs_within k ds b d (MOST_NODES - block_nodes x.block) small.1 last in (
      behind_it.0,
      params k left x.params MOST_NODES (list_tokens name_tokens x.cowns (sign signs.Close ∷ braced_tokens x.block rest))
          (the.Held ∷ the.OpenBlock ∷ the.Stmts ∷ ws) small.0.params
          ∙ held k left x.cowns MOST_NODES (braced_tokens x.block rest) (the.OpenBlock ∷ the.Stmts ∷ ws) small.0.cowns
          ∙ body_within k left x.block rest ws small.0.body
          ∙ behind_it.1,
    )

pub first_def : (ds : List Def) (b : Block) (r : Room)
    → read_all (defs_tokens ds b) (the.Cowns ∷ []) r ≡ read_all (defs_tokens ds b) (the.Defs ∷ []) r
first_def [] b r = refl
first_def (d ∷ ds) b r = refl

-- so many cowns more
if_true : {X : Type 0} (b : Bool) (x y : X) → b ≡ true → (if b then x else y) ≡ x
if_true true x y e = refl
if_true false x y e = absurd cc

room_for : (m k d n l : ℕ) → m ≤ k → take_cowns m (room k d n l) ≡ Some (room (k - m) d n l)
room_for m k d n l most = if_true (nat_le m k) (Some (room (k - m) d n l)) None (le-leb m k most)

-- what follows tokens, by the room that the first of them leaves
abbrev pub within_left : List Token → List Wanted → Option Room → Option Within
within_left ts ws left =
    let behind_it : Option Within = with_room ws left in
    elim behind_it [ Some s ↦ read_all ts s.wanted s.room | None ↦ None ]

pub value_within : (negative : Bool) (m : ℕ) (ts : List Token) (ws : List Wanted) (r : Room)
    → read_all (minus_tokens negative (number m ∷ sign signs.Semicolon ∷ ts)) (the.Initial ∷ the.Semicolon ∷ ws) r ≡ read_all ts ws r
value_within true m ts ws r = refl
value_within false m ts ws r = refl

size_within : (x : List ℕ) (size : Option ℕ) (k d n : ℕ) (ts : List Token) → HasMembers size → members size ≤ k
    → read_all (keyword keywords.Cown ∷ name x ∷ size_tokens size (sign signs.Assign ∷ ts)) (the.Cowns ∷ []) (room k d n 0)
    ≡ read_all ts (the.Initial ∷ the.Semicolon ∷ the.Cowns ∷ []) (room (k - members size) d n 0)
size_within x None k d n ts some most =
    ap (within_left (sign signs.Assign ∷ ts) (the.Size ∷ the.Assign ∷ the.Initial ∷ the.Semicolon ∷ the.Cowns ∷ [])) (room_for 1 k d n 0 most)
size_within x (Some zero) k d n ts some most = absurd (omega (arith, some))
size_within x (Some (suc m)) k d n ts some most =
    ap (within_left (sign signs.CloseIndex ∷ sign signs.Assign ∷ ts) (the.CloseIndex ∷ the.Assign ∷ the.Initial ∷ the.Semicolon ∷ the.Cowns ∷ []))
    (room_for (suc m) k d n 0 most)

cowns_within : (cs : List Cown) (ds : List Def) (b : Block) (k d n : ℕ) → HaveMembers cs → cowns_declared cs ≤ k → AreSmallDefs ds → IsSmallBody b
    → IsRead (read_all (each_tokens cown_tokens cs (defs_tokens ds b)) (the.Cowns ∷ []) (room k (many ds d) n 0))
cowns_within [] ds b k d n some most small last =
    let read = defs_within k ds b d n small last in (read.0, first_def ds b (room k (many ds d) n 0) ∙ read.1)
cowns_within (c ∷ cs) ds b k d n some most small last =
    let rest = each_tokens cown_tokens cs (defs_tokens ds b) in
    let left = k - members c.size in
    let read = cowns_within cs ds b left d n some.1 (omega (arith, most)) small last in (
      read.0,
      size_within c.name c.size k (many ds d) n (minus_tokens c.negative (number c.value ∷ sign signs.Semicolon ∷ rest)) some.0 (omega (arith, most))
          ∙ value_within c.negative c.value rest (the.Cowns ∷ []) (room left (many ds d) n 0)
          ∙ read.1,
    )

-- all tokens of a tree within the limits
shape_within : (ts : List Token) (t : Tree) → HasShape ts t → IsRead (read_all ts (the.Cowns ∷ []) room_of_text)
shape_within ts t s =
    let d = MOST_DEFS - length t.defs in
    let enough : MOST_DEFS ≡ many t.defs d = omega (arith, many_is t.defs d, s.limits.defs) in
    let read = cowns_within t.cowns t.defs t.main MOST_COWNS d 0 s.limits.arrays s.limits.cowns s.limits.small_defs s.limits.small_main in (
      read.0,
      ap (λ (ts : List Token). read_all ts (the.Cowns ∷ []) room_of_text) s.tokens_are
          ∙ ap (λ (d : ℕ). read_all (each_tokens cown_tokens t.cowns (defs_tokens t.defs t.main)) (the.Cowns ∷ []) (room MOST_COWNS d 0 0)) enough
          ∙ read.1,
    )

-- tokens after one that passes a limit
over_on : (ts more after : List Token) (found : Option Within)
    → ((s : Within) → within_after ts (more ++ after) s.wanted s.room ≡ None → within_after (ts ++ more) after s.wanted s.room ≡ None)
    → ◌≡◌ {A = Option Within} (elim found [ Some s ↦ within_after ts (more ++ after) s.wanted s.room | None ↦ None ]) None
    → ◌≡◌ {A = Option Within} (elim found [ Some s ↦ within_after (ts ++ more) after s.wanted s.room | None ↦ None ]) None
over_on ts more after (Some s) deeper e = deeper s e
over_on ts more after None deeper e = refl

pub still_over : (ts more after : List Token) (ws : List Wanted) (r : Room) → within_after ts (more ++ after) ws r ≡ None
    → within_after (ts ++ more) after ws r ≡ None
still_over [] more after ws r e = absurd cc
still_over (t ∷ ts) more after ws r e =
    subst (λ (us : List Token). ◌≡◌ {A = Option Within}
    (elim (within_behind t us ws r) [ Some s ↦ within_after (ts ++ more) after s.wanted s.room | None ↦ None ]) None)
    (sym (append_assoc ts more after))
    (over_on ts more after (within_behind t (ts ++ (more ++ after)) ws r) (λ s d. still_over ts more after s.wanted s.room d) e)

-- tokens that were read, and what is read after them
behind_within : (ts more after : List Token) (found : Option Within) (s : Within)
    → ((q : Within) → within_after ts (more ++ after) q.wanted q.room ≡ Some s
    → within_after (ts ++ more) after q.wanted q.room ≡ within_after more after s.wanted s.room)
    → (elim found [ Some q ↦ within_after ts (more ++ after) q.wanted q.room | None ↦ None ]) ≡ Some s
    → (elim found [ Some q ↦ within_after (ts ++ more) after q.wanted q.room | None ↦ None ]) ≡ within_after more after s.wanted s.room
behind_within ts more after (Some q) s deeper e = deeper q e
behind_within ts more after None s deeper e = absurd cc

pub within_append : (ts more after : List Token) (ws : List Wanted) (r : Room) (s : Within) → within_after ts (more ++ after) ws r ≡ Some s
    → within_after (ts ++ more) after ws r ≡ within_after more after s.wanted s.room
within_append [] more after ws r s e =
    let start : Within = record { wanted = ws; room = r } in
    let same : start ≡ s = cc in
    ap (λ (q : Within). within_after more after q.wanted q.room) same
within_append (t ∷ ts) more after ws r s e =
    let goes_on : List Token → Option Within = λ us.
    elim (within_behind t us ws r) [ Some q ↦ within_after (ts ++ more) after q.wanted q.room | None ↦ None ] in
    ap goes_on (append_assoc ts more after)
    ∙ behind_within ts more after (within_behind t (ts ++ (more ++ after)) ws r) s (λ q d. within_append ts more after q.wanted q.room s d) e

-- Of the tokens after a token the first one alone is looked at.
cown_same : (h : Token) (a b : List Token) (r : Room) → left_in_cown (h ∷ a) r ≡ left_in_cown (h ∷ b) r
cown_same (sign signs.OpenIndex) a b r = refl
cown_same _ a b r = refl

left_same : (t h : Token) (a b : List Token) (w : Wanted) (r : Room) → left_behind t (h ∷ a) w r ≡ left_behind t (h ∷ b) w r
left_same t h a b the.CownName r = cown_same h a b r
left_same t h a b _ r = refl

behind_same : (t h : Token) (a b : List Token) (ws : List Wanted) (r : Room) → within_behind t (h ∷ a) ws r ≡ within_behind t (h ∷ b) ws r
behind_same t h a b [] r = refl
behind_same t h a b (w ∷ ws) r =
    let by : Option Room → Option Within → Option Within = λ left passed.
    elim (behind t w) [ Some all ↦ with_room (all ++ ws) left | None ↦ if may_be_left_out w then passed else None ] in
    ap (λ (left : Option Room). by left (within_behind t (h ∷ a) ws r)) (left_same t h a b w r)
    ∙ ap (by (left_behind t (h ∷ b) w r)) (behind_same t h a b ws r)

each_same : (ts a b : List Token) (found : Option Within)
    → ((q : Within) → within_after ts a q.wanted q.room ≡ within_after ts b q.wanted q.room)
    → ◌≡◌ {A = Option Within} (elim found [ Some s ↦ within_after ts a s.wanted s.room | None ↦ None ])
    (elim found [ Some s ↦ within_after ts b s.wanted s.room | None ↦ None ])
each_same ts a b (Some q) deeper = deeper q
each_same ts a b None deeper = refl

before_same : (ts : List Token) (t : Token) (a b : List Token) (ws : List Wanted) (r : Room) → within_after ts (t ∷ a) ws r ≡ within_after ts (t ∷ b) ws r
before_same [] t a b ws r = refl
before_same (u ∷ []) t a b ws r =
    ap (λ (found : Option Within). elim found [ Some s ↦ within_after [] [] s.wanted s.room | None ↦ None ]) (behind_same u t a b ws r)
before_same (u ∷ v ∷ us) t a b ws r =
    ap (λ (found : Option Within). elim found [ Some s ↦ within_after (v ∷ us) (t ∷ a) s.wanted s.room | None ↦ None ])
    (behind_same u v (us ++ t ∷ a) (us ++ t ∷ b) ws r)
    ∙ each_same (v ∷ us) (t ∷ a) (t ∷ b) (within_behind u (v ∷ (us ++ t ∷ b)) ws r) (λ q. before_same (v ∷ us) t a b q.wanted q.room)

-- A token that passes a limit before some tokens: whatever others follow it, they aren't read to the end of a text.
abbrev NotRead : Option Within → Type 0
NotRead found = IsRead found → ⊥

none_not_read : (found : Option Within) → found ≡ None → NotRead found
none_not_read found e read = let some = read.1 in cc

pub no_room : (n : ℕ) (r : Room) → take_cowns n r ≡ None → r.cowns < n
no_room n r e =
    elim (cases_Bool (nat_le n r.cowns)) [
      | inl most ↦ let some : take_cowns n r ≡ Some (record r { cowns = r.cowns - n }) = rw most refl in absurd (cc (some, e))
      | inr less ↦ leb-false n r.cowns less
    ]

none_taken : (n : ℕ) (r : Room) → r.cowns < n → take_cowns n r ≡ None
none_taken n r less = rw (lt-leb n r.cowns less) refl

-- more is wanted after them
wanted_not_read : (w : Wanted) (ws : List Wanted) (r : Room) → NotRead (Some (record { wanted = w ∷ ws; room = r }))
wanted_not_read w ws r read =
    let last : Within = record { wanted = w ∷ ws; room = r } in
    let none : Within = record { wanted = []; room = read.0 } in
    let same : last ≡ none = cc (read.1) in
    let more : w ∷ ws ≡ [] = ap (λ (s : Within). s.wanted) same in
    cc more

at_members : (more : List Token) (ws : List Wanted) (r : Room) → r.cowns < 1 → NotRead (read_all more (the.Members ∷ the.CloseIndex ∷ ws) r)
at_members [] ws r none read = wanted_not_read the.Members (the.CloseIndex ∷ ws) r read
at_members (number zero ∷ more) ws r none read = none_not_read None refl read
at_members (number (suc n) ∷ more) ws r none read =
    none_not_read (read_all (number (suc n) ∷ more) (the.Members ∷ the.CloseIndex ∷ ws) r)
    (ap (within_left more (the.CloseIndex ∷ ws)) (none_taken (suc n) r (omega (arith, none)))) read
at_members (name x ∷ more) ws r none read = none_not_read None refl read
at_members (keyword k ∷ more) ws r none read = none_not_read None refl read
at_members (sign s ∷ more) ws r none read = no_sign s read
  where
    no_sign : (s : Sign) → NotRead (read_all (sign s ∷ more) (the.Members ∷ the.CloseIndex ∷ ws) r)
    no_sign signs.Minus read = none_not_read None refl read
    no_sign _ read = none_not_read None refl read

full_at_cown : (after : List Token) (r : Room) → left_in_cown after r ≡ None → r.cowns < 1
full_at_cown [] r e = no_room 1 r e
full_at_cown (sign signs.OpenIndex ∷ after) r e = absurd cc
full_at_cown (_ ∷ after) r e = no_room 1 r e

at_cown : (more : List Token) (ws : List Wanted) (r : Room) → r.cowns < 1 → NotRead (within_left more (the.Size ∷ ws) (left_in_cown (more ++ []) r))
at_cown [] ws r none read = none_not_read (within_left [] (the.Size ∷ ws) (take_cowns 1 r)) (ap (within_left [] (the.Size ∷ ws)) (none_taken 1 r none)) read
at_cown (sign signs.OpenIndex ∷ more) ws r none read = at_members more ws r none read
at_cown (t ∷ more) ws r none read =
    none_not_read (within_left (t ∷ more) (the.Size ∷ ws) (take_cowns 1 r)) (ap (within_left (t ∷ more) (the.Size ∷ ws)) (none_taken 1 r none)) read

-- what is left does not depend on what comes after a token, but where it is the name of a cown
over_left : (t : Token) (after more : List Token) (w : Wanted) (all ws : List Wanted) (r : Room) → behind t w ≡ Some all → left_behind t after w r ≡ None
    → NotRead (within_left more (all ++ ws) (left_behind t (more ++ []) w r))
over_left (name x) after more the.CownName all ws r is e read =
    let size : the.Size ∷ [] ≡ all = cc is in
    at_cown more ws r (full_at_cown after r e)
    (subst (λ (us : List Wanted). IsRead (within_left more (us ++ ws) (left_in_cown (more ++ []) r))) (sym size) read)
over_left (number n) after more the.CownName all ws r is e read = absurd cc
over_left (keyword k) after more the.CownName all ws r is e read = absurd cc
over_left (sign s) after more the.CownName all ws r is e read = no_sign s is
  where
    no_sign : (s : Sign) → behind (sign s) the.CownName ≡ Some all → ⊥
    no_sign signs.Minus is = cc
    no_sign _ is = cc
over_left t after more w all ws r is e read =
    none_not_read (within_left more (all ++ ws) (left_behind t (more ++ []) w r)) (ap (within_left more (all ++ ws)) e) read

no_room_is_none : (ws : List Wanted) (found : Option Room) → with_room ws found ≡ None → found ≡ None
no_room_is_none ws None e = refl
no_room_is_none ws (Some q) e = absurd cc

-- what follows a token, by what was wanted after it
abbrev goes_on : Token → List Token → Wanted → List Wanted → Room → Bool → Option (List Wanted) → Option Within
goes_on t more w ws r may found =
    let behind_it : Option Within =
    elim found [ Some all ↦ with_room (all ++ ws) (left_behind t (more ++ []) w r) | None ↦ if may then within_behind t (more ++ []) ws r else None ] in
    elim behind_it [ Some s ↦ within_after more [] s.wanted s.room | None ↦ None ]

over_by : (t : Token) (after more : List Token) (w : Wanted) (ws : List Wanted) (r : Room) (found : Option (List Wanted)) (may : Bool) → behind t w ≡ found
    → ◌≡◌ {A = Option Within}
    (elim found [ Some all ↦ with_room (all ++ ws) (left_behind t after w r) | None ↦ if may then within_behind t after ws r else None ]) None
    → (within_behind t after ws r ≡ None → NotRead (read_all (t ∷ more) ws r)) → NotRead (goes_on t more w ws r may found)
over_by t after more w ws r (Some all) may is none deeper read =
    over_left t after more w all ws r is (no_room_is_none (all ++ ws) (left_behind t after w r) none) read
over_by t after more w ws r None true is none deeper read = deeper none read
over_by t after more w ws r None false is none deeper read = none_not_read None refl read

over_at : (t : Token) (after more : List Token) (ws : List Wanted) (r : Room) → within_behind t after ws r ≡ None → NotRead (read_all (t ∷ more) ws r)
over_at t after more [] r e read = none_not_read None refl read
over_at t after more (w ∷ ws) r e read =
    over_by t after more w ws r (behind t w) (may_be_left_out w) refl e (λ none. over_at t after more ws r none) read

-- no tree within the limits begins with tokens that pass none, and one after them that does
pub over_begins_none : (ts after more : List Token) (t : Token) (s : Within) (tree : Tree) → within_after ts (t ∷ after) (the.Cowns ∷ []) room_of_text ≡ Some s
    → within_behind t after s.wanted s.room ≡ None → HasShape ((ts ++ t ∷ []) ++ more) tree → ⊥
over_begins_none ts after more t s tree e none shape =
    let all = shape_within ((ts ++ t ∷ []) ++ more) tree shape in
    let parts : (ts ++ t ∷ []) ++ more ≡ ts ++ t ∷ more = append_assoc ts (t ∷ []) more in
    let before : within_after ts (t ∷ (more ++ [])) (the.Cowns ∷ []) room_of_text ≡ Some s =
    before_same ts t (more ++ []) after (the.Cowns ∷ []) room_of_text ∙ e in
    let on : read_all (ts ++ t ∷ more) (the.Cowns ∷ []) room_of_text ≡ read_all (t ∷ more) s.wanted s.room =
    within_append ts (t ∷ more) [] (the.Cowns ∷ []) room_of_text s before in
    over_at t after more s.wanted s.room none (subst IsRead (ap (λ (us : List Token). read_all us (the.Cowns ∷ []) room_of_text) parts ∙ on) all)

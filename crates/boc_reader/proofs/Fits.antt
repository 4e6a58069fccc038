-- What is read within the limits keeps them.
use Rattle.std.proofs.Common.{◌≡◌, ℕ, zero, suc, ◌-◌, ◌≤◌, nat_le, Bool, true, false, List, [], ◌∷◌, length, Option, Some, None, refl, sym, ap, ◌∙◌}
use Rattle.std.proofs.Common.{arith, inl, inr}
use Rattle.std.proofs.lemmas.Bool.{cases_Bool, leb-true}
use Rattle.boc_program.specs.declared.limits.TheConstants.{MOST_ARGUMENTS, MOST_COWNS, MOST_DEFS, MOST_HELD, MOST_NODES}
use Rattle.boc_program.specs.Sizes.{members}
use Rattle.boc_reader.specs.declared.terminal.Keyword.TheVariants as keywords
use Rattle.boc_reader.specs.declared.terminal.Sign.TheVariants as signs
use Rattle.boc_reader.specs.declared.level.SumOperator.{SumOperator}
use Rattle.boc_reader.specs.declared.level.SumOperator.TheVariants as sums
use Rattle.boc_reader.specs.declared.level.TermOperator.{TermOperator}
use Rattle.boc_reader.specs.declared.level.TermOperator.TheVariants as terms
use Rattle.boc_reader.specs.declared.level.Comparison.{Comparison}
use Rattle.boc_reader.specs.declared.level.Comparison.TheVariants as comparisons
use Rattle.boc_reader.specs.declared.wanted.Wanted.{Wanted}
use Rattle.boc_reader.specs.declared.wanted.Wanted.TheVariants as the
use Rattle.boc_reader.specs.Tokens.{Token, name, number, keyword, sign}
use Rattle.boc_reader.specs.Shape.{comparison_sign, sum_sign, term_sign, Expr, plain, compared, expr_tokens, Sum, one_term, more_terms, sum_tokens, Term}
use Rattle.boc_reader.specs.Shape.{one_factor, more_factors, term_tokens, Unary, negated, unsigned, unary_tokens, Atom, literal, variable, parens, atom_tokens}
use Rattle.boc_reader.specs.Shape.{NamedCown, alone, member, ref_tokens, Stmt, declare, assign, work, if_only, if_else, repeat, when, stmt_tokens, IsSmallStmt}
use Rattle.boc_reader.specs.Shape.{Block, done, next, block_tokens, IsSmallBlock, IsSmallBody, braced_tokens, behind_commas, list_tokens, each_tokens}
use Rattle.boc_reader.specs.Shape.{name_tokens, Cown, cown_tokens, HasMembers, HaveMembers, cowns_declared, size_tokens, minus_tokens, Def, AreSmallDefs}
use Rattle.boc_reader.specs.Shape.{HasShape}
use Rattle.boc_reader.specs.Wanted.{behind}
use Rattle.boc_reader.specs.Room.{Within, room_of_text, take_cowns, take_node}
use Rattle.boc_reader.specs.WrongShape.{AreWhole}
use Rattle.boc_reader.proofs.Wanting.{operand, inside, in_expr, defs_tokens}
use Rattle.boc_reader.proofs.Within.{room, read_all, within_left, within_by, expr_room, sum_room, term_room, unary_room, atom_room, args_room, index_room}
use Rattle.boc_reader.proofs.Within.{refs_room, stmt_room, block_room, block_room_is, first_expr, next_expr, no_operator, no_else, first_def, value_within}

-- tokens were read
abbrev Found : Option Within → Type 0
Found found = (s : Within) × (found ≡ Some s)

as_found : {x y : Option Within} → x ≡ y → Found x → Found y
as_found e h = (h.0, sym e ∙ h.1)

none_found : (found : Option Within) → found ≡ None → Found found → ⊥
none_found found e h = let some = h.1 in cc

-- there was space for a node
node_fits : (k d l : ℕ) (ts : List Token) (ws : List Wanted) (m : ℕ) → Found (within_left ts ws (take_node (room k d m l)))
    → (n : ℕ) × (m ≡ suc n) × Found (read_all ts ws (room k d n l))
node_fits k d l ts ws zero h = absurd (none_found None refl h)
node_fits k d l ts ws (suc n) h = (n, refl, h)

-- One token.
module _ (k d l : ℕ) (ts : List Token) (ws : List Wanted) (m : ℕ) where
  -- there was space for a node, and after it these are wanted
  abbrev NodeThen : List Wanted → Type 0
  NodeThen vs = (n : ℕ) × (m ≡ suc n) × Found (read_all ts vs (room k d n l))

  minus_fits : (c : Bool) → Found (read_all (sign signs.Minus ∷ ts) (operand c ∷ ws) (room k d m l)) → NodeThen (operand c ∷ ws)
  minus_fits true h = node_fits k d l ts (the.Sum ∷ ws) m h
  minus_fits false h = node_fits k d l ts (the.Expr ∷ ws) m h

  name_fits : (c : Bool) (x : List ℕ) → Found (read_all (name x ∷ ts) (operand c ∷ ws) (room k d m l)) → NodeThen (inside c ∷ ws)
  name_fits true x h = node_fits k d l ts (the.InSum ∷ ws) m h
  name_fits false x h = node_fits k d l ts (the.InExpr ∷ ws) m h

  number_fits : (c : Bool) (i : ℕ) → Found (read_all (number i ∷ ts) (operand c ∷ ws) (room k d m l)) → NodeThen (inside c ∷ ws)
  number_fits true i h = node_fits k d l ts (the.InSum ∷ ws) m h
  number_fits false i h = node_fits k d l ts (the.InExpr ∷ ws) m h

  open_fits : (c : Bool) → Found (read_all (sign signs.Open ∷ ts) (operand c ∷ ws) (room k d m l)) → NodeThen (the.Expr ∷ the.Close ∷ inside c ∷ ws)
  open_fits true h = node_fits k d l ts (the.Expr ∷ the.Close ∷ the.InSum ∷ ws) m h
  open_fits false h = node_fits k d l ts (the.Expr ∷ the.Close ∷ the.InExpr ∷ ws) m h

  term_sign_fits : (c : Bool) (op : TermOperator) → Found (read_all (sign (term_sign op) ∷ ts) (inside c ∷ ws) (room k d m l)) → NodeThen (operand c ∷ ws)
  term_sign_fits true terms.Multiply h = node_fits k d l ts (the.Sum ∷ ws) m h
  term_sign_fits true terms.Divide h = node_fits k d l ts (the.Sum ∷ ws) m h
  term_sign_fits true terms.Remainder h = node_fits k d l ts (the.Sum ∷ ws) m h
  term_sign_fits false terms.Multiply h = node_fits k d l ts (the.Expr ∷ ws) m h
  term_sign_fits false terms.Divide h = node_fits k d l ts (the.Expr ∷ ws) m h
  term_sign_fits false terms.Remainder h = node_fits k d l ts (the.Expr ∷ ws) m h

  sum_sign_fits : (c : Bool) (op : SumOperator) → Found (read_all (sign (sum_sign op) ∷ ts) (inside c ∷ ws) (room k d m l)) → NodeThen (operand c ∷ ws)
  sum_sign_fits true sums.Add h = node_fits k d l ts (the.Sum ∷ ws) m h
  sum_sign_fits true sums.Subtract h = node_fits k d l ts (the.Sum ∷ ws) m h
  sum_sign_fits false sums.Add h = node_fits k d l ts (the.Expr ∷ ws) m h
  sum_sign_fits false sums.Subtract h = node_fits k d l ts (the.Expr ∷ ws) m h

  comparison_fits : (op : Comparison) → Found (read_all (sign (comparison_sign op) ∷ ts) (the.InExpr ∷ ws) (room k d m l)) → NodeThen (the.Sum ∷ ws)
  comparison_fits comparisons.Equal h = node_fits k d l ts (the.Sum ∷ ws) m h
  comparison_fits comparisons.NotEqual h = node_fits k d l ts (the.Sum ∷ ws) m h
  comparison_fits comparisons.Less h = node_fits k d l ts (the.Sum ∷ ws) m h
  comparison_fits comparisons.AtMost h = node_fits k d l ts (the.Sum ∷ ws) m h
  comparison_fits comparisons.Greater h = node_fits k d l ts (the.Sum ∷ ws) m h
  comparison_fits comparisons.AtLeast h = node_fits k d l ts (the.Sum ∷ ws) m h

  close_fits : (e : Expr) → Found (read_all (sign signs.Close ∷ ts) (in_expr e ∷ the.Close ∷ ws) (room k d m l)) → Found (read_all ts ws (room k d m l))
  close_fits (plain s) h = h
  close_fits (compared s op t) h = h

module _ (k d l : ℕ) where
  mutual
    expr_fits : (e : Expr) (m : ℕ) (ts : List Token) (ws : List Wanted) → Found (read_all (expr_tokens e ts) (the.Expr ∷ ws) (room k d m l))
        → (n : ℕ) × (m ≡ expr_room e n) × Found (read_all ts (in_expr e ∷ ws) (room k d n l))
    expr_fits (plain s) m ts ws h = sum_fits false s m ts ws h
    expr_fits (compared s op t) m ts ws h =
        let a = sum_fits false s m (sign (comparison_sign op) ∷ sum_tokens t ts) ws h in
        let b = comparison_fits k d l (sum_tokens t ts) ws a.0 op a.2 in
        let c = sum_fits true t b.0 ts ws b.2 in
        (c.0, a.1 ∙ ap (sum_room s) (b.1 ∙ ap suc c.1), c.2)

    sum_fits : (c : Bool) (s : Sum) (m : ℕ) (ts : List Token) (ws : List Wanted) → Found (read_all (sum_tokens s ts) (operand c ∷ ws) (room k d m l))
        → (n : ℕ) × (m ≡ sum_room s n) × Found (read_all ts (inside c ∷ ws) (room k d n l))
    sum_fits c (one_term t) m ts ws h = term_fits c t m ts ws h
    sum_fits c (more_terms t op s) m ts ws h =
        let a = term_fits c t m (sign (sum_sign op) ∷ sum_tokens s ts) ws h in
        let b = sum_sign_fits k d l (sum_tokens s ts) ws a.0 c op a.2 in
        let r = sum_fits c s b.0 ts ws b.2 in
        (r.0, a.1 ∙ ap (term_room t) (b.1 ∙ ap suc r.1), r.2)

    term_fits : (c : Bool) (t : Term) (m : ℕ) (ts : List Token) (ws : List Wanted) → Found (read_all (term_tokens t ts) (operand c ∷ ws) (room k d m l))
        → (n : ℕ) × (m ≡ term_room t n) × Found (read_all ts (inside c ∷ ws) (room k d n l))
    term_fits c (one_factor u) m ts ws h = unary_fits c u m ts ws h
    term_fits c (more_factors u op t) m ts ws h =
        let a = unary_fits c u m (sign (term_sign op) ∷ term_tokens t ts) ws h in
        let b = term_sign_fits k d l (term_tokens t ts) ws a.0 c op a.2 in
        let r = term_fits c t b.0 ts ws b.2 in
        (r.0, a.1 ∙ ap (unary_room u) (b.1 ∙ ap suc r.1), r.2)

    unary_fits : (c : Bool) (u : Unary) (m : ℕ) (ts : List Token) (ws : List Wanted) → Found (read_all (unary_tokens u ts) (operand c ∷ ws) (room k d m l))
        → (n : ℕ) × (m ≡ unary_room u n) × Found (read_all ts (inside c ∷ ws) (room k d n l))
    unary_fits c (negated u) m ts ws h =
        let a = minus_fits k d l (unary_tokens u ts) ws m c h in
        let r = unary_fits c u a.0 ts ws a.2 in
        (r.0, a.1 ∙ ap suc r.1, r.2)
    unary_fits c (unsigned a) m ts ws h = atom_fits c a m ts ws h

    atom_fits : (c : Bool) (a : Atom) (m : ℕ) (ts : List Token) (ws : List Wanted) → Found (read_all (atom_tokens a ts) (operand c ∷ ws) (room k d m l))
        → (n : ℕ) × (m ≡ atom_room a n) × Found (read_all ts (inside c ∷ ws) (room k d n l))
    atom_fits c (literal i) m ts ws h = number_fits k d l ts ws m c i h
    atom_fits c (variable x) m ts ws h = name_fits k d l ts ws m c x h
    atom_fits c (parens e) m ts ws h =
        let a = open_fits k d l (expr_tokens e (sign signs.Close ∷ ts)) ws m c h in
        let r = expr_fits e a.0 (sign signs.Close ∷ ts) (the.Close ∷ inside c ∷ ws) a.2 in
        (r.0, a.1 ∙ ap suc r.1, close_fits k d l ts (inside c ∷ ws) r.0 e r.2)

-- an expression, and a token after it that is no operator
ended_fits : (k d l : ℕ) (e : Expr) (m : ℕ) (t : Token) (ts : List Token) (ws : List Wanted) → behind t the.InExpr ≡ None → behind t the.InSum ≡ None
    → Found (read_all (expr_tokens e (t ∷ ts)) (the.Expr ∷ ws) (room k d m l))
    → (n : ℕ) × (m ≡ expr_room e n) × Found (read_all (t ∷ ts) ws (room k d n l))
ended_fits k d l e m t ts ws none nor h =
    let a = expr_fits k d l e m (t ∷ ts) ws h in
    (a.0, a.1, as_found (no_operator e t ts ws (room k d a.0 l) none nor) a.2)

-- Lists.
module _ (k d : ℕ) where
  more_params_fit : (xs : List (List ℕ)) (n l : ℕ) (ts : List Token) (ws : List Wanted)
      → Found (read_all (behind_commas name_tokens xs (sign signs.Semicolon ∷ ts)) (the.MoreParams ∷ ws) (room k d n l))
      → (length xs ≤ l) × Found (read_all ts ws (room k d n 0))
  more_params_fit [] n l ts ws h = (omega arith, h)
  more_params_fit (x ∷ xs) n zero ts ws h = absurd (none_found None refl h)
  more_params_fit (x ∷ xs) n (suc l) ts ws h = let r = more_params_fit xs n l ts ws h in (omega (arith, r.0), r.1)

  more_held_fit : (xs : List (List ℕ)) (n l : ℕ) (ts : List Token) (ws : List Wanted)
      → Found (read_all (behind_commas name_tokens xs (sign signs.Close ∷ ts)) (the.MoreHeld ∷ ws) (room k d n l))
      → (length xs ≤ l) × Found (read_all ts ws (room k d n 0))
  more_held_fit [] n l ts ws h = (omega arith, h)
  more_held_fit (x ∷ xs) n zero ts ws h = absurd (none_found None refl h)
  more_held_fit (x ∷ xs) n (suc l) ts ws h = let r = more_held_fit xs n l ts ws h in (omega (arith, r.0), r.1)

  params_fit : (xs : List (List ℕ)) (n : ℕ) (ts : List Token) (ws : List Wanted)
      → Found (read_all (list_tokens name_tokens xs (sign signs.Semicolon ∷ ts)) (the.Params ∷ ws) (room k d n 0))
      → (length xs ≤ MOST_ARGUMENTS) × Found (read_all ts ws (room k d n 0))
  params_fit [] n ts ws h = (omega arith, h)
  params_fit (x ∷ xs) n ts ws h = let r = more_params_fit xs n 7 ts ws h in (omega (arith, r.0), r.1)

  held_fit : (xs : List (List ℕ)) (n : ℕ) (ts : List Token) (ws : List Wanted)
      → Found (read_all (list_tokens name_tokens xs (sign signs.Close ∷ ts)) (the.Held ∷ ws) (room k d n 0))
      → (length xs ≤ MOST_HELD) × Found (read_all ts ws (room k d n 0))
  held_fit [] n ts ws h = (omega arith, h)
  held_fit (x ∷ xs) n ts ws h = let r = more_held_fit xs n 7 ts ws h in (omega (arith, r.0), r.1)

  -- none is in a list that has no room
  no_next_unary : (u : Unary) (m : ℕ) (ts : List Token) (ws : List Wanted)
      → ◌≡◌ {A = Option Within} (read_all (unary_tokens u ts) (the.NextArg ∷ ws) (room k d m 0)) None
  no_next_unary (negated u) m ts ws = refl
  no_next_unary (unsigned (literal i)) m ts ws = refl
  no_next_unary (unsigned (variable x)) m ts ws = refl
  no_next_unary (unsigned (parens e)) m ts ws = refl

  no_next_term : (t : Term) (m : ℕ) (ts : List Token) (ws : List Wanted)
      → ◌≡◌ {A = Option Within} (read_all (term_tokens t ts) (the.NextArg ∷ ws) (room k d m 0)) None
  no_next_term (one_factor u) m ts ws = no_next_unary u m ts ws
  no_next_term (more_factors u op t) m ts ws = no_next_unary u m (sign (term_sign op) ∷ term_tokens t ts) ws

  no_next_sum : (s : Sum) (m : ℕ) (ts : List Token) (ws : List Wanted)
      → ◌≡◌ {A = Option Within} (read_all (sum_tokens s ts) (the.NextArg ∷ ws) (room k d m 0)) None
  no_next_sum (one_term t) m ts ws = no_next_term t m ts ws
  no_next_sum (more_terms t op s) m ts ws = no_next_term t m (sign (sum_sign op) ∷ sum_tokens s ts) ws

  no_next : (e : Expr) (m : ℕ) (ts : List Token) (ws : List Wanted)
      → ◌≡◌ {A = Option Within} (read_all (expr_tokens e ts) (the.NextArg ∷ ws) (room k d m 0)) None
  no_next (plain s) m ts ws = no_next_sum s m ts ws
  no_next (compared s op t) m ts ws = no_next_sum s m (sign (comparison_sign op) ∷ sum_tokens t ts) ws

  -- an argument after a comma is one of a list
  next_listed : (e : Expr) (m l : ℕ) (ts : List Token) (ws : List Wanted) → Found (read_all (expr_tokens e ts) (the.NextArg ∷ ws) (room k d m l))
      → (i : ℕ) × (l ≡ suc i) × Found (read_all (expr_tokens e ts) (the.Expr ∷ ws) (room k d m i))
  next_listed e m zero ts ws h = absurd (none_found (read_all (expr_tokens e ts) (the.NextArg ∷ ws) (room k d m 0)) (no_next e m ts ws) h)
  next_listed e m (suc i) ts ws h = (i, refl, as_found (next_expr k d e m i ts ws) h)

  more_args_fit : (e : Expr) (es : List Expr) (m l : ℕ) (ts : List Token) (ws : List Wanted)
      → Found (read_all (expr_tokens e (behind_commas expr_tokens es (sign signs.Semicolon ∷ ts))) (the.Expr ∷ the.MoreArgs ∷ ws) (room k d m l))
      → (n : ℕ) × (m ≡ expr_room e (args_room es n)) × (length es ≤ l) × Found (read_all ts ws (room k d n 0))
  more_args_fit e [] m l ts ws h =
      let a = ended_fits k d l e m (sign signs.Semicolon) ts (the.MoreArgs ∷ ws) refl refl h in (a.0, a.1, omega arith, a.2)
  more_args_fit e (f ∷ fs) m l ts ws h =
      let rest = behind_commas expr_tokens fs (sign signs.Semicolon ∷ ts) in
      let a = ended_fits k d l e m (sign signs.Comma) (expr_tokens f rest) (the.MoreArgs ∷ ws) refl refl h in
      let b = next_listed f a.0 l rest (the.MoreArgs ∷ ws) a.2 in
      let r = more_args_fit f fs a.0 b.0 ts ws b.2 in
      (r.0, a.1 ∙ ap (expr_room e) r.1, omega (arith, b.1, r.2), r.3)

  args_fit : (es : List Expr) (m : ℕ) (ts : List Token) (ws : List Wanted)
      → Found (read_all (list_tokens expr_tokens es (sign signs.Semicolon ∷ ts)) (the.Args ∷ ws) (room k d m 0))
      → (n : ℕ) × (m ≡ args_room es n) × (length es ≤ MOST_ARGUMENTS) × Found (read_all ts ws (room k d n 0))
  args_fit [] m ts ws h = (m, refl, omega arith, h)
  args_fit (e ∷ es) m ts ws h =
      let rest = behind_commas expr_tokens es (sign signs.Semicolon ∷ ts) in
      let r = more_args_fit e es m 7 ts ws (as_found (first_expr k d e m rest ws) h) in
      (r.0, r.1, omega (arith, r.2), r.3)

  -- a reference after a comma, and a token after it that begins no index
  one_ref_fits : (r : NamedCown) (m l : ℕ) (t : Token) (ts : List Token) (ws : List Wanted) → behind t the.Index ≡ None
      → Found (read_all (ref_tokens r (t ∷ ts)) (the.NextRef ∷ ws) (room k d m l))
      → (n : ℕ) × (i : ℕ) × (m ≡ suc (index_room r n)) × (l ≡ suc i) × Found (read_all (t ∷ ts) ws (room k d n i))
  one_ref_fits (alone x) m zero t ts ws none h = absurd (none_found None refl h)
  one_ref_fits (member x e) m zero t ts ws none h = absurd (none_found None refl h)
  one_ref_fits (alone x) zero (suc i) t ts ws none h = absurd (none_found None refl h)
  one_ref_fits (member x e) zero (suc i) t ts ws none h = absurd (none_found None refl h)
  one_ref_fits (alone x) (suc n) (suc i) t ts ws none h = (n, i, refl, refl, as_found (ap (within_by t ts the.Index ws (room k d n i)) none) h)
  one_ref_fits (member x e) (suc n) (suc i) t ts ws none h =
      let a = ended_fits k d i e n (sign signs.CloseIndex) (t ∷ ts) (the.CloseIndex ∷ ws) refl refl h in
      (a.0, i, ap suc a.1, refl, a.2)

  more_refs_fit : (r : NamedCown) (rs : List NamedCown) (m l : ℕ) (ts : List Token) (ws : List Wanted)
      → Found (read_all (ref_tokens r (behind_commas ref_tokens rs (sign signs.Close ∷ ts))) (the.NextRef ∷ the.MoreRefs ∷ ws) (room k d m l))
      → (n : ℕ) × (m ≡ refs_room (r ∷ rs) n) × (length (r ∷ rs) ≤ l) × Found (read_all ts ws (room k d n 0))
  more_refs_fit r [] m l ts ws h =
      let a = one_ref_fits r m l (sign signs.Close) ts (the.MoreRefs ∷ ws) refl h in
      (a.0, a.2, omega (arith, a.3), a.4)
  more_refs_fit r (q ∷ qs) m l ts ws h =
      let rest = behind_commas ref_tokens qs (sign signs.Close ∷ ts) in
      let a = one_ref_fits r m l (sign signs.Comma) (ref_tokens q rest) (the.MoreRefs ∷ ws) refl h in
      let b = more_refs_fit q qs a.0 a.1 ts ws a.4 in
      (b.0, a.2 ∙ ap (λ (n : ℕ). suc (index_room r n)) b.1, omega (arith, a.3, b.2), b.3)

  first_ref_fits : (r : NamedCown) (m : ℕ) (ts : List Token) (ws : List Wanted)
      → read_all (ref_tokens r ts) (the.Refs ∷ ws) (room k d m 0) ≡ read_all (ref_tokens r ts) (the.NextRef ∷ the.MoreRefs ∷ ws) (room k d m 8)
  first_ref_fits (alone x) zero ts ws = refl
  first_ref_fits (alone x) (suc m) ts ws = refl
  first_ref_fits (member x e) zero ts ws = refl
  first_ref_fits (member x e) (suc m) ts ws = refl

  refs_fit : (rs : List NamedCown) (m : ℕ) (ts : List Token) (ws : List Wanted)
      → Found (read_all (list_tokens ref_tokens rs (sign signs.Close ∷ ts)) (the.Refs ∷ ws) (room k d m 0))
      → (n : ℕ) × (m ≡ refs_room rs n) × (length rs ≤ MOST_HELD) × Found (read_all ts ws (room k d n 0))
  refs_fit [] m ts ws h = (m, refl, omega arith, h)
  refs_fit (r ∷ rs) m ts ws h =
      more_refs_fit r rs m 8 ts ws (as_found (first_ref_fits r m (behind_commas ref_tokens rs (sign signs.Close ∷ ts)) ws) h)

  -- an expression, and the semicolon after it
  written_fits : (e : Expr) (m : ℕ) (ts : List Token) (ws : List Wanted)
      → Found (read_all (expr_tokens e (sign signs.Semicolon ∷ ts)) (the.Expr ∷ the.Semicolon ∷ ws) (room k d m 0))
      → (n : ℕ) × (m ≡ expr_room e n) × Found (read_all ts ws (room k d n 0))
  written_fits e m ts ws h = ended_fits k d 0 e m (sign signs.Semicolon) ts (the.Semicolon ∷ ws) refl refl h

  -- an expression, and the block after it
  guarded_fits : (e : Expr) (b : Block) (m : ℕ) (ts : List Token) (ws : List Wanted)
      → Found (read_all (expr_tokens e (braced_tokens b ts)) (the.Expr ∷ the.OpenBlock ∷ the.Stmts ∷ ws) (room k d m 0))
      → (n : ℕ) × (m ≡ expr_room e n) × Found (read_all (block_tokens b (sign signs.CloseBlock ∷ ts)) (the.Stmts ∷ ws) (room k d n 0))
  guarded_fits e b m ts ws h =
      ended_fits k d 0 e m (sign signs.OpenBlock) (block_tokens b (sign signs.CloseBlock ∷ ts)) (the.OpenBlock ∷ the.Stmts ∷ ws) refl refl h

  -- a statement is a node
  no_stmt : (s : Stmt) (ts : List Token) (ws : List Wanted) → ◌≡◌ {A = Option Within} (read_all (stmt_tokens s ts) (the.Stmts ∷ ws) (room k d 0 0)) None
  no_stmt (declare x e) ts ws = refl
  no_stmt (assign x e) ts ws = refl
  no_stmt (work e) ts ws = refl
  no_stmt (if_only e b) ts ws = refl
  no_stmt (if_else e b c) ts ws = refl
  no_stmt (repeat e b) ts ws = refl
  no_stmt (when f es rs) ts ws = refl

  mutual
    stmt_fits : (s : Stmt) (b : Block) (m : ℕ) (ts : List Token) (ws : List Wanted)
        → Found (read_all (stmt_tokens s (block_tokens b (sign signs.CloseBlock ∷ ts))) (the.Stmts ∷ ws) (room k d m 0))
        → (n : ℕ) × (m ≡ stmt_room s n) × IsSmallStmt s × Found (read_all (block_tokens b (sign signs.CloseBlock ∷ ts)) (the.Stmts ∷ ws) (room k d n 0))
    stmt_fits s b zero ts ws h = absurd (none_found (read_all (stmt_tokens s (block_tokens b (sign signs.CloseBlock ∷ ts))) (the.Stmts ∷ ws) (room k d 0 0))
        (no_stmt s (block_tokens b (sign signs.CloseBlock ∷ ts)) ws) h)
    stmt_fits (declare x e) b (suc m) ts ws h =
        let a = written_fits e m (block_tokens b (sign signs.CloseBlock ∷ ts)) (the.Stmts ∷ ws) h in (a.0, ap suc a.1, tt, a.2)
    stmt_fits (assign x e) b (suc m) ts ws h =
        let a = written_fits e m (block_tokens b (sign signs.CloseBlock ∷ ts)) (the.Stmts ∷ ws) h in (a.0, ap suc a.1, tt, a.2)
    stmt_fits (work e) b (suc m) ts ws h =
        let a = written_fits e m (block_tokens b (sign signs.CloseBlock ∷ ts)) (the.Stmts ∷ ws) h in (a.0, ap suc a.1, tt, a.2)
    stmt_fits (if_only e c) b (suc m) ts ws h =
        let rest = block_tokens b (sign signs.CloseBlock ∷ ts) in
        let a = guarded_fits e c m rest (the.Else ∷ the.Stmts ∷ ws) h in
        let r = block_fits c a.0 rest (the.Else ∷ the.Stmts ∷ ws) a.2 in
        (r.0, ap suc (a.1 ∙ ap (expr_room e) r.1), r.2, as_found (no_else b ts (the.Stmts ∷ ws) (room k d r.0 0)) r.3)
    stmt_fits (if_else e c o) b (suc m) ts ws h =
        let rest = block_tokens b (sign signs.CloseBlock ∷ ts) in
        let other = keyword keywords.Else ∷ braced_tokens o rest in
        let a = guarded_fits e c m other (the.Else ∷ the.Stmts ∷ ws) h in
        let r = block_fits c a.0 other (the.Else ∷ the.Stmts ∷ ws) a.2 in
        let q = block_fits o r.0 rest (the.Stmts ∷ ws) r.3 in
        (q.0, ap suc (a.1 ∙ ap (expr_room e) (r.1 ∙ ap (block_room c) q.1)), (r.2, q.2), q.3)
    stmt_fits (repeat e c) b (suc m) ts ws h =
        let rest = block_tokens b (sign signs.CloseBlock ∷ ts) in
        let a = guarded_fits e c m rest (the.Stmts ∷ ws) h in
        let r = block_fits c a.0 rest (the.Stmts ∷ ws) a.2 in
        (r.0, ap suc (a.1 ∙ ap (expr_room e) r.1), r.2, r.3)
    stmt_fits (when f es rs) b (suc m) ts ws h =
        let rest = block_tokens b (sign signs.CloseBlock ∷ ts) in
        let a = args_fit es m (list_tokens ref_tokens rs (sign signs.Close ∷ sign signs.Semicolon ∷ rest)) (the.Refs ∷ the.Semicolon ∷ the.Stmts ∷ ws) h in
        let r = refs_fit rs a.0 (sign signs.Semicolon ∷ rest) (the.Semicolon ∷ the.Stmts ∷ ws) a.3 in
        (r.0, ap suc (a.1 ∙ ap (args_room es) r.1), (a.2, r.2), r.3)

    block_fits : (b : Block) (m : ℕ) (ts : List Token) (ws : List Wanted)
        → Found (read_all (block_tokens b (sign signs.CloseBlock ∷ ts)) (the.Stmts ∷ ws) (room k d m 0))
        → (n : ℕ) × (m ≡ block_room b n) × IsSmallBlock b × Found (read_all ts ws (room k d n 0))
    block_fits done m ts ws h = (m, refl, tt, h)
    block_fits (next s b) m ts ws h =
        let a = stmt_fits s b m ts ws h in
        let r = block_fits b a.0 ts ws a.3 in
        (r.0, a.1 ∙ ap (stmt_room s) r.1, (a.2, r.2), r.3)

-- a body was read with all the room of one
body_fits : (k d : ℕ) (b : Block) (ts : List Token) (ws : List Wanted)
    → Found (read_all (block_tokens b (sign signs.CloseBlock ∷ ts)) (the.Stmts ∷ ws) (room k d MOST_NODES 0))
    → (n : ℕ) × IsSmallBody b × Found (read_all ts ws (room k d n 0))
body_fits k d b ts ws h =
    let a = block_fits k d b MOST_NODES ts ws h in
    (a.0, record { nodes = omega (arith, a.1, block_room_is b a.0); calls = a.2 }, a.3)

defs_fit : (k : ℕ) (ds : List Def) (b : Block) (d n : ℕ) → Found (read_all (defs_tokens ds b) (the.Defs ∷ []) (room k d n 0))
    → (length ds ≤ d) × AreSmallDefs ds × IsSmallBody b
defs_fit k [] b d n h = (omega arith, tt, (body_fits k d b [] [] h).1)
defs_fit k (x ∷ ds) b zero n h = absurd (none_found None refl h)
defs_fit k (x ∷ ds) b (suc d) n h =
    let rest = defs_tokens ds b in
    let ws = the.Defs ∷ [] in
    let p = params_fit k d x.params MOST_NODES (list_tokens name_tokens x.cowns (sign signs.Close ∷ braced_tokens x.block rest))
    (the.Held ∷ the.OpenBlock ∷ the.Stmts ∷ ws) h in
    let q = held_fit k d x.cowns MOST_NODES (braced_tokens x.block rest) (the.OpenBlock ∷ the.Stmts ∷ ws) p.1 in
    let r = body_fits k d x.block rest ws q.1 in
    let s = defs_fit k ds b d r.0 r.2 in
    (omega (arith, s.0), (record { params = p.0; cowns = q.0; body = r.1 }, s.1), s.2)

some_taken : (i k d n : ℕ) → nat_le i k ≡ true → take_cowns i (room k d n 0) ≡ Some (room (k - i) d n 0)
some_taken i k d n most = rw most refl

none_taken : (i k d n : ℕ) → nat_le i k ≡ false → take_cowns i (room k d n 0) ≡ None
none_taken i k d n less = rw less refl

-- there was space for so many cowns
cowns_fit : (i k d n : ℕ) (ts : List Token) (ws : List Wanted) → Found (within_left ts ws (take_cowns i (room k d n 0)))
    → (i ≤ k) × Found (read_all ts ws (room (k - i) d n 0))
cowns_fit i k d n ts ws h =
    elim (cases_Bool (nat_le i k)) [
      | inl most ↦ (leb-true i k most, as_found (ap (within_left ts ws) (some_taken i k d n most)) h)
      | inr less ↦ absurd (none_found (within_left ts ws (take_cowns i (room k d n 0))) (ap (within_left ts ws) (none_taken i k d n less)) h)
    ]

size_fits : (x : List ℕ) (size : Option ℕ) (k d n : ℕ) (ts : List Token) → HasMembers size
    → Found (read_all (keyword keywords.Cown ∷ name x ∷ size_tokens size (sign signs.Assign ∷ ts)) (the.Cowns ∷ []) (room k d n 0))
    → (members size ≤ k) × Found (read_all ts (the.Initial ∷ the.Semicolon ∷ the.Cowns ∷ []) (room (k - members size) d n 0))
size_fits x None k d n ts some h =
    cowns_fit 1 k d n (sign signs.Assign ∷ ts) (the.Size ∷ the.Assign ∷ the.Initial ∷ the.Semicolon ∷ the.Cowns ∷ []) h
size_fits x (Some zero) k d n ts some h = absurd (omega (arith, some))
size_fits x (Some (suc i)) k d n ts some h =
    cowns_fit (suc i) k d n (sign signs.CloseIndex ∷ sign signs.Assign ∷ ts)
    (the.CloseIndex ∷ the.Assign ∷ the.Initial ∷ the.Semicolon ∷ the.Cowns ∷ []) h

all_cowns_fit : (cs : List Cown) (ds : List Def) (b : Block) (k d n : ℕ) → HaveMembers cs
    → Found (read_all (each_tokens cown_tokens cs (defs_tokens ds b)) (the.Cowns ∷ []) (room k d n 0))
    → (cowns_declared cs ≤ k) × (length ds ≤ d) × AreSmallDefs ds × IsSmallBody b
all_cowns_fit [] ds b k d n some h =
    let r = defs_fit k ds b d n (as_found (first_def ds b (room k d n 0)) h) in (omega arith, r.0, r.1, r.2)
all_cowns_fit (c ∷ cs) ds b k d n some h =
    let rest = each_tokens cown_tokens cs (defs_tokens ds b) in
    let left = k - members c.size in
    let a = size_fits c.name c.size k d n (minus_tokens c.negative (number c.value ∷ sign signs.Semicolon ∷ rest)) some.0 h in
    let r = all_cowns_fit cs ds b left d n some.1 (as_found (value_within c.negative c.value rest (the.Cowns ∷ []) (room left d n 0)) a.1) in
    (omega (arith, a.0, r.0), r.1, r.2, r.3)

-- a tree whose tokens pass no limit is within the limits
pub whole_fits : (ts : List Token) (w : AreWhole ts) (s : Within) → read_all ts (the.Cowns ∷ []) room_of_text ≡ Some s → HasShape ts w.tree
whole_fits ts w s e =
    let t = w.tree in
    let found : read_all (each_tokens cown_tokens t.cowns (defs_tokens t.defs t.main)) (the.Cowns ∷ []) room_of_text ≡ Some s =
    ap (λ (us : List Token). read_all us (the.Cowns ∷ []) room_of_text) (sym w.tokens_are) ∙ e in
    let fits = all_cowns_fit t.cowns t.defs t.main MOST_COWNS MOST_DEFS 0 w.arrays (s, found) in
    record {
      tokens_are = w.tokens_are;
      limits = record { arrays = w.arrays; cowns = fits.0; defs = fits.1; small_defs = fits.2; small_main = fits.3 };
    }

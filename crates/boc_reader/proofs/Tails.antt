-- What follows a phrase is the end of the tokens that it begins.
use Rattle.std.proofs.Common.{◌≡◌, ℕ, zero, suc, ◌-◌, ◌≤◌, List, [], ◌∷◌, ◌++◌, length, drop, refl, sym, ap, ◌∙◌, arith, append_assoc, length-append}
use Rattle.std.specs.Prelude.{Option, Some, None, Bool, true, false}
use Rattle.std.proofs.lemmas.List.{drop_at}
use Rattle.boc_reader.specs.declared.terminal.Sign.TheVariants as signs
use Rattle.boc_reader.specs.declared.terminal.Keyword.TheVariants as keywords
use Rattle.boc_reader.specs.Tokens.{Token, keyword, sign}
use Rattle.boc_reader.specs.Shape.{Expr, plain, compared, Sum, one_term, more_terms, Term, one_factor, more_factors, Unary, negated, unsigned, Atom, literal}
use Rattle.boc_reader.specs.Shape.{variable, parens, NamedCown, alone, member, Stmt, declare, assign, work, if_only, if_else, repeat, when, Block, done, next}
use Rattle.boc_reader.specs.Shape.{Cown, Def, Tree, expr_tokens, sum_tokens, term_tokens, unary_tokens, atom_tokens, ref_tokens, stmt_tokens, block_tokens}
use Rattle.boc_reader.specs.Shape.{behind_commas, list_tokens, each_tokens, name_tokens, braced_tokens, size_tokens, minus_tokens, cown_tokens, def_tokens}
use Rattle.boc_reader.specs.Shape.{comparison_sign, sum_sign, term_sign, tree_tokens}

-- the end of tokens
pub record Tail (rest whole : List Token) : Type 0 where
  pub front : List Token
  pub is : whole ≡ front ++ rest

pub tail_self : (rest : List Token) → Tail rest rest
tail_self rest = record { front = []; is = refl }

-- with a token in front
pub tail_next : {rest whole : List Token} (w : Token) → Tail rest whole → Tail rest (w ∷ whole)
tail_next w t = record { front = w ∷ t.front; is = ap (λ ws. w ∷ ws) t.is }

-- the end of an end
pub tail_more : {rest middle whole : List Token} → Tail middle whole → Tail rest middle → Tail rest whole
tail_more {rest} t u = record { front = t.front ++ u.front; is = t.is ∙ ap (λ ws. t.front ++ ws) u.is ∙ sym (append_assoc t.front u.front rest) }

-- it is what comes after as many tokens as there are more of the whole
pub tail_drop : (rest whole : List Token) → Tail rest whole → rest ≡ drop (length whole - length rest) whole
tail_drop rest whole t =
    let long : length t.front ≡ length whole - length rest = omega (arith, ap length t.is, length-append t.front rest) in
    sym (ap (drop (length whole - length rest)) t.is ∙ drop_at t.front rest (length whole - length rest) long)

pub tail_short : (rest whole : List Token) → Tail rest whole → length rest ≤ length whole
tail_short rest whole t = omega (arith, ap length t.is, length-append t.front rest)

mutual
  pub expr_tail : (x : Expr) (rest : List Token) → Tail rest (expr_tokens x rest)
  expr_tail (plain s) rest = sum_tail s rest
  expr_tail (compared s op t) rest = tail_more (sum_tail s (sign (comparison_sign op) ∷ sum_tokens t rest)) (tail_next _ (sum_tail t rest))

  sum_tail : (x : Sum) (rest : List Token) → Tail rest (sum_tokens x rest)
  sum_tail (one_term t) rest = term_tail t rest
  sum_tail (more_terms t op s) rest = tail_more (term_tail t (sign (sum_sign op) ∷ sum_tokens s rest)) (tail_next _ (sum_tail s rest))

  term_tail : (x : Term) (rest : List Token) → Tail rest (term_tokens x rest)
  term_tail (one_factor u) rest = unary_tail u rest
  term_tail (more_factors u op t) rest = tail_more (unary_tail u (sign (term_sign op) ∷ term_tokens t rest)) (tail_next _ (term_tail t rest))

  unary_tail : (x : Unary) (rest : List Token) → Tail rest (unary_tokens x rest)
  unary_tail (negated u) rest = tail_next _ (unary_tail u rest)
  unary_tail (unsigned a) rest = atom_tail a rest

  atom_tail : (x : Atom) (rest : List Token) → Tail rest (atom_tokens x rest)
  atom_tail (literal n) rest = tail_next _ (tail_self rest)
  atom_tail (variable x) rest = tail_next _ (tail_self rest)
  atom_tail (parens e) rest = tail_next _ (tail_more (expr_tail e (sign signs.Close ∷ rest)) (tail_next _ (tail_self rest)))

-- phrases of a kind
module _ {X : Type 0} (tokens : X → List Token → List Token) (tail : (x : X) (rest : List Token) → Tail rest (tokens x rest)) where
  commas_tail : (xs : List X) (rest : List Token) → Tail rest (behind_commas tokens xs rest)
  commas_tail [] rest = tail_self rest
  commas_tail (x ∷ xs) rest = tail_next _ (tail_more (tail x (behind_commas tokens xs rest)) (commas_tail xs rest))

  pub list_tail : (xs : List X) (rest : List Token) → Tail rest (list_tokens tokens xs rest)
  list_tail [] rest = tail_self rest
  list_tail (x ∷ xs) rest = tail_more (tail x (behind_commas tokens xs rest)) (commas_tail xs rest)

  pub each_tail : (xs : List X) (rest : List Token) → Tail rest (each_tokens tokens xs rest)
  each_tail [] rest = tail_self rest
  each_tail (x ∷ xs) rest = tail_more (tail x (each_tokens tokens xs rest)) (each_tail xs rest)

ref_tail : (x : NamedCown) (rest : List Token) → Tail rest (ref_tokens x rest)
ref_tail (alone x) rest = tail_next _ (tail_self rest)
ref_tail (member x e) rest = tail_next _ (tail_next _ (tail_more (expr_tail e (sign signs.CloseIndex ∷ rest)) (tail_next _ (tail_self rest))))

-- an expression, and the token after it
ended_tail : (e : Expr) (w : Token) (rest : List Token) → Tail rest (expr_tokens e (w ∷ rest))
ended_tail e w rest = tail_more (expr_tail e (w ∷ rest)) (tail_next w (tail_self rest))

-- after a token more
behind : {rest whole : List Token} (w : Token) → Tail (w ∷ rest) whole → Tail rest whole
behind {rest} w t = tail_more t (tail_next w (tail_self rest))

mutual
  stmt_tail : (x : Stmt) (rest : List Token) → Tail rest (stmt_tokens x rest)
  stmt_tail (declare x e) rest = tail_next _ (tail_next _ (tail_next _ (ended_tail e _ rest)))
  stmt_tail (assign x e) rest = tail_next _ (tail_next _ (ended_tail e _ rest))
  stmt_tail (work e) rest = tail_next _ (ended_tail e _ rest)
  stmt_tail (if_only e b) rest = tail_next _ (tail_more (ended_tail e _ _) (behind _ (block_tail b (sign signs.CloseBlock ∷ rest))))
  stmt_tail (if_else e b c) rest =
      tail_next _ (tail_more (ended_tail e _ _) (tail_more (behind _ (block_tail b (sign signs.CloseBlock ∷ _)))
      (tail_next _ (tail_next _ (behind _ (block_tail c (sign signs.CloseBlock ∷ rest)))))))
  stmt_tail (repeat e b) rest = tail_next _ (tail_more (ended_tail e _ _) (behind _ (block_tail b (sign signs.CloseBlock ∷ rest))))
  stmt_tail (when f es rs) rest =
      tail_next _ (tail_next _ (tail_next _ (tail_more (list_tail expr_tokens expr_tail es _) (tail_next _
      (tail_more (list_tail ref_tokens ref_tail rs _) (tail_next _ (tail_next _ (tail_self rest))))))))

  block_tail : (x : Block) (rest : List Token) → Tail rest (block_tokens x rest)
  block_tail done rest = tail_self rest
  block_tail (next s b) rest = tail_more (stmt_tail s (block_tokens b rest)) (block_tail b rest)

name_tail : (x : List ℕ) (rest : List Token) → Tail rest (name_tokens x rest)
name_tail x rest = tail_next _ (tail_self rest)

size_tail : (x : Option ℕ) (rest : List Token) → Tail rest (size_tokens x rest)
size_tail None rest = tail_self rest
size_tail (Some n) rest = tail_next _ (tail_next _ (tail_next _ (tail_self rest)))

minus_tail : (x : Bool) (rest : List Token) → Tail rest (minus_tokens x rest)
minus_tail false rest = tail_self rest
minus_tail true rest = tail_next _ (tail_self rest)

cown_tail : (x : Cown) (rest : List Token) → Tail rest (cown_tokens x rest)
cown_tail c rest =
    tail_next _ (tail_next _ (tail_more (size_tail c.size _) (tail_next _ (tail_more (minus_tail c.negative _) (tail_next _ (tail_next _ (tail_self rest)))))))

pub def_tail : (x : Def) (rest : List Token) → Tail rest (def_tokens x rest)
def_tail d rest =
    tail_next _ (tail_next _ (tail_next _ (tail_more (list_tail name_tokens name_tail d.params _) (tail_next _
    (tail_more (list_tail name_tokens name_tail d.cowns _) (tail_next _ (tail_next _ (behind _ (block_tail d.block (sign signs.CloseBlock ∷ rest))))))))))

-- the defs from one on, and main
defs_tail : (ds : List Def) (k : ℕ) (rest : List Token) → Tail (each_tokens def_tokens (drop k ds) rest) (each_tokens def_tokens ds rest)
defs_tail ds zero rest = tail_self (each_tokens def_tokens ds rest)
defs_tail [] (suc k) rest = tail_self rest
defs_tail (d ∷ ds) (suc k) rest = tail_more (def_tail d (each_tokens def_tokens ds rest)) (defs_tail ds k rest)

-- end a text
pub tree_tail : (t : Tree) (k : ℕ) → Tail (each_tokens def_tokens (drop k t.defs) (keyword keywords.Main ∷ braced_tokens t.main [])) (tree_tokens t)
tree_tail t k = tail_more (each_tail cown_tokens cown_tail t.cowns _) (defs_tail t.defs k _)

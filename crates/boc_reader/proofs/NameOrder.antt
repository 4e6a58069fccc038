-- The names of a tree in their order are the names among its tokens.
use Rattle.std.proofs.Common.{◌≡◌, ℕ, List, [], ◌∷◌, ◌++◌, map, Bool, true, false, Option, Some, None, refl, sym, ap, ◌∙◌, append_assoc}
use Rattle.boc_reader.specs.declared.terminal.Sign.{Sign}
use Rattle.boc_reader.specs.declared.terminal.Sign.TheVariants as signs
use Rattle.boc_reader.specs.declared.terminal.Keyword.{Keyword}
use Rattle.boc_reader.specs.declared.terminal.Keyword.TheVariants as keywords
use Rattle.boc_reader.specs.Tokens.{Token, keyword, name, number, sign}
use Rattle.boc_reader.specs.Shape.{Expr, plain, compared, Sum, one_term, more_terms, Term, one_factor, more_factors, Unary, negated, unsigned, Atom, literal}
use Rattle.boc_reader.specs.Shape.{variable, parens, NamedCown, alone, member, Stmt, declare, assign, work, if_only, if_else, repeat, when, Block, done, next}
use Rattle.boc_reader.specs.Shape.{Cown, Def, Tree, expr_tokens, sum_tokens, term_tokens, unary_tokens, atom_tokens, ref_tokens, stmt_tokens, block_tokens}
use Rattle.boc_reader.specs.Shape.{behind_commas, list_tokens, each_tokens, name_tokens, braced_tokens, size_tokens, minus_tokens, cown_tokens, def_tokens}
use Rattle.boc_reader.specs.Shape.{call_tokens, written_tokens, comparison_sign, sum_sign, term_sign, tree_tokens}
use Rattle.boc_reader.specs.Names.{Named, Top, Outside}
use Rattle.boc_reader.specs.NameUses.{Use, judged, expr_uses, sum_uses, term_uses, unary_uses, atom_uses, all_uses, ref_uses, call_uses, stmt_uses, block_uses}
use Rattle.boc_reader.specs.NameUses.{scope_behind, parameter_uses, body_uses, cown_uses, def_uses, tree_uses, first_declared, declared_cowns}
use Rattle.boc_reader.specs.NameUses.{variable_fault, new_fault}
use Rattle.boc_reader.specs.WrongNames.{names_of_tokens}
use Rattle.boc_reader.specs.declared.fault.NameFault.{NameFault}

-- the names of uses, before others
abbrev pub before : List Use → List Named → List Named
before [] rest = rest
before (u ∷ us) rest = u.name ∷ before us rest

before-append : (us vs : List Use) (rest : List Named) → before (us ++ vs) rest ≡ before us (before vs rest)
before-append [] vs rest = refl
before-append (u ∷ us) vs rest = ap (λ xs. u.name ∷ xs) (before-append us vs rest)

before_none : (us : List Use) → before us [] ≡ map (λ u. u.name) us
before_none [] = refl
before_none (u ∷ us) = ap (λ xs. u.name ∷ xs) (before_none us)

-- the names among the tokens of a phrase, whatever follows it, are these
record Follows (tokens : List Token → List Token) (us : List Use) : Type 0 where
  at : (rest : List Token) → names_of_tokens (tokens rest) ≡ before us (names_of_tokens rest)

none_follows : Follows (λ rest. rest) []
none_follows = record { at = λ rest. refl }

name_follows : (x : Named) (f : Option NameFault) → Follows (λ rest. name x ∷ rest) (judged x f ∷ [])
name_follows x f = record { at = λ rest. refl }

-- a phrase, and what follows it
both_follow : {f g : List Token → List Token} {us vs : List Use} → Follows f us → Follows g vs → Follows (λ rest. f (g rest)) (us ++ vs)
both_follow {f} {g} {us} {vs} a b =
    record { at = λ rest. a.at (g rest) ∙ ap (before us) (b.at rest) ∙ sym (before-append us vs (names_of_tokens rest)) }

-- signs and keywords, which are no names
behind_sign : {g : List Token → List Token} {us : List Use} (s : Sign) → Follows g us → Follows (λ rest. sign s ∷ g rest) us
behind_sign s a = record { at = a.at }

before_sign : {g : List Token → List Token} {us : List Use} (s : Sign) → Follows g us → Follows (λ rest. g (sign s ∷ rest)) us
before_sign s a = record { at = λ rest. a.at (sign s ∷ rest) }

behind_keyword : {g : List Token → List Token} {us : List Use} (k : Keyword) → Follows g us → Follows (λ rest. keyword k ∷ g rest) us
behind_keyword k a = record { at = a.at }

mutual
  expr_order : (e : Expr) (scope : List Named) → Follows (expr_tokens e) (expr_uses e scope)
  expr_order (plain s) scope = sum_order s scope
  expr_order (compared s op t) scope = both_follow (sum_order s scope) (behind_sign (comparison_sign op) (sum_order t scope))

  sum_order : (s : Sum) (scope : List Named) → Follows (sum_tokens s) (sum_uses s scope)
  sum_order (one_term t) scope = term_order t scope
  sum_order (more_terms t op s) scope = both_follow (term_order t scope) (behind_sign (sum_sign op) (sum_order s scope))

  term_order : (t : Term) (scope : List Named) → Follows (term_tokens t) (term_uses t scope)
  term_order (one_factor u) scope = unary_order u scope
  term_order (more_factors u op t) scope = both_follow (unary_order u scope) (behind_sign (term_sign op) (term_order t scope))

  unary_order : (u : Unary) (scope : List Named) → Follows (unary_tokens u) (unary_uses u scope)
  unary_order (negated u) scope = behind_sign signs.Minus (unary_order u scope)
  unary_order (unsigned a) scope = atom_order a scope

  atom_order : (a : Atom) (scope : List Named) → Follows (atom_tokens a) (atom_uses a scope)
  atom_order (literal n) scope = record { at = λ rest. refl }
  atom_order (variable x) scope = name_follows x (variable_fault scope x)
  atom_order (parens e) scope = behind_sign signs.Open (before_sign signs.Close (expr_order e scope))

-- several of a kind
module _ {X : Type 0} (tokens : X → List Token → List Token) (uses : X → List Use) (one : (x : X) → Follows (tokens x) (uses x)) where
  commas_order : (xs : List X) → Follows (behind_commas tokens xs) (all_uses uses xs)
  commas_order [] = none_follows
  commas_order (x ∷ xs) = behind_sign signs.Comma (both_follow (one x) (commas_order xs))

  list_order : (xs : List X) → Follows (list_tokens tokens xs) (all_uses uses xs)
  list_order [] = none_follows
  list_order (x ∷ xs) = both_follow (one x) (commas_order xs)

ref_order : (outside : Outside) (scope : List Named) (r : NamedCown) → Follows (ref_tokens r) (ref_uses outside scope r)
ref_order outside scope (alone x) = name_follows x _
ref_order outside scope (member x e) = both_follow (name_follows x _) (behind_sign signs.OpenIndex (before_sign signs.CloseIndex (expr_order e scope)))

-- what comes after a name that is written to
written_order : (e : Expr) (scope : List Named) → Follows (written_tokens e) (expr_uses e scope)
written_order e scope = behind_sign signs.Assign (before_sign signs.Semicolon (expr_order e scope))

call_order : (outside : Outside) (scope : List Named) (f : Named) (es : List Expr) (rs : List NamedCown)
    → Follows (call_tokens f es rs) (call_uses outside scope f es rs)
call_order outside scope f es rs =
    both_follow (name_follows f _) (behind_sign signs.Open (both_follow (list_order expr_tokens (λ e. expr_uses e scope) (λ e. expr_order e scope) es)
    (behind_sign signs.Semicolon (before_sign signs.Semicolon (before_sign signs.Close
    (list_order ref_tokens (ref_uses outside scope) (ref_order outside scope) rs))))))

-- the braces round a block
braced : {g : List Token → List Token} {us : List Use} → Follows g us → Follows (λ rest. sign signs.OpenBlock ∷ g (sign signs.CloseBlock ∷ rest)) us
braced a = record { at = λ rest. a.at (sign signs.CloseBlock ∷ rest) }

mutual
  stmt_order : (s : Stmt) (outside : Outside) (scope : List Named) → Follows (stmt_tokens s) (stmt_uses s outside scope)
  stmt_order (declare x e) outside scope = behind_keyword keywords.Let (both_follow (name_follows x _) (written_order e scope))
  stmt_order (assign x e) outside scope = both_follow (name_follows x _) (written_order e scope)
  stmt_order (work e) outside scope = behind_keyword keywords.Work (before_sign signs.Semicolon (expr_order e scope))
  stmt_order (if_only e b) outside scope = behind_keyword keywords.If (both_follow (expr_order e scope) (braced (block_order b outside scope)))
  stmt_order (if_else e b c) outside scope =
      behind_keyword keywords.If (both_follow (expr_order e scope)
      (both_follow (braced (block_order b outside scope)) (behind_keyword keywords.Else (braced (block_order c outside scope)))))
  stmt_order (repeat e b) outside scope = behind_keyword keywords.Repeat (both_follow (expr_order e scope) (braced (block_order b outside scope)))
  stmt_order (when f es rs) outside scope = behind_keyword keywords.When (call_order outside scope f es rs)

  block_order : (b : Block) (outside : Outside) (scope : List Named) → Follows (block_tokens b) (block_uses b outside scope)
  block_order done outside scope = none_follows
  block_order (next s b) outside scope = both_follow (stmt_order s outside scope) (block_order b outside (scope_behind s scope))

-- names in a list, and what follows them
commas_names : (xs : List Named) (rest : List Token) → names_of_tokens (behind_commas name_tokens xs rest) ≡ xs ++ names_of_tokens rest
commas_names [] rest = refl
commas_names (x ∷ xs) rest = ap (λ ys. x ∷ ys) (commas_names xs rest)

list_names : (xs : List Named) (rest : List Token) → names_of_tokens (list_tokens name_tokens xs rest) ≡ xs ++ names_of_tokens rest
list_names [] rest = refl
list_names (x ∷ xs) rest = ap (λ ys. x ∷ ys) (commas_names xs rest)

parameter_order : (top : Top) (scope xs rest : List Named) → xs ++ rest ≡ before (parameter_uses top scope xs) rest
parameter_order top scope [] rest = refl
parameter_order top scope (x ∷ xs) rest = ap (λ ys. x ∷ ys) (parameter_order top (scope ++ x ∷ []) xs rest)

-- the parameters of a body, and its block
body_order : (top : Top) (params held : List Named) (block : Block) (rest : List Token)
    → params ++ (held ++ names_of_tokens (braced_tokens block rest)) ≡ before (body_uses top params held block) (names_of_tokens rest)
body_order top params held block rest =
    let outside : Outside = record { top = top; held = held } in
    let inner = names_of_tokens (braced_tokens block rest) in
    let us = parameter_uses top [] (params ++ held) in
    let vs = block_uses block outside (params ++ held) in
    sym (append_assoc params held inner) ∙ parameter_order top [] (params ++ held) inner
    ∙ ap (before us) ((braced (block_order block outside (params ++ held))).at rest) ∙ sym (before-append us vs (names_of_tokens rest))

def_order : (top : Top) (names : List Named) (d : Def)
    → Follows (def_tokens d) (judged d.name (new_fault names d.name) ∷ body_uses top d.params d.cowns d.block)
def_order top names d = record {
  at = λ rest. ap (λ xs. d.name ∷ xs)
      (list_names d.params (sign signs.Semicolon ∷ list_tokens name_tokens d.cowns (sign signs.Close ∷ braced_tokens d.block rest))
      ∙ ap (λ xs. d.params ++ xs) (list_names d.cowns (sign signs.Close ∷ braced_tokens d.block rest)) ∙ body_order top d.params d.cowns d.block rest);
}

defs_order : (top : Top) (names : List Named) (ds : List Def) → Follows (each_tokens def_tokens ds) (def_uses top names ds)
defs_order top names [] = none_follows
defs_order top names (d ∷ ds) = both_follow (def_order top names d) (defs_order top (names ++ d.name ∷ []) ds)

size_order : (size : Option ℕ) → Follows (size_tokens size) []
size_order None = none_follows
size_order (Some n) = record { at = λ rest. refl }

minus_order : (negative : Bool) → Follows (minus_tokens negative) []
minus_order false = none_follows
minus_order true = record { at = λ rest. refl }

cown_order : (f : Option NameFault) (c : Cown) → Follows (cown_tokens c) (judged c.name f ∷ [])
cown_order f c = record {
  at = λ rest. ap (λ xs. c.name ∷ xs)
      ((size_order c.size).at (sign signs.Assign ∷ minus_tokens c.negative (number c.value ∷ sign signs.Semicolon ∷ rest))
      ∙ (minus_order c.negative).at (number c.value ∷ sign signs.Semicolon ∷ rest));
}

cowns_order : (names : List Named) (cs : List Cown) → Follows (each_tokens cown_tokens cs) (cown_uses names (map (λ c. c.name) cs))
cowns_order names [] = none_follows
cowns_order names (c ∷ cs) = both_follow (cown_order (new_fault names c.name) c) (cowns_order (names ++ c.name ∷ []) cs)

main_order : (top : Top) (main : Block) → Follows (λ rest. keyword keywords.Main ∷ braced_tokens main rest) (body_uses top [] [] main)
main_order top main = record { at = body_order top [] [] main }

-- every name of a tree
pub tree_order : (t : Tree) → map (λ u. u.name) (tree_uses t) ≡ names_of_tokens (tree_tokens t)
tree_order t =
    let top = first_declared t in
    sym ((both_follow (cowns_order [] t.cowns) (both_follow (defs_order top (declared_cowns t) t.defs) (main_order top t.main))).at []
    ∙ before_none (tree_uses t))

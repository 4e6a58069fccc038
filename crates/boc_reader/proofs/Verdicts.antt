-- The verdict on a part of a tree is the verdict on its names in their order.
use Rattle.std.proofs.Common.{◌≡◌, ℕ, ◌+◌, List, [], ◌∷◌, ◌++◌, Option, Some, None, Result, Ok, Err, refl, sym, ap, ◌∙◌, subst, length}
use Rattle.std.proofs.Common.{append_assoc, append-nil}
use Rattle.std.specs.Result.{IsErrAnd}
use Rattle.boc_reader.specs.Shape.{Expr, plain, compared, Sum, one_term, more_terms, Term, one_factor, more_factors, Unary, negated, unsigned, Atom, literal}
use Rattle.boc_reader.specs.Shape.{variable, parens, NamedCown, alone, member, Stmt, declare, assign, work, if_only, if_else, repeat, when, Block, done, next}
use Rattle.boc_reader.specs.Shape.{Def, Tree}
use Rattle.boc_reader.specs.Names.{Named, Top, Outside, slot_of, global, callee}
use Rattle.boc_reader.specs.NameUses.{Use, judged, expr_uses, sum_uses, term_uses, unary_uses, atom_uses, all_uses, ref_uses, call_uses, stmt_uses, block_uses}
use Rattle.boc_reader.specs.NameUses.{scope_behind, parameter_uses, body_uses, cown_uses, def_uses, tree_uses, first_declared, declared_cowns}
use Rattle.boc_reader.specs.NameUses.{variable_fault, alone_fault, member_fault, callee_fault, free_fault, new_fault}
use Rattle.boc_reader.specs.WrongNames.{Verdict, right, wrong, one_verdict, verdict}
use Rattle.boc_reader.specs.Judging.{Judges, if_right, name_verdict, expr_verdict, sum_verdict, term_verdict, unary_verdict, atom_verdict, all_verdict}
use Rattle.boc_reader.specs.Judging.{ref_verdict, call_verdict, stmt_verdict, block_verdict, parameters_verdict, body_verdict}
use Rattle.boc_reader.specs.Judging.{cowns_verdict, defs_verdict, tree_verdict}
use Rattle.boc_reader.specs.declared.fault.Fault.{Fault}
use Rattle.boc_reader.specs.declared.fault.Fault.TheVariants.{Memory, At}
use Rattle.boc_reader.specs.declared.fault.NameFault.{NameFault}

within : (f : Option NameFault) (n : ℕ) (v : Verdict) (behind : ℕ → Verdict)
    → one_verdict f n (if_right v behind) ≡ if_right (one_verdict f n v) behind
within None n v behind = refl
within (Some fault) n v behind = refl

-- names after others
pub verdict-append : (n : ℕ) (us vs : List Use) → verdict n (us ++ vs) ≡ if_right (verdict n us) (λ m. verdict m vs)
verdict-append n [] vs = refl
verdict-append n (u ∷ us) vs =
    ap (one_verdict u.fault n) (verdict-append (n + 1) us vs) ∙ within u.fault n (verdict (n + 1) us) (λ m. verdict m vs)

same_behind : (v : Verdict) (f g : ℕ → Verdict) → ((n : ℕ) → f n ≡ g n) → if_right v f ≡ if_right v g
same_behind (right n) f g h = h n
same_behind (wrong fault n) f g h = refl

-- what is said of a part, with n names before it, is the verdict on these names of it
record Said (said : ℕ → Verdict) (us : List Use) : Type 0 where
  on : (n : ℕ) → said n ≡ verdict n us

none_said : Said (λ n. right n) []
none_said = record { on = λ n. refl }

-- a part, and what follows it
both_said : {f g : ℕ → Verdict} {us vs : List Use} → Said f us → Said g vs → Said (λ n. if_right (f n) g) (us ++ vs)
both_said {f} {g} {us} {vs} a b =
    record { on = λ n. ap (λ x. if_right x g) (a.on n) ∙ same_behind (verdict n us) g (λ m. verdict m vs) b.on ∙ sym (verdict-append n us vs) }

-- a name
name_said : (x : Named) (f : Option NameFault) → Said (name_verdict f) (judged x f ∷ [])
name_said x None = record { on = λ n. refl }
name_said x (Some fault) = record { on = λ n. refl }

mutual
  expr_said : (e : Expr) (scope : List Named) → Said (expr_verdict e scope) (expr_uses e scope)
  expr_said (plain s) scope = sum_said s scope
  expr_said (compared s op t) scope = both_said (sum_said s scope) (sum_said t scope)

  sum_said : (s : Sum) (scope : List Named) → Said (sum_verdict s scope) (sum_uses s scope)
  sum_said (one_term t) scope = term_said t scope
  sum_said (more_terms t op s) scope = both_said (term_said t scope) (sum_said s scope)

  term_said : (t : Term) (scope : List Named) → Said (term_verdict t scope) (term_uses t scope)
  term_said (one_factor u) scope = unary_said u scope
  term_said (more_factors u op t) scope = both_said (unary_said u scope) (term_said t scope)

  unary_said : (u : Unary) (scope : List Named) → Said (unary_verdict u scope) (unary_uses u scope)
  unary_said (negated u) scope = unary_said u scope
  unary_said (unsigned a) scope = atom_said a scope

  atom_said : (a : Atom) (scope : List Named) → Said (atom_verdict a scope) (atom_uses a scope)
  atom_said (literal v) scope = none_said
  atom_said (variable x) scope = name_said x (variable_fault scope x)
  atom_said (parens e) scope = expr_said e scope

all_said : {X : Type 0} (said : X → ℕ → Verdict) (uses : X → List Use) → ((x : X) → Said (said x) (uses x)) → (xs : List X)
    → Said (all_verdict said xs) (all_uses uses xs)
all_said said uses h [] = none_said
all_said said uses h (x ∷ xs) = both_said (h x) (all_said said uses h xs)

ref_said : (outside : Outside) (scope : List Named) (r : NamedCown) → Said (ref_verdict outside scope r) (ref_uses outside scope r)
ref_said outside scope (alone x) = name_said x (alone_fault (slot_of outside.held x) (global outside.top x))
ref_said outside scope (member x e) = both_said (name_said x (member_fault (slot_of outside.held x) (global outside.top x))) (expr_said e scope)

call_said : (outside : Outside) (scope : List Named) (f : Named) (es : List Expr) (rs : List NamedCown)
    → Said (call_verdict outside scope f es rs) (call_uses outside scope f es rs)
call_said outside scope f es rs =
    both_said (name_said f (callee_fault (callee outside.top f) (length es) (length rs)))
    (both_said (all_said (λ e. expr_verdict e scope) (λ e. expr_uses e scope) (λ e. expr_said e scope) es)
    (all_said (ref_verdict outside scope) (ref_uses outside scope) (ref_said outside scope) rs))

-- three parts
regrouped : {f : ℕ → Verdict} (us vs ws : List Use) → Said f ((us ++ vs) ++ ws) → Said f (us ++ (vs ++ ws))
regrouped {f} us vs ws a = subst (Said f) (append_assoc us vs ws) a

mutual
  stmt_said : (s : Stmt) (outside : Outside) (scope : List Named) → Said (stmt_verdict s outside scope) (stmt_uses s outside scope)
  stmt_said (declare x e) outside scope = both_said (name_said x (free_fault outside.top scope x)) (expr_said e scope)
  stmt_said (assign x e) outside scope = both_said (name_said x (variable_fault scope x)) (expr_said e scope)
  stmt_said (work e) outside scope = expr_said e scope
  stmt_said (if_only e b) outside scope = both_said (expr_said e scope) (block_said b outside scope)
  stmt_said (if_else e b c) outside scope =
      regrouped (expr_uses e scope) (block_uses b outside scope) (block_uses c outside scope)
      (both_said (both_said (expr_said e scope) (block_said b outside scope)) (block_said c outside scope))
  stmt_said (repeat e b) outside scope = both_said (expr_said e scope) (block_said b outside scope)
  stmt_said (when f es rs) outside scope = call_said outside scope f es rs

  block_said : (b : Block) (outside : Outside) (scope : List Named) → Said (block_verdict b outside scope) (block_uses b outside scope)
  block_said done outside scope = none_said
  block_said (next s b) outside scope = both_said (stmt_said s outside scope) (block_said b outside (scope_behind s scope))

parameters_said : (top : Top) (scope xs : List Named) → Said (parameters_verdict top scope xs) (parameter_uses top scope xs)
parameters_said top scope [] = none_said
parameters_said top scope (x ∷ xs) = both_said (name_said x (free_fault top scope x)) (parameters_said top (scope ++ x ∷ []) xs)

parameter_uses-append : (top : Top) (scope xs ys : List Named)
    → parameter_uses top scope (xs ++ ys) ≡ parameter_uses top scope xs ++ parameter_uses top (scope ++ xs) ys
parameter_uses-append top scope [] ys = ap (λ s. parameter_uses top s ys) (sym (append-nil scope))
parameter_uses-append top scope (x ∷ xs) ys =
    ap (λ us. judged x (free_fault top scope x) ∷ us) (parameter_uses-append top (scope ++ x ∷ []) xs ys
    ∙ ap (λ s. parameter_uses top (scope ++ x ∷ []) xs ++ parameter_uses top s ys) (append_assoc scope (x ∷ []) xs))

body_said : (top : Top) (params held : List Named) (block : Block) → Said (body_verdict top params held block) (body_uses top params held block)
body_said top params held block =
    let outside : Outside = record { top = top; held = held } in
    let us = parameter_uses top [] params in
    let vs = parameter_uses top params held in
    let ws = block_uses block outside (params ++ held) in
    let parts = both_said (parameters_said top [] params) (both_said (parameters_said top params held) (block_said block outside (params ++ held))) in
    subst (Said (body_verdict top params held block))
    (sym (append_assoc us vs ws) ∙ ap (λ (ps : List Use). ps ++ ws) (sym (parameter_uses-append top [] params held))) parts

cowns_said : (before xs : List Named) → Said (cowns_verdict before xs) (cown_uses before xs)
cowns_said before [] = none_said
cowns_said before (x ∷ xs) = both_said (name_said x (new_fault before x)) (cowns_said (before ++ x ∷ []) xs)

defs_said : (top : Top) (before : List Named) (ds : List Def) → Said (defs_verdict top before ds) (def_uses top before ds)
defs_said top before [] = none_said
defs_said top before (d ∷ ds) =
    both_said (name_said d.name (new_fault before d.name)) (both_said (body_said top d.params d.cowns d.block) (defs_said top (before ++ d.name ∷ []) ds))

-- the names of a tree
pub tree_said : (t : Tree) → tree_verdict t ≡ verdict 0 (tree_uses t)
tree_said t =
    (both_said (cowns_said [] (declared_cowns t))
    (both_said (defs_said (first_declared t) (declared_cowns t) t.defs) (body_said (first_declared t) [] [] t.main))).on 0

-- a fault in a part is passed on: it is one of the whole
pub judged_on : (r : Result ℕ (Fault NameFault)) (fault : Fault NameFault) (part whole : Verdict) → IsErrAnd r (λ f. f ≡ fault) → Judges (Err fault) part
    → ((kind : NameFault) (n : ℕ) → part ≡ wrong kind n → whole ≡ wrong kind n) → Judges r whole
judged_on (Ok n) fault part whole is h f = absurd is
judged_on (Err e) fault part whole is h f = subst (λ (z : Fault NameFault). Judges (Err z) whole) (sym is) (told fault h)
  where
    told : (d : Fault NameFault) → Judges (Err d) part → Judges (Err d) whole
    told Memory k = tt
    told (At kind n) k = f kind n k

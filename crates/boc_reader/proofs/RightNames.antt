-- All names of a tree are right exactly where they resolve.
use Rattle.std.proofs.Common.{◌≡◌, ℕ, ◌+◌, suc, Bool, true, false, List, [], ◌∷◌, ◌++◌, map, length, Option, Some, None, refl, sym, ap, ◌∙◌}
use Rattle.std.proofs.Common.{cond, arith}
use Rattle.std.specs.Prelude.{not, ◌&&◌, ◌||◌, if◌then◌else◌, is_some, nat_eq, nat_lt, position, slice_get}
use Rattle.std.specs.List.{list_any, position_or_len}
use Rattle.std.proofs.lemmas.Bool.Decides.{nat_tests}
use Rattle.std.specs.Option.{option_map, option_and_then}
use Rattle.std.specs.Str.{bytes_eq}
use Rattle.boc_program.specs.Syntax.{CownRef, Single, Member, SlotExpr, Slot, Negate, Binary, Done}
use Rattle.boc_reader.specs.Shape.{Expr, plain, compared, Sum, one_term, more_terms, Term, one_factor, more_factors, Unary, negated, unsigned, Atom, literal}
use Rattle.boc_reader.specs.Shape.{variable, parens, NamedCown, alone, member, Stmt, declare, assign, work, if_only, if_else, repeat, when, Block, done, next}
use Rattle.boc_reader.specs.Shape.{Cown, Def, Tree}
use Rattle.boc_reader.specs.Names.{Named, Left, Global, Callee, Top, Outside, PlainProgram, ResolvedStmt, Set, Choose, Loop, Spawn, then_code, among}
use Rattle.boc_reader.specs.Names.{slot_of, global, callee, kind_of}
use Rattle.boc_reader.specs.Names.{globals, is_free, are_free, joined, adds, multiplies, compares, expr_names, sum_names, term_names, unary_names, atom_names}
use Rattle.boc_reader.specs.Names.{all_names, ref_names, held_or_single, member_of, takes, call_names, stmt_names, block_names, body_names, tree_names}
use Rattle.boc_reader.specs.Resolving.{cowns_behind, def_names, bodies_behind}
use Rattle.boc_reader.specs.NameUses.{variable_fault, alone_fault, member_fault, callee_fault, scope_behind, first_declared, declared_cowns}
use Rattle.boc_reader.specs.NameUses.{tree_uses}
use Rattle.boc_reader.specs.WrongNames.{Verdict, right, wrong, verdict}
use Rattle.boc_reader.specs.Judging.{if_right, name_verdict, expr_verdict, sum_verdict, term_verdict, unary_verdict, atom_verdict, all_verdict, exprs_verdict}
use Rattle.boc_reader.specs.Judging.{ref_verdict, refs_verdict, call_verdict, stmt_verdict, block_verdict, parameters_verdict, body_verdict, cowns_verdict}
use Rattle.boc_reader.specs.Judging.{defs_verdict, bodies_verdict, tree_verdict}
use Rattle.boc_reader.specs.declared.fault.NameFault.{NameFault}
use Rattle.boc_reader.specs.declared.fault.NameFault.TheVariants.{WrongCount, NameTaken}
use Rattle.boc_reader.proofs.ResolvingLists.{find-position}
use Rattle.boc_reader.proofs.ResolvingParameters.{are_free-append, and_assoc}
use Rattle.boc_reader.proofs.ResolvingKeeps.{then_made, map_made, test_made}
use Rattle.boc_reader.proofs.ResolvingOrder.{are_new, at_cowns, cown_names-globals, cowns_behind-all, cowns_new, no_cowns, plain_of, tree_names-in_order}
use Rattle.boc_reader.proofs.ResolvingOrder.{whole_at}
use Rattle.boc_reader.proofs.Verdicts.{tree_said}

abbrev pub is_right : Verdict → Bool
is_right (right n) = true
is_right (wrong fault n) = false

-- a part is right where it resolves, and so is what follows
agree_on : {X Y : Type 0} (v : Verdict) (f : ℕ → Verdict) (o : Option X) (g : X → Option Y) → is_right v ≡ is_some o
    → ((n : ℕ) (x : X) → o ≡ Some x → is_right (f n) ≡ is_some (g x)) → is_right (if_right v f) ≡ is_some (option_and_then g o)
agree_on (right n) f (Some x) g e h = h n x refl
agree_on (right n) f None g e h = absurd cc
agree_on (wrong fault n) f (Some x) g e h = absurd cc
agree_on (wrong fault n) f None g e h = refl

some_map : {X Y : Type 0} (f : X → Y) (o : Option X) → is_some o ≡ is_some (option_map f o)
some_map f None = refl
some_map f (Some x) = refl

-- a part that is right where it resolves, and what follows alike, of which something is made
agree_both : {X Y Z : Type 0} (v : Verdict) (f : ℕ → Verdict) (o : Option X) (p : X → Option Y) (made : X → Y → Z) → is_right v ≡ is_some o
    → ((n : ℕ) (x : X) → o ≡ Some x → is_right (f n) ≡ is_some (p x)) → is_right (if_right v f) ≡ is_some (option_and_then (λ x. option_map (made x) (p x)) o)
agree_both v f o p made e h = agree_on v f o (λ x. option_map (made x) (p x)) e (λ n x is. h n x is ∙ some_map (made x) (p x))

-- a name that is right where a test holds
name_agrees : (b : Bool) (fault : NameFault) (n : ℕ) → is_right (name_verdict (if b then None else Some fault) n) ≡ b
name_agrees true fault n = refl
name_agrees false fault n = refl

-- and what follows it
behind_name : (b c : Bool) (fault : NameFault) (n : ℕ) (f : ℕ → Verdict) → ((m : ℕ) → is_right (f m) ≡ c)
    → is_right (if_right (name_verdict (if b then None else Some fault) n) f) ≡ (b && c)
behind_name true c fault n f h = h (n + 1)
behind_name false c fault n f h = refl

behind_new : (b c : Bool) (fault : NameFault) (n : ℕ) (f : ℕ → Verdict) → ((m : ℕ) → is_right (f m) ≡ c)
    → is_right (if_right (name_verdict (if b then Some fault else None) n) f) ≡ (not b && c)
behind_new true c fault n f h = refl
behind_new false c fault n f h = h (n + 1)

some_cond : {X : Type 0} (b : Bool) (x : X) → is_some (cond b (Some x) None) ≡ b
some_cond true x = refl
some_cond false x = refl

-- a place is found where a test of one passes
some_position : {X : Type 0} (p : X → Bool) (xs : List X) → is_some (position p xs) ≡ list_any p xs
some_position p xs = some_cond (nat_lt (position_or_len p xs) (length xs)) (position_or_len p xs) ∙ within xs
  where
    below : (b : Bool) (k n : ℕ) (a : Bool) → nat_lt k n ≡ a → nat_lt (cond (not b) (1 + k) 0) (suc n) ≡ (b || a)
    below true k n a e = grind (arith, nat_tests)
    below false k n a e = grind (arith, nat_tests)

    within : (ys : List _) → nat_lt (position_or_len p ys) (length ys) ≡ list_any p ys
    within [] = refl
    within (y ∷ ys) = below (p y) (position_or_len p ys) (length ys) (list_any p ys) (within ys)

variable_agrees : (scope : List Named) (x : Named) (n : ℕ) → is_right (name_verdict (variable_fault scope x) n) ≡ is_some (slot_of scope x)
variable_agrees scope x n = name_agrees (among scope x) _ n ∙ sym (some_position (λ y. bytes_eq y x) scope)

mutual
  expr_agrees : (e : Expr) (scope : List Named) (n : ℕ) → is_right (expr_verdict e scope n) ≡ is_some (expr_names e scope)
  expr_agrees (plain s) scope n = sum_agrees s scope None n
  expr_agrees (compared s op t) scope n =
      agree_both _ _ _ (λ a. sum_names t scope None) (λ a. Binary (compares op) a) (sum_agrees s scope None n) (λ m a is. sum_agrees t scope None m)

  sum_agrees : (s : Sum) (scope : List Named) (left : Left) (n : ℕ) → is_right (sum_verdict s scope n) ≡ is_some (sum_names s scope left)
  sum_agrees (one_term t) scope left n = term_agrees t scope None n ∙ some_map (joined left) (term_names t scope None)
  sum_agrees (more_terms t op s) scope left n =
      agree_on _ _ _ (λ e. sum_names s scope (Some (joined left e, adds op))) (term_agrees t scope None n)
      (λ m e is. sum_agrees s scope (Some (joined left e, adds op)) m)

  term_agrees : (t : Term) (scope : List Named) (left : Left) (n : ℕ) → is_right (term_verdict t scope n) ≡ is_some (term_names t scope left)
  term_agrees (one_factor u) scope left n = unary_agrees u scope n ∙ some_map (joined left) (unary_names u scope)
  term_agrees (more_factors u op t) scope left n =
      agree_on _ _ _ (λ e. term_names t scope (Some (joined left e, multiplies op))) (unary_agrees u scope n)
      (λ m e is. term_agrees t scope (Some (joined left e, multiplies op)) m)

  unary_agrees : (u : Unary) (scope : List Named) (n : ℕ) → is_right (unary_verdict u scope n) ≡ is_some (unary_names u scope)
  unary_agrees (negated u) scope n = unary_agrees u scope n ∙ some_map Negate (unary_names u scope)
  unary_agrees (unsigned a) scope n = atom_agrees a scope n

  atom_agrees : (a : Atom) (scope : List Named) (n : ℕ) → is_right (atom_verdict a scope n) ≡ is_some (atom_names a scope)
  atom_agrees (literal v) scope n = refl
  atom_agrees (variable x) scope n = variable_agrees scope x n ∙ some_map Slot (slot_of scope x)
  atom_agrees (parens e) scope n = expr_agrees e scope n

all_agree : {X Y : Type 0} (said : X → ℕ → Verdict) (names : X → Option Y) → ((x : X) (n : ℕ) → is_right (said x n) ≡ is_some (names x)) → (xs : List X)
    (n : ℕ) → is_right (all_verdict said xs n) ≡ is_some (all_names names xs)
all_agree said names h [] n = refl
all_agree said names h (x ∷ xs) n = agree_both _ _ _ (λ y. all_names names xs) (λ y ys. y ∷ ys) (h x n) (λ m y is. all_agree said names h xs m)

alone_agrees : (p : Option ℕ) (g : Option Global) (n : ℕ) → is_right (name_verdict (alone_fault p g) n) ≡ is_some (held_or_single p g)
alone_agrees (Some i) g n = refl
alone_agrees None None n = refl
alone_agrees None (Some g) n = either (is_some g.size) (Single g.first)
  where
    either : (b : Bool) (r : CownRef)
        → is_right (name_verdict (if b then Some WrongCount else None) n) ≡ is_some (let o : Option CownRef = if b then None else Some r in o)
    either true r = refl
    either false r = refl

none_then : {X : Type 0} (Y : Type 0) (o : Option X) → false ≡ is_some (option_and_then (λ (x : X). let none : Option Y = None in none) o)
none_then Y None = refl
none_then Y (Some x) = refl

member_agrees : (p : Option ℕ) (g : Option Global) (f : ℕ → Verdict) (o : Option SlotExpr) (n : ℕ) → ((m : ℕ) → is_right (f m) ≡ is_some o)
    → is_right (if_right (name_verdict (member_fault p g) n) f) ≡ is_some (option_and_then (member_of g) o)
member_agrees None None f o n h = none_then CownRef o
member_agrees (Some i) None f o n h = none_then CownRef o
member_agrees p (Some g) f o n h = sized g.size
  where
    sized : (size : Option ℕ) → is_right (if_right (name_verdict (if is_some size then None else Some WrongCount) n) f)
        ≡ is_some (option_and_then (λ e. option_map (λ k. Member g.first k e) size) o)
    sized None = none_then CownRef o
    sized (Some k) = h (n + 1) ∙ some_map (λ e. Member g.first k e) o ∙ same o
      where
        same : (q : Option SlotExpr) → is_some (option_map (λ e. Member g.first k e) q) ≡ is_some (option_and_then (λ e. Some (Member g.first k e)) q)
        same None = refl
        same (Some e) = refl

ref_agrees : (outside : Outside) (scope : List Named) (r : NamedCown) (n : ℕ)
    → is_right (ref_verdict outside scope r n) ≡ is_some (ref_names outside scope r)
ref_agrees outside scope (alone x) n = alone_agrees (slot_of outside.held x) (global outside.top x) n
ref_agrees outside scope (member x e) n =
    member_agrees (slot_of outside.held x) (global outside.top x) (expr_verdict e scope) (expr_names e scope) n (expr_agrees e scope)

-- a def that was found has a kind
known_kind : (top : Top) (f : Named) (d : Callee) → callee top f ≡ Some d → (k : ℕ) × (kind_of top f ≡ Some k)
known_kind top f d is =
    at (position (λ c. bytes_eq c.name f) top.defs) (sym (find-position (λ c. bytes_eq c.name f) top.defs) ∙ is)
  where
    at : (o : Option ℕ) → option_and_then (slice_get top.defs) o ≡ Some d → (k : ℕ) × (option_map suc o ≡ Some k)
    at None e = absurd cc
    at (Some i) e = (suc i, refl)

module _ (outside : Outside) (scope : List Named) (f : Named) (es : List Expr) (rs : List NamedCown) where
  abbrev made : ℕ → Option ResolvedStmt
  made kind =
      option_and_then (λ args. option_map (Spawn kind args) (all_names (ref_names outside scope) rs)) (all_names (λ e. expr_names e scope) es)

  -- the arguments and the references of a `when`
  given_agree : (kind n : ℕ) → is_right (if_right (exprs_verdict scope es n) (refs_verdict outside scope rs)) ≡ is_some (made kind)
  given_agree kind n =
      agree_both _ _ _ (λ args. all_names (ref_names outside scope) rs) (λ args refs. Spawn kind args refs)
      (all_agree (λ e. expr_verdict e scope) (λ e. expr_names e scope) (λ e. expr_agrees e scope) es n)
      (λ m args is. all_agree (ref_verdict outside scope) (ref_names outside scope) (ref_agrees outside scope) rs m)

  call_agrees : (n : ℕ) → is_right (call_verdict outside scope f es rs n) ≡ is_some (call_names outside scope f es rs)
  call_agrees n = found (callee outside.top f) refl
    where
      tested : (b : Bool) (kind : ℕ) → is_right (if_right (name_verdict (if b then None else Some WrongCount) n)
          (λ m. if_right (exprs_verdict scope es m) (refs_verdict outside scope rs))) ≡ is_some (if b then made kind else None)
      tested true kind = given_agree kind (n + 1)
      tested false kind = refl

      found : (o : Option Callee) → callee outside.top f ≡ o
          → is_right (if_right (name_verdict (callee_fault o (length es) (length rs)) n)
          (λ m. if_right (exprs_verdict scope es m) (refs_verdict outside scope rs)))
          ≡ is_some (if takes o (length es) (length rs) then option_and_then made (kind_of outside.top f) else None)
      found None is = refl
      found (Some d) is =
          let known = known_kind outside.top f d is in
          tested (nat_eq d.args (length es) && nat_eq d.cowns (length rs)) known.0
          ∙ ap (λ k. is_some (if nat_eq d.args (length es) && nat_eq d.cowns (length rs) then option_and_then made k else None)) (sym known.1)

-- what is kept where a test holds
some_if : {X Y : Type 0} (b : Bool) (f : X → Y) (o : Option X) → (b && is_some o) ≡ is_some (let p : Option Y = if b then option_map f o else None in p)
some_if true f o = some_map f o
some_if false f o = refl

some_if_not : {X : Type 0} (b : Bool) (o : Option X) → (not b && is_some o) ≡ is_some (if b then None else o)
some_if_not true o = refl
some_if_not false o = refl

both_right : (v : Verdict) (f : ℕ → Verdict) (b c : Bool) → is_right v ≡ b → ((n : ℕ) → is_right (f n) ≡ c) → is_right (if_right v f) ≡ (b && c)
both_right (right n) f b c e h = h n ∙ ap (λ a. a && c) e
both_right (wrong fault n) f b c e h = ap (λ a. a && c) e

regroup : (v : Verdict) (f g : ℕ → Verdict) → if_right (if_right v f) g ≡ if_right v (λ n. if_right (f n) g)
regroup (right n) f g = refl
regroup (wrong fault n) f g = refl

-- the names in scope after a statement that resolves
scope_after : (s : Stmt) (outside : Outside) (scope : List Named) (y : ResolvedStmt × List Named) → stmt_names s outside scope ≡ Some y
    → scope_behind s scope ≡ y.1
scope_after (declare x e) outside scope y h =
    let t = test_made (is_free outside.top scope x) _ y h in ap (λ (z : ResolvedStmt × List Named). z.1) (map_made _ (expr_names e scope) y t.1).gives
scope_after (assign x e) outside scope y h =
    let i = then_made _ (slot_of scope x) y h in ap (λ (z : ResolvedStmt × List Named). z.1) (map_made _ (expr_names e scope) y i.gives).gives
scope_after (work e) outside scope y h = ap (λ (z : ResolvedStmt × List Named). z.1) (map_made _ (expr_names e scope) y h).gives
scope_after (if_only e b) outside scope y h =
    let v = then_made _ (expr_names e scope) y h in ap (λ (z : ResolvedStmt × List Named). z.1) (map_made _ (block_names b outside scope) y v.gives).gives
scope_after (if_else e b c) outside scope y h =
    let v = then_made _ (expr_names e scope) y h in
    let p = then_made _ (block_names b outside scope) y v.gives in
    ap (λ (z : ResolvedStmt × List Named). z.1) (map_made _ (block_names c outside scope) y p.gives).gives
scope_after (repeat e b) outside scope y h =
    let v = then_made _ (expr_names e scope) y h in ap (λ (z : ResolvedStmt × List Named). z.1) (map_made _ (block_names b outside scope) y v.gives).gives
scope_after (when f es rs) outside scope y h = ap (λ (z : ResolvedStmt × List Named). z.1) (map_made _ (call_names outside scope f es rs) y h).gives

mutual
  stmt_agrees : (s : Stmt) (outside : Outside) (scope : List Named) (n : ℕ) → is_right (stmt_verdict s outside scope n) ≡ is_some (stmt_names s outside scope)
  stmt_agrees (declare x e) outside scope n =
      behind_name (is_free outside.top scope x) (is_some (expr_names e scope)) NameTaken n (expr_verdict e scope) (expr_agrees e scope)
      ∙ some_if (is_free outside.top scope x) _ (expr_names e scope)
  stmt_agrees (assign x e) outside scope n =
      agree_both _ _ _ (λ slot. expr_names e scope) (λ slot v. (Set slot v, scope)) (variable_agrees scope x n) (λ m slot is. expr_agrees e scope m)
  stmt_agrees (work e) outside scope n = expr_agrees e scope n ∙ some_map _ (expr_names e scope)
  stmt_agrees (if_only e b) outside scope n =
      agree_both _ _ _ (λ v. block_names b outside scope) (λ v a. (Choose v a Done, scope)) (expr_agrees e scope n) (λ m v is. block_agrees b outside scope m)
  stmt_agrees (if_else e b c) outside scope n =
      ap is_right (regroup (expr_verdict e scope n) (block_verdict b outside scope) (block_verdict c outside scope))
      ∙ agree_on _ _ _ (λ v. option_and_then (λ a. option_map (λ o. (Choose v a o, scope)) (block_names c outside scope)) (block_names b outside scope))
      (expr_agrees e scope n)
      (λ m v is. agree_both _ _ _ (λ a. block_names c outside scope) (λ a o. (Choose v a o, scope)) (block_agrees b outside scope m)
      (λ k a was. block_agrees c outside scope k))
  stmt_agrees (repeat e b) outside scope n =
      agree_both _ _ _ (λ v. block_names b outside scope) (λ v a. (Loop v a, scope)) (expr_agrees e scope n) (λ m v is. block_agrees b outside scope m)
  stmt_agrees (when f es rs) outside scope n = call_agrees outside scope f es rs n ∙ some_map _ (call_names outside scope f es rs)

  block_agrees : (b : Block) (outside : Outside) (scope : List Named) (n : ℕ)
      → is_right (block_verdict b outside scope n) ≡ is_some (block_names b outside scope)
  block_agrees done outside scope n = refl
  block_agrees (next s b) outside scope n =
      agree_both _ _ _ (λ x. block_names b outside x.1) (λ x. then_code x.0) (stmt_agrees s outside scope n)
      (λ m x is. block_agrees b outside (scope_behind s scope) m ∙ ap (λ names. is_some (block_names b outside names)) (scope_after s outside scope x is))

parameters_agree : (top : Top) (scope xs : List Named) (n : ℕ) → is_right (parameters_verdict top scope xs n) ≡ are_free top scope xs
parameters_agree top scope [] n = refl
parameters_agree top scope (x ∷ xs) n =
    behind_name (is_free top scope x) (are_free top (scope ++ x ∷ []) xs) NameTaken n _ (parameters_agree top (scope ++ x ∷ []) xs)

body_agrees : (top : Top) (params held : List Named) (block : Block) (n : ℕ)
    → is_right (body_verdict top params held block n) ≡ is_some (body_names top params held block)
body_agrees top params held block n =
    let outside : Outside = record { top = top; held = held } in
    let code = block_names block outside (params ++ held) in
    both_right _ _ _ _ (parameters_agree top [] params n)
    (λ m. both_right _ _ _ (is_some code) (parameters_agree top params held m) (block_agrees block outside (params ++ held)))
    ∙ and_assoc (are_free top [] params) (are_free top params held) (is_some code)
    ∙ ap (λ a. a && is_some code) (sym (are_free-append top [] params held))
    ∙ some_if (are_free top [] (params ++ held)) _ code

cowns_agree : (before xs : List Named) (n : ℕ) → is_right (cowns_verdict before xs n) ≡ are_new before xs
cowns_agree before [] n = refl
cowns_agree before (x ∷ xs) n = behind_new (among before x) (are_new (before ++ x ∷ []) xs) NameTaken n _ (cowns_agree (before ++ x ∷ []) xs)

defs_agree : (top : Top) (before : List Named) (ds : List Def) (n : ℕ) → is_right (defs_verdict top before ds n) ≡ is_some (bodies_behind top before ds)
defs_agree top before [] n = refl
defs_agree top before (d ∷ ds) n =
    let after = before ++ d.name ∷ [] in
    behind_new (among before d.name) _ NameTaken n _
    (λ m. agree_both _ _ _ (λ b. bodies_behind top after ds) (λ b bs. b ∷ bs) (body_agrees top d.params d.cowns d.block m)
    (λ k b is. defs_agree top after ds k))
    ∙ some_if_not (among before d.name) (option_and_then (λ b. option_map (λ bs. b ∷ bs) (bodies_behind top after ds)) (def_names top d))

bodies_agree : (t : Tree) (n : ℕ) → is_right (bodies_verdict t (first_declared t) n) ≡ is_some (whole_at t (first_declared t))
bodies_agree t n =
    let top = first_declared t in
    agree_both _ _ _ (λ defs. body_names top [] [] t.main) (λ defs main. plain_of t main defs)
    (defs_agree top (declared_cowns t) t.defs n ∙ ap (λ names. is_some (bodies_behind top names t.defs)) (sym (cown_names-globals 0 t.cowns)))
    (λ m defs is. body_agrees top [] [] t.main m)

tree_agrees : (t : Tree) → is_right (verdict 0 (tree_uses t)) ≡ is_some (tree_names t)
tree_agrees t = ap is_right (sym (tree_said t)) ∙ tested (cowns_new t) refl
  where
    tested : (b : Bool) → cowns_new t ≡ b → is_right (tree_verdict t) ≡ is_some (tree_names t)
    tested true h =
        both_right _ _ true _ (cowns_agree [] (declared_cowns t) 0 ∙ h) (bodies_agree t) ∙ ap is_some (sym (tree_names-in_order t ∙ at_cowns t h))
    tested false h =
        both_right _ _ false _ (cowns_agree [] (declared_cowns t) 0 ∙ h) (bodies_agree t) ∙ ap is_some (sym (tree_names-in_order t ∙ no_cowns t h))

-- cowns whose names aren't new are wrong
pub cowns_wrong : (cs : List Cown) (n : ℕ) → cowns_behind [] 0 cs ≡ None → cowns_verdict [] (map (λ c. c.name) cs) 0 ≡ right n → ⊥
cowns_wrong cs n none h =
    let new : are_new [] (map (λ c. c.name) cs) ≡ true = sym (cowns_agree [] (map (λ c. c.name) cs) 0) ∙ ap is_right h in
    let some = cowns_behind-all [] 0 cs ∙ ap (λ b. if b then Some (globals 0 cs) else None) new in
    cc (none, some)

-- where all is right, the names of a tree resolve
pub right_resolves : (t : Tree) (n : ℕ) → verdict 0 (tree_uses t) ≡ right n → (p : PlainProgram) × (tree_names t ≡ Some p)
right_resolves t n h = found (tree_names t) (sym (tree_agrees t) ∙ ap is_right h)
  where
    found : (o : Option PlainProgram) → is_some o ≡ true → (p : PlainProgram) × (o ≡ Some p)
    found None e = absurd cc
    found (Some p) e = (p, refl)

-- where one is wrong, they don't
pub wrong_resolves_not : (t : Tree) (fault : NameFault) (n : ℕ) → verdict 0 (tree_uses t) ≡ wrong fault n → tree_names t ≡ None
wrong_resolves_not t fault n h = found (tree_names t) (sym (tree_agrees t) ∙ ap is_right h)
  where
    found : (o : Option PlainProgram) → is_some o ≡ false → o ≡ None
    found None e = refl
    found (Some p) e = absurd cc

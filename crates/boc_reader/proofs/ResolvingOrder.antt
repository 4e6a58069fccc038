-- What is found in the order of the text is what the names of the tree give.
use Rattle.std.proofs.Common.{◌≡◌, ℕ, ◌+◌, ◌≤◌, Bool, true, false, List, [], ◌∷◌, ◌++◌, map, Option, Some, None, refl, sym, ap, ◌∙◌, subst, arith, append_assoc}
use Rattle.std.specs.Prelude.{not, ◌&&◌, ◌||◌, if◌then◌else◌}
use Rattle.std.specs.Option.{option_map, option_and_then}
use Rattle.std.specs.Str.{bytes_eq}
use Rattle.std.proofs.lemmas.List.{append-nil, map-append}
use Rattle.std.proofs.lemmas.List.Folds.{list_any-append}
use Rattle.std.proofs.lemmas.Slice.Eq.{bytes_eq-Decides}
use Rattle.std.proofs.lemmas.Bool.Decides.{same_from_decides, Decides-like}
use Rattle.boc_program.specs.Sizes.{members}
use Rattle.boc_reader.specs.Shape.{Cown, Def, Tree, cowns_declared}
use Rattle.boc_reader.specs.Names.{Named, Global, Callee, Top, PlainBody, PlainProgram, among, top_names, are_distinct, globals, callees, top_of, all_names}
use Rattle.boc_reader.specs.Names.{body_names, plain_cown, tree_names}
use Rattle.boc_reader.specs.Resolving.{EndWithin, cown_names, global_at, callee_for, cowns_behind, defs_behind, def_names, bodies_behind, program_in_order}
use Rattle.boc_reader.proofs.ResolvingParameters.{and_assoc}

-- names of which none is among those before it
abbrev pub are_new : List Named → List Named → Bool
are_new before [] = true
are_new before (x ∷ xs) = not (among before x) && are_new (before ++ x ∷ []) xs

bytes_eq-sym : (x y : Named) → bytes_eq x y ≡ bytes_eq y x
bytes_eq-sym x y = same_from_decides (bytes_eq x y) (bytes_eq y x) (bytes_eq-Decides x y)
    (Decides-like (bytes_eq y x) (λ e. sym e) (λ e. sym e) (bytes_eq-Decides y x))

-- none of several is among those before
abbrev pub are_apart : List Named → List Named → Bool
are_apart before [] = true
are_apart before (x ∷ xs) = not (among before x) && are_apart before xs

push_apart : (p q r a : Bool) → (not (p || (q || false)) && (a && not r)) ≡ ((not p && a) && not (q || r))
push_apart true q r a = refl
push_apart false true r true = refl
push_apart false true r false = refl
push_apart false false r true = refl
push_apart false false r false = refl

are_apart-push : (before : List Named) (x : Named) (xs : List Named) → are_apart (before ++ x ∷ []) xs ≡ (are_apart before xs && not (among xs x))
are_apart-push before x [] = refl
are_apart-push before x (y ∷ ys) =
    ap (λ b. not b && are_apart (before ++ x ∷ []) ys) (list_any-append (λ z. bytes_eq z y) before (x ∷ []))
    ∙ ap (λ b. not (among before y || (b || false)) && are_apart (before ++ x ∷ []) ys) (bytes_eq-sym x y)
    ∙ ap (λ b. not (among before y || (bytes_eq y x || false)) && b) (are_apart-push before x ys)
    ∙ push_apart (among before y) (bytes_eq y x) (among ys x) (are_apart before ys)

shuffle : (n a m d : Bool) → (n && ((a && m) && d)) ≡ ((n && a) && (m && d))
shuffle true true m d = refl
shuffle true false m d = refl
shuffle false a m d = refl

are_new-parts : (before xs : List Named) → are_new before xs ≡ (are_apart before xs && are_distinct xs)
are_new-parts before [] = refl
are_new-parts before (x ∷ xs) =
    ap (λ b. not (among before x) && b) (are_new-parts (before ++ x ∷ []) xs ∙ ap (λ b. b && are_distinct xs) (are_apart-push before x xs))
    ∙ shuffle (not (among before x)) (are_apart before xs) (not (among xs x)) (are_distinct xs)

apart_from_none : (xs : List Named) → are_apart [] xs ≡ true
apart_from_none [] = refl
apart_from_none (x ∷ xs) = apart_from_none xs

are_distinct-new : (xs : List Named) → are_distinct xs ≡ are_new [] xs
are_distinct-new xs = sym (are_new-parts [] xs ∙ ap (λ b. b && are_distinct xs) (apart_from_none xs))

are_new-append : (before xs ys : List Named) → are_new before (xs ++ ys) ≡ (are_new before xs && are_new (before ++ xs) ys)
are_new-append before [] ys = ap (λ s. are_new s ys) (sym (append-nil before))
are_new-append before (x ∷ xs) ys =
    ap (λ b. not (among before x) && b) (are_new-append (before ++ x ∷ []) xs ys
    ∙ ap (λ s. are_new (before ++ x ∷ []) xs && are_new s ys) (append_assoc before (x ∷ []) xs))
    ∙ and_assoc (not (among before x)) (are_new (before ++ x ∷ []) xs) (are_new (before ++ (x ∷ xs)) ys)

-- one test after another
if_both : {X : Type 0} (a b : Bool) (s : Option X) → (if a then None else (if b then s else None)) ≡ (if not a && b then s else None)
if_both true b s = refl
if_both false b s = refl

abbrev pub names_of_shapes : List Cown → List Named
names_of_shapes cs = map (λ c. c.name) cs

abbrev pub names_of_defs : List Def → List Named
names_of_defs ds = map (λ d. d.name) ds

pub cowns_behind-all : (before : List Global) (n : ℕ) (cs : List Cown)
    → cowns_behind before n cs ≡ (if are_new (cown_names before) (names_of_shapes cs) then Some (before ++ globals n cs) else None)
cowns_behind-all before n [] = ap Some (sym (append-nil before))
cowns_behind-all before n (c ∷ cs) =
    ap (λ o. if among (cown_names before) c.name then None else o)
    (cowns_behind-all (before ++ global_at n c ∷ []) (n + members c.size) cs
    ∙ ap (λ ns. if are_new ns (names_of_shapes cs) then Some ((before ++ global_at n c ∷ []) ++ globals (n + members c.size) cs) else None)
    (map-append (λ g. g.name) before (global_at n c ∷ []))
    ∙ ap (λ gs. if are_new (cown_names before ++ c.name ∷ []) (names_of_shapes cs) then Some gs else None)
    (append_assoc before (global_at n c ∷ []) (globals (n + members c.size) cs)))
    ∙ if_both (among (cown_names before) c.name) (are_new (cown_names before ++ c.name ∷ []) (names_of_shapes cs)) (Some (before ++ globals n (c ∷ cs)))

both_true : (a b : Bool) → (not a && b) ≡ true → (a ≡ false) × (b ≡ true)
both_true true b h = absurd cc
both_true false b h = (refl, h)

abbrev pub with_defs : List Global → List Callee → Top
with_defs gs ds = record { cowns = gs; defs = ds }

top_names-push : (gs : List Global) (before : List Callee) (d : Def)
    → top_names (with_defs gs (before ++ callee_for d ∷ [])) ≡ top_names (with_defs gs before) ++ d.name ∷ []
top_names-push gs before d =
    ap (λ ns. cown_names gs ++ ns) (map-append (λ (e : Callee). e.name) before (callee_for d ∷ []))
    ∙ sym (append_assoc (cown_names gs) (map (λ (e : Callee). e.name) before) (d.name ∷ []))

kept : {X : Type 0} (a : Bool) (x y : X) → a ≡ false → (if a then x else y) ≡ y
kept true x y h = absurd cc
kept false x y h = refl

defs_behind-all : (gs : List Global) (before : List Callee) (ds : List Def) → are_new (top_names (with_defs gs before)) (names_of_defs ds) ≡ true
    → defs_behind gs before ds ≡ before ++ callees ds
defs_behind-all gs before [] h = sym (append-nil before)
defs_behind-all gs before (d ∷ ds) h =
    let parts = both_true (among (top_names (with_defs gs before)) d.name) (are_new (top_names (with_defs gs before) ++ d.name ∷ []) (names_of_defs ds)) h in
    kept (among (top_names (with_defs gs before)) d.name) (defs_behind gs before ds) (defs_behind gs (before ++ callee_for d ∷ []) ds) parts.0
    ∙ defs_behind-all gs (before ++ callee_for d ∷ []) ds (ap (λ ns. are_new ns (names_of_defs ds)) (top_names-push gs before d) ∙ parts.1)
    ∙ append_assoc before (callee_for d ∷ []) (callees ds)

none_behind : {X Y : Type 0} (o : Option X) → option_and_then (λ (x : X). let n : Option Y = None in n) o ≡ None
none_behind None = refl
none_behind (Some x) = refl

body_behind : {X : Type 0} (a b : Bool) (o : Option X) (rest all : Option (List X)) → rest ≡ (if b then all else None)
    → (if a then None else option_and_then (λ x. option_map (λ xs. x ∷ xs) rest) o)
    ≡ (if not a && b then option_and_then (λ x. option_map (λ xs. x ∷ xs) all) o else None)
body_behind true b o rest all h = refl
body_behind false true o rest all h = ap (λ r. option_and_then (λ x. option_map (λ xs. x ∷ xs) r) o) h
body_behind false false o rest all h = ap (λ r. option_and_then (λ x. option_map (λ xs. x ∷ xs) r) o) h ∙ none_behind o

bodies_behind-all : (top : Top) (before : List Named) (ds : List Def)
    → bodies_behind top before ds ≡ (if are_new before (names_of_defs ds) then all_names (def_names top) ds else None)
bodies_behind-all top before [] = refl
bodies_behind-all top before (d ∷ ds) =
    body_behind (among before d.name) (are_new (before ++ d.name ∷ []) (names_of_defs ds)) (def_names top d) (bodies_behind top (before ++ d.name ∷ []) ds)
    (all_names (def_names top) ds) (bodies_behind-all top (before ++ d.name ∷ []) ds)

pub cown_names-globals : (n : ℕ) (cs : List Cown) → cown_names (globals n cs) ≡ names_of_shapes cs
cown_names-globals n [] = refl
cown_names-globals n (c ∷ cs) = ap (λ ns. c.name ∷ ns) (cown_names-globals (n + members c.size) cs)

callee_names : (ds : List Def) → map (λ (d : Callee). d.name) (callees ds) ≡ names_of_defs ds
callee_names [] = refl
callee_names (d ∷ ds) = ap (λ ns. d.name ∷ ns) (callee_names ds)

abbrev pub cowns_new : Tree → Bool
cowns_new t = are_new [] (names_of_shapes t.cowns)

abbrev pub defs_new : Tree → Bool
defs_new t = are_new (names_of_shapes t.cowns) (names_of_defs t.defs)

distinct_parts : (t : Tree) → are_distinct (top_names (top_of t)) ≡ (cowns_new t && defs_new t)
distinct_parts t =
    ap (λ ns. are_distinct (ns ++ map (λ (d : Callee). d.name) (callees t.defs))) (cown_names-globals 0 t.cowns)
    ∙ ap (λ ns. are_distinct (names_of_shapes t.cowns ++ ns)) (callee_names t.defs)
    ∙ are_distinct-new (names_of_shapes t.cowns ++ names_of_defs t.defs)
    ∙ are_new-append [] (names_of_shapes t.cowns) (names_of_defs t.defs)

pub globals_end : (most n : ℕ) (cs : List Cown) → n + cowns_declared cs ≤ most → EndWithin most (globals n cs)
globals_end most n [] h = tt
globals_end most n (c ∷ cs) h = (omega arith, globals_end most (n + members c.size) cs (omega arith))

-- the cowns of the whole text
pub cowns_behind_none : (cs : List Cown) (gs : List Global) → cowns_behind [] 0 cs ≡ Some gs → gs ≡ globals 0 cs
cowns_behind_none cs gs h = made (are_new [] (names_of_shapes cs)) (sym (cowns_behind-all [] 0 cs) ∙ h)
  where
    made : (b : Bool) → (let o : Option (List Global) = if b then Some (globals 0 cs) else None in o) ≡ Some gs → gs ≡ globals 0 cs
    made true e = cc
    made false e = absurd cc

pub cowns_end : (cs : List Cown) (gs : List Global) → cowns_declared cs ≤ 256 → cowns_behind [] 0 cs ≡ Some gs → EndWithin 256 gs
cowns_end cs gs few h = subst (EndWithin 256) (sym (cowns_behind_none cs gs h)) (globals_end 256 0 cs (omega arith))

swap : {M D P : Type 0} (p : M → D → P) (m : Option M) (d : Option D)
    → option_and_then (λ x. option_map (p x) d) m ≡ option_and_then (λ y. option_map (λ x. p x y) m) d
swap p None None = refl
swap p None (Some y) = refl
swap p (Some x) None = refl
swap p (Some x) (Some y) = refl

abbrev pub plain_of : Tree → PlainBody → List PlainBody → PlainProgram
plain_of t main defs = record { cowns = map plain_cown t.cowns; bodies = main ∷ defs }

abbrev pub whole_at : Tree → Top → Option PlainProgram
whole_at t top =
    option_and_then (λ defs. option_map (λ main. plain_of t main defs) (body_names top [] [] t.main)) (bodies_behind top (cown_names top.cowns) t.defs)

pub no_cowns : (t : Tree) → cowns_new t ≡ false → program_in_order t ≡ None
no_cowns t h =
    ap (λ o. option_and_then (whole_at t) (option_map (λ gs. with_defs gs (defs_behind gs [] t.defs)) o))
    (cowns_behind-all [] 0 t.cowns ∙ ap (λ b. if b then Some (globals 0 t.cowns) else None) h)

pub at_cowns : (t : Tree) → cowns_new t ≡ true → program_in_order t ≡ whole_at t (with_defs (globals 0 t.cowns) (defs_behind (globals 0 t.cowns) [] t.defs))
at_cowns t h =
    ap (λ o. option_and_then (whole_at t) (option_map (λ gs. with_defs gs (defs_behind gs [] t.defs)) o))
    (cowns_behind-all [] 0 t.cowns ∙ ap (λ b. if b then Some (globals 0 t.cowns) else None) h)

bodies_at : (t : Tree) (top : Top) (b : Bool) → top.cowns ≡ globals 0 t.cowns → defs_new t ≡ b
    → bodies_behind top (cown_names top.cowns) t.defs ≡ (if b then all_names (def_names top) t.defs else None)
bodies_at t top b same h =
    bodies_behind-all top (cown_names top.cowns) t.defs
    ∙ ap (λ c. if c then all_names (def_names top) t.defs else None)
    (ap (λ ns. are_new ns (names_of_defs t.defs)) (ap cown_names same ∙ cown_names-globals 0 t.cowns) ∙ h)

by_tests : (t : Tree) (a b : Bool) → cowns_new t ≡ a → defs_new t ≡ b → tree_names t ≡ program_in_order t
by_tests t false b h k =
    ap (λ c. if c then option_and_then (λ main. option_map (plain_of t main) (all_names (def_names (top_of t)) t.defs)) (body_names (top_of t) [] [] t.main)
    else None) (distinct_parts t ∙ ap (λ c. c && defs_new t) h)
    ∙ sym (no_cowns t h)
by_tests t true false h k =
    let top : Top = with_defs (globals 0 t.cowns) (defs_behind (globals 0 t.cowns) [] t.defs) in
    ap (λ c. if c then option_and_then (λ main. option_map (plain_of t main) (all_names (def_names (top_of t)) t.defs)) (body_names (top_of t) [] [] t.main)
    else None) (distinct_parts t ∙ ap (λ c. c && defs_new t) h ∙ k)
    ∙ sym (at_cowns t h ∙ ap (option_and_then (λ defs. option_map (λ main. plain_of t main defs) (body_names top [] [] t.main))) (bodies_at t top false refl k))
by_tests t true true h k =
    let same : defs_behind (globals 0 t.cowns) [] t.defs ≡ callees t.defs =
    defs_behind-all (globals 0 t.cowns) [] t.defs (ap (λ ns. are_new ns (names_of_defs t.defs))
    (append-nil (cown_names (globals 0 t.cowns)) ∙ cown_names-globals 0 t.cowns) ∙ k) in
    ap (λ c. if c then option_and_then (λ main. option_map (plain_of t main) (all_names (def_names (top_of t)) t.defs)) (body_names (top_of t) [] [] t.main)
    else None) (distinct_parts t ∙ ap (λ c. c && defs_new t) h ∙ k)
    ∙ swap (plain_of t) (body_names (top_of t) [] [] t.main) (all_names (def_names (top_of t)) t.defs)
    ∙ ap (option_and_then (λ defs. option_map (λ main. plain_of t main defs) (body_names (top_of t) [] [] t.main))) (sym (bodies_at t (top_of t) true refl k))
    ∙ ap (λ ds. whole_at t (with_defs (globals 0 t.cowns) ds)) (sym same)
    ∙ sym (at_cowns t h)

-- what is found in the order of the text is what the names of the tree give
pub tree_names-in_order : (t : Tree) → tree_names t ≡ program_in_order t
tree_names-in_order t = by_tests t (cowns_new t) (defs_new t) refl refl

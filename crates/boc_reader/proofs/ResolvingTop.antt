-- The look-ups at the top, wherever the names lie.
use Rattle.std.proofs.Common.{◌≡◌, ℕ, suc, List, Bor, length, get_or, Bool, true, false, map, Option, Some, refl, ap, sym, ◌∙◌}
use Rattle.std.specs.Prelude.{position, find, not, ◌||◌, slice_get}
use Rattle.std.specs.List.{list_any}
use Rattle.std.specs.Option.{option_map, option_and_then}
use Rattle.std.specs.Str.{bytes_eq}
use Rattle.std.proofs.lemmas.List.Folds.{list_any-append}
use Rattle.std.proofs.lemmas.List.Quantifiers.{position-Some}
use Rattle.std.proofs.lemmas.Option.{slice_get_read}
use Rattle.boc_reader.specs.Names.{Named, Top, among, top_names, is_free, global, callee, kind_of}
use Rattle.boc_reader.specs.declared.names.top.Global.{Global as Global'}
use Rattle.boc_reader.specs.declared.names.top.Callee.{Callee as Callee'}
use Rattle.boc_reader.specs.Resolving.{names_of, cown_names, global_of, callee_of}
use Rattle.boc_reader.proofs.ResolvingLists.{position-map, list_any-map, find-map, find-position}

abbrev pub seen : List Global' → List Callee' → Top
seen gs ds = record { cowns = map global_of gs; defs = map callee_of ds }

pub among_cowns : (gs : List Global') (x : Named) → among (cown_names (map global_of gs)) x ≡ list_any (λ g. bytes_eq g.name.now x) gs
among_cowns gs x =
    list_any-map (λ y. bytes_eq y x) (λ g. g.name) (map global_of gs) ∙ list_any-map (λ g. bytes_eq g.name x) global_of gs

pub among_top : (gs : List Global') (ds : List Callee') (x : Named)
    → among (top_names (seen gs ds)) x ≡ (list_any (λ g. bytes_eq g.name.now x) gs || list_any (λ d. bytes_eq d.name.now x) ds)
among_top gs ds x =
    list_any-append (λ y. bytes_eq y x) (map (λ g. g.name) (map global_of gs)) (map (λ d. d.name) (map callee_of ds))
    ∙ ap (λ b. b || list_any (λ y. bytes_eq y x) (map (λ d. d.name) (map callee_of ds))) (among_cowns gs x)
    ∙ ap (λ b. list_any (λ g. bytes_eq g.name.now x) gs || b)
    (list_any-map (λ y. bytes_eq y x) (λ d. d.name) (map callee_of ds) ∙ list_any-map (λ d. bytes_eq d.name x) callee_of ds)

-- a test by its two parts, of which the first may settle it
pub by_first : (a b r : Bool) → r ≡ a → r ≡ true → r ≡ (a || b)
by_first true b r h k = h
by_first false b r h k = absurd cc

pub by_second : (a b q r : Bool) → q ≡ a → q ≡ false → r ≡ b → r ≡ (a || b)
by_second true b q r h k e = absurd cc
by_second false b q r h k e = e

pub cown_at : (gs xs : List Global') (ds : List Callee') (x : Named) (r : Option Global') → xs ≡ gs → r ≡ find (λ g. bytes_eq g.name.now x) xs
    → option_map global_of r ≡ global (seen gs ds) x
cown_at gs xs ds x r same found =
    ap (option_map global_of) found ∙ ap (λ l. option_map global_of (find (λ g. bytes_eq g.name.now x) l)) same
    ∙ sym (find-map (λ g. bytes_eq g.name x) global_of gs)

pub kind_at : (gs : List Global') (ds ys : List Callee') (x : Named) (o : Option ℕ) → ys ≡ ds → o ≡ position (λ d. bytes_eq d.name.now x) ys
    → option_map suc o ≡ kind_of (seen gs ds) x
kind_at gs ds ys x o same found =
    ap (option_map suc) (found ∙ ap (position (λ d. bytes_eq d.name.now x)) same ∙ sym (position-map (λ d. bytes_eq d.name x) callee_of ds))

pub callee_at : (gs : List Global') (ds ys : List Callee') (x : Named) (o : Option ℕ) → ys ≡ ds → o ≡ position (λ d. bytes_eq d.name.now x) ys
    → option_map callee_of (option_and_then (slice_get ds) o) ≡ callee (seen gs ds) x
callee_at gs ds ys x o same found =
    ap (λ q. option_map callee_of (option_and_then (slice_get ds) q)) (found ∙ ap (position (λ d. bytes_eq d.name.now x)) same)
    ∙ ap (option_map callee_of) (sym (find-position (λ d. bytes_eq d.name.now x) ds))
    ∙ sym (find-map (λ d. bytes_eq d.name x) callee_of ds)

-- the element at the place that was found
pub found_there : {X : Type 0} (p : X → Bool) (xs ys : List X) (i : ℕ) (x : X) → ys ≡ xs → Some i ≡ position p ys → x ≡ get_or xs i x → slice_get xs i ≡ Some x
found_there p xs ys i x same found read =
    slice_get_read xs (length xs) i x refl (position-Some p xs i x (ap (position p) (sym same) ∙ sym found)).0 read

pub not_either : (a b q r : Bool) → q ≡ a → q ≡ false → r ≡ b → not r ≡ not (a || b)
not_either true b q r h k e = absurd cc
not_either false b q r h k e = ap not e

pub not_the_first : (a b q : Bool) → q ≡ a → q ≡ true → not q ≡ not (a || b)
not_the_first true b q h k = ap not k
not_the_first false b q h k = absurd cc

-- what is in scope, or declared at the top
pub is_free_at : (gs xs : List Global') (ds ys : List Callee') (scope : List (Bor Named)) (x : Named) (q r : Bool) → xs ≡ gs → ys ≡ ds
    → q ≡ among (top_names (seen xs ys)) x → q ≡ false → r ≡ list_any (λ n. bytes_eq n.now x) scope → not r ≡ is_free (seen gs ds) (names_of scope) x
is_free_at gs xs ds ys scope x q r same_cowns same_defs h hidden e =
    not_either _ _ q r (h ∙ ap (λ l. among (top_names (seen l ys)) x) same_cowns ∙ ap (λ l. among (top_names (seen gs l)) x) same_defs) hidden
    (e ∙ sym (list_any-map (λ y. bytes_eq y x) (λ n. n.now) scope))

pub is_declared_at : (gs xs : List Global') (ds ys : List Callee') (scope : List Named) (x : Named) (q : Bool) → xs ≡ gs → ys ≡ ds
    → q ≡ among (top_names (seen xs ys)) x → q ≡ true → not q ≡ is_free (seen gs ds) scope x
is_declared_at gs xs ds ys scope x q same_cowns same_defs h there =
    not_the_first _ _ q (h ∙ ap (λ l. among (top_names (seen l ys)) x) same_cowns ∙ ap (λ l. among (top_names (seen gs l)) x) same_defs) there

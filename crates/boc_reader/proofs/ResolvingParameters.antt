-- Parameters in the scope, and bodies that fit.
use Rattle.std.proofs.Common.{◌≡◌, ℕ, ◌≤◌, Bool, true, false, List, [], ◌∷◌, ◌++◌, Bor, map, length, Option, Some, None, Result, Ok, Err, refl, sym, ap, ◌∙◌}
use Rattle.std.proofs.Common.{subst, append_assoc}
use Rattle.std.specs.Prelude.{◌&&◌, if◌then◌else◌}
use Rattle.std.specs.Option.{option_and_then}
use Rattle.std.specs.Result.{IsErrAnd}
use Rattle.std.proofs.lemmas.List.{append-nil, length-map}
use Rattle.boc_program.specs.declared.program.Program.{Program}
use Rattle.boc_program.specs.Syntax.{Code}
use Rattle.boc_reader.specs.Shape.{Block, IsSmallBody}
use Rattle.boc_program.specs.Parts.{MakesBody}
use Rattle.boc_reader.specs.Names.{Named, Top, PlainProgram, is_free, are_free, block_names, deepest}
use Rattle.boc_reader.specs.declared.fault.Unresolved.{Unresolved}
use Rattle.boc_reader.specs.declared.fault.Unresolved.TheVariants.{Memory, WrongName}
use Rattle.boc_reader.specs.declared.shape.Spot.{Spot}
use Rattle.boc_reader.specs.Views.{name_of}
use Rattle.boc_reader.specs.Resolves.{Resolves}
use Rattle.boc_reader.specs.Resolving.{Yields, EndWithin, names_of, scope_with}
use Rattle.boc_reader.proofs.ResolvingKeeps.{test_made}
use Rattle.boc_reader.proofs.ResolvingBodies.{code_fits}

pub and_assoc : (a b c : Bool) → (a && (b && c)) ≡ ((a && b) && c)
and_assoc true b c = refl
and_assoc false b c = refl

pub are_free-append : (top : Top) (scope xs ys : List Named) → are_free top scope (xs ++ ys) ≡ (are_free top scope xs && are_free top (scope ++ xs) ys)
are_free-append top scope [] ys = ap (λ s. are_free top s ys) (sym (append-nil scope))
are_free-append top scope (x ∷ xs) ys =
    ap (λ b. is_free top scope x && b) (are_free-append top (scope ++ x ∷ []) xs ys
    ∙ ap (λ s. are_free top (scope ++ x ∷ []) xs && are_free top s ys) (append_assoc scope (x ∷ []) xs))
    ∙ and_assoc (is_free top scope x) (are_free top (scope ++ x ∷ []) xs) (are_free top (scope ++ (x ∷ xs)) ys)

scope_with_both : (a b c : Bool) (s t u : List Named) → c ≡ (a && b) → u ≡ t
    → (let o : Option (List Named) = if c then Some u else None in o) ≡ (let o : Option (List Named) = if a then (if b then Some t else None) else None in o)
scope_with_both true b c s t u h e = rw h (ap (λ v. let o : Option (List Named) = if b then Some v else None in o) e)
scope_with_both false b c s t u h e = rw h refl

then_if : {X Y : Type 0} (g : X → Option Y) (a : Bool) (x : X) → option_and_then g (if a then Some x else None) ≡ (if a then g x else None)
then_if g true x = refl
then_if g false x = refl

pub scope_with-append : (top : Top) (scope xs ys : List Named)
    → scope_with top scope (xs ++ ys) ≡ option_and_then (λ s. scope_with top s ys) (scope_with top scope xs)
scope_with-append top scope xs ys =
    scope_with_both (are_free top scope xs) (are_free top (scope ++ xs) ys) (are_free top scope (xs ++ ys)) (scope ++ xs) ((scope ++ xs) ++ ys)
    (scope ++ (xs ++ ys)) (are_free-append top scope xs ys) (sym (append_assoc scope xs ys))
    ∙ sym (then_if (λ s. scope_with top s ys) (are_free top scope xs) (scope ++ xs))

fault_on : {X X' Y Y' : Type 0} (view : Y → X) (view' : Y' → X') (fault : Unresolved) (o : Option X) (o' : Option X') → Yields view (Err fault) o
    → (o ≡ None → o' ≡ None) → Yields view' (Err fault) o'
fault_on view view' Memory o o' h f = tt
fault_on view view' WrongName o o' h f = f h

-- a fault in a part is passed on: it is one of the whole
pub passed_on : {X X' Y Y' : Type 0} (view : Y → X) (view' : Y' → X') (r : Result Y' Unresolved) (fault : Unresolved) (o : Option X)
    (o' : Option X') → IsErrAnd r (λ f. f ≡ fault) → Yields view (Err fault) o → (o ≡ None → o' ≡ None) → Yields view' r o'
passed_on view view' (Ok y) fault o o' is h f = absurd is
passed_on view view' (Err e) fault o o' is h f = subst (λ (z : Unresolved). Yields view' (Err z) o') (sym is) (fault_on view view' fault o o' h f)

pub resolves_fault : {X Y : Type 0} (view : Y → X) (r : Result Program Unresolved) (fault : Unresolved) (o : Option X) (o' : Option PlainProgram)
    → IsErrAnd r (λ f. f ≡ fault) → Yields view (Err fault) o → (o ≡ None → o' ≡ None) → Resolves r o'
resolves_fault view (Ok p) fault o o' is h f = absurd is
resolves_fault view (Err Memory) fault o o' is h f = tt
resolves_fault view (Err WrongName) fault o o' is h f = f (subst (λ (z : Unresolved). Yields view (Err z) o) (sym is) h)

opened_names : (top : Top) (xs : List Named) (scope : List Named) → scope_with top [] xs ≡ Some scope → xs ≡ scope
opened_names top xs scope h = let t = test_made (are_free top [] xs) (Some xs) scope h in let e = t.1 in cc

pub body_fits : (top : Top) (params held : List Spot) (scope : List (Bor Named)) (block : Block) (code : Code) (n : ℕ) → length params ≤ 8 → length held ≤ 8
    → IsSmallBody block → EndWithin 256 top.cowns → scope_with top [] (map name_of params ++ map name_of held) ≡ Some (names_of scope)
    → block_names block (record { top = top; held = map name_of held }) (names_of scope) ≡ Some code → n ≡ length scope
    → MakesBody (length params) (length held) (deepest n code) code
body_fits top params held scope block code n p q small end opened made many =
    let p' : length (map name_of params) ≤ 8 = rw length-map p in
    let q' : length (map name_of held) ≤ 8 = rw length-map q in
    let names = opened_names top (map name_of params ++ map name_of held) (names_of scope) opened in
    let made' = subst (λ (s : List Named). block_names block (record { top = top; held = map name_of held }) s ≡ Some code) (sym names) made in
    let fits = code_fits top (map name_of params) (map name_of held) block code p' q' small end made' in
    let count : length (map name_of params ++ map name_of held) ≡ n = ap length names ∙ length-map scope (λ n. n.now) ∙ sym many in
    subst (λ k. MakesBody k (length held) (deepest n code) code) (length-map params name_of)
    (subst (λ k. MakesBody (length (map name_of params)) k (deepest n code) code) (length-map held name_of)
    (subst (λ k. MakesBody (length (map name_of params)) (length (map name_of held)) (deepest k code) code) count fits))

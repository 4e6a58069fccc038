use Rattle.std.proofs.Common.{◌≡◌, List, Bor, [], ◌++◌, Option, Some, None, ◌∙◌, ap, sym, map}
use Rattle.std.specs.Option.{option_and_then}
use Rattle.boc_reader.specs.Names.{Named, Top}
use Rattle.boc_reader.specs.Views.{name_of}
use Rattle.boc_reader.specs.Resolving.{names_of, declared_of, scope_with}
use Rattle.boc_reader.proofs.ResolvingParameters.{scope_with-append, passed_on}
use Rattle.boc_reader.proofs.names.body.parameters.Goals as goal

first : (top : Top) (start : List (Bor Named)) (xs : List Named) (o : Option (List Named)) → start ≡ [] → scope_with top (names_of start) xs ≡ o
    → scope_with top [] xs ≡ o
first top start xs o empty h = ap (λ (s : List (Bor Named)). scope_with top (names_of s) xs) (sym empty) ∙ h

with_both : (top : Top) (start : List (Bor Named)) (xs ys : List Named) (o : Option (List Named)) → start ≡ [] → scope_with top (names_of start) xs ≡ o
    → scope_with top [] (xs ++ ys) ≡ option_and_then (λ s. scope_with top s ys) o
with_both top start xs ys o empty h =
    scope_with-append top [] xs ys ∙ ap (option_and_then (λ s. scope_with top s ys)) (first top start xs o empty h)

pub returns-in_err-declare : goal.returns-in_err-declare
returns-in_err-declare c =
    passed_on {Y = Unit {0}} (λ unit. names_of c.declare.new.scope.items) _ _ _ _ _ c.from_residual.ensures.1 c.in_err-declare.ensures
    (λ none. with_both (declared_of c.args.top.now) c.new-scope.result.items (map name_of c.args.params.now) (map name_of c.args.held.now) None
    c.new-scope.ensures.items none)

pub returns-in_err-declare-2 : goal.returns-in_err-declare-2
returns-in_err-declare-2 c =
    passed_on {Y = Unit {0}} (λ unit. names_of c.declare-2.new.scope.items) _ _ _ _ _ c.from_residual-in_err-declare-2.ensures.1 c.in_err-declare-2.ensures
    (λ none. with_both (declared_of c.args.top.now) c.new-scope.result.items (map name_of c.args.params.now) (map name_of c.args.held.now)
    (Some (names_of c.declare.new.scope.items)) c.new-scope.ensures.items c.in_ok-declare.ensures ∙ none)

pub returns : goal.returns
returns c =
    with_both (declared_of c.args.top.now) c.new-scope.result.items (map name_of c.args.params.now) (map name_of c.args.held.now)
    (Some (names_of c.declare.new.scope.items)) c.new-scope.ensures.items c.in_ok-declare.ensures
    ∙ c.in_ok-declare-2.ensures

-- What the pass that judges the names of a tree has found, part after part.
use Rattle.std.proofs.Common.{◌≡◌, ℕ, List, [], ◌++◌, Bor, map, Option, Some, None, refl, sym, ap, ◌∙◌}
use Rattle.std.specs.Option.{option_map}
use Rattle.boc_reader.specs.Shape.{Tree}
use Rattle.boc_reader.specs.Names.{Named, Global, Top}
use Rattle.boc_reader.specs.Resolving.{names_of, cowns_behind, defs_behind, top_in_order}
use Rattle.boc_reader.specs.NameUses.{tree_uses, first_declared, declared_cowns}
use Rattle.boc_reader.specs.WrongNames.{right, verdict}
use Rattle.boc_reader.specs.Judging.{if_right, cowns_verdict, defs_verdict, bodies_verdict, body_verdict}
use Rattle.boc_reader.specs.Views.{cown_of, def_of, tree_of}
use Rattle.boc_reader.specs.declared.shape.CownShape.{CownShape}
use Rattle.boc_reader.specs.declared.shape.DefShape.{DefShape}
use Rattle.boc_reader.specs.declared.shape.Tree.{Tree as Tree'}
use Rattle.boc_reader.proofs.ResolvingKeeps.{map_made}
use Rattle.boc_reader.proofs.ResolvingOrder.{cowns_behind_none}
use Rattle.boc_reader.proofs.RightNames.{cowns_wrong}
use Rattle.boc_reader.proofs.Verdicts.{tree_said}

abbrev pub names_of_cowns : List CownShape → List Named
names_of_cowns cs = map (λ c. c.name) (map cown_of cs)

-- the cowns come first
pub at_cowns : (tree : Tree') (start : List (Bor Named)) (cs : List CownShape) → start ≡ [] → cs ≡ tree.cowns.items
    → verdict 0 (tree_uses (tree_of tree))
    ≡ if_right (cowns_verdict (names_of start) (names_of_cowns cs) 0) (bodies_verdict (tree_of tree) (first_declared (tree_of tree)))
at_cowns tree start cs none same =
    let behind = bodies_verdict (tree_of tree) (first_declared (tree_of tree)) in
    sym (tree_said (tree_of tree))
    ∙ ap (λ (s : List (Bor Named)). if_right (cowns_verdict (names_of s) (declared_cowns (tree_of tree)) 0) behind) (sym none)
    ∙ ap (λ (xs : List CownShape). if_right (cowns_verdict (names_of start) (names_of_cowns xs) 0) behind) (sym same)

-- what is declared, where the cowns are right
declared : (t : Tree) (top : Top) → top_in_order t ≡ Some top → top ≡ first_declared t
declared t top h =
    let made : List Global → Top = λ gs. record { cowns = gs; defs = defs_behind gs [] t.defs } in
    let m = map_made made (cowns_behind [] 0 t.cowns) top h in
    sym m.gives ∙ ap made (cowns_behind_none t.cowns m.value m.is)

-- the defs come after them
pub at_defs : (tree : Tree') (start before : List (Bor Named)) (cs : List CownShape) (ds : List DefShape) (n : ℕ) (top : Top) → start ≡ []
    → cs ≡ tree.cowns.items → ds ≡ tree.defs.items → cowns_verdict (names_of start) (names_of_cowns cs) 0 ≡ right n
    → names_of before ≡ names_of start ++ names_of_cowns cs → top_in_order (tree_of tree) ≡ Some top
    → verdict 0 (tree_uses (tree_of tree)) ≡ if_right (defs_verdict top (names_of before) (map def_of ds) n) (body_verdict top [] [] (tree_of tree).main)
at_defs tree start before cs ds n top none same alike said grown is =
    let t = tree_of tree in
    let main = body_verdict top [] [] t.main in
    let names : names_of before ≡ declared_cowns t =
    grown ∙ ap (λ (s : List (Bor Named)). names_of s ++ names_of_cowns cs) none ∙ ap names_of_cowns same in
    at_cowns tree start cs none same ∙ ap (λ v. if_right v (bodies_verdict t (first_declared t))) said
    ∙ ap (λ (x : Top). bodies_verdict t x n) (sym (declared t top is))
    ∙ ap (λ (xs : List Named). if_right (defs_verdict top xs t.defs n) main) (sym names)
    ∙ ap (λ (xs : List DefShape). if_right (defs_verdict top (names_of before) (map def_of xs) n) main) (sym alike)

-- cowns that are right are declared
pub cowns_declare : (tree : Tree') (start : List (Bor Named)) (cs : List CownShape) (n : ℕ) → start ≡ [] → cs ≡ tree.cowns.items
    → cowns_verdict (names_of start) (names_of_cowns cs) 0 ≡ right n → top_in_order (tree_of tree) ≡ None → ⊥
cowns_declare tree start cs n none same said is =
    let t = tree_of tree in
    let names = ap (λ (s : List (Bor Named)). cowns_verdict (names_of s) (declared_cowns t) 0) (sym none)
    ∙ ap (λ (xs : List CownShape). cowns_verdict (names_of start) (names_of_cowns xs) 0) (sym same) ∙ said in
    cowns_wrong t.cowns n (nothing (cowns_behind [] 0 t.cowns) is) names
  where
    nothing : (o : Option (List Global))
        → option_map (λ gs. let top : Top = record { cowns = gs; defs = defs_behind gs [] (tree_of tree).defs } in top) o ≡ None → o ≡ None
    nothing None e = refl
    nothing (Some gs) e = absurd cc

-- The definitions of texts tried on a program: its tokens, its tree and its names.
use Rattle.std.proofs.Common.{◌≡◌, ℕ, List, [], ◌∷◌, ◌++◌, Some, None, false, refl, codes}
use Rattle.boc_reader.specs.declared.level.SumOperator.TheVariants as sums
use Rattle.boc_reader.specs.Shape.{Expr, plain, one_term, more_terms, Term, one_factor, unsigned, literal, variable, alone, assign, when, done, next, Tree}
use Rattle.boc_reader.specs.Shape.{tree_tokens}
use Rattle.boc_reader.specs.Tokens.{tokens_of_text, cut, token_of_run}
use Rattle.boc_reader.specs.Names.{tree_names}
use Rattle.boc_reader.specs.Spells.{plain_program}
use Rattle.boc_program.proofs.examples.Transfer.{program}

abbrev text : List ℕ
text =
    codes "cown a = 10; cown b = 0; # two accounts\n"
    ++ codes "def add(k; x) { x = x + k; }\n"
    ++ codes "def move(k; x, y) { x = x - k; y = y + k; }\n"
    ++ codes "main { when add(5; a); when move(3; a, b); when add(1; b); }\n"

abbrev of_name : List ℕ → Term
of_name x = one_factor (unsigned (variable x))

abbrev of_number : ℕ → Expr
of_number n = plain (one_term (one_factor (unsigned (literal n))))

abbrev tree : Tree
tree = record {
  cowns = (record { name = codes "a"; size = None; negative = false; value = 10 }) ∷ (record { name = codes "b"; size = None; negative = false; value = 0 })
      ∷ [];
  defs = (record {
    name = codes "add";
    params = codes "k" ∷ [];
    cowns = codes "x" ∷ [];
    block = next (assign (codes "x") (plain (more_terms (of_name (codes "x")) sums.Add (one_term (of_name (codes "k")))))) done;
  }) ∷ (record {
    name = codes "move";
    params = codes "k" ∷ [];
    cowns = codes "x" ∷ codes "y" ∷ [];
    block = next (assign (codes "x") (plain (more_terms (of_name (codes "x")) sums.Subtract (one_term (of_name (codes "k"))))))
        (next (assign (codes "y") (plain (more_terms (of_name (codes "y")) sums.Add (one_term (of_name (codes "k")))))) done);
  }) ∷ [];
  main = next (when (codes "add") (of_number 5 ∷ []) (alone (codes "a") ∷ []))
      (next (when (codes "move") (of_number 3 ∷ []) (alone (codes "a") ∷ alone (codes "b") ∷ []))
      (next (when (codes "add") (of_number 1 ∷ []) (alone (codes "b") ∷ [])) done));
}

pub tokens : tokens_of_text text ≡ Some (tree_tokens tree)
unfolding tokens_of_text cut token_of_run
tokens = refl

pub names : tree_names tree ≡ Some (plain_program program)
names = refl

-- The definitions of wrong names tried on texts: which name is the first wrong one, what is wrong with it, and where it begins.
use Rattle.std.proofs.Common.{◌≡◌, ℕ, List, [], ◌∷◌, Some, None, false, refl, codes, take, drop, lit≤}
use Rattle.boc_reader.specs.Shape.{Expr, plain, one_term, one_factor, unsigned, literal, variable, alone, member, Block, declare, assign, when, done, next}
use Rattle.boc_reader.specs.Shape.{if_only, Cown, Def, Tree, tree_tokens}
use Rattle.boc_reader.specs.Tokens.{tokens_of_text, cut, token_of_run}
use Rattle.boc_reader.specs.NameUses.{tree_uses}
use Rattle.boc_reader.specs.WrongNames.{right, wrong, verdict, NameGoesWrong}
use Rattle.boc_reader.specs.WrongTokens.{pieces_of}
use Rattle.boc_reader.specs.declared.fault.NameFault.{NameFault}
use Rattle.boc_reader.specs.declared.fault.NameFault.TheVariants.{UnknownName, NameTaken, WrongCount}
use Rattle.boc_reader.proofs.WrongPlaces.{one_wrong_name}

abbrev of_name : List ℕ → Expr
of_name x = plain (one_term (one_factor (unsigned (variable x))))

abbrev of_number : ℕ → Expr
of_number n = plain (one_term (one_factor (unsigned (literal n))))

abbrev single : List ℕ → Cown
single x = record { name = x; size = None; negative = false; value = 0 }

abbrev array : List ℕ → Cown
array x = record { name = x; size = Some 2; negative = false; value = 0 }

abbrev def : List ℕ → List (List ℕ) → List (List ℕ) → Block → Def
def f params cowns block = record { name = f; params = params; cowns = cowns; block = block }

abbrev tree : List Cown → List Def → Block → Tree
tree cowns defs main = record { cowns = cowns; defs = defs; main = main }

abbrev a : List ℕ
a = codes "a"

abbrev f : List ℕ
f = codes "f"

abbrev x : List ℕ
x = codes "x"

-- def f(; x) { x = 1; } with a cown a, and main { when f(; a); }: all six are right
all_right : verdict 0 (tree_uses (tree (single a ∷ []) (def f [] (x ∷ []) (next (assign x (of_number 1)) done) ∷ []) (next (when f [] (alone a ∷ [])) done)))
    ≡ right 6
all_right = refl

-- main { x = x; }: the first x is unknown, and not the second
unknown : verdict 0 (tree_uses (tree [] [] (next (assign x (of_name x)) done))) ≡ wrong UnknownName 0
unknown = refl

-- main { let x = x; }: the x that is declared isn't in scope yet
not_yet : verdict 0 (tree_uses (tree [] [] (next (declare x (of_name x)) done))) ≡ wrong UnknownName 1
not_yet = refl

-- main { if 1 { let x = 1; } x = 1; }: after its block it is free again
free_again : verdict 0 (tree_uses (tree [] [] (next (if_only (of_number 1) (next (declare x (of_number 1)) done)) (next (assign x (of_number 1)) done))))
    ≡ wrong UnknownName 1
free_again = refl

-- cown a = 0; cown a[2] = 0; main { x = 1; }: the second declaration of a name is wrong
taken : verdict 0 (tree_uses (tree (single a ∷ array a ∷ []) [] (next (assign x (of_number 1)) done))) ≡ wrong NameTaken 1
taken = refl

-- def f(x; x) { }: a parameter may not have the name of one before it
same_parameter : verdict 0 (tree_uses (tree [] (def f (x ∷ []) (x ∷ []) done ∷ []) done)) ≡ wrong NameTaken 2
same_parameter = refl

-- cown a = 0; def f(;) { when a(;); } def a(;) { }: of a name's declarations the first counts, so a is no def in the body of f
first_counts : verdict 0 (tree_uses (tree (single a ∷ []) (def f [] [] (next (when a [] []) done) ∷ def a [] [] done ∷ []) done)) ≡ wrong UnknownName 2
first_counts = refl

-- cown a = 0; def f(; x) { when f(; x[y]); }: x is a cown parameter, which has no index; the y is not looked at
index_on_parameter : verdict 0 (tree_uses (tree (single a ∷ []) (def f [] (x ∷ []) (next (when f [] (member x (of_name (codes "y")) ∷ [])) done) ∷ []) done))
    ≡ wrong WrongCount 4
index_on_parameter = refl

-- A whole text: an array is named without an index. Its name stands in a comment too, and that of another wrong name after it.

abbrev text : List ℕ
text = codes "cown a[2] = 0; # f(;a) a\ndef f(; x) { }\nmain { when f(; a); x = 1; }\n"

abbrev shape : Tree
shape = tree (array a ∷ []) (def f [] (x ∷ []) done ∷ []) (next (when f [] (alone a ∷ [])) (next (assign x (of_number 1)) done))

-- its first wrong name is the fifth, and begins at byte 56
goes_wrong : NameGoesWrong WrongCount text 56
unfolding tokens_of_text cut token_of_run
goes_wrong = record {
  tokens = tree_tokens shape;
  has_tokens = refl;
  tree = shape;
  has_shape = record {
    tokens_are = refl;
    limits = record {
      arrays = (lit≤ tt, tt);
      cowns = lit≤ tt;
      defs = lit≤ tt;
      small_defs = (record { params = lit≤ tt; cowns = lit≤ tt; body = record { nodes = lit≤ tt; calls = tt } }, tt);
      small_main = record { nodes = lit≤ tt; calls = ((lit≤ tt, lit≤ tt), (tt, tt)) };
    };
  };
  before = 4;
  is_wrong = refl;
  place = record {
    before = take 45 (pieces_of text);
    tokens = take 22 (tree_tokens shape);
    has_tokens = refl;
    count = refl;
    found = a;
    is_name = refl;
    behind = drop 46 (pieces_of text);
    parts = refl;
    place = refl;
  };
}

-- so it is not where the name stands in the comment
not_in_the_comment : NameGoesWrong WrongCount text 20 → ⊥
not_in_the_comment h = let e : 20 ≡ 56 = (one_wrong_name WrongCount WrongCount text 20 56 h goes_wrong).1 in absurd (cc e)

-- and the text does not go wrong by the unknown name after it, or by this one in another way
no_other : (fault : NameFault) (at : ℕ) → NameGoesWrong fault text at → (fault ≡ WrongCount) × (at ≡ 56)
no_other fault at h = one_wrong_name fault WrongCount text at 56 h goes_wrong

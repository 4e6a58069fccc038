-- The definitions of the first fault of the shape, tried on texts that have one, and on one that has none.
use Rattle.std.proofs.Common.{◌≡◌, ℕ, zero, suc, List, [], ◌∷◌, ◌++◌, Option, Some, None, false, refl, codes, arith, take, drop}
use Rattle.boc_reader.specs.declared.terminal.Keyword.TheVariants as keywords
use Rattle.boc_reader.specs.declared.terminal.Sign.TheVariants as signs
use Rattle.boc_reader.specs.declared.fault.ShapeFault.TheVariants as faults
use Rattle.boc_reader.specs.Tokens.{Token, name, number, keyword, sign, run, tokens_of_text, cut, token_of_run}
use Rattle.boc_reader.specs.WrongTokens.{pieces_of}
use Rattle.boc_reader.specs.Placed.{BeginsAt}
use Rattle.boc_reader.specs.declared.wanted.Wanted.{Wanted}
use Rattle.boc_reader.specs.declared.wanted.Wanted.TheVariants as the
use Rattle.boc_reader.specs.Room.{Within}
use Rattle.boc_reader.specs.Shape.{plain, one_term, one_factor, unsigned, literal, declare, done, next, Tree, tree_tokens}
use Rattle.boc_reader.specs.WrongShape.{BeginTree, PassesLimit, ShapeGoesWrong, ShapeFaultStandsAt}
use Rattle.boc_reader.proofs.Strays.{one_of_shape, one_shape_fault, one_stray, whole_is_right}
use Rattle.boc_reader.proofs.Within.{over_begins_none}
use Rattle.boc_reader.proofs.Wanting.{stray_begins_none, whole_wanted}

-- a name is wanted where the number stands
abbrev text : List ℕ
text = codes "main { let 5 }"

abbrev tokens : List Token
tokens = keyword keywords.Main ∷ sign signs.OpenBlock ∷ keyword keywords.Let ∷ number 5 ∷ sign signs.CloseBlock ∷ []

has_tokens : tokens_of_text text ≡ Some tokens
unfolding tokens_of_text cut token_of_run
has_tokens = refl

-- a tree that begins as the text does
abbrev tree : Tree
tree = record { cowns = []; defs = []; main = next (declare (codes "x") (plain (one_term (one_factor (unsigned (literal 1)))))) done }

let_begins : BeginTree (keyword keywords.Main ∷ sign signs.OpenBlock ∷ keyword keywords.Let ∷ [])
let_begins = record {
  more = name (codes "x") ∷ sign signs.Assign ∷ number 1 ∷ sign signs.Semicolon ∷ sign signs.CloseBlock ∷ [];
  whole = record { tree = tree; arrays = tt; tokens_are = refl };
}

goes_wrong : ShapeGoesWrong tokens 3
goes_wrong = record {
  within = omega arith;
  begins = let_begins;
  strays = λ _ l. stray_begins_none (keyword keywords.Main ∷ sign signs.OpenBlock ∷ keyword keywords.Let ∷ number 5 ∷ []) refl l;
  ends = λ same _. omega (arith, same);
}

-- it is reported at the byte of the number
pub told : ShapeFaultStandsAt faults.Unexpected text 11
unfolding tokens_of_text cut token_of_run
told = record {
  tokens = tokens;
  has_tokens = has_tokens;
  before = 3;
  says = (goes_wrong, λ none. cc none);
  place = (
    record {
      before = take 6 (pieces_of text);
      has_tokens = refl;
      found = run (codes "5");
      is_token = refl;
      behind = drop 7 (pieces_of text);
      parts = refl;
      place = refl;
    },
    record { begins = (refl, λ e. omega (arith, e)); has_tokens = refl },
  );
}

-- and at no other token
pub not_at_let : ShapeGoesWrong tokens 2 → ⊥
not_at_let wrong = omega (arith, one_stray tokens 2 3 wrong goes_wrong)

pub not_behind : ShapeGoesWrong tokens 4 → ⊥
not_behind wrong = omega (arith, one_stray tokens 4 3 wrong goes_wrong)

-- nothing may follow main's block
abbrev behind_main : List Token
behind_main = keyword keywords.Main ∷ sign signs.OpenBlock ∷ sign signs.CloseBlock ∷ sign signs.CloseBlock ∷ []

pub no_brace : BeginTree behind_main → ⊥
no_brace = stray_begins_none behind_main refl

-- one comparison is all that an expression has
abbrev two_comparisons : List Token
two_comparisons = keyword keywords.Main ∷ sign signs.OpenBlock ∷ keyword keywords.Work ∷ number 1 ∷ sign signs.Less ∷ number 2 ∷ sign signs.Less ∷ []

pub no_second : BeginTree two_comparisons → ⊥
no_second = stray_begins_none two_comparisons refl

-- the declaration of an array, as far as its size
abbrev array_of : ℕ → List Token
array_of n = keyword keywords.Cown ∷ name (codes "a") ∷ sign signs.OpenIndex ∷ number n ∷ []

abbrev with_array : ℕ → Tree
with_array n = record { cowns = record { name = codes "a"; size = Some n; negative = false; value = 0 } ∷ []; defs = []; main = done }

abbrev behind_size : List Token
behind_size =
    sign signs.CloseIndex ∷ sign signs.Assign ∷ number 0 ∷ sign signs.Semicolon
    ∷ keyword keywords.Main ∷ sign signs.OpenBlock ∷ sign signs.CloseBlock ∷ []

-- it has members
pub no_members : BeginTree (array_of 0) → ⊥
no_members = stray_begins_none (array_of 0) refl

-- what is wanted at its size, and the room there
abbrev in_size : Within
in_size = record {
  wanted = the.Members ∷ the.CloseIndex ∷ the.Assign ∷ the.Initial ∷ the.Semicolon ∷ the.Cowns ∷ [];
  room = record { cowns = 256; defs = 64; nodes = 0; listed = 0 };
}

-- of the most of them the shape says nothing, but a limit is passed
pub many_members : BeginTree (array_of 257)
many_members = record { more = behind_size; whole = record { tree = with_array 257; arrays = (omega arith, tt); tokens_are = refl } }

pub passed_at_size : PassesLimit (array_of 257) 3
passed_at_size = record {
  within = omega arith;
  first = λ none. absurd cc;
  passes = λ some. some refl;
  begins = many_members;
  none = λ t more. over_begins_none (take 3 (array_of 257)) [] more (number 257) in_size t refl refl;
}

-- and not before, since the array could have one member
pub not_passed_before : PassesLimit (array_of 257) 2 → ⊥
not_passed_before passed = passed.none (with_array 1) (number 1 ∷ behind_size) (record {
  tokens_are = refl;
  limits = record {
    arrays = (omega arith, tt);
    cowns = omega arith;
    defs = omega arith;
    small_defs = tt;
    small_main = record { nodes = omega arith; calls = tt };
  };
})

-- an array with as many members as there may be passes none
pub not_passed_by_most : PassesLimit (array_of 256) 3 → ⊥
not_passed_by_most passed = passed.none (with_array 256) behind_size (record {
  tokens_are = refl;
  limits = record {
    arrays = (omega arith, tt);
    cowns = omega arith;
    defs = omega arith;
    small_defs = tt;
    small_main = record { nodes = omega arith; calls = tt };
  };
})

-- Where as many cowns are declared as there may be, one more is too many at its name, and an array at its size.

abbrev full : List Token → List Token
full more = array_of 256 ++ sign signs.CloseIndex ∷ sign signs.Assign ∷ number 0 ∷ sign signs.Semicolon ∷ keyword keywords.Cown ∷ more

abbrev with_other : Option ℕ → Tree
with_other size = record {
  cowns = record { name = codes "a"; size = Some 256; negative = false; value = 0 }
      ∷ record { name = codes "b"; size = size; negative = false; value = 0 } ∷ [];
  defs = [];
  main = done;
}

abbrev behind_name : List Token
behind_name = sign signs.Assign ∷ number 0 ∷ sign signs.Semicolon ∷ keyword keywords.Main ∷ sign signs.OpenBlock ∷ sign signs.CloseBlock ∷ []

abbrev one_more : List Token
one_more = full (name (codes "b") ∷ behind_name)

abbrev array_more : List Token
array_more = full (name (codes "b") ∷ sign signs.OpenIndex ∷ number 1 ∷ sign signs.CloseIndex ∷ behind_name)

abbrev none_left : List Wanted → Within
none_left ws = record { wanted = ws; room = record { cowns = 0; defs = 64; nodes = 0; listed = 0 } }

pub passed_at_name : PassesLimit one_more 9
passed_at_name = record {
  within = omega arith;
  first = λ none. absurd cc;
  passes = λ some. some refl;
  begins = record { more = behind_name; whole = record { tree = with_other None; arrays = (omega arith, (tt, tt)); tokens_are = refl } };
  none = λ t more.
      over_begins_none (take 9 one_more) behind_name more (name (codes "b"))
      (none_left (the.CownName ∷ the.Assign ∷ the.Initial ∷ the.Semicolon ∷ the.Cowns ∷ [])) t refl refl;
}

pub passed_at_other_size : PassesLimit array_more 11
passed_at_other_size = record {
  within = omega arith;
  first = λ none. absurd cc;
  passes = λ some. some refl;
  begins = record {
    more = sign signs.CloseIndex ∷ behind_name;
    whole = record { tree = with_other (Some 1); arrays = (omega arith, (omega arith, tt)); tokens_are = refl };
  };
  none = λ t more.
      over_begins_none (take 11 array_more) (sign signs.CloseIndex ∷ behind_name) more (number 1)
      (none_left (the.Members ∷ the.CloseIndex ∷ the.Assign ∷ the.Initial ∷ the.Semicolon ∷ the.Cowns ∷ [])) t refl refl;
}

-- and nowhere else
pub not_at_its_keyword : PassesLimit one_more 8 → ⊥
not_at_its_keyword passed = let e : 8 ≡ 9 = (one_of_shape faults.TooMany faults.TooMany one_more 8 9 passed passed_at_name).1 in absurd (cc e)

pub not_at_its_name : PassesLimit array_more 9 → ⊥
not_at_its_name passed = let e : 9 ≡ 11 = (one_of_shape faults.TooMany faults.TooMany array_more 9 11 passed passed_at_other_size).1 in absurd (cc e)

-- A ninth parameter is too many at its name, and not at the comma before it.

abbrev params : ℕ → List Token → List Token
params zero more = more
params (suc n) more = name (codes "x") ∷ sign signs.Comma ∷ params n more

abbrev nine : List Token
nine = keyword keywords.Def ∷ name (codes "f") ∷ sign signs.Open ∷ params 8 (name (codes "x") ∷ [])

abbrev of_nine : Tree
of_nine = record {
  cowns = [];
  defs = record {
    name = codes "f";
    params = codes "x" ∷ codes "x" ∷ codes "x" ∷ codes "x" ∷ codes "x" ∷ codes "x" ∷ codes "x" ∷ codes "x" ∷ codes "x" ∷ [];
    cowns = [];
    block = done;
  } ∷ [];
  main = done;
}

pub passed_at_ninth : PassesLimit nine 19
passed_at_ninth = record {
  within = omega arith;
  first = λ none. absurd cc;
  passes = λ some. some refl;
  begins = record {
    more = sign signs.Semicolon ∷ sign signs.Close ∷ sign signs.OpenBlock ∷ sign signs.CloseBlock
        ∷ keyword keywords.Main ∷ sign signs.OpenBlock ∷ sign signs.CloseBlock ∷ [];
    whole = record { tree = of_nine; arrays = tt; tokens_are = refl };
  };
  none = λ t more. over_begins_none (take 19 nine) [] more (name (codes "x")) (record {
    wanted = the.NextName ∷ the.MoreParams ∷ the.Held ∷ the.OpenBlock ∷ the.Stmts ∷ the.Defs ∷ [];
    room = record { cowns = 256; defs = 63; nodes = 1000; listed = 0 };
  }) t refl refl;
}

pub not_at_the_comma : PassesLimit nine 18 → ⊥
not_at_the_comma passed = let e : 18 ≡ 19 = (one_of_shape faults.TooMany faults.TooMany nine 18 19 passed passed_at_ninth).1 in absurd (cc e)

-- a text that ends too soon goes wrong at its end
abbrev cut_short : List Token
cut_short = keyword keywords.Main ∷ sign signs.OpenBlock ∷ []

pub ends_too_soon : ShapeGoesWrong cut_short 2
ends_too_soon = record {
  within = omega arith;
  begins = record {
    more = sign signs.CloseBlock ∷ [];
    whole = record { tree = record { cowns = []; defs = []; main = done }; arrays = tt; tokens_are = refl };
  };
  strays = λ less _. omega (arith, less);
  ends = λ _ w. let all = whole_wanted cut_short w in cc;
}

pub ends_at_its_end : ShapeFaultStandsAt faults.Unexpected (codes "main {  ") 8
unfolding tokens_of_text cut token_of_run
ends_at_its_end = record { tokens = cut_short; has_tokens = refl; before = 2; says = (ends_too_soon, λ none. cc none); place = refl }

-- the tokens of a tree go wrong nowhere
pub right : (before : ℕ) → ShapeGoesWrong (tree_tokens tree) before → ⊥
right before = whole_is_right (tree_tokens tree) before (record { tree = tree; arrays = tt; tokens_are = refl })

-- A comment after the number spells it too, so that the text has the same tokens from there on.

abbrev with_comment : List ℕ
with_comment = codes "main { let 5 # 5\n}"

from_comment : BeginsAt with_comment 15 (number 5 ∷ sign signs.CloseBlock ∷ [])
unfolding tokens_of_text cut token_of_run
from_comment = record { begins = (refl, λ e. omega (arith, e)); has_tokens = refl }

pub told_before_comment : ShapeFaultStandsAt faults.Unexpected with_comment 11
unfolding tokens_of_text cut token_of_run
told_before_comment = record {
  tokens = tokens;
  has_tokens = refl;
  before = 3;
  says = (goes_wrong, λ none. cc none);
  place = (
    record {
      before = take 6 (pieces_of with_comment);
      has_tokens = refl;
      found = run (codes "5");
      is_token = refl;
      behind = drop 7 (pieces_of with_comment);
      parts = refl;
      place = refl;
    },
    record { begins = (refl, λ e. omega (arith, e)); has_tokens = refl },
  );
}

-- yet the fault doesn't stand in the comment
pub not_in_the_comment : ShapeFaultStandsAt faults.Unexpected with_comment 15 → ⊥
not_in_the_comment h = let e : 15 ≡ 11 = (one_shape_fault faults.Unexpected faults.Unexpected with_comment 15 11 h told_before_comment).1 in absurd (cc e)

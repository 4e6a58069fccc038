-- Lists of declarations and of statements, as what they form.
use Rattle.std.proofs.Common.{◌≡◌, ℕ, ◌+◌, List, [], ◌∷◌, length, refl, ap, arith}
use Rattle.boc_reader.specs.Tokens.{Token}
use Rattle.boc_reader.specs.Shape.{each_tokens, list_nodes, Def, AreSmallDefs, Stmt, stmt_tokens, stmt_nodes, block_tokens}
use Rattle.boc_reader.specs.Shape.{block_nodes, IsSmallBlock}
use Rattle.boc_reader.specs.Grammar.{def_phrase, stmt_phrase}
use Rattle.boc_reader.specs.Views.{block_from}
use Rattle.boc_reader.proofs.Each.{AllSmall}

pub length-list : {X : Type 0} (xs : List X) → length xs ≡ list_nodes (λ (x : X). 1) xs
length-list [] = refl
length-list (x ∷ xs) = let h = length-list xs in omega arith

pub small_defs : (ds : List Def) → AllSmall def_phrase ds → AreSmallDefs ds
small_defs [] h = tt
small_defs (d ∷ ds) h = (h.0, small_defs ds h.1)

pub block_tokens-list : (ss : List Stmt) (rest : List Token) → each_tokens stmt_tokens ss rest ≡ block_tokens (block_from ss) rest
block_tokens-list [] rest = refl
block_tokens-list (s ∷ ss) rest = ap (stmt_tokens s) (block_tokens-list ss rest)

pub block_nodes-list : (ss : List Stmt) → block_nodes (block_from ss) ≡ list_nodes stmt_nodes ss
block_nodes-list [] = refl
block_nodes-list (s ∷ ss) = ap (λ n. stmt_nodes s + n) (block_nodes-list ss)

pub small_block : (ss : List Stmt) → AllSmall stmt_phrase ss → IsSmallBlock (block_from ss)
small_block [] h = tt
small_block (s ∷ ss) h = (h.0, small_block ss h.1)

pub names_nodes : (xs : List (List ℕ)) → list_nodes (λ (x : List ℕ). 0) xs ≡ 0
names_nodes [] = refl
names_nodes (x ∷ xs) = let h = names_nodes xs in omega arith

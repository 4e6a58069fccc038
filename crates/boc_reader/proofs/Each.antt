-- Phrases of a kind, one after another.
use Rattle.std.proofs.Common.{◌≡◌, ℕ, ◌+◌, ◌<◌, ◌≤◌, List, [], ◌∷◌, ◌++◌, length, sym, ap, ◌∙◌, refl, subst, arith}
use Rattle.boc_reader.specs.Tokens.{Token}
use Rattle.boc_reader.specs.Shape.{each_tokens, list_nodes}
use Rattle.boc_reader.specs.Phrases.{Ahead, Phrase, Stands}

abbrev pub AllSmall : {X : Type 0} → Phrase X → List X → Type 0
AllSmall kind [] = Unit {0}
AllSmall kind (x ∷ xs) = kind.IsSmall x × AllSmall kind xs

-- each is followed by what may follow it
abbrev pub AllEnd : {X : Type 0} → Phrase X → List X → List Token → Type 0
AllEnd kind [] rest = Unit {0}
AllEnd kind (x ∷ xs) rest = kind.Ends x (each_tokens kind.tokens xs rest) × AllEnd kind xs rest

-- these were read
pub record ReadEach {X : Type 0} (kind : Phrase X) (old now : Ahead) (xs : List X) : Type 0 where
  pub tokens : old.tokens ≡ each_tokens kind.tokens xs now.tokens
  pub room : list_nodes kind.nodes xs + now.room ≡ old.room
  pub ends : AllEnd kind xs now.tokens
  pub small : AllSmall kind xs
  pub shorter : length now.tokens ≤ length old.tokens

pub each_tokens-append : {X : Type 0} (tokens : X → List Token → List Token) (xs : List X) (x : X) (rest : List Token)
    → each_tokens tokens (xs ++ x ∷ []) rest ≡ each_tokens tokens xs (tokens x rest)
each_tokens-append tokens [] x rest = refl
each_tokens-append tokens (y ∷ ys) x rest = ap (tokens y) (each_tokens-append tokens ys x rest)

pub list_nodes-append : {X : Type 0} (nodes : X → ℕ) (xs ys : List X) → list_nodes nodes (xs ++ ys) ≡ list_nodes nodes xs + list_nodes nodes ys
list_nodes-append nodes [] ys = omega arith
list_nodes-append nodes (x ∷ xs) ys = let h = list_nodes-append nodes xs ys in omega arith

all_small_more : {X : Type 0} (kind : Phrase X) (xs : List X) (x : X) → AllSmall kind xs → kind.IsSmall x → AllSmall kind (xs ++ x ∷ [])
all_small_more kind [] x h k = (k, tt)
all_small_more kind (y ∷ ys) x h k = (h.0, all_small_more kind ys x h.1 k)

all_end_more : {X : Type 0} (kind : Phrase X) (xs : List X) (x : X) (rest : List Token) → AllEnd kind xs (kind.tokens x rest) → kind.Ends x rest
    → AllEnd kind (xs ++ x ∷ []) rest
all_end_more kind [] x rest h k = (k, tt)
all_end_more kind (y ∷ ys) x rest h k =
    (subst (kind.Ends y) (sym (each_tokens-append kind.tokens ys x rest)) h.0, all_end_more kind ys x rest h.1 k)

pub read_each_more : {X : Type 0} (kind : Phrase X) (old mid new : Ahead) (xs all : List X) (x : X) → ReadEach kind old mid xs → Stands kind mid x new.tokens
    → kind.nodes x + new.room ≡ mid.room → length new.tokens < length mid.tokens → all ≡ xs ++ x ∷ [] → ReadEach kind old new all
read_each_more kind old mid new xs all x so_far item room shorter more =
    let n = list_nodes-append kind.nodes xs (x ∷ []) in
    subst (ReadEach kind old new) (sym more) (record {
      tokens = so_far.tokens ∙ ap (each_tokens kind.tokens xs) item.tokens ∙ sym (each_tokens-append kind.tokens xs x new.tokens);
      room = omega (arith, so_far.room);
      ends = all_end_more kind xs x new.tokens (subst (AllEnd kind xs) item.tokens so_far.ends) item.ends;
      small = all_small_more kind xs x so_far.small item.small;
      shorter = omega (arith, so_far.shorter);
    })

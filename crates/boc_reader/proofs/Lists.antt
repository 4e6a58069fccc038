-- Any number of a kind, with commas between them.
use Rattle.std.proofs.Common.{◌≡◌, ◌+◌, ◌<◌, ◌≤◌, List, [], ◌∷◌, ◌++◌, length, refl, sym, ap, ◌∙◌, subst, arith, length-append}
use Rattle.boc_reader.specs.declared.terminal.Sign.{Sign}
use Rattle.boc_reader.specs.declared.terminal.Sign.TheVariants.{Comma}
use Rattle.boc_reader.specs.Tokens.{Token, sign}
use Rattle.boc_reader.specs.Shape.{behind_commas, list_tokens, list_nodes}
use Rattle.boc_reader.specs.Phrases.{Ahead, Phrase, Stands}
use Rattle.boc_reader.specs.Grammar.{list_phrase}
use Rattle.boc_reader.proofs.Each.{list_nodes-append}

-- what was read, each with a comma after it
abbrev pub before : {X : Type 0} → (X → List Token → List Token) → List X → List Token → List Token
before tokens [] rest = rest
before tokens (x ∷ xs) rest = tokens x (sign Comma ∷ before tokens xs rest)

pub record ReadBefore {X : Type 0} (kind : Phrase X) (old now : Ahead) (xs : List X) : Type 0 where
  pub tokens : old.tokens ≡ before kind.tokens xs now.tokens
  pub room : list_nodes kind.nodes xs + now.room ≡ old.room
  pub few : length xs ≤ 8
  pub shorter : length now.tokens ≤ length old.tokens

before-append : {X : Type 0} (tokens : X → List Token → List Token) (xs : List X) (x : X) (rest : List Token)
    → before tokens (xs ++ x ∷ []) rest ≡ before tokens xs (tokens x (sign Comma ∷ rest))
before-append tokens [] x rest = refl
before-append tokens (y ∷ ys) x rest = ap (λ ws. tokens y (sign Comma ∷ ws)) (before-append tokens ys x rest)

behind_last : {X : Type 0} (tokens : X → List Token → List Token) (xs : List X) (x : X) (rest : List Token)
    → sign Comma ∷ before tokens xs (tokens x rest) ≡ behind_commas tokens (xs ++ x ∷ []) rest
behind_last tokens [] x rest = refl
behind_last tokens (y ∷ ys) x rest = ap (λ ws. sign Comma ∷ tokens y ws) (behind_last tokens ys x rest)

before_last : {X : Type 0} (tokens : X → List Token → List Token) (xs : List X) (x : X) (rest : List Token)
    → before tokens xs (tokens x rest) ≡ list_tokens tokens (xs ++ x ∷ []) rest
before_last tokens [] x rest = refl
before_last tokens (y ∷ ys) x rest = ap (tokens y) (behind_last tokens ys x rest)

-- one more was read, and a comma after it
pub read_comma : {X : Type 0} (kind : Phrase X) (old mid item new : Ahead) (xs all : List X) (x : X) → ReadBefore kind old mid xs
    → Stands kind mid x item.tokens → kind.nodes x + item.room ≡ mid.room → length item.tokens < length mid.tokens → item.tokens ≡ sign Comma ∷ new.tokens
    → new.room ≡ item.room → length xs < 8 → all ≡ xs ++ x ∷ [] → ReadBefore kind old new all
read_comma kind old mid item new xs all x so_far st room shorter comma same few more =
    let n = list_nodes-append kind.nodes xs (x ∷ []) in
    let k = length-append xs (x ∷ []) in
    let m = ap length comma in
    subst (ReadBefore kind old new) (sym more) (record {
      tokens = so_far.tokens ∙ ap (before kind.tokens xs) (st.tokens ∙ ap (kind.tokens x) comma) ∙ sym (before-append kind.tokens xs x new.tokens);
      room = omega (arith, so_far.room);
      few = omega arith;
      shorter = omega (arith, so_far.shorter);
    })

-- the last was read, and the sign after it
pub read_last : {X : Type 0} (kind : Phrase X) (close : Sign) (old mid item new : Ahead) (xs all : List X) (x : X) → ReadBefore kind old mid xs
    → Stands kind mid x item.tokens → kind.nodes x + item.room ≡ mid.room → length item.tokens < length mid.tokens → item.tokens ≡ sign close ∷ new.tokens
    → new.room ≡ item.room → length xs < 8 → all ≡ xs ++ x ∷ []
    → Stands (list_phrase kind close) old all new.tokens × (list_nodes kind.nodes all + new.room ≡ old.room)
read_last kind close old mid item new xs all x so_far st room shorter closed same few more =
    let n = list_nodes-append kind.nodes xs (x ∷ []) in
    let k = length-append xs (x ∷ []) in
    subst (λ ys. Stands (list_phrase kind close) old ys new.tokens × (list_nodes kind.nodes ys + new.room ≡ old.room)) (sym more) (
      record {
        tokens = so_far.tokens ∙ ap (before kind.tokens xs) (st.tokens ∙ ap (kind.tokens x) closed) ∙ before_last kind.tokens xs x (sign close ∷ new.tokens);
        ends = tt;
        fits = omega (arith, so_far.room);
        small = omega arith;
      },
      omega (arith, so_far.room),
    )

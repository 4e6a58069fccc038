-- Where a list with commas can't go on, there is none.
use Rattle.std.proofs.Common.{◌≡◌, ◌≢◌, List, [], ◌∷◌, ◌++◌, length, refl, sym, ap, ◌∙◌, arith, length-append}
use Rattle.boc_reader.specs.declared.terminal.Sign.{Sign}
use Rattle.boc_reader.specs.declared.terminal.Sign.TheVariants.{Comma}
use Rattle.boc_reader.specs.Tokens.{Token, sign}
use Rattle.boc_reader.specs.Shape.{behind_commas, list_tokens, list_nodes}
use Rattle.boc_reader.specs.Phrases.{Ahead, Phrase, Stands, NoneStands}
use Rattle.boc_reader.specs.Grammar.{NoSign, list_phrase}
use Rattle.boc_reader.proofs.Refused.{OneReading}
use Rattle.boc_reader.proofs.Each.{list_nodes-append}
use Rattle.boc_reader.proofs.Lists.{before, ReadBefore}

-- what makes lists of a kind readable
pub record Readable {X : Type 0} (kind : Phrase X) (close : Sign) : Type 0 where
  pub one : OneReading kind
  pub comma : (x : X) (r : List Token) → kind.Ends x (sign Comma ∷ r)
  pub closed : (x : X) (r : List Token) → kind.Ends x (sign close ∷ r)
  pub no_comma : close ≢ Comma
  pub begins : (x : X) (w r : List Token) → kind.tokens x w ≢ sign close ∷ r
  pub small : (x : X) → kind.IsSmall x

module _ {X : Type 0} (kind : Phrase X) (close : Sign) (can : Readable kind close) where
  behind_ends : (x : X) (xs : List X) (r : List Token) → kind.Ends x (behind_commas kind.tokens xs (sign close ∷ r))
  behind_ends x [] r = can.closed x r
  behind_ends x (y ∷ ys) r = can.comma x _

  behind : (front : List X) (w : List Token) (x : X) (xs : List X) (r : List Token)
      → before kind.tokens front w ≡ kind.tokens x (behind_commas kind.tokens xs (sign close ∷ r))
      → (y : X) × (ys : List X) × (x ∷ xs ≡ front ++ y ∷ ys) × (w ≡ kind.tokens y (behind_commas kind.tokens ys (sign close ∷ r)))
  behind [] w x xs r e = (x, xs, refl, e)
  behind (f ∷ fs) w x [] r e =
      let u = can.one f x (sign Comma ∷ before kind.tokens fs w) (sign close ∷ r) (can.comma f _) (can.closed x _) e in
      let t = u.1 in let n = can.no_comma in let same : close ≡ Comma = cc in absurd (n same)
  behind (f ∷ fs) w x (y ∷ ys) r e =
      let u = can.one f x (sign Comma ∷ before kind.tokens fs w) (behind_commas kind.tokens (y ∷ ys) (sign close ∷ r)) (can.comma f _)
      (behind_ends x (y ∷ ys) r) e in
      let h = u.0 in
      let t = u.1 in
      let v = behind fs w y ys r cc in
      let p = v.2 in
      (v.0, v.1, cc, v.3)

  one_behind : (xs ys : List X) (r s : List Token) → behind_commas kind.tokens xs (sign close ∷ r) ≡ behind_commas kind.tokens ys (sign close ∷ s)
      → (xs ≡ ys) × (r ≡ s)
  one_behind [] [] r s e = (refl, cc)
  one_behind [] (y ∷ ys) r s e = let n = can.no_comma in let same : close ≡ Comma = cc in absurd (n same)
  one_behind (x ∷ xs) [] r s e = let n = can.no_comma in let same : close ≡ Comma = cc in absurd (n same)
  one_behind (x ∷ xs) (y ∷ ys) r s e =
      let u = can.one x y (behind_commas kind.tokens xs (sign close ∷ r)) (behind_commas kind.tokens ys (sign close ∷ s)) (behind_ends x xs r)
      (behind_ends y ys s) cc in
      let h = u.0 in
      let v = one_behind xs ys r s u.1 in
      let t = v.0 in
      (cc, v.1)

  pub one_list : (xs ys : List X) (r s : List Token) → list_tokens kind.tokens xs (sign close ∷ r) ≡ list_tokens kind.tokens ys (sign close ∷ s)
      → (xs ≡ ys) × (r ≡ s)
  one_list [] [] r s e = (refl, cc)
  one_list [] (y ∷ ys) r s e = absurd (can.begins y _ r (sym e))
  one_list (x ∷ xs) [] r s e = absurd (can.begins x _ s e)
  one_list (x ∷ xs) (y ∷ ys) r s e = one_behind (x ∷ xs) (y ∷ ys) r s (ap (λ w. sign Comma ∷ w) e)

  -- what is left of the list, where some of it was read and a comma came
  left : (old : Ahead) (front : List X) (w : List Token) → old.tokens ≡ before kind.tokens front w → NoSign close old.tokens → (xs : List X) (r : List Token)
      → Stands (list_phrase kind close) old xs r → (y : X) × (ys : List X) × (xs ≡ front ++ y ∷ ys)
      × (w ≡ kind.tokens y (behind_commas kind.tokens ys (sign close ∷ r)))
  left old front w e ajar [] r st = absurd (ajar r st.tokens)
  left old front w e ajar (x ∷ xs) r st = behind front w x xs r (sym e ∙ st.tokens)

  pub no_ninth : (old mid : Ahead) (front : List X) → ReadBefore kind old mid front → NoSign close old.tokens → length front ≡ 8
      → NoneStands (list_phrase kind close) old
  no_ninth old mid front so_far ajar n xs r st =
      let l = left old front mid.tokens so_far.tokens ajar xs r st in
      omega (arith, st.small, ap length l.2, length-append front (l.0 ∷ l.1), n)

  pub no_item : (old mid : Ahead) (front : List X) → ReadBefore kind old mid front → NoSign close old.tokens → NoneStands kind mid
      → NoneStands (list_phrase kind close) old
  no_item old mid front so_far ajar none xs r st =
      let l = left old front mid.tokens so_far.tokens ajar xs r st in
      none l.0 (behind_commas kind.tokens l.1 (sign close ∷ r)) (record {
        tokens = l.3;
        ends = behind_ends l.0 l.1 r;
        fits = omega (arith, st.fits, ap (list_nodes kind.nodes) l.2, list_nodes-append kind.nodes front (l.0 ∷ l.1), so_far.room);
        small = can.small l.0;
      })

  no_sign : (ys : List X) (v r : List Token) → v ≡ behind_commas kind.tokens ys (sign close ∷ r) → NoSign close v → NoSign Comma v → ⊥
  no_sign [] v r e c d = c r e
  no_sign (y ∷ ys) v r e c d = d _ e

  pub no_comma_here : (old mid : Ahead) (front : List X) (x : X) (v : List Token) → ReadBefore kind old mid front → NoSign close old.tokens
      → Stands kind mid x v → NoSign close v → NoSign Comma v → NoneStands (list_phrase kind close) old
  no_comma_here old mid front x v so_far ajar item c d xs r st =
      let l = left old front mid.tokens so_far.tokens ajar xs r st in
      no_sign l.1 v r (can.one x l.0 v (behind_commas kind.tokens l.1 (sign close ∷ r)) item.ends (behind_ends l.0 l.1 r) (sym item.tokens ∙ l.3)).1 c d

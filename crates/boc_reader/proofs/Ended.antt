-- Where phrases one after another can't go on, there are no more.
use Rattle.std.proofs.Common.{◌≡◌, ◌≢◌, ◌≤◌, List, [], ◌∷◌, ◌++◌, refl, sym, ap, ◌∙◌, subst, arith}
use Rattle.std.proofs.lemmas.List.{append-nil}
use Rattle.boc_reader.specs.declared.terminal.Keyword.{Keyword}
use Rattle.boc_reader.specs.Tokens.{Token, keyword}
use Rattle.boc_reader.specs.Shape.{each_tokens, list_nodes}
use Rattle.boc_reader.specs.Phrases.{Ahead, Phrase, NoneStands}
use Rattle.boc_reader.specs.Grammar.{NoKeyword}
use Rattle.boc_reader.proofs.Refused.{OneReading}
use Rattle.boc_reader.proofs.Each.{AllSmall, AllEnd, ReadEach, list_nodes-append}

-- no phrase of the kind begins here, and one may come before this
pub record Stops {X : Type 0} (kind : Phrase X) (rest : List Token) : Type 0 where
  pub ends : (x : X) → kind.Ends x rest
  pub none : (x : X) (after : List Token) → rest ≢ kind.tokens x after

all_small_behind : {X : Type 0} (kind : Phrase X) (xs ys : List X) → AllSmall kind (xs ++ ys) → AllSmall kind ys
all_small_behind kind [] ys h = h
all_small_behind kind (x ∷ xs) ys h = all_small_behind kind xs ys h.1

module _ {X : Type 0} (kind : Phrase X) (one : OneReading kind) (next : (x y : X) (w : List Token) → kind.Ends x (kind.tokens y w)) where
  each_ends : (x : X) (ys : List X) (r : List Token) → Stops kind r → kind.Ends x (each_tokens kind.tokens ys r)
  each_ends x [] r stop = stop.ends x
  each_ends x (y ∷ ys) r stop = next x y _

  left : (xs ys : List X) (w r : List Token) → AllEnd kind xs w → Stops kind r → each_tokens kind.tokens xs w ≡ each_tokens kind.tokens ys r
      → (zs : List X) × (ys ≡ xs ++ zs) × (w ≡ each_tokens kind.tokens zs r)
  left [] ys w r all stop e = (ys, refl, e)
  left (x ∷ xs) [] w r all stop e = absurd (stop.none x _ (sym e))
  left (x ∷ xs) (y ∷ ys) w r all stop e =
      let u = one x y (each_tokens kind.tokens xs w) (each_tokens kind.tokens ys r) all.0 (each_ends y ys r stop) e in
      let l = left xs ys w r all.1 stop u.1 in
      (l.0, ap (λ z. z ∷ ys) (sym u.0) ∙ ap (λ zs. x ∷ zs) l.1, l.2)

  none_left : (mid : Ahead) (zs : List X) (r : List Token) → Stops kind r → NoneStands kind mid → mid.tokens ≢ r → mid.tokens ≡ each_tokens kind.tokens zs r
      → list_nodes kind.nodes zs ≤ mid.room → AllSmall kind zs → ⊥
  none_left mid [] r stop none ajar e n small = ajar e
  none_left mid (z ∷ zs) r stop none ajar e n small =
      none z (each_tokens kind.tokens zs r) (record { tokens = e; ends = each_ends z zs r stop; fits = omega arith; small = small.0 })

  -- some were read, and no further one can be
  pub no_next : (old mid : Ahead) (xs ys : List X) (r : List Token) → ReadEach kind old mid xs → NoneStands kind mid → Stops kind r → mid.tokens ≢ r
      → old.tokens ≡ each_tokens kind.tokens ys r → list_nodes kind.nodes ys ≤ old.room → AllSmall kind ys → ⊥
  no_next old mid xs ys r so_far none stop ajar e n small =
      let l = left xs ys mid.tokens r so_far.ends stop (sym so_far.tokens ∙ e) in
      none_left mid l.0 r stop none ajar l.2
      (omega (arith, so_far.room, ap (list_nodes kind.nodes) l.1, list_nodes-append kind.nodes xs l.0))
      (all_small_behind kind xs l.0 (subst (AllSmall kind) l.1 small))

  no_left : (zs : List X) (w r : List Token) → Stops kind w → w ≡ each_tokens kind.tokens zs r → (zs ≡ []) × (w ≡ r)
  no_left [] w r stop e = (refl, e)
  no_left (z ∷ zs) w r stop e = absurd (stop.none z _ e)

  -- tokens are those of one list only
  pub one_each : (xs ys : List X) (w r : List Token) → AllEnd kind xs w → Stops kind w → Stops kind r
      → each_tokens kind.tokens xs w ≡ each_tokens kind.tokens ys r → (xs ≡ ys) × (w ≡ r)
  one_each xs ys w r all at_w at_r e =
      let l = left xs ys w r all at_r e in
      let n = no_left l.0 w r at_w l.2 in
      (sym (l.1 ∙ ap (λ zs. xs ++ zs) n.0 ∙ append-nil xs), n.1)

-- phrases that a keyword begins, and that may come before anything
module _ {X : Type 0} (kind : Phrase X) (word : Keyword) (one : OneReading kind) (free : (x : X) (w : List Token) → kind.Ends x w)
    (begins : (x : X) (w : List Token) → (r : List Token) × (kind.tokens x w ≡ keyword word ∷ r)) where
  stop : (r : List Token) → NoKeyword word r → Stops kind r
  stop r h = record { ends = λ x. free x r; none = λ x w e. h _ (e ∙ (begins x w).1) }

  all_end : (xs : List X) (w : List Token) → AllEnd kind xs w
  all_end [] w = tt
  all_end (x ∷ xs) w = (free x _, all_end xs w)

  -- one after another, up to where the keyword isn't next: their tokens are those of one list only
  pub one_keyword : (xs ys : List X) (r s : List Token) → NoKeyword word r → NoKeyword word s → each_tokens kind.tokens xs r ≡ each_tokens kind.tokens ys s
      → (xs ≡ ys) × (r ≡ s)
  one_keyword xs ys r s p q e = one_each kind one (λ x _ _. free x _) xs ys r s (all_end xs r) (stop r p) (stop s q) e

  -- some were read, and the keyword is next, but no further one
  pub no_next_keyword : (old mid : Ahead) (xs ys : List X) (after r : List Token) → ReadEach kind old mid xs → mid.tokens ≡ keyword word ∷ after
      → NoneStands kind mid → NoKeyword word r
      → old.tokens ≡ each_tokens kind.tokens ys r → list_nodes kind.nodes ys ≤ old.room → AllSmall kind ys → ⊥
  no_next_keyword old mid xs ys after r so_far e none ends =
      no_next kind one (λ x _ _. free x _) old mid xs ys r so_far none (stop r ends) (λ same. ends after (sym same ∙ e))

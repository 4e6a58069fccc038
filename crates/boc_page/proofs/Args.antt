-- What follows the name of a def in the name of a row.
use Rattle.std.proofs.Common.{◌≡◌, ◌≢◌, ℕ, ◌⊎◌, inl, inr, Bool, true, false, List, [], ◌∷◌}
use Rattle.std.proofs.Common.{◌++◌, ◌<◌, length, get_or, Some, slice_get, refl, sym, ap, ◌∙◌, subst, arith}
use Rattle.std.specs.Prelude.{◌==◌}
use Rattle.std.proofs.lemmas.Bool.{false≢true}
use Rattle.std.proofs.lemmas.Bool.Decides.{Decides-eqb}
use Rattle.std.proofs.lemmas.Option.{same_Some, slice_get-get_or, slice_get_within}
use Rattle.boc_names.specs.declared.names.Names.{Names}
use Rattle.boc_names.specs.Names.{Text, texts_of}
use Rattle.boc_page.specs.Columns.{AreArgs, IsArgs, def_name, has_blank}
use Rattle.boc_page.proofs.Listed.{texts_count}
use Rattle.boc_page.proofs.Places.{same_at_each, slice_get-in_pushed}

-- two texts behind the same are the same
same_behind : (a x y : Text) → a ++ x ≡ a ++ y → x ≡ y
same_behind [] x y e = e
same_behind (c ∷ a) x y e = same_behind a x y (cc)

-- a row's name that begins with its def's
pub args_behind : (def row rest : Text) → has_blank def ≡ false → row ≡ def ++ rest → IsArgs def row rest
args_behind def row rest plain is = record {
  named = λ after own after_is. same_behind def rest after (sym is ∙ after_is);
  apart = λ none. absurd (none rest is);
  nameless = λ blank. absurd (false≢true (sym plain ∙ blank));
}

-- one that does not
pub args_apart : (def row : Text) → ((rest : Text) → row ≢ def ++ rest) → IsArgs def row []
args_apart def row none = record {
  named = λ after own after_is. absurd (none after after_is);
  apart = λ own. refl;
  nameless = λ blank. refl;
}

-- a test holds, or does not
bools : (b : Bool) → (b ≡ true) ⊎ (b ≡ false)
bools true = inl refl
bools false = inr refl

-- a text begins with another, or does not
begins : (a t : Text) → ((after : Text) × (t ≡ a ++ after)) ⊎ ((after : Text) → t ≢ a ++ after)
begins [] t = inl (t, refl)
begins (c ∷ a) [] = inr (λ after e. cc)
begins (c ∷ a) (d ∷ t) = elim (begins a t) [
  | inl h ↦ elim (bools (c == d)) [
    | inl same ↦ let e : c ≡ d = (Decides-eqb c d).0 same in inl (h.0, ap (λ (own : Text). d ∷ own) h.1 ∙ ap (λ (x : ℕ). x ∷ (a ++ h.0)) (sym e))
    | inr other ↦ inr (λ after e. let same : c ≡ d = cc in absurd (false≢true (sym other ∙ (Decides-eqb c d).1 same)))
  ]
  | inr none ↦ inr (λ after e. let own : t ≡ a ++ after = cc in none after own)
]

-- there is one text at most that follows
one_rest : (def row x y : Text) → IsArgs def row x → IsArgs def row y → x ≡ y
one_rest def row x y p q = elim (bools (has_blank def)) [
  | inl blank ↦ p.nameless blank ∙ sym (q.nameless blank)
  | inr plain ↦ elim (begins def row) [
    | inl h ↦ p.named h.0 plain h.1 ∙ sym (q.named h.0 plain h.1)
    | inr none ↦ p.apart none ∙ sym (q.apart none)
  ]
]

-- the rows' are determined
pub one_args : (names : Names) (args other : List Text) → AreArgs names args → AreArgs names other → args ≡ other
one_args names args other p q = same_at_each args other (p.whole ∙ sym q.whole) (λ k x y x_is y_is.
    let whole : length (texts_of names.rows.items) ≡ length names.rows.items = texts_count names.rows.items in
    let there : k < length (texts_of names.rows.items) = omega (arith, slice_get_within args k x x_is, p.whole, whole) in
    let row = get_or (texts_of names.rows.items) k [] in
    let row_is : slice_get (texts_of names.rows.items) k ≡ Some row = slice_get-get_or (texts_of names.rows.items) k [] there in
    one_rest (def_name names k) row x y (p.at k row x row_is x_is) (q.at k row y row_is y_is))

-- what follows in one more row
pub args_more : (names : Names) (column more : List Text) (n : ℕ) (row args : Text) → length column ≡ n → slice_get (texts_of names.rows.items) n ≡ Some row
    → more ≡ column ++ args ∷ [] → IsArgs (def_name names n) row args
    → ((r : ℕ) (own rest : Text) → slice_get (texts_of names.rows.items) r ≡ Some own → slice_get column r ≡ Some rest → IsArgs (def_name names r) own rest)
    → (r : ℕ) (own rest : Text) → slice_get (texts_of names.rows.items) r ≡ Some own → slice_get more r ≡ Some rest → IsArgs (def_name names r) own rest
args_more names column more n row args whole there is are before = λ r own rest own_is rest_is.
    elim (slice_get-in_pushed column args r rest (subst (λ (xs : List Text). slice_get xs r ≡ Some rest) is rest_is)) [
      | inl h ↦ before r own rest own_is h
      | inr h ↦ let here : r ≡ n = h.0 ∙ whole in
          let same : row ≡ own = same_Some row own (sym there ∙ ap (λ (k : ℕ). slice_get (texts_of names.rows.items) k) (sym here) ∙ own_is) in
          subst (λ (k : ℕ). IsArgs (def_name names k) own rest) (sym here) (subst (λ (x : Text). IsArgs (def_name names n) x rest) same
          (subst (λ (x : Text). IsArgs (def_name names n) row x) h.1 are))
    ]

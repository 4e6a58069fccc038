-- What is known by name.
use Rattle.std.proofs.Common.{◌≡◌, ℕ, ◌+◌, ◌<◌, ◌≤◌, List, [], ◌∷◌, ◌++◌, length, drop, get_or, cond, Bool, true, false, Option, Some, None}
use Rattle.std.proofs.Common.{refl, ap, sym, ◌∙◌, subst, append_assoc, ⊎_elim}
use Rattle.std.specs.Option.{is_some, option_or}
use Rattle.std.specs.BTreeMap.{BTreeMap}
use Rattle.std.specs.Str.{bytes_eq}
use denote.Ref.{Bor}
use Rattle.std.proofs.lemmas.Bool.{cases_Bool, true≢false}
use Rattle.std.proofs.lemmas.List.{append-nil, drop_all, drop_more}
use Rattle.std.proofs.lemmas.Slice.Eq.{bytes_eq-Decides}
use Rattle.boc_names.specs.Names.{Text, text_at}
use Rattle.boc_compare.specs.declared.totals.Totals.{Totals}
use Rattle.boc_compare.specs.declared.pairs.Pair.{Pair}
use Rattle.boc_compare.specs.Pairing.{first_of, only_after, paired, with_after}
use Rattle.boc_compare.specs.ByName.{KnowsFirst, PutsFirst, alone, known, known_after, unknown_before}

-- what an index reads where there are no totals
abbrev pub nothing : Totals
nothing = record { key = 0; count = 0; ticks = 0; more = 0; chain = 0 }

or_none : (o : Option Totals) → option_or o None ≡ o
or_none None = refl
or_none (Some x) = refl

or_cond : (o : Option Totals) (b : Bool) (own : Totals) (rest : Option Totals) → option_or (option_or o (cond b (Some own) None)) rest
    ≡ option_or o (cond b (Some own) rest)
or_cond None true own rest = refl
or_cond None false own rest = refl
or_cond (Some x) b own rest = refl

-- where nothing is known by the name yet
pub put_new : (old new : BTreeMap (Bor (List ℕ)) Totals) (name : Text) (own : Totals) → is_some (known old name) ≡ false
    → ((q : Text) → known new q ≡ cond (bytes_eq name q) (Some own) (known old q)) → PutsFirst old name own new
put_new old new name own none now q = now q ∙ ⊎_elim
    (λ (same : bytes_eq name q ≡ true). at_none (known old q) (bytes_eq name q) same
    (subst (λ (t : Text). is_some (known old t) ≡ false) ((bytes_eq-Decides name q).0 same) none))
    (λ (apart : bytes_eq name q ≡ false). rw apart (sym (or_none (known old q))))
    (cases_Bool (bytes_eq name q))
  where
    at_none : (o : Option Totals) (b : Bool) → b ≡ true → is_some o ≡ false → cond b (Some own) o ≡ option_or o (cond b (Some own) None)
    at_none None b e h = rw e refl
    at_none (Some x) b e h = absurd (true≢false h)

-- ---- all names

-- those behind the first n are still to come
abbrev pub KnowsSoFar : List Text → List Totals → ℕ → BTreeMap (Bor (List ℕ)) Totals → Type 0
KnowsSoFar names list n named = (name : Text) → option_or (known named name) (first_of names (drop n list) name) ≡ first_of names list name

pub known_more : (names : List Text) (list : List Totals) (n : ℕ) (x : Totals) (old new : BTreeMap (Bor (List ℕ)) Totals) (name : Text) → n < length list
    → name ≡ text_at names (get_or list n x).key → KnowsSoFar names list n old → PutsFirst old name (get_or list n x) new → KnowsSoFar names list (n + 1) new
known_more names list n x old new name there is so puts q =
    let own : Totals = get_or list n x in
    ap (λ (o : Option Totals). option_or o (first_of names (drop (n + 1) list) q)) (puts q)
    ∙ or_cond (known old q) (bytes_eq name q) own (first_of names (drop (n + 1) list) q)
    ∙ ap (λ (t : Text). option_or (known old q) (cond (bytes_eq t q) (Some own) (first_of names (drop (n + 1) list) q))) is
    ∙ sym (ap (λ (l : List Totals). option_or (known old q) (first_of names l q)) (drop_more list n x there))
    ∙ so q

pub all_known : (names : List Text) (list : List Totals) (n : ℕ) (named : BTreeMap (Bor (List ℕ)) Totals) → length list ≤ n → KnowsSoFar names list n named
    → KnowsFirst names list named
all_known names list n named long so name = sym (or_none (known named name))
    ∙ sym (ap (λ (l : List Totals). option_or (known named name) (first_of names l name)) (drop_all n list long)) ∙ so name

-- ---- pairs

module _ (f : List Totals → List Pair) (none : f [] ≡ []) where
  -- a loop puts what is told of one behind what is told of those before it
  abbrev pub PutSoFar : List Pair → List Totals → ℕ → List Pair → Type 0
  PutSoFar old list n pairs = pairs ++ f (drop n list) ≡ old ++ f list

  pub put_more : (old : List Pair) (list : List Totals) (n : ℕ) (x : Totals) (pairs more now : List Pair) → n < length list
      → f (get_or list n x ∷ drop (n + 1) list) ≡ more ++ f (drop (n + 1) list) → now ≡ pairs ++ more → PutSoFar old list n pairs
      → PutSoFar old list (n + 1) now
  put_more old list n x pairs more now there step is so =
      ap (λ (l : List Pair). l ++ f (drop (n + 1) list)) is ∙ append_assoc pairs more (f (drop (n + 1) list))
      ∙ ap (λ (l : List Pair). pairs ++ l) (sym step) ∙ sym (ap (λ (l : List Totals). pairs ++ f l) (drop_more list n x there)) ∙ so

  pub put_all : (old : List Pair) (list : List Totals) (n : ℕ) (pairs : List Pair) → length list ≤ n → PutSoFar old list n pairs → pairs ≡ old ++ f list
  put_all old list n pairs long so =
      sym (append-nil pairs) ∙ ap (λ (l : List Pair). pairs ++ l) (sym none) ∙ sym (ap (λ (l : List Totals). pairs ++ f l) (drop_all n list long)) ∙ so

-- what goes with one before, and one after
pub with_one : (x y : Totals) (o p : Option Totals) → x ≡ y → o ≡ p
    → ◌≡◌ {A = List Pair} (record { before = Some x; after = o } ∷ []) (record { before = Some y; after = p } ∷ [])
with_one x y o p e f = λ i. record { before = Some (e i); after = f i } ∷ []

pub alone_one : (x y : Totals) (o p : Option Totals) → x ≡ y → o ≡ p → alone x o ≡ alone y p
alone_one x y o p e f = λ i. alone (e i) (f i)

abbrev beside : Totals → Option Totals → Pair
beside own other = record { before = Some own; after = other }

known_is : (before_names after_names : List Text) (before after : List Totals) (named : BTreeMap (Bor (List ℕ)) Totals) → KnowsFirst after_names after named
    → known_after before_names before named ≡ with_after before_names before after_names after
known_is before_names after_names [] after named is = refl
known_is before_names after_names (own ∷ before) after named is =
    ap (λ (o : Option Totals). beside own o ∷ known_after before_names before named) (is (text_at before_names own.key))
    ∙ ap (λ (l : List Pair). beside own (first_of after_names after (text_at before_names own.key)) ∷ l)
    (known_is before_names after_names before after named is)

alone_next : (own : Totals) (o : Option Totals) (rest : List Pair) → alone own o ++ rest
    ≡ cond (is_some o) rest (record { before = None; after = Some own } ∷ rest)
alone_next own None rest = refl
alone_next own (Some x) rest = refl

unknown_is : (before_names after_names : List Text) (before after : List Totals) (named : BTreeMap (Bor (List ℕ)) Totals)
    → KnowsFirst before_names before named → unknown_before after_names after named ≡ only_after before_names before after_names after
unknown_is before_names after_names before [] named is = refl
unknown_is before_names after_names before (own ∷ after) named is =
    ap (λ (l : List Pair). alone own (known named (text_at after_names own.key)) ++ l) (unknown_is before_names after_names before after named is)
    ∙ ap (λ (o : Option Totals). alone own o ++ only_after before_names before after_names after) (is (text_at after_names own.key))
    ∙ alone_next own (first_of before_names before (text_at after_names own.key)) (only_after before_names before after_names after)

pub paired_is : (before_names after_names : List Text) (before after : List Totals) (named_after named_before : BTreeMap (Bor (List ℕ)) Totals)
    (none some pairs : List Pair) → KnowsFirst after_names after named_after → KnowsFirst before_names before named_before → none ≡ []
    → some ≡ none ++ known_after before_names before named_after → pairs ≡ some ++ unknown_before after_names after named_before
    → pairs ≡ paired before before_names after after_names
paired_is before_names after_names before after named_after named_before none some pairs first other empty puts more =
    more
    ∙ ap (λ (l : List Pair). l ++ unknown_before after_names after named_before)
    (puts ∙ ap (λ (l : List Pair). l ++ known_after before_names before named_after) empty ∙ known_is before_names after_names before after named_after first)
    ∙ ap (λ (l : List Pair). with_after before_names before after_names after ++ l)
    (unknown_is before_names after_names before after named_before other)

-- Names that are listed.
use Rattle.std.proofs.Common.{◌≡◌, ◌≢◌, ℕ, ◌+◌, ◌<◌, inl, inr, List, [], ◌∷◌, ◌++◌, length}
use Rattle.std.proofs.Common.{get_or, Option, None, Some, slice_get, refl, sym, ap, ◌∙◌, subst, arith}
use Rattle.std.proofs.lemmas.Grind.{get_or_default_zero}
use Rattle.std.proofs.lemmas.Option.{none-some, same_Some, slice_get-map, slice_get_read, slice_get_within}
use Rattle.std.specs.Prelude.{Vec, ◌==◌, ◌≤◌, cond, map, option_map, take, unwrap_or, Bool, false}
use Rattle.std.specs.Global.{Global}
use Rattle.std.proofs.lemmas.List.{length_push, length-map, map-append, take_more, take_all}
use Rattle.boc_names.specs.declared.names.Names.{Names}
use Rattle.boc_names.specs.Names.{Text, text_at, texts_of}
use Rattle.boc_page.specs.declared.defs.Defs.{Defs}
use Rattle.boc_page.specs.Columns.{AreDefs, has_blank, shown_name}
use Rattle.boc_page.specs.Listed.{AreListed, ArePlaces, StayListed}
use Rattle.boc_page.proofs.Places.{slice_get-before, slice_get-in_pushed, slice_get-pushed}

-- names stay where others are put behind them
pub stay_behind : (names others : List Text) → StayListed names (names ++ others)
stay_behind names others = record { at = λ place name is. slice_get-before names others place name is }

-- the empty name is listed and noted
pub listed_empty : (names : List Text) → AreListed names None → AreListed (names ++ [] ∷ []) (Some (length names))
listed_empty names before = record {
  noted = λ place is. subst (λ (k : ℕ). slice_get (names ++ [] ∷ []) k ≡ Some []) (same_Some (length names) place is) (slice_get-pushed names []);
  alone = λ place is. elim (slice_get-in_pushed names [] place [] is) [
    | inl h ↦ absurd (none-some place (before.alone place h))
    | inr h ↦ ap Some (sym h.0)
  ];
}

-- a name that is not empty is listed
pub listed_name : (names : List Text) (nameless : Option ℕ) (name : Text) → name ≢ [] → AreListed names nameless → AreListed (names ++ name ∷ []) nameless
listed_name names nameless name some before = record {
  noted = λ place is. slice_get-before names (name ∷ []) place [] (before.noted place is);
  alone = λ place is. elim (slice_get-in_pushed names name place [] is) [
    | inl h ↦ before.alone place h
    | inr h ↦ absurd (some h.1)
  ];
}

-- one more def has its place
pub more_places : (def_names listed later : List Text) (places : List ℕ) (name : Text) (place : ℕ) → ArePlaces def_names listed places → StayListed listed later
    → slice_get later place ≡ Some (shown_name name) → ArePlaces (def_names ++ name ∷ []) later (places ++ place ∷ [])
more_places def_names listed later places name place before stay there = record {
  whole = length_push places place ∙ ap (λ (n : ℕ). n + 1) before.whole ∙ sym (length_push def_names name);
  at = λ d p n is p_is. elim (slice_get-in_pushed def_names name d n is) [
    | inl h ↦ elim (slice_get-in_pushed places place d p p_is) [
      | inl own ↦ stay.at p (shown_name n) (before.at d p n h own)
      | inr own ↦ absurd (omega (arith, slice_get_within def_names d n h, own.0, before.whole))
    ]
    | inr h ↦ elim (slice_get-in_pushed places place d p p_is) [
      | inl own ↦ absurd (omega (arith, slice_get_within places d p own, h.0, before.whole))
      | inr own ↦ subst (λ (k : ℕ). slice_get later k ≡ Some (shown_name n)) own.1
          (subst (λ (t : Text). slice_get later place ≡ Some (shown_name t)) h.1 there)
    ]
  ];
}

-- places stay, as what is listed does
pub places_stay : (def_names listed later : List Text) (places : List ℕ) → ArePlaces def_names listed places → StayListed listed later
    → ArePlaces def_names later places
places_stay def_names listed later places before stay = record {
  whole = before.whole;
  at = λ d place name is p_is. stay.at place (shown_name name) (before.at d place name is p_is);
}

-- the texts with one more
pub texts_pushed : (names more : List (Vec ℕ Global)) (v : Vec ℕ Global) (text : Text) → more ≡ names ++ v ∷ [] → v.items ≡ text
    → texts_of more ≡ texts_of names ++ text ∷ []
texts_pushed names more v text is v_is = ap texts_of is ∙ map-append (λ (t : Vec ℕ Global). t.items) names (v ∷ [])
    ∙ ap (λ (t : Text). texts_of names ++ t ∷ []) v_is

-- the empty name is put behind those that are listed
pub put_empty : (names more : List Text) (nameless : Option ℕ) (place : ℕ) → more ≡ names ++ [] ∷ [] → place ≡ length names → nameless ≡ None
    → AreListed names nameless → AreListed more (Some place) × StayListed names more × (slice_get more place ≡ Some [])
put_empty names more nameless place is place_is none before = (
  subst (λ (t : List Text). AreListed t (Some place)) (sym is) (subst (λ (k : ℕ). AreListed (names ++ [] ∷ []) (Some k)) (sym place_is)
      (listed_empty names (subst (λ (o : Option ℕ). AreListed names o) none before))),
  subst (λ (t : List Text). StayListed names t) (sym is) (stay_behind names ([] ∷ [])),
  subst (λ (t : List Text). slice_get t place ≡ Some []) (sym is) (subst (λ (k : ℕ). slice_get (names ++ [] ∷ []) k ≡ Some []) (sym place_is)
      (slice_get-pushed names [])),
)

-- so is a name
pub put_name : (names more : List Text) (nameless : Option ℕ) (name : Text) (place : ℕ) → more ≡ names ++ name ∷ [] → place ≡ length names → name ≢ []
    → AreListed names nameless → AreListed more nameless × StayListed names more × (slice_get more place ≡ Some name)
put_name names more nameless name place is place_is some before = (
  subst (λ (t : List Text). AreListed t nameless) (sym is) (listed_name names nameless name some before),
  subst (λ (t : List Text). StayListed names t) (sym is) (stay_behind names (name ∷ [])),
  subst (λ (t : List Text). slice_get t place ≡ Some name) (sym is) (subst (λ (k : ℕ). slice_get (names ++ name ∷ []) k ≡ Some name) (sym place_is)
      (slice_get-pushed names name)),
)

-- how many texts there are
pub texts_count : (names : List (Vec ℕ Global)) → length (texts_of names) ≡ length names
texts_count names = length-map names (λ (t : Vec ℕ Global). t.items)

-- a text at its place
pub text_read : (names : List (Vec ℕ Global)) (n : ℕ) (v : Vec ℕ Global) → n < length names → v ≡ get_or names n v
    → slice_get (texts_of names) n ≡ Some v.items
text_read names n v there is = slice_get-map (λ (t : Vec ℕ Global). t.items) names n
    ∙ ap (λ (o : Option (Vec ℕ Global)). option_map (λ (t : Vec ℕ Global). t.items) o) (slice_get_read names (length names) n v refl there is)

-- a name that is not empty
pub is_some : (name : Text) → (length name == 0) ≡ false → name ≢ []
is_some [] is = λ e. cc
is_some (x ∷ name) is = λ e. cc

-- a name without a blank is shown
pub shown : (name : Text) → has_blank name ≡ false → shown_name name ≡ name
shown name plain = ap (λ (b : Bool). cond b [] name) plain

-- the place of the next def
pub places_step : (names : List (Vec ℕ Global)) (i : ℕ) (item : Vec ℕ Global) (listed later : List Text) (places more : List ℕ) (place : ℕ) → i < length names
    → item ≡ get_or names i item → ArePlaces (texts_of (take i names)) listed places → StayListed listed later
    → slice_get later place ≡ Some (shown_name item.items) → more ≡ places ++ place ∷ [] → ArePlaces (texts_of (take (i + 1) names)) later more
places_step names i item listed later places more place there is before stay at more_is =
    let step : take (i + 1) names ≡ take i names ++ item ∷ [] = take_more names i item there ∙ ap (λ (v : Vec ℕ Global). take i names ++ v ∷ []) (sym is) in
    let texts : texts_of (take (i + 1) names) ≡ texts_of (take i names) ++ item.items ∷ [] =
    texts_pushed (take i names) (take (i + 1) names) item item.items step refl in
    subst (λ (xs : List ℕ). ArePlaces (texts_of (take (i + 1) names)) later xs) (sym more_is)
    (subst (λ (ts : List Text). ArePlaces ts later (places ++ place ∷ [])) (sym texts)
    (more_places (texts_of (take i names)) listed later places item.items place before stay at))

-- the place of the next row's def
pub rows_step : (texts : List Text) (defs : List ℕ) (i def : ℕ) (listed later : List Text) (places more : List ℕ) (place : ℕ) → i < length defs
    → def ≡ get_or defs i def → ArePlaces (map (text_at texts) (take i defs)) listed places → StayListed listed later
    → slice_get later place ≡ Some (shown_name (text_at texts def)) → more ≡ places ++ place ∷ []
    → ArePlaces (map (text_at texts) (take (i + 1) defs)) later more
rows_step texts defs i def listed later places more place there is before stay at more_is =
    let step : take (i + 1) defs ≡ take i defs ++ def ∷ [] = take_more defs i def there ∙ ap (λ (d : ℕ). take i defs ++ d ∷ []) (sym is) in
    let names : map (text_at texts) (take (i + 1) defs) ≡ map (text_at texts) (take i defs) ++ text_at texts def ∷ [] =
    ap (λ (ds : List ℕ). map (text_at texts) ds) step ∙ map-append (text_at texts) (take i defs) (def ∷ []) in
    subst (λ (xs : List ℕ). ArePlaces (map (text_at texts) (take (i + 1) defs)) later xs) (sym more_is)
    (subst (λ (ts : List Text). ArePlaces ts later (places ++ place ∷ [])) (sym names)
    (more_places (map (text_at texts) (take i defs)) listed later places (text_at texts def) place before stay at))

-- where all rows have their places, these are the defs
pub are_defs : (names : Names) (defs : Defs) (nameless : Option ℕ) (i : ℕ) → length names.defs.items ≤ i → AreListed (texts_of defs.names.items) nameless
    → ArePlaces (map (text_at (texts_of names.def_names.items)) (take i names.defs.items)) (texts_of defs.names.items) defs.of_rows.items → AreDefs names defs
are_defs names defs nameless i all listed places =
    let texts = texts_of names.def_names.items in
    let whole : take i names.defs.items ≡ names.defs.items = take_all i names.defs.items all in
    let own : ArePlaces (map (text_at texts) names.defs.items) (texts_of defs.names.items) defs.of_rows.items =
    subst (λ (ds : List ℕ). ArePlaces (map (text_at texts) ds) (texts_of defs.names.items) defs.of_rows.items) whole places in
    record {
      whole = own.whole ∙ length-map names.defs.items (text_at texts);
      at = λ r d place is place_is.
          let there : slice_get (map (text_at texts) names.defs.items) r ≡ Some (text_at texts d) = slice_get-map (text_at texts) names.defs.items r
          ∙ ap (λ (o : Option ℕ). option_map (text_at texts) o) is in
          ap (λ (o : Option Text). unwrap_or o []) (own.at r place (text_at texts d) there place_is);
      nameless = λ a b a_is b_is. same_Some a b (sym (listed.alone a a_is) ∙ listed.alone b b_is);
    }

-- a number at its place
pub number_read : (numbers : List ℕ) (i : ℕ) → i < length numbers → get_or numbers i 0 ≡ get_or numbers i (get_or numbers i 0)
number_read numbers i there = sym (get_or_default_zero numbers i (get_or numbers i 0) there)

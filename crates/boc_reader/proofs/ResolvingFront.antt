-- What is resolved so far, before what follows.
use Rattle.std.proofs.Common.{◌≡◌, ℕ, suc, ◌+◌, ◌<◌, List, [], ◌∷◌, ◌++◌, length, map, drop, get_or, Bool, false, Option, Some, None, refl, sym, ap, ◌∙◌}
use Rattle.std.proofs.Common.{add-one, drop-cons}
use Rattle.std.specs.Prelude.{if◌then◌else◌}
use Rattle.std.specs.Option.{option_map, option_and_then}
use Rattle.std.proofs.Math.Seq.{append_snoc}
use Rattle.std.proofs.lemmas.List.{map_push}
use Rattle.boc_reader.specs.declared.shape.DefShape.{DefShape}
use Rattle.boc_reader.specs.Names.{Named, Top, PlainBody, among, all_names}
use Rattle.boc_reader.specs.Views.{def_of}
use Rattle.boc_reader.specs.Resolving.{def_names, bodies_behind}
use Rattle.boc_reader.proofs.ResolvingLists.{with_front}

-- the item that stands at a place, and those after it
pub next_at : {X : Type 0} (xs : List X) (i : ℕ) (x : X) → i < length xs → x ≡ get_or xs i x → drop i xs ≡ x ∷ drop (i + 1) xs
next_at xs i x h e = rw (add-one, drop-cons xs i x h) (ap (λ z. z ∷ drop (suc i) xs) (sym e))

front_step : {Y : Type 0} (front : List Y) (y : Y) (rest : Option (List Y))
    → with_front front (option_map (λ ys. y ∷ ys) rest) ≡ with_front (front ++ y ∷ []) rest
front_step front y None = refl
front_step front y (Some ys) = ap Some (sym (append_snoc front y ys))

-- one more is resolved
front_more : {Y Z : Type 0} (made : Z → Y) (front all : List Z) (z : Z) (whole before rest : Option (List Y)) → whole ≡ with_front (map made front) before
    → before ≡ option_map (λ ys. made z ∷ ys) rest → all ≡ front ++ z ∷ [] → whole ≡ with_front (map made all) rest
front_more made front all z whole before rest so_far next more =
    so_far ∙ ap (with_front (map made front)) next ∙ front_step (map made front) (made z) rest
    ∙ ap (λ ys. with_front ys rest) (sym (map_push made front z) ∙ sym (ap (map made) more))

-- one more is made as it is seen
pub made_more : {X W Y Z : Type 0} (look : W → X) (view : X → Y) (made : Z → Y) (ws : List W) (i : ℕ) (w : W) (front all : List Z) (z : Z) (whole : List Y)
    → i < length ws → w ≡ get_or ws i w → made z ≡ view (look w) → all ≡ front ++ z ∷ [] → whole ≡ map made front ++ map view (map look (drop i ws))
    → whole ≡ map made all ++ map view (map look (drop (i + 1) ws))
made_more look view made ws i w front all z whole h e same more so_far =
    let rest = map view (map look (drop (i + 1) ws)) in
    so_far ∙ ap (λ us. map made front ++ map view (map look us)) (next_at ws i w h e)
    ∙ ap (λ y. map made front ++ (y ∷ rest)) (sym same)
    ∙ sym (append_snoc (map made front) (made z) rest)
    ∙ ap (λ ys. ys ++ rest) (sym (map_push made front z) ∙ sym (ap (map made) more))

-- one more of several is resolved
pub names_more : {X W Y Z : Type 0} (names : X → Option Y) (view : W → X) (made : Z → Y) (ws : List W) (i : ℕ) (w : W) (front all : List Z) (z : Z)
    (whole : Option (List Y)) → i < length ws → w ≡ get_or ws i w → names (view w) ≡ Some (made z) → all ≡ front ++ z ∷ []
    → whole ≡ with_front (map made front) (all_names names (map view (drop i ws)))
    → whole ≡ with_front (map made all) (all_names names (map view (drop (i + 1) ws)))
names_more names view made ws i w front all z whole h e found more so_far =
    let rest = all_names names (map view (drop (i + 1) ws)) in
    front_more made front all z whole _ rest so_far
    (ap (λ us. all_names names (map view us)) (next_at ws i w h e) ∙ ap (λ o. option_and_then (λ y. option_map (λ ys. y ∷ ys) rest) o) found)
    more

-- the body of one more def is resolved
pub bodies_more : {Z : Type 0} (made : Z → PlainBody) (top : Top) (before after : List Named) (ds : List DefShape) (i : ℕ) (d : DefShape) (front all : List Z)
    (z : Z) (whole : Option (List PlainBody)) → i < length ds → d ≡ get_or ds i d → among before (def_of d).name ≡ false
    → def_names top (def_of d) ≡ Some (made z) → after ≡ before ++ (def_of d).name ∷ [] → all ≡ front ++ z ∷ []
    → whole ≡ with_front (map made front) (bodies_behind top before (map def_of (drop i ds)))
    → whole ≡ with_front (map made all) (bodies_behind top after (map def_of (drop (i + 1) ds)))
bodies_more made top before after ds i d front all z whole h e fresh found named more so_far =
    let rest : List Named → Option (List PlainBody) = λ names. bodies_behind top names (map def_of (drop (i + 1) ds)) in
    let join : Option PlainBody → Option (List PlainBody) = λ o. option_and_then (λ b. option_map (λ bs. b ∷ bs) (rest (before ++ (def_of d).name ∷ []))) o in
    front_more made front all z whole _ (rest after) so_far
    (ap (λ us. bodies_behind top before (map def_of us)) (next_at ds i d h e)
    ∙ ap (λ (b : Bool). if b then None else join (def_names top (def_of d))) fresh
    ∙ ap join found
    ∙ ap (λ names. option_map (λ bs. made z ∷ bs) (rest names)) (sym named))
    more

-- where one of several doesn't resolve, they don't
pub names_none : {X W Y Z : Type 0} (names : X → Option Y) (view : W → X) (made : Z → Y) (ws : List W) (i : ℕ) (w : W) (front : List Z)
    (whole : Option (List Y)) → i < length ws → w ≡ get_or ws i w → whole ≡ with_front (map made front) (all_names names (map view (drop i ws)))
    → names (view w) ≡ None → whole ≡ None
names_none names view made ws i w front whole h e so_far none =
    let rest = all_names names (map view (drop (i + 1) ws)) in
    so_far ∙ ap (λ us. with_front (map made front) (all_names names (map view us))) (next_at ws i w h e)
    ∙ ap (λ o. with_front (map made front) (option_and_then (λ y. option_map (λ ys. y ∷ ys) rest) o)) none

-- where the body of one def doesn't resolve, those of the defs don't
pub bodies_none : {Z : Type 0} (made : Z → PlainBody) (top : Top) (before : List Named) (ds : List DefShape) (i : ℕ) (d : DefShape) (front : List Z)
    (whole : Option (List PlainBody)) → i < length ds → d ≡ get_or ds i d → among before (def_of d).name ≡ false
    → whole ≡ with_front (map made front) (bodies_behind top before (map def_of (drop i ds))) → def_names top (def_of d) ≡ None → whole ≡ None
bodies_none made top before ds i d front whole h e fresh so_far none =
    let rest = bodies_behind top (before ++ (def_of d).name ∷ []) (map def_of (drop (i + 1) ds)) in
    let join : Option PlainBody → Option (List PlainBody) = λ o. option_and_then (λ b. option_map (λ bs. b ∷ bs) rest) o in
    so_far ∙ ap (λ us. with_front (map made front) (bodies_behind top before (map def_of us))) (next_at ds i d h e)
    ∙ ap (λ (b : Bool). with_front (map made front) (if b then None else join (def_names top (def_of d)))) fresh
    ∙ ap (λ o. with_front (map made front) (join o)) none

-- Orders of workers, and who is picked: one of those that can move.
use Rattle.std.proofs.Common.{◌≡◌, ℕ, zero, suc, ◌+◌, ◌%◌, ◌<◌, ◌≤◌, inl, inr, Bool, true, false, ◌||◌, cond, List, [], ◌∷◌, ◌++◌, length, take, drop}
use Rattle.std.proofs.Common.{get_or, refl, sym, ◌∙◌, ap}
use Rattle.std.proofs.Common.{subst, arith}
use Rattle.std.specs.Prelude.{nat_eq, slice_get, slice_index, Option, Some, None}
use Rattle.std.specs.List.{Contains, insert, remove, list_any}
use Rattle.std.proofs.lemmas.Bool.Decides.{Decides-eqb}
use Rattle.std.proofs.lemmas.List.{drop_all}
use Rattle.std.proofs.lemmas.List.Elements.{Contains-append_left, Contains-append_right}
use Rattle.std.proofs.lemmas.Nat.{mod_below}
use Rattle.std.proofs.lemmas.Option.{get_or_from_slice_get, slice_get-get_or}
use Rattle.boc_program.proofs.ChangedItems.{place_below}
use Rattle.boc_program.proofs.RisingNumbers.{first_or_later, has_first, has_later, none_in_none}
use Rattle.boc_machine_laws.proofs.Counting.{by_test}
use Rattle.boc_machine_laws.proofs.Lists.{same_or_not}
use Rattle.arrayvec.specs.ArrayVec.{ArrayVec}
use Rattle.rand_xoshiro.specs.Xoshiro256.{plus_plus}
use Rattle.boc_draws.specs.declared.picker.Picker.{Picker}
use Rattle.boc_draws.specs.declared.picker.Picker.TheVariants as pickers
use Rattle.boc_draws.specs.declared.way.Way.{Way}
use Rattle.boc_draws.specs.declared.way.Way.TheVariants as ways
use Rattle.boc_draws.specs.Picks.{generator_of, shuffled, first_among, with_fall, order_before, picker_of, picked, SomeAmong, Meets, HasAll}

-- ---- whether a number is among some

or_true : (b : Bool) → b || true ≡ true
or_true true = refl
or_true false = refl

pub any_has : (xs : List ℕ) (w : ℕ) → Contains xs w → list_any (λ m. nat_eq m w) xs ≡ true
any_has [] w has = absurd (none_in_none w has)
any_has (x ∷ xs) w has =
    elim (first_or_later x w xs has) [
      | inl e ↦ ap (λ b. b || list_any (λ m. nat_eq m w) xs) ((Decides-eqb x w).1 e)
      | inr later ↦ ap (λ b. nat_eq x w || b) (any_has xs w later) ∙ or_true (nat_eq x w)
    ]

has_if : (b : Bool) (x w : ℕ) (xs : List ℕ) → nat_eq x w ≡ b → (list_any (λ m. nat_eq m w) xs ≡ true → Contains xs w)
    → b || list_any (λ m. nat_eq m w) xs ≡ true → Contains (x ∷ xs) w
has_if true x w xs is later e = subst (λ (z : ℕ). Contains (x ∷ xs) z) ((Decides-eqb x w).0 is) (has_first x xs)
has_if false x w xs is later e = has_later x w xs (later e)

pub has_any : (xs : List ℕ) (w : ℕ) → list_any (λ m. nat_eq m w) xs ≡ true → Contains xs w
has_any [] w e = absurd (let f : false ≡ true = e in cc)
has_any (x ∷ xs) w e = has_if (nat_eq x w) x w xs refl (has_any xs w) e

-- ---- the first of an order

-- where some worker of it is among these, it is in the order
pub first_below : (order movers : List ℕ) → SomeAmong order movers → first_among order movers < length order
first_below [] movers (w, has, among) = absurd (none_in_none w has)
first_below (x ∷ order) movers (w, has, among) =
    by_test (λ n. n < suc (length order)) (list_any (λ m. nat_eq m x) movers) 0 (suc (first_among order movers)) (λ h. omega arith)
    (λ h. elim (first_or_later x w order has) [
      | inl e ↦ absurd (let f : true ≡ false = sym (any_has movers w among) ∙ ap (λ z. list_any (λ m. nat_eq m z) movers) (sym e) ∙ h in cc)
      | inr later ↦ omega (arith, first_below order movers (w, later, among))
    ])

-- who stands there is among these
first_is_among : (order movers : List ℕ) (x : ℕ) → slice_get order (first_among order movers) ≡ Some x → Contains movers x
first_is_among [] movers x = λ is. absurd (let f : None ≡ Some x = is in cc)
first_is_among (w ∷ order) movers x =
    by_test (λ n. slice_get (w ∷ order) n ≡ Some x → Contains movers x) (list_any (λ m. nat_eq m w) movers) 0 (suc (first_among order movers))
    (λ h is. let f : Some w ≡ Some x = is in let same : w ≡ x = cc in subst (Contains movers) same (has_any movers w h))
    (λ h is. first_is_among order movers x is)

-- how far a search has come: those before this place aren't among these
abbrev pub IsFrom : List ℕ → List ℕ → ℕ → Type 0
IsFrom order movers place = first_among order movers ≡ place + first_among (drop place order) movers

module _ (order movers : List ℕ) (place w : ℕ) (is : slice_get order place ≡ Some w) (from : IsFrom order movers place) where
  rest_is : drop place order ≡ w ∷ drop (suc place) order
  rest_is = dropped order place is
    where
      dropped : (xs : List ℕ) (i : ℕ) → slice_get xs i ≡ Some w → drop i xs ≡ w ∷ drop (suc i) xs
      dropped [] i e = absurd (let f : None ≡ Some w = e in cc)
      dropped (x ∷ xs) zero e = (let f : Some x ≡ Some w = e in let same : x ≡ w = cc in ap (λ z. z ∷ xs) same)
      dropped (x ∷ xs) (suc i) e = dropped xs i e

  here_or_later : first_among (drop place order) movers ≡ first_among (w ∷ drop (suc place) order) movers
  here_or_later = ap (λ xs. first_among xs movers) rest_is

  pub found_here : list_any (λ m. nat_eq m w) movers ≡ true → place ≡ first_among order movers
  found_here h =
      let none : first_among (w ∷ drop (suc place) order) movers ≡ 0 = ap (λ b. cond b 0 (suc (first_among (drop (suc place) order) movers))) h in
      omega (arith, from, here_or_later, none)

  pub not_here : list_any (λ m. nat_eq m w) movers ≡ false → IsFrom order movers (suc place)
  not_here h =
      let more : first_among (w ∷ drop (suc place) order) movers ≡ suc (first_among (drop (suc place) order) movers) =
      ap (λ b. cond b 0 (suc (first_among (drop (suc place) order) movers))) h in
      omega (arith, from, here_or_later, more)

pub past_end : (order movers : List ℕ) (place : ℕ) → length order ≤ place → IsFrom order movers place → SomeAmong order movers → ⊥
past_end order movers place past from some =
    omega (arith, from, ap (λ xs. first_among xs movers) (drop_all place order past), past, first_below order movers some)

-- ---- orders keep their workers

pub insert_new : (xs : List ℕ) (i x : ℕ) → Contains (insert xs i x) x
insert_new xs i x = Contains-append_right (take i xs) (x ∷ drop i xs) x (has_first x (drop i xs))

pub insert_keeps : (xs : List ℕ) (i x w : ℕ) → Contains xs w → Contains (insert xs i x) w
insert_keeps [] i x w has = absurd (none_in_none w has)
insert_keeps (y ∷ ys) zero x w has = has_later x w (y ∷ ys) has
insert_keeps (y ∷ ys) (suc i) x w has =
    elim (first_or_later y w ys has) [
      | inl e ↦ subst (Contains (insert (y ∷ ys) (suc i) x)) e (has_first y (insert ys i x))
      | inr later ↦ has_later y w (insert ys i x) (insert_keeps ys i x w later)
    ]

pub length_inserted : (xs : List ℕ) (i x : ℕ) → length (insert xs i x) ≡ suc (length xs)
length_inserted [] zero x = refl
length_inserted [] (suc i) x = refl
length_inserted (y ∷ ys) zero x = refl
length_inserted (y ∷ ys) (suc i) x = ap suc (length_inserted ys i x)

pub shuffled_all : (n : ℕ) (generator : List ℕ) (w : ℕ) → w < n → Contains (shuffled n generator).0 w
shuffled_all zero generator w less = absurd (omega (arith, less))
shuffled_all (suc n) generator w less =
    let before = shuffled n generator in
    let place : ℕ = (plus_plus before.1).0 % suc n in
    elim (same_or_not w n) [
      | inl e ↦ subst (Contains (insert before.0 place n)) (sym e) (insert_new before.0 place n)
      | inr other ↦ insert_keeps before.0 place n w (shuffled_all n generator w (omega (arith, less, other)))
    ]

last_keeps : (xs : List ℕ) (i w : ℕ) → Contains xs w → Contains (remove xs i ++ slice_index xs i ∷ []) w
last_keeps [] i w has = absurd (none_in_none w has)
last_keeps (x ∷ xs) zero w has =
    elim (first_or_later x w xs has) [
      | inl e ↦ subst (Contains (xs ++ x ∷ [])) e (Contains-append_right xs (x ∷ []) x (has_first x []))
      | inr later ↦ Contains-append_left xs (x ∷ []) w later
    ]
last_keeps (x ∷ xs) (suc i) w has =
    let rest : List ℕ = remove xs i ++ slice_index xs i ∷ [] in
    elim (first_or_later x w xs has) [
      | inl e ↦ subst (Contains (x ∷ rest)) e (has_first x rest)
      | inr later ↦ has_later x w rest (last_keeps xs i w later)
    ]

fall_keeps : (order movers : List ℕ) (w : ℕ) → Contains order w → Contains (with_fall order movers) w
fall_keeps order movers w has = last_keeps order (first_among order movers) w has

order_keeps : (order falls : List ℕ) (steps : ℕ) (movers : List ℕ) (w : ℕ) → Contains order w → Contains (order_before order falls steps movers) w
order_keeps order falls steps movers w has =
    by_test (λ xs. Contains xs w) (list_any (λ f. nat_eq f steps) falls) (with_fall order movers) order (λ h. fall_keeps order movers w has) (λ h. has)

pub order_among : (order falls : List ℕ) (steps : ℕ) (movers : List ℕ) → SomeAmong order movers → SomeAmong (order_before order falls steps movers) movers
order_among order falls steps movers (w, has, among) = (w, order_keeps order falls steps movers w has, among)

-- ---- picks

pub stands_there : (xs : List ℕ) (place x : ℕ) → slice_get xs place ≡ Some x → Contains xs x
stands_there xs place x is = (place, place_below xs place x is, get_or_from_slice_get xs place x x is)

pub picked_is_there : (picker : Picker) (steps : ℕ) (movers : List ℕ) (x : ℕ) (on : Picker) → picked picker steps movers ≡ (Some x, on) → Contains movers x
picked_is_there (pickers.Words generator) steps movers x on pick =
    stands_there movers ((plus_plus generator).0 % length movers) x (ap (λ (r : Option ℕ × Picker). r.0) pick)
picked_is_there (pickers.Order order falls) steps movers x on pick =
    first_is_among (order_before order.items falls.items steps movers) movers x (ap (λ (r : Option ℕ × Picker). r.0) pick)

pub all_first : (way : Way) (workers seed : ℕ) → HasAll (picker_of way workers seed) workers
all_first ways.Uniform workers seed = tt
all_first (ways.Priorities depth steps) workers seed = λ w less. shuffled_all workers (generator_of seed) w less

pub all_next : (picker : Picker) (workers steps : ℕ) (movers : List ℕ) (x : ℕ) (on : Picker) → HasAll picker workers
    → picked picker steps movers ≡ (Some x, on) → HasAll on workers
all_next (pickers.Words generator) workers steps movers x on all pick =
    subst (λ (q : Picker). HasAll q workers) (ap (λ (r : Option ℕ × Picker). r.1) pick) tt
all_next (pickers.Order order falls) workers steps movers x on all pick =
    subst (λ (q : Picker). HasAll q workers) (ap (λ (r : Option ℕ × Picker). r.1) pick)
    (λ w less. order_keeps order.items falls.items steps movers w (all w less))

first_in : (movers : List ℕ) → 0 < length movers → (m : ℕ) × Contains movers m
first_in [] some = absurd (omega (arith, some))
first_in (m ∷ movers) some = (m, has_first m movers)

-- where all that can move are among so many workers, one can be picked
pub meets : (picker : Picker) (workers : ℕ) (movers : List ℕ) → HasAll picker workers → ((m : ℕ) → Contains movers m → m < workers) → 0 < length movers
    → Meets picker movers
meets (pickers.Words generator) workers movers all below some = some
meets (pickers.Order order falls) workers movers all below some =
    let m = first_in movers some in (m.0, all m.0 (below m.0 m.1), m.1)

-- ---- what a pick gives

pub words_picked : (picker : Picker) (generator : List ℕ) (steps : ℕ) (movers : List ℕ) (word : ℕ) (later : List ℕ) → picker ≡ pickers.Words generator
    → Meets picker movers → (word, later) ≡ plus_plus generator
    → picked picker steps movers ≡ (Some (get_or movers (word % length movers) 0), pickers.Words later)
words_picked picker generator steps movers word later is some drawn =
    let place : ℕ = (plus_plus generator).0 % length movers in
    let few : 0 < length movers = subst (λ (q : Picker). Meets q movers) is some in
    let there : slice_get movers place ≡ Some (get_or movers place 0) =
    slice_get-get_or movers place 0 (mod_below (plus_plus generator).0 (length movers) few) in
    ap (λ (q : Picker). picked q steps movers) is
    ∙ ap (λ (o : Option ℕ). (o, pickers.Words (plus_plus generator).1)) there
    ∙ ap (λ (r : ℕ × List ℕ). (Some (get_or movers (r.0 % length movers) 0), pickers.Words r.1)) (sym drawn)

-- the order by which one is picked, as it was seen
pub seen_among : (picker : Picker) (order : ArrayVec ℕ) (falls : ArrayVec ℕ) (steps : ℕ) (movers fs now seen : List ℕ) → picker ≡ pickers.Order order falls
    → fs ≡ falls.items → now ≡ order_before order.items fs steps movers → seen ≡ now → Meets picker movers → SomeAmong seen movers
seen_among picker order falls steps movers fs now seen is own changed same meet =
    subst (λ xs. SomeAmong xs movers) (sym (same ∙ changed))
    (order_among order.items fs steps movers (subst (λ (q : Picker). Meets q movers) is meet))

pub order_picked : (picker : Picker) (order : ArrayVec ℕ) (falls now : ArrayVec ℕ) (steps : ℕ) (movers fs seen : List ℕ) (place : ℕ)
    → picker ≡ pickers.Order order falls → fs ≡ falls.items → now.items ≡ order_before order.items fs steps movers → seen ≡ now.items
    → place ≡ first_among seen movers → place < length seen → picked picker steps movers ≡ (Some (get_or seen place 0), pickers.Order now falls)
order_picked picker order falls now steps movers fs seen place is own changed same first below =
    let after : now.items ≡ order_before order.items falls.items steps movers =
    changed ∙ ap (λ xs. order_before order.items xs steps movers) own in
    let at : first_among now.items movers ≡ place = sym (ap (λ xs. first_among xs movers) same) ∙ sym first in
    let there : slice_get now.items (first_among now.items movers) ≡ Some (get_or seen place 0) =
    (λ i. slice_get (sym same i) (at i)) ∙ slice_get-get_or seen place 0 below in
    ap (λ (q : Picker). picked q steps movers) is
    ∙ ap (λ xs. (slice_get xs (first_among xs movers), pickers.Order (record { items = xs }) falls)) (sym after)
    ∙ ap (λ (o : Option ℕ). (o, pickers.Order now falls)) there

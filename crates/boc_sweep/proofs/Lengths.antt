-- Stretches by their length.
use Rattle.std.proofs.Common.{◌≡◌, ℕ, zero, suc, ◌+◌, ◌^◌, ◌<◌, ◌≤◌, List, [], ◌∷◌, ◌++◌, length, take, get_or, replicate, inl, inr, refl, ap, sym}
use Rattle.std.proofs.Common.{◌∙◌, ◌-◌, ◌/◌, subst, arith}
use Rattle.std.specs.Prelude.{slice_index_or, slice_set}
use Rattle.std.specs.List.{Contains}
use Rattle.std.specs.declared.vec.Vec.{Vec}
use Rattle.std.specs.declared.alloc.Global.{Global}
use Rattle.std.proofs.lemmas.Bool.{cases_lt, cases_eq}
use Rattle.std.proofs.lemmas.List.{get_or-set_same, get_or-set_other, map-set, get_or-map}
use Rattle.std.proofs.lemmas.List.Elements.{Contains-append_left, Contains-append_right, Contains-append_cases}
use Rattle.std.proofs.lemmas.Nat.{pow_below, pow_pos}
use Rattle.std.proofs.Math.Nat.{pow-succ'}
use Rattle.std.proofs.Math.Pow.{pow_mono}
use Rattle.boc_program.specs.declared.limits.TheConstants.{MOST_ROWS}
use Rattle.boc_sweep.specs.declared.windows.TheConstants.{LENGTHS}
use Rattle.boc_sweep.specs.declared.windows.Stretch.{Stretch}
use Rattle.boc_sweep.specs.Tops.{AreByLength, AreOfLength, lists_of, list_at}
use Rattle.boc_sweep.proofs.Topping.{among_next, among_before, among_last}

-- the lists after a stretch was put behind the one at a place
pub put_behind : (lists : List (Vec Stretch Global)) (place : ℕ) (new d : Vec Stretch Global) (x : Stretch) → place < length lists
    → new.items ≡ (get_or lists place d).items ++ x ∷ []
    → lists_of (slice_set lists place new) ≡ slice_set (lists_of lists) place (list_at lists place ++ x ∷ [])
put_behind lists place new d x there is =
    map-set (λ (v : Vec Stretch Global). v.items) lists place new
    ∙ ap (slice_set (lists_of lists) place)
    (is ∙ ap (λ (xs : List Stretch). xs ++ x ∷ []) (sym (get_or-map (λ (v : Vec Stretch Global). v.items) lists place d [] there)))

-- twice a power of two is the next
doubled : (j : ℕ) → 2 ^ suc j ≡ 2 ^ j + 2 ^ j
doubled j = omega (arith, pow-succ' 2 j)

-- two powers of two that a length is no less than, but less than twice as much, are one
one_power : (n j k : ℕ) → 2 ^ j ≤ n → n < 2 ^ j + 2 ^ j → 2 ^ k ≤ n → n < 2 ^ k + 2 ^ k → j ≡ k
one_power n j k a b c d = elim (cases_lt j k) [
  | inl less ↦ absurd (elim (cases_eq (suc j) k) [
    | inl e ↦ omega (arith, b, c, ap (λ (m : ℕ). 2 ^ m) e, doubled j)
    | inr ne ↦ omega (arith, b, c, pow_below (suc j) k (omega (arith, less, ne)), doubled j)
  ])
  | inr more ↦ elim (cases_lt k j) [
    | inl less ↦ absurd (elim (cases_eq (suc k) j) [
      | inl e ↦ omega (arith, d, a, ap (λ (m : ℕ). 2 ^ m) e, doubled k)
      | inr ne ↦ omega (arith, d, a, pow_below (suc k) j (omega (arith, less, ne)), doubled k)
    ])
    | inr same ↦ omega (arith, more, same)
  ]
]

-- the length of a stretch has a list
pub has_a_list : (n k : ℕ) → 2 ^ k ≤ n → n ≤ MOST_ROWS → k < LENGTHS
has_a_list n k a b = elim (cases_lt k LENGTHS) [
  | inl low ↦ low
  | inr high ↦ absurd (omega (arith, a, b, pow_mono high))
]

-- what is in a list of one is that one
only : (x r : Stretch) → Contains (x ∷ []) r → r ≡ x
only x r (zero, low, is) = sym is
only x r (suc i, low, is) = absurd (omega (arith, low))

-- an empty list has nothing at any place
empty_at : (count k : ℕ) → slice_index_or {A = List Stretch} (replicate count []) k [] ≡ []
empty_at zero k = refl
empty_at (suc count) zero = refl
empty_at (suc count) (suc k) = empty_at count k

-- no stretch was put anywhere
pub by_length_none : (count : ℕ) (lists : List (List Stretch)) → lists ≡ replicate count [] → AreByLength [] (λ k. slice_index_or lists k [])
by_length_none count lists are k =
    let empty : slice_index_or lists k [] ≡ [] = ap (λ (ls : List (List Stretch)). slice_index_or ls k []) are ∙ empty_at count k in
    let none : (r : Stretch) → Contains (slice_index_or lists k []) r → ⊥ =
    λ r c. absurd (omega (arith, (subst (λ (xs : List Stretch). Contains xs r) empty c).1)) in
    record {
      sound = λ r c. absurd (none r c);
      long = λ r c. absurd (none r c);
      short = λ r c. absurd (none r c);
      complete = λ r c. absurd (omega (arith, c.1));
    }

-- a stretch without a place is in no list
pub by_length_skip : (stretches : List Stretch) (n : ℕ) (lists : ℕ → List Stretch) (x : Stretch) → n < length stretches → x ≡ get_or stretches n x
    → x.high ≤ x.low → AreByLength (take n stretches) lists → AreByLength (take (suc n) stretches) lists
by_length_skip stretches n lists x h is short c k = record {
  sound = λ r m. among_before stretches n x r h ((c k).sound r m);
  long = (c k).long;
  short = (c k).short;
  complete = λ r m long less. elim (among_next stretches n x r h m) [
    | inl before ↦ (c k).complete r before long less
    | inr e ↦ absurd (omega (arith, short, pow_pos k, subst (λ (y : Stretch). y.low + 2 ^ k ≤ y.high) (e ∙ sym is) long))
  ];
}

-- a stretch is put into the list of its length
module _ (stretches : List Stretch) (n : ℕ) (lists new : List (List Stretch)) (x : Stretch) (place : ℕ) (h : n < length stretches)
    (is : x ≡ get_or stretches n x) (there : place < length lists) (puts : new ≡ slice_set lists place (slice_index_or lists place [] ++ x ∷ []))
    (long : x.low + 2 ^ place ≤ x.high) (short : x.high < x.low + (2 ^ place + 2 ^ place))
    (c : AreByLength (take n stretches) (λ k. slice_index_or lists k [])) where
  here : slice_index_or new place [] ≡ slice_index_or lists place [] ++ x ∷ []
  here = ap (λ (ls : List (List Stretch)). slice_index_or ls place []) puts ∙ get_or-set_same lists place (slice_index_or lists place [] ++ x ∷ []) [] there

  other : (k : ℕ) → (k ≡ place → ⊥) → slice_index_or new k [] ≡ slice_index_or lists k []
  other k ne = ap (λ (ls : List (List Stretch)). slice_index_or ls k []) puts ∙ get_or-set_other lists place k (slice_index_or lists place [] ++ x ∷ []) [] ne

  -- the list of its length
  grown : AreOfLength (take (suc n) stretches) (slice_index_or lists place [] ++ x ∷ []) (2 ^ place)
  grown = record {
    sound = λ r m. elim (Contains-append_cases (slice_index_or lists place []) (x ∷ []) r m) [
      | inl old ↦ among_before stretches n x r h ((c place).sound r old)
      | inr last ↦ subst (λ (y : Stretch). Contains (take (suc n) stretches) y) (sym is ∙ sym (only x r last)) (among_last stretches n x h)
    ];
    long = λ r m. elim (Contains-append_cases (slice_index_or lists place []) (x ∷ []) r m) [
      | inl old ↦ (c place).long r old
      | inr last ↦ subst (λ (y : Stretch). y.low + 2 ^ place ≤ y.high) (sym (only x r last)) long
    ];
    short = λ r m. elim (Contains-append_cases (slice_index_or lists place []) (x ∷ []) r m) [
      | inl old ↦ (c place).short r old
      | inr last ↦ subst (λ (y : Stretch). y.high < y.low + (2 ^ place + 2 ^ place)) (sym (only x r last)) short
    ];
    complete = λ r m is_long is_short. elim (among_next stretches n x r h m) [
      | inl before ↦ Contains-append_left (slice_index_or lists place []) (x ∷ []) r ((c place).complete r before is_long is_short)
      | inr e ↦ Contains-append_right (slice_index_or lists place []) (x ∷ []) r (0, omega arith, is ∙ sym e)
    ];
  }

  -- each other list: the stretch isn't of its length
  same_list : (k : ℕ) → (k ≡ place → ⊥) → AreOfLength (take (suc n) stretches) (slice_index_or lists k []) (2 ^ k)
  same_list k ne = record {
    sound = λ r m. among_before stretches n x r h ((c k).sound r m);
    long = (c k).long;
    short = (c k).short;
    complete = λ r m is_long is_short. elim (among_next stretches n x r h m) [
      | inl before ↦ (c k).complete r before is_long is_short
      | inr e ↦ absurd (
          let longer : x.low + 2 ^ k ≤ x.high = subst (λ (y : Stretch). y.low + 2 ^ k ≤ y.high) (e ∙ sym is) is_long in
          let shorter : x.high < x.low + (2 ^ k + 2 ^ k) = subst (λ (y : Stretch). y.high < y.low + (2 ^ k + 2 ^ k)) (e ∙ sym is) is_short in
          ne (one_power (x.high - x.low) k place (omega (arith, longer)) (omega (arith, longer, shorter)) (omega (arith, long)) (omega (arith, long, short))))
    ];
  }

  pub by_length_put : AreByLength (take (suc n) stretches) (λ k. slice_index_or new k [])
  by_length_put k = elim (cases_eq k place) [
    | inl e ↦ subst (λ (p : ℕ). AreOfLength (take (suc n) stretches) (slice_index_or new p []) (2 ^ p)) (sym e)
        (subst (λ (xs : List Stretch). AreOfLength (take (suc n) stretches) xs (2 ^ place)) (sym here) grown)
    | inr ne ↦ subst (λ (xs : List Stretch). AreOfLength (take (suc n) stretches) xs (2 ^ k)) (sym (other k ne)) (same_list k ne)
  ]

before : (p : ℕ) → suc p - 1 ≡ p
before p = omega arith

-- half of a power of two is the one before it
pub half_power : (size place : ℕ) → size ≡ 2 ^ place → 0 < place → size / 2 ≡ 2 ^ (place - 1)
half_power size zero is some = absurd (omega (arith, some))
half_power size (suc p) is some = omega (arith, is, doubled p, ap (λ (n : ℕ). 2 ^ n) (before p))

-- a power of two is some
pub some_power : (size place : ℕ) → size ≡ 2 ^ place → 0 < size
some_power size place is = omega (arith, is, pow_pos place)

-- its two halves
pub two_halves : (size place : ℕ) → size ≡ 2 ^ place → 0 < place → size / 2 + size / 2 ≡ size
two_halves size zero is some = absurd (omega (arith, some))
two_halves size (suc p) is some = omega (arith, is, doubled p)

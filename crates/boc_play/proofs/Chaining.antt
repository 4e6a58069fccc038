-- Which rows come next after others, with one row more, and where a row has ended.
use Rattle.std.proofs.Common.{◌≡◌, ◌≢◌, ◌⊎◌, ℕ, zero, suc, ◌+◌, ◌<◌, ◌≤◌, inl, inr, List, [], ◌∷◌, ◌++◌, length, drop, get_or, refl, sym, ◌∙◌, ap, subst, arith, length-append}
use Rattle.std.specs.Prelude.{Option, Some, None, All, slice_index_or, slice_set, replicate}
use Rattle.std.specs.List.{Contains}
use Rattle.std.proofs.lemmas.Bool.{cases_lt}
use Rattle.std.proofs.lemmas.List.{length-set}
use Rattle.std.proofs.lemmas.List.Sums.{sum_by-set}
use Rattle.std.proofs.lemmas.List.Elements.{Contains-append_left, Contains-push, All-contains}
use Rattle.boc_machine_laws.proofs.Lists.{same_or_not}
use Rattle.std.specs.declared.vec.Vec.{Vec}
use Rattle.std.specs.declared.alloc.Global.{Global}
use Rattle.std.proofs.lemmas.List.{map-set, get_or-map}
use Rattle.boc_play.specs.Waiting.{Tables, lists_of, latest_at, next_after, put_behind, linked, all_linked, with_row, released, count_next, AreThere, IsNextAfter, AreChained}

-- ---- reading lists

set_here : {A : Type 0} (xs : List A) (i : ℕ) (y d : A) → i < length xs → slice_index_or (slice_set xs i y) i d ≡ y
set_here [] i y d low = absurd (omega (arith, low))
set_here (x ∷ xs) zero y d low = refl
set_here (x ∷ xs) (suc i) y d low = set_here xs i y d (omega (arith, low))

set_else : {A : Type 0} (xs : List A) (i j : ℕ) (y d : A) → j ≢ i → slice_index_or (slice_set xs i y) j d ≡ slice_index_or xs j d
set_else [] i j y d n = refl
set_else (x ∷ xs) zero zero y d n = absurd (n refl)
set_else (x ∷ xs) zero (suc j) y d n = refl
set_else (x ∷ xs) (suc i) zero y d n = refl
set_else (x ∷ xs) (suc i) (suc j) y d n = set_else xs i j y d (λ e. n (ap suc e))

none_latest : (n cown row : ℕ) → latest_at (replicate n None) cown ≡ Some row → ⊥
none_latest zero cown row e = (let f : None ≡ Some row = e in cc)
none_latest (suc n) zero row e = (let f : None ≡ Some row = e in cc)
none_latest (suc n) (suc cown) row e = none_latest n cown row e

one_more : (next : List (List ℕ)) (i : ℕ) → next_after (next ++ ([] ∷ [])) i ≡ next_after next i
one_more [] zero = refl
one_more [] (suc i) = refl
one_more (x ∷ xs) zero = refl
one_more (x ∷ xs) (suc i) = one_more xs i

-- ---- one row behind another

abbrev pub Below : {A : Type 0} → List A → Option ℕ → Type 0
Below xs o = (other : ℕ) → o ≡ Some other → other < length xs

pub put_many : (next : List (List ℕ)) (o : Option ℕ) (row : ℕ) → length (put_behind next o row) ≡ length next
put_many next None row = refl
put_many next (Some before) row = length-set next before (next_after next before ++ (row ∷ []))

put_grows : (next : List (List ℕ)) (o : Option ℕ) (row i x : ℕ) → Below next o → Contains (next_after next i) x
    → Contains (next_after (put_behind next o row) i) x
put_grows next None row i x low h = h
put_grows next (Some b) row i x low h =
    elim (same_or_not i b) [
      | inl e ↦ subst (λ (z : ℕ). Contains (next_after (put_behind next (Some b) row) z) x) (sym e)
          (subst (λ (ys : List ℕ). Contains ys x) (sym (set_here next b (next_after next b ++ (row ∷ [])) [] (low b refl)))
          (Contains-append_left (next_after next b) (row ∷ []) x (subst (λ (z : ℕ). Contains (next_after next z) x) e h)))
      | inr n ↦ subst (λ (ys : List ℕ). Contains ys x) (sym (set_else next b i (next_after next b ++ (row ∷ [])) [] n)) h
    ]

put_there : (next : List (List ℕ)) (b row : ℕ) → b < length next → Contains (next_after (put_behind next (Some b) row) b) row
put_there next b row low =
    subst (λ (ys : List ℕ). Contains ys row) (sym (set_here next b (next_after next b ++ (row ∷ [])) [] low)) (Contains-push (next_after next b) row)

-- the lists after a row was put behind those of one list
pub list_put : (lists : List (Vec ℕ Global)) (place : ℕ) (new d : Vec ℕ Global) (row : ℕ) → place < length lists
    → new.items ≡ (get_or lists place d).items ++ (row ∷ []) → lists_of (slice_set lists place new) ≡ put_behind (lists_of lists) (Some place) row
list_put lists place new d row there is =
    map-set (λ (v : Vec ℕ Global). v.items) lists place new
    ∙ ap (slice_set (lists_of lists) place)
    (is ∙ ap (λ (xs : List ℕ). xs ++ (row ∷ [])) (sym (get_or-map (λ (v : Vec ℕ Global). v.items) lists place d [] there)))

-- and after one list was emptied
pub list_taken : (lists : List (Vec ℕ Global)) (place : ℕ) (new : Vec ℕ Global) → new.items ≡ []
    → lists_of (slice_set lists place new) ≡ slice_set (lists_of lists) place []
list_taken lists place new is = map-set (λ (v : Vec ℕ Global). v.items) lists place new ∙ ap (slice_set (lists_of lists) place) is

pub list_there : (lists : List (Vec ℕ Global)) (place : ℕ) (d : Vec ℕ Global) → place < length lists
    → next_after (lists_of lists) place ≡ (get_or lists place d).items
list_there lists place d there = get_or-map (λ (v : Vec ℕ Global). v.items) lists place d [] there

lists_more : (lists : List (Vec ℕ Global)) (v : Vec ℕ Global) → lists_of (lists ++ (v ∷ [])) ≡ lists_of lists ++ (v.items ∷ [])
lists_more [] v = refl
lists_more (x ∷ xs) v = ap (λ (ys : List (List ℕ)). x.items ∷ ys) (lists_more xs v)

-- and with an empty list more
pub list_pushed : (lists new : List (Vec ℕ Global)) (v : Vec ℕ Global) → new ≡ lists ++ (v ∷ []) → v.items ≡ []
    → lists_of new ≡ lists_of lists ++ ([] ∷ [])
list_pushed lists new v e none = ap lists_of e ∙ lists_more lists v ∙ ap (λ (x : List ℕ). lists_of lists ++ (x ∷ [])) none

-- what is read of a list at a place that is there
pub read_here : {A : Type 0} (xs : List A) (i : ℕ) (d e : A) → i < length xs → slice_index_or xs i d ≡ slice_index_or xs i e
read_here [] i d e low = absurd (omega (arith, low))
read_here (x ∷ xs) zero d e low = refl
read_here (x ∷ xs) (suc i) d e low = read_here xs i d e (omega (arith, low))

pub drop_one : (xs : List ℕ) (i d : ℕ) → i < length xs → drop i xs ≡ slice_index_or xs i d ∷ drop (i + 1) xs
drop_one [] i d low = absurd (omega (arith, low))
drop_one (x ∷ xs) zero d low = refl
drop_one (x ∷ xs) (suc i) d low =
    let one : suc (i + 1) ≡ suc i + 1 = omega arith in
    drop_one xs i d (omega (arith, low)) ∙ ap (λ (n : ℕ). slice_index_or xs i d ∷ drop n (x ∷ xs)) one

-- ---- one row more

-- the same rows have cowns, and one row has these
abbrev pub AndOver : (ℕ → ℕ → Type 0) → ℕ → (ℕ → Type 0) → ℕ → ℕ → Type 0
AndOver over row has r d = over r d ⊎ ((r ≡ row) × has d)

abbrev pub AndHas : (ℕ → ℕ → Type 0) → ℕ → ℕ → ℕ → ℕ → Type 0
AndHas over row cown = AndOver over row (λ d. d ≡ cown)

pub same_over : (o q : ℕ → ℕ → Type 0) (unended : ℕ → Type 0) (t : Tables) → ((r d : ℕ) → o r d → q r d) → ((r d : ℕ) → q r d → o r d)
    → AreChained o unended t → AreChained q unended t
same_over o q unended t to from c = record {
  latest_has = λ r d e. to r d (c.latest_has r d e);
  latest_is = λ r d h. c.latest_is r d (from r d h);
  chained = λ a r d low ha hr u.
      let k = c.chained a r d low (from a d ha) (from r d hr) u in
      record { by = k.by; from = k.from; before = k.before; has = to k.by d k.has; next = k.next };
}

pub other_unended : (over : ℕ → ℕ → Type 0) (u v : ℕ → Type 0) (t : Tables) → ((r d : ℕ) → over r d → v r → u r)
    → AreChained over u t → AreChained over v t
other_unended over u v t was c = record {
  latest_has = c.latest_has;
  latest_is = c.latest_is;
  chained = λ a r d low ha hr h. c.chained a r d low ha hr (was a d ha h);
}

chain_more : (over : ℕ → ℕ → Type 0) (u : ℕ → Type 0) (t : Tables) → AreChained over u t → AreChained over u (record t { next = t.next ++ ([] ∷ []) })
chain_more over u t c = record {
  latest_has = c.latest_has;
  latest_is = c.latest_is;
  chained = λ a r d low ha hr h.
      let k = c.chained a r d low ha hr h in
      record { by = k.by; from = k.from; before = k.before; has = k.has; next = subst (λ (ys : List ℕ). Contains ys r) (sym (one_more t.next k.by)) k.next };
}

pub there_linked : (t : Tables) (row cown : ℕ) → AreThere t → row < length t.next → cown < length t.latest → AreThere (linked t row cown)
there_linked t row cown there low c d r e =
    elim (same_or_not d cown) [
      | inl q ↦
          let f : Some row ≡ Some r = sym (set_here t.latest cown (Some row) None c) ∙ ap (latest_at (slice_set t.latest cown (Some row))) (sym q) ∙ e in
          let same : row ≡ r = cc in
          omega (arith, same, low, put_many t.next (latest_at t.latest cown) row)
      | inr n ↦ omega (
        arith,
        there d r (sym (set_else t.latest cown d (Some row) None n) ∙ e),
        put_many t.next (latest_at t.latest cown) row,
      )
    ]

module _ (over : ℕ → ℕ → Type 0) (u : ℕ → Type 0) (t : Tables) (row cown : ℕ) (c : AreChained over u t) (there : AreThere t)
    (early : (r d : ℕ) → over r d → r ≤ row) (low : cown < length t.latest) where
  abbrev now : ℕ → ℕ → Type 0
  now = AndHas over row cown

  latest_now : (d : ℕ) → d ≡ cown → latest_at (linked t row cown).latest d ≡ Some row
  latest_now d e = ap (latest_at (slice_set t.latest cown (Some row))) e ∙ set_here t.latest cown (Some row) None low

  latest_else : (d : ℕ) → d ≢ cown → latest_at (linked t row cown).latest d ≡ latest_at t.latest d
  latest_else d n = set_else t.latest cown d (Some row) None n

  kept : (a r d : ℕ) → IsNextAfter over t.next a r d → IsNextAfter now (linked t row cown).next a r d
  kept a r d k = record {
    by = k.by;
    from = k.from;
    before = k.before;
    has = inl k.has;
    next = put_grows t.next (latest_at t.latest cown) row k.by r (λ z e. there cown z e) k.next;
  }

  behind : (a d : ℕ) → a < row → over a d → u a → d ≡ cown → IsNextAfter now (linked t row cown).next a row d
  behind a d before h ua e =
      let l = c.latest_is a d h in
      elim (cases_lt l.0 row) [
        | inl earlier ↦ record {
          by = l.0;
          from = l.2;
          before = earlier;
          has = inl (c.latest_has l.0 d l.1);
          next = subst (λ (o : Option ℕ). Contains (next_after (put_behind t.next o row) l.0) row) (sym l.1 ∙ ap (latest_at t.latest) e)
              (put_there t.next l.0 row (there d l.0 l.1));
        }
        | inr late ↦
            let same : l.0 ≡ row = omega (arith, late, early l.0 d (c.latest_has l.0 d l.1)) in
            kept a row d (c.chained a row d before h (subst (λ (z : ℕ). over z d) same (c.latest_has l.0 d l.1)) ua)
      ]

  pub chain_one : AreChained now u (linked t row cown)
  chain_one = record {
    latest_has = λ r d e.
        elim (same_or_not d cown) [
          | inl q ↦ inr ((let f : Some row ≡ Some r = sym (latest_now d q) ∙ e in let same : row ≡ r = cc in sym same), q)
          | inr n ↦ inl (c.latest_has r d (sym (latest_else d n) ∙ e))
        ];
    latest_is = λ r d h.
        elim (same_or_not d cown) [
          | inl q ↦ (row, latest_now d q, elim h [ inl o ↦ early r d o | inr o ↦ omega (arith, o.0) ])
          | inr n ↦ elim h [
            | inl o ↦ let l = c.latest_is r d o in (l.0, latest_else d n ∙ l.1, l.2)
            | inr o ↦ absurd (n o.1)
          ]
        ];
    chained = λ a r d before ha hr ua.
        elim ha [
          | inr x ↦ absurd (elim hr [
            | inl o ↦ omega (arith, x.0, before, early r d o)
            | inr y ↦ omega (arith, x.0, y.0, before)
          ])
          | inl x ↦ elim hr [
            | inl y ↦ kept a r d (c.chained a r d before x y ua)
            | inr y ↦
                let earlier : a < row = omega (arith, before, y.0) in
                subst (λ (z : ℕ). IsNextAfter now (linked t row cown).next a z d) (sym y.0) (behind a d earlier x ua y.1)
          ]
        ];
  }

none_in : {A : Type 0} (x : A) → Contains [] x → ⊥
none_in x h = omega (arith, h.1)

first_or_later : (c : ℕ) (cs : List ℕ) (d : ℕ) → Contains (c ∷ cs) d → (d ≡ c) ⊎ Contains cs d
first_or_later c cs d (zero, l, e) = inl (sym e)
first_or_later c cs d (suc k, l, e) = inr (k, omega (arith, l), e)

later_too : (c : ℕ) (cs : List ℕ) (d : ℕ) → Contains cs d → Contains (c ∷ cs) d
later_too c cs d (k, l, e) = (suc k, omega (arith, l), e)

pub chain_all : (over : ℕ → ℕ → Type 0) (u : ℕ → Type 0) (t : Tables) (row : ℕ) (cowns : List ℕ) → AreChained over u t → AreThere t
    → ((r d : ℕ) → over r d → r ≤ row) → row < length t.next → ((d : ℕ) → Contains cowns d → d < length t.latest)
    → AreChained (AndOver over row (Contains cowns)) u (all_linked t row cowns)
chain_all over u t row [] c there early low all =
    same_over over (AndOver over row (Contains [])) u t (λ r d h. inl h)
    (λ r d h. elim h [ inl o ↦ o | inr o ↦ absurd (none_in d o.1) ]) c
chain_all over u t row (cown ∷ cowns) c there early low all =
    let has : cown < length t.latest = all cown (0, omega arith, refl) in
    let rest = chain_all (AndHas over row cown) u (linked t row cown) row cowns (chain_one over u t row cown c there early has)
    (there_linked t row cown there low has)
    (λ r d h. elim h [ inl o ↦ early r d o | inr o ↦ omega (arith, o.0) ])
    (omega (arith, low, put_many t.next (latest_at t.latest cown) row))
    (λ d h. omega (arith, all d (later_too cown cowns d h), length-set t.latest cown (Some row))) in
    same_over (AndOver (AndHas over row cown) row (Contains cowns)) (AndOver over row (Contains (cown ∷ cowns))) u (all_linked (linked t row cown) row cowns)
    (λ r d h. elim h [
      | inl o ↦ elim o [
        | inl x ↦ inl x
        | inr x ↦ inr (x.0, subst (λ (z : ℕ). Contains (cown ∷ cowns) z) (sym x.1) (0, omega arith, refl))
      ]
      | inr o ↦ inr (o.0, later_too cown cowns d o.1)
    ])
    (λ r d h. elim h [
      | inl o ↦ inl (inl o)
      | inr o ↦ elim (first_or_later cown cowns d o.1) [
        | inl e ↦ inl (inr (o.0, e))
        | inr x ↦ inr (o.0, x)
      ]
    ]) rest

-- a row more over these cowns
pub chain_row : (over : ℕ → ℕ → Type 0) (u : ℕ → Type 0) (t : Tables) (row : ℕ) (cowns : List ℕ) → AreChained over u t → AreThere t
    → ((r d : ℕ) → over r d → r ≤ row) → row ≡ length t.next → ((d : ℕ) → Contains cowns d → d < length t.latest)
    → AreChained (AndOver over row (Contains cowns)) u (with_row t row cowns)
chain_row over u t row cowns c there early is all =
    let more : Tables = record t { next = t.next ++ ([] ∷ []) } in
    chain_all over u more row cowns (chain_more over u t c) (λ d r e. omega (arith, there d r e, length-append t.next ([] ∷ []))) early
    (omega (arith, is, length-append t.next ([] ∷ []))) all

pub all_many : (t : Tables) (row : ℕ) (cowns : List ℕ) → (length (all_linked t row cowns).next ≡ length t.next)
    × (length (all_linked t row cowns).latest ≡ length t.latest)
all_many t row [] = (refl, refl)
all_many t row (cown ∷ cowns) =
    let rest = all_many (linked t row cown) row cowns in
    (rest.0 ∙ put_many t.next (latest_at t.latest cown) row, rest.1 ∙ length-set t.latest cown (Some row))

-- ---- a row that has ended

pub chain_released : (over : ℕ → ℕ → Type 0) (u v : ℕ → Type 0) (t : Tables) (row : ℕ) → AreChained over u t
    → ((r d : ℕ) → over r d → v r → u r × (r ≢ row)) → ((r d : ℕ) → r < row → over r d → over row d → v r → ⊥)
    → AreChained over v (released t row)
chain_released over u v t row c was past = record {
  latest_has = c.latest_has;
  latest_is = c.latest_is;
  chained = λ a r d low ha hr h.
      let before = was a d ha h in
      let k = c.chained a r d low ha hr before.0 in
      elim (same_or_not k.by row) [
        | inl e ↦ absurd (past a d (omega (arith, e, k.from, before.1)) ha (subst (λ (z : ℕ). over z d) e k.has) h)
        | inr n ↦ record {
          by = k.by;
          from = k.from;
          before = k.before;
          has = k.has;
          next = subst (λ (ys : List ℕ). Contains ys r) (sym (set_else t.next row k.by [] [] n)) k.next;
        }
      ];
}

-- rows that are moved to others are as many as before
pub left_same : (t u : Tables) (row : ℕ) (others new : List ℕ) → row < length t.next → u ≡ released t row → new ≡ others ++ next_after t.next row
    → count_next u + length new ≡ count_next t + length others
left_same t u row others new low is moved = omega (
  arith,
  ap count_next is,
  ap (length {A = ℕ}) moved,
  length-append others (next_after t.next row),
  sum_by-set (λ (ys : List ℕ). length ys) t.next row [] [] low,
)

-- ---- no rows yet

pub none_chained : (over : ℕ → ℕ → Type 0) (u : ℕ → Type 0) (n : ℕ) → ((r d : ℕ) → over r d → ⊥)
    → AreChained over u (record { latest = replicate n None; next = [] })
none_chained over u n none = record {
  latest_has = λ r d e. absurd (none_latest n d r e);
  latest_is = λ r d h. absurd (none r d h);
  chained = λ a r d low ha. absurd (none a d ha);
}

-- Links with their cowns, row by row, and what is left of them without a cown.
use Rattle.std.proofs.Common.{◌≡◌, ◌≢◌, ℕ, zero, suc, ◌+◌, ◌<◌, ◌≤◌, Bool, false, true≢false, List, [], ◌∷◌, ◌++◌, length, map, get_or, Some}
use Rattle.std.proofs.Common.{inl, inr, refl, sym, ap, subst, ◌∙◌, arith}
use Rattle.std.specs.Prelude.{slice_index, slice_get}
use Rattle.std.specs.Cmp.{nat_cmp_is}
use Rattle.std.specs.List.{Contains}
use Rattle.std.specs.List.Sorted.{IsPermutation, IsSortedBy}
use Rattle.std.specs.Ordering.{nat_cmp}
use Rattle.std.proofs.Common.{Less, is_lt}
use Rattle.std.proofs.lemmas.Bool.{cases_eq, cases_lt}
use Rattle.std.proofs.lemmas.Cmp.{nat_cmp_total}
use Rattle.std.proofs.lemmas.List.{get_or_default}
use Rattle.std.proofs.lemmas.List.Elements.{Contains-append_left, Contains-append_right, Contains-append_cases}
use Rattle.std.proofs.lemmas.List.Sorted.{ranks_by, sorted_far, IsPermutation-sym, Contains-permutation}
use Rattle.std.proofs.lemmas.Option.{slice_get-get_or, slice_get_within, get_or_from_slice_get}
use Rattle.boc_runs.specs.declared.rows.Row.{Row}
use Rattle.boc_runs.specs.Rows.{cowns_of}
use Rattle.boc_order.specs.declared.cown_links.CownLink.{CownLink}
use Rattle.boc_order.specs.Waits.{IsNearOn}
use Rattle.boc_order.specs.Uses.{AddsNearOn}
use Rattle.boc_order.specs.CownLinks.{AreLinked, AreCownLinks, AddsOthers, link_to, IsAt}

-- what stands in a list that is made of another one
pub contains_map : {X Y : Type 0} (f : X → Y) (xs : List X) (x : X) → Contains xs x → Contains (map f xs) (f x)
contains_map f [] x h = absurd (omega (arith, h.1))
contains_map f (y ∷ xs) x (zero, h, e) = (0, omega arith, ap f e)
contains_map f (y ∷ xs) x (suc k, h, e) = (let m = contains_map f xs x (k, omega (arith, h), e) in (suc m.0, omega (arith, m.1), m.2))

pub map_contains : {X Y : Type 0} (f : X → Y) (xs : List X) (y : Y) → Contains (map f xs) y → (x : X) × Contains xs x × (f x ≡ y)
map_contains f [] y h = absurd (omega (arith, h.1))
map_contains f (x ∷ xs) y (zero, h, e) = (x, (0, omega arith, refl), e)
map_contains f (x ∷ xs) y (suc k, h, e) = (let m = map_contains f xs y (k, omega (arith, h), e) in
    (m.0, (suc m.1.0, omega (arith, m.1.1), m.1.2), m.2))

-- the links of the rows before row n, and those of row n on the first i of its cowns
pub record LinkedSoFar (rows : List Row) (n i : ℕ) (cowns : List ℕ) (links : List CownLink) : Type 0 where
  pub sound : (l : CownLink) → Contains links l → (l.row < n + 1) × IsNearOn rows l.cown l.before l.row
  pub complete : (c a b : ℕ) → b < n → IsNearOn rows c a b → Contains links (link_to b c a)
  pub part : (a j : ℕ) → j < i → IsNearOn rows (slice_index cowns j) a n → Contains links (link_to n (slice_index cowns j) a)

pub so_far_none : (rows : List Row) (n : ℕ) (cowns : List ℕ) (links : List CownLink) → AreLinked rows n links → LinkedSoFar rows n 0 cowns links
so_far_none rows n cowns links p = record {
  sound = λ l h. (let s = p.sound l h in (omega (arith, s.0), s.1));
  complete = p.complete;
  part = λ a j h. absurd (omega (arith, h));
}

pub so_far_more : (rows : List Row) (n i : ℕ) (cowns room waits : List ℕ) (links : List CownLink) → room ≡ [] → LinkedSoFar rows n i cowns links
    → AddsNearOn rows n (slice_index cowns i) room waits
    → LinkedSoFar rows n (i + 1) cowns (links ++ map (link_to n (slice_index cowns i)) waits)
so_far_more rows n i cowns room waits links none p q = record {
  sound = λ l h. elim (Contains-append_cases links more l h) [
    | inl before ↦ p.sound l before
    | inr new ↦ (let m = map_contains (link_to n (slice_index cowns i)) waits l new in
        subst (λ (k : CownLink). (k.row < n + 1) × IsNearOn rows k.cown k.before k.row) m.2
        (omega arith, q.sound m.0 (subst (λ (xs : List ℕ). Contains xs m.0) added m.1)))
  ];
  complete = λ c a b h near. Contains-append_left links more (link_to b c a) (p.complete c a b h near);
  part = λ a j h near. elim (cases_eq j i) [
    | inl e ↦ subst (λ (x : ℕ). Contains (links ++ more) (link_to n (slice_index cowns x) a)) (sym e)
        (Contains-append_right links more (link_to n (slice_index cowns i) a)
        (contains_map (link_to n (slice_index cowns i)) waits a
        (subst (λ (xs : List ℕ). Contains xs a) (sym added) (q.complete a (subst (λ (x : ℕ). IsNearOn rows (slice_index cowns x) a n) e near)))))
    | inr ne ↦ Contains-append_left links more (link_to n (slice_index cowns j) a) (p.part a j (omega (arith, h, ne)) near)
  ];
}
  where
    more : List CownLink
    more = map (link_to n (slice_index cowns i)) waits

    added : waits ≡ q.added
    added = q.is ∙ ap (λ (xs : List ℕ). xs ++ q.added) none

pub so_far_all : (rows : List Row) (n i : ℕ) (cowns : List ℕ) (links : List CownLink) → cowns ≡ cowns_of rows n → i ≡ length cowns
    → LinkedSoFar rows n i cowns links → AreLinked rows (n + 1) links
so_far_all rows n i cowns links is all p = record {
  sound = p.sound;
  complete = λ c a b h near. elim (cases_eq b n) [
    | inl e ↦ (let here : IsNearOn rows c a n = subst (λ (x : ℕ). IsNearOn rows c a x) e near in
        let own : Contains cowns c = subst (λ (xs : List ℕ). Contains xs c) (sym is) here.conflict.second in
        let at : slice_index cowns own.0 ≡ c = get_or_default cowns own.0 0 c own.1 ∙ own.2 in
        subst (λ (x : ℕ). Contains links (link_to x c a)) (sym e)
        (subst (λ (x : ℕ). Contains links (link_to n x a)) at
        (p.part a own.0 (omega (arith, own.1, all)) (subst (λ (x : ℕ). IsNearOn rows x a n) (sym at) here))))
    | inr ne ↦ p.complete c a b (omega (arith, h, ne)) near
  ];
}

pub linked_none : (rows : List Row) (links : List CownLink) → links ≡ [] → AreLinked rows 0 links
linked_none rows links none = rw none (record { sound = λ l h. absurd (omega (arith, h.1)); complete = λ c a b h. absurd (omega (arith, h)) })

-- links in their order
abbrev pub by_before : CownLink → CownLink → Bool
by_before l m = is_lt (nat_cmp l.before m.before)

no_less : (l m : CownLink) → by_before m l ≡ false → l.before ≤ m.before
no_less l m h = elim (cases_lt m.before l.before) [
  | inl lt ↦ absurd (true≢false (rw (sym (nat_cmp_is m.before l.before Less lt)) at h))
  | inr ge ↦ omega (arith, ge)
]

pub sorted_links : (rows : List Row) (xs ys : List CownLink) → AreLinked rows (length rows) xs → IsPermutation xs ys → IsSortedBy by_before ys
    → AreCownLinks rows ys
sorted_links rows xs ys p moved up = record {
  linked = record {
    sound = λ l h. p.sound l (Contains-permutation ys xs l (IsPermutation-sym xs ys moved) h);
    complete = λ c a b h near. Contains-permutation xs ys (link_to b c a) moved (p.complete c a b h near);
  };
  sorted = λ i j l m le il jm. no_less l m
      (rw (get_or_from_slice_get ys i l l il, get_or_from_slice_get ys j m l jm) at
      (sorted_far by_before (ranks_by nat_cmp_total (λ (k : CownLink). k.before)) ys up i j l le (slice_get_within ys j m jm)));
}

-- where a row's links begin
module _ (links : List CownLink) (sorted : (i j : ℕ) (l m : CownLink) → i ≤ j → slice_get links i ≡ Some l → slice_get links j ≡ Some m → l.before ≤ m.before)
  where
    pub at_first : IsAt links 0 0
    at_first = record { before = λ k l h. absurd (omega (arith, h)); behind = λ k l h is. omega arith; sorted = sorted }

-- the links of a row up to a place, from where on they begin
pub record Passed (links : List CownLink) (row cown from place : ℕ) (old new : List ℕ) : Type 0 where
  pub added : List ℕ
  pub is : new ≡ old ++ added
  pub within : from ≤ place
  pub own : (k : ℕ) (l : CownLink) → from ≤ k → k < place → slice_get links k ≡ Some l → l.before ≡ row
  pub sound : (b : ℕ) → Contains added b → (c : ℕ) × (c ≢ cown) × Contains links (link_to b c row)
  pub complete : (k : ℕ) (l : CownLink) → from ≤ k → k < place → slice_get links k ≡ Some l → l.cown ≢ cown → Contains added l.row

pub passed_none : (links : List CownLink) (row cown from : ℕ) (old : List ℕ) → Passed links row cown from from old old
passed_none links row cown from old = record {
  added = [];
  is = sym (append_nil old);
  within = omega arith;
  own = λ k l low high. absurd (omega (arith, low, high));
  sound = λ b h. absurd (omega (arith, h.1));
  complete = λ k l low high. absurd (omega (arith, low, high));
}
  where
    append_nil : (xs : List ℕ) → xs ++ [] ≡ xs
    append_nil [] = refl
    append_nil (x ∷ xs) = ap (λ (l : List ℕ). x ∷ l) (append_nil xs)

module _ (links : List CownLink) (row cown from place : ℕ) (old new : List ℕ) (this : CownLink) (is_this : slice_get links place ≡ Some this)
    (mine : this.before ≡ row) (p : Passed links row cown from place old new) where
  one : (k : ℕ) (l : CownLink) → k ≡ place → slice_get links k ≡ Some l → this ≡ l
  one k l e is = (let s : Some this ≡ Some l = sym is_this ∙ ap (slice_get links) (sym e) ∙ is in cc)

  own_more : (k : ℕ) (l : CownLink) → from ≤ k → k < place + 1 → slice_get links k ≡ Some l → l.before ≡ row
  own_more k l low high is = elim (cases_eq k place) [
    | inl e ↦ ap (λ (m : CownLink). m.before) (sym (one k l e is)) ∙ mine
    | inr ne ↦ p.own k l low (omega (arith, high, ne)) is
  ]

  pub passed_over : this.cown ≡ cown → Passed links row cown from (place + 1) old new
  passed_over same = record {
    added = p.added;
    is = p.is;
    within = omega (arith, p.within);
    own = own_more;
    sound = p.sound;
    complete = λ k l low high is other. elim (cases_eq k place) [
      | inl e ↦ absurd (other (ap (λ (m : CownLink). m.cown) (sym (one k l e is)) ∙ same))
      | inr ne ↦ p.complete k l low (omega (arith, high, ne)) is other
    ];
  }

  pub passed_more : this.cown ≢ cown → Passed links row cown from (place + 1) old (new ++ this.row ∷ [])
  passed_more differs = record {
    added = p.added ++ this.row ∷ [];
    is = ap (λ (xs : List ℕ). xs ++ this.row ∷ []) p.is ∙ append_two old p.added (this.row ∷ []);
    within = omega (arith, p.within);
    own = own_more;
    sound = λ b h. elim (Contains-append_cases p.added (this.row ∷ []) b h) [
      | inl before ↦ p.sound b before
      | inr (zero, lt, e) ↦ (
        this.cown,
        differs,
        subst (λ (x : ℕ). Contains links (link_to x this.cown row)) e
            (subst (λ (x : ℕ). Contains links (link_to this.row this.cown x)) mine
            (place, slice_get_within links place this is_this, get_or_from_slice_get links place this _ is_this)),
      )
      | inr (suc k, lt, e) ↦ absurd (omega (arith, lt))
    ];
    complete = λ k l low high is other. elim (cases_eq k place) [
      | inl e ↦ Contains-append_right p.added (this.row ∷ []) l.row (0, omega arith, ap (λ (m : CownLink). m.row) (one k l e is))
      | inr ne ↦ Contains-append_left p.added (this.row ∷ []) l.row (p.complete k l low (omega (arith, high, ne)) is other)
    ];
  }
    where
      append_two : (xs ys zs : List ℕ) → (xs ++ ys) ++ zs ≡ xs ++ (ys ++ zs)
      append_two [] ys zs = refl
      append_two (x ∷ xs) ys zs = ap (λ (l : List ℕ). x ∷ l) (append_two xs ys zs)

-- where the next link isn't the row's, all of them were passed
module _ (links : List CownLink) (row cown from place : ℕ) (old new : List ℕ) (at : IsAt links row from) (p : Passed links row cown from place old new)
    (end : (l : CownLink) → slice_get links place ≡ Some l → l.before ≢ row) where
  past : (k : ℕ) (l : CownLink) → place ≤ k → slice_get links k ≡ Some l → row + 1 ≤ l.before
  past k l h is =
      let there : place < length links = omega (arith, h, slice_get_within links k l is) in
      let this : CownLink = get_or links place l in
      let is_this : slice_get links place ≡ Some this = slice_get-get_or links place l there in
      omega (arith, at.sorted place k this l h is_this is, at.behind place this p.within is_this, end this is_this)

  pub next_at : IsAt links (row + 1) place
  next_at = record {
    before = λ k l h is. elim (cases_lt k from) [
      | inl low ↦ (omega (arith, at.before k l low is))
      | inr high ↦ (omega (arith, p.own k l (omega (arith, high)) h is))
    ];
    behind = past;
    sorted = at.sorted;
  }

  pub adds_others : AddsOthers links row cown old new
  adds_others = record {
    added = p.added;
    is = p.is;
    sound = p.sound;
    complete = λ b c other (k, lt, e).
        (let is : slice_get links k ≡ Some (link_to b c row) = slice_get-get_or links k (link_to b c row) lt ∙ ap (λ l. Some l) e in
        p.complete k (link_to b c row) (low k b c is) (high k b c is) is other);
  }
    where
      low : (k b c : ℕ) → slice_get links k ≡ Some (link_to b c row) → from ≤ k
      low k b c is = elim (cases_lt k from) [ inl lt ↦ absurd (omega (arith, at.before k (link_to b c row) lt is)) | inr ge ↦ omega (arith, ge) ]

      high : (k b c : ℕ) → slice_get links k ≡ Some (link_to b c row) → k < place
      high k b c is = elim (cases_lt k place) [ inl lt ↦ lt | inr ge ↦ absurd (omega (arith, past k (link_to b c row) (omega (arith, ge)) is)) ]

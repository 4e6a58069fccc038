-- What `later_of` keeps of `IsLatestOf`, and the latest of a list of rows.
use Rattle.std.proofs.Common.{◌≡◌, ℕ, zero, suc, ◌+◌, ◌<◌, ◌≤◌, ◌⊎◌, Bool, true, false, List, ◌∷◌, length, refl, ap, sym, ◌∙◌, subst, inl, inr, arith}
use Rattle.std.specs.Prelude.{if◌then◌else◌, slice_index}
use Rattle.std.specs.List.{Contains}
use Rattle.std.proofs.lemmas.List.{get_or_default}
use Rattle.std.proofs.lemmas.Bool.Decides.{nat_tests}
use Rattle.std.proofs.lemmas.Bool.{cases_eq}
use Rattle.boc_order.specs.declared.latest.Latest.{Latest}
use Rattle.boc_order.specs.Latest.{comes_after, later_of, IsLatest, IsLatestOf}

after_true : (x y : Latest) → comes_after y x ≡ true → (x.end ≤ y.end) × (y.end ≡ x.end → y.row ≤ x.row)
after_true x y h = grind (arith, nat_tests)

after_false : (x y : Latest) → comes_after y x ≡ false → (y.end ≤ x.end) × (x.end ≡ y.end → x.row ≤ y.row)
after_false x y h = grind (arith, nat_tests)

-- where a set has a row, it has a latest
pub some_latest : (In : ℕ → Type 0) (ends : ℕ → ℕ) (x : Latest) → IsLatestOf In ends x → (a : ℕ) → In a → IsLatest In ends x
some_latest In ends x q a m = elim (cases_eq x.end 0) [ inl e ↦ absurd (q.none e a m) | inr ne ↦ q.some (omega arith) ]

-- the latest of one set is that of both, where the other's ends no later, nor together with it under a smaller number
picked : (A B C : ℕ → Type 0) (ends : ℕ → ℕ) (x y : Latest) → (y.end ≤ x.end) × (x.end ≡ y.end → x.row ≤ y.row) →
    ((a : ℕ) → A a → C a) → ((a : ℕ) → C a → A a ⊎ B a) → IsLatestOf A ends x → IsLatestOf B ends y → IsLatestOf C ends x
picked A B C ends x y h to from p q = record {
  none = λ e a m. elim (from a m) [ inl i ↦ p.none e a i | inr i ↦ q.none (omega (arith, h.0)) a i ];
  some = λ l. (let s = p.some l in record {
    member = to x.row s.member;
    ends_then = s.ends_then;
    latest = λ a m. elim (from a m) [ inl i ↦ s.latest a i | inr i ↦ omega (arith, h.0, (some_latest B ends y q a i).latest a i) ];
    least = λ a m e. elim (from a m) [
      | inl i ↦ s.least a i e
      | inr i ↦ (let o = some_latest B ends y q a i in
          let same : x.end ≡ y.end = omega (arith, h.0, o.latest a i) in omega (arith, h.1 same, o.least a i (omega arith)))
    ];
  });
}

-- the later of the latest of two sets is the latest of both
pub later_latest : (A B : ℕ → Type 0) (ends : ℕ → ℕ) (x y : Latest) → IsLatestOf A ends x → IsLatestOf B ends y
    → IsLatestOf (λ r. A r ⊎ B r) ends (later_of x y)
later_latest A B ends x y p q = by_test (comes_after y x) refl
  where
    by_test : (b : Bool) → comes_after y x ≡ b → IsLatestOf (λ r. A r ⊎ B r) ends (if comes_after y x then y else x)
    by_test true e = rw e (picked B A (λ r. A r ⊎ B r) ends y x (after_true x y e) (λ a i. inr i) (λ a m. elim m [ inl i ↦ inr i | inr i ↦ inl i ]) q p)
    by_test false e = rw e (picked A B (λ r. A r ⊎ B r) ends x y (after_false x y e) (λ a i. inl i) (λ a m. m) p q)

-- the same rows, with the same ends
pub IsLatest-same : (A B : ℕ → Type 0) (ends ends' : ℕ → ℕ) (x : Latest) →
    ((r : ℕ) → A r → B r) → ((r : ℕ) → B r → A r) → ((r : ℕ) → A r → ends' r ≡ ends r) →
    IsLatestOf A ends x → IsLatestOf B ends' x
IsLatest-same A B ends ends' x f g s q = record {
  none = λ e a m. q.none e a (g a m);
  some = λ l. (let p : IsLatest A ends x = q.some l in record {
    member = f x.row p.member;
    ends_then = let e : ends' x.row ≡ ends x.row = s x.row p.member in omega (arith, p.ends_then);
    latest = λ a m. (let e : ends' a ≡ ends a = s a (g a m) in omega (arith, p.latest a (g a m)));
    least = λ a m h. (let e : ends' a ≡ ends a = s a (g a m) in p.least a (g a m) (omega arith));
  });
}

pub contains_head : {X : Type 0} (c : X) (cs : List X) → Contains (c ∷ cs) c
contains_head c cs = (0, omega arith, refl)

pub contains_tail : {X : Type 0} (c d : X) (cs : List X) → Contains cs d → Contains (c ∷ cs) d
contains_tail c d cs (k, l, e) = (suc k, omega arith, e)

pub contains_cases : {X : Type 0} (c d : X) (cs : List X) → Contains (c ∷ cs) d → (c ≡ d) ⊎ Contains cs d
contains_cases c d cs (zero, l, e) = inl e
contains_cases c d cs (suc k, l, e) = inr (k, omega arith, e)

-- a row alone
pub single : (ends : ℕ → ℕ) (row : Latest) → 0 < row.end → ends row.row ≡ row.end → IsLatestOf (λ r. r ≡ row.row) ends row
single ends row above e = record {
  none = λ z a m. omega (arith, above, z);
  some = λ l. record {
    member = refl;
    ends_then = e;
    latest = λ a m. (let h : ends a ≡ row.end = subst (λ (x : ℕ). ends x ≡ row.end) (sym m) e in omega arith);
    least = λ a m h. omega arith;
  };
}

-- the first of some rows up to place k
abbrev pub UpTo : List ℕ → ℕ → ℕ → Type 0
UpTo rows k a = (j : ℕ) × (j < k) × (slice_index rows j ≡ a)

pub latest_none : (rows : List ℕ) (ends : ℕ → ℕ) (row : ℕ) → IsLatestOf (UpTo rows 0) ends (record { end = 0; row = row })
latest_none rows ends row = record { none = λ e a m. omega (arith, m.1); some = λ l. absurd (omega (arith, l)) }

-- one more of them
pub latest_more : (rows : List ℕ) (ends : ℕ → ℕ) (k : ℕ) (latest one : Latest) → one.row ≡ slice_index rows k → 0 < one.end → ends one.row ≡ one.end →
    IsLatestOf (UpTo rows k) ends latest → IsLatestOf (UpTo rows (k + 1)) ends (later_of latest one)
latest_more rows ends k latest one is above e p =
    IsLatest-same (λ a. UpTo rows k a ⊎ (a ≡ one.row)) (UpTo rows (k + 1)) ends ends (later_of latest one)
    (λ a m. elim m [ inl (j, h, same) ↦ (j, omega (arith, h), same) | inr same ↦ (k, omega arith, omega (arith, is, same)) ])
    (λ a m. up_to a m)
    (λ a m. refl)
    (later_latest (UpTo rows k) (λ a. a ≡ one.row) ends latest one p (single ends one above e))
  where
    up_to : (a : ℕ) → UpTo rows (k + 1) a → UpTo rows k a ⊎ (a ≡ one.row)
    up_to a (j, h, same) = elim (cases_eq j k) [
      | inl q ↦ inr (sym same ∙ ap (slice_index rows) q ∙ sym is)
      | inr ne ↦ inl (j, omega arith, same)
    ]

-- all of them
pub latest_all : (rows : List ℕ) (ends : ℕ → ℕ) (k : ℕ) (latest : Latest) → k ≡ length rows → IsLatestOf (UpTo rows k) ends latest
    → IsLatestOf (λ a. Contains rows a) ends latest
latest_all rows ends k latest all p =
    IsLatest-same (UpTo rows k) (λ a. Contains rows a) ends ends latest
    (λ a m. (m.0, omega (arith, m.1, all), get_or_default rows m.0 a 0 (omega (arith, m.1, all)) ∙ m.2))
    (λ a m. (m.0, omega (arith, m.1, all), get_or_default rows m.0 0 a m.1 ∙ m.2))
    (λ a m. refl)
    p

-- Rows without some of their cowns, which are marked: the same as without one of them after the other.
use Rattle.std.proofs.Common.{◌≡◌, ◌≢◌, ⊎_elim, ℕ, zero, suc, ◌+◌, ◌<◌, ◌≤◌, Bool, true, false, not, ◌&&◌, ◌||◌, cond, eqb}
use Rattle.std.proofs.Common.{List, [], ◌∷◌, length, take, set, get_or, map, Some, refl, ap, ap₂, sym, ◌∙◌, arith}
use Rattle.std.specs.Prelude.{All, filter, slice_get, slice_index_or, nat_eq}
use Rattle.std.specs.List.{Contains, list_any}
use Rattle.std.proofs.lemmas.Bool.{cases_lt, ne_eqb}
use Rattle.std.proofs.lemmas.Bool.Decides.{eqb_tells}
use Rattle.std.proofs.lemmas.Cmp.{nat_eq_equiv}
use Rattle.std.proofs.lemmas.List.{get_or-set_same, get_or-set_other, get_or_past, length-set}
use Rattle.std.proofs.lemmas.List.Elements.{All-head, All-tail, Contains-get_or, filter_agree}
use Rattle.std.proofs.lemmas.List.Folds.{list_any_more, list_any_none}
use Rattle.std.proofs.lemmas.Map.Views.{list_any-from_Contains}
use Rattle.std.proofs.lemmas.Option.{slice_get_within}
use Rattle.boc_program.specs.declared.limits.TheConstants.{MOST_COWNS}
use Rattle.boc_program.specs.Cowns.{AreAmong, others}
use Rattle.boc_runs.specs.declared.rows.Row.{Row}
use Rattle.boc_runs.specs.Rows.{IsRows}
use Rattle.boc_runs.specs.Changes.{freed_row, without}
use Rattle.boc_runs.proofs.Freeing.{rows_without}
use Rattle.boc_why.specs.Causes.{AreMarks, freed_from, without_all}

take_long : {X : Type 0} (n : ℕ) (xs : List X) → length xs ≤ n → take n xs ≡ xs
take_long zero [] h = refl
take_long zero (x ∷ xs) h = absurd (omega (arith, h))
take_long (suc n) [] h = refl
take_long {X} (suc n) (x ∷ xs) h = ap (λ (l : List X). x ∷ l) (take_long n xs (omega (arith, h)))

-- ---- marks

-- no cown is marked at first
pub marks_none : (marks : List Bool) → length marks ≡ MOST_COWNS → ((cown : ℕ) → slice_index_or marks cown false ≡ false) → AreMarks [] marks
marks_none marks whole none = record { whole = whole; each = λ cown below. none cown }

-- one more
pub marks_more : (cowns : List ℕ) (n d : ℕ) (marks : List Bool) → n < length cowns → get_or cowns n d < MOST_COWNS → AreMarks (take n cowns) marks
    → AreMarks (take (n + 1) cowns) (set marks (get_or cowns n d) true)
marks_more cowns n d marks there small so =
    let new : ℕ = get_or cowns n d in
    record {
      whole = length-set marks new true ∙ so.whole;
      each = λ cown below.
          let more = list_any_more (nat_eq cown) cowns n d there in
          ⊎_elim
          (λ (same : (eqb cown new ≡ true) × (cown ≡ new)).
          rw (more, same.0, same.1, get_or-set_same marks new true false (omega (arith, so.whole, small)))
          (sym (or_true (list_any (nat_eq new) (take n cowns)))))
          (λ (apart : (eqb cown new ≡ false) × (cown ≢ new)).
          rw (more, apart.0, get_or-set_other marks new cown true false apart.1)
          (so.each cown below ∙ sym (or_false (list_any (nat_eq cown) (take n cowns)))))
          (eqb_tells cown new);
    }
  where
    or_true : (b : Bool) → (b || true) ≡ true
    or_true true = refl
    or_true false = refl

    or_false : (b : Bool) → (b || false) ≡ b
    or_false true = refl
    or_false false = refl

-- a number is marked where it is one of the cowns
pub marks_tell : (cowns : List ℕ) (marks : List Bool) → All (λ c. c < MOST_COWNS) cowns → AreMarks cowns marks → (c : ℕ)
    → slice_index_or marks c false ≡ list_any (nat_eq c) cowns
marks_tell cowns marks small are c = ⊎_elim
    (λ (h : c < MOST_COWNS). are.each c h)
    (λ (h : MOST_COWNS ≤ c). get_or_past marks c false (omega (arith, h, are.whole))
    ∙ sym (list_any_none (nat_eq c) cowns (λ k d l. ne_eqb c (get_or cowns k d) (let ne : c ≢ get_or cowns k d = omega (arith, h, small k d l) in ne))))
    (cases_lt c MOST_COWNS)

-- ---- rows without those that a test gives

abbrev pub freed_by : (ℕ → Bool) → Row → Row
freed_by test x = record x {
  cowns = record { items = filter (λ c. not (test c)) x.cowns.items };
  written = record { items = filter (λ c. not (test c)) x.written.items };
}

agree_on : (p q : ℕ → Bool) (xs : List ℕ) → All (λ c. p c ≡ q c) xs → filter p xs ≡ filter q xs
agree_on p q [] same = refl
agree_on p q (x ∷ xs) same =
    ap (λ (b : Bool). cond b (x ∷ filter p xs) (filter p xs)) (All-head (λ c. p c ≡ q c) x xs same)
    ∙ ap (λ (l : List ℕ). cond (q x) (x ∷ l) l) (agree_on p q xs (All-tail (λ c. p c ≡ q c) x xs same))

filter_both : (p q : ℕ → Bool) (xs : List ℕ) → filter p (filter q xs) ≡ filter (λ c. q c && p c) xs
filter_both p q [] = refl
filter_both p q (x ∷ xs) = go (q x) (filter_both p q xs)
  where
    go : (b : Bool) → filter p (filter q xs) ≡ filter (λ c. q c && p c) xs → filter p (cond b (x ∷ filter q xs) (filter q xs))
        ≡ cond (b && p x) (x ∷ filter (λ c. q c && p c) xs) (filter (λ c. q c && p c) xs)
    go true e = ap (λ (l : List ℕ). cond (p x) (x ∷ l) l) e
    go false e = e

filter_all : (xs : List ℕ) → filter (λ c. true) xs ≡ xs
filter_all [] = refl
filter_all (x ∷ xs) = ap (λ (l : List ℕ). x ∷ l) (filter_all xs)

-- tests that tell the same of the row's cowns, and of those that it wrote
freed_agree : (p q : ℕ → Bool) (x : Row) → All (λ c. p c ≡ q c) x.cowns.items → All (λ c. p c ≡ q c) x.written.items → freed_by p x ≡ freed_by q x
freed_agree p q x a b =
    let cowns = agree_on (λ c. not (p c)) (λ c. not (q c)) x.cowns.items (λ k d h. ap not (a k d h)) in
    let written = agree_on (λ c. not (p c)) (λ c. not (q c)) x.written.items (λ k d h. ap not (b k d h)) in
    λ i. record x { cowns = record { items = cowns i }; written = record { items = written i } }

freed_same : (p q : ℕ → Bool) → ((c : ℕ) → p c ≡ q c) → (x : Row) → freed_by p x ≡ freed_by q x
freed_same p q same x = freed_agree p q x (λ k d h. same (get_or x.cowns.items k d)) (λ k d h. same (get_or x.written.items k d))

neither : (a b : Bool) → (not a && not b) ≡ not (a || b)
neither true b = refl
neither false b = refl

others_too : (cown : ℕ) (test : ℕ → Bool) (xs : List ℕ) → others cown (filter (λ c. not (test c)) xs) ≡ filter (λ c. not (test c || eqb c cown)) xs
others_too cown test xs = filter_both (λ c. not (eqb c cown)) (λ c. not (test c)) xs
    ∙ filter_agree (λ c. not (test c) && not (eqb c cown)) (λ c. not (test c || eqb c cown)) (λ c. neither (test c) (eqb c cown)) xs

-- one cown less
freed_too : (cown : ℕ) (test : ℕ → Bool) (x : Row) → freed_row cown (freed_by test x) ≡ freed_by (λ c. test c || eqb c cown) x
freed_too cown test x =
    let cowns = others_too cown test x.cowns.items in
    let written = others_too cown test x.written.items in
    λ i. record x { cowns = record { items = cowns i }; written = record { items = written i } }

-- ---- one row

-- the cown is marked, and one of the row's first n cowns
abbrev pub is_out : List Bool → List ℕ → ℕ → ℕ → Bool
is_out marks cowns n c = slice_index_or marks c false && list_any (nat_eq c) (take n cowns)

none_out : (b : Bool) → (b && false) ≡ false
none_out true = refl
none_out false = refl

module _ (x : Row) (marks : List Bool) where
  abbrev cowns : List ℕ
  cowns = x.cowns.items

  pub freed_none : x ≡ freed_by (is_out marks cowns 0) x
  freed_none =
      let same = λ (xs : List ℕ). sym (filter_all xs)
      ∙ filter_agree (λ c. true) (λ c. not (is_out marks cowns 0 c)) (λ c. sym (ap not (none_out (slice_index_or marks c false)))) xs in
      let all = same x.cowns.items in
      let written = same x.written.items in
      λ i. record x { cowns = record { items = all i }; written = record { items = written i } }

  module _ (n d : ℕ) (there : n < length cowns) where
    abbrev new : ℕ
    new = get_or cowns n d

    more : (c : ℕ) → list_any (nat_eq c) (take (n + 1) cowns) ≡ (list_any (nat_eq c) (take n cowns) || eqb c new)
    more c = list_any_more (nat_eq c) cowns n d there

    -- the next one is marked
    pub freed_more : (left : Row) → slice_index_or marks new false ≡ true → left ≡ freed_by (is_out marks cowns n) x
        → freed_row new left ≡ freed_by (is_out marks cowns (n + 1)) x
    freed_more left marked so = ap (freed_row new) so ∙ freed_too new (is_out marks cowns n) x
        ∙ freed_same (λ c. is_out marks cowns n c || eqb c new) (is_out marks cowns (n + 1)) same x
      where
        by_mark : (m a : Bool) → ((m && a) || false) ≡ (m && (a || false))
        by_mark true a = refl
        by_mark false a = refl

        same : (c : ℕ) → (is_out marks cowns n c || eqb c new) ≡ is_out marks cowns (n + 1) c
        same c = ⊎_elim
            (λ (e : (eqb c new ≡ true) × (c ≡ new)). rw (more c, e.0, e.1, marked) refl)
            (λ (e : (eqb c new ≡ false) × (c ≢ new)). rw (more c, e.0) (by_mark (slice_index_or marks c false) (list_any (nat_eq c) (take n cowns))))
            (eqb_tells c new)

    -- the next one isn't
    pub freed_kept : (left : Row) → slice_index_or marks new false ≡ false → left ≡ freed_by (is_out marks cowns n) x
        → left ≡ freed_by (is_out marks cowns (n + 1)) x
    freed_kept left unmarked so = so ∙ freed_same (is_out marks cowns n) (is_out marks cowns (n + 1)) same x
      where
        by_mark : (m a : Bool) → (m && a) ≡ (m && (a || false))
        by_mark true true = refl
        by_mark true false = refl
        by_mark false a = refl

        same : (c : ℕ) → is_out marks cowns n c ≡ is_out marks cowns (n + 1) c
        same c = ⊎_elim
            (λ (e : (eqb c new ≡ true) × (c ≡ new)). rw (e.1, unmarked) refl)
            (λ (e : (eqb c new ≡ false) × (c ≢ new)). rw (more c, e.0) (by_mark (slice_index_or marks c false) (list_any (nat_eq c) (take n cowns))))
            (eqb_tells c new)

  -- after the last one
  pub freed_all : (n : ℕ) (left : Row) → length cowns ≤ n → AreAmong cowns x.written.items → left ≡ freed_by (is_out marks cowns n) x
      → left ≡ freed_from marks x
  freed_all n left all among so =
      so ∙ freed_agree (is_out marks cowns n) (λ c. slice_index_or marks c false) x
      (λ k d h. told (get_or cowns k d) (Contains-get_or cowns k d h)) (λ k d h. told (get_or x.written.items k d) (among.own k d h))
    where
      by_stands : (m : Bool) → (m && true) ≡ m
      by_stands true = refl
      by_stands false = refl

      told : (c : ℕ) → Contains cowns c → is_out marks cowns n c ≡ slice_index_or marks c false
      told c stands = rw (take_long n cowns all, list_any-from_Contains nat_eq_equiv c cowns stands) (by_stands (slice_index_or marks c false))

-- ---- all rows

map_both : (f g h : Row → Row) → ((x : Row) → f (g x) ≡ h x) → (rows : List Row) → map f (map g rows) ≡ map h rows
map_both f g h same [] = refl
map_both f g h same (x ∷ rows) = ap₂ ◌∷◌ (same x) (map_both f g h same rows)

map_same : (f g : Row → Row) → ((x : Row) → f x ≡ g x) → (rows : List Row) → map f rows ≡ map g rows
map_same f g same [] = refl
map_same f g same (x ∷ rows) = ap₂ ◌∷◌ (same x) (map_same f g same rows)

map_self : (f : Row → Row) → ((x : Row) → x ≡ f x) → (rows : List Row) → rows ≡ map f rows
map_self f same [] = refl
map_self f same (x ∷ rows) = ap₂ ◌∷◌ (same x) (map_self f same rows)

-- without one cown after the other the rows are without all at once
at_once : (cowns : List ℕ) (rows : List Row) → without_all cowns rows ≡ map (freed_by (λ c. list_any (nat_eq c) cowns)) rows
at_once [] rows = map_self (freed_by (λ c. false)) (λ x.
    let all = sym (filter_all x.cowns.items) in
    let written = sym (filter_all x.written.items) in
    λ i. record x { cowns = record { items = all i }; written = record { items = written i } }) rows
at_once (cown ∷ cowns) rows = at_once cowns (without cown rows)
    ∙ map_both (freed_by (λ c. list_any (nat_eq c) cowns)) (freed_row cown) (freed_by (λ c. eqb c cown || list_any (nat_eq c) cowns)) too rows
  where
    less : (xs : List ℕ) → filter (λ c. not (list_any (nat_eq c) cowns)) (others cown xs) ≡ filter (λ c. not (eqb c cown || list_any (nat_eq c) cowns)) xs
    less xs = filter_both (λ c. not (list_any (nat_eq c) cowns)) (λ c. not (eqb c cown)) xs
        ∙ filter_agree (λ c. not (eqb c cown) && not (list_any (nat_eq c) cowns)) (λ c. not (eqb c cown || list_any (nat_eq c) cowns))
        (λ c. neither (eqb c cown) (list_any (nat_eq c) cowns)) xs

    too : (x : Row) → freed_by (λ c. list_any (nat_eq c) cowns) (freed_row cown x) ≡ freed_by (λ c. eqb c cown || list_any (nat_eq c) cowns) x
    too x =
        let all = less x.cowns.items in
        let written = less x.written.items in
        λ i. record x { cowns = record { items = all i }; written = record { items = written i } }

all_left_out : (cowns : List ℕ) (marks : List Bool) (rows : List Row) → All (λ c. c < MOST_COWNS) cowns → AreMarks cowns marks
    → map (freed_from marks) rows ≡ without_all cowns rows
all_left_out cowns marks rows small are =
    map_same (freed_from marks) (freed_by (λ c. list_any (nat_eq c) cowns))
    (freed_same (λ c. slice_index_or marks c false) (λ c. list_any (nat_eq c) cowns) (marks_tell cowns marks small are)) rows
    ∙ sym (at_once cowns rows)

-- the rows that were made of all rows
pub left_all : (cowns : List ℕ) (marks : List Bool) (rows now items : List Row) (n : ℕ) → All (λ c. c < MOST_COWNS) cowns → AreMarks cowns marks
    → now ≡ rows → length now ≤ n → items ≡ map (freed_from marks) (take n now) → items ≡ without_all cowns rows
left_all cowns marks rows now items n small are same long is =
    is ∙ ap (map (freed_from marks)) (take_long n now long ∙ same) ∙ all_left_out cowns marks rows small are

-- rows without some cowns are rows of a record
pub rows_without_all : (cowns : List ℕ) (rows : List Row) → IsRows rows → IsRows (without_all cowns rows)
rows_without_all [] rows hr = hr
rows_without_all (cown ∷ cowns) rows hr = rows_without_all cowns (without cown rows) (rows_without cown rows hr)

-- a row of a record wrote none but its cowns
pub written_among : (rows : List Row) → IsRows rows → (r : ℕ) (x : Row) → slice_get rows r ≡ Some x → AreAmong x.cowns.items x.written.items
written_among rows hr r x is = rw is at (hr.written_own r (slice_get_within rows r x is))

-- The ticks of the rows that wrote a cown: as they are added up, and that no order of the rows is done before them.
use Rattle.std.proofs.Common.{◌≡◌, ◌≢◌, ◌⊎◌, inl, inr, ℕ, zero, suc, ◌+◌, ◌*◌, ◌<◌, ◌≤◌, ◌^◌, Bool, true, false, cond, true≢false}
use Rattle.std.proofs.Common.{List, [], ◌∷◌, length, take, refl, ap, sym, ◌∙◌, subst, arith, length-set}
use Rattle.std.specs.Option.{option_map_or}
use Rattle.std.specs.Prelude.{filter, slice_get, slice_index, slice_set}
use Rattle.std.specs.List.{Contains, sum_by}
use Rattle.std.proofs.lemmas.Bool.{cases_eq}
use Rattle.std.proofs.lemmas.List.{get_or_default, get_or-set_same, get_or-set_other, take_all}
use Rattle.std.proofs.lemmas.List.Kept.{AllPairs-from_increasing}
use Rattle.std.proofs.lemmas.List.Sums.{sum_by-cons}
use Rattle.boc_program.specs.declared.limits.TheConstants.{MOST_COWNS, MOST_TICKS}
use Rattle.boc_runs.specs.declared.rows.Row.{Row}
use Rattle.boc_runs.specs.Rows.{IsRows, ticks_of, cowns_of, written_of}
use Rattle.boc_plans.specs.Plans.{start_of, end_of, IsEnd, ConflictOn}
use Rattle.boc_order.proofs.Near.{writes_own}
use Rattle.boc_order.proofs.Totals.{total, total-same, total-most, total-swap, total-at_most_one, inside, inside_cases, total-inside}
use Rattle.boc_order.specs.Least.{wrote, load_of, KeepsApart, AreLoads}
use Rattle.boc_order.proofs.Found.{found, finds}

-- ---- the load of some rows, row by row

-- the ticks that a row adds to the load of a cown
abbrev pub own_load : List Row → ℕ → ℕ → ℕ
own_load rows c r = option_map_or (λ x. cond (wrote c x) x.ticks 0) (slice_get rows r) 0

load_if : (x : Row) (l : List Row) (b : Bool) → sum_by (λ y. y.ticks) (cond b (x ∷ l) l) ≡ cond b x.ticks 0 + sum_by (λ y. y.ticks) l
load_if x l true = sum_by-cons (λ (y : Row). y.ticks) x l
load_if x l false = omega arith

load_cons : (x : Row) (rows : List Row) (c : ℕ) → load_of (x ∷ rows) c ≡ cond (wrote c x) x.ticks 0 + load_of rows c
load_cons x rows c = load_if x (filter (wrote c) rows) (wrote c x)

load_suc : (rows : List Row) (n c : ℕ) → n < length rows → load_of (take (suc n) rows) c ≡ load_of (take n rows) c + own_load rows c n
load_suc [] n c h = absurd (omega (arith, h))
load_suc (x ∷ rows) zero c h = omega (arith, load_cons x [] c)
load_suc (x ∷ rows) (suc n) c h =
    omega (arith, load_cons x (take (suc n) rows) c, load_cons x (take n rows) c, load_suc rows n c (omega (arith, h)))

load_more : (rows : List Row) (n c : ℕ) → n < length rows → load_of (take (n + 1) rows) c ≡ load_of (take n rows) c + own_load rows c n
load_more rows n c h = (let e : n + 1 ≡ suc n = omega arith in ap (λ (k : ℕ). load_of (take k rows) c) e ∙ load_suc rows n c h)

own_if : (x : Row) (c : ℕ) (b : Bool) → wrote c x ≡ b → (Contains x.written.items c × (cond b x.ticks 0 ≡ x.ticks))
    ⊎ ((Contains x.written.items c → ⊥) × (cond b x.ticks 0 ≡ 0))
own_if x c true e = inl (found c x.written.items e, refl)
own_if x c false e = inr (λ h. true≢false (sym (finds c x.written.items h) ∙ e), refl)

-- it is all its ticks where it wrote the cown, else none
pub own_cases : (rows : List Row) (c r : ℕ) → r < length rows → (Contains (written_of rows r) c × (own_load rows c r ≡ ticks_of rows r))
    ⊎ ((Contains (written_of rows r) c → ⊥) × (own_load rows c r ≡ 0))
own_cases [] c r h = absurd (omega (arith, h))
own_cases (x ∷ rows) c zero h = own_if x c (wrote c x) refl
own_cases (x ∷ rows) c (suc r) h = own_cases rows c r (omega (arith, h))

load_low : (rows : List Row) → IsRows rows → (n c : ℕ) → n ≤ length rows → load_of (take n rows) c ≤ n * MOST_TICKS
load_low rows hr zero c h = omega arith
load_low rows hr (suc n) c h =
    let there : n < length rows = omega (arith, h) in
    let before = load_low rows hr n c (omega (arith, h)) in
    let more = load_suc rows n c there in
    elim (own_cases rows c n there) [
      | inl (w, is) ↦ omega (arith, before, more, is, hr.ticks_high n there)
      | inr (not, is) ↦ omega (arith, before, more, is)
    ]

-- no cown has a greater load than all rows can take together
pub all_low : (rows : List Row) → IsRows rows → (c : ℕ) → load_of rows c < 2 ^ 56
all_low rows hr c =
    let all : load_of (take (length rows) rows) c ≡ load_of rows c =
    ap (λ (l : List Row). load_of l c) (take_all (length rows) rows (omega arith)) in
    omega (arith, all, load_low rows hr (length rows) c (omega arith), hr.not_many)

-- ---- the loads as the next row is added, cown by cown

-- the row's ticks are added to the loads of the first i of its cowns, where it wrote them
pub record SomeAdded (rows : List Row) (n i : ℕ) (old new : List ℕ) : Type 0 where
  pub whole : length new ≡ length old
  pub own : (j : ℕ) → j < i → Contains (written_of rows n) (slice_index (cowns_of rows n) j)
      → slice_index new (slice_index (cowns_of rows n) j) ≡ slice_index old (slice_index (cowns_of rows n) j) + ticks_of rows n
  pub others : (c : ℕ) → ((j : ℕ) → j < i → slice_index (cowns_of rows n) j ≡ c → Contains (written_of rows n) c → ⊥)
      → slice_index new c ≡ slice_index old c

module _ (rows : List Row) (hr : IsRows rows) (n : ℕ) (there : n < length rows) (old : List ℕ) where
  pub added_none : SomeAdded rows n 0 old old
  added_none = record { whole = refl; own = λ j h. absurd (omega (arith, h)); others = λ c none. refl }

  module _ (i : ℕ) (new : List ℕ) (s : SomeAdded rows n i old new) (below : i < length (cowns_of rows n)) where
    abbrev cown : ℕ
    cown = slice_index (cowns_of rows n) i

    other_cown : (j : ℕ) → j < i → slice_index (cowns_of rows n) j ≢ cown
    other_cown j less = λ same. omega (arith, same, AllPairs-from_increasing (cowns_of rows n) (hr.cowns_rise n there) j i 0 less below)

    pub fresh : slice_index new (slice_index (cowns_of rows n) i) ≡ slice_index old (slice_index (cowns_of rows n) i)
    fresh = s.others cown (λ j less same w. other_cown j less same)

    pub added_low : AreLoads (take n rows) old → slice_index new (slice_index (cowns_of rows n) i) + ticks_of rows n ≤ (n + 1) * MOST_TICKS
    added_low l = omega (
      arith,
      fresh,
      l.at cown (hr.cowns_below n there i 0 below),
      load_low rows hr n cown (omega (arith, there)),
      hr.ticks_high n there,
    )

    -- a cown that the row only read is passed over
    pub added_skips : (Contains (written_of rows n) (slice_index (cowns_of rows n) i) → ⊥) → SomeAdded rows n (i + 1) old new
    added_skips not = record {
      whole = s.whole;
      own = λ j h w. elim (cases_eq j i) [
        | inl e ↦ absurd (not (subst (λ (k : ℕ). Contains (written_of rows n) (slice_index (cowns_of rows n) k)) e w))
        | inr ne ↦ s.own j (omega arith) w
      ];
      others = λ c none. s.others c (λ j less. none j (omega (arith, less)));
    }

    -- to the load of one that it wrote its ticks are added
    pub added_takes : Contains (written_of rows n) (slice_index (cowns_of rows n) i) → length old ≡ MOST_COWNS → (sum : ℕ)
        → sum ≡ slice_index new (slice_index (cowns_of rows n) i) + ticks_of rows n
        → SomeAdded rows n (i + 1) old (slice_set new (slice_index (cowns_of rows n) i) sum)
    added_takes w all sum is =
        let inside : cown < length new = omega (arith, hr.cowns_below n there i 0 below, all, s.whole) in
        record {
          whole = length-set new cown sum ∙ s.whole;
          own = λ j h wj. elim (cases_eq j i) [
            | inl e ↦ rw e (get_or-set_same new cown sum 0 inside ∙ is ∙ ap (λ (k : ℕ). k + ticks_of rows n) fresh)
            | inr ne ↦ (
                let less : j < i = omega arith in
                get_or-set_other new cown (slice_index (cowns_of rows n) j) sum 0 (other_cown j less) ∙ s.own j less wj)
          ];
          others = λ c none.
              get_or-set_other new cown c sum 0 (λ (e : c ≡ cown). none i (omega arith) (sym e) (subst (Contains (written_of rows n)) (sym e) w))
              ∙ s.others c (λ j less. none j (omega (arith, less)));
        }

  -- and so its loads are those of one row more
  pub added_all : (i : ℕ) (new : List ℕ) → length (cowns_of rows n) ≤ i → SomeAdded rows n i old new → AreLoads (take n rows) old
      → AreLoads (take (n + 1) rows) new
  added_all i new all s l = record {
    whole = s.whole ∙ l.whole;
    at = λ c small. elim (own_cases rows c n there) [
      | inl (w, is) ↦ (
          let has = writes_own rows hr n c there w in
          let at : slice_index (cowns_of rows n) has.0 ≡ c = get_or_default (cowns_of rows n) has.0 0 c has.1 ∙ has.2 in
          let own = s.own has.0 (omega (arith, has.1, all)) (subst (Contains (written_of rows n)) (sym at) w) in
          let here : slice_index new c ≡ slice_index old c + ticks_of rows n =
          subst (λ (k : ℕ). slice_index new k ≡ slice_index old k + ticks_of rows n) at own in
          omega (arith, here, l.at c small, load_more rows n c there, is))
      | inr (not, is) ↦ omega (arith, s.others c (λ j less same w. not w), l.at c small, load_more rows n c there, is)
    ];
  }

-- before the first row no cown has a load
pub no_loads : (rows : List Row) (loads : List ℕ) → length loads ≡ MOST_COWNS → ((c : ℕ) → slice_index loads c ≡ 0) → AreLoads (take 0 rows) loads
no_loads rows loads whole none = record { whole = whole; at = λ c small. none c }

pub all_loads : (rows : List Row) (n : ℕ) (loads : List ℕ) → length rows ≤ n → AreLoads (take n rows) loads → AreLoads rows loads
all_loads rows n loads all l = subst (λ (list : List Row). AreLoads list loads) (take_all n rows all) l

-- ---- no order of the rows is done before the load of a cown

load_total : (rows : List Row) (c n : ℕ) → n ≤ length rows → load_of (take n rows) c ≡ total (own_load rows c) n
load_total rows c zero h = refl
load_total rows c (suc n) h = omega (arith, load_suc rows n c (omega (arith, h)), load_total rows c n (omega (arith, h)))

-- nothing adds up to nothing
total_none : (f : ℕ → ℕ) (n : ℕ) → ((k : ℕ) → k < n → f k ≡ 0) → total f n ≡ 0
total_none f zero h = refl
total_none f (suc n) h = omega (arith, total_none f n (λ k l. h k (omega (arith, l))), h n (omega arith))

-- what is nothing up to a tick, and one at most from there on
total_from : (f : ℕ → ℕ) (from last : ℕ) → from ≤ last → ((t : ℕ) → t < from → f t ≡ 0) → ((t : ℕ) → f t ≤ 1) → from + total f last ≤ last
total_from f from zero low none few = omega (arith, low)
total_from f from (suc last) low none few = elim (cases_eq from (suc last)) [
  | inl e ↦ omega (arith, e, total_none f (suc last) (λ k l. none k (omega (arith, l, e))))
  | inr ne ↦ omega (arith, total_from f from last (omega (arith, low, ne)) none few, few last)
]

module _ (rows : List Row) (hr : IsRows rows) (plan : List ℕ) (last cown : ℕ) (apart : KeepsApart rows plan) (end : IsEnd rows plan last) where
  -- 1 where row r, which wrote the cown, is under way at tick t
  abbrev on : ℕ → ℕ → ℕ
  on r t = inside (start_of plan r) (start_of plan r + own_load rows cown r) t

  own_low : (r : ℕ) → r < length rows → own_load rows cown r ≤ ticks_of rows r
  own_low r there = elim (own_cases rows cown r there) [ inl (w, is) ↦ omega (arith, is) | inr (not, is) ↦ omega (arith, is) ]

  -- each is for its ticks
  each : (r : ℕ) → r < length rows → total (on r) last ≡ own_load rows cown r
  each r there = omega (
    arith,
    total-inside (start_of plan r) (start_of plan r + own_load rows cown r) last (omega arith),
    own_low r there,
    end.none_later r there,
  )

  -- a row that is under way wrote the cown
  pub record IsOn (r t : ℕ) : Type 0 where
    pub writes : Contains (written_of rows r) cown
    pub begun : start_of plan r ≤ t
    pub not_over : t < end_of rows plan r

  on_cases : (r t : ℕ) → r < length rows → ((on r t ≡ 1) × IsOn r t) ⊎ (on r t ≡ 0)
  on_cases r t there = elim (inside_cases (start_of plan r) (start_of plan r + own_load rows cown r) t) [
    | inl y ↦ elim (own_cases rows cown r there) [
      | inl (w, is) ↦ inl (y.0, record { writes = w; begun = y.1; not_over = omega (arith, y.2, is) })
      | inr (not, is) ↦ absurd (omega (arith, y.1, y.2, is))
    ]
    | inr out ↦ inr out.0
  ]

  conflict : (i j t : ℕ) → i < length rows → j < length rows → IsOn i t → IsOn j t → ConflictOn rows cown i j
  conflict i j t hi hj a b = record {
    first = writes_own rows hr i cown hi a.writes;
    second = writes_own rows hr j cown hj b.writes;
    wrote = inl a.writes;
  }

  same_on : (i j t : ℕ) → i < length rows → j < length rows → IsOn i t → IsOn j t → i ≡ j
  same_on i j t hi hj a b = elim (cases_eq i j) [
    | inl e ↦ e
    | inr ne ↦ elim (apart i j cown ne hi hj (conflict i j t hi hj a b)) [
      | inl before ↦ absurd (omega (arith, before, a.not_over, b.begun))
      | inr after ↦ absurd (omega (arith, after, b.not_over, a.begun))
    ]
  ]

  one : (t : ℕ) → total (λ r. on r t) (length rows) ≤ 1
  one t = total-at_most_one (λ r. on r t) (length rows)
      (λ r there. elim (on_cases r t there) [ inl y ↦ omega (arith, y.0) | inr z ↦ omega (arith, z) ])
      (λ i j hi hj a b. elim (on_cases i t hi) [
        | inl y ↦ elim (on_cases j t hj) [ inl z ↦ same_on i j t hi hj y.1 z.1 | inr z ↦ absurd (omega (arith, b, z)) ]
        | inr z ↦ absurd (omega (arith, a, z))
      ])

  pub load_ends : load_of rows cown ≤ last
  load_ends =
      let all : load_of rows cown ≡ total (own_load rows cown) (length rows) =
      sym (ap (λ (l : List Row). load_of l cown) (take_all (length rows) rows (omega arith))) ∙ load_total rows cown (length rows) (omega arith) in
      let rows_first : total (λ r. total (λ t. on r t) last) (length rows) ≡ total (own_load rows cown) (length rows) =
      total-same (λ r. total (λ t. on r t) last) (own_load rows cown) (length rows) each in
      let swap : total (λ r. total (λ t. on r t) last) (length rows) ≡ total (λ t. total (λ r. on r t) (length rows)) last =
      total-swap (λ r t. on r t) (length rows) last in
      let few : total (λ t. total (λ r. on r t) (length rows)) last ≤ last * 1 =
      total-most (λ t. total (λ r. on r t) (length rows)) 1 last (λ t h. one t) in
      omega (arith, all, rows_first, swap, few)

  -- where no row that wrote the cown starts before a tick, none is under way before it
  none_on : (from : ℕ) → ((r : ℕ) → r < length rows → Contains (written_of rows r) cown → from ≤ start_of plan r) → (t : ℕ) → t < from
      → total (λ r. on r t) (length rows) ≡ 0
  none_on from late t early = total_none (λ r. on r t) (length rows) (λ r there. elim (on_cases r t there) [
    | inl y ↦ absurd (omega (arith, late r there y.1.writes, y.1.begun, early))
    | inr z ↦ z
  ])

  -- and so they are done no sooner than their ticks after it
  pub load_ends_from : (from : ℕ) → from ≤ last → ((r : ℕ) → r < length rows → Contains (written_of rows r) cown → from ≤ start_of plan r)
      → from + load_of rows cown ≤ last
  load_ends_from from low late =
      let all : load_of rows cown ≡ total (own_load rows cown) (length rows) =
      sym (ap (λ (l : List Row). load_of l cown) (take_all (length rows) rows (omega arith))) ∙ load_total rows cown (length rows) (omega arith) in
      let rows_first : total (λ r. total (λ t. on r t) last) (length rows) ≡ total (own_load rows cown) (length rows) =
      total-same (λ r. total (λ t. on r t) last) (own_load rows cown) (length rows) each in
      let swap : total (λ r. total (λ t. on r t) last) (length rows) ≡ total (λ t. total (λ r. on r t) (length rows)) last =
      total-swap (λ r t. on r t) (length rows) last in
      omega (arith, all, rows_first, swap, total_from (λ t. total (λ r. on r t) (length rows)) from last low (none_on from late) one)

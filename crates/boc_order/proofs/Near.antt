-- The last writer of a cown and the readers since are the rows for which a row waits on it.
use Rattle.std.proofs.Common.{◌≡◌, ◌≢◌, ℕ, zero, suc, ◌+◌, ◌<◌, ◌⊎◌, List, [], ◌∷◌, ◌++◌, length, get_or, Option, Some, None, inl, inr, sym, ◌∙◌, subst, arith}
use Rattle.std.specs.Prelude.{MatchOption}
use Rattle.std.specs.List.{Contains}
use Rattle.std.proofs.lemmas.Bool.{cases_lt, cases_eq}
use Rattle.std.proofs.lemmas.List.{get_or_default, append-nil}
use Rattle.std.proofs.lemmas.List.Elements.{Contains-append_left, Contains-push, Contains-push_cases}
use Rattle.boc_runs.specs.declared.rows.Row.{Row}
use Rattle.boc_runs.specs.Rows.{IsRows, cowns_of, written_of}
use Rattle.boc_plans.specs.Plans.{ConflictOn, Ordered}
use Rattle.boc_order.specs.declared.gathering.Use.{Use}
use Rattle.boc_order.specs.Waits.{IsNearOn, IsNear}
use Rattle.boc_order.specs.Uses.{NoneWrites, IsWriter, IsReader, IsUse, AddsNearOn}
use Rattle.boc_order.proofs.Remembering.{contains_tail, contains_cases}

-- a list has a number, or hasn't
pub has : (ys : List ℕ) (x : ℕ) → Contains ys x ⊎ (Contains ys x → ⊥)
has [] x = inr (λ c. omega (arith, c.1))
has (y ∷ ys) x = elim (cases_eq y x) [
  | inl e ↦ inl (0, omega arith, e)
  | inr ne ↦ elim (has ys x) [
    | inl c ↦ inl (contains_tail y x ys c)
    | inr none ↦ inr (λ c. elim (contains_cases y x ys c) [ inl e ↦ ne e | inr m ↦ none m ])
  ]
]

-- what stands in a list of one row is that row
pub in_one : (x a : ℕ) → Contains (x ∷ []) a → x ≡ a
in_one x a (zero, h, e) = e
in_one x a (suc k, h, e) = absurd (omega (arith, h))

pub one_in : (x a : ℕ) → x ≡ a → Contains (x ∷ []) a
one_in x a e = (0, omega arith, e)

-- a row writes only what it has
pub writes_own : (rows : List Row) → IsRows rows → (r c : ℕ) → r < length rows → Contains (written_of rows r) c → Contains (cowns_of rows r) c
writes_own rows hr r c there (k, h, e) = subst (λ (x : ℕ). Contains (cowns_of rows r) x) e ((hr.written_own r there).own k c h)

-- where row n doesn't write a cown, its last writer and the readers since stay
module _ (rows : List Row) (n c : ℕ) where
  module _ (isnt : Contains (written_of rows n) c → ⊥) where
    pub none_more : (r : ℕ) → NoneWrites rows c r n → NoneWrites rows c r (n + 1)
    none_more r none k low below w = elim (cases_eq k n) [
      | inl e ↦ isnt (subst (λ (x : ℕ). Contains (written_of rows x) c) e w)
      | inr ne ↦ none k low (omega (arith, below)) w
    ]

    pub writer_more : (o : Option ℕ) → MatchOption o (NoneWrites rows c 0 n) (IsWriter rows n c)
        → MatchOption o (NoneWrites rows c 0 (n + 1)) (IsWriter rows (n + 1) c)
    writer_more None p = none_more 0 p
    writer_more (Some x) p = record { before = omega (arith, p.before); wrote = p.wrote; last = none_more (x + 1) p.last }

    pub reader_more : (r : ℕ) → IsReader rows n c r → IsReader rows (n + 1) c r
    reader_more r p = record { before = omega (arith, p.before); needs = p.needs; since = none_more r p.since }

  -- an earlier reader was one before
  pub reader_less : (r : ℕ) → r ≢ n → IsReader rows (n + 1) c r → IsReader rows n c r
  reader_less r ne i = record { before = omega (arith, i.before); needs = i.needs; since = λ k low below w. i.since k low (omega (arith, below)) w }

-- row b waits on cown c
module _ (rows : List Row) (hr : IsRows rows) (b c : ℕ) (there : b < length rows) (own : Contains (cowns_of rows b) c) where
  needs : (r : ℕ) → r < b → Contains (written_of rows r) c → Contains (cowns_of rows r) c
  needs r before w = writes_own rows hr r c (omega arith) w

  -- to write it, for the readers
  reader_near : Contains (written_of rows b) c → (r : ℕ) → IsReader rows b c r → IsNearOn rows c r b
  reader_near w r i = record {
    before = i.before;
    conflict = record { first = i.needs; second = own; wrote = inr w };
    none_between = λ k above below p q. elim p.wrote [ inl wr ↦ i.since r (omega arith) i.before wr | inr wk ↦ i.since k (omega (arith, above)) below wk ];
  }

  near_reader : (a : ℕ) → IsNearOn rows c a b → (Contains (written_of rows a) c → ⊥) → IsReader rows b c a
  near_reader a near isnt = record {
    before = near.before;
    needs = near.conflict.first;
    since = λ k low below w. elim (cases_eq k a) [
      | inl e ↦ isnt (subst (λ (x : ℕ). Contains (written_of rows x) c) e w)
      | inr ne ↦ near.none_between k (omega (arith, low)) below
          (record { first = near.conflict.first; second = needs k below w; wrote = inr w })
          (record { first = needs k below w; second = own; wrote = inl w })
    ];
  }

  -- for the last writer
  near_writer : (a : ℕ) → IsNearOn rows c a b → Contains (written_of rows a) c → IsWriter rows b c a
  near_writer a near wa = record {
    before = near.before;
    wrote = wa;
    last = λ k low below w. near.none_between k (omega (arith, low)) below
        (record { first = near.conflict.first; second = needs k below w; wrote = inl wa })
        (record { first = needs k below w; second = own; wrote = inl w });
  }

  one_writer : (x y : ℕ) → IsWriter rows b c x → IsWriter rows b c y → x ≡ y
  one_writer x y p q = elim (cases_lt x y) [
    | inl l ↦ absurd (p.last y (omega arith) q.before q.wrote)
    | inr g ↦ elim (cases_lt y x) [
      | inl l ↦ absurd (q.last x (omega arith) p.before p.wrote)
      | inr h ↦ omega arith
    ]
  ]

  -- it is near, if row b only reads, or there is no reader since
  writer_near : (x : ℕ) → IsWriter rows b c x → (Contains (written_of rows b) c → (r : ℕ) → IsReader rows b c r → ⊥) → IsNearOn rows c x b
  writer_near x i none = record {
    before = i.before;
    conflict = record { first = needs x i.before i.wrote; second = own; wrote = inl i.wrote };
    none_between = λ k above below p q. elim q.wrote [
      | inl wk ↦ i.last k (omega (arith, above)) below wk
      | inr wb ↦ none wb k (record { before = below; needs = p.second; since = λ j low h w. i.last j (omega (arith, above, low)) h w })
    ];
  }

  module _ (used : Use) (u : IsUse rows b c used) (old new : List ℕ) where
    -- the readers are added
    pub adds_readers : Contains (written_of rows b) c → 0 < length used.readers.items → new ≡ old ++ used.readers.items → AddsNearOn rows b c old new
    adds_readers w some e = record {
      added = used.readers.items;
      is = e;
      sound = λ a i. reader_near w a (u.sound a i);
      complete = λ a near. elim (has (written_of rows a) c) [
        | inl wa ↦ absurd (writer_hidden a near wa)
        | inr isnt ↦ u.complete a (near_reader a near isnt)
      ];
    }
      where
        writer_hidden : (a : ℕ) → IsNearOn rows c a b → Contains (written_of rows a) c → ⊥
        writer_hidden a near wa =
            let r : ℕ = get_or used.readers.items 0 0 in
            let i = u.sound r (0, some, get_or_default used.readers.items 0 r 0 some) in
            elim (cases_lt a r) [
              | inl l ↦ near.none_between r l i.before
                  (record { first = near.conflict.first; second = i.needs; wrote = inl wa })
                  (record { first = i.needs; second = own; wrote = inr w })
              | inr g ↦ i.since a (omega arith) near.before wa
            ]

    no_reader : (Contains (written_of rows b) c → length used.readers.items ≡ 0) → Contains (written_of rows b) c → (r : ℕ) → IsReader rows b c r → ⊥
    no_reader none w r i = (let k = u.complete r i in omega (arith, none w, k.1))

    near_wrote : (Contains (written_of rows b) c → length used.readers.items ≡ 0) → (a : ℕ) → IsNearOn rows c a b → Contains (written_of rows a) c
    near_wrote none a near = elim (has (written_of rows a) c) [
      | inl wa ↦ wa
      | inr isnt ↦ elim near.conflict.wrote [ inl wa ↦ absurd (isnt wa) | inr w ↦ absurd (no_reader none w a (near_reader a near isnt)) ]
    ]

    -- the last writer is added
    pub adds_writer : (x : ℕ) → used.writer ≡ Some x → (Contains (written_of rows b) c → length used.readers.items ≡ 0) → new ≡ old ++ x ∷ []
        → AddsNearOn rows b c old new
    adds_writer x is none e =
        let i : IsWriter rows b c x = rw is at u.writer in
        record {
          added = x ∷ [];
          is = e;
          sound = λ a k. subst (λ (y : ℕ). IsNearOn rows c y b) (in_one x a k) (writer_near x i (no_reader none));
          complete = λ a near. one_in x a (one_writer x a i (near_writer a near (near_wrote none a near)));
        }

    -- there is nobody to wait for
    pub adds_none : used.writer ≡ None → (Contains (written_of rows b) c → length used.readers.items ≡ 0) → new ≡ old → AddsNearOn rows b c old new
    adds_none is none e =
        let i : NoneWrites rows c 0 b = rw is at u.writer in
        record {
          added = [];
          is = e ∙ sym (append-nil old);
          sound = λ a k. absurd (omega (arith, k.1));
          complete = λ a near. absurd (i a (omega arith) near.before (near_wrote none a near));
        }

  module _ (used next : Use) (u : IsUse rows b c used) where
    -- row b writes the cown
    pub use_written : Contains (written_of rows b) c → next.writer ≡ Some b → next.readers.items ≡ [] → IsUse rows (b + 1) c next
    use_written w is none = record {
      writer = rw is (record { before = omega arith; wrote = w; last = λ k low below p. omega (arith, low, below) });
      sound = rw none (λ r k. absurd (omega (arith, k.1)));
      complete = λ r i. absurd (i.since b (omega (arith, i.before)) (omega arith) w);
    }

    -- row b only reads it
    pub use_read : (Contains (written_of rows b) c → ⊥) → next.writer ≡ used.writer → next.readers.items ≡ used.readers.items ++ b ∷ []
        → IsUse rows (b + 1) c next
    use_read isnt is more = record {
      writer = rw is (writer_more rows b c isnt used.writer u.writer);
      sound = rw more (λ r k. elim (Contains-push_cases used.readers.items b r k) [
        | inl i ↦ reader_more rows b c isnt r (u.sound r i)
        | inr e ↦ subst (IsReader rows (b + 1) c) e (record
            { before = omega arith; needs = own; since = none_more rows b c isnt b (λ k low below w. omega (arith, low, below)) })
      ]);
      complete = rw more (λ r i. elim (cases_eq r b) [
        | inl e ↦ rw e (Contains-push used.readers.items b)
        | inr ne ↦ Contains-append_left used.readers.items (b ∷ []) r (u.complete r (reader_less rows b c r ne i))
      ]);
    }

-- of two things both hold, or not; and one of them does, or neither
both : {A B : Type 0} → A ⊎ (A → ⊥) → B ⊎ (B → ⊥) → (A × B) ⊎ (A × B → ⊥)
both (inr none) e = inr (λ p. none p.0)
both (inl a) (inr none) = inr (λ p. none p.1)
both (inl a) (inl b) = inl (a, b)

either : {A B : Type 0} → A ⊎ (A → ⊥) → B ⊎ (B → ⊥) → (A ⊎ B) ⊎ (A ⊎ B → ⊥)
either (inl a) e = inl (inl a)
either (inr none) (inl b) = inl (inr b)
either (inr none) (inr nor) = inr (λ p. elim p [ inl a ↦ none a | inr b ↦ nor b ])

-- some number below n has a property, or none has
some_below : (P : ℕ → Type 0) → ((k : ℕ) → P k ⊎ (P k → ⊥)) → (n : ℕ) → ((k : ℕ) × (k < n) × P k) ⊎ ((k : ℕ) → k < n → P k → ⊥)
some_below P each zero = inr (λ k h. omega (arith, h))
some_below P each (suc n) = elim (some_below P each n) [
  | inl (k, h, p) ↦ inl (k, omega (arith, h), p)
  | inr none ↦ elim (each n) [
    | inl p ↦ inl (n, omega arith, p)
    | inr isnt ↦ inr (λ k h p. elim (cases_eq k n) [ inl e ↦ isnt (subst P e p) | inr ne ↦ none k (omega (arith, h)) p ])
  ]
]

-- what the order asks for is near, or comes by way of a row in between
module _ (rows : List Row) where
  pub conflict_at : (c a b : ℕ) → ConflictOn rows c a b ⊎ (ConflictOn rows c a b → ⊥)
  conflict_at c a b = elim (both (has (cowns_of rows a) c) (both (has (cowns_of rows b) c) (either (has (written_of rows a) c) (has (written_of rows b) c)))) [
    | inl p ↦ inl (record { first = p.0; second = p.1.0; wrote = p.1.1 })
    | inr none ↦ inr (λ p. none (p.first, (p.second, p.wrote)))
  ]

  after : (a k : ℕ) → (a < k) ⊎ (a < k → ⊥)
  after a k = elim (cases_lt a k) [ inl l ↦ inl l | inr g ↦ inr (λ l. omega (arith, l, g)) ]

  pub near_complete : (a b : ℕ) → b < length rows → Ordered rows a b → IsNear rows a b ⊎ ((c : ℕ) × Ordered rows a c × Ordered rows c b)
  near_complete a b there o =
      let c : ℕ = o.shared.0 in
      elim (some_below (λ k. (a < k) × (ConflictOn rows c a k × ConflictOn rows c k b)) (λ k. both (after a k) (both (conflict_at c a k) (conflict_at c k b)))
      b) [
        | inl (k, below, (low, (p, q))) ↦ inr (k, record { before = low; shared = (c, p) }, record { before = below; shared = (c, q) })
        | inr none ↦ inl (record {
          there = there;
          cown = c;
          near = record { before = o.before; conflict = o.shared.1; none_between = λ k low below p q. none k below (low, (p, q)) };
        })
      ]

  pub near_ordered : (a b : ℕ) → IsNear rows a b → Ordered rows a b
  near_ordered a b n = record { before = n.near.before; shared = (n.cown, n.near.conflict) }

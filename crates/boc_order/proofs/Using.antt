-- The uses of the cowns, once a row has used its own.
use Rattle.std.proofs.Common.{◌≡◌, ◌≢◌, ℕ, zero, suc, ◌+◌, ◌<◌, ◌≤◌, List, [], ◌∷◌, ◌++◌, length, get_or, Some, None, inl, inr, ap, sym, ◌∙◌, subst, arith}
use Rattle.std.proofs.Common.{append_assoc}
use Rattle.std.specs.Prelude.{slice_index, slice_get, slice_set}
use Rattle.std.specs.List.{Contains}
use Rattle.std.proofs.lemmas.Bool.{cases_eq}
use Rattle.std.proofs.lemmas.Option.{slice_get-get_or, slice_get_within, get_or_from_slice_get}
use Rattle.std.proofs.lemmas.List.{length-set, get_or_default, append-nil, get_or_append_left, get_or_push, length_push, length-append}
use Rattle.std.proofs.lemmas.List.Kept.{AllPairs-from_increasing}
use Rattle.std.proofs.lemmas.List.Elements.{Contains-append_left, Contains-append_right, Contains-append_cases}
use Rattle.boc_program.specs.declared.limits.TheConstants.{MOST_COWNS}
use Rattle.boc_runs.specs.declared.rows.Row.{Row}
use Rattle.boc_program.proofs.ChangedItems.{set_same, set_other}
use Rattle.boc_runs.specs.Rows.{IsRows, cowns_of, written_of}
use Rattle.boc_order.specs.declared.gathering.Use.{Use}
use Rattle.boc_order.specs.Waits.{IsNearOn, IsNear, HasWaits, AreFirstWaits, links_of, lists_between, AreBounds}
use Rattle.boc_order.specs.Uses.{IsUse, AreUses, AddsNearOn, AddsNear}
use Rattle.boc_order.proofs.Near.{has, writes_own, writer_more, reader_more, reader_less}
use Rattle.boc_order.proofs.Listing.{between_more}

-- row n has used the first i of its cowns
pub record Halfway (rows : List Row) (n i : ℕ) (cowns : List ℕ) (uses : List Use) : Type 0 where
  pub whole : length uses ≡ MOST_COWNS
  pub done : (j : ℕ) (used : Use) → j < i → slice_get uses (slice_index cowns j) ≡ Some used → IsUse rows (n + 1) (slice_index cowns j) used
  pub rest : (c : ℕ) (used : Use) → ((j : ℕ) → j < i → slice_index cowns j ≢ c) → slice_get uses c ≡ Some used → IsUse rows n c used

pub halfway_none : (rows : List Row) (n : ℕ) (cowns : List ℕ) (uses : List Use) → AreUses rows n uses → Halfway rows n 0 cowns uses
halfway_none rows n cowns uses p = record { whole = p.whole; done = λ j used h e. absurd (omega (arith, h)); rest = λ c used other e. p.at c used e }

pub halfway_more : (rows : List Row) (n i : ℕ) (cowns : List ℕ) (uses : List Use) (next : Use) → slice_index cowns i < MOST_COWNS → Halfway rows n i cowns uses
    →
    IsUse rows (n + 1) (slice_index cowns i) next → Halfway rows n (i + 1) cowns (slice_set uses (slice_index cowns i) next)
halfway_more rows n i cowns uses next small p u = record {
  whole = length-set uses (slice_index cowns i) next ∙ p.whole;
  done = λ j used h e. elim (cases_eq (slice_index cowns j) (slice_index cowns i)) [
    | inl same ↦ (let is : next ≡ used = here used (subst (λ (x : ℕ). slice_get (slice_set uses (slice_index cowns i) next) x ≡ Some used) same e) in
        subst (λ (x : ℕ). IsUse rows (n + 1) x used) (sym same) (subst (λ (x : Use). IsUse rows (n + 1) (slice_index cowns i) x) is u))
    | inr ne ↦ p.done j used (before j h ne) (sym (set_other uses (slice_index cowns i) (slice_index cowns j) next ne) ∙ e)
  ];
  rest = λ c used other e. p.rest c used (λ j h. other j (omega arith))
      (sym (set_other uses (slice_index cowns i) c next (λ same. other i (omega arith) (sym same))) ∙ e);
}
  where
    here : (used : Use) → slice_get (slice_set uses (slice_index cowns i) next) (slice_index cowns i) ≡ Some used → next ≡ used
    here used e = (let s : slice_get (slice_set uses (slice_index cowns i) next) (slice_index cowns i)
        ≡ Some next = set_same uses (slice_index cowns i) next (omega (arith, small, p.whole)) in cc)

    before : (j : ℕ) → j < i + 1 → slice_index cowns j ≢ slice_index cowns i → j < i
    before j h ne = elim (cases_eq j i) [ inl e ↦ absurd (ne (ap (slice_index cowns) e)) | inr other ↦ omega arith ]

-- a cown that row n hasn't is used as before
use_other : (rows : List Row) → IsRows rows → (n c : ℕ) → n < length rows → (Contains (cowns_of rows n) c → ⊥) → (used : Use) → IsUse rows n c used
    → IsUse rows (n + 1) c used
use_other rows hr n c there other used u = record {
  writer = writer_more rows n c isnt used.writer u.writer;
  sound = λ r k. reader_more rows n c isnt r (u.sound r k);
  complete = λ r i. elim (cases_eq r n) [
    | inl e ↦ absurd (other (subst (λ (x : ℕ). Contains (cowns_of rows x) c) e i.needs))
    | inr ne ↦ u.complete r (reader_less rows n c r ne i)
  ];
}
  where
    isnt : Contains (written_of rows n) c → ⊥
    isnt w = other (writes_own rows hr n c there w)

pub halfway_all : (rows : List Row) → IsRows rows → (n i : ℕ) (cowns : List ℕ) (uses : List Use) → n < length rows → cowns ≡ cowns_of rows n → i ≡ length cowns
    →
    Halfway rows n i cowns uses → AreUses rows (n + 1) uses
halfway_all rows hr n i cowns uses there is all p = record {
  whole = p.whole;
  at = λ c used e. elim (has cowns c) [
    | inl (k, h, same) ↦ (let at : slice_index cowns k ≡ c = get_or_default cowns k 0 c h ∙ same in
        subst (λ (x : ℕ). IsUse rows (n + 1) x used) at
        (p.done k used (omega (arith, h, all)) (subst (λ (x : ℕ). slice_get uses x ≡ Some used) (sym at) e)))
    | inr none ↦ use_other rows hr n c there (subst (λ (xs : List ℕ). Contains xs c → ⊥) is none) used
        (p.rest c used (λ j h same. none (j, omega (arith, h, all), get_or_default cowns j c 0 (omega (arith, h, all)) ∙ same)) e)
  ];
}

-- a row's cowns are those that are there
pub cown_small : (rows : List Row) → IsRows rows → (n i : ℕ) → n < length rows → i < length (cowns_of rows n) → slice_index (cowns_of rows n) i < MOST_COWNS
cown_small rows hr n i there h = hr.cowns_below n there i 0 h

-- the use of a cown whose turn comes
pub turn_use : (rows : List Row) → IsRows rows → (n i : ℕ) (uses : List Use) (d : Use) → n < length rows → i < length (cowns_of rows n) →
    Halfway rows n i (cowns_of rows n) uses → IsUse rows n (slice_index (cowns_of rows n) i) (get_or uses (slice_index (cowns_of rows n) i) d)
turn_use rows hr n i uses d there h p =
    let cown : ℕ = slice_index (cowns_of rows n) i in
    p.rest cown (get_or uses cown d)
    (λ j below same. omega (arith, same, AllPairs-from_increasing (cowns_of rows n) (hr.cowns_rise n there) j i 0 below h))
    (slice_get-get_or uses cown d (omega (arith, p.whole, cown_small rows hr n i there h)))

-- the rows for which row b waits on the first i of its cowns were added
pub record Added (rows : List Row) (b i : ℕ) (cowns old new : List ℕ) : Type 0 where
  pub added : List ℕ
  pub is : new ≡ old ++ added
  pub sound : (a : ℕ) → Contains added a → IsNear rows a b
  pub complete : (a j : ℕ) → j < i → IsNearOn rows (slice_index cowns j) a b → Contains added a

pub added_none : (rows : List Row) (b : ℕ) (cowns old : List ℕ) → Added rows b 0 cowns old old
added_none rows b cowns old = record {
  added = [];
  is = sym (append-nil old);
  sound = λ a k. absurd (omega (arith, k.1));
  complete = λ a j h. absurd (omega (arith, h));
}

pub added_more : (rows : List Row) (b i : ℕ) (cowns old mid new : List ℕ) → b < length rows → Added rows b i cowns old mid
    → AddsNearOn rows b (slice_index cowns i) mid new →
    Added rows b (i + 1) cowns old new
added_more rows b i cowns old mid new there p q = record {
  added = p.added ++ q.added;
  is = q.is ∙ ap (λ (xs : List ℕ). xs ++ q.added) p.is ∙ append_assoc old p.added q.added;
  sound = λ a k. elim (Contains-append_cases p.added q.added a k) [
    | inl f ↦ p.sound a f
    | inr s ↦ record { there = there; cown = slice_index cowns i; near = q.sound a s }
  ];
  complete = λ a j h near. elim (cases_eq j i) [
    | inl e ↦ Contains-append_right p.added q.added a (q.complete a (subst (λ (x : ℕ). IsNearOn rows (slice_index cowns x) a b) e near))
    | inr ne ↦ Contains-append_left p.added q.added a (p.complete a j (omega arith) near)
  ];
}

pub added_all : (rows : List Row) (b i : ℕ) (cowns old new : List ℕ) → cowns ≡ cowns_of rows b → i ≡ length cowns → Added rows b i cowns old new
    → AddsNear rows b old new
added_all rows b i cowns old new is all p = record {
  added = p.added;
  is = p.is;
  sound = p.sound;
  complete = λ a near. by_place a near (subst (λ (xs : List ℕ). Contains xs near.cown) (sym is) near.near.conflict.second);
}
  where
    by_place : (a : ℕ) → (near : IsNear rows a b) → Contains cowns near.cown → Contains p.added a
    by_place a near (k, h, same) =
        let at : slice_index cowns k ≡ near.cown = get_or_default cowns k 0 near.cown h ∙ same in
        p.complete a k (omega (arith, h, all)) (subst (λ (x : ℕ). IsNearOn rows x a b) (sym at) near.near)

-- where there were no links before, they are those of row b
pub adds_all : (rows : List Row) (b : ℕ) (old new : List ℕ) → old ≡ [] → AddsNear rows b old new → HasWaits rows b new
adds_all rows b old new none adds = rw (adds.is, none) (record { sound = adds.sound; complete = adds.complete })

-- none of these cowns was used
abbrev pub AreUnused : List Use → Type 0
AreUnused uses = (used : Use) → Contains uses used → (used.writer ≡ None) × (used.readers.items ≡ [])

pub unused_more : (uses : List Use) (one : Use) → AreUnused uses → one.writer ≡ None → one.readers.items ≡ [] → AreUnused (uses ++ one ∷ [])
unused_more uses one all w r used k = elim (Contains-append_cases uses (one ∷ []) used k) [
  | inl f ↦ all used f
  | inr (zero, h, e) ↦ subst (λ (x : Use). (x.writer ≡ None) × (x.readers.items ≡ [])) e (w, r)
  | inr (suc i, h, e) ↦ absurd (omega (arith, h))
]

-- before the first row
pub unused_all : (rows : List Row) (uses : List Use) → length uses ≡ MOST_COWNS → AreUnused uses → AreUses rows 0 uses
unused_all rows uses whole all = record {
  whole = whole;
  at = λ c used e.
      (let u = all used (c, slice_get_within uses c used e, get_or_from_slice_get uses c used used e) in record {
        writer = rw u.0 (λ k low below w. omega (arith, below));
        sound = rw u.1 (λ r k. absurd (omega (arith, k.1)));
        complete = λ r i. absurd (omega (arith, i.before));
      });
}

-- one more row has its links
pub waits_more : (rows : List Row) (n : ℕ) (first old new : List ℕ) → AreBounds first (length old) → AddsNear rows n old new
    → AreFirstWaits rows n (lists_between first old) →
    AreFirstWaits rows (n + 1) (lists_between (first ++ length new ∷ []) new)
waits_more rows n first old new bounds adds p =
    subst (λ (xs : List ℕ). AreFirstWaits rows (n + 1) (lists_between (first ++ length xs ∷ []) xs)) (sym adds.is)
    (subst (λ (ls : List (List ℕ)). AreFirstWaits rows (n + 1) ls) (sym (between_more first old adds.added bounds)) (record {
      whole = omega (arith, length_push (lists_between first old) adds.added, p.whole);
      at = λ b h. elim (cases_eq b n) [
        | inl e ↦ subst (λ (x : ℕ). HasWaits rows x (links_of (lists_between first old ++ adds.added ∷ []) x)) (sym e) last
        | inr ne ↦ earlier b (omega arith)
      ];
    }))
  where
    last : HasWaits rows n (links_of (lists_between first old ++ adds.added ∷ []) n)
    last =
        let is : links_of (lists_between first old ++ adds.added ∷ []) n ≡ adds.added = get_or_push (lists_between first old) adds.added [] n p.whole in
        rw is (record { sound = adds.sound; complete = adds.complete })

    earlier : (b : ℕ) → b < n → HasWaits rows b (links_of (lists_between first old ++ adds.added ∷ []) b)
    earlier b h =
        let is : links_of (lists_between first old ++ adds.added ∷ []) b ≡ links_of (lists_between first old) b =
        get_or_append_left (lists_between first old) (adds.added ∷ []) [] b (omega (arith, h, p.whole)) in
        rw is (p.at b h)

pub adds_long : (rows : List Row) (n : ℕ) (old new : List ℕ) → AddsNear rows n old new → length old ≤ length new
adds_long rows n old new adds = rw adds.is (omega (arith, length-append old adds.added))

-- Marked places that pass the test are a closed set, and the free ones among them are chosen.
use Rattle.std.proofs.Common.{◌≡◌, ◌≢◌, ◌⊎◌, ℕ, zero, suc, ◌+◌, ◌<◌, inl, inr, refl, List, [], ◌∷◌, length, ap, sym, ◌∙◌, subst, arith, IsTrue, Bool, true, false, Some, nat_eq, replicate, eqb-true}
use Rattle.std.specs.Prelude.{slice_get, if◌then◌else◌}
use Rattle.std.specs.List.{Contains, All, list_any}
use Rattle.std.proofs.lemmas.List.{get_or-replicate, length-map}
use Rattle.boc_program.specs.declared.program.Program.{Program}
use Rattle.boc_program.proofs.ChangedItems.{place_below}
use Rattle.boc_program.proofs.RisingNumbers.{has_first, none_in_none}
use Rattle.boc_runs.specs.Serial.{Behaviour}
use Rattle.boc_runs.specs.machine.Queues.{times}
use Rattle.boc_fronts.specs.Fronts as fronts
use Rattle.boc_closed_sets.specs.Closed.{IsClosedFor}
use Rattle.boc_closed_sets.specs.Enough.{AreFreeOf, AreAllFree, IsEnough}
use Rattle.boc_closed_sets.specs.Footprints.{AreFootprints}
use Rattle.boc_closed_sets.proofs.Sufficing.{closed_are_enough, free_places_are_enough}
use Rattle.boc_front_rows.specs.declared.row.Front.{Front}
use Rattle.boc_front_rows.specs.declared.row.LiveRow.{LiveRow}
use Rattle.boc_front_rows.specs.Lists.{list_at}
use Rattle.boc_front_rows.specs.Rows.{Plain, plain, plains, AreLow}
use Rattle.boc_front_rows.specs.Seen.{front_of, shown}
use Rattle.boc_front_rows.proofs.Mapped.{at_mapped, mapped_at}
use Rattle.boc_sharp_footprints.specs.Footprints.{IsFootprintByArgs, InFootprintByArgs, ReachedBy}
use Rattle.boc_footprints.specs.Spreading.{is_marked}
use Rattle.boc_sharp_footprints.proofs.Footing.{holds_wishes}
use Rattle.boc_footprints.proofs.Truths.{true_or_false}
use Rattle.boc_choices.specs.Chosen.{IsReached, AreChosen, WishesTakeAll}
use Rattle.boc_choices.specs.Holding.{Table, is_free, first_cowns, meets, are_apart, may_stand, all_may_stand, free_marked}
use Rattle.boc_choices.proofs.Marked.{inside, marked_inside, inside_marked, free_marked_is, is_free_marked}
use Rattle.boc_choices.proofs.Apart.{one_of, apart_at, stands_at, meets_none}

abbrev Lists : Type 0
Lists = List (List Behaviour)

-- ---- free rows

none_before : (xs : List ℕ) (j : ℕ) → IsTrue (nat_eq (length xs) 0) → Contains xs j → ⊥
none_before [] j h among = none_in_none j among
none_before (x ∷ xs) j h among = omega (arith, eqb-true (length (x ∷ xs)) 0 h)

pub free_if : (lists : Lists) (f : Front) (i : ℕ) (r : Plain) → slice_get (plains f.live.items) i ≡ Some r → IsTrue (is_free r)
    → fronts.IsFree (front_of lists f) i
free_if lists f i r is h = record {
  row = shown lists r;
  is = at_mapped (shown lists) (plains f.live.items) i r is;
  none = λ j low among. none_before r.before j h among;
}

low_first : (xs : List ℕ) (n x : ℕ) (rest : List ℕ) → xs ≡ x ∷ rest → All (λ place. place < n) xs → x < n
low_first xs n x rest e h = (subst (λ ys. All (λ place. place < n) ys) e h) 0 0 (omega arith)

free_before : (xs : List ℕ) (n : ℕ) → All (λ place. place < n) xs → ((j : ℕ) → j < n → Contains xs j → ⊥) → IsTrue (nat_eq (length xs) 0)
free_before [] n low none = refl
free_before (x ∷ xs) n low none = absurd (none x (low_first (x ∷ xs) n x xs refl low) (has_first x xs))

same_many : (lists : Lists) (f : Front) → length (front_of lists f).live ≡ length f.live.items
same_many lists f = length-map (plains f.live.items) (shown lists) ∙ length-map f.live.items plain

pub if_free : (lists : Lists) (f : Front) (i : ℕ) (r : Plain) → AreLow (length f.live.items) (plains f.live.items)
    → slice_get (plains f.live.items) i ≡ Some r → fronts.IsFree (front_of lists f) i → IsTrue (is_free r)
if_free lists f i r low is free =
    let here : slice_get (front_of lists f).live i ≡ Some (shown lists r) = at_mapped (shown lists) (plains f.live.items) i r is in
    let both : Some free.row ≡ Some (shown lists r) = sym free.is ∙ here in
    let same : free.row ≡ shown lists r = cc in
    free_before r.before (length f.live.items) (low i r is)
    (λ j below among. free.none j (omega (arith, below, same_many lists f)) (subst (λ (l : fronts.LiveRow). Contains l.before j) (sym same) among))

-- the row of a place of a front
abbrev RowAt : Lists → Front → ℕ → fronts.LiveRow → Type 0
RowAt lists f i l = (r : Plain) × (slice_get (plains f.live.items) i ≡ Some r) × (shown lists r ≡ l)

row_at : (lists : Lists) (f : Front) (i : ℕ) (l : fronts.LiveRow) → slice_get (front_of lists f).live i ≡ Some l → RowAt lists f i l
row_at lists f i l is = mapped_at (shown lists) (plains f.live.items) i l is

-- ---- which places are free

pub are_free_of : (lists : Lists) (f : Front) (marks : List Bool) → AreLow (length f.live.items) (plains f.live.items)
    → AreFreeOf (front_of lists f) (inside marks) (free_marked marks 0 (plains f.live.items))
are_free_of lists f marks low i = (
  λ h.
      let m = free_marked_is marks 0 (plains f.live.items) i h in
      let at : m.place ≡ i = omega (arith, m.at) in
      (inside_marked marks i m.marked, free_if lists f i m.row (subst (λ k. slice_get (plains f.live.items) k ≡ Some m.row) at m.is) m.free),
  λ both.
      let r = row_at lists f i both.1.row both.1.is in
      let at : 0 + i ≡ i = omega arith in
      subst (λ k. Contains (free_marked marks 0 (plains f.live.items)) k) at
      (is_free_marked marks 0 (plains f.live.items) i r.0 r.1 (subst (λ k. IsTrue (is_marked marks k)) (sym at) (marked_inside marks i both.0))
      (if_free lists f i r.0 low r.1 both.1)),
)

pub are_all_free : (lists : Lists) (f : Front) (marks : List Bool) → AreLow (length f.live.items) (plains f.live.items)
    → marks ≡ replicate (length f.live.items) true → AreAllFree (front_of lists f) (free_marked marks 0 (plains f.live.items))
are_all_free lists f marks low all i = (
  λ h. ((are_free_of lists f marks low i).0 h).1,
  λ free.
      let r = row_at lists f i free.row free.is in
      let below : i < length f.live.items = omega (arith, place_below (front_of lists f).live i free.row free.is, same_many lists f) in
      let marked : IsTrue (is_marked marks i) =
      subst (λ ms. IsTrue (is_marked ms i)) (sym all) (get_or-replicate (length f.live.items) i true false below) in
      (are_free_of lists f marks low i).1 (inside_marked marks i marked, free),
)

-- ---- a set that passes the test

module _ (table : Table) (lists : Lists) (f : Front) (marks : List Bool) (low : AreLow (length f.live.items) (plains f.live.items))
    (test : IsTrue (all_may_stand table lists marks (plains f.live.items) 0 (plains f.live.items))) where
  abbrev rows : List Plain
  rows = plains f.live.items

  stands : (i : ℕ) (r : Plain) → slice_get rows i ≡ Some r → Contains (inside marks) i → IsTrue (may_stand table lists marks rows r)
  stands i r is among =
      let at : 0 + i ≡ i = omega arith in
      stands_at table lists marks rows 0 rows i r test is (subst (λ k. IsTrue (is_marked marks k)) (sym at) (marked_inside marks i among))

  where_free : (r : Plain) → IsTrue (is_free r) → IsTrue (may_stand table lists marks rows r)
      → IsTrue (are_apart table lists marks (first_cowns (list_at lists r.wishes)) 0 rows)
  where_free r free h = by (is_free r) free h
    where
      by : (b : Bool) → IsTrue b
          → IsTrue (if b then are_apart table lists marks (first_cowns (list_at lists r.wishes)) 0 rows else list_any (is_marked marks) r.before)
          → IsTrue (are_apart table lists marks (first_cowns (list_at lists r.wishes)) 0 rows)
      by true free h = h
      by false free h = absurd cc

  where_not_free : (r : Plain) → is_free r ≡ false → IsTrue (may_stand table lists marks rows r) → IsTrue (list_any (is_marked marks) r.before)
  where_not_free r free h = by (is_free r) free h
    where
      by : (b : Bool) → b ≡ false
          → IsTrue (if b then are_apart table lists marks (first_cowns (list_at lists r.wishes)) 0 rows else list_any (is_marked marks) r.before)
          → IsTrue (list_any (is_marked marks) r.before)
      by true free h = absurd cc
      by false free h = h

  not_marked : (j : ℕ) → (Contains (inside marks) j → ⊥) → is_marked marks (0 + j) ≡ false
  not_marked j out =
      let at : 0 + j ≡ j = omega arith in
      subst (λ k. is_marked marks k ≡ false) (sym at) (by (is_marked marks j) refl)
    where
      by : (b : Bool) → is_marked marks j ≡ b → is_marked marks j ≡ false
      by true e = absurd (out (inside_marked marks j e))
      by false e = e

  apart : (i j c : ℕ) (row other : fronts.LiveRow) (wish far : Behaviour) (rest : List Behaviour) → Contains (inside marks) i
      → fronts.IsFree (front_of lists f) i → slice_get (front_of lists f).live i ≡ Some row → row.wishes ≡ wish ∷ rest
      → (Contains (inside marks) j → ⊥) → slice_get (front_of lists f).live j ≡ Some other → Contains other.wishes far
      → 0 < times c wish.cowns → IsReached table far c → ⊥
  apart i j c row other wish far rest among free is first out is_other has some foot =
      let r = row_at lists f i row is in
      let s = row_at lists f j other is_other in
      let wishes : list_at lists r.0.wishes ≡ wish ∷ rest = ap (λ (l : fronts.LiveRow). l.wishes) r.2 ∙ first in
      let test = where_free r.0 (if_free lists f i r.0 low r.1 free) (stands i r.0 r.1 among) in
      let none = apart_at table lists marks (first_cowns (list_at lists r.0.wishes)) 0 rows j s.0 test s.1 (not_marked j out) in
      let here : meets table wish.cowns (list_at lists s.0.wishes) ≡ false =
      subst (λ (ws : List Behaviour). meets table (first_cowns ws) (list_at lists s.0.wishes) ≡ false) wishes none in
      meets_none table wish.cowns (list_at lists s.0.wishes) far c here (subst (λ (l : fronts.LiveRow). Contains l.wishes far) (sym s.2) has) some foot

  behind : (i : ℕ) (row : fronts.LiveRow) → Contains (inside marks) i → slice_get (front_of lists f).live i ≡ Some row
      → fronts.IsFree (front_of lists f) i ⊎ ((j : ℕ) × Contains (inside marks) j × Contains row.before j)
  behind i row among is =
      let r = row_at lists f i row is in
      elim (true_or_false (is_free r.0)) [
        | inl free ↦ inl (free_if lists f i r.0 r.1 free)
        | inr not_free ↦
            let one = one_of (is_marked marks) r.0.before (where_not_free r.0 not_free (stands i r.0 r.1 among)) in
            inr (one.0, inside_marked marks one.0 one.2, subst (λ (l : fronts.LiveRow). Contains l.before one.0) r.2 one.1)
      ]

  pub closed : (i : ℕ) → Contains (free_marked marks 0 rows) i → IsClosedFor (IsReached table) (front_of lists f) (inside marks)
  closed i among = record {
    some = (let both = (are_free_of lists f marks low i).0 among in (i, both.0, both.1));
    apart = apart;
    behind = behind;
  }

-- ---- enough

pub chosen_are_enough : (p : Program) (table : Table) (f : fronts.Front) (places : List ℕ) → IsFootprintByArgs p (ReachedBy table) → WishesTakeAll p f
    → f.live ≢ [] → AreChosen table f places → IsEnough p f places
chosen_are_enough p table f places foot takes live (inl chosen) =
    let footprints : AreFootprints p (InFootprintByArgs p (ReachedBy table)) = record {
      own = λ b c h takes. inl h;
      wishes = holds_wishes p (ReachedBy table) foot;
    } in
    let set = chosen.1 in
    let closed : IsClosedFor (InFootprintByArgs p (ReachedBy table)) f chosen.0 = record {
      some = set.some;
      apart = λ i j c row other wish far rest among free is first out is_other has some foot.
          set.apart i j c row other wish far rest among free is first out is_other has some (foot (takes j other far is_other has));
      behind = set.behind;
    } in
    closed_are_enough p (InFootprintByArgs p (ReachedBy table)) f chosen.0 places footprints closed chosen.2
chosen_are_enough p table f places foot takes live (inr all) = free_places_are_enough p f places live all

-- ---- as the code has it

pub all_chosen : (lists : Lists) (f : Front) (marks : List Bool) (many : ℕ) (live : List LiveRow) (places : List ℕ) → AreLow (length f.live.items) (plains f.live.items)
    → places ≡ free_marked marks 0 (plains live) → live ≡ f.live.items → marks ≡ replicate many true → many ≡ length f.live.items
    → AreAllFree (front_of lists f) places
all_chosen lists f marks many live places low are here all same =
    let exact : places ≡ free_marked marks 0 (plains f.live.items) = subst (λ (rows : List LiveRow). places ≡ free_marked marks 0 (plains rows)) here are in
    subst (λ (ps : List ℕ). AreAllFree (front_of lists f) ps) (sym exact)
    (are_all_free lists f marks low (subst (λ n. marks ≡ replicate n true) same all))

first_of : (places : List ℕ) → 0 < length places → (i : ℕ) × Contains places i
first_of [] h = absurd (omega (arith, h))
first_of (i ∷ places) h = (i, has_first i places)

pub some_chosen : (table : Table) (lists : Lists) (f : Front) (marks : List Bool) (live : List LiveRow) (places : List ℕ)
    → AreLow (length f.live.items) (plains f.live.items) → places ≡ free_marked marks 0 (plains live) → live ≡ f.live.items
    → 0 < length places → IsTrue (all_may_stand table lists marks (plains f.live.items) 0 (plains f.live.items))
    → AreChosen table (front_of lists f) places
some_chosen table lists f marks live places low are here some test =
    let exact : places ≡ free_marked marks 0 (plains f.live.items) = subst (λ (rows : List LiveRow). places ≡ free_marked marks 0 (plains rows)) here are in
    let one = first_of places some in
    subst (λ (ps : List ℕ). AreChosen table (front_of lists f) ps) (sym exact)
    (inl (
      inside marks,
      closed table lists f marks low test one.0 (subst (λ (ps : List ℕ). Contains ps one.0) exact one.1),
      are_free_of lists f marks low,
    ))

pub some_if : (n : ℕ) (b : Bool) → b ≡ nat_eq n 0 → b ≡ false → 0 < n
some_if zero b e is = (let f : false ≡ true = sym is ∙ e in absurd cc)
some_if (suc n) b e is = omega arith

pub passes : (table : Table) (lists : Lists) (marks same : List Bool) (rows alike : List LiveRow) (b : Bool)
    → b ≡ all_may_stand table lists same (plains alike) 0 (plains alike) → b ≡ true → same ≡ marks → alike ≡ rows
    → IsTrue (all_may_stand table lists marks (plains rows) 0 (plains rows))
passes table lists marks same rows alike b is holds m r =
    let there : IsTrue (all_may_stand table lists same (plains alike) 0 (plains alike)) = sym is ∙ holds in
    subst (λ (ms : List Bool). IsTrue (all_may_stand table lists ms (plains rows) 0 (plains rows))) m
    (subst (λ (rs : List LiveRow). IsTrue (all_may_stand table lists same (plains rs) 0 (plains rs))) r there)

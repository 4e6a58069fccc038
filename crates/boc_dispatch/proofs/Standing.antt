-- Whose requests stand in the lists: by slots, and by numbers.
use Rattle.std.proofs.Common.{◌≡◌, ℕ, zero, suc, ◌+◌, ◌<◌, ◌≤◌, inl, inr, List, [], ◌∷◌, length, map, set, refl, sym, ◌∙◌, ap, subst, arith}
use Rattle.std.specs.Prelude.{slice_get, slice_index_or, Option, Some, None}
use Rattle.std.specs.Option.{option_map, option_map_or}
use Rattle.std.proofs.lemmas.Bool.{cases_lt}
use Rattle.boc_runs.specs.declared.stage.Phase.TheVariants as phases
use Rattle.boc_runs.specs.declared.stage.Stage.TheVariants.{Recorded}
use Rattle.boc_runs.specs.machine.Stages.{OpenBehaviour, cowns_of, standing, standing_at, ready_row, ready_row_at}
use Rattle.boc_runs.specs.machine.Queues.{times}
use Rattle.boc_runs.specs.machine.Steps.{at}
use Rattle.boc_machine_laws.proofs.Lists.{same_or_not, times-here, times-other}
use Rattle.boc_chain.specs.declared.request.Request.{Request}
use Rattle.boc_chain.specs.Chain.{slots}
use Rattle.boc_dispatch.specs.declared.live.Live.{Live}
use Rattle.boc_dispatch.specs.Inside.{live_at, open_of, number_at, row_or_0, rows_at, place_of, Parts, IsKept, state, AreNumbered}
use Rattle.boc_dispatch.proofs.Tables.{at_slot, queue_at, queues_length, live_there, live_other, rows_same}
use Rattle.boc_dispatch.proofs.Fits.{no_more_than}

-- each request of a list is of a behaviour that is there
abbrev pub AreLive : List (Option Live) → List Request → Type 0
AreLive live q = (k : ℕ) (r : Request) → slice_get q k ≡ Some r → (l : Live) × (live_at live r.slot ≡ Some l)

-- a behaviour's number stands as often in a list as its slot
pub times_slots : (live : List (Option Live)) (n slot : ℕ) (l : Live) → AreNumbered live n → live_at live slot ≡ Some l → (q : List Request) → AreLive live q
    → times l.number (map (λ r. number_at live r.slot) q) ≡ times slot (slots q)
times_slots live n slot l k is [] all = refl
times_slots live n slot l k is (r ∷ q) all =
    let rest = times_slots live n slot l k is q (λ j. all (suc j)) in
    let there = all zero r refl in
    let x = number_at live r.slot in
    let xs = map (λ (z : Request). number_at live z.slot) q in
    let x_is : x ≡ there.0.number = ap (λ o. option_map_or (λ z. z.number) o 0) there.1 in
    elim (same_or_not r.slot slot) [
      | inl e ↦
          let here : x ≡ l.number = ap (λ o. option_map_or (λ z. z.number) o 0) (ap (live_at live) e ∙ is) in
          ap (λ z. times l.number (z ∷ xs)) here ∙ times-here l.number xs ∙ ap (λ z. 1 + z) rest
          ∙ sym (ap (λ z. times slot (z ∷ slots q)) e ∙ times-here slot (slots q))
      | inr d ↦
          times-other l.number x xs (λ e. d (k.once r.slot slot there.0 l there.1 is (sym x_is ∙ e))) ∙ rest
          ∙ sym (times-other slot r.slot (slots q) d)
    ]

-- ---- in what is kept

module _ (d : Parts) (k : IsKept d) where
  -- each request of a cown's list is of a behaviour that is there
  pub lists_live : (c : ℕ) → AreLive d.live (slice_index_or d.lists c [])
  lists_live c i r is = let q = k.chained.requests c i r is in (q.this, q.is)

  -- what the chains have admitted at a slot is that of the behaviour there
  pub place_is : (slot : ℕ) (l : Live) → live_at d.live slot ≡ Some l → d.place slot ≡ Some (place_of l)
  place_is slot l is = k.chained.places slot ∙ ap (option_map place_of) is

  -- the open behaviour of a number is that at its slot
  pub open_is : (slot : ℕ) (l : Live) → live_at d.live slot ≡ Some l → at (state d) l.number ≡ Some (open_of l)
  open_is slot l is = at_slot d.live d.opened slot l k.numbered is

  -- how often a behaviour's slot stands in a list
  pub stands_in : (slot c : ℕ) (l : Live) → live_at d.live slot ≡ Some l
      → times slot (slots (slice_index_or d.lists c [])) ≡ times c (standing_at l.stage l.cowns.items)
  stands_in slot c l is =
      sym (times_slots d.live d.opened slot l k.numbered is (slice_index_or d.lists c []) (lists_live c))
      ∙ ap (times l.number) (sym (queue_at d.live d.lists c))
      ∙ k.sound.lawful.stands l.number c
      ∙ ap (λ o. times c (standing o)) (open_is slot l is)

-- ---- the ready list

place_of_one : (x : ℕ) (xs : List ℕ) → 0 < times x xs → (k : ℕ) × (slice_get xs k ≡ Some x)
place_of_one x [] h = absurd (omega arith)
place_of_one x (y ∷ xs) h =
    elim (same_or_not y x) [
      | inl e ↦ (zero, ap (λ (z : ℕ). slice_get (z ∷ xs) zero) e)
      | inr d ↦ let r = place_of_one x xs (omega (arith, times-other x y xs d)) in (suc r.0, r.1)
    ]

times_mapped : (f : ℕ → ℕ) (x : ℕ) (xs : List ℕ) → times x xs ≤ times (f x) (map f xs)
times_mapped f x [] = omega arith
times_mapped f x (y ∷ xs) =
    elim (same_or_not y x) [
      | inl e ↦
          let here : times (f x) (f y ∷ map f xs) ≡ 1 + times (f x) (map f xs) = ap (λ z. times (f x) (f z ∷ map f xs)) e ∙ times-here (f x) (map f xs) in
          let was : times x (y ∷ xs) ≡ 1 + times x xs = ap (λ z. times x (z ∷ xs)) e ∙ times-here x xs in
          omega (arith, here, was, times_mapped f x xs)
      | inr d ↦ omega (arith, times-other x y xs d, times_mapped f x xs)
    ]

module _ (d : Parts) (k : IsKept d) where
  -- who is in the ready list is ready, and there
  pub ready_one : (s : ℕ) → 0 < times s d.ready → (l : Live) × (row : ℕ) × (live_at d.live s ≡ Some l) × (l.stage ≡ Recorded row phases.Ready)
  ready_one s h = let r = place_of_one s d.ready h in k.ready_there r.0 s r.1

  pub ready_distinct : (s : ℕ) → times s d.ready ≤ 1
  ready_distinct s =
      elim (cases_lt 0 (times s d.ready)) [
        | inl h ↦
            let r = ready_one s h in
            let more = times_mapped (λ slot. option_map_or (λ l. row_or_0 l.stage) (live_at d.live slot) 0) s d.ready in
            let row_is : option_map_or (λ (l : Live). row_or_0 l.stage) (live_at d.live s) 0 ≡ r.1 =
            ap (λ o. option_map_or (λ (l : Live). row_or_0 l.stage) o 0) r.2 ∙ ap row_or_0 r.3 in
            let is_ready : ready_row (at (state d) r.0.number) ≡ Some r.1 = ap ready_row (open_is d k s r.0 r.2) ∙ ap ready_row_at r.3 in
            let once : times r.1 (state d).ready ≡ 1 = k.sound.ready_once r.0.number r.1 is_ready in
            let same : times (option_map_or (λ (l : Live). row_or_0 l.stage) (live_at d.live s) 0) (state d).ready ≡ 1 =
            ap (λ x. times x (state d).ready) row_is ∙ once in
            omega (arith, more, same)
        | inr h ↦ omega arith
      ]

  -- who is not ready is not in the ready list
  pub unready : (s : ℕ) (l : Live) → live_at d.live s ≡ Some l → ready_row_at l.stage ≡ None → times s d.ready ≡ 0
  unready s l is not =
      elim (cases_lt 0 (times s d.ready)) [
        | inl h ↦
            let r = ready_one s h in
            let same : l ≡ r.0 = (let e : Some l ≡ Some r.0 = sym is ∙ r.2 in cc) in
            let e : None ≡ Some r.1 = sym not ∙ ap (λ z. ready_row_at z.stage) same ∙ ap ready_row_at r.3 in
            absurd cc
        | inr h ↦ omega arith
      ]

  -- there is a place in a list as long as the table for one more that is not ready
  pub ready_fits : (s : ℕ) (l : Live) → live_at d.live s ≡ Some l → ready_row_at l.stage ≡ None → length d.ready < length d.live
  ready_fits s l is not =
      let none = unready s l is not in
      let all = no_more_than (s ∷ d.ready) (length d.live)
      (λ x. elim (same_or_not s x) [
        | inl e ↦ omega (arith, times-here s d.ready, ap (λ z. times z (s ∷ d.ready)) e, none)
        | inr n ↦ omega (arith, times-other x s d.ready n, ready_distinct x)
      ])
      (λ x h. elim (same_or_not s x) [
        | inl e ↦ subst (λ (z : ℕ). z < length d.live) e (live_there d.live s l is)
        | inr n ↦ let r = ready_one x (subst (λ (z : ℕ). 0 < z) (times-other x s d.ready n) h) in live_there d.live x r.0 r.2
      ]) in
      omega (arith, all)

  -- a behaviour that is not ready may change: the ready list's rows stay
  pub unready_rows : (s : ℕ) (l : Live) (place : Option Live) → live_at d.live s ≡ Some l → ready_row_at l.stage ≡ None
      → rows_at (set d.live s place) d.ready ≡ rows_at d.live d.ready
  unready_rows s l place is not =
      rows_same d.live (set d.live s place) d.ready (λ j r there. live_other d.live s place r (λ e.
      let q = k.ready_there j r there in
      let same : l ≡ q.0 = (let f : Some l ≡ Some q.0 = sym is ∙ ap (live_at d.live) (sym e) ∙ q.2 in cc) in
      let f : None ≡ Some q.1 = sym not ∙ ap (λ z. ready_row_at z.stage) same ∙ ap ready_row_at q.3 in
      absurd cc))

  -- the cowns of who is there have lists
  pub cown_there : (s c : ℕ) (l : Live) → live_at d.live s ≡ Some l → 0 < times c l.cowns.items → c < length d.lists
  cown_there s c l is h =
      omega (
        arith,
        queues_length d.live d.lists,
        k.sound.in_range l.number c
            (subst (λ (o : Option OpenBehaviour). 0 < times c (cowns_of o)) (sym (open_is d k s l is)) h),
      )

  -- none of its cowns is there twice
  pub cown_once : (s c : ℕ) (l : Live) → live_at d.live s ≡ Some l → times c l.cowns.items ≤ 1
  cown_once s c l is = subst (λ (o : Option OpenBehaviour). times c (cowns_of o) ≤ 1) (open_is d k s l is) (k.sound.lawful.once l.number c)

-- The table of the behaviours, of which one is changed, added or removed, and the state that it stands for.
use Rattle.std.proofs.Common.{◌≡◌, ◌≢◌, ℕ, zero, suc, ◌+◌, ◌<◌, ◌⊎◌, inl, inr, cond, List, [], ◌∷◌, ◌++◌, length, map, set, get_or, refl, sym, ◌∙◌, ap, subst}
use Rattle.std.proofs.Common.{arith, add-one, get_or-set_other, get_or-set_same, length-set, length-append}
use Rattle.std.specs.Prelude.{slice_get, slice_index_or, Option, Some, None}
use Rattle.std.specs.Option.{option_map, option_map_or}
use Rattle.std.specs.List.{count_by}
use Rattle.std.proofs.lemmas.Bool.{cases_lt}
use Rattle.std.proofs.lemmas.Bool.Decides.{Decides-eqb}
use Rattle.std.proofs.lemmas.List.{set-append_left, map-set, length-map}
use Rattle.std.proofs.Math.ListN.{get_or-map}
use Rattle.std.proofs.Math.Seq.{set-append_seam}
use Rattle.std.proofs.lemmas.List.Sums.{sum_by-set, sum_by-cons}
use Rattle.boc_runs.specs.machine.Stages.{OpenBehaviour}
use Rattle.boc_machine_laws.proofs.Lists.{same_or_not, not_eq, read_there, read_past, read_pushed, read_front}
use Rattle.boc_chain.specs.declared.request.Request.{Request}
use Rattle.boc_dispatch.specs.declared.live.Live.{Live}
use Rattle.boc_dispatch.specs.Inside.{live_at, if_numbered, find_live, open_of, behaviours_of, number_at, queues_of, rows_at, row_or_0, is_taken, AreNumbered}

-- ---- places of the table

pub live_there : (live : List (Option Live)) (slot : ℕ) (l : Live) → live_at live slot ≡ Some l → slot < length live
live_there live slot l is = read_there live slot l is

pub live_here : (live : List (Option Live)) (slot : ℕ) (place : Option Live) → slot < length live → live_at (set live slot place) slot ≡ place
live_here live slot place h = get_or-set_same live slot place None h

pub live_other : (live : List (Option Live)) (slot : ℕ) (place : Option Live) (s : ℕ) → s ≢ slot → live_at (set live slot place) s ≡ live_at live s
live_other live slot place s n = get_or-set_other live slot s place None n

-- what is in a table of which one place was set is that, or was there before
pub live_new : (live : List (Option Live)) (slot : ℕ) (place : Option Live) (s : ℕ) (l : Live) → live_at (set live slot place) s ≡ Some l
    → ((s ≡ slot) × (place ≡ Some l)) ⊎ ((s ≢ slot) × (live_at live s ≡ Some l))
live_new live slot place s l is =
    elim (same_or_not s slot) [
      | inl e ↦
          let h : slot < length live = subst (λ (x : ℕ). x < length live) e
          (omega (arith, read_there (set live slot place) s l is, length-set live slot place)) in
          inl (e, sym (live_here live slot place h) ∙ ap (live_at (set live slot place)) (sym e) ∙ is)
      | inr n ↦ inr (n, sym (live_other live slot place s n) ∙ is)
    ]

-- ---- the behaviour of a number

-- there is no behaviour of this number
abbrev pub IsNot : ℕ → Option Live → Type 0
IsNot number None = Unit {0}
IsNot number (Some l) = l.number ≢ number

skipped : (number : ℕ) (place other : Option Live) → IsNot number place → if_numbered number place other ≡ other
skipped number None other n = refl
skipped number (Some l) other n = ap (λ b. cond b (Some l) other) (not_eq l.number number n)

taken : (l : Live) (other : Option Live) → if_numbered l.number (Some l) other ≡ Some l
taken l other = ap (λ b. cond b (Some l) other) ((Decides-eqb l.number l.number).1 refl)

-- one place changed changes nothing for a number that is not there before or after
pub find_other : (live : List (Option Live)) (slot number : ℕ) (place : Option Live) → IsNot number (live_at live slot) → IsNot number place
    → find_live number (set live slot place) ≡ find_live number live
find_other [] slot number place was is = refl
find_other (p ∷ live) zero number place was is = skipped number place (find_live number live) is ∙ sym (skipped number p (find_live number live) was)
find_other (p ∷ live) (suc slot) number place was is = ap (if_numbered number p) (find_other live slot number place was is)

-- no two behaviours have one number
abbrev pub OneEach : List (Option Live) → Type 0
OneEach live = (i j : ℕ) (l m : Live) → live_at live i ≡ Some l → live_at live j ≡ Some m → l.number ≡ m.number → i ≡ j

fewer : (p : Option Live) (live : List (Option Live)) → OneEach (p ∷ live) → OneEach live
fewer p live one i j l m a b e = omega (arith, one (suc i) (suc j) l m a b e)

pub find_here : (live : List (Option Live)) (slot : ℕ) (l : Live) → OneEach live → live_at live slot ≡ Some l → find_live l.number live ≡ Some l
find_here [] slot l one is = absurd (let f : None ≡ Some l = is in cc)
find_here (p ∷ live) zero l one is = ap (λ z. if_numbered l.number z (find_live l.number live)) is ∙ taken l (find_live l.number live)
find_here (p ∷ live) (suc slot) l one is =
    let other : IsNot l.number p =
    elim p as (λ (z : Option Live). z ≡ p → IsNot l.number z) [
      | None ↦ λ e. tt
      | Some m ↦ λ e f. absurd (let g : zero ≡ suc slot = one zero (suc slot) m l (sym e) is f in omega arith)
    ] refl in
    skipped l.number p (find_live l.number live) other ∙ find_here live slot l (fewer p live one) is

pub find_none : (live : List (Option Live)) (number : ℕ) → ((s : ℕ) (l : Live) → live_at live s ≡ Some l → l.number ≢ number) → find_live number live ≡ None
find_none [] number none = refl
find_none (p ∷ live) number none =
    let other : IsNot number p =
    elim p as (λ (z : Option Live). z ≡ p → IsNot number z) [
      | None ↦ λ e. tt
      | Some m ↦ λ e. none zero m (sym e)
    ] refl in
    skipped number p (find_live number live) other ∙ find_none live number (λ s. none (suc s))

-- a number's behaviour is at a slot
pub find_slot : (live : List (Option Live)) (number : ℕ) (l : Live) → find_live number live ≡ Some l
    → (slot : ℕ) × (live_at live slot ≡ Some l) × (l.number ≡ number)
find_slot [] number l e = absurd (let f : None ≡ Some l = e in cc)
find_slot (None ∷ live) number l e = let r = find_slot live number l e in (suc r.0, r.1, r.2)
find_slot (Some m ∷ live) number l e =
    elim (same_or_not m.number number) [
      | inl same ↦
          let is : Some m ≡ Some l = ap (λ b. cond b (Some m) (find_live number live)) (sym ((Decides-eqb m.number number).1 same)) ∙ e in
          let this : m ≡ l = cc in
          (zero, is, ap (λ z. z.number) (sym this) ∙ same)
      | inr n ↦ let r = find_slot live number l (sym (skipped number (Some m) (find_live number live) n) ∙ e) in (suc r.0, r.1, r.2)
    ]

-- ---- the open behaviours by numbers

pub behaviours_length : (live : List (Option Live)) (n : ℕ) → length (behaviours_of live n) ≡ n
behaviours_length live zero = refl
behaviours_length live (suc n) = omega (arith, length-append (behaviours_of live n) (option_map open_of (find_live n live) ∷ []), behaviours_length live n)

pub behaviours_at : (live : List (Option Live)) (n who : ℕ) → who < n → get_or (behaviours_of live n) who None ≡ option_map open_of (find_live who live)
behaviours_at live zero who h = absurd (omega arith)
behaviours_at live (suc n) who h =
    elim (same_or_not who n) [
      | inl e ↦
          ap (λ k. get_or (behaviours_of live (suc n)) k None) (e ∙ sym (behaviours_length live n))
          ∙ read_pushed (behaviours_of live n) (option_map open_of (find_live n live)) ∙ ap (λ k. option_map open_of (find_live k live)) (sym e)
      | inr d ↦
          read_front (behaviours_of live n) (option_map open_of (find_live n live)) who (λ e. d (e ∙ behaviours_length live n))
          ∙ behaviours_at live n who (omega arith)
    ]

-- the open behaviour of any number is that of the table
pub at_found : (live : List (Option Live)) (n : ℕ) → AreNumbered live n → (who : ℕ)
    → get_or (behaviours_of live n) who None ≡ option_map open_of (find_live who live)
at_found live n k who =
    elim (cases_lt who n) [
      | inl h ↦ behaviours_at live n who h
      | inr h ↦
          read_past (behaviours_of live n) who (omega (arith, behaviours_length live n))
          ∙ sym (ap (option_map open_of) (find_none live who (λ s l is e. absurd (let b = k.given s l is in omega arith))))
    ]

-- the open behaviour of a number is that at its slot
pub at_slot : (live : List (Option Live)) (n slot : ℕ) (l : Live) → AreNumbered live n → live_at live slot ≡ Some l
    → get_or (behaviours_of live n) l.number None ≡ Some (open_of l)
at_slot live n slot l k is = at_found live n k l.number ∙ ap (option_map open_of) (find_here live slot l k.once is)

-- who is open is at a slot
pub slot_of_open : (live : List (Option Live)) (n who : ℕ) (b : OpenBehaviour) → AreNumbered live n → get_or (behaviours_of live n) who None ≡ Some b
    → (slot : ℕ) × (l : Live) × (live_at live slot ≡ Some l) × (l.number ≡ who) × (open_of l ≡ b)
slot_of_open live n who b k is =
    let e = sym (at_found live n k who) ∙ is in
    elim (find_live who live) as (λ (o : Option Live). find_live who live ≡ o → option_map open_of o ≡ Some b
    → (slot : ℕ) × (l : Live) × (live_at live slot ≡ Some l) × (l.number ≡ who) × (open_of l ≡ b)) [
      | None ↦ λ f g. absurd (let h : None ≡ Some b = g in cc)
      | Some l ↦ λ f g. let r = find_slot live who l f in (r.0, l, r.1, r.2, (let h : Some (open_of l) ≡ Some b = g in cc))
    ] refl e

pub behaviours_same : (live live' : List (Option Live)) (n : ℕ) → ((who : ℕ) → who < n → find_live who live' ≡ find_live who live)
    → behaviours_of live' n ≡ behaviours_of live n
behaviours_same live live' zero same = refl
behaviours_same live live' (suc n) same =
    ap (λ bs. bs ++ (option_map open_of (find_live n live') ∷ [])) (behaviours_same live live' n (λ who h. same who (omega arith)))
    ∙ ap (λ o. behaviours_of live n ++ (option_map open_of o ∷ [])) (same n (omega arith))

-- one number's behaviour is another
pub behaviours_put : (live live' : List (Option Live)) (n k : ℕ) → k < n → ((who : ℕ) → who ≢ k → find_live who live' ≡ find_live who live)
    → behaviours_of live' n ≡ set (behaviours_of live n) k (option_map open_of (find_live k live'))
behaviours_put live live' zero k h same = absurd (omega arith)
behaviours_put live live' (suc n) k h same =
    let new = option_map open_of (find_live k live') in
    let last = option_map open_of (find_live n live) in
    elim (same_or_not k n) [
      | inl e ↦
          let b = behaviours_same live live' n (λ who less. same who (λ f. omega arith)) in
          ap (λ bs. bs ++ (option_map open_of (find_live n live') ∷ [])) b
          ∙ ap (λ (x : ℕ). behaviours_of live n ++ (option_map open_of (find_live x live') ∷ [])) (sym e)
          ∙ sym (set-append_seam (behaviours_of live n) last [] new)
          ∙ ap (λ (x : ℕ). set (behaviours_of live n ++ (last ∷ [])) x new) (behaviours_length live n ∙ sym e)
      | inr d ↦
          ap (λ o. behaviours_of live' n ++ (option_map open_of o ∷ [])) (same n (λ e. d (sym e)))
          ∙ ap (λ bs. bs ++ (last ∷ [])) (behaviours_put live live' n k (omega (arith, d)) same)
          ∙ sym (set-append_left (behaviours_of live n) (last ∷ []) k new (omega (arith, d, behaviours_length live n)))
    ]

-- ---- a behaviour changed, which keeps its number

-- one behaviour stands at a slot
pub live_same : (live : List (Option Live)) (slot : ℕ) (l m : Live) → live_at live slot ≡ Some l → live_at live slot ≡ Some m → m ≡ l
live_same live slot l m is was = let f : Some m ≡ Some l = sym was ∙ is in cc

-- and what stands there once it is changed
pub live_changed : (change : Live → Live) (live : List (Option Live)) (slot : ℕ) (l m new : Live) → live_at live slot ≡ Some l → live_at live slot ≡ Some m
    → new ≡ change m
    → Some (change l) ≡ Some new
live_changed change live slot l m new is was e = sym (ap (λ (x : Live). Some x) (e ∙ ap change (live_same live slot l m is was)))

module _ (live : List (Option Live)) (n slot : ℕ) (l m : Live) (k : AreNumbered live n) (is : live_at live slot ≡ Some l) (same : m.number ≡ l.number) where
  pub changed_once : OneEach (set live slot (Some m))
  changed_once i j x y a b e =
      elim (live_new live slot (Some m) i x a) [
        | inl u ↦
            let x_is : x ≡ m = (let f : Some m ≡ Some x = u.1 in cc) in
            elim (live_new live slot (Some m) j y b) [
              | inl v ↦ u.0 ∙ sym v.0
              | inr v ↦ u.0 ∙ k.once slot j l y is v.1 (sym same ∙ ap (λ z. z.number) (sym x_is) ∙ e)
            ]
        | inr u ↦
            elim (live_new live slot (Some m) j y b) [
              | inl v ↦
                  let y_is : y ≡ m = (let f : Some m ≡ Some y = v.1 in cc) in
                  k.once i slot x l u.1 is (e ∙ ap (λ z. z.number) y_is ∙ same) ∙ sym v.0
              | inr v ↦ k.once i j x y u.1 v.1 e
            ]
      ]

  pub numbered_changed : AreNumbered (set live slot (Some m)) n
  numbered_changed = record {
    once = changed_once;
    given = λ i x a. elim (live_new live slot (Some m) i x a) [
      | inl u ↦
          let x_is : x ≡ m = (let f : Some m ≡ Some x = u.1 in cc) in
          subst (λ (z : ℕ). z < n) (sym (ap (λ z. z.number) x_is ∙ same)) (k.given slot l is)
      | inr u ↦ k.given i x u.1
    ];
  }

  pub found_changed : find_live l.number (set live slot (Some m)) ≡ Some m
  found_changed =
      ap (λ z. find_live z (set live slot (Some m))) (sym same)
      ∙ find_here (set live slot (Some m)) slot m changed_once (live_here live slot (Some m) (live_there live slot l is))

  pub behaviours_changed : behaviours_of (set live slot (Some m)) n ≡ set (behaviours_of live n) l.number (Some (open_of m))
  behaviours_changed =
      behaviours_put live (set live slot (Some m)) n l.number (k.given slot l is)
      (λ who other. find_other live slot who (Some m) (subst (IsNot who) (sym is) (λ e. other (sym e))) (λ e. other (sym (sym same ∙ e))))
      ∙ ap (λ o. set (behaviours_of live n) l.number (option_map open_of o)) found_changed

  pub number_changed : (s : ℕ) → number_at (set live slot (Some m)) s ≡ number_at live s
  number_changed s =
      elim (same_or_not s slot) [
        | inl e ↦
            ap (λ (z : ℕ). number_at (set live slot (Some m)) z) e
            ∙ ap (λ o. option_map_or (λ z. z.number) o 0) (live_here live slot (Some m) (live_there live slot l is))
            ∙ same ∙ sym (ap (λ o. option_map_or (λ z. z.number) o 0) is) ∙ ap (number_at live) (sym e)
        | inr d ↦ ap (λ o. option_map_or (λ z. z.number) o 0) (live_other live slot (Some m) s d)
      ]

  pub taken_changed : count_by is_taken (set live slot (Some m)) ≡ count_by is_taken live
  taken_changed =
      let f : Option Live → ℕ = λ o. cond (is_taken o) 1 0 in
      let e : f (get_or live slot None) ≡ 1 = ap f is in
      omega (arith, sum_by-set f live slot (Some m) None (live_there live slot l is), e)

-- ---- a behaviour removed

module _ (live : List (Option Live)) (n slot : ℕ) (l : Live) (k : AreNumbered live n) (is : live_at live slot ≡ Some l) where
  was_there : (i : ℕ) (x : Live) → live_at (set live slot None) i ≡ Some x → (i ≢ slot) × (live_at live i ≡ Some x)
  was_there i x a =
      elim (live_new live slot None i x a) [
        | inl u ↦ absurd (let f : None ≡ Some x = u.1 in cc)
        | inr u ↦ u
      ]

  pub numbered_removed : AreNumbered (set live slot None) n
  numbered_removed = record {
    once = λ i j x y a b e. k.once i j x y (was_there i x a).1 (was_there j y b).1 e;
    given = λ i x a. k.given i x (was_there i x a).1;
  }

  pub found_removed : find_live l.number (set live slot None) ≡ None
  found_removed = find_none (set live slot None) l.number (λ s x a e. (was_there s x a).0 (k.once s slot x l (was_there s x a).1 is e))

  pub behaviours_removed : behaviours_of (set live slot None) n ≡ set (behaviours_of live n) l.number None
  behaviours_removed =
      behaviours_put live (set live slot None) n l.number (k.given slot l is)
      (λ who other. find_other live slot who None (subst (IsNot who) (sym is) (λ e. other (sym e))) tt)
      ∙ ap (λ o. set (behaviours_of live n) l.number (option_map open_of o)) found_removed

  pub taken_removed : count_by is_taken (set live slot None) + 1 ≡ count_by is_taken live
  taken_removed =
      let f : Option Live → ℕ = λ o. cond (is_taken o) 1 0 in
      let e : f (get_or live slot None) ≡ 1 = ap f is in
      omega (arith, sum_by-set f live slot None None (live_there live slot l is), e)

-- ---- a behaviour added under the next number

module _ (live : List (Option Live)) (n slot : ℕ) (m : Live) (k : AreNumbered live n) (free : live_at live slot ≡ None) (room : slot < length live)
    (number_is : m.number ≡ n) where
  pub numbered_added : AreNumbered (set live slot (Some m)) (n + 1)
  numbered_added = record {
    once = λ i j x y a b e. elim (live_new live slot (Some m) i x a) [
      | inl u ↦
          let x_is : x ≡ m = (let f : Some m ≡ Some x = u.1 in cc) in
          elim (live_new live slot (Some m) j y b) [
            | inl v ↦ u.0 ∙ sym v.0
            | inr v ↦ absurd (let h = k.given j y v.1 in let f : y.number ≡ n = sym e ∙ ap (λ z. z.number) x_is ∙ number_is in omega arith)
          ]
      | inr u ↦
          elim (live_new live slot (Some m) j y b) [
            | inl v ↦
                let y_is : y ≡ m = (let f : Some m ≡ Some y = v.1 in cc) in
                absurd (let h = k.given i x u.1 in let f : x.number ≡ n = e ∙ ap (λ z. z.number) y_is ∙ number_is in omega arith)
            | inr v ↦ k.once i j x y u.1 v.1 e
          ]
    ];
    given = λ i x a. elim (live_new live slot (Some m) i x a) [
      | inl u ↦
          let x_is : x ≡ m = (let f : Some m ≡ Some x = u.1 in cc) in
          let f : x.number ≡ n = ap (λ z. z.number) x_is ∙ number_is in omega arith
      | inr u ↦ let h = k.given i x u.1 in omega arith
    ];
  }

  pub found_added : find_live n (set live slot (Some m)) ≡ Some m
  found_added =
      ap (λ z. find_live z (set live slot (Some m))) (sym number_is)
      ∙ find_here (set live slot (Some m)) slot m numbered_added.once (live_here live slot (Some m) room)

  pub behaviours_added : behaviours_of (set live slot (Some m)) (n + 1) ≡ behaviours_of live n ++ (Some (open_of m) ∷ [])
  behaviours_added =
      ap (behaviours_of (set live slot (Some m))) (add-one n)
      ∙ ap (λ bs. bs ++ (option_map open_of (find_live n (set live slot (Some m))) ∷ []))
      (behaviours_same live (set live slot (Some m)) n (λ who h. find_other live slot who (Some m) (subst (IsNot who) (sym free) tt)
      (λ e. let f : who ≡ n = sym e ∙ number_is in omega arith)))
      ∙ ap (λ o. behaviours_of live n ++ (option_map open_of o ∷ [])) found_added

  pub taken_added : count_by is_taken (set live slot (Some m)) ≡ count_by is_taken live + 1
  taken_added =
      let f : Option Live → ℕ = λ o. cond (is_taken o) 1 0 in
      let e : f (get_or live slot None) ≡ 0 = ap f free in
      omega (arith, sum_by-set f live slot (Some m) None room, e)

-- ---- the lists of the cowns

numbers_same : (live live' : List (Option Live)) (q : List Request)
    → ((k : ℕ) (r : Request) → slice_get q k ≡ Some r → number_at live' r.slot ≡ number_at live r.slot)
    → map (λ r. number_at live' r.slot) q ≡ map (λ r. number_at live r.slot) q
numbers_same live live' [] same = refl
numbers_same live live' (r ∷ q) same =
    ap (λ x. x ∷ map (λ r. number_at live' r.slot) q) (same zero r refl) ∙ ap (λ xs. number_at live r.slot ∷ xs) (numbers_same live live' q (λ k. same (suc k)))

pub queues_same : (live live' : List (Option Live)) (lists : List (List Request))
    → ((c k : ℕ) (r : Request) → slice_get (slice_index_or lists c []) k ≡ Some r → number_at live' r.slot ≡ number_at live r.slot)
    → queues_of live' lists ≡ queues_of live lists
queues_same live live' [] same = refl
queues_same live live' (q ∷ lists) same =
    ap (λ x. x ∷ queues_of live' lists) (numbers_same live live' q (same zero))
    ∙ ap (λ xs. map (λ r. number_at live r.slot) q ∷ xs) (queues_same live live' lists (λ c. same (suc c)))

pub queues_length : (live : List (Option Live)) (lists : List (List Request)) → length (queues_of live lists) ≡ length lists
queues_length live lists = length-map lists (λ (requests : List Request). map (λ (r : Request). number_at live r.slot) requests)

pub queue_at : (live : List (Option Live)) (lists : List (List Request)) (c : ℕ)
    → get_or (queues_of live lists) c [] ≡ map (λ r. number_at live r.slot) (get_or lists c [])
queue_at live lists c = get_or-map (λ (requests : List Request). map (λ (r : Request). number_at live r.slot) requests) lists c []

pub queues_put : (live : List (Option Live)) (lists : List (List Request)) (c : ℕ) (q : List Request)
    → queues_of live (set lists c q) ≡ set (queues_of live lists) c (map (λ r. number_at live r.slot) q)
queues_put live lists c q = map-set (λ (requests : List Request). map (λ (r : Request). number_at live r.slot) requests) lists c q

-- ---- the ready list

pub rows_same : (live live' : List (Option Live)) (ready : List ℕ) → ((k s : ℕ) → slice_get ready k ≡ Some s → live_at live' s ≡ live_at live s)
    → rows_at live' ready ≡ rows_at live ready
rows_same live live' [] same = refl
rows_same live live' (s ∷ ready) same =
    ap (λ o. option_map_or (λ l. row_or_0 l.stage) o 0 ∷ rows_at live' ready) (same zero s refl)
    ∙ ap (λ xs. option_map_or (λ l. row_or_0 l.stage) (live_at live s) 0 ∷ xs) (rows_same live live' ready (λ k. same (suc k)))

-- ---- tables with the same places

abbrev pub SamePlaces : List (Option Live) → List (Option Live) → Type 0
SamePlaces live live' = (s : ℕ) → live_at live' s ≡ live_at live s

pub find_same : (live live' : List (Option Live)) (number : ℕ) → SamePlaces live live' → find_live number live' ≡ find_live number live
find_same [] [] number same = refl
find_same [] (p ∷ live') number same =
    ap (λ o. if_numbered number o (find_live number live')) (same zero) ∙ find_same [] live' number (λ s. same (suc s))
find_same (p ∷ live) [] number same =
    find_same live [] number (λ s. same (suc s)) ∙ sym (ap (λ o. if_numbered number o (find_live number live)) (sym (same zero)))
find_same (p ∷ live) (q ∷ live') number same =
    ap (λ o. if_numbered number o (find_live number live')) (same zero) ∙ ap (if_numbered number p) (find_same live live' number (λ s. same (suc s)))

pub behaviours_placed : (live live' : List (Option Live)) (n : ℕ) → SamePlaces live live' → behaviours_of live' n ≡ behaviours_of live n
behaviours_placed live live' n same = behaviours_same live live' n (λ who h. find_same live live' who same)

pub queues_placed : (live live' : List (Option Live)) (lists : List (List Request)) → SamePlaces live live' → queues_of live' lists ≡ queues_of live lists
queues_placed live live' lists same = queues_same live live' lists (λ c k r is. ap (λ o. option_map_or (λ l. l.number) o 0) (same r.slot))

pub rows_placed : (live live' : List (Option Live)) (ready : List ℕ) → SamePlaces live live' → rows_at live' ready ≡ rows_at live ready
rows_placed live live' ready same = rows_same live live' ready (λ k s is. same s)

pub taken_placed : (live live' : List (Option Live)) → SamePlaces live live' → count_by is_taken live' ≡ count_by is_taken live
taken_placed [] [] same = refl
taken_placed [] (p ∷ live') same =
    sum_by-cons (λ o. cond (is_taken o) 1 0) p live' ∙ ap (λ o. cond (is_taken o) 1 0 + count_by is_taken live') (same zero)
    ∙ (let e = taken_placed [] live' (λ s. same (suc s)) in omega (arith, e))
taken_placed (p ∷ live) [] same =
    (let e = taken_placed live [] (λ s. same (suc s)) in e)
    ∙ (let z : 0 + count_by is_taken live ≡ count_by is_taken live = omega arith in sym z)
    ∙ ap (λ o. cond (is_taken o) 1 0 + count_by is_taken live) (same zero) ∙ sym (sum_by-cons (λ o. cond (is_taken o) 1 0) p live)
taken_placed (p ∷ live) (q ∷ live') same =
    sum_by-cons (λ o. cond (is_taken o) 1 0) q live'
    ∙ ap (λ o. cond (is_taken o) 1 0 + count_by is_taken live') (same zero)
    ∙ ap (λ x. cond (is_taken p) 1 0 + x) (taken_placed live live' (λ s. same (suc s)))
    ∙ sym (sum_by-cons (λ o. cond (is_taken o) 1 0) p live)

-- ---- the ready list, where rows stay

pub rows_alike : (live live' : List (Option Live)) (ready : List ℕ)
    → ((j s : ℕ) → slice_get ready j ≡ Some s → option_map_or (λ l. row_or_0 l.stage) (live_at live' s) 0
    ≡ option_map_or (λ l. row_or_0 l.stage) (live_at live s) 0)
    → rows_at live' ready ≡ rows_at live ready
rows_alike live live' [] same = refl
rows_alike live live' (s ∷ ready) same =
    ap (λ x. x ∷ rows_at live' ready) (same zero s refl)
    ∙ ap (λ xs. option_map_or (λ l. row_or_0 l.stage) (live_at live s) 0 ∷ xs) (rows_alike live live' ready (λ j. same (suc j)))

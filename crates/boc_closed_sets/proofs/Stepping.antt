-- Each row of a front that has a wish can make a step.
use Rattle.std.proofs.Common.{◌≡◌, ◌≢◌, ◌⊎◌, ◌↔◌, ℕ, zero, suc, ◌+◌, ◌<◌, inl, inr, List}
use Rattle.std.proofs.Common.{[], ◌∷◌, ◌++◌, length, map, refl, sym, ◌∙◌, ap, subst, arith, length-append}
use Rattle.std.specs.Prelude.{slice_get, slice_set, Some, None}
use Rattle.std.specs.List.{Contains}
use Rattle.std.proofs.lemmas.List.{length-map, length-set}
use Rattle.std.proofs.lemmas.List.Elements.{Contains-append_left, Contains-append_right, Contains-append_cases}
use Rattle.boc_program.specs.declared.program.Program.{Program}
use Rattle.boc_program.specs.Meaning.{Meaning}
use Rattle.boc_program.proofs.ChangedItems.{place_below, front_item, last_item, set_same, set_other}
use Rattle.boc_program.proofs.RisingNumbers.{has_first, has_later, first_or_later, none_in_none}
use Rattle.boc_runs.specs.Serial.{Behaviour, behaviour_of, after_outputs}
use Rattle.boc_runs.specs.machine.Queues.{times}
use Rattle.boc_machine_laws.proofs.Lists.{same_or_not}
use Rattle.boc_machine_laws.proofs.Outputs.{contains_times}
use Rattle.boc_machine_laws.proofs.Starts.{times_contains}
use Rattle.boc_fronts.specs.Fronts.{LiveRow, Front}
use Rattle.boc_fronts.specs.Steps.{ClaimsHere, IsStep}
use Rattle.boc_closed_sets.specs.Meant.{meant_at}

-- claims and cowns have one in common
abbrev Meets : List ℕ → List ℕ → Type 0
Meets cowns claims = (c : ℕ) × (0 < times c cowns) × Contains claims c

meets_or_not : (cowns claims : List ℕ) → Meets cowns claims ⊎ (Meets cowns claims → ⊥)
meets_or_not cowns [] = inr (λ m. none_in_none m.0 m.2)
meets_or_not cowns (d ∷ claims) =
    elim (same_or_not (times d cowns) 0) [
      | inr some ↦ inl (d, more_than_none (times d cowns) some, has_first d claims)
      | inl none ↦ elim (meets_or_not cowns claims) [
        | inl m ↦ inl (m.0, m.1, has_later d m.0 claims m.2)
        | inr never ↦ inr (λ m. elim (first_or_later d m.0 claims m.2) [
          | inl e ↦ omega (arith, m.1, none, ap (λ z. times z cowns) e)
          | inr later ↦ never (m.0, m.1, later)
        ])
      ]
    ]
  where
    more_than_none : (n : ℕ) → n ≢ 0 → 0 < n
    more_than_none zero h = absurd (h refl)
    more_than_none (suc n) h = omega arith

-- with the cowns added where they meet
added : (cowns claims : List ℕ) → Meets cowns claims ⊎ (Meets cowns claims → ⊥) → List ℕ
added cowns claims (inl m) = claims ++ cowns
added cowns claims (inr never) = claims

added_are : (cowns claims : List ℕ) (d : Meets cowns claims ⊎ (Meets cowns claims → ⊥)) (c : ℕ)
    → (Contains (added cowns claims d) c ↔ (Contains claims c ⊎ ((0 < times c cowns) × Meets cowns claims)))
unfolding added
added_are cowns claims (inl m) c = (
  λ h. elim (Contains-append_cases claims cowns c h) [
    | inl old ↦ inl old
    | inr new ↦ inr (times_contains cowns c new, m)
  ],
  λ h. elim h [
    | inl old ↦ Contains-append_left claims cowns c old
    | inr new ↦ Contains-append_right claims cowns c (contains_times c cowns new.0)
  ],
)
added_are cowns claims (inr never) c = (
  λ h. inl h,
  λ h. elim h [
    | inl old ↦ old
    | inr new ↦ absurd (never new.1)
  ],
)

-- a row that stays, with its new claims
abbrev claiming : List ℕ → LiveRow → LiveRow
claiming cowns l = record l { claims = added cowns l.claims (meets_or_not cowns l.claims) }

-- the places of those that meet, counted from a number on
counted : {A : Type 0} → A ⊎ (A → ⊥) → ℕ → List ℕ → List ℕ
counted (inl has) k ks = k ∷ ks
counted (inr never) k ks = ks

meeting : List ℕ → ℕ → List LiveRow → List ℕ
meeting cowns k [] = []
meeting cowns k (l ∷ ls) = counted (meets_or_not cowns l.claims) k (meeting cowns (suc k) ls)

-- a row at a place behind a number meets
record MeetsAt (cowns : List ℕ) (k : ℕ) (ls : List LiveRow) (j : ℕ) : Type 0 where
  place : ℕ
  row : LiveRow
  is : slice_get ls place ≡ Some row
  at : k + place ≡ j
  meets : Meets cowns row.claims

counted_back : {A : Type 0} (d : A ⊎ (A → ⊥)) (k : ℕ) (ks : List ℕ) (j : ℕ) → Contains (counted d k ks) j → ((k ≡ j) × A) ⊎ Contains ks j
unfolding counted
counted_back (inl has) k ks j h =
    elim (first_or_later k j ks h) [
      | inl e ↦ inl (e, has)
      | inr later ↦ inr later
    ]
counted_back (inr never) k ks j h = inr h

counted_first : {A : Type 0} (d : A ⊎ (A → ⊥)) (k : ℕ) (ks : List ℕ) → A → Contains (counted d k ks) k
unfolding counted
counted_first (inl has) k ks a = has_first k ks
counted_first (inr never) k ks a = absurd (never a)

counted_later : {A : Type 0} (d : A ⊎ (A → ⊥)) (k : ℕ) (ks : List ℕ) (j : ℕ) → Contains ks j → Contains (counted d k ks) j
unfolding counted
counted_later (inl has) k ks j h = has_later k j ks h
counted_later (inr never) k ks j h = h

meeting_back : (cowns : List ℕ) (k : ℕ) (ls : List LiveRow) (j : ℕ) → Contains (meeting cowns k ls) j → MeetsAt cowns k ls j
unfolding meeting
meeting_back cowns k [] j h = absurd (none_in_none j h)
meeting_back cowns k (l ∷ ls) j h =
    elim (counted_back (meets_or_not cowns l.claims) k (meeting cowns (suc k) ls) j h) [
      | inl here ↦ record { place = 0; row = l; is = refl; at = omega (arith, here.0); meets = here.1 }
      | inr later ↦
          let m = meeting_back cowns (suc k) ls j later in
          record { place = suc m.place; row = m.row; is = m.is; at = omega (arith, m.at); meets = m.meets }
    ]

meeting_on : (cowns : List ℕ) (k : ℕ) (ls : List LiveRow) (i : ℕ) (l : LiveRow) → slice_get ls i ≡ Some l → Meets cowns l.claims
    → Contains (meeting cowns k ls) (k + i)
unfolding meeting
meeting_on cowns k [] i l e m = absurd (let g : None ≡ Some l = e in cc)
meeting_on cowns k (first ∷ ls) zero l e m =
    let same : first ≡ l = (let g : Some first ≡ Some l = e in cc) in
    let here : k ≡ k + 0 = omega arith in
    subst (Contains (meeting cowns k (first ∷ ls))) here
    (counted_first (meets_or_not cowns first.claims) k (meeting cowns (suc k) ls) (subst (λ (z : LiveRow). Meets cowns z.claims) (sym same) m))
meeting_on cowns k (first ∷ ls) (suc i) l e m =
    let here : suc k + i ≡ k + suc i = omega arith in
    counted_later (meets_or_not cowns first.claims) k (meeting cowns (suc k) ls) (k + suc i)
    (subst (Contains (meeting cowns (suc k) ls)) here (meeting_on cowns (suc k) ls i l e m))

at_map : {A B : Type 0} (f : A → B) (xs : List A) (i : ℕ) (x : A) → slice_get xs i ≡ Some x → slice_get (map f xs) i ≡ Some (f x)
at_map f [] i x e = absurd (let g : None ≡ Some x = e in cc)
at_map f (y ∷ xs) zero x e = (let g : Some y ≡ Some x = e in let same : y ≡ x = cc in ap (λ z. Some (f z)) same)
at_map f (y ∷ xs) (suc i) x e = at_map f xs i x e

module _ (p : Program) (f : Front) (i : ℕ) (row : LiveRow) (is : slice_get f.live i ≡ Some row) (wish : Behaviour) (rest : List Behaviour)
    (wishes_are : row.wishes ≡ wish ∷ rest) where
  abbrev means : Meaning
  means = meant_at p wish f.values

  abbrev parent : LiveRow
  parent = record { wishes = rest; before = row.before; claims = added wish.cowns row.claims (meets_or_not wish.cowns row.claims) }

  abbrev olds : List LiveRow
  olds = slice_set (map (claiming wish.cowns) f.live) i parent

  abbrev new : LiveRow
  new = record { wishes = map behaviour_of means.wishes; before = meeting wish.cowns 0 f.live; claims = wish.cowns }

  abbrev g : Front
  g = record { values = after_outputs f.values wish.cowns means.outputs; live = olds ++ (new ∷ []) }

  long : length olds ≡ length f.live
  long = length-set (map (claiming wish.cowns) f.live) i parent ∙ length-map f.live (claiming wish.cowns)

  -- a row that was there, after the step
  record After (j : ℕ) (l : LiveRow) : Type 0 where
    now : LiveRow
    at : slice_get g.live j ≡ Some now
    before : now.before ≡ l.before
    claims : now.claims ≡ added wish.cowns l.claims (meets_or_not wish.cowns l.claims)
    here : j ≡ i → now.wishes ≡ rest
    elsewhere : j ≢ i → now.wishes ≡ l.wishes

  after : (j : ℕ) (l : LiveRow) → slice_get f.live j ≡ Some l → After j l
  after j l e =
      let low = place_below f.live j l e in
      let front : slice_get g.live j ≡ slice_get olds j = front_item olds new j (omega (arith, long, low)) in
      elim (same_or_not j i) [
        | inl same ↦
            let l_is : row ≡ l = (let z : Some row ≡ Some l = sym is ∙ sym (ap (slice_get f.live) same) ∙ e in cc) in
            record {
              now = parent;
              at = front ∙ ap (slice_get olds) same
                  ∙ set_same (map (claiming wish.cowns) f.live) i parent
                  (omega (arith, low, same, length-map f.live (claiming wish.cowns)));
              before = ap (λ (z : LiveRow). z.before) l_is;
              claims = ap (λ (z : LiveRow). added wish.cowns z.claims (meets_or_not wish.cowns z.claims)) l_is;
              here = λ q. refl;
              elsewhere = λ n. absurd (n same);
            }
        | inr other ↦ record {
          now = claiming wish.cowns l;
          at = front ∙ set_other (map (claiming wish.cowns) f.live) i j parent other ∙ at_map (claiming wish.cowns) f.live j l e;
          before = refl;
          claims = refl;
          here = λ q. absurd (other q);
          elsewhere = λ n. refl;
        }
      ]

  after_is : (j : ℕ) (l m : LiveRow) (e : slice_get f.live j ≡ Some l) → slice_get g.live j ≡ Some m → (after j l e).now ≡ m
  after_is j l m e at = (let z : Some (after j l e).now ≡ Some m = sym (after j l e).at ∙ at in cc)

  before_new : (j : ℕ) → (Contains new.before j ↔ ClaimsHere f wish.cowns j)
  before_new j = (
    λ h.
        let m = meeting_back wish.cowns 0 f.live j h in
        let same : m.place ≡ j = omega (arith, m.at) in
        record { row = m.row; is = sym (ap (slice_get f.live) same) ∙ m.is; cown = m.meets.0; among = m.meets.1; claims = m.meets.2 },
    λ h.
        let same : 0 + j ≡ j = omega arith in
        subst (Contains new.before) same (meeting_on wish.cowns 0 f.live j h.row h.is (h.cown, h.among, h.claims)),
  )

  met : (j : ℕ) (l : LiveRow) → slice_get f.live j ≡ Some l → (Contains new.before j ↔ Meets wish.cowns l.claims)
  met j l e = (
    λ h.
        let c = (before_new j).0 h in
        let same : c.row ≡ l = (let z : Some c.row ≡ Some l = sym c.is ∙ e in cc) in
        (c.cown, c.among, subst (λ (z : LiveRow). Contains z.claims c.cown) same c.claims),
    λ m. (before_new j).1 (record { row = l; is = e; cown = m.0; among = m.1; claims = m.2 }),
  )

  claims_now : (j c : ℕ) (l m : LiveRow) → slice_get f.live j ≡ Some l → slice_get g.live j ≡ Some m
      → (Contains m.claims c ↔ (Contains l.claims c ⊎ ((0 < times c wish.cowns) × Contains new.before j)))
  claims_now j c l m e at =
      let same : m.claims ≡ added wish.cowns l.claims (meets_or_not wish.cowns l.claims) =
      sym (ap (λ (z : LiveRow). z.claims) (after_is j l m e at)) ∙ (after j l e).claims in
      let a = added_are wish.cowns l.claims (meets_or_not wish.cowns l.claims) c in (
        λ h. elim (a.0 (subst (λ cs. Contains cs c) same h)) [
          | inl old ↦ inl old
          | inr more ↦ inr (more.0, (met j l e).1 more.1)
        ],
        λ h. subst (λ cs. Contains cs c) (sym same) (a.1 (elim h [
          | inl old ↦ inl old
          | inr more ↦ inr (more.0, (met j l e).0 more.1)
        ])),
      )

  pub step_there : (h : Front) × IsStep p f i h
  step_there = (
    g,
    record {
      row = row;
      is = is;
      wish = wish;
      rest = rest;
      wishes_are = wishes_are;
      means = means;
      meant = refl;
      values_are = refl;
      many = length-append olds (new ∷ []) ∙ omega (arith, long);
      new = new;
      new_is = ap (slice_get g.live) (sym long) ∙ last_item olds new;
      new_wishes = refl;
      new_before = before_new;
      new_claims = λ c. (times_contains wish.cowns c, contains_times c wish.cowns);
      wishes = λ j l m e at.
          let same = after_is j l m e at in
          let a = after j l e in
          record {
            parent = λ q. sym (ap (λ (z : LiveRow). z.wishes) same) ∙ a.here q;
            other = λ n. sym (ap (λ (z : LiveRow). z.wishes) same) ∙ a.elsewhere n;
          };
      before = λ j l m e at. sym (ap (λ (z : LiveRow). z.before) (after_is j l m e at)) ∙ (after j l e).before;
      claims = claims_now;
    },
  )

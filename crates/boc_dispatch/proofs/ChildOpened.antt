-- A child is opened.
use Rattle.std.proofs.Common.{◌≡◌, ◌≢◌, ℕ, ◌+◌, ◌^◌, ◌<◌, ◌≤◌, ◌⊎◌, inl, inr, Bool, true, false, cond, ◌&&◌, ◌||◌, eqb, ltb, List, [], ◌∷◌, ◌++◌, length, set}
use Rattle.std.proofs.Common.{get_or, refl, sym, ◌∙◌, ap, subst, arith, length-set, get_or-set_same, get_or-set_other, length-append}
use Rattle.std.specs.Prelude.{slice_get, nat_lt, Option, Some, None}
use Rattle.std.specs.Option.{option_map, option_map_or}
use Rattle.std.specs.List.{count_by}
use Rattle.std.proofs.lemmas.Bool.{lt-ltb, le-ltb}
use Rattle.std.proofs.lemmas.List.{set-get_or}
use Rattle.std.proofs.lemmas.List.Sums.{sum_by-append, sum_by-cons}
use Rattle.std.proofs.Math.Seq.{set-append_seam}
use Rattle.boc_program.specs.declared.limits.TheConstants.{MOST_ROWS}
use Rattle.boc_runs.specs.declared.stage.Phase.TheVariants as phases
use Rattle.boc_runs.specs.declared.stage.Stage.TheVariants.{Asking, Recorded}
use Rattle.boc_program.specs.Meaning.{Wish}
use Rattle.boc_program.specs.Rising.{rising}
use Rattle.boc_runs.specs.Lives.{Running}
use Rattle.boc_runs.specs.Run.{state_of, next_wish}
use Rattle.boc_runs.specs.machine.Stages.{OpenBehaviour, parent_of, cowns_of, row_of, settled_at, row_at, asks_at, enqueues_at, waits_at, life}
use Rattle.boc_runs.specs.machine.Stages.{life_at, settled, enqueues, asks}
use Rattle.boc_runs.specs.machine.Queues.{times, is_granted, is_first}
use Rattle.boc_runs.specs.machine.Steps.{State, at, queue, members, opened, unrecorded, stepped, with_stage, asking_on, MayOpen, Opens}
use Rattle.boc_runs.specs.machine.Steps as steps
use Rattle.boc_runs.specs.machine.Sound.{IsSound}
use Rattle.boc_machine_laws.proofs.Lists.{same_or_not, read_pushed, read_front}
use Rattle.boc_machine_laws.proofs.Counting.{by_test}
use Rattle.boc_machine_laws.proofs.Keeps.{keeps_opens}
use Rattle.boc_machine_laws.proofs.Rows.{life_there}
use Rattle.boc_chain.specs.Chain.{Place}
use Rattle.boc_dispatch.specs.declared.live.Live.{Live}
use Rattle.boc_dispatch.specs.Inside.{live_at, open_of, place_of, exchanged_at, number_at, behaviours_of, row_or_0, is_taken, Parts, IsKept, HasRooms, state}
use Rattle.boc_dispatch.specs.Inside.{IsAtStage, IsNew, AreNumbered, AreInHand, AreOfRun, IsMember, IsWished, AreCounted}
use Rattle.boc_dispatch.specs.Inside.{awaits}
use Rattle.boc_dispatch.specs.Moves.{recorded, with_new_child, MayRecord}
use Rattle.boc_dispatch.specs.Places.{with_child, with_row}
use Rattle.boc_dispatch.proofs.Counts.{failing}
use Rattle.boc_dispatch.proofs.Flagged.{flagging_each, place_with}
use Rattle.boc_dispatch.proofs.Going.{awaits_same, granted_same}
use Rattle.boc_dispatch.proofs.Granting.{Tied, kept_of}
use Rattle.boc_dispatch.proofs.Onward.{Leads, Further, further, child_led, parent_led, requests_led, ready_led}
use Rattle.boc_dispatch.proofs.Recording.{asks_no_row, tied_after, state_after, may_record, rooms_after, e_is}
use Rattle.boc_dispatch.proofs.Standing.{open_is}
use Rattle.boc_dispatch.proofs.Tables.{SamePlaces, live_there, live_here, live_other, live_new, slot_of_open, behaviours_length, behaviours_placed}
use Rattle.boc_dispatch.proofs.Tables.{numbered_changed, numbered_added, behaviours_changed, behaviours_added, taken_changed, taken_added, taken_placed}
use Rattle.boc_dispatch.proofs.Tables.{at_slot, queues_same, queues_length, rows_alike}

same_times : (x : ℕ) (xs : List ℕ) → times x xs ≡ times x xs
same_times x [] = refl
same_times x (y ∷ xs) = ap (λ n. cond (eqb y x) 1 0 + n) (same_times x xs)

-- all fail a test that fails
failing_each : (f : ℕ → Bool) → ((c : ℕ) → f c ≡ false) → (xs : List ℕ) → failing f xs ≡ length xs
failing_each f fails [] = refl
failing_each f fails (x ∷ xs) =
    let one : Bool → ℕ = λ b. cond (cond b false true) 1 0 in
    let e : one (f x) ≡ 1 = ap one (fails x) in
    sum_by-cons (λ c. cond (cond (f c) false true) 1 0) x xs ∙ (omega (arith, e, failing_each f fails xs))

nothing : (xs : List ℕ) → length xs ≡ 0 → xs ≡ []
nothing [] e = refl
nothing (x ∷ xs) e = absurd (omega arith)

module _ (d : Parts) (k : IsKept d) (row slot : ℕ) (p : Live) (it : IsAtStage d slot p (Recorded row phases.Running)) (free : p.child ≡ None) (child : Live)
    (new : IsNew d row child) (few : d.opened < MOST_ROWS) where
  abbrev s : State
  s = state d

  abbrev wish : Wish
  wish = new.wished.wish

  abbrev b : OpenBehaviour
  b = steps.child row wish

  abbrev cs : List ℕ
  cs = child.cowns.items

  row_is : row_at p.stage ≡ Some row
  row_is = ap row_at it.stage_is

  child_is : open_of child ≡ b
  child_is = λ i. record {
    parent = new.parent_is i;
    offset = new.offset_is i;
    cowns = (new.rising_is ∙ ap rising (sym new.wished.cowns_are)) i;
    stage = new.stage_is i;
  }

  number_is : child.number ≡ opened s
  number_is = new.number_is ∙ sym (behaviours_length d.live d.opened)

  runs : state_of (members d.program s) row ≡ Some Running
  runs =
      let h = k.sound.fits.has_row p.number row (ap row_of (open_is d k slot p it.is) ∙ row_is) in
      life_there (members d.program s) row h.member h.is ∙ ap (λ z. Some z) (h.life_is ∙ ap life (open_is d k slot p it.is) ∙ ap life_at it.stage_is)

  none_at : (who : ℕ) (o : Option OpenBehaviour) → at s who ≡ o → enqueues o ≡ true → parent_of o ≡ row → ⊥
  none_at who None is enq par = absurd (let f : false ≡ true = enq in cc)
  none_at who (Some x) is enq par =
      let q = slot_of_open d.live d.opened who x k.numbered is in
      let h = k.in_hand.parents q.0 q.1 q.2 (ap (λ z. enqueues_at z.stage) q.4 ∙ enq) in
      let home : Some h.home ≡ Some slot =
      sym (k.at_home h.home row h.parent h.is (h.row_is ∙ ap (λ z. Some z.parent) q.4 ∙ ap (λ (z : ℕ). Some z) par)) ∙ k.at_home slot row p it.is row_is in
      let same : h.home ≡ slot = cc in
      let this : h.parent ≡ p = (let f : Some h.parent ≡ Some p = sym h.is ∙ ap (live_at d.live) same ∙ it.is in cc) in
      let f : Some q.0 ≡ None = sym h.knows ∙ ap (λ z. z.child) this ∙ free in
      absurd cc

  may_open : MayOpen d.program s row wish
  may_open = record {
    runs = runs;
    none_open = λ who enq. none_at who (at s who) refl enq;
    next = ap (λ z. next_wish d.program (slice_get (members d.program s) z)) (sym new.parent_is) ∙ new.wished.next;
    room = let c = k.sound.counted in let n = behaviours_length d.live d.opened in omega (arith, c, n, few);
  }

  abbrev base : State
  base = record s { behaviours = s.behaviours ++ (Some b ∷ []) }

  abbrev T : State
  T = stepped (asking_on d.program base (opened s) b 0)

  opens_T : Opens d.program s row T
  opens_T = record { wish = wish; may = may_open; gives = refl }

  sound_T : IsSound d.program T
  sound_T = keeps_opens d.program s row T k.sound opens_T

  inside : opened s < length base.behaviours
  inside = omega (arith, length-append s.behaviours (Some b ∷ []))

  cowns_T : cowns_of (at T (opened s)) ≡ cs
  cowns_T =
      by_test (λ (x : State). cowns_of (at (stepped x) (opened s)) ≡ b.cowns) (ltb 0 (length b.cowns)) (with_stage base (opened s) b (Asking 0 false))
      (steps.with_spawn d.program base (opened s) b)
      (λ h. ap cowns_of (get_or-set_same base.behaviours (opened s) (Some b) None inside))
      (λ h. ap cowns_of (get_or-set_same base.behaviours (opened s)
      (Some (record b { stage = Recorded (steps.recorded d.program base) (steps.flagging b.cowns 0) })) None inside))
      ∙ sym (ap (λ z. z.cowns) child_is)

  queues_T : T.queues ≡ s.queues
  queues_T = by_test (λ (x : State). (stepped x).queues ≡ s.queues) (ltb 0 (length b.cowns)) (with_stage base (opened s) b (Asking 0 false))
      (steps.with_spawn d.program base (opened s) b) (λ h. refl) (λ h. refl)

  -- what the chains ask for
  pub admit_distinct : (c : ℕ) → times c cs ≤ 1
  admit_distinct c = omega (arith, same_times c cs, subst (λ (z : List ℕ). times c z ≤ 1) cowns_T (sound_T.lawful.once (opened s) c))

  pub admit_in : (c : ℕ) → 0 < times c cs → c < length d.lists
  admit_in c h =
      let r = sound_T.in_range (opened s) c (subst (λ (z : List ℕ). 0 < times c z) (sym cowns_T) (omega (arith, same_times c cs, h))) in
      omega (arith, r, ap (λ z. length z) queues_T, queues_length d.live d.lists)

  module _ (live2 : List (Option Live)) (same : SamePlaces d.live live2) (own : ℕ) (vacant : live_at d.live own ≡ None) (room : own < length live2)
      (place : ℕ → Option Place) (place_own : place own ≡ Some (record { cowns = cs; exchanged = 0 })) (place_other : (r : ℕ) → r ≢ own → place r ≡ d.place r)
    where
      abbrev pub ready_parts : Parts
      ready_parts = record d { place = place; live = live2; log = record d.log { rooms = d.log.rooms + 1 } }

      abbrev pub E : Parts
      E = with_new_child ready_parts slot own p child

      abbrev p' : Live
      p' = with_child (Some own) p

      abbrev half : List (Option Live)
      half = set live2 own (Some child)

      pub apart : slot ≢ own
      apart e = let f : Some p ≡ None = sym it.is ∙ ap (live_at d.live) e ∙ vacant in absurd cc

      pub p2_is : live_at live2 slot ≡ Some p
      p2_is = same slot ∙ it.is

      half_slot : live_at half slot ≡ Some p
      half_slot = live_other live2 own (Some child) slot apart ∙ p2_is

      pub e_own : live_at E.live own ≡ Some child
      e_own = live_other half slot (Some p') own (λ e. apart (sym e)) ∙ live_here live2 own (Some child) room

      pub e_slot : live_at E.live slot ≡ Some p'
      e_slot = live_here half slot (Some p') (live_there half slot p half_slot)

      e_other : (r : ℕ) → r ≢ own → r ≢ slot → live_at E.live r ≡ live_at d.live r
      e_other r n m = live_other half slot (Some p') r m ∙ live_other live2 own (Some child) r n ∙ same r

      -- who was there is not where the child is
      not_own : (r : ℕ) (x : Live) → live_at d.live r ≡ Some x → r ≢ own
      not_own r x is e = let f : Some x ≡ None = sym is ∙ ap (live_at d.live) e ∙ vacant in absurd cc

      p_only : (x : Live) (r : ℕ) → r ≡ slot → live_at d.live r ≡ Some x → x ≡ p
      p_only x r e is = let f : Some x ≡ Some p = sym is ∙ ap (live_at d.live) e ∙ it.is in cc

      cases : (r : ℕ) (x : Live) → live_at E.live r ≡ Some x
          → ((r ≡ own) × (x ≡ child)) ⊎ (((r ≡ slot) × (x ≡ p')) ⊎ ((r ≢ slot) × (live_at d.live r ≡ Some x)))
      cases r x a =
          elim (live_new half slot (Some p') r x a) [
            | inl u ↦ let f : Some p' ≡ Some x = u.1 in let g : x ≡ p' = cc in inr (inl (u.0, g))
            | inr u ↦
                elim (live_new live2 own (Some child) r x u.1) [
                  | inl v ↦ let f : Some child ≡ Some x = v.1 in let g : x ≡ child = cc in inl (v.0, g)
                  | inr v ↦ inr (inr (u.0, sym (same r) ∙ v.1))
                ]
          ]

      numbered2 : AreNumbered live2 d.opened
      numbered2 = record {
        once = λ i j l m x y e. k.numbered.once i j l m (sym (same i) ∙ x) (sym (same j) ∙ y) e;
        given = λ i l x. k.numbered.given i l (sym (same i) ∙ x);
      }

      numbered_half : AreNumbered half (d.opened + 1)
      numbered_half = numbered_added live2 d.opened own child numbered2 (same own ∙ vacant) room new.number_is

      -- whoever was there goes on as who that was
      led : Leads Further d.live E.live
      led r x is =
          elim (same_or_not r slot) [
            | inl e ↦ subst (λ (z : Live). (y : Live) × (live_at E.live r ≡ Some y) × Further z y) (sym (p_only x r e is)) (
              p',
              ap (live_at E.live) e ∙ e_slot,
              record {
                parent = refl;
                row = λ q h. h;
                enqueues = λ h. h;
                child = λ q h. absurd (let f : None ≡ Some q = sym free ∙ h in cc);
                marks = λ c. (refl, refl);
                ready = λ q h. h;
              },
            )
            | inr n ↦ (x, e_other r (not_own r x is) n ∙ is, further x)
          ]

      in_hand_after : AreInHand E.live
      in_hand_after = record {
        children = λ home r x a has. elim (cases home x a) [
          | inl u ↦ absurd (let f : Some r ≡ None = sym has ∙ ap (λ z. z.child) u.1 ∙ new.childless in cc)
          | inr v ↦ elim v [
            | inl u ↦
                let f : Some own ≡ Some r = ap (λ z. z.child) (sym u.1) ∙ has in
                let e : r ≡ own = cc in
                record {
                  child = child;
                  is = ap (live_at E.live) e ∙ e_own;
                  enqueued = ap enqueues_at new.stage_is;
                  parent_is = ap (λ z. row_at z.stage) u.1 ∙ row_is ∙ ap (λ (z : ℕ). Some z) (sym new.parent_is);
                }
            | inr u ↦ child_led d.live E.live led r x (k.in_hand.children home r x u.1 has)
          ]
        ];
        parents = λ r x a enqueued. elim (cases r x a) [
          | inl u ↦ record {
            home = slot;
            parent = p';
            is = e_slot;
            row_is = row_is ∙ ap (λ (z : ℕ). Some z) (sym (ap (λ z. z.parent) u.1 ∙ new.parent_is));
            knows = ap (λ (z : ℕ). Some z) (sym u.0);
          }
          | inr v ↦ elim v [
            | inl u ↦ absurd (let f : false ≡ true = sym (ap enqueues_at it.stage_is) ∙ ap (λ z. enqueues_at z.stage) (sym u.1) ∙ enqueued in cc)
            | inr u ↦ parent_led d.live E.live led r x (k.in_hand.parents r x u.1 enqueued)
          ]
        ];
      }

      places_after : (r : ℕ) → place r ≡ option_map place_of (live_at E.live r)
      places_after r =
          elim (same_or_not r own) [
            | inl e ↦
                ap place e ∙ place_own ∙ sym (ap (λ z. Some (place_with cs (exchanged_at z cs))) new.stage_is)
                ∙ sym (ap (option_map place_of) (ap (live_at E.live) e ∙ e_own))
            | inr n ↦
                place_other r n ∙ k.chained.places r
                ∙ elim (same_or_not r slot) [
                  | inl e ↦ ap (option_map place_of) (ap (live_at d.live) e ∙ it.is) ∙ sym (ap (option_map place_of) (ap (live_at E.live) e ∙ e_slot))
                  | inr m ↦ sym (ap (option_map place_of) (e_other r n m))
                ]
          ]

      of_run_after : AreOfRun d.program (members d.program s) E.live
      of_run_after = record {
        recorded = λ r q x a e. elim (cases r x a) [
          | inl u ↦ absurd (asks_no_row child.stage q (ap asks_at new.stage_is) (ap (λ z. row_at z.stage) (sym u.1) ∙ e))
          | inr v ↦ elim v [
            | inl u ↦
                let h = k.of_run.recorded slot q p it.is (ap (λ z. row_at z.stage) (sym u.1) ∙ e) in
                subst (λ (z : Live). IsMember (members d.program s) z q) (sym u.1)
                (record { member = h.member; is = h.is; behaviour_is = h.behaviour_is; spawned_is = h.spawned_is })
            | inr u ↦ k.of_run.recorded r q x u.1 e
          ]
        ];
        asking = λ r x a e. elim (cases r x a) [
          | inl u ↦ subst (λ (z : Live). IsWished d.program (members d.program s) z) (sym u.1) new.wished
          | inr v ↦ elim v [
            | inl u ↦ absurd (asks_no_row p.stage row (ap (λ z. asks_at z.stage) (sym u.1) ∙ e) row_is)
            | inr u ↦ k.of_run.asking r x u.1 e
          ]
        ];
      }

      taken_after : count_by is_taken E.live ≡ count_by is_taken d.live + 1
      taken_after =
          taken_changed half (d.opened + 1) slot p p' numbered_half half_slot refl
          ∙ taken_added live2 d.opened own child numbered2 (same own ∙ vacant) room new.number_is ∙ ap (λ n. n + 1) (taken_placed d.live live2 same)

      pub tied_opened : Tied E
      tied_opened = record {
        cowns_are = k.cowns_are;
        values_are = k.values_are;
        homes_are = k.homes_are;
        numbered = numbered_changed half (d.opened + 1) slot p p' numbered_half half_slot refl;
        at_home = λ r q x a e. elim (cases r x a) [
          | inl u ↦ absurd (asks_no_row child.stage q (ap asks_at new.stage_is) (ap (λ z. row_at z.stage) (sym u.1) ∙ e))
          | inr v ↦ elim v [
            | inl u ↦ k.at_home slot q p it.is (ap (λ z. row_at z.stage) (sym u.1) ∙ e) ∙ ap (λ (z : ℕ). Some z) (sym u.0)
            | inr u ↦ k.at_home r q x u.1 e
          ]
        ];
        in_hand = in_hand_after;
        chained = record { requests = requests_led d.live E.live led d.lists d.place k.chained; places = places_after };
        of_run = of_run_after;
        ready_there = ready_led d.live E.live led d.ready k.ready_there;
        left = let t = taken_after in let l = k.left in omega (arith, t, l);
      }

      -- ---- the state

      abbrev base2 : State
      base2 = record s { behaviours = s.behaviours ++ (Some (open_of child) ∷ []) }

      half_behaviours : behaviours_of half (d.opened + 1) ≡ base2.behaviours
      half_behaviours =
          behaviours_added live2 d.opened own child numbered2 (same own ∙ vacant) room new.number_is
          ∙ ap (λ bs. bs ++ (Some (open_of child) ∷ [])) (behaviours_placed d.live live2 d.opened same)

      behaviours_after : behaviours_of E.live (d.opened + 1) ≡ base2.behaviours
      behaviours_after =
          behaviours_changed half (d.opened + 1) slot p p' numbered_half half_slot refl
          ∙ ap (set (behaviours_of half (d.opened + 1)) p.number) (sym (at_slot half (d.opened + 1) slot p numbered_half half_slot))
          ∙ set-get_or (behaviours_of half (d.opened + 1)) p.number None ∙ half_behaviours

      number_after : (r : ℕ) (x : Live) → live_at d.live r ≡ Some x → number_at E.live r ≡ number_at d.live r
      number_after r x is =
          elim (same_or_not r slot) [
            | inl e ↦
                ap (λ o. option_map_or (λ z. z.number) o 0) (ap (live_at E.live) e ∙ e_slot)
                ∙ sym (ap (λ o. option_map_or (λ z. z.number) o 0) (ap (live_at d.live) e ∙ it.is))
            | inr n ↦ ap (λ o. option_map_or (λ z. z.number) o 0) (e_other r (not_own r x is) n)
          ]

      row_stays : (j r : ℕ) → slice_get d.ready j ≡ Some r
          → option_map_or (λ (z : Live). row_or_0 z.stage) (live_at E.live r) 0 ≡ option_map_or (λ (z : Live). row_or_0 z.stage) (live_at d.live r) 0
      row_stays j r a =
          let q = k.ready_there j r a in
          elim (same_or_not r slot) [
            | inl e ↦
                ap (λ o. option_map_or (λ (z : Live). row_or_0 z.stage) o 0) (ap (live_at E.live) e ∙ e_slot)
                ∙ sym (ap (λ o. option_map_or (λ (z : Live). row_or_0 z.stage) o 0) (ap (live_at d.live) e ∙ it.is))
            | inr n ↦ ap (λ o. option_map_or (λ (z : Live). row_or_0 z.stage) o 0) (e_other r (not_own r q.0 q.2) n)
          ]

      opened_state : state E ≡ stepped base2
      opened_state = λ i. record {
        log = d.log.events;
        behaviours = behaviours_after i;
        queues = queues_same d.live E.live d.lists (λ c j r a. let h = k.chained.requests c j r a in number_after r.slot h.this h.is) i;
        ready = rows_alike d.live E.live d.ready row_stays i;
        steps = d.steps + 1;
      }

      base_is : stepped base2 ≡ stepped base
      base_is = ap (λ z. stepped (record s { behaviours = s.behaviours ++ (Some z ∷ []) })) child_is

      cowns_are : cs ≡ b.cowns
      cowns_are = ap (λ z. z.cowns) child_is

      unrecorded_opened : unrecorded (state E) ≡ unrecorded s + 1
      unrecorded_opened =
          let one : Option OpenBehaviour → ℕ = λ o. cond (asks o) 1 0 in
          let f : one (Some (open_of child)) ≡ 1 = ap (λ z. cond (asks_at z) 1 0) new.stage_is in
          let a = sum_by-append one s.behaviours (Some (open_of child) ∷ []) in
          let c = sum_by-cons one (Some (open_of child)) [] in
          omega (arith, ap unrecorded opened_state, a, c, f)

      pub opened_rooms : (homes ready : ℕ) → unrecorded s ≤ d.log.rooms → length d.homes + (unrecorded s + 1) ≤ homes → length live2 ≤ ready
          → length live2 ≤ 2 ^ 32 → HasRooms E homes ready
      opened_rooms homes ready a h r few =
          let u = unrecorded_opened in
          let x = length-set half slot (Some p') in
          let y = length-set live2 own (Some child) in
          record { rooms = omega (arith, u, a); homes = omega (arith, u, h); ready = omega (arith, x, y, r); few = omega (arith, x, y, few) }

      -- what each of the others awaits, in a state that has them as before
      others_counted : (t : State) (x : Live) (r : ℕ) → ((who : ℕ) → who ≢ opened s → at t who ≡ at s who) → ((c : ℕ) → queue t c ≡ queue s c)
          → live_at d.live r ≡ Some x
          → (enqueues_at x.stage || waits_at x.stage) ≡ true → x.awaited ≡ awaits t x
      others_counted t x r same_at same_queue is h =
          let other : x.number ≢ opened s = (λ e. let g = k.numbered.given r x is in let n = behaviours_length d.live d.opened in absurd (omega arith)) in
          k.counted r x is h ∙ sym (awaits_same s t x (λ c. granted_same s t x.number c (ap settled (same_at x.number other)) (same_queue c)))

      not_counted : (x : Live) → x ≡ p' → (enqueues_at x.stage || waits_at x.stage) ≡ true → ⊥
      not_counted x e h =
          let f : false ≡ true = sym (ap (λ z. enqueues_at z || waits_at z) it.stage_is) ∙ ap (λ z. enqueues_at z.stage || waits_at z.stage) (sym e) ∙ h in cc

      not_spawned : (enqueues_at p'.stage || waits_at p'.stage) ≡ true → ⊥
      not_spawned h = not_counted p' refl h

      -- ---- it has cowns: it asks

      module _ (more : 0 < length cs) where
        asks_T : stepped base ≡ T
        asks_T =
            sym (ap (λ bs. stepped (record base { behaviours = bs })) (set-append_seam s.behaviours (Some b) [] (Some b)))
            ∙ ap (λ x. stepped (cond x (with_stage base (opened s) b (Asking 0 false)) (steps.with_spawn d.program base (opened s) b)))
            (sym (lt-ltb 0 (length b.cowns) (omega (arith, more, ap (λ z. length z) cowns_are))))

        pub opens_asking : Opens d.program s row (state E)
        opens_asking = record { wish = wish; may = may_open; gives = opened_state ∙ base_is ∙ asks_T }

        child_settles : settled (at (stepped base2) child.number) ≡ []
        child_settles =
            ap (λ z. settled (at (stepped base2) z)) number_is ∙ ap settled (read_pushed s.behaviours (Some (open_of child)))
            ∙ ap (λ z. settled_at z cs) new.stage_is

        asking_counted : AreCounted (stepped base2) E.live
        asking_counted r x a h =
            elim (cases r x a) [
              | inl u ↦
                  let one : Bool → ℕ = λ y. cond y 1 0 in
                  let e : one (enqueues_at child.stage) ≡ 1 = ap one (ap enqueues_at new.stage_is) in
                  let none = failing_each (λ c. is_granted (at (stepped base2)) (queue (stepped base2)) child.number c)
                  (λ c. ap (λ z. nat_lt 0 (times c z) && is_first child.number (queue (stepped base2) c)) child_settles) cs in
                  ap (λ z. z.awaited) u.1 ∙ new.awaited_is
                  ∙ sym (ap (λ n. n + one (enqueues_at child.stage)) none ∙ ap (λ n. length cs + n) e) ∙ ap (awaits (stepped base2)) (sym u.1)
              | inr v ↦ elim v [
                | inl u ↦ absurd (not_counted x u.1 h)
                | inr u ↦ others_counted (stepped base2) x r (λ who n. read_front s.behaviours (Some (open_of child)) who n) (λ c. refl) u.1 h
              ]
            ]

        pub asking_kept : IsKept E
        asking_kept =
            kept_of E tied_opened (keeps_opens d.program s row (state E) k.sound opens_asking)
            (subst (λ (z : State). AreCounted z E.live) (sym opened_state) asking_counted)

      -- ---- it has none: its spawn is recorded

      module _ (empty : length cs ≡ 0) where
        some : 0 < length (members d.program (state E))
        some = k.sound.some

        asks_is : child.stage ≡ Asking (length cs) false
        asks_is = new.stage_is ∙ ap (λ (n : ℕ). Asking n false) (sym empty)

        abbrev pub end : Parts
        end = recorded E slot own p' child

        end_state : state end ≡ T
        end_state =
            state_after E tied_opened some slot own p' child e_slot e_own refl asks_is
            ∙ ap (λ z. steps.with_spawn d.program z child.number (open_of child)) (opened_state ∙ base_is)
            ∙ (λ i. steps.with_spawn d.program (stepped base) (number_is i) (child_is i))
            ∙ ap (λ x. stepped (cond x (with_stage base (opened s) b (Asking 0 false)) (steps.with_spawn d.program base (opened s) b)))
            (sym (le-ltb 0 (length b.cowns) (omega (arith, empty, ap (λ z. length z) cowns_are))))

        pub opens_recorded : Opens d.program s row (state end)
        opens_recorded = record { wish = wish; may = may_open; gives = end_state }

        sound_end : IsSound d.program (state end)
        sound_end = keeps_opens d.program s row (state end) k.sound opens_recorded

        pub may_put : (homes ready : ℕ) → HasRooms E homes ready → MayRecord E homes slot own
        may_put homes ready h = may_record E tied_opened some slot own p' child e_slot e_own refl asks_is homes ready h sound_end.run

        pub end_rooms : (homes ready : ℕ) → HasRooms E homes ready → HasRooms end homes ready
        end_rooms homes ready h = rooms_after E tied_opened some slot own p' child e_slot e_own refl asks_is homes ready h

        no_cowns : cs ≡ []
        no_cowns = nothing cs empty

        T_at : (who : ℕ) → who ≢ opened s → at T who ≡ at s who
        T_at who n =
            by_test (λ (x : State). at (stepped x) who ≡ at s who) (ltb 0 (length b.cowns)) (with_stage base (opened s) b (Asking 0 false))
            (steps.with_spawn d.program base (opened s) b)
            (λ h. get_or-set_other base.behaviours (opened s) who (Some b) None n ∙ read_front s.behaviours (Some b) who n)
            (λ h. get_or-set_other base.behaviours (opened s) who
            (Some (record b { stage = Recorded (steps.recorded d.program base) (steps.flagging b.cowns 0) })) None n
            ∙ read_front s.behaviours (Some b) who n)

        T_queue : (c : ℕ) → queue T c ≡ queue s c
        T_queue c = ap (λ qs. get_or qs c []) queues_T

        recorded_counted : AreCounted T end.live
        recorded_counted r x a h =
            elim (e_is E tied_opened some slot own p' child e_slot e_own refl asks_is r x a) [
              | inl u ↦
                  let last = with_row (length d.homes) child in
                  let one : Bool → ℕ = λ y. cond y 1 0 in
                  let e : one (enqueues_at last.stage) ≡ 1 = ap one (flagging_each (length d.homes) (λ z. enqueues_at z ≡ true) cs 0 (λ h. refl) (λ h. refl)) in
                  let none : failing (λ c. is_granted (at T) (queue T) child.number c) cs ≡ 0 =
                  ap (failing (λ c. is_granted (at T) (queue T) child.number c)) no_cowns in
                  let awaited : child.awaited ≡ awaits T last = new.awaited_is ∙ (omega (arith, e, none, empty)) in
                  ap (λ z. z.awaited) u.1 ∙ awaited ∙ ap (awaits T) (sym u.1)
              | inr v ↦ elim v [
                | inl u ↦ absurd (not_spawned (ap (λ z. enqueues_at z.stage || waits_at z.stage) (sym u.1) ∙ h))
                | inr u ↦ elim (cases r x u.2) [
                  | inl w ↦ absurd (u.0 w.0)
                  | inr w ↦ elim w [
                    | inl y ↦ absurd (u.1 y.0)
                    | inr y ↦ others_counted T x r T_at T_queue y.1 h
                  ]
                ]
              ]
            ]

        pub recorded_kept : IsKept end
        recorded_kept =
            kept_of end (tied_after E tied_opened some slot own p' child e_slot e_own refl asks_is) sound_end
            (subst (λ (z : State). AreCounted z end.live) (sym end_state) recorded_counted)

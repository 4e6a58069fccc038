-- A spawn is recorded.
use Rattle.std.proofs.Common.{◌≡◌, ◌≢◌, ℕ, zero, suc, ◌+◌, ◌^◌, ◌<◌, ◌⊎◌, inl, inr, true, false, cond, List, [], ◌∷◌, ◌++◌, length, set, refl, sym, ◌∙◌, ap}
use Rattle.std.proofs.Common.{subst, arith, length-set, length-append, rules}
use Rattle.std.specs.Prelude.{slice_get, Option, Some, None}
use Rattle.std.specs.Option.{option_map, option_map_or}
use Rattle.std.specs.List.{count_by}
use Rattle.std.proofs.lemmas.List.{set-get_or}
use Rattle.std.proofs.lemmas.List.Sums.{get_or-le-sum_by}
use Rattle.boc_program.specs.declared.program.Program.{Program}
use Rattle.boc_runs.specs.declared.stage.Stage.{Stage}
use Rattle.boc_runs.specs.declared.stage.Stage.TheVariants.{Asking, Recorded}
use Rattle.boc_program.specs.declared.body.Body.{Body}
use Rattle.boc_program.specs.Meaning.{Wish, meaning}
use Rattle.boc_program.specs.Offsets.{RisesFrom}
use Rattle.boc_program.proofs.Rising.{meaning_rises}
use Rattle.boc_program.proofs.Truth.{all_pass}
use Rattle.boc_runs.proofs.RunsAreLegal.{rises_through}
use Rattle.boc_runs.specs.Legal.{IsAllowed, entries}
use Rattle.boc_program.specs.Changed.{changed}
use Rattle.boc_runs.specs.Run.{Member, opening, next_wish, wish_at, waiting, IsRun}
use Rattle.boc_runs.specs.Serial as serial
use Rattle.boc_runs.specs.machine.Stages.{OpenBehaviour, settled_at, flagged_at, row_at, asks_at, enqueues_at, asks}
use Rattle.boc_runs.specs.machine.Queues.{times}
use Rattle.boc_runs.specs.machine.Steps.{at, members, unrecorded}
use Rattle.boc_runs.specs.machine.Steps.{recorded as recorded_rows}
use Rattle.boc_runs.specs.machine.Steps as steps
use Rattle.boc_program.proofs.ChangedItems.{last_item, front_item, length-changed, set_same, set_other, place_below, changed_there}
use Rattle.boc_machine_laws.proofs.Lists.{same_or_not, read_there}
use Rattle.boc_machine_laws.proofs.Asking.{take_whole}
use Rattle.boc_machine_laws.proofs.Rows.{after_spawn, config_more, with_one_more}
use Rattle.boc_machine_laws.proofs.Core.{put_sum}
use Rattle.boc_dispatch.specs.declared.live.Live.{Live}
use Rattle.boc_dispatch.specs.Inside.{HasRooms, live_at, open_of, place_of, exchanged_at, number_at, behaviours_of, rows_at, row_or_0, is_taken, Parts, state}
use Rattle.boc_dispatch.specs.Inside.{AreNumbered, AreAtHome, AreInHand, AreOfRun, IsMember, IsWished}
use Rattle.boc_dispatch.specs.Moves.{recorded, MayRecord}
use Rattle.boc_dispatch.specs.Places.{with_spawn, with_row, spawn_of}
use Rattle.boc_dispatch.proofs.Flagged.{flagging_each, place_with}
use Rattle.boc_dispatch.proofs.Fits.{allowed_last}
use Rattle.boc_dispatch.proofs.Granting.{Tied}
use Rattle.boc_dispatch.proofs.Onward.{Leads, Further, further, child_led, parent_led, requests_led, ready_led, wished_still}
use Rattle.boc_dispatch.proofs.Tables.{live_there, live_here, live_other, live_new, numbered_changed, behaviours_changed, number_changed, taken_changed}
use Rattle.boc_dispatch.proofs.Tables.{at_slot, queues_same, rows_alike}
use Rattle.boc_machine_laws.proofs.Fitting.{asks_enqueues_at}

-- who asks has no row
pub asks_no_row : (stage : Stage) (row : ℕ) → asks_at stage ≡ true → row_at stage ≡ Some row → ⊥
asks_no_row (Asking request exchanged) row a b = absurd (let f : None ≡ Some row = b in cc)
asks_no_row (Recorded r phase) row a b = absurd (let f : false ≡ true = a in cc)

-- a wish that is next is of a row that is there
pub wish_there : (p : Program) (o : Option Member) (w : Wish) → next_wish p o ≡ Some w → (m : Member) × (o ≡ Some m)
wish_there p None w e = absurd (let f : None ≡ Some w = e in cc)
wish_there p (Some m) w e = (m, refl)

-- a wish that is next is one of at most 1,000,000
wish_below : (low high : ℕ) (ws : List Wish) (j : ℕ) (w : Wish) → RisesFrom low ws high → slice_get ws j ≡ Some w → low + j < high
wish_below low high [] j w h e = absurd (let f : None ≡ Some w = e in cc)
wish_below low high (v ∷ ws) zero w h e = let q = rises_through v.offset high ws h.1 in omega (arith, h.0, q)
wish_below low high (v ∷ ws) (suc j) w h e = let q = wish_below v.offset high ws j w h.1 e in omega (arith, h.0, q)

wish_of : (p : Program) (m : Member) (o : Option Body) (w : Wish) → wish_at (option_map (λ body. meaning body m.behaviour.args m.inputs) o) m.spawned ≡ Some w
    → m.spawned < 1000000
wish_of p m None w e = absurd (let f : None ≡ Some w = e in cc)
wish_of p m (Some body) w e =
    let r = meaning_rises (λ kind es ps. true) body m.behaviour.args m.inputs (all_pass body.block) in
    let means = meaning body m.behaviour.args m.inputs in
    let q = wish_below 1 means.ticks means.wishes m.spawned w r.0 e in
    omega (arith, q, r.1)

wish_number : (p : Program) (m : Member) (w : Wish) → next_wish p (Some m) ≡ Some w → m.spawned < 1000000
wish_number p m w e = wish_of p m (slice_get p.bodies m.behaviour.kind) w e

module _ (d : Parts) (k : Tied d) (some : 0 < length (members d.program (state d))) (parent slot : ℕ) (p l : Live)
    (p_is : live_at d.live parent ≡ Some p) (l_is : live_at d.live slot ≡ Some l) (knows : p.child ≡ Some slot)
    (asks_is : l.stage ≡ Asking (length l.cowns.items) false) where
  abbrev cs : List ℕ
  cs = l.cowns.items

  abbrev rows : List Member
  rows = members d.program (state d)

  abbrev n : ℕ
  n = length d.homes

  abbrev e : Parts
  e = recorded d parent slot p l

  abbrev p' : Live
  p' = with_spawn p

  abbrev l' : Live
  l' = with_row n l

  abbrev half : List (Option Live)
  half = set d.live parent (Some p')

  asks_here : asks_at l.stage ≡ true
  asks_here = ap asks_at asks_is

  l_only : (x : Live) → live_at d.live slot ≡ Some x → x ≡ l
  l_only x is = let f : Some x ≡ Some l = sym is ∙ l_is in cc

  p_only : (x : Live) → live_at d.live parent ≡ Some x → x ≡ p
  p_only x is = let f : Some x ≡ Some p = sym is ∙ p_is in cc

  pub row_is : row_at p.stage ≡ Some l.parent
  row_is = let h = k.in_hand.children parent slot p p_is knows in h.parent_is ∙ ap (λ z. Some z.parent) (l_only h.child h.is)

  pub apart : slot ≢ parent
  apart f =
      let same : p ≡ l = l_only p (ap (live_at d.live) f ∙ p_is) in
      asks_no_row l.stage l.parent asks_here (ap (λ z. row_at z.stage) (sym same) ∙ row_is)

  half_slot : live_at half slot ≡ Some l
  half_slot = live_other d.live parent (Some p') slot apart ∙ l_is

  e_slot : live_at e.live slot ≡ Some l'
  e_slot = live_here half slot (Some l') (live_there half slot l half_slot)

  e_parent : live_at e.live parent ≡ Some p'
  e_parent = live_other half slot (Some l') parent (λ f. apart (sym f)) ∙ live_here d.live parent (Some p') (live_there d.live parent p p_is)

  e_other : (s : ℕ) → s ≢ slot → s ≢ parent → live_at e.live s ≡ live_at d.live s
  e_other s a b = live_other half slot (Some l') s a ∙ live_other d.live parent (Some p') s b

  -- who is in the new table
  abbrev pub Cases : ℕ → Live → Type 0
  Cases s x = ((s ≡ slot) × (x ≡ l')) ⊎ (((s ≡ parent) × (x ≡ p')) ⊎ ((s ≢ slot) × (s ≢ parent) × (live_at d.live s ≡ Some x)))

  pub e_is : (s : ℕ) (x : Live) → live_at e.live s ≡ Some x → Cases s x
  e_is s x a =
      elim (live_new half slot (Some l') s x a) [
        | inl u ↦ let f : Some l' ≡ Some x = u.1 in let g : x ≡ l' = cc in inl (u.0, g)
        | inr u ↦
            elim (live_new d.live parent (Some p') s x u.1) [
              | inl v ↦ let f : Some p' ≡ Some x = v.1 in let g : x ≡ p' = cc in inr (inl (v.0, g))
              | inr v ↦ inr (inr (u.0, v.0, v.1))
            ]
      ]

  -- two with one row are one
  home_of : (s : ℕ) (x : Live) → live_at d.live s ≡ Some x → row_at x.stage ≡ Some l.parent → s ≡ parent
  home_of s x a b =
      let f : Some s ≡ Some parent = sym (k.at_home s l.parent x a b) ∙ k.at_home parent l.parent p p_is row_is in cc

  -- ---- the rows of the run

  abbrev wished : IsWished d.program rows l
  wished = k.of_run.asking slot l l_is asks_here

  abbrev rows' : List Member
  rows' = members d.program (state e)

  abbrev newest : Member
  newest = waiting (serial.behaviour_of wished.wish)

  abbrev front : List Member
  front = changed rows l.parent with_one_more (slice_get rows l.parent)

  rows_are : rows' ≡ front ++ (newest ∷ [])
  rows_are = ap (λ c. c.members) (config_more d.program (opening d.program) d.log.events (spawn_of n l))
      ∙ after_spawn d.program rows l.parent wished.wish some wished.next

  front_length : length front ≡ length rows
  front_length = length-changed rows l.parent with_one_more (slice_get rows l.parent)

  rows_length : length rows' ≡ length rows + 1
  rows_length = let a = ap (λ z. length z) rows_are in let b = length-append front (newest ∷ []) in omega (arith, a, b, front_length)

  row_old : (r : ℕ) (m : Member) → r ≢ l.parent → slice_get rows r ≡ Some m → slice_get rows' r ≡ Some m
  row_old r m other is =
      let there = place_below rows r m is in
      let w = wish_there d.program (slice_get rows l.parent) wished.wish wished.next in
      ap (λ z. slice_get z r) rows_are ∙ front_item front newest r (omega (arith, there, front_length))
      ∙ ap (λ z. slice_get z r) (changed_there rows l.parent with_one_more w.0 w.1) ∙ set_other rows l.parent r (with_one_more w.0) other ∙ is

  row_parent : (m : Member) → slice_get rows l.parent ≡ Some m → slice_get rows' l.parent ≡ Some (with_one_more m)
  row_parent m is =
      let there = place_below rows l.parent m is in
      ap (λ z. slice_get z l.parent) rows_are ∙ front_item front newest l.parent (omega (arith, there, front_length))
      ∙ ap (λ z. slice_get z l.parent) (changed_there rows l.parent with_one_more m is) ∙ set_same rows l.parent (with_one_more m) there

  row_new : slice_get rows' n ≡ Some newest
  row_new =
      ap (λ z. slice_get z n) rows_are
      ∙ ap (λ z. slice_get (front ++ (newest ∷ [])) z) (let h = k.homes_are in let f : n ≡ length front = omega (arith, h, front_length) in f)
      ∙ last_item front newest

  -- ---- the parts of what is kept

  numbered_half : AreNumbered half d.opened
  numbered_half = numbered_changed d.live d.opened parent p p' k.numbered p_is refl

  numbered_after : AreNumbered e.live d.opened
  numbered_after = numbered_changed half d.opened slot l l' numbered_half half_slot refl

  home_old : (s row : ℕ) → slice_get d.homes row ≡ Some s → slice_get e.homes row ≡ Some s
  home_old s row is = front_item d.homes slot row (place_below d.homes row s is) ∙ is

  at_home_after : AreAtHome e.live e.homes
  at_home_after s row x a b =
      elim (e_is s x a) [
        | inl u ↦
            let f : Some n ≡ Some row = sym (ap (λ z. row_at z.stage) u.1) ∙ b in
            let same : row ≡ n = cc in
            ap (λ z. slice_get e.homes z) same ∙ last_item d.homes slot ∙ ap (λ (z : ℕ). Some z) (sym u.0)
        | inr v ↦ elim v [
          | inl u ↦ home_old s row (k.at_home parent row p p_is (ap (λ z. row_at z.stage) (sym u.1) ∙ b) ∙ ap (λ (z : ℕ). Some z) (sym u.0))
          | inr u ↦ home_old s row (k.at_home s row x u.2 b)
        ]
      ]

  enqueues_after : enqueues_at l'.stage ≡ true
  enqueues_after = flagging_each n (λ z. enqueues_at z ≡ true) cs 0 (λ h. refl) (λ h. refl)

  flagged_none : flagged_at l'.stage cs ≡ []
  flagged_none = flagging_each n (λ z. flagged_at z cs ≡ []) cs 0 (λ h. refl) (λ h. sym (take_whole cs 0 h))

  settled_all : settled_at l.stage cs ≡ cs
  settled_all = ap (λ z. settled_at z cs) asks_is ∙ take_whole cs (length cs) (omega arith)

  -- the two go on as who they were
  led : Leads Further d.live e.live
  led s x is =
      elim (same_or_not s slot) [
        | inl f ↦ subst (λ (z : Live). (y : Live) × (live_at e.live s ≡ Some y) × Further z y) (sym (l_only x (ap (live_at d.live) (sym f) ∙ is))) (
          l',
          ap (live_at e.live) f ∙ e_slot,
          record {
            parent = refl;
            row = λ r h. absurd (asks_no_row l.stage r asks_here h);
            enqueues = λ h. enqueues_after;
            child = λ r h. h;
            marks = λ c. (ap (times c) (sym settled_all), ap (times c) (flagged_none ∙ sym (ap (λ z. flagged_at z cs) asks_is)));
            ready = λ r h. absurd (asks_no_row l.stage r asks_here (ap row_at h));
          },
        )
        | inr a ↦
            elim (same_or_not s parent) [
              | inl f ↦ subst (λ (z : Live). (y : Live) × (live_at e.live s ≡ Some y) × Further z y) (sym (p_only x (ap (live_at d.live) (sym f) ∙ is))) (
                p',
                ap (live_at e.live) f ∙ e_parent,
                search rules,
              )
              | inr b ↦ (x, e_other s a b ∙ is, further x)
            ]
      ]

  in_hand_after : AreInHand e.live
  in_hand_after = record {
    children = λ home s x a has. elim (e_is home x a) [
      | inl u ↦
          let h = k.in_hand.children slot s l l_is (ap (λ z. z.child) (sym u.1) ∙ has) in
          absurd (asks_no_row l.stage h.child.parent asks_here h.parent_is)
      | inr v ↦ elim v [
        | inl u ↦
            let h = child_led d.live e.live led s p (k.in_hand.children parent s p p_is (ap (λ z. z.child) (sym u.1) ∙ has)) in
            record { child = h.child; is = h.is; enqueued = h.enqueued; parent_is = ap (λ z. row_at z.stage) u.1 ∙ h.parent_is }
        | inr u ↦ child_led d.live e.live led s x (k.in_hand.children home s x u.2 has)
      ]
    ];
    parents = λ s x a enqueued. elim (e_is s x a) [
      | inl u ↦ record {
        home = parent;
        parent = p';
        is = e_parent;
        row_is = row_is ∙ ap (λ z. Some z.parent) (sym u.1);
        knows = knows ∙ ap (λ (z : ℕ). Some z) (sym u.0);
      }
      | inr v ↦ elim v [
        | inl u ↦
            let h = parent_led d.live e.live led parent p (k.in_hand.parents parent p p_is (ap (λ z. enqueues_at z.stage) (sym u.1) ∙ enqueued)) in
            record {
              home = h.home;
              parent = h.parent;
              is = h.is;
              row_is = h.row_is ∙ ap (λ z. Some z.parent) (sym u.1);
              knows = h.knows ∙ ap (λ (z : ℕ). Some z) (sym u.0);
            }
        | inr u ↦ parent_led d.live e.live led s x (k.in_hand.parents s x u.2 enqueued)
      ]
    ];
  }

  places_after : (s : ℕ) → option_map place_of (live_at d.live s) ≡ option_map place_of (live_at e.live s)
  places_after s =
      elim (same_or_not s slot) [
        | inl f ↦
            ap (option_map place_of) (ap (live_at d.live) f ∙ l_is) ∙ ap (λ z. Some (place_with cs (exchanged_at z cs))) asks_is
            ∙ sym (ap (option_map place_of) (ap (live_at e.live) f ∙ e_slot))
        | inr a ↦
            elim (same_or_not s parent) [
              | inl f ↦ ap (option_map place_of) (ap (live_at d.live) f ∙ p_is) ∙ sym (ap (option_map place_of) (ap (live_at e.live) f ∙ e_parent))
              | inr b ↦ sym (ap (option_map place_of) (e_other s a b))
            ]
      ]

  of_run_after : AreOfRun d.program rows' e.live
  of_run_after = record {
    recorded = λ s row x a b. elim (e_is s x a) [
      | inl u ↦
          let f : Some n ≡ Some row = sym (ap (λ z. row_at z.stage) u.1) ∙ b in
          let same : row ≡ n = cc in
          subst (λ (z : Live). IsMember rows' z row) (sym u.1) (record {
            member = newest;
            is = ap (λ z. slice_get rows' z) same ∙ row_new;
            behaviour_is = λ i. record { kind = wished.kind_is i; args = wished.args_are i; cowns = wished.cowns_are i };
            spawned_is = sym wished.new;
          })
      | inr v ↦ elim v [
        | inl u ↦
            let here = ap (λ z. row_at z.stage) (sym u.1) ∙ b in
            let f : Some row ≡ Some l.parent = sym here ∙ row_is in
            let same : row ≡ l.parent = cc in
            let h = k.of_run.recorded parent row p p_is here in
            subst (λ (z : Live). IsMember rows' z row) (sym u.1) (record {
              member = with_one_more h.member;
              is = ap (λ z. slice_get rows' z) same ∙ row_parent h.member (ap (λ z. slice_get rows z) (sym same) ∙ h.is);
              behaviour_is = h.behaviour_is;
              spawned_is = ap (λ z. z + 1) h.spawned_is;
            })
        | inr u ↦
            let h = k.of_run.recorded s row x u.2 b in
            let other : row ≢ l.parent = (λ f. u.1 (home_of s x u.2 (b ∙ ap (λ (z : ℕ). Some z) f))) in
            record { member = h.member; is = row_old row h.member other h.is; behaviour_is = h.behaviour_is; spawned_is = h.spawned_is }
      ]
    ];
    asking = λ s x a b. elim (e_is s x a) [
      | inl u ↦ absurd (let f : false ≡ true = sym (ap (λ z. asks_at z.stage) u.1) ∙ b in cc)
      | inr v ↦ elim v [
        | inl u ↦ absurd (asks_no_row p.stage l.parent (ap (λ z. asks_at z.stage) (sym u.1) ∙ b) row_is)
        | inr u ↦
            let h = k.of_run.asking s x u.2 b in
            let m = wish_there d.program (slice_get rows x.parent) h.wish h.next in
            let other : x.parent ≢ l.parent = (λ f.
            let q = k.in_hand.parents s x u.2 (asks_enqueues_at x.stage b) in
            let home = home_of q.home q.parent q.is (q.row_is ∙ ap (λ (z : ℕ). Some z) f) in
            let this = p_only q.parent (ap (live_at d.live) (sym home) ∙ q.is) in
            let g : Some s ≡ Some slot = sym q.knows ∙ ap (λ z. z.child) this ∙ knows in
            u.0 (cc)) in
            wished_still d.program rows rows' x (ap (next_wish d.program) (row_old x.parent m.0 other m.1 ∙ sym m.1)) h
      ]
    ];
  }

  -- who is ready is the parent, or neither of the two
  who_is_ready : (j s : ℕ) (a : slice_get d.ready j ≡ Some s) → ((s ≡ parent) × ((k.ready_there j s a).0 ≡ p)) ⊎ ((s ≢ slot) × (s ≢ parent))
  who_is_ready j s a =
      let q = k.ready_there j s a in
      elim (same_or_not s slot) [
        | inl f ↦
            let this = l_only q.0 (ap (live_at d.live) (sym f) ∙ q.2) in
            absurd (asks_no_row l.stage q.1 asks_here (ap (λ z. row_at z.stage) (sym this) ∙ ap row_at q.3))
        | inr u ↦
            elim (same_or_not s parent) [
              | inl f ↦ inl (f, p_only q.0 (ap (live_at d.live) (sym f) ∙ q.2))
              | inr v ↦ inr (u, v)
            ]
      ]

  taken_after : count_by is_taken e.live ≡ count_by is_taken d.live
  taken_after = taken_changed half d.opened slot l l' numbered_half half_slot refl ∙ taken_changed d.live d.opened parent p p' k.numbered p_is refl

  pub tied_after : Tied e
  tied_after = record {
    cowns_are = k.cowns_are;
    values_are = k.values_are ∙ sym (ap (λ c. c.values) (config_more d.program (opening d.program) d.log.events (spawn_of n l)));
    homes_are = let a = length-append d.homes (slot ∷ []) in let h = k.homes_are in omega (arith, a, h, rows_length);
    numbered = numbered_after;
    at_home = at_home_after;
    in_hand = in_hand_after;
    chained = record { requests = requests_led d.live e.live led d.lists d.place k.chained; places = λ s. k.chained.places s ∙ places_after s };
    of_run = of_run_after;
    ready_there = ready_led d.live e.live led d.ready k.ready_there;
    left = ap (λ z. z + d.gone) taken_after ∙ k.left;
  }

  -- ---- the state

  half_behaviours : behaviours_of half d.opened ≡ behaviours_of d.live d.opened
  half_behaviours =
      behaviours_changed d.live d.opened parent p p' k.numbered p_is refl
      ∙ ap (set (behaviours_of d.live d.opened) p.number) (sym (at_slot d.live d.opened parent p k.numbered p_is))
      ∙ set-get_or (behaviours_of d.live d.opened) p.number None

  numbers_after : (s : ℕ) → number_at e.live s ≡ number_at d.live s
  numbers_after s = number_changed half d.opened slot l l' numbered_half half_slot refl s ∙ number_changed d.live d.opened parent p p' k.numbered p_is refl s

  abbrev row_in : Option Live → ℕ
  row_in o = option_map_or (λ z. row_or_0 z.stage) o 0

  row_stays : (j s : ℕ) → slice_get d.ready j ≡ Some s → row_in (live_at e.live s) ≡ row_in (live_at d.live s)
  row_stays j s a =
      elim (who_is_ready j s a) [
        | inl f ↦ ap row_in (ap (live_at e.live) f.0 ∙ e_parent) ∙ sym (ap row_in (ap (live_at d.live) f.0 ∙ p_is))
        | inr n ↦ ap row_in (e_other s n.0 n.1)
      ]

  rows_after : rows_at e.live d.ready ≡ rows_at d.live d.ready
  rows_after = rows_alike d.live e.live d.ready row_stays

  pub state_after : state e ≡ steps.with_spawn d.program (state d) l.number (open_of l)
  state_after = λ i. record {
    log = d.log.events ++ (spawn_of (k.homes_are i) l ∷ []);
    behaviours = (behaviours_changed half d.opened slot l l' numbered_half half_slot refl
        ∙ ap (λ bs. set bs l.number (Some (open_of l'))) half_behaviours
        ∙ ap (λ (m : ℕ). set (behaviours_of d.live d.opened) l.number (Some (open_of (with_row m l)))) k.homes_are) i;
    queues = queues_same d.live e.live d.lists (λ c j r a. numbers_after r.slot) i;
    ready = rows_after i;
    steps = d.steps;
  }

  -- ---- what the code asks for, where the log with the spawn is a run

  some_unrecorded : 0 < unrecorded (state d)
  some_unrecorded =
      let is : at (state d) l.number ≡ Some (open_of l) = at_slot d.live d.opened slot l k.numbered l_is in
      let one : Option OpenBehaviour → ℕ = λ o. cond (asks o) 1 0 in
      let f : one (at (state d) l.number) ≡ 1 = ap one is ∙ ap (λ z. cond z 1 0) asks_here in
      omega (arith, f, get_or-le-sum_by one (behaviours_of d.live d.opened) l.number None (read_there (behaviours_of d.live d.opened) l.number (open_of l) is))

  few_spawned : p.spawned + 1 < 2 ^ 32
  few_spawned =
      let h = k.of_run.recorded parent l.parent p p_is row_is in
      let w = wish_number d.program h.member wished.wish (ap (next_wish d.program) (sym h.is) ∙ wished.next) in
      omega (arith, w, h.spawned_is)

  pub may_record : (homes ready : ℕ) → HasRooms d homes ready → IsRun d.program (d.log.events ++ (spawn_of n l ∷ [])) → MayRecord d homes parent slot
  may_record homes ready rooms run =
      let allowed : IsAllowed d.log.cowns (entries d.log.events) (spawn_of n l) =
      subst (λ (c : ℕ). IsAllowed c (entries d.log.events) (spawn_of n l)) (sym k.cowns_are) (allowed_last d.program d.log.events (spawn_of n l) run) in
      record {
        recorder = p;
        this = l;
        recorder_is = p_is;
        this_is = l_is;
        apart = apart;
        few = few_spawned;
        row_fits = allowed.bounds.0;
        allowed = allowed;
        room = omega (arith, some_unrecorded, rooms.rooms);
        home = omega (arith, some_unrecorded, rooms.homes);
      }

  unrecorded_after : unrecorded (state e) + 1 ≡ unrecorded (state d)
  unrecorded_after =
      let is : at (state d) l.number ≡ Some (open_of l) = at_slot d.live d.opened slot l k.numbered l_is in
      let one : Option OpenBehaviour → ℕ = λ o. cond (asks o) 1 0 in
      let new = with_row (recorded_rows d.program (state d)) l in
      let f : one (Some (open_of l)) ≡ 1 = ap (λ z. cond z 1 0) asks_here in
      omega (arith, ap unrecorded state_after, put_sum one (state d) l.number (open_of l) (Some (open_of new)) is, f)

  pub rooms_after : (homes ready : ℕ) → HasRooms d homes ready → HasRooms e homes ready
  rooms_after homes ready h =
      let u = unrecorded_after in
      let a = length-append d.homes (slot ∷ []) in
      let b = length-set half slot (Some l') in
      let c = length-set d.live parent (Some p') in
      record {
        rooms = omega (arith, u, h.rooms);
        homes = omega (arith, u, a, h.homes);
        ready = omega (arith, b, c, h.ready);
        few = omega (arith, b, c, h.few);
      }

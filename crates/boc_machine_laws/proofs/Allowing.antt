-- Why a step is allowed where not all is over, unless there is no room for the next wish of a row.
use Rattle.std.proofs.Common.{◌≡◌, ℕ, zero, suc, ◌+◌, ◌<◌, ◌≤◌, ◌⊎◌, inl, inr, Bool, true, false, List, [], ◌∷◌, ◌++◌, length, refl, sym, ◌∙◌, ap, subst, arith}
use Rattle.std.proofs.Common.{append_assoc, length-append}
use Rattle.std.specs.Prelude.{slice_get, Some, None}
use Rattle.std.proofs.lemmas.Bool.{cases_lt}
use Rattle.boc_program.specs.declared.limits.TheConstants.{MOST_ROWS}
use Rattle.boc_program.specs.declared.program.Program.{Program}
use Rattle.boc_runs.specs.declared.event.Event.TheVariants as events
use Rattle.boc_runs.specs.declared.stage.Phase.TheVariants.{Flagging, Owning, Waiting, Ready, Running, Leaving}
use Rattle.boc_runs.specs.declared.stage.Stage.{Stage}
use Rattle.boc_runs.specs.declared.stage.Stage.TheVariants.{Asking, Recorded}
use Rattle.boc_runs.specs.declared.step.Step.TheVariants as steps
use Rattle.boc_program.specs.Meaning.{Meaning}
use Rattle.boc_runs.specs.Lives.{Pending, Running as RunningLife, Ended}
use Rattle.boc_runs.specs.Run.{Member, meaning_of, next_wish, wish_at}
use Rattle.boc_runs.specs.machine.Stages.{OpenBehaviour, row_of, row_at, life, life_at, flagged, enqueues, enqueues_at}
use Rattle.boc_runs.specs.machine.Queues.{times}
use Rattle.boc_runs.specs.machine.Steps.{State, at, queue, members, recorded, unrecorded, opened, stepped, noted, with_new, asking_on, leaving_on, child}
use Rattle.boc_runs.specs.machine.Steps.{IsQuiet, IsDue, IsBlockedAsking}
use Rattle.boc_runs.specs.machine.Sound.{IsSound, HasNextRequest}
use Rattle.boc_runs.specs.machine.Movers.{works, works_at, NobodyWorks, CanAdvance, CanGoOn, SomebodyCanStep, Enqueue, Body, Release, First}
use Rattle.boc_machine_laws.specs.Allowed.{AllowsStep, IsFull}
use Rattle.boc_machine_laws.proofs.Lists.{same_or_not, found, last_of, end_injective, read_there}
use Rattle.boc_machine_laws.proofs.Rows.{some_or_none, with_life}
use Rattle.boc_machine_laws.proofs.Members.{all_fit, means_there}
use Rattle.boc_machine_laws.proofs.OneTurn.{advance_makes, leave_makes, blocked_asking}
use Rattle.boc_machine_laws.proofs.Moving.{AsksAt, item_there, one_place, gone_or_open, can_swap, can_settle, can_flag, can_own, can_leave, can_start}
use Rattle.boc_machine_laws.proofs.Moving.{stands_once}
use Rattle.boc_machine_laws.proofs.Moving.{asks_inside, none_open, runs_there, quiet_unless_ready}

-- ---- one of so many numbers is so, or none is

either_below : (IsSo : ℕ → Type 0) → ((k : ℕ) → IsSo k ⊎ (IsSo k → ⊥)) → (n : ℕ) → ((k : ℕ) × IsSo k) ⊎ ((k : ℕ) → k < n → IsSo k → ⊥)
either_below IsSo decide zero = inr (λ k below is. omega arith)
either_below IsSo decide (suc n) =
    elim (either_below IsSo decide n) [
      | inl some ↦ inl some
      | inr none ↦ elim (decide n) [
        | inl is ↦ inl (n, is)
        | inr not ↦ inr (λ k below is. elim (same_or_not k n) [
          | inl e ↦ not (subst IsSo e is)
          | inr other ↦ none k (omega (arith, below, other)) is
        ])
      ]
    ]

true_or_not : (b : Bool) → (b ≡ true) ⊎ (b ≡ true → ⊥)
true_or_not true = inl refl
true_or_not false = inr (λ h. let f : false ≡ true = h in cc)

some_or_zero : (n : ℕ) → (0 < n) ⊎ (n ≡ 0)
some_or_zero zero = inr refl
some_or_zero (suc n) = inl (omega arith)

-- one that runs is at that stage
pub running_stage : (st : Stage) (row : ℕ) → row_at st ≡ Some row → life_at st ≡ RunningLife → st ≡ Recorded row Running
running_stage (Recorded own Running) row e runs =
    let h : Some own ≡ Some row = e in let same : own ≡ row = cc in ap (λ r. Recorded r Running) same
running_stage (Recorded own (Leaving i)) row e runs = absurd (let h : Ended ≡ RunningLife = runs in cc)
running_stage _ row e runs = absurd (let h : Pending ≡ RunningLife = runs in cc)

module _ (p : Program) (s : State) (k : IsSound p s) where
  below_opened : (who : ℕ) (b : OpenBehaviour) → at s who ≡ Some b → who < length s.behaviours
  below_opened who b is = read_there s.behaviours who b is

  -- ---- the open enqueues

  -- a request that is exchanged can be settled, or is blocked
  settle_or_not : (who i : ℕ) (b : OpenBehaviour) → at s who ≡ Some b → b.stage ≡ Asking i true
      → CanAdvance p s who b.parent ⊎ IsBlockedAsking s who
  settle_or_not who i b is st =
      let it = item_there b.cowns i (subst (λ (z : Stage). HasNextRequest z b.cowns) st (k.requests who b is)) in
      let c = it.0 in
      let due : IsDue s who b (Asking i true) i c = record { is = is; stage_is = st; cown = it.1 } in
      let asks : AsksAt s who c = record { this = b; request = i; due = due } in
      let place = found who (queue s c) (asks_inside p s k who c asks) in
      let one : times who (place.0 ++ (who ∷ place.1)) ≤ 1 = subst (λ (ws : List ℕ). times who ws ≤ 1) place.2 (stands_once p s k who c) in
      let same : (ahead behind : List ℕ) (before : ℕ) → queue s c ≡ ahead ++ (before ∷ (who ∷ behind)) → place.0 ≡ ahead ++ (before ∷ []) =
      λ ahead behind before f. one_place who place.0 (ahead ++ (before ∷ [])) place.1 behind
      (sym place.2 ∙ f ∙ sym (append_assoc ahead (before ∷ []) (who ∷ behind))) one in
      elim (last_of place.0) [
        | inl none ↦ inl (can_settle p s k who i c b due (λ ahead behind before f.
            absurd (omega (arith, ap length (sym none ∙ same ahead behind before f), length-append ahead (before ∷ [])))))
        | inr last ↦ elim (some_or_zero (times c (flagged (at s last.1)))) [
          | inl flags ↦ inl (can_settle p s k who i c b due (λ ahead behind before f.
              let own = end_injective last.0 ahead last.1 before (sym last.2 ∙ same ahead behind before f) in
              subst (λ (w : ℕ). 0 < times c (flagged (at s w))) own.1 flags))
          | inr unflagged ↦ inr (record {
            this = b;
            request = i;
            c = c;
            due = due;
            ahead = last.0;
            before = last.1;
            behind = place.1;
            stands = place.2 ∙ ap (λ zs. zs ++ (who ∷ place.1)) last.2 ∙ append_assoc last.0 (last.1 ∷ []) (who ∷ place.1);
            unflagged = unflagged;
          })
        ]
      ]

  -- the behaviour of a number has a step of its enqueue, or it hasn't
  abbrev Advances : ℕ → Type 0
  Advances who = (row : ℕ) × CanAdvance p s who row

  no_enqueue : (who : ℕ) → enqueues (at s who) ≡ false → Advances who → ⊥
  no_enqueue who none can = let f : false ≡ true = sym none ∙ can.1.enqueue.is_open in cc

  advance_at_stage : (who : ℕ) (b : OpenBehaviour) (st : Stage) → at s who ≡ Some b → b.stage ≡ st → Advances who ⊎ (Advances who → ⊥)
  advance_at_stage who b (Asking i false) is st = inl (b.parent, can_swap p s k who i b is st)
  advance_at_stage who b (Asking i true) is st =
      elim (settle_or_not who i b is st) [
        | inl can ↦ inl (b.parent, can)
        | inr blocked ↦ inr (λ can. blocked_asking p s who can.1.step can.1.after can.1.advances blocked)
      ]
  advance_at_stage who b (Recorded row (Flagging i)) is st = inl (b.parent, can_flag p s k who row i b is st)
  advance_at_stage who b (Recorded row Owning) is st = inl (b.parent, can_own p s k who row b is st)
  advance_at_stage who b _ is st = inr (no_enqueue who (ap enqueues is ∙ ap enqueues_at st))

  advance_or_not : (who : ℕ) → Advances who ⊎ (Advances who → ⊥)
  advance_or_not who =
      elim (gone_or_open (at s who)) [
        | inl gone ↦ inr (no_enqueue who (ap enqueues gone))
        | inr b ↦ advance_at_stage who b.0 b.0.stage b.1 refl
      ]

  -- ---- where no enqueue is open

  module _ (none : (w : ℕ) → enqueues (at s w) ≡ false) (busy : IsQuiet s → ⊥) where
    -- one that works can step
    works_on : (who : ℕ) (b : OpenBehaviour) (st : Stage) → at s who ≡ Some b → b.stage ≡ st → works_at st ≡ true → SomebodyCanStep p s
    works_on who b (Recorded row Waiting) is st h = absurd (let f : false ≡ true = h in cc)
    works_on who b (Recorded row Ready) is st h = absurd (let f : false ≡ true = h in cc)
    works_on who b (Recorded row Running) is st h = Body row (record {
      runs = runs_there p s k who row b is st;
      none_open = λ w asks own. let f : true ≡ false = sym asks ∙ none w in cc;
    })
    works_on who b (Recorded row (Leaving i)) is st h = Release row (can_leave p s k who row i b none is st)
    works_on who b _ is st h = absurd (let f : true ≡ false = sym (ap enqueues is ∙ ap enqueues_at st) ∙ none who in cc)

    first_starts : NobodyWorks s → (rows : List ℕ) → s.ready ≡ rows → SomebodyCanStep p s
    first_starts idle [] e = absurd (busy (quiet_unless_ready p s k idle e))
    first_starts idle (row ∷ rest) e = First row (can_start p s k idle row rest e)

    not_working : (b : Bool) → (b ≡ true → ⊥) → b ≡ false
    not_working true not = absurd (not refl)
    not_working false not = refl

    on_without : SomebodyCanStep p s
    on_without =
        elim (either_below (λ who. works (at s who) ≡ true) (λ who. true_or_not (works (at s who))) (length s.behaviours)) [
          | inl one ↦ elim (gone_or_open (at s one.0)) [
            | inl gone ↦ absurd (let f : false ≡ true = sym (ap works gone) ∙ one.1 in cc)
            | inr b ↦ works_on one.0 b.0 b.0.stage b.1 refl (sym (ap works b.1) ∙ one.1)
          ]
          | inr idle ↦ first_starts
              (λ who. elim (gone_or_open (at s who)) [
                | inl gone ↦ ap works gone
                | inr b ↦ not_working (works (at s who)) (idle who (below_opened who b.0 b.1))
              ])
              s.ready refl
        ]

  -- where not all is over, somebody can step
  somebody : (IsQuiet s → ⊥) → SomebodyCanStep p s
  somebody busy =
      elim (either_below Advances advance_or_not (length s.behaviours)) [
        | inl can ↦ Enqueue can.0 can.1.0 can.1.1
        | inr none ↦ on_without
            (none_open p s k (λ who row can. elim (gone_or_open (at s who)) [
              | inl gone ↦ no_enqueue who (ap enqueues gone) (row, can)
              | inr b ↦ none who (below_opened who b.0 b.1) (row, can)
            ]))
            busy
      ]

  -- ---- who can step has a step, or there is no room

  -- a row whose wishes are all spawned ends
  ends : (row : ℕ) (m : Member) (means : Meaning) → CanGoOn p s row → slice_get (members p s) row ≡ Some m → m.life ≡ RunningLife
      → meaning_of p m ≡ Some means → m.spawned ≡ length means.wishes → AllowsStep p s
  ends row m means can is runs meant all =
      let open_row = k.fits.open_rows row m is (λ e. let f : RunningLife ≡ Ended = sym runs ∙ e in cc) in
      let who = open_row.0 in
      let has = k.fits.has_row who row open_row.1 in
      let same : has.member ≡ m = (let f : Some has.member ≡ Some m = sym has.is ∙ is in cc) in
      elim (gone_or_open (at s who)) [
        | inl gone ↦ absurd (let f : None ≡ Some row = sym (ap row_of gone) ∙ open_row.1 in cc)
        | inr b ↦
            let lives : life_at b.0.stage ≡ RunningLife = sym (ap life b.1) ∙ sym has.life_is ∙ ap (λ (x : Member). x.life) same ∙ runs in
            record {
              step = steps.Finish;
              after = stepped (leaving_on (noted s (events.End row means.ticks means.status (record { items = means.written }))) who b.0 row 0);
              makes = (
                who,
                row,
                record {
                  this = b.0;
                  ticks = means.ticks;
                  status = means.status;
                  written = means.written;
                  is = b.1;
                  stage_is = running_stage b.0.stage row (sym (ap row_of b.1) ∙ open_row.1) lives;
                  none_open = can.none_open;
                  may = record {
                    member = m;
                    is = is;
                    runs = runs;
                    means = means;
                    meant = meant;
                    all_spawned = all;
                    ticks_are = refl;
                    status_is = refl;
                    written_is = refl;
                  };
                  gives = refl;
                },
              );
            }
      ]

  -- a row that can go on opens its next wish or ends, or there is no room
  goes_on : (row : ℕ) → CanGoOn p s row → AllowsStep p s ⊎ IsFull p s
  goes_on row can =
      let m = with_life (members p s) row RunningLife can.runs in
      let fits = all_fit p s.log k.run row m.0 m.1 in
      let means = means_there p m.0 fits in
      let spent = fits.spent means.0 means.1 in
      elim (some_or_none means.0.wishes m.0.spawned) [
        | inl past ↦ inl (ends row m.0 means.0 can m.1 m.2 means.1 (omega (arith, past, spent)))
        | inr wish ↦
            let next : next_wish p (slice_get (members p s) row) ≡ Some wish.0 =
            ap (next_wish p) m.1 ∙ ap (λ o. wish_at o m.0.spawned) means.1 ∙ wish.1 in
            elim (cases_lt (recorded p s + unrecorded s) MOST_ROWS) [
              | inl room ↦ inl (record {
                step = steps.Open;
                after = stepped (asking_on p (with_new s (child row wish.0)) (opened s) (child row wish.0) 0);
                makes = (
                  row,
                  record {
                    wish = wish.0;
                    may = record { runs = can.runs; none_open = can.none_open; next = next; room = room };
                    gives = refl;
                  },
                );
              })
              | inr many ↦ inr (record {
                row = row;
                runs = can.runs;
                none_open = can.none_open;
                wish = wish.0;
                next = next;
                full = omega (arith, many, k.counted, k.few);
              })
            ]
      ]

  has_step : SomebodyCanStep p s → AllowsStep p s ⊎ IsFull p s
  has_step (Enqueue who row can) =
      inl (record { step = can.step; after = can.after; makes = advance_makes p s who can.step can.after can.advances })
  has_step (Body row can) = goes_on row can
  has_step (Release row can) =
      inl (record { step = can.step; after = can.after; makes = leave_makes p s can.who row can.step can.after can.leaves })
  has_step (First row can) = inl (record { step = steps.Start; after = can.after; makes = (can.who, row, can.starts) })

  pub some_step : (IsQuiet s → ⊥) → AllowsStep p s ⊎ IsFull p s
  some_step busy = has_step (somebody busy)

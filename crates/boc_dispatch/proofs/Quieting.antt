-- A drive that goes on until it is quiet.
use Rattle.std.proofs.Common.{◌≡◌, ◌≢◌, ℕ, zero, suc, ◌+◌, ◌*◌, ◌-◌, ◌<◌, inl, inr, true, false, List, [], ◌∷◌, ◌++◌, length, take, get_or, refl, sym, ◌∙◌, ap}
use Rattle.std.proofs.Common.{subst, arith, length-append}
use Rattle.std.specs.Prelude.{slice_get, slice_set, Option, Some, None, Err, MatchOption}
use Rattle.std.proofs.Math.Seq.{take-length}
use Rattle.std.proofs.lemmas.List.{append-nil, append_assoc, take-append-le}
use Rattle.std.proofs.lemmas.Option.{slice_get-map}
use Rattle.boc_program.specs.declared.limits.TheConstants.{MOST_ROWS}
use Rattle.boc_program.specs.declared.program.Program.{Program}
use Rattle.boc_runs.specs.declared.stage.Phase.TheVariants as phases
use Rattle.boc_runs.specs.declared.stage.Stage.{Stage}
use Rattle.boc_runs.specs.declared.stage.Stage.TheVariants.{Recorded}
use Rattle.boc_runs.specs.Lives.{Pending, Running, Ended}
use Rattle.boc_runs.specs.Run.{Member, state_of}
use Rattle.boc_runs.specs.machine.Stages.{OpenBehaviour, row_of, life, life_at}
use Rattle.boc_runs.specs.machine.Steps.{State, at, members}
use Rattle.boc_runs.specs.machine.Sound.{IsSound}
use Rattle.boc_runs.specs.machine.Turns.{TakesTurn, Driven, Turn, Turns, opening_driven}
use Rattle.boc_runs.specs.machine.Movers.{works, works_at, NobodyWorks}
use Rattle.std.proofs.lemmas.Option.{slice_get_read}
use Rattle.boc_program.proofs.ChangedItems.{place_below, item_at, front_item}
use Rattle.boc_machine_laws.proofs.Bounds.{few_steps}
use Rattle.boc_machine_laws.proofs.OneTurn.{enqueue_running, leaving_row, who_leaves}
use Rattle.boc_machine_laws.proofs.Rows.{with_life}
use Rattle.boc_machine_laws.proofs.Serving.{IsActive, each_is_served, start_steps, body_steps, enqueue_steps, release_steps}
use Rattle.boc_machine_laws.proofs.Twins.{mapped}
use Rattle.boc_dispatch.specs.declared.calls.Mover.{Mover}
use Rattle.boc_dispatch.specs.declared.calls.Mover.TheVariants as movers
use Rattle.boc_dispatch.specs.declared.interleaving.DriveFault.{DriveFault}
use Rattle.boc_dispatch.specs.declared.interleaving.DriveFault.TheVariants as drive_faults
use Rattle.boc_dispatch.specs.declared.worker.Due.TheVariants as dues
use Rattle.boc_dispatch.specs.declared.worker.Hand.{Hand}
use Rattle.boc_dispatch.specs.declared.worker.Hand.TheVariants as hands
use Rattle.boc_dispatch.specs.declared.worker.Worker.{Worker}
use Rattle.boc_dispatch.specs.Underway.{Underway}
use Rattle.boc_dispatch.specs.Calls.{CanMove, HasNoRoom}
use Rattle.boc_dispatch.specs.Working.{row_in}
use Rattle.boc_dispatch.specs.Driving.{HandFits, IsAt, rows_of, row_for, IsFirst, TurnsOn, IsDrivenOn, HasNoWorker, RunsOutLater, Drives, DrivesQuiet}
use Rattle.boc_dispatch.proofs.Driven.{got_map, stands_at, at_sound, at_turn, at_next, at_stranger, none_where_full, of_own}

-- ---- one choice more

last_chosen : (xs : List ℕ) (x : ℕ) → slice_get (xs ++ x ∷ []) (length xs) ≡ Some x
last_chosen [] x = refl
last_chosen (y ∷ xs) x = last_chosen xs x

at_longer : (p : Program) (workers : ℕ) (xs : List ℕ) (x : ℕ) (u : Underway) (crew : List Worker) → IsAt p workers xs (length xs) u crew
    → IsAt p workers (xs ++ x ∷ []) (length xs) u crew
at_longer p workers xs x u crew h = record {
  program = h.program;
  count = h.count;
  fits = h.fits;
  turns = subst (λ cs. Turns p (opening_driven p workers) cs (record { state = u.state; serves = rows_of crew }))
      (sym (take-append-le (length xs) xs (x ∷ []) (omega arith))) h.turns;
}

-- the worker that is found is the first that serves who can step, or none does
abbrev pub FindsServer : List Worker → Mover → Option ℕ → Type 0
FindsServer crew mover result =
    MatchOption result ((k : ℕ) (w : Worker) → slice_get crew k ≡ Some w → row_in w.hand ≢ row_for mover)
    (λ k. (w : Worker) × (slice_get crew k ≡ Some w) × (row_in w.hand ≡ row_for mover)
    × ((j : ℕ) → j < k → (v : Worker) → slice_get crew j ≡ Some v → row_in v.hand ≢ row_for mover))

first_there : (u : Underway) (crew : List Worker) (mover : Mover) (chosen : ℕ) → FindsServer crew mover (Some chosen) → IsFirst (stands_at u crew) chosen
first_there u crew mover chosen found k low same =
    let here = got_map (λ (x : Worker). row_in x.hand) crew chosen found.0 found.1 ∙ ap (λ r. Some r) found.2 in
    let v = mapped (λ (x : Worker). row_in x.hand) (slice_get crew k) (row_for mover)
    (sym (slice_get-map (λ (x : Worker). row_in x.hand) crew k) ∙ same ∙ here) in
    found.3 k low v.0 v.1 v.2

-- the turn of who can step is a step
turn_steps : (u : Underway) (t : State) (after : Option ℕ) → IsSound u.program u.state → (mover : Mover) → CanMove u mover
    → TakesTurn u.program u.state (row_for mover) t after
    → t.steps ≡ u.state.steps + 1
turn_steps u t after k (movers.Ready row) can turn = start_steps u.program u.state k t after row can turn
turn_steps u t after k (movers.Running row) can turn = body_steps u.program u.state k t after row can turn
turn_steps u t after k (movers.Enqueuing child) can turn = enqueue_steps u.program u.state k t after child.number child.row can turn
turn_steps u t after k (movers.Leaving leaving) can turn = release_steps u.program u.state k t after leaving.row can turn

-- one further turn more
turns_on_more : (p : Program) (d : Driven) (xs : List ℕ) (x : ℕ) (e f : Driven) → TurnsOn p d xs e → Turn p e x f → IsFirst e x
    → f.state.steps ≡ e.state.steps + 1 → TurnsOn p d (xs ++ x ∷ []) f
turns_on_more p d [] x e f is turn first steps = (
  f,
  subst (λ (m : Driven). Turn p m x f) is turn,
  subst (λ (m : Driven). IsFirst m x) is first,
  steps ∙ ap (λ (m : Driven). m.state.steps + 1) is,
  refl,
)
turns_on_more p d (y ∷ xs) x e f t turn first steps = (t.0, t.1, t.2, t.3, turns_on_more p t.0 xs x e f t.4 turn first steps)

-- the choices and some more have had their turns
pub record GoesOn (p : Program) (workers : ℕ) (choices : List ℕ) (u : Underway) (crew : List Worker) : Type 0 where
  pub more : List ℕ
  pub at : IsAt p workers (choices ++ more) (length (choices ++ more)) u crew
  pub played : Driven
  pub turns : Turns p (opening_driven p workers) choices played
  pub on : TurnsOn p played more (stands_at u crew)

pub goes_on_first : (p : Program) (workers : ℕ) (choices : List ℕ) (u : Underway) (crew : List Worker) → IsAt p workers choices (length choices) u crew
    → GoesOn p workers choices u crew
goes_on_first p workers choices u crew h = record {
  more = [];
  at = subst (λ xs. IsAt p workers xs (length xs) u crew) (sym (append-nil choices)) h;
  played = stands_at u crew;
  turns = subst (λ cs. Turns p (opening_driven p workers) cs (stands_at u crew)) (take-length choices) h.turns;
  on = refl;
}

module _ (p : Program) (workers : ℕ) (choices : List ℕ) (u : Underway) (crew : List Worker) (g : GoesOn p workers choices u crew) where
  abbrev xs : List ℕ
  xs = choices ++ g.more

  pub sound_there : IsSound u.program u.state
  sound_there = at_sound p workers xs (length xs) u crew g.at

  driven_on : IsDrivenOn p workers choices (stands_at u crew)
  driven_on = record { played = g.played; turns = g.turns; more = g.more; on = g.on }

  module _ (chosen : ℕ) where
    longer : xs ++ chosen ∷ [] ≡ choices ++ (g.more ++ chosen ∷ [])
    longer = append_assoc choices g.more (chosen ∷ [])

    pub goes_on_next : (v : Underway) (old new : Worker) (mover : Mover) → CanMove u mover → FindsServer crew mover (Some chosen)
        → slice_get crew chosen ≡ Some old → TakesTurn u.program u.state (row_in old.hand) v.state (row_in new.hand)
        → v.program ≡ u.program → HandFits v new.hand → GoesOn p workers choices v (slice_set crew chosen new)
    goes_on_next v old new mover can found is turn same fits =
        let own : found.0 ≡ old = (let e : Some found.0 ≡ Some old = sym found.1 ∙ is in cc) in
        let serves : row_in old.hand ≡ row_for mover = ap (λ (w : Worker). row_in w.hand) (sym own) ∙ found.2 in
        let next = at_next p workers (xs ++ chosen ∷ []) (length xs) u crew (at_longer p workers xs chosen u crew g.at) chosen (last_chosen xs chosen) v old new
        is turn same fits in
        let count : suc (length xs) ≡ length (xs ++ chosen ∷ []) = omega (arith, length-append xs (chosen ∷ [])) in
        record {
          more = g.more ++ chosen ∷ [];
          at = subst (λ cs. IsAt p workers cs (length cs) v (slice_set crew chosen new)) longer
              (subst (λ n. IsAt p workers (xs ++ chosen ∷ []) n v (slice_set crew chosen new)) count next);
          played = g.played;
          turns = g.turns;
          on = turns_on_more p g.played g.more chosen (stands_at u crew) (stands_at v (slice_set crew chosen new)) g.on
              (at_turn p workers xs (length xs) u crew g.at chosen v old new is turn) (first_there u crew mover chosen found)
              (turn_steps u v.state (row_in new.hand) sound_there mover can
              (subst (λ o. TakesTurn u.program u.state o v.state (row_in new.hand)) serves turn));
        }

    pub no_room : (w : Worker) (mover : Mover) → FindsServer crew mover (Some chosen) → slice_get crew chosen ≡ Some w → HasNoRoom u (row_in w.hand)
        → RunsOutLater p workers choices
    no_room w mover found is full =
        let own = of_own p workers xs (length xs) u crew g.at (row_in w.hand) full in
        record {
          before = stands_at u crew;
          on = driven_on;
          worker = chosen;
          first = first_there u crew mover chosen found;
          row = row_in w.hand;
          serves = got_map (λ (x : Worker). row_in x.hand) crew chosen w is;
          full = own;
          none = none_where_full p workers xs (length xs) u crew g.at chosen w is own;
        }

-- a fault that came before the last choice
pub fault_before : (p : Program) (workers : ℕ) (choices : List ℕ) (fault : DriveFault) → Drives p workers choices (Err fault)
    → DrivesQuiet p workers choices (Err fault)
fault_before p workers choices (drive_faults.NoSuchWorker place) h =
    let low = place_below choices place h.choice h.is in
    record {
      before = h.before;
      turns = subst (λ cs. Turns p (opening_driven p workers) cs h.before) (sym (take-append-le place choices (0 ∷ []) (omega (arith, low)))) h.turns;
      choice = h.choice;
      is = front_item choices 0 place low ∙ h.is;
      past = h.past;
    }
fault_before p workers choices drive_faults.Behaviours h = inl h
fault_before p workers choices drive_faults.Memory h = tt

-- a fault of a further choice
pub fault_after : (p : Program) (workers : ℕ) (choices : List ℕ) (fault : DriveFault) → (fault ≡ drive_faults.Behaviours → RunsOutLater p workers choices)
    → ((place : ℕ) → fault ≡ drive_faults.NoSuchWorker place → ⊥) → DrivesQuiet p workers choices (Err fault)
fault_after p workers choices (drive_faults.NoSuchWorker place) full never = absurd (never place refl)
fault_after p workers choices drive_faults.Behaviours full never = inr (full refl)
fault_after p workers choices drive_faults.Memory full never = tt

-- with no workers there is no worker 0
pub nobody_there : (p : Program) (workers : ℕ) (choices : List ℕ) (u : Underway) (crew : List Worker) → IsAt p workers choices (length choices) u crew
    → workers ≡ 0
    → HasNoWorker p workers (choices ++ 0 ∷ []) (length choices)
nobody_there p workers choices u crew h none =
    at_stranger p workers (choices ++ 0 ∷ []) (length choices) u crew (at_longer p workers choices 0 u crew h) 0 (last_chosen choices 0)
    (omega (arith, h.count, none))

-- ---- who serves who can step

running_works_at : (st : Stage) → life_at st ≡ Running → works_at st ≡ true
running_works_at (Recorded r phases.Waiting) h = absurd (let f : Pending ≡ Running = h in cc)
running_works_at (Recorded r phases.Ready) h = absurd (let f : Pending ≡ Running = h in cc)
running_works_at _ h = refl

running_works : (o : Option OpenBehaviour) → life o ≡ Running → works o ≡ true
running_works None h = absurd (let f : Ended ≡ Running = h in cc)
running_works (Some b) h = running_works_at b.stage h

-- the behaviour of a running row
module _ (p : Program) (s : State) (k : IsSound p s) (row : ℕ) (m : Member) (is : slice_get (members p s) row ≡ Some m) (runs : m.life ≡ Running) where
  runner : (who : ℕ) × (row_of (at s who) ≡ Some row)
  runner = k.fits.open_rows row m is (λ e. let f : Running ≡ Ended = sym runs ∙ e in cc)

  runner_life : life (at s (runner).0) ≡ Running
  runner_life =
      let h = k.fits.has_row (runner).0 row (runner).1 in
      let same : h.member ≡ m = (let f : Some h.member ≡ Some m = sym h.is ∙ is in cc) in
      sym h.life_is ∙ ap (λ (x : Member). x.life) same ∙ runs

  runner_active : IsActive s (runner).0 row
  runner_active = record { row_is = (runner).1; lives = λ e. (let f : Running ≡ Pending = sym runner_life ∙ e in cc) }

  runner_works : works (at s (runner).0) ≡ true
  runner_works = running_works (at s (runner).0) runner_life

-- where nobody works, a hand that fits serves no row
module _ (u : Underway) (k : IsSound u.program u.state) (idle : NobodyWorks u.state) where
  no_member : (row : ℕ) (m : Member) → slice_get (members u.program u.state) row ≡ Some m → m.life ≡ Running → ⊥
  no_member row m is runs =
      let f : false ≡ true = sym (idle (runner u.program u.state k row m is runs).0) ∙ runner_works u.program u.state k row m is runs in cc

  serves_nobody : (h : Hand) → HandFits u h → row_in h ≡ None
  serves_nobody hands.Nothing fits = refl
  serves_nobody (hands.Started job) fits = absurd (no_member job.row fits.handed.member fits.handed.is fits.handed.runs)
  serves_nobody (hands.Framed row f dues.Going) fits = absurd (no_member row fits.handed.member fits.handed.is fits.handed.runs)
  serves_nobody (hands.Framed row f dues.Wishing) fits = absurd (no_member row fits.may.handed.member fits.may.handed.is fits.may.handed.runs)
  serves_nobody (hands.Framed row f (dues.Enqueuing child)) fits = absurd (no_member child.row fits.handed.member fits.handed.is fits.handed.runs)
  serves_nobody (hands.Done row o) fits = absurd (no_member row fits.handed.member fits.handed.is fits.handed.runs)
  serves_nobody (hands.Leaving l) fits = absurd (let f : false ≡ true = sym (idle fits.who) ∙ ap works fits.is in cc)

-- a worker that serves this row
abbrev IsServed : List Worker → Option ℕ → Type 0
IsServed crew row = (k : ℕ) × (w : Worker) × (slice_get crew k ≡ Some w) × (row_in w.hand ≡ row)

module _ (p : Program) (workers : ℕ) (choices : List ℕ) (place : ℕ) (u : Underway) (crew : List Worker) (h : IsAt p workers choices place u crew) where
  k : IsSound u.program u.state
  k = at_sound p workers choices place u crew h

  active_served : (who row : ℕ) → IsActive u.state who row → IsServed crew (Some row)
  active_served who row a =
      let served = each_is_served p workers (take place choices) (record { state = u.state; serves = rows_of crew }) h.turns who row a in
      let w = mapped (λ (x : Worker). row_in x.hand) (slice_get crew served.0) (Some row)
      (sym (slice_get-map (λ (x : Worker). row_in x.hand) crew served.0) ∙ served.1) in
      (served.0, w.0, w.1, w.2)

  running_served : (row : ℕ) → state_of (members u.program u.state) row ≡ Some Running → IsServed crew (Some row)
  running_served row runs =
      let m = with_life (members u.program u.state) row Running runs in
      active_served (runner u.program u.state k row m.0 m.1 m.2).0 row (runner_active u.program u.state k row m.0 m.1 m.2)

  mover_served : (mover : Mover) → CanMove u mover → 0 < workers → IsServed crew (row_for mover)
  mover_served (movers.Ready row) can some =
      let w = item_at crew 0 (omega (arith, some, h.count)) in
      (0, w.0, w.1, serves_nobody u k can.idle w.0.hand (h.fits.fits 0 w.0 w.1))
  mover_served (movers.Running row) can some = running_served row can.runs
  mover_served (movers.Enqueuing child) can some = running_served child.row (enqueue_running u.program u.state k child.number child.row can.enqueue)
  mover_served (movers.Leaving leaving) can some =
      let l = who_leaves u.program u.state k leaving.row can in
      active_served can.who leaving.row (record {
        row_is = leaving_row u.program u.state k can.who leaving.row l;
        lives = λ e. (let f : Ended ≡ Pending = sym (ap life l.is ∙ ap life_at l.stage_is) ∙ e in cc);
      })

  none_or_more : (n : ℕ) → n ≡ workers → (0 < workers → ⊥) → workers ≡ 0
  none_or_more zero e f = sym e
  none_or_more (suc n) e f = absurd (f (omega arith))

  pub no_workers : (mover : Mover) → CanMove u mover → ((j : ℕ) (w : Worker) → slice_get crew j ≡ Some w → row_in w.hand ≢ row_for mover) → workers ≡ 0
  no_workers mover can none =
      none_or_more workers refl (λ some. let s = mover_served mover can some in none s.0 s.1 s.2 s.3)

-- as a call found it in the same crew
pub finds_in : (crew ws : List Worker) (mover : Mover) (result : Option ℕ) → ws ≡ crew → FindsServer ws mover result → FindsServer crew mover result
finds_in crew ws mover result same = subst (λ (xs : List Worker). FindsServer xs mover result) same

-- the worker that is read there
pub server_read : (crew : List Worker) (mover : Mover) (chosen : ℕ) (w : Worker) → FindsServer crew mover (Some chosen) → w ≡ get_or crew chosen w
    → slice_get crew chosen ≡ Some w
server_read crew mover chosen w found reads = slice_get_read crew (length crew) chosen w refl (place_below crew chosen found.0 found.1) reads

-- ---- there are ever fewer steps to make

pub fewer_left : (u v : Underway) (before after : Option ℕ) → IsSound u.program u.state → IsSound v.program v.state → (mover : Mover) → CanMove u mover
    → before ≡ row_for mover
    → TakesTurn u.program u.state before v.state after → 36 * MOST_ROWS - v.state.steps < 36 * MOST_ROWS - u.state.steps
fewer_left u v before after k l mover can row turn =
    let more = turn_steps u v.state after k mover can (subst (λ o. TakesTurn u.program u.state o v.state after) row turn) in
    omega (arith, more, few_steps v.program v.state l)

-- A worker has at most one turn, and a turn keeps the state sound.
use Rattle.std.proofs.Common.{◌+◌, ◌≤◌, ◌≡◌, ℕ, suc, ◌<◌, Bool, true, false, List, [], ◌∷◌, ◌++◌, refl, sym, ◌∙◌, ap, subst, arith}
use Rattle.std.specs.Prelude.{slice_get, slice_set, Option, Some, None}
use Rattle.boc_program.specs.declared.limits.TheConstants.{MOST_ROWS}
use Rattle.boc_program.specs.declared.program.Program.{Program}
use Rattle.boc_runs.specs.declared.event.Event.TheVariants as events
use Rattle.boc_runs.specs.declared.stage.Phase.{Phase}
use Rattle.boc_runs.specs.declared.stage.Phase.TheVariants.{Flagging, Owning, Running as RunningPhase, Leaving}
use Rattle.boc_runs.specs.declared.stage.Stage.{Stage}
use Rattle.boc_runs.specs.declared.stage.Stage.TheVariants.{Asking, Recorded}
use Rattle.boc_runs.specs.declared.step.Step.{Step}
use Rattle.boc_runs.specs.declared.step.Step.TheVariants as steps
use Rattle.boc_program.specs.Meaning.{Wish, Meaning}
use Rattle.boc_runs.specs.Lives.{Life, Running, Ended}
use Rattle.boc_runs.specs.Run.{meaning_of, next_wish, wish_at, state_of}
use Rattle.boc_runs.specs.machine.Stages.{OpenBehaviour, row_of, row_at, life, life_at, flagged, settled}
use Rattle.boc_runs.specs.machine.Queues.{times}
use Rattle.boc_runs.specs.machine.Steps.{HasNoEnqueue, State, at, queue, members, recorded, unrecorded, opened, stepped, noted, with_stage, with_queue}
use Rattle.boc_runs.specs.machine.Steps.{with_new, with_ready, asking_on, leaving_on, owned, flagging, woken, child, IsDue, IsBlockedAsking, IsBlockedLeaving}
use Rattle.boc_runs.specs.machine.Steps.{Opens, Settles, Starts, Finishes, Unhooks, Passes, Advances, Leaves, Makes}
use Rattle.boc_runs.specs.machine.Turns.{IsEnqueueOf, unless_gone, TakesTurn, Begins, NoneReady, Advanced, WaitsToSettle, Opened, Finished, Left, WaitsToLeave}
use Rattle.boc_runs.specs.machine.Turns.{Driven, Turn, Turns}
use Rattle.boc_runs.specs.machine.Schedules.{Reaches, Here, Then}
use Rattle.boc_runs.specs.machine.Movers.{CanLeave}
use Rattle.boc_runs.specs.machine.Sound.{IsSound}
use Rattle.boc_program.proofs.ChangedItems.{none_past}
use Rattle.boc_machine_laws.proofs.Rows.{life_there}
use Rattle.boc_machine_laws.proofs.Every.{reaches_keeps}

-- ---- what a step gives is a function of the state and of who makes it

-- the next step of an open enqueue, at this stage and over this cown
abbrev advance_at : Program → State → ℕ → OpenBehaviour → Stage → Option ℕ → State
advance_at p s who b (Asking i false) None = s
advance_at p s who b (Asking i false) (Some c) =
    stepped (with_queue (with_stage s who b (Asking i true)) c (queue s c ++ who ∷ []))
advance_at p s who b (Asking i true) o = stepped (asking_on p s who b (suc i))
advance_at p s who b (Recorded row (Flagging i)) o =
    stepped (with_stage s who b (Recorded row (flagging b.cowns (suc i))))
advance_at p s who b (Recorded row Owning) o = stepped (owned s who b row)
advance_at p s who b (Recorded row _) o = s

-- which of its requests is next
abbrev request_at : Stage → ℕ
request_at (Asking i e) = i
request_at (Recorded row (Flagging i)) = i
request_at (Recorded row (Leaving i)) = i
request_at (Recorded row _) = 0

abbrev advance_of : Program → State → ℕ → Option OpenBehaviour → State
advance_of p s who None = s
advance_of p s who (Some b) = advance_at p s who b b.stage (slice_get b.cowns (request_at b.stage))

advance_due : (p : Program) (s : State) (who : ℕ) (b : OpenBehaviour) (st : Stage) (o : Option ℕ) → at s who ≡ Some b
    → b.stage ≡ st → slice_get b.cowns (request_at st) ≡ o
    → advance_of p s who (at s who) ≡ advance_at p s who b st o
advance_due p s who b st o is e c =
    ap (advance_of p s who) is ∙ ap (λ z. advance_at p s who b z (slice_get b.cowns (request_at z))) e
    ∙ ap (advance_at p s who b st) c

advance_is : (p : Program) (s : State) (who : ℕ) (step : Step) (t : State) → Advances p s who step t
    → t ≡ advance_of p s who (at s who)
advance_is p s who (steps.Swap i) t m = m.gives
    ∙ sym (advance_due p s who m.this (Asking i false) (Some m.c) m.due.is m.due.stage_is m.due.cown)
advance_is p s who (steps.Settle i) t m = m.gives
    ∙ sym (advance_due p s who m.this (Asking i true) (Some m.c) m.due.is m.due.stage_is m.due.cown)
advance_is p s who (steps.Flag i) t m = m.gives
    ∙ sym (advance_due p s who m.this (Recorded m.row (Flagging i)) (Some m.c) m.due.is m.due.stage_is m.due.cown)
advance_is p s who steps.Own t m = m.gives ∙ sym
    (advance_due p s who m.this (Recorded m.row Owning) (slice_get m.this.cowns 0) m.is m.stage_is refl)
advance_is p s who _ t m = absurd m

-- the next release, with this list of the cown
abbrev leave_list : State → ℕ → OpenBehaviour → ℕ → ℕ → ℕ → List ℕ → State
leave_list s who b row i c [] = s
leave_list s who b row i c (x ∷ []) = stepped (leaving_on (with_queue s c []) who b row (suc i))
leave_list s who b row i c (x ∷ (next ∷ rest)) =
    stepped (woken (leaving_on (with_queue s c (next ∷ rest)) who b row (suc i)) next)

abbrev leave_at : State → ℕ → OpenBehaviour → Stage → Option ℕ → State
leave_at s who b (Recorded row (Leaving i)) (Some c) = leave_list s who b row i c (queue s c)
leave_at s who b (Recorded row (Leaving i)) None = s
leave_at s who b (Recorded row _) o = s
leave_at s who b (Asking i e) o = s

abbrev leave_of : State → ℕ → Option OpenBehaviour → State
leave_of s who None = s
leave_of s who (Some b) = leave_at s who b b.stage (slice_get b.cowns (request_at b.stage))

leave_due : (s : State) (who : ℕ) (b : OpenBehaviour) (row i c : ℕ) (q : List ℕ)
    → IsDue s who b (Recorded row (Leaving i)) i c → queue s c ≡ q
    → leave_of s who (at s who) ≡ leave_list s who b row i c q
leave_due s who b row i c q due e =
    ap (leave_of s who) due.is ∙ ap (λ z. leave_at s who b z (slice_get b.cowns (request_at z))) due.stage_is
    ∙ ap (leave_at s who b (Recorded row (Leaving i))) due.cown
    ∙ ap (leave_list s who b row i c) e

-- a release is an Unhook or a Pass
leaves_either : (X : Type 0) (s : State) (who row : ℕ) (step : Step) (t : State) → Leaves s who row step t
    → ((i : ℕ) → Unhooks s who row i t → X) → ((i : ℕ) → Passes s who row i t → X) → X
leaves_either X s who row (steps.Unhook i) t m unhooks passes = unhooks i m
leaves_either X s who row (steps.Pass i) t m unhooks passes = passes i m
leaves_either X s who row _ t m unhooks passes = absurd m

leave_is : (s : State) (who row : ℕ) (step : Step) (t : State) → Leaves s who row step t → t ≡ leave_of s who (at s who)
leave_is s who row step t m = leaves_either (t ≡ leave_of s who (at s who)) s who row step t m
    (λ i n. n.gives ∙ sym (leave_due s who n.this row i n.c (who ∷ []) n.due n.alone))
    (λ i n. n.gives ∙ sym (leave_due s who n.this row i n.c (who ∷ (n.next ∷ n.rest)) n.due n.front))

-- ---- what is blocked has no step

pub same_one : (s : State) (who : ℕ) (b b' : OpenBehaviour) → at s who ≡ Some b → at s who ≡ Some b' → b ≡ b'
same_one s who b b' e f = let g : Some b ≡ Some b' = sym e ∙ f in cc

-- stages that differ
not_exchanged : (i j : ℕ) → Asking i false ≡ Asking j true → ⊥
not_exchanged i j e = let f : false ≡ true =
    ap (λ st. elim st as (λ z. Bool) [ Asking a b ↦ b | Recorded r ph ↦ true ]) e in cc

same_request : (i j : ℕ) → Asking i true ≡ Asking j true → i ≡ j
same_request i j e = ap request_at e

asks_not_recorded : (i r : ℕ) (x : Bool) (ph : Phase) → Asking i x ≡ Recorded r ph → ⊥
asks_not_recorded i r x ph e = let f : None ≡ Some r = ap row_at e in cc

stage_of_due : (s : State) (who : ℕ) (b b' : OpenBehaviour) (st st' : Stage) → at s who ≡ Some b → b.stage ≡ st
    → at s who ≡ Some b' → b'.stage ≡ st' → st ≡ st'
stage_of_due s who b b' st st' e x f y = sym x ∙ ap (λ (z : OpenBehaviour). z.stage) (same_one s who b b' e f) ∙ y

cown_of_due : (s : State) (who : ℕ) (b b' : OpenBehaviour) (i j c d : ℕ) → at s who ≡ Some b
    → slice_get b.cowns i ≡ Some c → at s who ≡ Some b' → slice_get b'.cowns j ≡ Some d → i ≡ j → c ≡ d
cown_of_due s who b b' i j c d e x f y q =
    let g : Some c ≡ Some d = sym x ∙ ap (λ (z : OpenBehaviour). slice_get z.cowns i) (same_one s who b b' e f)
    ∙ ap (slice_get b'.cowns) q ∙ y in cc

pub blocked_settle : (p : Program) (s : State) (who i : ℕ) (t : State) → Settles p s who i t → IsBlockedAsking s who → ⊥
blocked_settle p s who i t m k =
    let st = stage_of_due s who m.this k.this (Asking i true)
    (Asking k.request true) m.due.is m.due.stage_is k.due.is k.due.stage_is in
    let same : m.c ≡ k.c = cown_of_due s who m.this k.this i k.request m.c k.c m.due.is m.due.cown k.due.is k.due.cown
    (same_request i k.request st) in
    let free : 0 < times m.c (flagged (at s k.before)) =
    m.free k.ahead k.behind k.before (ap (queue s) same ∙ k.stands) in
    let none : times m.c (flagged (at s k.before)) ≡ 0 = ap (λ z. times z (flagged (at s k.before))) same
    ∙ k.unflagged in
    omega (arith, free, none)

pub blocked_asking : (p : Program) (s : State) (who : ℕ) (step : Step) (t : State) → Advances p s who step t
    → IsBlockedAsking s who → ⊥
blocked_asking p s who (steps.Swap i) t m k =
    not_exchanged i k.request (stage_of_due s who m.this k.this (Asking i false)
    (Asking k.request true) m.due.is m.due.stage_is k.due.is k.due.stage_is)
blocked_asking p s who (steps.Settle i) t m k = blocked_settle p s who i t m k
blocked_asking p s who (steps.Flag i) t m k =
    asks_not_recorded k.request m.row true (Flagging i)
    (stage_of_due s who k.this m.this (Asking k.request true)
    (Recorded m.row (Flagging i)) k.due.is k.due.stage_is m.due.is m.due.stage_is)
blocked_asking p s who steps.Own t m k = asks_not_recorded k.request m.row true Owning
    (stage_of_due s who k.this m.this (Asking k.request true)
    (Recorded m.row Owning) k.due.is k.due.stage_is m.is m.stage_is)
blocked_asking p s who _ t m k = m

leaving_cown : (s : State) (who row : ℕ) (b b' : OpenBehaviour) (i j c d : ℕ)
    → IsDue s who b (Recorded row (Leaving i)) i c → IsDue s who b' (Recorded row (Leaving j)) j d → c ≡ d
leaving_cown s who row b b' i j c d x y =
    cown_of_due s who b b' i j c d x.is x.cown y.is y.cown
    (ap request_at (stage_of_due s who b b' (Recorded row (Leaving i))
    (Recorded row (Leaving j)) x.is x.stage_is y.is y.stage_is))

blocked_leaving : (s : State) (who row : ℕ) (step : Step) (t : State) → Leaves s who row step t
    → IsBlockedLeaving s who row → ⊥
blocked_leaving s who row (steps.Unhook i) t m k =
    let same = leaving_cown s who row m.this k.this i k.request m.c k.c m.due k.due in
    let e : who ∷ [] ≡ who ∷ (k.next ∷ k.rest) = sym m.alone ∙ ap (queue s) same ∙ k.front in
    let f : [] ≡ k.next ∷ k.rest = cc in cc
blocked_leaving s who row (steps.Pass i) t m k =
    let same = leaving_cown s who row m.this k.this i k.request m.c k.c m.due k.due in
    let e : who ∷ (m.next ∷ m.rest) ≡ who ∷ (k.next ∷ k.rest) = sym m.front ∙ ap (queue s) same ∙ k.front in
    let f : m.next ∷ m.rest ≡ k.next ∷ k.rest = cc in
    let g : m.next ≡ k.next = cc in
    let some : 0 < times k.c (settled (at s k.next)) =
    subst (λ (z : ℕ). 0 < times z (settled (at s k.next))) same
    (subst (λ (z : ℕ). 0 < times m.c (settled (at s z))) g m.settled_next) in
    omega (arith, some, k.unsettled)
blocked_leaving s who row _ t m k = m

-- ---- one step of each kind

opens_one : (p : Program) (s : State) (row : ℕ) (t u : State) → Opens p s row t → Opens p s row u → t ≡ u
opens_one p s row t u m n =
    let same : m.wish ≡ n.wish = (let e : Some m.wish ≡ Some n.wish = sym m.may.next ∙ n.may.next in cc) in
    m.gives ∙ ap (λ w. stepped (asking_on p (with_new s (child row w)) (opened s) (child row w) 0)) same ∙ sym n.gives

pub finishes_one : (p : Program) (s : State) (who row : ℕ) (t u : State) → Finishes p s who row t
    → Finishes p s who row u → t ≡ u
finishes_one p s who row t u m n =
    let this : m.this ≡ n.this = same_one s who m.this n.this m.is n.is in
    let member : m.may.member ≡ n.may.member =
    (let e : Some m.may.member ≡ Some n.may.member = sym m.may.is ∙ n.may.is in cc) in
    let means : m.may.means ≡ n.may.means = (let e : Some m.may.means ≡ Some n.may.means = sym m.may.meant
    ∙ ap (meaning_of p) member ∙ n.may.meant in cc) in
    let ticks : m.ticks ≡ n.ticks = m.may.ticks_are ∙ ap (λ (z : Meaning). z.ticks) means ∙ sym n.may.ticks_are in
    let status : m.status ≡ n.status = m.may.status_is ∙ ap (λ (z : Meaning). z.status) means ∙ sym n.may.status_is in
    let written : m.written ≡ n.written = m.may.written_is ∙ ap (λ (z : Meaning). z.written) means
    ∙ sym n.may.written_is in
    m.gives
    ∙ (λ i. stepped (leaving_on (noted s (events.End row (ticks i) (status i) (record { items = written i }))) who (this i) row 0))
    ∙ sym n.gives

-- ---- what is due to a row

-- a row that is leaving
pub record IsLeaving (s : State) (who row : ℕ) : Type 0 where
  pub this : OpenBehaviour
  pub request : ℕ
  pub is : at s who ≡ Some this
  pub stage_is : this.stage ≡ Recorded row (Leaving request)

pub leaves_leaving : (s : State) (who row : ℕ) (step : Step) (t : State) → Leaves s who row step t → IsLeaving s who row
leaves_leaving s who row step t m = leaves_either (IsLeaving s who row) s who row step t m
    (λ i n. record { this = n.this; request = i; is = n.due.is; stage_is = n.due.stage_is })
    (λ i n. record { this = n.this; request = i; is = n.due.is; stage_is = n.due.stage_is })

pub blocked_is_leaving : (s : State) (who row : ℕ) → IsBlockedLeaving s who row → IsLeaving s who row
blocked_is_leaving s who row m = record { this = m.this; request = m.request; is = m.due.is; stage_is = m.due.stage_is }

pub running_or_ended : (o : Option Life) → o ≡ Some Running → o ≡ Some Ended → ⊥
running_or_ended o e f = let g : Some Running ≡ Some Ended = sym e ∙ f in cc

-- where a row can end, no wish is left
no_wish_at_end : (p : Program) (s : State) (who row : ℕ) (u : State) (wish : Wish)
    → next_wish p (slice_get (members p s) row) ≡ Some wish → Finishes p s who row u → ⊥
no_wish_at_end p s who row u wish next n =
    let none : next_wish p (slice_get (members p s) row) ≡ None = ap (next_wish p) n.may.is
    ∙ ap (λ o. wish_at o n.may.member.spawned) n.may.meant
    ∙ none_past n.may.means.wishes n.may.member.spawned (omega (arith, n.may.all_spawned)) in
    let f : None ≡ Some wish = sym none ∙ next in cc

module _ (p : Program) (s : State) (k : IsSound p s) where
  -- what a start gives
  abbrev start_of : ℕ → ℕ → OpenBehaviour → List ℕ → State
  start_of who row b rest = stepped (with_ready
      (noted (with_stage s who b (Recorded row RunningPhase)) (events.Start row)) rest)

  abbrev lived : ℕ → Option Life
  lived row = state_of (members p s) row

  pub leaving_row : (who row : ℕ) → IsLeaving s who row → row_of (at s who) ≡ Some row
  leaving_row who row l = ap row_of l.is ∙ ap row_at l.stage_is

  pub leaving_ended : (who row : ℕ) → IsLeaving s who row → lived row ≡ Some Ended
  leaving_ended who row l =
      let h = k.fits.has_row who row (leaving_row who row l) in
      life_there (members p s) row h.member h.is ∙ ap (λ z. Some z) (h.life_is ∙ ap life l.is ∙ ap life_at l.stage_is)

  pub enqueue_running : (who row : ℕ) → IsEnqueueOf s who row → lived row ≡ Some Running
  enqueue_running who row q = ap lived (sym q.parent) ∙ k.fits.parents who q.is_open

  finish_running : (who row : ℕ) (t : State) → Finishes p s who row t → lived row ≡ Some Running
  finish_running who row t m = life_there (members p s) row m.may.member m.may.is ∙ ap (λ z. Some z) m.may.runs

  finish_row : (who row : ℕ) (t : State) → Finishes p s who row t → row_of (at s who) ≡ Some row
  finish_row who row t m = ap row_of m.is ∙ ap row_at m.stage_is

  no_wish_left : (who row : ℕ) (t u : State) → Opens p s row t → Finishes p s who row u → ⊥
  no_wish_left who row t u m n = no_wish_at_end p s who row u m.wish m.may.next n

  one_enqueue_of : (v w row : ℕ) → IsEnqueueOf s v row → IsEnqueueOf s w row → v ≡ w
  one_enqueue_of v w row a b = k.fits.one_enqueue v w a.is_open b.is_open (a.parent ∙ sym b.parent)

  advanced_one : (v w row : ℕ) (a b : Step) (t u : State) → IsEnqueueOf s v row → Advances p s v a t
      → IsEnqueueOf s w row → Advances p s w b u → t ≡ u
  advanced_one v w row a b t u q m r n = advance_is p s v a t m
      ∙ ap (λ z. advance_of p s z (at s z)) (one_enqueue_of v w row q r) ∙ sym (advance_is p s w b u n)

  left_one : (v w row : ℕ) (a b : Step) (t u : State) → Leaves s v row a t → Leaves s w row b u → (t ≡ u) × (v ≡ w)
  left_one v w row a b t u m n =
      let same : v ≡ w = k.fits.one_row v w row (leaving_row v row (leaves_leaving s v row a t m))
      (leaving_row w row (leaves_leaving s w row b u n)) in
      (leave_is s v row a t m ∙ ap (λ z. leave_of s z (at s z)) same ∙ sym (leave_is s w row b u n), same)

  started_one : (v w a b : ℕ) (t u : State) → Starts s v a t → Starts s w b u → (t ≡ u) × (a ≡ b)
  started_one v w a b t u m n =
      let head : a ∷ m.rest ≡ b ∷ n.rest = sym m.head ∙ n.head in
      let row : a ≡ b = cc in
      let rest : m.rest ≡ n.rest = cc in
      let who : v ≡ w = k.fits.one_row v w b (ap row_of m.is ∙ ap row_at m.stage_is ∙ ap (λ z. Some z) row)
      (ap row_of n.is ∙ ap row_at n.stage_is) in
      let this : m.this ≡ n.this = (let e : Some m.this ≡ Some n.this = sym m.is ∙ ap (at s) who ∙ n.is in cc) in (
        m.gives ∙ ap (λ z. start_of z a m.this m.rest) who ∙ ap (λ z. start_of w z m.this m.rest) row
            ∙ ap (λ z. start_of w b z m.rest) this ∙ ap (start_of w b n.this) rest ∙ sym n.gives,
        row,
      )

  -- a row whose release is blocked can't leave
  pub blocked_stays : (who row : ℕ) → IsBlockedLeaving s who row → CanLeave s row → ⊥
  blocked_stays who row blocked can =
      let same : can.who ≡ who = k.fits.one_row can.who who row
      (leaving_row can.who row (leaves_leaving s can.who row can.step can.after can.leaves))
      (leaving_row who row (blocked_is_leaving s who row blocked)) in
      blocked_leaving s who row can.step can.after
      (subst (λ (z : ℕ). Leaves s z row can.step can.after) same can.leaves) blocked

  -- who can leave has ended, and has a request left
  pub who_leaves : (row : ℕ) → (can : CanLeave s row) → IsLeaving s can.who row
  who_leaves row can = leaves_leaving s can.who row can.step can.after can.leaves

  -- a worker's turn
  pub takes_one : (o : Option ℕ) (t u : State) (x y : Option ℕ) → TakesTurn p s o t x → TakesTurn p s o u y → (t ≡ u)
      × (x ≡ y)
  takes_one None t u x y (Begins v a t1 m) (Begins w b u1 n) =
      (let r = started_one v w a b t u m n in (r.0, ap (λ z. Some z) r.1))
  takes_one None t u x y (Begins v a t1 m) (NoneReady e) = absurd (let f : a ∷ m.rest ≡ [] = sym m.head ∙ e in cc)
  takes_one None t u x y (NoneReady e) (Begins w b u1 n) = absurd (let f : b ∷ n.rest ≡ [] = sym n.head ∙ e in cc)
  takes_one None t u x y (NoneReady e) (NoneReady f) = (refl, refl)
  takes_one (Some row) t u x y (Advanced r1 v a t1 q m) (Advanced r2 w b u1 z n) =
      (advanced_one v w row a b t u q m z n, refl)
  takes_one (Some row) t u x y (Advanced r1 v a t1 q m) (WaitsToSettle r2 w z n) =
      absurd (blocked_asking p s w a t (subst (λ (i : ℕ). Advances p s i a t) (one_enqueue_of v w row q z) m) n)
  takes_one (Some row) t u x y (Advanced r1 v a t1 q m) (Opened r2 u1 n) = absurd (n.may.none_open v q.is_open q.parent)
  takes_one (Some row) t u x y (Advanced r1 v a t1 q m) (Finished r2 w u1 n) = absurd (n.none_open v q.is_open q.parent)
  takes_one (Some row) t u x y (Advanced r1 v a t1 q m) (Left r2 w b u1 n) =
      absurd (running_or_ended (lived row) (enqueue_running v row q)
      (leaving_ended w row (leaves_leaving s w row b u1 n)))
  takes_one (Some row) t u x y (Advanced r1 v a t1 q m) (WaitsToLeave r2 w n) =
      absurd (running_or_ended (lived row) (enqueue_running v row q)
      (leaving_ended w row (blocked_is_leaving s w row n)))
  takes_one (Some row) t u x y (WaitsToSettle r1 v q m) (Advanced r2 w b u1 z n) =
      absurd (blocked_asking p s v b u (subst (λ (i : ℕ). Advances p s i b u) (one_enqueue_of w v row z q) n) m)
  takes_one (Some row) t u x y (WaitsToSettle r1 v q m) (WaitsToSettle r2 w z n) = (refl, refl)
  takes_one (Some row) t u x y (WaitsToSettle r1 v q m) (Opened r2 u1 n) = absurd (n.may.none_open v q.is_open q.parent)
  takes_one (Some row) t u x y (WaitsToSettle r1 v q m) (Finished r2 w u1 n) = absurd (n.none_open v q.is_open q.parent)
  takes_one (Some row) t u x y (WaitsToSettle r1 v q m) (Left r2 w b u1 n) =
      absurd (running_or_ended (lived row) (enqueue_running v row q)
      (leaving_ended w row (leaves_leaving s w row b u1 n)))
  takes_one (Some row) t u x y (WaitsToSettle r1 v q m) (WaitsToLeave r2 w n) =
      absurd (running_or_ended (lived row) (enqueue_running v row q)
      (leaving_ended w row (blocked_is_leaving s w row n)))
  takes_one (Some row) t u x y (Opened r1 t1 m) (Advanced r2 w b u1 z n) = absurd (m.may.none_open w z.is_open z.parent)
  takes_one (Some row) t u x y (Opened r1 t1 m) (WaitsToSettle r2 w z n) = absurd (m.may.none_open w z.is_open z.parent)
  takes_one (Some row) t u x y (Opened r1 t1 m) (Opened r2 u1 n) = (opens_one p s row t u m n, refl)
  takes_one (Some row) t u x y (Opened r1 t1 m) (Finished r2 w u1 n) = absurd (no_wish_left w row t1 u1 m n)
  takes_one (Some row) t u x y (Opened r1 t1 m) (Left r2 w b u1 n) =
      absurd (running_or_ended (lived row) m.may.runs (leaving_ended w row (leaves_leaving s w row b u1 n)))
  takes_one (Some row) t u x y (Opened r1 t1 m) (WaitsToLeave r2 w n) =
      absurd (running_or_ended (lived row) m.may.runs (leaving_ended w row (blocked_is_leaving s w row n)))
  takes_one (Some row) t u x y (Finished r1 v t1 m) (Advanced r2 w b u1 z n) = absurd (m.none_open w z.is_open z.parent)
  takes_one (Some row) t u x y (Finished r1 v t1 m) (WaitsToSettle r2 w z n) = absurd (m.none_open w z.is_open z.parent)
  takes_one (Some row) t u x y (Finished r1 v t1 m) (Opened r2 u1 n) = absurd (no_wish_left v row u1 t1 n m)
  takes_one (Some row) t u x y (Finished r1 v t1 m) (Finished r2 w u1 n) =
      let same : v ≡ w = k.fits.one_row v w row (finish_row v row t1 m) (finish_row w row u1 n) in
      let one : t ≡ u = finishes_one p s w row t u (subst (λ (z : ℕ). Finishes p s z row t) same m) n in
      (one, ap (λ z. unless_gone row (at t z)) same ∙ ap (λ (z : State). unless_gone row (at z w)) one)
  takes_one (Some row) t u x y (Finished r1 v t1 m) (Left r2 w b u1 n) =
      absurd (running_or_ended (lived row) (finish_running v row t1 m)
      (leaving_ended w row (leaves_leaving s w row b u1 n)))
  takes_one (Some row) t u x y (Finished r1 v t1 m) (WaitsToLeave r2 w n) =
      absurd (running_or_ended (lived row) (finish_running v row t1 m)
      (leaving_ended w row (blocked_is_leaving s w row n)))
  takes_one (Some row) t u x y (Left r1 v a t1 m) (Advanced r2 w b u1 z n) =
      absurd (running_or_ended (lived row) (enqueue_running w row z)
      (leaving_ended v row (leaves_leaving s v row a t1 m)))
  takes_one (Some row) t u x y (Left r1 v a t1 m) (WaitsToSettle r2 w z n) =
      absurd (running_or_ended (lived row) (enqueue_running w row z)
      (leaving_ended v row (leaves_leaving s v row a t1 m)))
  takes_one (Some row) t u x y (Left r1 v a t1 m) (Opened r2 u1 n) =
      absurd (running_or_ended (lived row) n.may.runs (leaving_ended v row (leaves_leaving s v row a t1 m)))
  takes_one (Some row) t u x y (Left r1 v a t1 m) (Finished r2 w u1 n) =
      absurd (running_or_ended (lived row) (finish_running w row u1 n)
      (leaving_ended v row (leaves_leaving s v row a t1 m)))
  takes_one (Some row) t u x y (Left r1 v a t1 m) (Left r2 w b u1 n) =
      let r = left_one v w row a b t u m n in
      (r.0, ap (λ z. unless_gone row (at t z)) r.1 ∙ ap (λ (z : State). unless_gone row (at z w)) r.0)
  takes_one (Some row) t u x y (Left r1 v a t1 m) (WaitsToLeave r2 w n) =
      let same : v ≡ w = k.fits.one_row v w row (leaving_row v row (leaves_leaving s v row a t1 m))
      (leaving_row w row (blocked_is_leaving s w row n)) in
      absurd (blocked_leaving s w row a t (subst (λ (z : ℕ). Leaves s z row a t) same m) n)
  takes_one (Some row) t u x y (WaitsToLeave r1 v m) (Advanced r2 w b u1 z n) =
      absurd (running_or_ended (lived row) (enqueue_running w row z)
      (leaving_ended v row (blocked_is_leaving s v row m)))
  takes_one (Some row) t u x y (WaitsToLeave r1 v m) (WaitsToSettle r2 w z n) =
      absurd (running_or_ended (lived row) (enqueue_running w row z)
      (leaving_ended v row (blocked_is_leaving s v row m)))
  takes_one (Some row) t u x y (WaitsToLeave r1 v m) (Opened r2 u1 n) =
      absurd (running_or_ended (lived row) n.may.runs (leaving_ended v row (blocked_is_leaving s v row m)))
  takes_one (Some row) t u x y (WaitsToLeave r1 v m) (Finished r2 w u1 n) =
      absurd (running_or_ended (lived row) (finish_running w row u1 n)
      (leaving_ended v row (blocked_is_leaving s v row m)))
  takes_one (Some row) t u x y (WaitsToLeave r1 v m) (Left r2 w b u1 n) =
      let same : w ≡ v = k.fits.one_row w v row (leaving_row w row (leaves_leaving s w row b u1 n))
      (leaving_row v row (blocked_is_leaving s v row m)) in
      absurd (blocked_leaving s v row b u (subst (λ (z : ℕ). Leaves s z row b u) same n) m)
  takes_one (Some row) t u x y (WaitsToLeave r1 v m) (WaitsToLeave r2 w n) = (refl, refl)

-- ---- no turn where there is no room

pub no_turn : (p : Program) (s t : State) (row : ℕ) (wish : Wish) (served : Option ℕ) → IsSound p s
    → state_of (members p s) row ≡ Some Running → HasNoEnqueue s row
    → next_wish p (slice_get (members p s) row) ≡ Some wish → MOST_ROWS ≤ recorded p s + unrecorded s
    → TakesTurn p s (Some row) t served → ⊥
no_turn p s t row wish served k runs none next full (Advanced r who step u q m) = none who q.is_open q.parent
no_turn p s t row wish served k runs none next full (WaitsToSettle r who q m) = none who q.is_open q.parent
no_turn p s t row wish served k runs none next full (Opened r u m) = omega (arith, full, m.may.room)
no_turn p s t row wish served k runs none next full (Finished r who u m) = no_wish_at_end p s who row u wish next m
no_turn p s t row wish served k runs none next full (Left r who step u m) =
    running_or_ended (state_of (members p s) row) runs (leaving_ended p s k who row (leaves_leaving s who row step u m))
no_turn p s t row wish served k runs none next full (WaitsToLeave r who m) =
    running_or_ended (state_of (members p s) row) runs (leaving_ended p s k who row (blocked_is_leaving s who row m))

-- ---- a turn is a step, or nothing

pub advance_makes : (p : Program) (s : State) (who : ℕ) (step : Step) (t : State) → Advances p s who step t
    → Makes p s step t
advance_makes p s who (steps.Swap i) t m = (who, m)
advance_makes p s who (steps.Settle i) t m = (who, m)
advance_makes p s who (steps.Flag i) t m = (who, m)
advance_makes p s who steps.Own t m = (who, m)
advance_makes p s who _ t m = absurd m

pub leave_makes : (p : Program) (s : State) (who row : ℕ) (step : Step) (t : State) → Leaves s who row step t
    → Makes p s step t
leave_makes p s who row (steps.Unhook i) t m = (who, row, m)
leave_makes p s who row (steps.Pass i) t m = (who, row, m)
leave_makes p s who row _ t m = absurd m

pub turn_reaches : (p : Program) (s : State) (o : Option ℕ) (t : State) (x : Option ℕ) → TakesTurn p s o t x
    → Reaches p s t
turn_reaches p s o t x (Begins who row t1 m) = Then steps.Start s t Here (who, row, m)
turn_reaches p s o t x (Advanced row who step t1 q m) = Then step s t Here (advance_makes p s who step t m)
turn_reaches p s o t x (Opened row t1 m) = Then steps.Open s t Here (row, m)
turn_reaches p s o t x (Finished row who t1 m) = Then steps.Finish s t Here (who, row, m)
turn_reaches p s o t x (Left row who step t1 m) = Then step s t Here (leave_makes p s who row step t m)
turn_reaches p s o t x _ = Here

-- ---- the laws

pub one_turn : (p : Program) (d e f : Driven) (worker : ℕ) → IsSound p d.state → Turn p d worker e → Turn p d worker f
    → e ≡ f
one_turn p d e f worker k a b =
    let same : a.before ≡ b.before = (let g : Some a.before ≡ Some b.before = sym a.is ∙ b.is in cc) in
    let r = takes_one p d.state k b.before e.state f.state a.after b.after
    (subst (λ o. TakesTurn p d.state o e.state a.after) same a.takes) b.takes in
    let serves : e.serves ≡ f.serves = a.serves_are ∙ ap (slice_set d.serves worker) r.1 ∙ sym b.serves_are in
    λ j. record { state = r.0 j; serves = serves j }

pub turn_keeps : (p : Program) (d e : Driven) (worker : ℕ) → IsSound p d.state → Turn p d worker e → IsSound p e.state
turn_keeps p d e worker k a = reaches_keeps p d.state e.state k
    (turn_reaches p d.state a.before e.state a.after a.takes)

pub turns_keep : (p : Program) (d e : Driven) (workers : List ℕ) → IsSound p d.state → Turns p d workers e
    → IsSound p e.state
turns_keep p d e [] k same = subst (λ (z : Driven). IsSound p z.state) (sym same) k
turns_keep p d e (worker ∷ workers) k (next, one, more) =
    turns_keep p next e workers (turn_keeps p d next worker k one) more

pub one_of_turns : (p : Program) (d e f : Driven) (workers : List ℕ) → IsSound p d.state → Turns p d workers e
    → Turns p d workers f → e ≡ f
one_of_turns p d e f [] k a b = a ∙ sym b
one_of_turns p d e f (worker ∷ workers) k (next, one, more) (other, two, others) =
    let same : other ≡ next = one_turn p d other next worker k two one in
    one_of_turns p next e f workers (turn_keeps p d next worker k one) more
    (subst (λ (z : Driven). Turns p z workers f) same others)

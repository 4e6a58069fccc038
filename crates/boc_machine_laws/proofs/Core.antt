-- What the steps keep, but for how many were made; and what of it stays where one behaviour goes on.
use Rattle.std.proofs.Common.{◌≡◌, ℕ, ◌+◌, ◌<◌, ◌≤◌, Bool, cond, List, length, set, refl, sym, ◌∙◌, ap, subst, arith, rules, get_or-set_other, get_or-set_same}
use Rattle.std.proofs.Common.{length-set}
use Rattle.std.specs.Prelude.{Option, Some, None}
use Rattle.std.specs.List.{sum_by}
use Rattle.std.proofs.lemmas.List.Sums.{sum_by-set}
use Rattle.boc_program.specs.declared.limits.TheConstants.{MOST_ROWS}
use Rattle.boc_program.specs.declared.program.Program.{Program}
use Rattle.boc_runs.specs.declared.event.Event.{Event}
use Rattle.boc_program.specs.Programs.{cown_count}
use Rattle.boc_runs.specs.Run.{IsRun}
use Rattle.boc_runs.specs.machine.Stages.{OpenBehaviour, cowns_of, ready_row, asks}
use Rattle.boc_runs.specs.machine.Queues.{times}
use Rattle.boc_runs.specs.machine.Steps.{State, at, queue, members, recorded, unrecorded, opened, stepped, with_behaviour}
use Rattle.boc_runs.specs.machine.AlongRows.{cowns_of_rows, steps_of}
use Rattle.boc_runs.specs.machine.Sound.{Fits, IsSound, HasNextRequest, made, owed}
use Rattle.boc_machine_laws.proofs.Lists.{read_there}
use Rattle.boc_machine_laws.proofs.Lawful.{Laws, WaitsBut, nobody, laws_of, waits_of, lawful_of, OthersStay, kept, at_each}

-- the same as a sound state, but for the steps made, the next requests, and the law of who waits for some
pub record Core (p : Program) (s : State) (but : ℕ → Type 0) : Type 0 where
  pub run : IsRun p s.log
  pub laws : Laws (at s) (queue s)
  pub waiting : WaitsBut (at s) (queue s) but
  pub fits : Fits p (members p s) (at s)
  pub queues_are : length s.queues ≡ cown_count p.cowns
  pub in_range : (who c : ℕ) → 0 < times c (cowns_of (at s who)) → c < length s.queues
  pub ready_once : (who row : ℕ) → ready_row (at s who) ≡ Some row → times row s.ready ≡ 1
  pub ready_only : (row : ℕ) → 0 < times row s.ready → (who : ℕ) × (ready_row (at s who) ≡ Some row)
  pub some : 0 < recorded p s
  pub counted : recorded p s + unrecorded s ≡ opened s
  pub few : opened s ≤ MOST_ROWS

pub core_of : (p : Program) (s : State) → IsSound p s → Core p s nobody
core_of p s k = search (rules, laws_of (at s) (queue s) k.lawful, waits_of (at s) (queue s) k.lawful)

-- each next request is there
abbrev pub HasRequests : State → Type 0
HasRequests s = (who : ℕ) (b : OpenBehaviour) → at s who ≡ Some b → HasNextRequest b.stage b.cowns

-- the steps are those made and owed
abbrev pub HasSteps : State → Type 0
HasSteps s = s.steps + 2 + sum_by owed s.behaviours
    ≡ sum_by (λ cowns. steps_of (length cowns)) (cowns_of_rows s.log) + sum_by made s.behaviours

pub sound_of : (p : Program) (s : State) → Core p s nobody → HasRequests s → HasSteps s → IsSound p s
sound_of p s k r n = search (rules, lawful_of (at s) (queue s) k.laws k.waiting)

-- after any number of steps, and where the law of who waits is known otherwise
core_after : (p : Program) (s : State) (but other : ℕ → Type 0) (steps : ℕ) → Core p s but
    → WaitsBut (at s) (queue s) other → Core p (record s { steps = steps }) other
core_after p s but other steps k w = search rules

-- one step more changes nothing of it
pub core_stepped : (p : Program) (s : State) (but : ℕ → Type 0) → Core p s but → Core p (stepped s) but
core_stepped p s but k = core_after p s but but (s.steps + 1) k k.waiting

-- the law of who waits may be known otherwise
pub core_with : (p : Program) (s : State) (but : ℕ → Type 0) → Core p s but → WaitsBut (at s) (queue s) nobody
    → Core p s nobody
core_with p s but k w = core_after p s but nobody s.steps k w

-- ---- one behaviour put in place of another

-- how many one is, that is counted where a test holds
abbrev pub one_if : Bool → ℕ
one_if b = cond b 1 0

-- the number of a behaviour that is there is below the next
pub there : (s : State) (who : ℕ) (b : OpenBehaviour) → at s who ≡ Some b → who < length s.behaviours
there s who b is = read_there s.behaviours who b is

pub put_here : (s : State) (who : ℕ) (b : OpenBehaviour) (b' : Option OpenBehaviour) → at s who ≡ Some b
    → at (with_behaviour s who b') who ≡ b'
put_here s who b b' is = get_or-set_same s.behaviours who b' None (there s who b is)

pub put_others : (s : State) (who : ℕ) (b' : Option OpenBehaviour)
    → OthersStay (at s) (at (with_behaviour s who b')) who
put_others s who b' w n = get_or-set_other s.behaviours who w b' None n

-- a sum over behaviours, with one put in place of another
pub put_sum : (f : Option OpenBehaviour → ℕ) (s : State) (who : ℕ) (b : OpenBehaviour) (b' : Option OpenBehaviour)
    → at s who ≡ Some b
    → sum_by f (set s.behaviours who b') + f (Some b) ≡ sum_by f s.behaviours + f b'
put_sum f s who b b' is =
    ap (λ z. sum_by f (set s.behaviours who b') + f z) (sym is)
    ∙ sum_by-set f s.behaviours who b' None (there s who b is)

-- ---- the parts of it that stay where a behaviour goes on

module _ (p : Program) (s : State) (but : ℕ → Type 0) (k : Core p s but) (who : ℕ) (b : OpenBehaviour)
    (b' : Option OpenBehaviour) (is : at s who ≡ Some b) where
  abbrev t : State
  t = with_behaviour s who b'

  other : OthersStay (at s) (at t) who
  other = put_others s who b'

  here : at t who ≡ b'
  here = put_here s who b b' is

  -- its cowns are those that it had, or none
  pub range_kept : ((c : ℕ) → 0 < times c (cowns_of b') → 0 < times c b.cowns) → (w c : ℕ)
      → 0 < times c (cowns_of (at t w)) → c < length s.queues
  range_kept less w c =
      at_each (λ v z. 0 < times c (cowns_of z) → c < length s.queues) (at s) (at t) who other
      (λ h. k.in_range who c (subst (λ (z : Option OpenBehaviour). 0 < times c (cowns_of z)) (sym is)
      (less c (subst (λ (z : Option OpenBehaviour). 0 < times c (cowns_of z)) here h))))
      (λ v n. k.in_range v c) w

  -- it is ready under no other row
  module _ (same : ready_row b' ≡ ready_row (Some b)) where
    kept_ready : (w : ℕ) → ready_row (at t w) ≡ ready_row (at s w)
    kept_ready w = kept ready_row (at s) (at t) who other (ap ready_row here ∙ same ∙ sym (ap ready_row is)) w

    pub once_kept : (w row : ℕ) → ready_row (at t w) ≡ Some row → times row s.ready ≡ 1
    once_kept w row h = k.ready_once w row (sym (kept_ready w) ∙ h)

    pub only_kept : (row : ℕ) → 0 < times row s.ready → (w : ℕ) × (ready_row (at t w) ≡ Some row)
    only_kept row h = let o = k.ready_only row h in (o.0, kept_ready o.0 ∙ o.1)

  pub opened_kept : opened t ≡ opened s
  opened_kept = length-set s.behaviours who b'

  pub asks_sum : unrecorded t + one_if (asks (Some b)) ≡ unrecorded s + one_if (asks b')
  asks_sum = put_sum (λ z. one_if (asks z)) s who b b' is

  pub unrecorded_kept : asks b' ≡ asks (Some b) → unrecorded t ≡ unrecorded s
  unrecorded_kept same = let a = asks_sum in let e : one_if (asks b') ≡ one_if (asks (Some b)) = ap one_if same in
      omega arith

  -- the state with it put there, and with this log, these lists and these ready rows
  abbrev pub put : List Event → List (List ℕ) → List ℕ → State
  put log queues ready = record t { log = log; queues = queues; ready = ready }

  pub core_put : (log : List Event) (queues : List (List ℕ)) (ready : List ℕ) (now : ℕ → Type 0) → IsRun p log
      → recorded p (put log queues ready) ≡ recorded p s → length queues ≡ length s.queues
      → asks b' ≡ asks (Some b) → ((c : ℕ) → 0 < times c (cowns_of b') → 0 < times c b.cowns)
      → Laws (at t) (queue (put log queues ready)) → WaitsBut (at t) (queue (put log queues ready)) now
      → Fits p (members p (put log queues ready)) (at t)
      → ((w row : ℕ) → ready_row (at t w) ≡ Some row → times row ready ≡ 1)
      → ((row : ℕ) → 0 < times row ready → (w : ℕ) × (ready_row (at t w) ≡ Some row))
      → Core p (put log queues ready) now
  core_put log queues ready now run rows long asks_same less laws waiting fits once only = record {
    run = run;
    laws = laws;
    waiting = waiting;
    fits = fits;
    queues_are = long ∙ k.queues_are;
    in_range = λ w c h. omega (arith, long, range_kept less w c h);
    ready_once = once;
    ready_only = only;
    some = omega (arith, k.some, rows);
    counted = omega (arith, k.counted, rows, opened_kept, unrecorded_kept asks_same);
    few = omega (arith, k.few, opened_kept);
  }

  -- with no event, and ready as before
  pub core_on : (queues : List (List ℕ)) (now : ℕ → Type 0) → length queues ≡ length s.queues
      → asks b' ≡ asks (Some b) → ready_row b' ≡ ready_row (Some b)
      → ((c : ℕ) → 0 < times c (cowns_of b') → 0 < times c b.cowns)
      → Laws (at t) (queue (put s.log queues s.ready)) → WaitsBut (at t) (queue (put s.log queues s.ready)) now
      → Fits p (members p s) (at t) → Core p (put s.log queues s.ready) now
  core_on queues now long asks_same ready_same less laws waiting fits =
      core_put s.log queues s.ready now k.run refl long asks_same less laws waiting fits (once_kept ready_same)
      (only_kept ready_same)

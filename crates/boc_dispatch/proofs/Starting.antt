-- The first of the ready list starts: the state that follows, and what is kept.
use Rattle.std.proofs.Common.{◌≡◌, ◌≢◌, ℕ, suc, ◌+◌, ◌<◌, ◌≤◌, ◌⊎◌, inl, inr, true, false, ◌||◌, List, [], ◌∷◌, ◌++◌, length, set, refl, sym, ◌∙◌}
use Rattle.std.proofs.Common.{ap, subst, arith, length-set}
use Rattle.std.specs.Prelude.{slice_get, slice_index_or, Option, Some}
use Rattle.std.specs.Option.{option_map, option_map_or}
use Rattle.boc_runs.specs.declared.event.Event.TheVariants.{Start}
use Rattle.boc_runs.specs.declared.stage.Phase.TheVariants as phases
use Rattle.boc_runs.specs.declared.stage.Stage.TheVariants.{Recorded}
use Rattle.boc_program.specs.Changed.{changed}
use Rattle.boc_runs.specs.Lives.{Pending, Running}
use Rattle.boc_runs.specs.Legal.{IsAllowed, entries}
use Rattle.boc_runs.specs.Run.{Member, Config, config_of, opening, next_wish, started_on, state_of}
use Rattle.boc_runs.specs.machine.Stages.{row_at, life_at, asks_at, enqueues_at, waits_at, settled, enqueues, parent_of}
use Rattle.boc_runs.specs.machine.Queues.{times}
use Rattle.boc_runs.specs.machine.Steps.{State, at, members, stepped, noted, with_stage, Starts}
use Rattle.boc_runs.specs.machine.Sound.{IsSound}
use Rattle.boc_program.proofs.ChangedItems.{changed_there, set_same, set_other, place_below, length-changed}
use Rattle.boc_machine_laws.proofs.Lists.{times-here}
use Rattle.boc_machine_laws.proofs.Rows.{config_more}
use Rattle.boc_machine_laws.proofs.Keeps.{keeps_starts}
use Rattle.boc_rules.specs.Log.{Log, grown}
use Rattle.boc_dispatch.specs.declared.live.Live.{Live}
use Rattle.boc_dispatch.specs.Places.{begun}
use Rattle.boc_dispatch.specs.Inside.{Parts, state, live_at, open_of, queues_of, rows_at, row_or_0, IsKept, HasRooms}
use Rattle.boc_dispatch.specs.Inside.{AreCounted, IsMember, IsWished}
use Rattle.boc_dispatch.proofs.Tables.{live_same, live_other, live_new, at_slot, behaviours_length, numbered_changed, behaviours_changed}
use Rattle.boc_dispatch.proofs.Tables.{taken_changed}
use Rattle.boc_dispatch.proofs.Standing.{open_is, ready_distinct}
use Rattle.boc_dispatch.proofs.Going.{awaits_same, granted_same}
use Rattle.boc_dispatch.proofs.Onward.{Same, Onward, Known, Follows, follows_set, follows_as, stays, known, onward_at, queues_on, rows_on, home_on, chained_on}
use Rattle.boc_dispatch.proofs.Onward.{in_hand_on, wished_still}
use Rattle.boc_dispatch.proofs.Fits.{allowed_last}
use Rattle.boc_dispatch.proofs.Homes.{IsRowAt, row_at_slot}
use Rattle.boc_machine_laws.proofs.Asking.{among}
use Rattle.boc_machine_laws.proofs.Fitting.{asks_enqueues_at}

-- the first of the ready list, which stands there, is ready
pub first_ready : (d : Parts) → IsKept d → (slot : ℕ) (rest : List ℕ) → d.ready ≡ slot ∷ rest → (l : Live) → live_at d.live slot ≡ Some l
    → (row : ℕ) × (l.stage ≡ Recorded row phases.Ready)
first_ready d k slot rest head l is =
    let first = k.ready_there 0 slot (ap (λ (xs : List ℕ). slice_get xs 0) head) in
    (first.1, ap (λ (x : Live). x.stage) (live_same d.live slot first.0 l first.2 is) ∙ first.3)

-- under the row that the call told
pub first_told : (d : Parts) → IsKept d → (slot : ℕ) (rest : List ℕ) → d.ready ≡ slot ∷ rest → (l : Live) → live_at d.live slot ≡ Some l
    → (row : ℕ) → row_at l.stage ≡ Some row → l.stage ≡ Recorded row phases.Ready
first_told d k slot rest head l is row told =
    let f = first_ready d k slot rest head l is in
    let same : f.0 ≡ row = (let e : Some f.0 ≡ Some row = sym (ap row_at f.1) ∙ told in cc) in
    subst (λ (r : ℕ). l.stage ≡ Recorded r phases.Ready) same f.1

-- what a dispatcher has in hand once the first of its ready list started
abbrev pub started_parts : Parts → ℕ → Option Live → List ℕ → Log → Parts
started_parts d slot place rest log = record d { live = set d.live slot place; ready = rest; log = log; steps = d.steps + 1 }

module _ (d : Parts) (k : IsKept d) (slot : ℕ) (rest : List ℕ) (head : d.ready ≡ slot ∷ rest) (l : Live) (row : ℕ) (is : live_at d.live slot ≡ Some l)
    (stage_is : l.stage ≡ Recorded row phases.Ready) where
  abbrev m : Live
  m = begun row l

  abbrev table : List (Option Live)
  table = set d.live slot (Some m)

  abbrev e : Parts
  e = started_parts d slot (Some m) rest (grown d.log (Start row))

  row_is : row_at l.stage ≡ Some row
  row_is = ap row_at stage_is

  on : Onward l m
  on = onward_at l l.awaited (Recorded row phases.Ready) (Recorded row phases.Running) stage_is refl refl refl refl refl

  follows : Follows Onward d.live table
  follows = follows_set Onward stays d.live slot l m is on

  follows_same : Follows Same d.live table
  follows_same = follows_as Onward Same (λ x y r. r.same) d.live table follows

  queues_same_now : queues_of table d.lists ≡ queues_of d.live d.lists
  queues_same_now = queues_on d.live table follows_same d.lists

  abbrev t : State
  t = stepped (record (noted (with_stage (state d) l.number (open_of l) (Recorded row phases.Running)) (Start row)) { ready = rows_at d.live rest })

  state_then : state e ≡ t
  state_then = λ i. record {
    log = d.log.events ++ Start row ∷ [];
    behaviours = behaviours_changed d.live d.opened slot l m k.numbered is refl i;
    queues = queues_same_now i;
    ready = rows_on d.live table follows_same rest i;
    steps = d.steps + 1;
  }

  pub starts : Starts (state d) l.number row (state e)
  starts = record {
    this = open_of l;
    rest = rows_at d.live rest;
    is = open_is d k slot l is;
    stage_is = stage_is;
    head = ap (rows_at d.live) head
        ∙ ap (λ n. n ∷ rows_at d.live rest) (ap (λ o. option_map_or (λ (x : Live). row_or_0 x.stage) o 0) is ∙ ap row_or_0 stage_is);
    gives = state_then;
  }

  sound_then : IsSound d.program (state e)
  sound_then = keeps_starts d.program (state d) l.number row (state e) k.sound starts

  pub start_allowed : IsAllowed d.log.cowns (entries d.log.events) (Start row)
  start_allowed =
      subst (λ (n : ℕ). IsAllowed n (entries d.log.events) (Start row)) (sym k.cowns_are)
      (allowed_last d.program d.log.events (Start row) sound_then.run)

  -- ---- the rows of the run

  abbrev ms : List Member
  ms = members d.program (state d)

  abbrev start_it : Member → Member
  start_it = started_on (config_of d.program d.log.events).values

  members_then : members d.program (state e) ≡ changed ms row start_it (slice_get ms row)
  members_then = ap (λ (c : Config). c.members) (config_more d.program (opening d.program) d.log.events (Start row))

  values_then : (config_of d.program (d.log.events ++ Start row ∷ [])).values ≡ (config_of d.program d.log.events).values
  values_then = ap (λ (c : Config). c.values) (config_more d.program (opening d.program) d.log.events (Start row))

  own_row : IsRowAt d l row
  own_row = row_at_slot d k slot row l is row_is

  member_here : slice_get (members d.program (state e)) row ≡ Some (start_it own_row.member)
  member_here =
      ap (λ xs. slice_get xs row) (members_then ∙ changed_there ms row start_it own_row.member own_row.is)
      ∙ set_same ms row (start_it own_row.member) (place_below ms row own_row.member own_row.is)

  member_other : (r : ℕ) → r ≢ row → slice_get (members d.program (state e)) r ≡ slice_get ms r
  member_other r n =
      ap (λ xs. slice_get xs r) (members_then ∙ changed_there ms row start_it own_row.member own_row.is)
      ∙ set_other ms row r (start_it own_row.member) n

  new_at : (s : ℕ) (x : Live) → live_at table s ≡ Some x → ((s ≡ slot) × (x ≡ m)) ⊎ ((s ≢ slot) × (live_at d.live s ≡ Some x))
  new_at s x a =
      elim (live_new d.live slot (Some m) s x a) [
        | inl u ↦ (let f : Some m ≡ Some x = u.1 in let h : x ≡ m = cc in inl (u.0, h))
        | inr u ↦ inr u
      ]

  recorded_then : (s r : ℕ) (x : Live) → live_at table s ≡ Some x → row_at x.stage ≡ Some r → IsMember (members d.program (state e)) x r
  recorded_then s r x a b =
      elim (new_at s x a) [
        | inl u ↦
            (let same : row ≡ r = (let f : Some row ≡ Some r = ap (λ z. row_at z.stage) (sym u.1) ∙ b in cc) in
            subst (λ (z : Live). IsMember (members d.program (state e)) z r) (sym u.1)
            (subst (λ (n : ℕ). IsMember (members d.program (state e)) m n) same
            (record {
              member = start_it own_row.member;
              is = member_here;
              behaviour_is = own_row.behaviour_is;
              spawned_is = own_row.spawned_is;
            })))
        | inr u ↦
            (let q = k.of_run.recorded s r x u.1 b in
            let other : r ≢ row = (λ h. u.0 (let f : Some s ≡ Some slot = sym (k.at_home s r x u.1 b) ∙ ap (slice_get d.homes) h
            ∙ k.at_home slot row l is row_is in cc)) in
            record {
              member = q.member;
              is = member_other r other ∙ q.is;
              behaviour_is = q.behaviour_is;
              spawned_is = q.spawned_is;
            })
      ]

  asking_then : (s : ℕ) (x : Live) → live_at table s ≡ Some x → asks_at x.stage ≡ true → IsWished d.program (members d.program (state e)) x
  asking_then s x a b =
      elim (new_at s x a) [
        | inl u ↦ absurd (let f : false ≡ true = ap (λ z. asks_at z.stage) (sym u.1) ∙ b in cc)
        | inr u ↦
            (let q = k.of_run.asking s x u.1 b in
            let open_now = at_slot d.live d.opened s x k.numbered u.1 in
            let runs : state_of ms x.parent ≡ Some Running =
            subst (λ (n : ℕ). state_of ms n ≡ Some Running) (ap parent_of open_now)
            (k.sound.fits.parents x.number (ap enqueues open_now ∙ asks_enqueues_at x.stage b)) in
            let other : x.parent ≢ row = (λ h. absurd (let f : Some Pending ≡ Some Running =
            ap Some (sym (own_row.life_is ∙ ap life_at stage_is)) ∙ sym (ap (λ o. option_map (λ (z : Member). z.life) o) own_row.is) ∙ ap (state_of ms) (sym h)
            ∙ runs in cc)) in
            wished_still d.program ms (members d.program (state e)) x (ap (next_wish d.program) (member_other x.parent other)) q)
      ]

  counted_then : AreCounted (state e) table
  counted_then s x a b =
      elim (new_at s x a) [
        | inl u ↦ absurd (let f : false ≡ true = ap (λ z. enqueues_at z.stage || waits_at z.stage) (sym u.1) ∙ b in cc)
        | inr u ↦
            (let numbered = numbered_changed d.live d.opened slot l m k.numbered is refl in
            let same : at (state e) x.number ≡ at (state d) x.number =
            at_slot table d.opened s x numbered a ∙ sym (at_slot d.live d.opened s x k.numbered u.1) in
            k.counted s x u.1 b
            ∙ sym (awaits_same (state d) (state e) x (λ c. granted_same (state d) (state e) x.number c (ap settled same)
            (ap (λ qs. slice_index_or qs c []) queues_same_now))))
      ]

  ready_then : (j s : ℕ) → slice_get rest j ≡ Some s → (x : Live) × (r : ℕ) × (live_at table s ≡ Some x) × (x.stage ≡ Recorded r phases.Ready)
  ready_then j s a =
      let q = k.ready_there (suc j) s (ap (λ xs. slice_get xs (suc j)) head ∙ a) in
      let once = subst (λ (xs : List ℕ). times slot xs ≤ 1) head (ready_distinct d k slot) in
      let first = times-here slot rest in
      let other : s ≢ slot = (λ h. absurd (let stands = subst (λ (n : ℕ). 0 < times n rest) h (among rest j s a) in omega arith)) in
      (q.0, q.1, live_other d.live slot (Some m) s other ∙ q.2, q.3)

  pub start_keeps : IsKept e
  start_keeps = record {
    sound = sound_then;
    cowns_are = k.cowns_are;
    values_are = k.values_are ∙ sym values_then;
    homes_are = k.homes_are ∙ sym (ap length members_then ∙ length-changed ms row start_it (slice_get ms row));
    numbered = numbered_changed d.live d.opened slot l m k.numbered is refl;
    at_home = home_on d.live table follows_same d.homes k.at_home;
    in_hand =
        in_hand_on d.live table
        (follows_set Known known d.live slot l m is (record { same = (on).same; child = refl; enqueues = sym (ap enqueues_at stage_is) }))
        k.in_hand;
    chained = chained_on d.live table follows d.lists d.place k.chained;
    of_run = record { recorded = recorded_then; asking = asking_then };
    counted = counted_then;
    ready_there = ready_then;
    left = ap (λ n. n + d.gone) (taken_changed d.live d.opened slot l m k.numbered is refl) ∙ k.left;
  }

  pub start_rooms : (homes ready : ℕ) → HasRooms d homes ready → HasRooms e homes ready
  start_rooms homes ready rooms =
      let was = k.sound.counted in
      let now = sound_then.counted in
      let rows = ap length members_then ∙ length-changed ms row start_it (slice_get ms row) in
      let before = behaviours_length d.live d.opened in
      let after = behaviours_length table d.opened in
      let long = length-set d.live slot (Some m) in
      record { rooms = omega (arith, rooms.rooms); homes = omega (arith, rooms.homes); ready = omega (arith, rooms.ready); few = omega (arith, rooms.few) }

-- A drive from its opening to its end.
use Rattle.std.proofs.Common.{◌≡◌, ℕ, zero, suc, ◌≤◌, List, [], ◌∷◌, ◌++◌, length, map, take, replicate, refl, sym, ◌∙◌, ap, subst, arith}
use Rattle.std.specs.Prelude.{slice_get, slice_set, Option, Some, None, Err}
use Rattle.std.specs.Option.{option_map}
use Rattle.std.proofs.lemmas.List.{length-map, length-replicate, length-set, map-set}
use Rattle.std.proofs.lemmas.Option.{slice_get-map}
use Rattle.boc_program.specs.declared.program.Program.{Program}
use Rattle.boc_runs.specs.machine.Steps.{opening_state}
use Rattle.boc_runs.specs.machine.Sound.{IsSound}
use Rattle.boc_runs.specs.machine.Turns.{TakesTurn, Driven, Turn, Turns, opening_driven}
use Rattle.boc_program.proofs.ChangedItems.{place_below}
use Rattle.boc_machine_laws.proofs.Every.{opening_sound}
use Rattle.boc_machine_laws.proofs.OneTurn.{turns_keep, no_turn}
use Rattle.boc_eval.proofs.Taking.{take_next}
use Rattle.boc_dispatch.specs.declared.interleaving.DriveFault.{DriveFault}
use Rattle.boc_dispatch.specs.declared.interleaving.DriveFault.TheVariants as drive_faults
use Rattle.boc_dispatch.specs.declared.worker.Hand.{Hand}
use Rattle.boc_dispatch.specs.declared.worker.Hand.TheVariants as hands
use Rattle.boc_dispatch.specs.declared.worker.Worker.{Worker}
use Rattle.boc_dispatch.specs.Underway.{Underway}
use Rattle.boc_dispatch.specs.Calls.{in_state, HasNoRoom}
use Rattle.boc_dispatch.specs.Working.{row_in}
use Rattle.boc_dispatch.specs.Driving.{HandFits, IsCrew, IsAt, rows_of, of_program, HasNoWorker, RunsOutOfRows, Drives}
use Rattle.boc_dispatch.proofs.Crews.{crew_on}
use Rattle.boc_dispatch.proofs.Turned.{turns_more}

-- ---- lists

pub got_map : {A B : Type 0} (f : A → B) (xs : List A) (i : ℕ) (x : A) → slice_get xs i ≡ Some x → slice_get (map f xs) i ≡ Some (f x)
got_map f xs i x e = slice_get-map f xs i ∙ ap (option_map f) e

pub got_replicate : {A : Type 0} (n : ℕ) (x y : A) (i : ℕ) → slice_get (replicate n x) i ≡ Some y → y ≡ x
got_replicate zero x y i e = absurd (let g : None ≡ Some y = e in cc)
got_replicate (suc n) x y zero e = (let g : Some x ≡ Some y = e in cc)
got_replicate (suc n) x y (suc i) e = got_replicate n x y i e

map_replicate : {A B : Type 0} (f : A → B) (n : ℕ) (x : A) → map f (replicate n x) ≡ replicate n (f x)
map_replicate f zero x = refl
map_replicate f (suc n) x = ap (λ ys. f x ∷ ys) (map_replicate f n x)

rows_of_hands : (crew : List Worker) → rows_of crew ≡ map row_in (map (λ (w : Worker). w.hand) crew)
rows_of_hands [] = refl
rows_of_hands (w ∷ crew) = ap (λ rs. row_in w.hand ∷ rs) (rows_of_hands crew)

-- ---- the opening

-- a crew of idle workers
module _ (workers : ℕ) (crew : List Worker) (idle : map (λ (w : Worker). w.hand) crew ≡ replicate workers hands.Nothing) where
  idle_hand : (k : ℕ) (w : Worker) → slice_get crew k ≡ Some w → w.hand ≡ hands.Nothing
  idle_hand k w is = got_replicate workers hands.Nothing w.hand k (ap (λ hs. slice_get hs k) (sym idle) ∙ got_map (λ (v : Worker). v.hand) crew k w is)

  idle_crew : (u : Underway) → IsCrew u crew
  idle_crew u = record {
    fits = λ k w is. subst (HandFits u) (sym (idle_hand k w is)) tt;
    apart = λ j k row v w is_v is_w serves. absurd (let f : None ≡ Some row = ap row_in (sym (idle_hand j v is_v)) ∙ serves in cc);
  }

  idle_rows : rows_of crew ≡ replicate workers None
  idle_rows = rows_of_hands crew ∙ ap (map row_in) idle ∙ map_replicate row_in workers hands.Nothing

  pub at_first : (p : Program) (choices : List ℕ) (u : Underway) → u ≡ of_program p (opening_state p) → IsAt p workers choices 0 u crew
  at_first p choices u is = record {
    program = ap (λ (x : Underway). x.program) is;
    count = sym (length-map crew (λ (w : Worker). w.hand)) ∙ ap (λ (hs : List Hand). length hs) idle ∙ length-replicate workers hands.Nothing;
    fits = idle_crew u;
    turns = λ i. record { state = ap (λ (x : Underway). x.state) is i; serves = idle_rows i };
  }

-- ---- from one choice to the next

-- where a dispatcher and its workers stand
abbrev pub stands_at : Underway → List Worker → Driven
stands_at u crew = record { state = u.state; serves = rows_of crew }

module _ (p : Program) (workers : ℕ) (choices : List ℕ) (place : ℕ) (u : Underway) (crew : List Worker) (h : IsAt p workers choices place u crew) where
  pub at_sound : IsSound u.program u.state
  at_sound = subst (λ q. IsSound q u.state) (sym h.program)
      (turns_keep p (opening_driven p workers) (record { state = u.state; serves = rows_of crew }) (take place choices) (opening_sound p) h.turns)

  pub at_fits : (choice : ℕ) (w : Worker) → slice_get crew choice ≡ Some w → HandFits u w.hand
  at_fits choice w is = h.fits.fits choice w is

  -- the turn of a worker
  pub at_turn : (choice : ℕ) (v : Underway) (old new : Worker) → slice_get crew choice ≡ Some old
      → TakesTurn u.program u.state (row_in old.hand) v.state (row_in new.hand) → Turn p (stands_at u crew) choice (stands_at v (slice_set crew choice new))
  at_turn choice v old new is turn = record {
    before = row_in old.hand;
    after = row_in new.hand;
    is = got_map (λ (w : Worker). row_in w.hand) crew choice old is;
    takes = subst (λ q. TakesTurn q u.state (row_in old.hand) v.state (row_in new.hand)) h.program turn;
    serves_are = map-set (λ (w : Worker). row_in w.hand) crew choice new;
  }

  -- where there is no space for the next wish of the row of a worker, that has no turn
  pub none_where_full : (choice : ℕ) (w : Worker) → slice_get crew choice ≡ Some w → HasNoRoom (of_program p u.state) (row_in w.hand)
      → (after : Driven) → Turn p (stands_at u crew) choice after → ⊥
  none_where_full choice w is full after turn =
      let before : turn.before ≡ Some full.served = (let f : Some turn.before ≡ Some (row_in w.hand) = sym turn.is
      ∙ got_map (λ (x : Worker). row_in x.hand) crew choice w is in
      let g : turn.before ≡ row_in w.hand = cc in g ∙ full.serves) in
      no_turn p u.state after.state full.served full.wish turn.after (subst (λ q. IsSound q u.state) h.program at_sound) full.runs full.none_open full.next
      (omega (arith, full.full)) (subst (λ o. TakesTurn p u.state o after.state turn.after) before turn.takes)

  pub of_own : (row : Option ℕ) → HasNoRoom u row → HasNoRoom (of_program p u.state) row
  of_own row = subst (λ (x : Underway). HasNoRoom x row) (λ i. record { program = h.program i; state = u.state })

  module _ (choice : ℕ) (chosen : slice_get choices place ≡ Some choice) where
    pub at_next : (v : Underway) (old new : Worker) → slice_get crew choice ≡ Some old → TakesTurn u.program u.state (row_in old.hand) v.state (row_in new.hand)
        → v.program ≡ u.program → HandFits v new.hand → IsAt p workers choices (suc place) v (slice_set crew choice new)
    at_next v old new is turn same fits =
        let there : v ≡ in_state u v.state = (λ i. record { program = same i; state = v.state }) in
        record {
          program = same ∙ h.program;
          count = length-set crew choice new ∙ h.count;
          fits = subst (λ (x : Underway). IsCrew x (slice_set crew choice new)) (sym there)
              (crew_on u v.state crew choice old new at_sound h.fits is turn (subst (λ (x : Underway). HandFits x new.hand) there fits));
          turns = subst (λ cs. Turns p (opening_driven p workers) cs (stands_at v (slice_set crew choice new)))
              (sym (take_next choices place choice chosen))
              (turns_more p (opening_driven p workers) (take place choices) choice (stands_at u crew) (stands_at v (slice_set crew choice new)) h.turns
              (at_turn choice v old new is turn));
        }

    pub at_stranger : length crew ≤ choice → HasNoWorker p workers choices place
    at_stranger past = record {
      before = record { state = u.state; serves = rows_of crew };
      turns = h.turns;
      choice = choice;
      is = chosen;
      past = omega (arith, past, h.count);
    }

    pub at_full : (w : Worker) → slice_get crew choice ≡ Some w → HasNoRoom u (row_in w.hand) → RunsOutOfRows p workers choices
    at_full w is full =
        let no_room = of_own (row_in w.hand) full in
        record {
          place = place;
          before = record { state = u.state; serves = rows_of crew };
          turns = h.turns;
          choice = choice;
          is = chosen;
          below = omega (arith, place_below crew choice w is, h.count);
          row = row_in w.hand;
          serves = got_map (λ (x : Worker). row_in x.hand) crew choice w is;
          full = no_room;
          none = none_where_full choice w is no_room;
        }

-- a fault that is passed on
pub ends_by : (p : Program) (workers : ℕ) (choices : List ℕ) (fault : DriveFault) → (fault ≡ drive_faults.Behaviours → RunsOutOfRows p workers choices)
    → ((place : ℕ) → fault ≡ drive_faults.NoSuchWorker place → ⊥) → Drives p workers choices (Err fault)
ends_by p workers choices (drive_faults.NoSuchWorker place) full never = absurd (never place refl)
ends_by p workers choices drive_faults.Behaviours full never = full refl
ends_by p workers choices drive_faults.Memory full never = tt

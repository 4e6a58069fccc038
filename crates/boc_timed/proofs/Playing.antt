-- A timed run, from turn to turn.
use Rattle.std.proofs.Common.{◌≡◌, ℕ, suc, ◌+◌, ◌*◌, ◌-◌, ◌<◌, ◌≤◌, Bool, List, [], ◌∷◌, ◌++◌, length, get_or, map, refl, sym, ◌∙◌, ap, subst, arith}
use Rattle.std.proofs.Common.{length-append}
use Rattle.std.specs.Prelude.{slice_get, slice_set, replicate, Option, Some, None, Ok, Err}
use Rattle.std.specs.Option.{is_none, is_some}
use Rattle.std.specs.List.{Contains}
use Rattle.std.proofs.lemmas.List.{length-map}
use Rattle.std.proofs.lemmas.List.Elements.{Contains-get_or}
use Rattle.std.proofs.lemmas.Option.{slice_get_read, slice_get-get_or}
use Rattle.boc_program.specs.declared.limits.TheConstants.{MOST_ROWS, MOST_RUNNERS}
use Rattle.boc_program.specs.declared.program.Program.{Program}
use Rattle.boc_program.proofs.ChangedItems.{place_below, last_item, set_same}
use Rattle.boc_program.proofs.RisingNumbers.{none_in_none}
use Rattle.boc_runs.specs.machine.Steps.{State, IsQuiet, members, opening_state}
use Rattle.boc_runs.specs.machine.Sound.{IsSound}
use Rattle.boc_runs.specs.machine.Turns.{TakesTurn, Driven, Turn, opening_driven}
use Rattle.boc_runs.specs.machine.Movers.{SomebodyCanStep}
use Rattle.boc_machine_laws.proofs.Bounds.{few_steps}
use Rattle.boc_machine_laws.proofs.Moving.{none_is_stuck}
use Rattle.boc_machine_laws.proofs.OneTurn.{turn_keeps}
use Rattle.boc_dispatch.specs.declared.calls.Mover.{Mover}
use Rattle.boc_dispatch.specs.declared.worker.Hand.TheVariants as hands
use Rattle.boc_dispatch.specs.declared.worker.Worker.{Worker}
use Rattle.boc_dispatch.specs.Underway.{Underway}
use Rattle.boc_dispatch.specs.Calls.{CanMove as MoverMoves, HasNoRoom}
use Rattle.boc_dispatch.specs.Driving.{HandFits, IsAt, of_program, row_for, rows_of}
use Rattle.boc_dispatch.specs.NextCalls.{TellsCallOf}
use Rattle.boc_dispatch.specs.Stepping.{CanTurn}
use Rattle.boc_dispatch.specs.Working.{row_in}
use Rattle.boc_dispatch.proofs.CanTurns.{who_steps}
use Rattle.boc_dispatch.proofs.Driven.{at_first, at_sound, at_turn, at_next, none_where_full, of_own, got_map}
use Rattle.boc_dispatch.proofs.Quieting.{no_workers}
use Rattle.boc_draws.specs.Draws.{AreMovers, CanMove, stands_at}
use Rattle.boc_draws.proofs.Moving.{can_move, can_turn}
use Rattle.boc_draws.proofs.Picking.{stands_there}
use Rattle.boc_draws.proofs.Playing.{at_longer, makes_step, movers_in, none_or_some}
use Rattle.boc_clock.specs.declared.clocks.Clocks.{Clocks}
use Rattle.boc_clock.specs.Clocks.{AreWithin, IsDueFirst, first_clocks, moved_on, time_of}
use Rattle.boc_timed.specs.declared.fault.TimedFault.{TimedFault}
use Rattle.boc_timed.specs.declared.fault.TimedFault.TheVariants as faults
use Rattle.boc_timed.specs.declared.timetable.Timetable.{Timetable}
use Rattle.boc_timed.specs.Timed.{IsDue, MovesOn, Plays, RunsOut, StartsAt, TimedTurns, TimesTo}
use Rattle.boc_timed.specs.Timetables.{IsEven, NotesStart}
use Rattle.boc_timed.proofs.Noting.{HasNoted, noted_all, noted_first, noted_next}

-- the one that is due is among the movers
pub due_is_there : (movers : List ℕ) (place x : ℕ) → slice_get movers place ≡ Some x → Contains movers x
due_is_there movers place x is = stands_there movers place x is

-- one more turn at the end
timed_more : (p : Program) (d : Driven) (c : Clocks) (xs : List ℕ) (x : ℕ) (e f : Driven) (later on : Clocks) → TimedTurns p d c xs e later
    → IsDue p e later x → Turn p e x f → MovesOn p f later x on → TimedTurns p d c (xs ++ x ∷ []) f on
timed_more p d c [] x e f later on t due turn moves = (
  f,
  on,
  subst (λ (m : Driven). IsDue p m c x) t.0 (subst (λ (k : Clocks). IsDue p e k x) t.1 due),
  subst (λ (m : Driven). Turn p m x f) t.0 turn,
  subst (λ (k : Clocks). MovesOn p f k x on) t.1 moves,
  (refl, refl),
)
timed_more p d c (y ∷ xs) x e f later on t due turn moves =
    (t.0, t.1, t.2, t.3, t.4, timed_more p t.0 t.1 xs x e f later on t.5 due turn moves)

-- So many workers have come there by the turns of those that were due first, what they have in hand fits, and the clocks are within bounds. Each row that
-- has started is noted.
pub record PlaysOn (p : Program) (workers : ℕ) (u : Underway) (crew : List Worker) (c : Clocks) (t : Timetable) : Type 0 where
  pub choices : List ℕ
  pub at : IsAt p workers choices (length choices) u crew
  pub turns : TimesTo p workers choices (stands_at u crew) c
  pub within : AreWithin c u.state.steps
  pub noted : HasNoted p workers choices (members p u.state) t

pub plays_first : (p : Program) (workers : ℕ) (u : Underway) (crew : List Worker) (c : Clocks) (t : Timetable)
    → map (λ (w : Worker). w.hand) crew ≡ replicate workers hands.Nothing → u ≡ of_program p (opening_state p) → c ≡ first_clocks
    → ((steps : ℕ) → AreWithin c steps) → t.p ≡ workers → t.starts.items ≡ [] → PlaysOn p workers u crew c t
plays_first p workers u crew c t idle is first within p_is none =
    let at = at_first workers crew idle p [] u is in
    record {
      choices = [];
      at = at;
      turns = (at.turns, first);
      within = within u.state.steps;
      noted = noted_first p workers u.state t (ap (λ (x : Underway). x.state) is) p_is none;
    }

-- the one of those that can move which is due first
pub record IsChosen (u : Underway) (crew : List Worker) (c : Clocks) (chosen : ℕ) : Type 0 where
  pub movers : List ℕ
  pub are : AreMovers u.program (stands_at u crew) movers
  pub place : ℕ
  pub is : slice_get movers place ≡ Some chosen
  pub first : IsDueFirst c movers place
  pub can : CanMove u.program (stands_at u crew) chosen

pub is_chosen : (u : Underway) (crew : List Worker) (c : Clocks) (movers : List ℕ) (place : ℕ) → AreMovers u.program (stands_at u crew) movers
    → IsDueFirst c movers place → IsChosen u crew c (get_or movers place 0)
is_chosen u crew c movers place are first =
    let is : slice_get movers place ≡ Some (get_or movers place 0) = slice_get-get_or movers place 0 first.there in
    record {
      movers = movers;
      are = are;
      place = place;
      is = is;
      first = first;
      can = are.can (get_or movers place 0) (due_is_there movers place (get_or movers place 0) is);
    }

-- as it was found in the same crew, and among the same movers
pub chosen_of : (u : Underway) (crew ws : List Worker) (c : Clocks) (movers base args : List ℕ) (place : ℕ) → ws ≡ crew → base ≡ movers → args ≡ movers
    → AreMovers u.program (stands_at u ws) movers → IsDueFirst c args place → IsChosen u crew c (get_or base place 0)
chosen_of u crew ws c movers base args place same own seen are first =
    is_chosen u crew c base place (movers_in u crew ws movers base same own are) (subst (λ (ms : List ℕ). IsDueFirst c ms place) (seen ∙ sym own) first)

-- a turn keeps a state sound
pub takes_keeps : (p : Program) (s t : State) (before after : Option ℕ) → IsSound p s → TakesTurn p s before t after → IsSound p t
takes_keeps p s t before after k takes =
    turn_keeps p (record { state = s; serves = before ∷ [] }) (record { state = t; serves = after ∷ [] }) 0 k
    (record { before = before; after = after; is = refl; takes = takes; serves_are = refl })

module _ (p : Program) (workers : ℕ) (u : Underway) (crew : List Worker) (c : Clocks) (t : Timetable) (g : PlaysOn p workers u crew c t) where
  abbrev xs : List ℕ
  xs = g.choices

  pub sound_there : IsSound u.program u.state
  sound_there = at_sound p workers xs (length xs) u crew g.at

  sound_of_own : IsSound p u.state
  sound_of_own = subst (λ (q : Program). IsSound q u.state) g.at.program sound_there

  pub fits_there : (k : ℕ) (w : Worker) → slice_get crew k ≡ Some w → HandFits u w.hand
  fits_there k w is = g.at.fits.fits k w is

  -- there are few steps so far
  pub few_there : u.state.steps ≤ 36 * MOST_ROWS
  few_there = few_steps u.program u.state sound_there

  -- ---- somebody can move, unless all is over

  served_moves : (row : Option ℕ) → CanTurn u row → (k : ℕ) (w : Worker) → slice_get crew k ≡ Some w → row_in w.hand ≡ row
      → CanMove u.program (stands_at u crew) k
  served_moves row turns k w is same = can_move u crew k w is (subst (CanTurn u) (sym same) turns)

  module _ (movers_are : AreMovers u.program (stands_at u crew) []) (some : 0 < workers) where
    nobody : (k : ℕ) → CanMove u.program (stands_at u crew) k → ⊥
    nobody k can = none_in_none k (movers_are.all k can)

    not_this : (mover : Mover) → MoverMoves u mover → CanTurn u (row_for mover) → ⊥
    not_this mover can turns =
        let none = no_workers p workers xs (length xs) u crew g.at mover can (λ j w is same. nobody j (served_moves (row_for mover) turns j w is same)) in
        omega (arith, some, none)

    stuck : SomebodyCanStep u.program u.state → ⊥
    stuck can = let w = who_steps u sound_there can in not_this w.0 w.1 w.2

    over_there : IsQuiet u.state
    over_there = none_is_stuck u.program u.state sound_there stuck

  pub some_there : (movers : List ℕ) → AreMovers u.program (stands_at u crew) movers → 0 < workers → (IsQuiet u.state → ⊥) → 0 < length movers
  some_there movers are some busy =
      none_or_some movers (λ none. busy (over_there (subst (AreMovers u.program (stands_at u crew)) none are) some))

  -- whoever can move is one of them
  pub mover_below : (k : ℕ) → CanMove u.program (stands_at u crew) k → k < workers
  mover_below k can = omega (arith, place_below (rows_of crew) k can.row can.serves, length-map crew (λ (w : Worker). row_in w.hand), g.at.count)

  pub movers_low : (movers : List ℕ) → AreMovers u.program (stands_at u crew) movers → workers ≤ MOST_RUNNERS → (k d : ℕ) → k < length movers
      → get_or movers k d < MOST_RUNNERS
  movers_low movers are few k d low = omega (arith, mover_below (get_or movers k d) (are.can (get_or movers k d) (Contains-get_or movers k d low)), few)

  -- ---- the next turn

  module _ (chosen : ℕ) (h : IsChosen u crew c chosen) where
    due_own : IsDue p (stands_at u crew) c chosen
    due_own = record {
      movers = h.movers;
      are = subst (λ (q : Program). AreMovers q (stands_at u crew) h.movers) g.at.program h.are;
      place = h.place;
      is = h.is;
      first = h.first;
    }

    pub low : chosen < length crew
    low = omega (arith, place_below (rows_of crew) chosen h.can.row h.can.serves, length-map crew (λ (w : Worker). row_in w.hand))

    pub read_there : (w : Worker) → w ≡ get_or crew chosen w → slice_get crew chosen ≡ Some w
    read_there w reads = slice_get_read crew (length crew) chosen w refl low reads

    module _ (old : Worker) (is : slice_get crew chosen ≡ Some old) where
      module _ (v : Underway) (new : Worker) (turn : TakesTurn u.program u.state (row_in old.hand) v.state (row_in new.hand)) (same : v.program ≡ u.program)
          (fits : HandFits v new.hand) where
        makes : v.state.steps ≡ u.state.steps + 1
        makes = makes_step u sound_there (row_in old.hand) v.state (row_in new.hand) (can_turn u crew chosen old is h.can) turn

        serves_new : slice_get (rows_of (slice_set crew chosen new)) chosen ≡ Some (row_in new.hand)
        serves_new = got_map (λ (x : Worker). row_in x.hand) (slice_set crew chosen new) chosen new (set_same crew chosen new low)

        next_at : IsAt p workers (xs ++ chosen ∷ []) (length (xs ++ chosen ∷ [])) v (slice_set crew chosen new)
        next_at =
            let next = at_next p workers (xs ++ chosen ∷ []) (length xs) u crew (at_longer p workers xs chosen u crew g.at) chosen
            (last_item xs chosen) v old new is turn same fits in
            let count : suc (length xs) ≡ length (xs ++ chosen ∷ []) = omega (arith, length-append xs (chosen ∷ [])) in
            subst (λ n. IsAt p workers (xs ++ chosen ∷ []) n v (slice_set crew chosen new)) count next

        turn_there : Turn p (stands_at u crew) chosen (stands_at v (slice_set crew chosen new))
        turn_there = at_turn p workers xs (length xs) u crew g.at chosen v old new is turn

        -- it was idle, and serves a row now
        starts_there : (row : ℕ) → row_in old.hand ≡ None → row_in new.hand ≡ Some row → StartsAt p workers (xs ++ chosen ∷ []) row (time_of c chosen) chosen
        starts_there row was now = record {
          before = xs;
          after = [];
          split = refl;
          stands = stands_at u crew;
          clocks = c;
          turns = g.turns;
          idle = got_map (λ (x : Worker). row_in x.hand) crew chosen old is ∙ ap (λ (o : Option ℕ). Some o) was;
          next = stands_at v (slice_set crew chosen new);
          turn = turn_there;
          serves = serves_new ∙ ap (λ (o : Option ℕ). Some o) now;
          time_is = refl;
        }

        noted_there : (later : Timetable) (time : ℕ) (idle : Bool) → time ≡ time_of c chosen → idle ≡ is_none (row_in old.hand)
            → NotesStart t idle (row_in new.hand) time chosen later → HasNoted p workers (xs ++ chosen ∷ []) (members p v.state) later
        noted_there later time idle time_is idle_is notes =
            noted_next p workers xs u.state v.state t later g.noted sound_of_own (row_in old.hand) (row_in new.hand)
            (subst (λ (q : Program). TakesTurn q u.state (row_in old.hand) v.state (row_in new.hand)) g.at.program turn) chosen (time_of c chosen) idle
            idle_is (subst (λ n. NotesStart t idle (row_in new.hand) n chosen later) time_is notes) starts_there

        pub plays_next : (call : Option ℕ) → TellsCallOf v.program v.state (row_in new.hand) call → (on : Clocks)
            → on ≡ moved_on c chosen (is_some (row_in new.hand)) call → (made : ℕ) → made ≡ u.state.steps → AreWithin on (made + 1)
            → (later : Timetable) (time : ℕ) (idle : Bool) → time ≡ time_of c chosen → idle ≡ is_none (row_in old.hand)
            → NotesStart t idle (row_in new.hand) time chosen later → PlaysOn p workers v (slice_set crew chosen new) on later
        plays_next call tells on moved made were within later time idle time_is idle_is notes = record {
          choices = xs ++ chosen ∷ [];
          at = next_at;
          turns = timed_more p (opening_driven p workers) first_clocks xs chosen (stands_at u crew) (stands_at v (slice_set crew chosen new)) c on g.turns
              due_own turn_there
              (record {
                row = row_in new.hand;
                serves = serves_new;
                call = call;
                tells = subst (λ (q : Program). TellsCallOf q v.state (row_in new.hand) call) (same ∙ g.at.program) tells;
                clocks = moved;
              });
          within = subst (AreWithin on) (ap (λ n. n + 1) were ∙ sym makes) within;
          noted = noted_there later time idle time_is idle_is notes;
        }

        -- there are ever fewer steps to make
        pub fewer_left : 36 * MOST_ROWS - v.state.steps < 36 * MOST_ROWS - u.state.steps
        fewer_left =
            let few = few_steps v.program v.state (at_sound p workers (xs ++ chosen ∷ []) (length (xs ++ chosen ∷ [])) v (slice_set crew chosen new) next_at) in
            omega (arith, makes, few)

      pub runs_out : HasNoRoom u (row_in old.hand) → RunsOut p workers
      runs_out full =
          let own = of_own p workers xs (length xs) u crew g.at (row_in old.hand) full in
          record {
            choices = xs;
            before = stands_at u crew;
            later = c;
            turns = g.turns;
            worker = chosen;
            due = due_own;
            row = row_in old.hand;
            serves = got_map (λ (x : Worker). row_in x.hand) crew chosen old is;
            full = own;
            none = none_where_full p workers xs (length xs) u crew g.at chosen old is own;
          }

  pub plays_over : IsQuiet u.state → IsEven t → Plays p workers t (Ok u)
  plays_over quiet even = record {
    choices = xs;
    end = stands_at u crew;
    later = c;
    turns = g.turns;
    is = λ i. record { program = g.at.program i; state = u.state };
    quiet = quiet;
    scheduled = noted_all p workers xs u.state t g.noted even sound_of_own quiet;
  }

-- a fault that is passed on
pub ends_so : (p : Program) (workers : ℕ) (t : Timetable) (fault : TimedFault) → (fault ≡ faults.Behaviours → RunsOut p workers)
    → Plays p workers t (Err fault)
ends_so p workers t faults.Behaviours full = full refl
ends_so p workers t faults.Memory full = tt

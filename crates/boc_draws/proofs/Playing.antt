-- A draw, from turn to turn.
use Rattle.std.proofs.Common.{◌≡◌, ℕ, suc, ◌+◌, ◌*◌, ◌-◌, ◌<◌, inl, inr, List, [], ◌∷◌, ◌++◌, length, get_or, refl, sym, ◌∙◌, ap, subst, arith}
use Rattle.std.proofs.Common.{length-append, map}
use Rattle.std.specs.Prelude.{slice_get, slice_set, replicate, Option, Some, Result, Ok, Err, OnOk}
use Rattle.std.proofs.lemmas.List.{take-append-le, length-map}
use Rattle.std.proofs.lemmas.Option.{slice_get_read}
use Rattle.boc_program.specs.declared.limits.TheConstants.{MOST_ROWS}
use Rattle.boc_program.specs.declared.program.Program.{Program}
use Rattle.boc_program.proofs.ChangedItems.{place_below, last_item}
use Rattle.boc_program.proofs.RisingNumbers.{none_in_none}
use Rattle.boc_runs.specs.machine.Steps.{State, IsQuiet, opening_state}
use Rattle.boc_runs.specs.machine.Sound.{IsSound}
use Rattle.boc_runs.specs.machine.Turns.{TakesTurn, Driven, Turn, Turns, opening_driven}
use Rattle.boc_runs.specs.machine.Movers.{SomebodyCanStep}
use Rattle.boc_machine_laws.proofs.Bounds.{few_steps}
use Rattle.boc_machine_laws.proofs.Moving.{none_is_stuck}
use Rattle.boc_machine_laws.proofs.OneTurn.{takes_one, no_turn}
use Rattle.boc_dispatch.specs.declared.calls.Mover.{Mover}
use Rattle.boc_dispatch.specs.declared.interleaving.DriveFault.{DriveFault}
use Rattle.boc_dispatch.specs.declared.interleaving.DriveFault.TheVariants as drive_faults
use Rattle.boc_dispatch.specs.declared.worker.Hand.TheVariants as hands
use Rattle.boc_dispatch.specs.declared.worker.Worker.{Worker}
use Rattle.boc_dispatch.specs.Underway.{Underway}
use Rattle.boc_dispatch.specs.Calls.{CanMove as MoverMoves, HasNoRoom}
use Rattle.boc_dispatch.specs.Driving.{HandFits, IsAt, of_program, row_for, rows_of}
use Rattle.boc_dispatch.specs.Working.{row_in}
use Rattle.boc_dispatch.specs.Stepping.{CanTurn}
use Rattle.boc_dispatch.proofs.CanTurns.{who_steps}
use Rattle.boc_dispatch.proofs.Driven.{at_first, at_sound, at_turn, at_next, none_where_full, of_own, got_map}
use Rattle.boc_dispatch.proofs.Quieting.{no_workers}
use Rattle.boc_draws.specs.declared.fault.DrawFault.{DrawFault}
use Rattle.boc_draws.specs.declared.picker.Picker.{Picker}
use Rattle.boc_draws.specs.declared.way.Way.{Way}
use Rattle.boc_draws.specs.Picks.{picked, picker_of, Meets, HasAll}
use Rattle.boc_draws.specs.Draws.{CanMove, AreMovers, Picks, PickedTurns, DrawsTo, RunsOut, EndsBy, Plays, stands_at}
use Rattle.boc_draws.proofs.Moving.{can_move, can_turn}
use Rattle.boc_draws.proofs.Picking.{picked_is_there, all_first, all_next, meets}

-- one more turn at the end
picked_more : (p : Program) (d : Driven) (picker : Picker) (xs : List ℕ) (x : ℕ) (e f : Driven) (later on : Picker) → PickedTurns p d picker xs e later
    → Picks p e later x on → Turn p e x f → PickedTurns p d picker (xs ++ x ∷ []) f on
picked_more p d picker [] x e f later on t picks turn = (
  f,
  on,
  subst (λ (m : Driven). Picks p m picker x on) t.0 (subst (λ (z : Picker). Picks p e z x on) t.1 picks),
  subst (λ (m : Driven). Turn p m x f) t.0 turn,
  (refl, refl),
)
picked_more p d picker (y ∷ xs) x e f later on t picks turn =
    (t.0, t.1, t.2, t.3, picked_more p t.0 t.1 xs x e f later on t.4 picks turn)

-- so many workers have come there by the turns of those that were picked, and what they have in hand fits
pub record PlaysOn (p : Program) (workers : ℕ) (way : Way) (seed : ℕ) (u : Underway) (crew : List Worker) (picker : Picker) : Type 0 where
  pub choices : List ℕ
  pub at : IsAt p workers choices (length choices) u crew
  pub turns : DrawsTo p workers way seed choices (stands_at u crew) picker
  pub all : HasAll picker workers

pub plays_first : (p : Program) (workers : ℕ) (way : Way) (seed : ℕ) (u : Underway) (crew : List Worker) (picker : Picker)
    → map (λ (w : Worker). w.hand) crew ≡ replicate workers hands.Nothing → u ≡ of_program p (opening_state p) → picker ≡ picker_of way workers seed
    → PlaysOn p workers way seed u crew picker
plays_first p workers way seed u crew picker idle is first =
    let at = at_first workers crew idle p [] u is in
    record {
      choices = [];
      at = at;
      turns = (at.turns, first);
      all = subst (λ (q : Picker). HasAll q workers) (sym first) (all_first way workers seed);
    }

pub at_longer : (p : Program) (workers : ℕ) (xs : List ℕ) (x : ℕ) (u : Underway) (crew : List Worker) → IsAt p workers xs (length xs) u crew
    → IsAt p workers (xs ++ x ∷ []) (length xs) u crew
at_longer p workers xs x u crew h = record {
  program = h.program;
  count = h.count;
  fits = h.fits;
  turns = subst (λ cs. Turns p (opening_driven p workers) cs (stands_at u crew)) (sym (take-append-le (length xs) xs (x ∷ []) (omega arith))) h.turns;
}

-- one of those that can move is picked
pub record IsChosen (u : Underway) (crew : List Worker) (picker : Picker) (chosen : ℕ) (on : Picker) : Type 0 where
  pub movers : List ℕ
  pub are : AreMovers u.program (stands_at u crew) movers
  pub pick : picked picker u.state.steps movers ≡ (Some chosen, on)
  pub can : CanMove u.program (stands_at u crew) chosen

-- as they were found in the same crew
pub movers_in : (u : Underway) (crew ws : List Worker) (movers ms : List ℕ) → ws ≡ crew → ms ≡ movers → AreMovers u.program (stands_at u ws) movers
    → AreMovers u.program (stands_at u crew) ms
movers_in u crew ws movers ms same own are =
    subst (λ (xs : List Worker). AreMovers u.program (stands_at u xs) ms) same (subst (AreMovers u.program (stands_at u ws)) (sym own) are)

pub is_chosen : (u : Underway) (crew : List Worker) (picker : Picker) (chosen : ℕ) (on : Picker) (movers : List ℕ)
    → AreMovers u.program (stands_at u crew) movers → picked picker u.state.steps movers ≡ (Some chosen, on) → IsChosen u crew picker chosen on
is_chosen u crew picker chosen on movers are pick =
    record { movers = movers; are = are; pick = pick; can = are.can chosen (picked_is_there picker u.state.steps movers chosen on pick) }

-- what is said of an answer that is no fault
pub without_fault : {X : Type 0} {F : Type 0} (r : Result (Unit {0}) F) → ((f : F) → r ≡ Err f → ⊥) → OnOk r X → X
without_fault (Ok x) none on = on
without_fault (Err f) none on = absurd (none f refl)

-- what isn't empty has some
pub none_or_some : (xs : List ℕ) → (xs ≡ [] → ⊥) → 0 < length xs
none_or_some [] some = absurd (some refl)
none_or_some (x ∷ xs) some = omega arith

-- one that can move and has a turn makes a step
pub makes_step : (u : Underway) (k : IsSound u.program u.state) (row : Option ℕ) (t : State) (after : Option ℕ) → CanTurn u row
    → TakesTurn u.program u.state row t after → t.steps ≡ u.state.steps + 1
makes_step u k row t after (inl m) turn =
    let one = takes_one u.program u.state k row t m.state after m.after turn m.takes in ap (λ (s : State). s.steps) one.0 ∙ m.steps
makes_step u k row t after (inr full) turn =
    absurd (no_turn u.program u.state t full.served full.wish after k full.runs full.none_open full.next (omega (arith, full.full))
    (subst (λ o. TakesTurn u.program u.state o t after) full.serves turn))

module _ (p : Program) (workers : ℕ) (way : Way) (seed : ℕ) (u : Underway) (crew : List Worker) (picker : Picker)
    (g : PlaysOn p workers way seed u crew picker) where
  abbrev xs : List ℕ
  xs = g.choices

  pub sound_there : IsSound u.program u.state
  sound_there = at_sound p workers xs (length xs) u crew g.at

  pub fits_there : (k : ℕ) (w : Worker) → slice_get crew k ≡ Some w → HandFits u w.hand
  fits_there k w is = g.at.fits.fits k w is

  -- ---- somebody can move, unless all is over

  served_moves : (row : Option ℕ) → CanTurn u row → (k : ℕ) (w : Worker) → slice_get crew k ≡ Some w → row_in w.hand ≡ row
      → CanMove u.program (stands_at u crew) k
  served_moves row turns k w is same = can_move u crew k w is (subst (CanTurn u) (sym same) turns)

  module _ (movers_are : AreMovers u.program (stands_at u crew) []) (some : 0 < workers) where
    nobody : (k : ℕ) → CanMove u.program (stands_at u crew) k → ⊥
    nobody k can = none_in_none k (movers_are.all k can)

    not_this : (mover : Mover) → MoverMoves u mover → CanTurn u (row_for mover) → ⊥
    not_this mover can turns =
        let none = no_workers p workers xs (length xs) u crew g.at mover can (λ j w is same. nobody j (served_moves (row_for mover) turns j w is same)) in
        omega (arith, some, none)

    stuck : SomebodyCanStep u.program u.state → ⊥
    stuck can = let w = who_steps u sound_there can in not_this w.0 w.1 w.2

    pub over_there : IsQuiet u.state
    over_there = none_is_stuck u.program u.state sound_there stuck

  -- one of those that can move can be picked
  pub meets_there : (movers : List ℕ) → AreMovers u.program (stands_at u crew) movers → 0 < workers → (IsQuiet u.state → ⊥) → Meets picker movers
  meets_there movers are some busy =
      meets picker workers movers g.all
      (λ m has.
      (let can = are.can m has in
      omega (arith, place_below (rows_of crew) m can.row can.serves, length-map crew (λ (w : Worker). row_in w.hand), g.at.count)))
      (none_or_some movers (λ none. busy (over_there (subst (AreMovers u.program (stands_at u crew)) none are) some)))

  -- ---- the next turn

  module _ (chosen : ℕ) (on : Picker) (h : IsChosen u crew picker chosen on) where
    picks_own : Picks p (stands_at u crew) picker chosen on
    picks_own = record {
      movers = h.movers;
      are = subst (λ (q : Program). AreMovers q (stands_at u crew) h.movers) g.at.program h.are;
      pick = h.pick;
    }

    pub low : chosen < length crew
    low = omega (arith, place_below (rows_of crew) chosen h.can.row h.can.serves, length-map crew (λ (w : Worker). row_in w.hand))

    pub read_there : (w : Worker) → w ≡ get_or crew chosen w → slice_get crew chosen ≡ Some w
    read_there w reads = slice_get_read crew (length crew) chosen w refl low reads

    module _ (old : Worker) (is : slice_get crew chosen ≡ Some old) where
      module _ (v : Underway) (new : Worker) (turn : TakesTurn u.program u.state (row_in old.hand) v.state (row_in new.hand)) (same : v.program ≡ u.program)
          (fits : HandFits v new.hand) where
        pub plays_next : PlaysOn p workers way seed v (slice_set crew chosen new) on
        plays_next =
            let next = at_next p workers (xs ++ chosen ∷ []) (length xs) u crew (at_longer p workers xs chosen u crew g.at) chosen
            (last_item xs chosen) v old new is turn same fits in
            let count : suc (length xs) ≡ length (xs ++ chosen ∷ []) = omega (arith, length-append xs (chosen ∷ [])) in
            record {
              choices = xs ++ chosen ∷ [];
              at = subst (λ n. IsAt p workers (xs ++ chosen ∷ []) n v (slice_set crew chosen new)) count next;
              turns = picked_more p (opening_driven p workers) (picker_of way workers seed) xs chosen (stands_at u crew)
                  (stands_at v (slice_set crew chosen new)) picker on g.turns picks_own (at_turn p workers xs (length xs) u crew g.at chosen v old new is turn);
              all = all_next picker workers u.state.steps h.movers chosen on g.all h.pick;
            }

        -- there are ever fewer steps to make
        pub fewer_left : 36 * MOST_ROWS - v.state.steps < 36 * MOST_ROWS - u.state.steps
        fewer_left =
            let next = plays_next in
            let more = makes_step u sound_there (row_in old.hand) v.state (row_in new.hand) (can_turn u crew chosen old is h.can) turn in
            let few = few_steps v.program v.state (at_sound p workers next.choices (length next.choices) v (slice_set crew chosen new) next.at) in
            omega (arith, more, few)

      pub runs_out : HasNoRoom u (row_in old.hand) → RunsOut p workers way seed
      runs_out full =
          let own = of_own p workers xs (length xs) u crew g.at (row_in old.hand) full in
          record {
            choices = xs;
            before = stands_at u crew;
            later = picker;
            turns = g.turns;
            worker = chosen;
            on = on;
            picks = picks_own;
            row = row_in old.hand;
            serves = got_map (λ (x : Worker). row_in x.hand) crew chosen old is;
            full = own;
            none = none_where_full p workers xs (length xs) u crew g.at chosen old is own;
          }

  pub plays_over : IsQuiet u.state → (choices : List ℕ) × (end : Driven) × (later : Picker) × DrawsTo p workers way seed choices end later
      × (u ≡ of_program p end.state) × IsQuiet u.state
  plays_over quiet = (xs, stands_at u crew, picker, g.turns, (λ i. record { program = g.at.program i; state = u.state }), quiet)

-- a fault that is passed on
pub ends_by : (p : Program) (workers : ℕ) (way : Way) (seed : ℕ) (fault : DriveFault) (result : DrawFault) → EndsBy fault result
    → (fault ≡ drive_faults.Behaviours → RunsOut p workers way seed) → Plays p workers way seed (Err result)
ends_by p workers way seed drive_faults.Behaviours result is full =
    subst (λ (f : DrawFault). Plays p workers way seed (Err f)) (sym is) (full refl)
ends_by p workers way seed drive_faults.Memory result is full =
    subst (λ (f : DrawFault). Plays p workers way seed (Err f)) (sym is) tt
ends_by p workers way seed (drive_faults.NoSuchWorker place) result is full = absurd is

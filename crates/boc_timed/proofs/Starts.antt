-- In the turns of one run a row starts once.
use Rattle.std.proofs.Common.{◌≡◌, ℕ, ◌⊎◌, inl, inr, List, [], ◌∷◌, ◌++◌, refl, sym, ◌∙◌, ap, subst}
use Rattle.std.specs.Prelude.{slice_get, Option, Some, None}
use Rattle.boc_program.specs.declared.program.Program.{Program}
use Rattle.boc_program.proofs.ChangedItems.{place_below, set_same}
use Rattle.boc_runs.specs.Run.{Member}
use Rattle.boc_runs.specs.machine.Steps.{State, Starts, members}
use Rattle.boc_runs.specs.machine.Sound.{IsSound}
use Rattle.boc_runs.specs.machine.Turns.{Begins, Driven, NoneReady, TakesTurn, Turn, opening_driven}
use Rattle.boc_machine_laws.proofs.Every.{opening_sound}
use Rattle.boc_machine_laws.proofs.OneTurn.{one_turn, turn_keeps, turns_keep}
use Rattle.boc_dispatch.proofs.Hands.{starting_waits}
use Rattle.boc_clock.specs.declared.clocks.Clocks.{Clocks}
use Rattle.boc_clock.specs.Clocks.{first_clocks, time_of}
use Rattle.boc_timed.specs.Timed.{MovesOn, StartsAt, TimedTurns}
use Rattle.boc_timed.proofs.OneTimed.{are_turns, one_moved}
use Rattle.boc_timed.proofs.Starting.{HasStarted, turn_starts}

-- ---- lists

-- one item is put before the other, or they are the same
split_two : (a b c d : List ℕ) (x y : ℕ) → a ++ x ∷ c ≡ b ++ y ∷ d
    → ((a ≡ b) × (x ≡ y)) ⊎ (((mid : List ℕ) × (b ≡ a ++ x ∷ mid)) ⊎ ((mid : List ℕ) × (a ≡ b ++ y ∷ mid)))
split_two [] [] c d x y e = inl (refl, let f : x ∷ c ≡ y ∷ d = e in cc)
split_two [] (z ∷ b) c d x y e = (let f : x ∷ c ≡ z ∷ (b ++ y ∷ d) = e in let same : z ≡ x = cc in inr (inl (b, ap (λ w. w ∷ b) same)))
split_two (z ∷ a) [] c d x y e = (let f : z ∷ (a ++ x ∷ c) ≡ y ∷ d = e in let same : z ≡ y = cc in inr (inr (a, ap (λ w. w ∷ a) same)))
split_two (z ∷ a) (w ∷ b) c d x y e =
    let f : z ∷ (a ++ x ∷ c) ≡ w ∷ (b ++ y ∷ d) = e in
    let first : z ≡ w = cc in
    let rest : a ++ x ∷ c ≡ b ++ y ∷ d = cc in
    elim (split_two a b c d x y rest) [
      | inl same ↦ inl (λ i. first i ∷ same.0 i, same.1)
      | inr later ↦ elim later [
        | inl h ↦ inr (inl (h.0, λ i. sym first i ∷ h.1 i))
        | inr h ↦ inr (inr (h.0, λ i. first i ∷ h.1 i))
      ]
    ]

-- ---- turns

-- what started has started still, as turns go on
stays_started : (p : Program) (d : Driven) (c : Clocks) (xs : List ℕ) (e : Driven) (later : Clocks) → IsSound p d.state → TimedTurns p d c xs e later
    → (row : ℕ) → HasStarted (members p d.state) row → HasStarted (members p e.state) row
stays_started p d c [] e later k t row h = subst (λ (z : Driven). HasStarted (members p z.state) row) (sym t.0) h
stays_started p d c (x ∷ xs) e later k t row h =
    stays_started p t.0 t.1 xs e later (turn_keeps p d t.0 x k t.3) t.5 row
    (elim (turn_starts p d.state k t.3.before t.0.state t.3.after t.3.takes) [
      | inl one ↦ one.3.stays row h
      | inr none ↦ none.1.stays row h
    ])

-- turns of the same workers lead to one place
one_place : (p : Program) (d : Driven) (c : Clocks) (xs : List ℕ) (e f : Driven) (later more : Clocks) → IsSound p d.state → TimedTurns p d c xs e later
    → TimedTurns p d c xs f more → (e ≡ f) × (later ≡ more)
one_place p d c [] e f later more k a b = (a.0 ∙ sym b.0, a.1 ∙ sym b.1)
one_place p d c (x ∷ xs) e f later more k a b =
    let next : b.0 ≡ a.0 = one_turn p d b.0 a.0 x k b.3 a.3 in
    let on : b.1 ≡ a.1 = one_moved p a.0 c x b.1 a.1 (subst (λ (z : Driven). MovesOn p z c x b.1) next b.4) a.4 in
    one_place p a.0 a.1 xs e f later more (turn_keeps p d a.0 x k a.3) a.5
    (subst (λ (z : Driven). TimedTurns p z a.1 xs f more) next (subst (λ (q : Clocks). TimedTurns p b.0 q xs f more) on b.5))

-- the first of further turns, and the others
turns_behind : (p : Program) (d : Driven) (c : Clocks) (xs : List ℕ) (x : ℕ) (ys : List ℕ) (then e : Driven) (clocks later : Clocks) → IsSound p d.state
    → TimedTurns p d c xs then clocks → TimedTurns p d c (xs ++ x ∷ ys) e later
    → (next : Driven) × (on : Clocks) × Turn p then x next × TimedTurns p next on ys e later
turns_behind p d c [] x ys then e clocks later k a b = (b.0, b.1, subst (λ (z : Driven). Turn p z x b.0) (sym a.0) b.3, b.5)
turns_behind p d c (y ∷ xs) x ys then e clocks later k a b =
    let next : b.0 ≡ a.0 = one_turn p d b.0 a.0 y k b.3 a.3 in
    let on : b.1 ≡ a.1 = one_moved p a.0 c y b.1 a.1 (subst (λ (z : Driven). MovesOn p z c y b.1) next b.4) a.4 in
    turns_behind p a.0 a.1 xs x ys then e clocks later (turn_keeps p d a.0 y k a.3) a.5
    (subst (λ (z : Driven). TimedTurns p z a.1 (xs ++ x ∷ ys) e later) next (subst (λ (q : Clocks). TimedTurns p b.0 q (xs ++ x ∷ ys) e later) on b.5))

-- ---- starts

-- an idle worker that serves a row behind its turn started that
begun : (p : Program) (s t : State) (row : ℕ) (before after : Option ℕ) → TakesTurn p s before t after → before ≡ None → after ≡ Some row
    → (who : ℕ) × Starts s who row t
begun p s t row None (Some new) (Begins who r u m) was now =
    (let same : new ≡ row = (let f : Some new ≡ Some row = now in cc) in (who, subst (λ (z : ℕ). Starts s who z t) same m))
begun p s t row None None (NoneReady e) was now = absurd (let f : None ≡ Some row = now in cc)
begun p s t row (Some own) after takes was now = absurd (let f : Some own ≡ None = was in cc)

module _ (p : Program) (workers : ℕ) (xs : List ℕ) (row : ℕ) where
  -- what stands there is sound
  sound_at : (time worker : ℕ) (a : StartsAt p workers xs row time worker) → IsSound p a.stands.state
  sound_at time worker a =
      turns_keep p (opening_driven p workers) a.stands a.before (opening_sound p)
      (are_turns p (opening_driven p workers) first_clocks a.before a.stands a.clocks a.turns)

  begun_at : (time worker : ℕ) (a : StartsAt p workers xs row time worker) → (who : ℕ) × Starts a.stands.state who row a.next.state
  begun_at time worker a =
      let was : a.turn.before ≡ None = (let f : Some a.turn.before ≡ Some None = sym a.turn.is ∙ a.idle in cc) in
      let set = set_same a.stands.serves worker a.turn.after (place_below a.stands.serves worker a.turn.before a.turn.is) in
      let now : a.turn.after ≡ Some row =
      (let f : Some a.turn.after ≡ Some (Some row) = sym set ∙ ap (λ (os : List (Option ℕ)). slice_get os worker) (sym a.turn.serves_are) ∙ a.serves in cc) in
      begun p a.stands.state a.next.state row a.turn.before a.turn.after a.turn.takes was now

  -- nothing that starts has started before
  not_yet : (time worker : ℕ) (a : StartsAt p workers xs row time worker) → HasStarted (members p a.stands.state) row → ⊥
  not_yet time worker a h =
      let b = begun_at time worker a in
      let waits = starting_waits p a.stands.state b.0 row a.next.state (sound_at time worker a) b.1 in
      let same : h.member ≡ waits.0 = (let f : Some h.member ≡ Some waits.0 = sym h.is ∙ waits.1 in cc) in
      h.lives (ap (λ (m : Member). m.life) same ∙ waits.2)

  started_then : (time worker : ℕ) (a : StartsAt p workers xs row time worker) → HasStarted (members p a.next.state) row
  started_then time worker a =
      let was : a.turn.before ≡ None = (let f : Some a.turn.before ≡ Some None = sym a.turn.is ∙ a.idle in cc) in
      let set = set_same a.stands.serves worker a.turn.after (place_below a.stands.serves worker a.turn.before a.turn.is) in
      let now : a.turn.after ≡ Some row =
      (let f : Some a.turn.after ≡ Some (Some row) = sym set ∙ ap (λ (os : List (Option ℕ)). slice_get os worker) (sym a.turn.serves_are) ∙ a.serves in cc) in
      elim (turn_starts p a.stands.state (sound_at time worker a) a.turn.before a.next.state a.turn.after a.turn.takes) [
        | inl one ↦
            let same : one.0 ≡ row = (let f : Some one.0 ≡ Some row = sym one.2 ∙ now in cc) in
            subst (HasStarted (members p a.next.state)) same one.3.starts
        | inr none ↦ absurd (let f : None ≡ Some row = sym (none.0 was) ∙ now in cc)
      ]

  -- it isn't started twice
  not_twice : (time worker at on : ℕ) (a : StartsAt p workers xs row time worker) (b : StartsAt p workers xs row at on) (mid : List ℕ)
      → b.before ≡ a.before ++ worker ∷ mid → ⊥
  not_twice time worker at on a b mid is =
      let behind = turns_behind p (opening_driven p workers) first_clocks a.before worker mid a.stands b.stands a.clocks b.clocks (opening_sound p) a.turns
      (subst (λ (ys : List ℕ). TimedTurns p (opening_driven p workers) first_clocks ys b.stands b.clocks) is b.turns) in
      let sound = sound_at time worker a in
      let next : a.next ≡ behind.0 = one_turn p a.stands a.next behind.0 worker sound a.turn behind.2 in
      not_yet at on b
      (stays_started p behind.0 behind.1 mid b.stands b.clocks (turn_keeps p a.stands behind.0 worker sound behind.2) behind.3 row
      (subst (λ (z : Driven). HasStarted (members p z.state) row) next (started_then time worker a)))

  pub one_start : (time worker at on : ℕ) → StartsAt p workers xs row time worker → StartsAt p workers xs row at on → (time ≡ at) × (worker ≡ on)
  one_start time worker at on a b =
      elim (split_two a.before b.before a.after b.after worker on (sym a.split ∙ b.split)) [
        | inl same ↦
            let place = one_place p (opening_driven p workers) first_clocks b.before a.stands b.stands a.clocks b.clocks (opening_sound p)
            (subst (λ (ys : List ℕ). TimedTurns p (opening_driven p workers) first_clocks ys a.stands a.clocks) same.0 a.turns) b.turns in
            (a.time_is ∙ (λ i. time_of (place.1 i) (same.1 i)) ∙ sym b.time_is, same.1)
        | inr other ↦ absurd (elim other [
          | inl h ↦ not_twice time worker at on a b h.0 h.1
          | inr h ↦ not_twice at on time worker b a h.0 h.1
        ])
      ]

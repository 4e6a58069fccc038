-- Who can move: one list has them, and where all is over nobody can.
use Rattle.std.proofs.Common.{◌≡◌, ℕ, suc, ◌+◌, ◌<◌, ◌≤◌, inl, inr, true, false, List, [], ◌∷◌, ◌++◌, length, get_or, refl, sym, ◌∙◌, ap}
use Rattle.std.proofs.Common.{subst, arith, length-append}
use Rattle.std.specs.Prelude.{slice_get, Option, Some, None}
use Rattle.std.specs.List.{AllPairs, Contains}
use Rattle.std.proofs.lemmas.List.Elements.{Contains-append_left, Contains-append_right, Contains-append_cases, Contains-get_or}
use Rattle.std.proofs.lemmas.List.Quantifiers.{all_pairs_push}
use Rattle.boc_program.specs.declared.program.Program.{Program}
use Rattle.boc_program.proofs.ChangedItems.{place_below}
use Rattle.boc_program.proofs.RisingNumbers.{first_or_later, has_first, has_later, none_in_none}
use Rattle.boc_runs.specs.machine.Stages.{OpenBehaviour, enqueues}
use Rattle.boc_runs.specs.machine.Steps.{State, at, IsQuiet}
use Rattle.boc_runs.specs.machine.Sound.{IsSound}
use Rattle.boc_runs.specs.machine.Turns.{Driven, TakesTurn, Begins, NoneReady, Advanced, WaitsToSettle, Opened, Finished, Left, WaitsToLeave}
use Rattle.boc_machine_laws.proofs.Lists.{same_or_not}
use Rattle.boc_machine_laws.proofs.Moving.{body_not_quiet}
use Rattle.boc_machine_laws.proofs.OneTurn.{leaves_leaving}
use Rattle.boc_dispatch.specs.declared.worker.Worker.{Worker}
use Rattle.boc_dispatch.specs.Underway.{Underway}
use Rattle.boc_dispatch.specs.Driving.{of_program, rows_of}
use Rattle.boc_dispatch.specs.Working.{row_in}
use Rattle.boc_dispatch.specs.Stepping.{CanTurn}
use Rattle.boc_dispatch.proofs.Driven.{got_map}
use Rattle.boc_draws.specs.Draws.{CanMove, AreMovers, stands_at}

-- ---- lists that rise

abbrev pub Rises : List ℕ → Type 0
Rises xs = AllPairs (λ x y. x < y) xs

-- a later one is greater
later_greater : (x : ℕ) (xs : List ℕ) → Rises (x ∷ xs) → (y : ℕ) → Contains xs y → x < y
later_greater x xs h y has =
    let less : x < get_or xs has.0 y = h 0 (suc has.0) y (omega arith) (omega (arith, has.1)) in omega (arith, less, has.2)

rest_rises : (x : ℕ) (xs : List ℕ) → Rises (x ∷ xs) → Rises xs
rest_rises x xs h i j d before within = h (suc i) (suc j) d (omega (arith, before)) (omega (arith, within))

-- what is in the rest of the one is in the rest of the other, where both begin alike
rest_has : (x : ℕ) (xs ys : List ℕ) → Rises (x ∷ xs) → (y : ℕ) → y ≡ x → ((z : ℕ) → Contains (x ∷ xs) z → Contains (y ∷ ys) z)
    → (z : ℕ) → Contains xs z → Contains ys z
rest_has x xs ys rises y same to z has =
    elim (first_or_later y z ys (to z (has_later x z xs has))) [
      | inl e ↦ absurd (omega (arith, later_greater x xs rises z has, same, e))
      | inr h ↦ h
    ]

first_same : (x y : ℕ) (xs ys : List ℕ) → Rises (x ∷ xs) → Rises (y ∷ ys) → Contains (y ∷ ys) x → Contains (x ∷ xs) y → x ≡ y
first_same x y xs ys rises other to back =
    elim (first_or_later y x ys to) [
      | inl e ↦ sym e
      | inr later ↦ elim (first_or_later x y xs back) [
        | inl e ↦ e
        | inr earlier ↦ absurd (omega (arith, later_greater y ys other x later, later_greater x xs rises y earlier))
      ]
    ]

-- two that rise and have the same numbers are one
pub same_rising : (xs ys : List ℕ) → Rises xs → Rises ys → ((z : ℕ) → Contains xs z → Contains ys z) → ((z : ℕ) → Contains ys z → Contains xs z) → xs ≡ ys
same_rising [] [] rises other to back = refl
same_rising [] (y ∷ ys) rises other to back = absurd (none_in_none y (back y (has_first y ys)))
same_rising (x ∷ xs) [] rises other to back = absurd (none_in_none x (to x (has_first x xs)))
same_rising (x ∷ xs) (y ∷ ys) rises other to back =
    let same : x ≡ y = first_same x y xs ys rises other (to x (has_first x xs)) (back y (has_first y ys)) in
    let rest : xs ≡ ys = same_rising xs ys (rest_rises x xs rises) (rest_rises y ys other) (rest_has x xs ys rises y (sym same) to)
    (rest_has y ys xs other x same back) in
    λ i. same i ∷ rest i

-- ---- those that can move

-- there is one list of them
pub same_movers : (p : Program) (d : Driven) (xs ys : List ℕ) → AreMovers p d xs → AreMovers p d ys → xs ≡ ys
same_movers p d xs ys a b = same_rising xs ys a.rising b.rising (λ z has. b.all z (a.can z has)) (λ z has. a.all z (b.can z has))

-- those of the workers below a number
pub record AreBelow (p : Program) (d : Driven) (number : ℕ) (movers : List ℕ) : Type 0 where
  pub rising : Rises movers
  pub below : (worker : ℕ) → Contains movers worker → worker < number
  pub can : (worker : ℕ) → Contains movers worker → CanMove p d worker
  pub all : (worker : ℕ) → worker < number → CanMove p d worker → Contains movers worker
  pub few : length movers ≤ number

pub none_below : (p : Program) (d : Driven) → AreBelow p d 0 []
none_below p d = record {
  rising = λ i j e before within. absurd (omega (arith, within));
  below = λ w has. absurd (none_in_none w has);
  can = λ w has. absurd (none_in_none w has);
  all = λ w less can. absurd (omega (arith, less));
  few = omega arith;
}

one_in : (x y : ℕ) → Contains (x ∷ []) y → x ≡ y
one_in x y has = elim (first_or_later x y [] has) [ inl e ↦ e | inr h ↦ absurd (none_in_none y h) ]

module _ (p : Program) (d : Driven) (number : ℕ) (movers : List ℕ) (h : AreBelow p d number movers) where
  -- the next one can move too
  pub one_more : CanMove p d number → AreBelow p d (suc number) (movers ++ number ∷ [])
  one_more moves = record {
    rising = all_pairs_push (λ x y. x < y) movers number h.rising (λ k e within. h.below (get_or movers k e) (Contains-get_or movers k e within));
    below = λ w has. elim (Contains-append_cases movers (number ∷ []) w has) [
      | inl earlier ↦ omega (arith, h.below w earlier)
      | inr this ↦ omega (arith, one_in number w this)
    ];
    can = λ w has. elim (Contains-append_cases movers (number ∷ []) w has) [
      | inl earlier ↦ h.can w earlier
      | inr this ↦ subst (CanMove p d) (one_in number w this) moves
    ];
    all = λ w less can. elim (same_or_not w number) [
      | inl e ↦ subst (Contains (movers ++ number ∷ [])) (sym e) (Contains-append_right movers (number ∷ []) number (has_first number []))
      | inr n ↦ Contains-append_left movers (number ∷ []) w (h.all w (omega (arith, less, n)) can)
    ];
    few = omega (arith, length-append movers (number ∷ []), h.few);
  }

  -- the next one can't
  pub none_more : (CanMove p d number → ⊥) → AreBelow p d (suc number) movers
  none_more stays = record {
    rising = h.rising;
    below = λ w has. omega (arith, h.below w has);
    can = h.can;
    all = λ w less can. elim (same_or_not w number) [
      | inl e ↦ absurd (stays (subst (CanMove p d) e can))
      | inr n ↦ h.all w (omega (arith, less, n)) can
    ];
    few = omega (arith, h.few);
  }

-- of all workers
pub all_below : (p : Program) (d : Driven) (movers : List ℕ) → AreBelow p d (length d.serves) movers → AreMovers p d movers
all_below p d movers h = record {
  rising = h.rising;
  can = h.can;
  all = λ w can. h.all w (place_below d.serves w can.row can.serves) can;
}

-- ---- a worker of a crew

module _ (u : Underway) (crew : List Worker) (k : ℕ) (w : Worker) (is : slice_get crew k ≡ Some w) where
  here : slice_get (rows_of crew) k ≡ Some (row_in w.hand)
  here = got_map (λ (x : Worker). row_in x.hand) crew k w is

  pub can_move : CanTurn u (row_in w.hand) → CanMove u.program (stands_at u crew) k
  can_move turns = record { row = row_in w.hand; serves = here; turns = turns }

  pub can_turn : CanMove u.program (stands_at u crew) k → CanTurn u (row_in w.hand)
  can_turn can =
      let same : can.row ≡ row_in w.hand = (let f : Some can.row ≡ Some (row_in w.hand) = sym can.serves ∙ here in cc) in
      subst (CanTurn u) same can.turns

-- ---- where all is over

module _ (p : Program) (s : State) (k : IsSound p s) (quiet : IsQuiet s) where
  gone : (who : ℕ) (b : OpenBehaviour) → at s who ≡ Some b → ⊥
  gone who b is = let f : None ≡ Some b = sym (quiet who) ∙ is in cc

  same_steps : s.steps ≡ s.steps + 1 → ⊥
  same_steps e = omega (arith, e)

  no_step : (row : Option ℕ) (t : State) (after : Option ℕ) → TakesTurn p s row t after → t.steps ≡ s.steps + 1 → ⊥
  no_step row t after (Begins who r t1 m) more = gone who m.this m.is
  no_step row t after (NoneReady e) more = same_steps more
  no_step row t after (Advanced r who step t1 q m) more = let f : false ≡ true = sym (ap enqueues (quiet who)) ∙ q.is_open in cc
  no_step row t after (WaitsToSettle r who q m) more = same_steps more
  no_step row t after (Opened r t1 m) more = body_not_quiet p s k r (record { runs = m.may.runs; none_open = m.may.none_open }) quiet
  no_step row t after (Finished r who t1 m) more = gone who m.this m.is
  no_step row t after (Left r who step t1 m) more = let l = leaves_leaving s who r step t m in gone who l.this l.is
  no_step row t after (WaitsToLeave r who m) more = same_steps more

  pub nobody_turns : (row : Option ℕ) → CanTurn (of_program p s) row → ⊥
  nobody_turns row (inl m) = no_step row m.state m.after m.takes m.steps
  nobody_turns row (inr full) = body_not_quiet p s k full.served (record { runs = full.runs; none_open = full.none_open }) quiet

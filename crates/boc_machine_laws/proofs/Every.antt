-- Every schedule of steps, the state at its beginning, and the state in which all is over.
use Rattle.std.proofs.Common.{lit≤, ◌≡◌, ◌≢◌, ℕ, zero, suc, ◌<◌, ◌≤◌, true, false, List, [], ◌∷◌, ◌++◌, length, replicate, get_or, refl, sym, ◌∙◌, ap, subst}
use Rattle.std.proofs.Common.{arith}
use Rattle.std.specs.Prelude.{slice_get, Option, Some, None}
use Rattle.std.specs.List.{sum_by}
use Rattle.std.proofs.lemmas.List.{length-replicate}
use Rattle.std.proofs.lemmas.List.Sums.{sum_by-cons}
use Rattle.boc_program.specs.declared.program.Program.{Program}
use Rattle.boc_runs.specs.declared.stage.Phase.TheVariants.{Ready}
use Rattle.boc_runs.specs.declared.stage.Stage.TheVariants.{Recorded}
use Rattle.boc_program.specs.Programs.{cown_count}
use Rattle.boc_runs.specs.Serial.{main_behaviour}
use Rattle.boc_runs.specs.Lives.{Life, Pending, Running, Ended}
use Rattle.boc_runs.specs.Run.{Member, waiting, IsRun, IsWholeRun}
use Rattle.boc_runs.specs.machine.Stages.{OpenBehaviour, standing, cowns_of, ready_row, row_of, asks, enqueues, waits, holds}
use Rattle.boc_runs.specs.machine.Queues.{times, all_granted, Lawful}
use Rattle.boc_runs.specs.machine.Steps.{State, at, queue, members, IsQuiet, opening_state}
use Rattle.boc_runs.specs.machine.Schedules.{Reaches, Here, Then}
use Rattle.boc_runs.specs.machine.AlongRows.{cowns_of_rows, steps_of_rows}
use Rattle.boc_runs.specs.machine.Sound.{Fits, HasRow, HasNextRequest, IsSound, made, owed}
use Rattle.boc_program.proofs.ChangedItems.{item_at}
use Rattle.boc_machine_laws.proofs.Lists.{times-other}
use Rattle.boc_machine_laws.proofs.Rows.{life_there}
use Rattle.boc_machine_laws.proofs.Keeps.{keeps_step}

-- ---- every schedule

pub reaches_keeps : (p : Program) (s t : State) → IsSound p s → Reaches p s t → IsSound p t
reaches_keeps p s t k Here = k
reaches_keeps p s t k (Then step u v h m) = keeps_step p u step v (reaches_keeps p s u k h) m

pub every_run : (p : Program) (s t : State) → IsSound p s → Reaches p s t → IsRun p t.log
every_run p s t k h = (reaches_keeps p s t k h).run

-- ---- the opening state

-- main, which is ready under row 0
abbrev main_open : OpenBehaviour
main_open = record { parent = 0; offset = 0; cowns = []; stage = Recorded 0 Ready }

pub no_queue : {A : Type 0} (n c : ℕ) → get_or {A = List A} (replicate n []) c [] ≡ []
no_queue zero c = refl
no_queue (suc n) zero = refl
no_queue (suc n) (suc c) = no_queue n c

no_split : (xs ahead behind : List ℕ) (x : ℕ) → xs ≡ [] → xs ≡ ahead ++ (x ∷ behind) → ⊥
no_split xs [] behind x e f = let g : [] ≡ x ∷ behind = sym e ∙ f in cc
no_split xs (y ∷ ahead) behind x e f = let g : [] ≡ y ∷ (ahead ++ (x ∷ behind)) = sym e ∙ f in cc

module _ (p : Program) where
  abbrev s : State
  s = opening_state p

  no_list : (c : ℕ) → queue s c ≡ []
  no_list c = no_queue (cown_count p.cowns) c

  once_there : (who c : ℕ) → times c (cowns_of (at s who)) ≤ 1
  once_there zero c = omega arith
  once_there (suc who) c = omega arith

  stands_nowhere : (who c : ℕ) → times who (queue s c) ≡ times c (standing (at s who))
  stands_nowhere zero c = ap (times zero) (no_list c)
  stands_nowhere (suc who) c = ap (times (suc who)) (no_list c)

  first_nowhere : (who c : ℕ) → holds (at s who) ≡ true → 0 < times c (standing (at s who))
      → slice_get (queue s c) 0 ≡ Some who
  first_nowhere zero c h l = absurd (omega (arith, l))
  first_nowhere (suc who) c h l = absurd (omega (arith, l))

  none_waits : (who : ℕ) → waits (at s who) ≡ true → all_granted (at s) (queue s) who ≡ false
  none_waits zero h = absurd (let f : false ≡ true = h in cc)
  none_waits (suc who) h = absurd (let f : false ≡ true = h in cc)

  opening_lawful : Lawful (at s) (queue s)
  opening_lawful = record {
    stands = stands_nowhere;
    once = once_there;
    linked = λ c ahead behind x y e h. absurd (no_split (queue s c) ahead (y ∷ behind) x (no_list c) e);
    ordered = λ c ahead mid behind x y e. absurd (no_split (queue s c) ahead (mid ++ (y ∷ behind)) x (no_list c) e);
    first = first_nowhere;
    waiting = none_waits;
  }

  main_has_row : (who row : ℕ) → row_of (at s who) ≡ Some row → HasRow (members p s) (at s who) row
  main_has_row zero row e =
      let same : 0 ≡ row = (let f : Some 0 ≡ Some row = e in cc) in
      record {
        member = waiting main_behaviour;
        is = ap (slice_get (members p s)) (sym same);
        life_is = refl;
        cowns_are = refl;
      }
  main_has_row (suc who) row e = absurd (let f : None ≡ Some row = e in cc)

  main_is_open : (row : ℕ) (m : Member) → slice_get (members p s) row ≡ Some m → m.life ≢ Ended → (who : ℕ)
      × (row_of (at s who) ≡ Some row)
  main_is_open zero m e n = (0, refl)
  main_is_open (suc row) m e n = absurd (let f : None ≡ Some m = e in cc)

  one_main : (v w row : ℕ) → row_of (at s v) ≡ Some row → row_of (at s w) ≡ Some row → v ≡ w
  one_main zero zero row d e = refl
  one_main zero (suc w) row d e = absurd (let f : None ≡ Some row = e in cc)
  one_main (suc v) w row d e = absurd (let f : None ≡ Some row = d in cc)

  none_asks : (who : ℕ) → asks (at s who) ≡ true → ⊥
  none_asks zero h = let f : false ≡ true = h in cc
  none_asks (suc who) h = let f : false ≡ true = h in cc

  none_enqueues : (who : ℕ) → enqueues (at s who) ≡ true → ⊥
  none_enqueues zero h = let f : false ≡ true = h in cc
  none_enqueues (suc who) h = let f : false ≡ true = h in cc

  opening_fits : Fits p (members p s) (at s)
  opening_fits = record {
    has_row = main_has_row;
    open_rows = main_is_open;
    one_row = one_main;
    asking = λ who h. absurd (none_asks who h);
    parents = λ who h. absurd (none_enqueues who h);
    one_enqueue = λ v w h. absurd (none_enqueues v h);
  }

  main_requests : (who : ℕ) (b : OpenBehaviour) → at s who ≡ Some b → HasNextRequest b.stage b.cowns
  main_requests zero b e = (let f : Some main_open ≡ Some b = e in let same : main_open ≡ b = cc in
      subst (λ (z : OpenBehaviour). HasNextRequest z.stage z.cowns) same tt)
  main_requests (suc who) b e = absurd (let f : None ≡ Some b = e in cc)

  none_ranged : (who c : ℕ) → 0 < times c (cowns_of (at s who)) → c < length s.queues
  none_ranged zero c h = absurd (omega (arith, h))
  none_ranged (suc who) c h = absurd (omega (arith, h))

  main_once : (who row : ℕ) → ready_row (at s who) ≡ Some row → times row s.ready ≡ 1
  main_once zero row e = (let same : 0 ≡ row = (let f : Some 0 ≡ Some row = e in cc) in
      ap (λ z. times z (0 ∷ [])) (sym same))
  main_once (suc who) row e = absurd (let f : None ≡ Some row = e in cc)

  main_only : (row : ℕ) → 0 < times row s.ready → (who : ℕ) × (ready_row (at s who) ≡ Some row)
  main_only zero h = (0, refl)
  main_only (suc row) h = absurd (let o : times (suc row) (0 ∷ []) ≡ 0 =
      times-other (suc row) 0 [] (λ e. omega (arith, e)) in omega (arith, h, o))

  pub opening_sound : IsSound p s
  opening_sound = record {
    run = ((refl, lit≤ tt, (refl, refl, refl)), tt);
    lawful = opening_lawful;
    fits = opening_fits;
    requests = main_requests;
    queues_are = length-replicate (cown_count p.cowns) [];
    in_range = none_ranged;
    ready_once = main_once;
    ready_only = main_only;
    some = omega arith;
    counted = refl;
    few = lit≤ tt;
    steps_are = refl;
  }

-- ---- all is over

-- a sum over behaviours of which none is there
none_sum : (f : Option OpenBehaviour → ℕ) (xs : List (Option OpenBehaviour)) → f None ≡ 0
    → ((w : ℕ) → get_or xs w None ≡ None) → sum_by f xs ≡ 0
none_sum f [] e none = refl
none_sum f (x ∷ xs) e none = omega (arith, sum_by-cons f x xs, ap f (none 0), e, none_sum f xs e (λ w. none (suc w)))

module _ (p : Program) (s : State) (k : IsSound p s) (quiet : IsQuiet s) where
  all_ended : (r : ℕ) (m : Member) (l : Life) → slice_get (members p s) r ≡ Some m → m.life ≡ l → l ≢ Ended → ⊥
  all_ended r m l e is n =
      let o = k.fits.open_rows r m e (λ f. n (sym is ∙ f)) in
      let f : None ≡ Some r = sym (ap row_of (quiet o.0)) ∙ o.1 in cc

  ended_life : (r : ℕ) (m : Member) (l : Life) → slice_get (members p s) r ≡ Some m → m.life ≡ l → l ≡ Ended
  ended_life r m Pending e is = absurd (all_ended r m Pending e is (λ f. let g : Pending ≡ Ended = f in cc))
  ended_life r m Running e is = absurd (all_ended r m Running e is (λ f. let g : Running ≡ Ended = f in cc))
  ended_life r m Ended e is = refl

  pub whole_run : IsWholeRun p s.log
  whole_run = record {
    run = k.run;
    over = record {
      some = k.some;
      ended = λ r l. let x = item_at (members p s) r l in life_there (members p s) r x.0 x.1
          ∙ ap (λ z. Some z) (ended_life r x.0 x.0.life x.1 refl);
    };
  }

  pub all_steps : s.steps ≡ steps_of_rows (cowns_of_rows s.log)
  all_steps = omega (arith, k.steps_are, none_sum owed s.behaviours refl quiet, none_sum made s.behaviours refl quiet)

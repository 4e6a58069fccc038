-- How many steps there may be.
use Rattle.std.proofs.Common.{◌≡◌, ℕ, zero, suc, ◌*◌, ◌<◌, ◌≤◌, true, false, List, [], ◌∷◌, ◌++◌, length, map, get_or, refl, sym, ◌∙◌, ap, subst, arith}
use Rattle.std.proofs.Common.{length-append}
use Rattle.std.specs.Prelude.{slice_get, Option, Some, None}
use Rattle.std.specs.List.{sum_by}
use Rattle.std.proofs.lemmas.List.{map-append, length-map}
use Rattle.std.proofs.lemmas.List.Sums.{sum_by-cons, sum_by-append}
use Rattle.boc_program.specs.declared.limits.TheConstants.{MOST_ROWS, MOST_HELD}
use Rattle.boc_program.specs.declared.program.Program.{Program}
use Rattle.boc_runs.specs.declared.event.Event.{Event}
use Rattle.boc_runs.specs.declared.event.Event.TheVariants.{Spawn, Start, End}
use Rattle.boc_runs.specs.declared.stage.Stage.{Stage}
use Rattle.boc_runs.specs.declared.stage.Stage.TheVariants.{Asking, Recorded}
use Rattle.boc_program.specs.Programs.{cown_count}
use Rattle.boc_runs.specs.Run.{config_of, IsRun}
use Rattle.boc_runs.specs.Lives as lives
use Rattle.boc_runs.specs.Legal.{Entry, entries, after, after_all, pending, IsLegalFrom}
use Rattle.boc_runs.specs.machine.Stages.{OpenBehaviour, asks, asks_at, cowns_of, parent_of}
use Rattle.boc_runs.specs.machine.Steps.{State, at, recorded, unrecorded}
use Rattle.boc_runs.specs.machine.AlongRows.{cowns_of_rows, steps_of}
use Rattle.boc_runs.specs.machine.Sound.{IsSound, HasNextRequest, made, made_at}
use Rattle.boc_runs.proofs.RunsAreLegal.{run_is_legal}
use Rattle.boc_machine_laws.proofs.Core.{one_if, put_sum}
use Rattle.boc_machine_laws.proofs.Fitting.{asks_enqueues}
use Rattle.boc_machine_laws.proofs.Serially.{rows_are_members}
use Rattle.boc_machine_laws.proofs.Wishes.{wish_cowns}
use Rattle.boc_machine_laws.proofs.Counting.{map_changed, steps_of_log}

-- ---- the rows of a legal log have few cowns each

-- the steps of rows with these cowns are at most 36 each
abbrev AreFew : List (List ℕ) → Type 0
AreFew rows = sum_by (λ cowns. steps_of (length cowns)) rows ≤ 36 * length rows

few_on : (rows more : List (List ℕ)) → more ≡ rows → AreFew rows → AreFew more
few_on rows more e h = subst AreFew (sym e) h

few_spawned : (rows : List (List ℕ)) (cowns : List ℕ) → AreFew rows → length cowns ≤ MOST_HELD
    → AreFew (rows ++ (cowns ∷ []))
few_spawned rows cowns h few = omega (
  arith,
  h,
  few,
  sum_by-append (λ cs. steps_of (length cs)) rows (cowns ∷ []),
  length-append rows (cowns ∷ []),
)

few_next : (count : ℕ) (rows : List Entry) (e : Event) → AreFew (map (λ x. x.cowns) rows)
    → IsLegalFrom count rows (e ∷ []) → AreFew (map (λ x. x.cowns) (after rows e))
few_next count rows (Spawn row parent offset cowns) h legal =
    few_on (map (λ x. x.cowns) rows ++ (cowns.items ∷ []))
    (map (λ x. x.cowns) (after rows (Spawn row parent offset cowns)))
    (map-append (λ (x : Entry). x.cowns) _ (pending parent offset cowns.items ∷ [])
    ∙ ap (λ zs. zs ++ (cowns.items ∷ []))
    (map_changed (λ x. x.cowns) rows parent (λ x. record x { last = offset }) (λ x. refl)))
    (few_spawned (map (λ x. x.cowns) rows) cowns.items h legal.0.bounds.4)
few_next count rows (Start row) h legal = few_on (map (λ x. x.cowns) rows)
    (map (λ x. x.cowns) (after rows (Start row)))
    (map_changed (λ x. x.cowns) rows row (λ x. record x { life = lives.Running }) (λ x. refl)) h
few_next count rows (End row ticks status written) h legal =
    few_on (map (λ x. x.cowns) rows) (map (λ x. x.cowns) (after rows (End row ticks status written)))
    (map_changed (λ x. x.cowns) rows row (λ x. record x {
      life = lives.Ended;
      ticks = ticks;
      status =
          status;
      written = written.items;
    }) (λ x. refl)) h

few_all : (count : ℕ) (rows : List Entry) (log : List Event) → AreFew (map (λ x. x.cowns) rows)
    → IsLegalFrom count rows log → AreFew (map (λ x. x.cowns) (after_all rows log))
few_all count rows [] h legal = h
few_all count rows (e ∷ log) h legal = few_all count (after rows e) log (few_next count rows e h (legal.0, tt)) legal.1

-- the rows of a log are as many as those of its run
rows_same : (p : Program) (log : List Event) → IsRun p log
    → length (cowns_of_rows log) ≡ length (config_of p log).members
rows_same p log run = length-map (entries log) (λ (x : Entry). x.cowns) ∙ rows_are_members p log run

-- ---- who asks has made few steps

-- a sum is at most 36 times another, if each summand is
sum_times : {X : Type 0} (f g : X → ℕ) (xs : List X) → ((i : ℕ) (x : X) → slice_get xs i ≡ Some x → f x ≤ 36 * g x)
    → sum_by f xs ≤ 36 * sum_by g xs
sum_times f g [] h = omega arith
sum_times f g (x ∷ xs) h =
    let here : f x ≤ 36 * g x = h 0 x refl in
    let rest : sum_by f xs ≤ 36 * sum_by g xs = sum_times f g xs (λ i y e. h (suc i) y e) in
    omega (arith, here, rest, sum_by-cons f x xs, sum_by-cons g x xs)

made_few_at : (st : Stage) (cowns : List ℕ) → HasNextRequest st cowns → (asks_at st ≡ true → length cowns ≤ MOST_HELD)
    → made_at st ≤ 36 * one_if (asks_at st)
made_few_at (Asking i false) cowns l few = omega (arith, l, few refl)
made_few_at (Asking i true) cowns l few = omega (arith, l, few refl)
made_few_at (Recorded row phase) cowns l few = omega arith

read_at : (bs : List (Option OpenBehaviour)) (i : ℕ) (x : Option OpenBehaviour) → slice_get bs i ≡ Some x
    → get_or bs i None ≡ x
read_at [] i x e = absurd (let f : None ≡ Some x = e in cc)
read_at (b ∷ bs) zero x e = (let f : Some b ≡ Some x = e in cc)
read_at (b ∷ bs) (suc i) x e = read_at bs i x e

module _ (p : Program) (s : State) (k : IsSound p s) where
  -- whoever asks is one of those counted
  asks_counted : (who : ℕ) (b : OpenBehaviour) → at s who ≡ Some b → asks_at b.stage ≡ true → recorded p s < MOST_ROWS
  asks_counted who b is h =
      let one : one_if (asks_at b.stage) ≡ one_if true = ap one_if h in
      omega (arith, put_sum (λ z. one_if (asks z)) s who b None is, one, k.counted, k.few)

  -- a behaviour that asks has few cowns
  pub few_asked : (who : ℕ) (b : OpenBehaviour) → at s who ≡ Some b → asks_at b.stage ≡ true
      → length b.cowns ≤ MOST_HELD
  few_asked who b is h =
      let asked : asks (at s who) ≡ true = ap asks is ∙ h in
      let w = k.fits.asking who asked in
      let few = (wish_cowns p s.log (parent_of (at s who)) w.wish k.run k.some (asks_counted who b is h)
      (k.fits.parents who (asks_enqueues (at s who) asked)) w.next).few in
      subst (λ (cs : List ℕ). length cs ≤ MOST_HELD) (sym w.cowns_are ∙ ap cowns_of is) few

  made_few : (who : ℕ) (x : Option OpenBehaviour) → at s who ≡ x → made x ≤ 36 * one_if (asks x)
  made_few who None is = omega arith
  made_few who (Some b) is = made_few_at b.stage b.cowns (k.requests who b is) (few_asked who b is)

  pub few_steps : s.steps ≤ 36 * MOST_ROWS
  few_steps =
      let m : sum_by made s.behaviours ≤ 36 * unrecorded s =
      sum_times made (λ z. one_if (asks z)) s.behaviours (λ i x e. made_few i x (read_at s.behaviours i x e)) in
      let r : steps_of_log s.log ≤ 36 * length (cowns_of_rows s.log) =
      few_all (cown_count p.cowns) [] s.log (omega arith) (run_is_legal p s.log k.run) in
      omega (arith, m, r, k.steps_are, k.counted, k.few, rows_same p s.log k.run)

-- The counts of a sound state fit their types, and there is room in the ready list.
use Rattle.std.proofs.Common.{◌≡◌, ℕ, zero, suc, ◌+◌, ◌*◌, ◌^◌, ◌<◌, ◌≤◌, inl, inr, true, false, ◌||◌, eqb, List, [], ◌∷◌, ◌++◌, length, map, get_or, refl, sym}
use Rattle.std.proofs.Common.{◌∙◌, ap, subst, arith}
use Rattle.std.specs.Prelude.{slice_get, Option, Some, None}
use Rattle.std.specs.List.{sum_by, list_any, AllByRecursion, IsDistinct}
use Rattle.std.proofs.Math.ListN.{length-append}
use Rattle.std.proofs.lemmas.List.Sums.{sum_by-append, sum_by-cons, sum_by-le}
use Rattle.std.proofs.lemmas.Map.Steps.{length-le_from_distinct_below}
use Rattle.boc_program.specs.declared.limits.TheConstants.{MOST_ROWS}
use Rattle.boc_program.specs.declared.program.Program.{Program}
use Rattle.boc_runs.specs.declared.event.Event.{Event}
use Rattle.boc_runs.specs.declared.event.Event.TheVariants.{Spawn, Start, End}
use Rattle.boc_runs.specs.declared.stage.Stage.{Stage}
use Rattle.boc_runs.specs.declared.stage.Stage.TheVariants.{Asking, Recorded}
use Rattle.boc_program.specs.Programs.{cown_count}
use Rattle.boc_runs.specs.declared.event.BrokenRule.TheVariants as rules
use Rattle.boc_runs.specs.Lives as lives
use Rattle.boc_program.specs.Changed.{changed}
use Rattle.boc_program.proofs.ChangedItems.{length-changed}
use Rattle.boc_runs.specs.Legal.{pending, Entry, after, after_all, entries, IsAllowed, IsLegalFrom}
use Rattle.boc_runs.specs.Run.{IsRun}
use Rattle.boc_runs.proofs.RunsAreLegal.{run_is_legal}
use Rattle.boc_runs.specs.machine.Stages.{OpenBehaviour, cowns_of}
use Rattle.boc_runs.specs.machine.Queues.{times}
use Rattle.boc_runs.specs.machine.Steps.{State, at}
use Rattle.boc_runs.specs.machine.AlongRows.{steps_of}
use Rattle.boc_machine_laws.proofs.Lists.{same_or_not, not_eq, times-here, times-other}
use Rattle.boc_runs.specs.machine.Sound.{IsSound, HasNextRequest, made, made_at}
use Rattle.boc_machine_laws.proofs.Wishes.{last_allowed}

-- ---- events of runs are allowed

-- the last event of a run keeps the rules
pub allowed_last : (p : Program) (log : List Event) (event : Event) → IsRun p (log ++ (event ∷ [])) → IsAllowed (cown_count p.cowns) (entries log) event
allowed_last p log event run = last_allowed (cown_count p.cowns) [] log event (run_is_legal p (log ++ (event ∷ [])) run)

-- ---- few rows, over few cowns

abbrev pub cost_of : Entry → ℕ
cost_of e = steps_of (length e.cowns)

changed_behind : (e : Entry) (rows : List Entry) (i : ℕ) (f : Entry → Entry) (o : Option Entry) → changed (e ∷ rows) (suc i) f o ≡ e ∷ changed rows i f o
changed_behind e rows i f None = refl
changed_behind e rows i f (Some x) = refl

cost_changed : (rows : List Entry) (i : ℕ) (f : Entry → Entry) → ((e : Entry) → cost_of (f e) ≡ cost_of e)
    → sum_by cost_of (changed rows i f (slice_get rows i)) ≡ sum_by cost_of rows
cost_changed [] i f same = refl
cost_changed (e ∷ rows) zero f same = sum_by-cons cost_of (f e) rows ∙ ap (λ x. x + sum_by cost_of rows) (same e) ∙ sym (sum_by-cons cost_of e rows)
cost_changed (e ∷ rows) (suc i) f same =
    ap (sum_by cost_of) (changed_behind e rows i f (slice_get rows i)) ∙ sum_by-cons cost_of e (changed rows i f (slice_get rows i))
    ∙ ap (λ x. cost_of e + x) (cost_changed rows i f same) ∙ sym (sum_by-cons cost_of e rows)

-- so many rows at most, of at most 36 steps each
pub record AreFew (rows : List Entry) : Type 0 where
  pub rows_are : length rows ≤ MOST_ROWS
  pub steps_are : sum_by cost_of rows ≤ 36 * length rows

few_changed : (rows : List Entry) (i : ℕ) (f : Entry → Entry) → ((e : Entry) → cost_of (f e) ≡ cost_of e) → AreFew rows
    → AreFew (changed rows i f (slice_get rows i))
few_changed rows i f same k =
    let n = length-changed rows i f (slice_get rows i) in
    let c = cost_changed rows i f same in
    record { rows_are = omega (arith, k.rows_are, n); steps_are = omega (arith, k.steps_are, n, c) }

few_more : (count : ℕ) (rows : List Entry) (event : Event) → IsAllowed count rows event → AreFew rows → AreFew (after rows event)
few_more count rows (Spawn row parent offset cowns) h k =
    let changed_rows = changed rows parent (λ e. record e { last = offset }) (slice_get rows parent) in
    let was = few_changed rows parent (λ e. record e { last = offset }) (λ e. refl) k in
    let n = length-append changed_rows (pending parent offset cowns.items ∷ []) in
    let s = sum_by-append cost_of changed_rows (pending parent offset cowns.items ∷ []) in
    let number : row ≡ length rows = h.keeps rules.NumberNotNext in
    let below : row < MOST_ROWS = h.keeps rules.TooMany in
    let same = length-changed rows parent (λ e. record e { last = offset }) (slice_get rows parent) in
    let held : length cowns.items ≤ 8 = h.bounds.4 in
    record { rows_are = omega (arith, n, same, number, below); steps_are = omega (arith, was.steps_are, n, s, held) }
few_more count rows (Start row) h k = few_changed rows row (λ e. record e { life = lives.Running }) (λ e. refl) k
few_more count rows (End row ticks status written) h k =
    few_changed rows row (λ e. record e { life = lives.Ended; ticks = ticks; status = status; written = written.items }) (λ e. refl) k

few_all : (count : ℕ) (rows : List Entry) (log : List Event) → IsLegalFrom count rows log → AreFew rows → AreFew (after_all rows log)
few_all count rows [] h k = k
few_all count rows (event ∷ log) h k = few_all count (after rows event) log h.1 (few_more count rows event h.0 k)

pub few_entries : (p : Program) (log : List Event) → IsRun p log → AreFew (entries log)
few_entries p log run = few_all (cown_count p.cowns) [] log (run_is_legal p log run) (record { rows_are = omega arith; steps_are = omega arith })

cost_of_cowns : (rows : List Entry) → sum_by (λ cowns. steps_of (length cowns)) (map (λ e. e.cowns) rows) ≡ sum_by cost_of rows
cost_of_cowns [] = refl
cost_of_cowns (e ∷ rows) =
    sum_by-cons (λ (cowns : List ℕ). steps_of (length cowns)) e.cowns (map (λ (x : Entry). x.cowns) rows)
    ∙ ap (λ x. cost_of e + x) (cost_of_cowns rows) ∙ sym (sum_by-cons cost_of e rows)

-- ---- as many different numbers as there are below a bound

any_times : (q : ℕ) (xs : List ℕ) → list_any (eqb q) xs ≡ true → 0 < times q xs
any_times q [] h = absurd (let f : false ≡ true = h in cc)
any_times q (x ∷ xs) h =
    elim (same_or_not x q) [
      | inl e ↦ omega (arith, times-here q xs, ap (λ z. times q (z ∷ xs)) e)
      | inr d ↦
          let rest : list_any (eqb q) xs ≡ true = ap (λ b. b || list_any (eqb q) xs) (sym (not_eq q x (λ e. d (sym e)))) ∙ h in
          omega (arith, times-other q x xs d, any_times q xs rest)
    ]

apart_from : (x : ℕ) (xs : List ℕ) → times x xs ≡ 0 → AllByRecursion (λ y. eqb x y ≡ false) xs
apart_from x [] none = tt
apart_from x (y ∷ xs) none = (
  not_eq x y (λ e. let h = times-here x xs in let f : times x (y ∷ xs) ≡ times x (x ∷ xs) = ap (λ z. times x (z ∷ xs)) (sym e) in absurd (omega arith)),
  apart_from x xs (omega arith),
)

distinct_of : (xs : List ℕ) → ((x : ℕ) → times x xs ≤ 1) → IsDistinct eqb xs
unfolding IsDistinct
distinct_of [] one = tt
distinct_of (x ∷ xs) one = (
  apart_from x xs (let o = one x in let e = times-here x xs in omega arith),
  distinct_of xs (λ y. let o = one y in omega arith),
)

-- numbers below a bound, each there once at most, are no more than the bound
pub no_more_than : (xs : List ℕ) (n : ℕ) → ((x : ℕ) → times x xs ≤ 1) → ((x : ℕ) → 0 < times x xs → x < n) → length xs ≤ n
no_more_than xs n one low = length-le_from_distinct_below xs n (distinct_of xs one) (λ q h. low q (any_times q xs h))

-- ---- the steps

few_made_at : (stage : Stage) (cowns : List ℕ) → length cowns ≤ 256 → HasNextRequest stage cowns → made_at stage ≤ 514
few_made_at (Asking request false) cowns few h = omega arith
few_made_at (Asking request true) cowns few h = omega arith
few_made_at (Recorded row phase) cowns few h = omega arith

read_any : (bs : List (Option OpenBehaviour)) (i : ℕ) (d : Option OpenBehaviour) → i < length bs → get_or bs i None ≡ get_or bs i d
read_any [] i d h = absurd (omega arith)
read_any (b ∷ bs) zero d h = refl
read_any (b ∷ bs) (suc i) d h = read_any bs i d (omega arith)

few_made : (p : Program) (s : State) → IsSound p s → (b : Option OpenBehaviour) (who : ℕ) → at s who ≡ b → made b ≤ 514
few_made p s k None who is = omega arith
few_made p s k (Some b) who is =
    let few : length b.cowns ≤ 256 =
    omega (
      arith,
      p.few_cowns,
      k.queues_are,
      no_more_than b.cowns (length s.queues)
          (λ c. subst (λ (o : Option OpenBehaviour). times c (cowns_of o) ≤ 1) is (k.lawful.once who c))
          (λ c h. k.in_range who c (subst (λ (o : Option OpenBehaviour). 0 < times c (cowns_of o)) (sym is) h)),
    ) in
    few_made_at b.stage b.cowns few (k.requests who b is)

-- so many steps were made that one more fits
pub steps_fit : (p : Program) (s : State) → IsSound p s → s.steps + 1 < 2 ^ 64
steps_fit p s k =
    let rows = few_entries p s.log k.run in
    let all = cost_of_cowns (entries s.log) in
    let some = sum_by-le made 514 s.behaviours (λ i d h. few_made p s k (get_or s.behaviours i d) i (read_any s.behaviours i d h)) in
    omega (arith, rows.rows_are, rows.steps_are, all, some, k.few, k.steps_are)

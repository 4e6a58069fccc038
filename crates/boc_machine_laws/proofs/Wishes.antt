-- The cowns of a wish that a running behaviour has next: they are there, and none of them stands twice.
use Rattle.std.proofs.Common.{◌≡◌, ℕ, zero, suc, ◌+◌, ◌<◌, ◌≤◌, inl, inr, List, [], ◌∷◌, ◌++◌, length, get_or, take, refl, ◌∙◌, ap, subst, arith}
use Rattle.std.specs.Prelude.{slice_get, Some, None}
use Rattle.std.specs.List.{All}
use Rattle.std.specs.List.Sorted.{IsStrictlyIncreasing}
use Rattle.boc_program.specs.declared.limits.TheConstants.{MOST_ROWS, MOST_HELD}
use Rattle.boc_program.specs.declared.program.Program.{Program}
use Rattle.boc_runs.specs.declared.event.Event.{Event}
use Rattle.boc_runs.specs.declared.event.Event.TheVariants.{Spawn}
use Rattle.boc_runs.specs.declared.event.BrokenRule.TheVariants as rules
use Rattle.boc_program.specs.Meaning.{Wish}
use Rattle.boc_program.specs.Rising.{rising}
use Rattle.boc_program.specs.Programs.{cown_count}
use Rattle.boc_runs.specs.Lives.{Running}
use Rattle.boc_program.specs.Cowns.{AreCowns}
use Rattle.boc_runs.specs.Legal.{Entry, entries, after, after_all, MayNeed, IsAllowed, IsLegalFrom}
use Rattle.boc_runs.specs.Run.{config_of, opening, next_wish, state_of, IsRun}
use Rattle.boc_runs.specs.machine.Queues.{times}
use Rattle.boc_runs.proofs.RunsAreLegal.{run_is_legal}
use Rattle.boc_machine_laws.proofs.Lists.{same_or_not, times-here, times-other}
use Rattle.boc_machine_laws.proofs.Rows.{run_more, may_spawn}

-- ---- cowns that rise

-- numbers that rise from this one on
abbrev RisesOn : ℕ → List ℕ → Type 0
RisesOn low [] = Unit {0}
RisesOn low (x ∷ xs) = (low ≤ x) × RisesOn (suc x) xs

rises_on : (low : ℕ) (xs : List ℕ) → (0 < length xs → low ≤ get_or xs 0 0) → IsStrictlyIncreasing xs → RisesOn low xs
rises_on low [] h rise = tt
rises_on low (x ∷ xs) h rise = (
  h (omega arith),
  rises_on (suc x) xs (λ l. let r = rise 0 (omega arith) in omega (arith, r))
      (λ k l. let e : suc k + 1 ≡ suc (k + 1) = omega arith in
      subst (λ (n : ℕ). get_or xs k 0 < get_or (x ∷ xs) n 0) e (rise (suc k) (omega (arith, l)))),
)

never_below : (low c : ℕ) (xs : List ℕ) → RisesOn low xs → c < low → times c xs ≡ 0
never_below low c [] h l = refl
never_below low c (x ∷ xs) h l = times-other c x xs (λ e. omega (arith, h.0))
    ∙ never_below (suc x) c xs h.1 (omega (arith, h.0))

once_on : (low c : ℕ) (xs : List ℕ) → RisesOn low xs → times c xs ≤ 1
once_on low c [] h = omega arith
once_on low c (x ∷ xs) h =
    elim (same_or_not x c) [
      | inl e ↦ omega (
        arith,
        ap (λ z. times c (z ∷ xs)) e,
        times-here c xs,
        never_below (suc x) c xs h.1 (omega (arith, e)),
      )
      | inr n ↦ omega (arith, times-other c x xs n, once_on (suc x) c xs h.1)
    ]

pub once_in : (c : ℕ) (xs : List ℕ) → IsStrictlyIncreasing xs → times c xs ≤ 1
once_in c xs rise = once_on 0 c xs (rises_on 0 xs (λ l. omega arith) rise)

at_least : (low : ℕ) (xs : List ℕ) (i d : ℕ) → RisesOn low xs → slice_get xs i ≡ Some d → low ≤ d
at_least low [] i d h e = absurd (let f : None ≡ Some d = e in cc)
at_least low (x ∷ xs) zero d h e = let f : Some x ≡ Some d = e in let g : x ≡ d = cc in omega (arith, h.0)
at_least low (x ∷ xs) (suc i) d h e = omega (arith, h.0, at_least (suc x) xs i d h.1 e)

lower_on : (low : ℕ) (xs : List ℕ) (i c d : ℕ) → RisesOn low xs → slice_get xs i ≡ Some d → 0 < times c (take i xs)
    → c < d
lower_on low [] i c d h e l = absurd (let f : None ≡ Some d = e in cc)
lower_on low (x ∷ xs) zero c d h e l = absurd (omega arith)
lower_on low (x ∷ xs) (suc i) c d h e l =
    elim (same_or_not x c) [
      | inl same ↦ omega (arith, at_least (suc x) xs i d h.1 e)
      | inr n ↦ lower_on (suc x) xs i c d h.1 e (omega (arith, times-other c x (take i xs) n))
    ]

-- those before one are below it
pub lower_before : (xs : List ℕ) (i c d : ℕ) → IsStrictlyIncreasing xs → slice_get xs i ≡ Some d
    → 0 < times c (take i xs) → c < d
lower_before xs i c d rise = lower_on 0 xs i c d (rises_on 0 xs (λ l. omega arith) rise)

pub below_all : (n c : ℕ) (xs : List ℕ) → All (λ x. x < n) xs → 0 < times c xs → c < n
below_all n c [] all h = absurd (omega arith)
below_all n c (x ∷ xs) all h =
    elim (same_or_not x c) [
      | inl e ↦ subst (λ (z : ℕ). z < n) e (all 0 0 (omega arith))
      | inr m ↦ below_all n c xs (λ k d l. all (suc k) d (omega (arith, l))) (omega (arith, times-other c x xs m))
    ]

-- ---- legal logs

pub last_allowed : (count : ℕ) (rows : List Entry) (log : List Event) (e : Event)
    → IsLegalFrom count rows (log ++ (e ∷ [])) → IsAllowed count (after_all rows log) e
last_allowed count rows [] e h = h.0
last_allowed count rows (d ∷ log) e h = last_allowed count (after rows d) log e h.1

are_cowns : (count : ℕ) (rows : List Entry) (cowns : List ℕ) → 0 < length rows → MayNeed count rows cowns
    → AreCowns count cowns
are_cowns count [] cowns h need = absurd (omega arith)
are_cowns count (main ∷ others) cowns h need = need

-- the cowns of a wish are those of a spawn that would be allowed
pub record WishCowns (p : Program) (w : Wish) : Type 0 where
  pub cowns : AreCowns (cown_count p.cowns) (rising w.cowns)
  pub few : length (rising w.cowns) ≤ MOST_HELD

pub wish_cowns : (p : Program) (log : List Event) (row : ℕ) (w : Wish) → IsRun p log
    → 0 < length (config_of p log).members → length (config_of p log).members < MOST_ROWS
    → state_of (config_of p log).members row ≡ Some Running
    → next_wish p (slice_get (config_of p log).members row) ≡ Some w → WishCowns p w
wish_cowns p log row w run some few runs next =
    let ms = (config_of p log).members in
    let e : Event = Spawn (length ms) row w.offset (record { items = rising w.cowns }) in
    let more = run_more p (opening p) log e run (
      refl,
      few,
      may_spawn p ms row w.offset (rising w.cowns) some
          (record { runs = runs; wish = w; next = next; offset_is = refl; cowns_are = refl }),
    ) in
    let allowed = last_allowed (cown_count p.cowns) [] log e (run_is_legal p (log ++ (e ∷ [])) more) in
    let same : length ms ≡ length (entries log) = allowed.keeps rules.NumberNotNext in
    record {
      cowns = are_cowns (cown_count p.cowns) (entries log) (rising w.cowns) (omega (arith, same, some))
          (allowed.keeps rules.Cowns);
      few = allowed.bounds.4;
    }

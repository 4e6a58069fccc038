-- There are at most twice as many moments as rows.
use Rattle.std.proofs.Common.{◌≡◌, ℕ, zero, suc, ◌+◌, ◌-◌, ◌*◌, ◌<◌, ◌≤◌, List, [], ◌∷◌, ◌++◌, length, refl, sym, ap, subst, true, false, arith, ◌∙◌, inl, inr}
use Rattle.std.specs.Prelude.{slice_index}
use Rattle.std.specs.List.{Contains}
use Rattle.std.specs.Cmp.{IsEquivalence, decided}
use Rattle.std.proofs.Math.Dec.{eqb}
use Rattle.std.proofs.Math.ListN.{length-append}
use Rattle.std.proofs.lemmas.Bool.{eq-eqb, eqb-true}
use Rattle.std.proofs.lemmas.Bool.Decides.{nat_tests}
use Rattle.std.proofs.lemmas.List.{get_or_default}
use Rattle.std.proofs.lemmas.List.Elements.{Contains-append_left, Contains-append_right}
use Rattle.std.proofs.lemmas.Map.Keys.{IsDistinct-from_apart}
use Rattle.std.proofs.lemmas.Map.Made.{length-le_from_is_member}
use Rattle.std.proofs.lemmas.Map.Views.{list_any-from_Contains, Contains-from_any}
use Rattle.boc_runs.specs.declared.rows.Row.{Row}
use Rattle.boc_runs.specs.Rows.{parent_of, offset_of}
use Rattle.boc_plans.specs.Plans.{start_of, end_of}
use Rattle.boc_plans.specs.Greedy.{IsMoment, CountsAll}

-- what a function gives at each number below n
abbrev at_each : (ℕ → ℕ) → ℕ → List ℕ
at_each f zero = []
at_each f (suc n) = f n ∷ at_each f n

length-at_each : (f : ℕ → ℕ) (n : ℕ) → length (at_each f n) ≡ n
length-at_each f zero = refl
length-at_each f (suc n) = ap suc (length-at_each f n)

further : (x y : ℕ) (ys : List ℕ) → Contains ys x → Contains (y ∷ ys) x
further x y ys h = (suc h.0, omega (arith, h.1), h.2)

each_is_there : (f : ℕ → ℕ) (n i : ℕ) → i < n → Contains (at_each f n) (f i)
each_is_there f zero i h = absurd (omega arith)
each_is_there f (suc n) i h = elim (eqb i n) as (λ b. eqb i n ≡ b → Contains (f n ∷ at_each f n) (f i)) [
  | true ↦ λ e. (0, omega arith, ap f (sym (eqb-true i n e)))
  | false ↦ λ e. further (f i) (f n) (at_each f n) (each_is_there f n i (grind (arith, nat_tests)))
] refl

numbers_equal : IsEquivalence eqb
numbers_equal = decided eqb (λ x y. (eqb-true x y, eq-eqb x y))

apart : (x y : ℕ) → x < y → eqb x y ≡ false
apart x y h = grind (arith, nat_tests)

-- numbers that rise, all of them in a list, are no more than it has
pub rising_few : (xs ys : List ℕ) → ((i j : ℕ) → i < j → j < length xs → slice_index xs i < slice_index xs j)
    → ((i : ℕ) → i < length xs → Contains ys (slice_index xs i)) → length xs ≤ length ys
rising_few xs ys rises there = length-le_from_is_member numbers_equal xs ys
    (IsDistinct-from_apart eqb xs (λ i j d lt h.
    apart _ _ (rw (get_or_default xs i d 0 (omega (arith, lt, h)), get_or_default xs j d 0 h) (rises i j lt h))))
    (λ q h. let c = Contains-from_any eqb-true q xs h in
    list_any-from_Contains numbers_equal q ys (subst (λ x. Contains ys x) (get_or_default xs c.0 0 q c.1 ∙ c.2) (there c.0 c.1)))

-- the ticks at which rows end and children are spawned, and the first tick
abbrev candidates : List Row → List ℕ → List ℕ
candidates rows plan =
    0 ∷ (at_each (end_of rows plan) (length rows) ++ at_each (λ i. start_of plan (parent_of rows (suc i)) + offset_of rows (suc i)) (length rows - 1))

length-candidates : (rows : List Row) (plan : List ℕ) → 0 < length rows → length (candidates rows plan) ≡ 2 * length rows
length-candidates rows plan some = omega (
  arith,
  length-append (at_each (end_of rows plan) (length rows)) (at_each (λ i. start_of plan (parent_of rows (suc i)) + offset_of rows (suc i)) (length rows - 1)),
  length-at_each (end_of rows plan) (length rows),
  length-at_each (λ i. start_of plan (parent_of rows (suc i)) + offset_of rows (suc i)) (length rows - 1),
)

spawn_is_there : (rows : List Row) (plan : List ℕ) (a b : ℕ) → 0 < b → b < length rows → parent_of rows b ≡ a
    → Contains (at_each (λ i. start_of plan (parent_of rows (suc i)) + offset_of rows (suc i)) (length rows - 1)) (start_of plan a + offset_of rows b)
spawn_is_there rows plan a zero above there parent = absurd (omega (arith, above))
spawn_is_there rows plan a (suc b) above there parent =
    subst (λ x. Contains (at_each (λ i. start_of plan (parent_of rows (suc i)) + offset_of rows (suc i)) (length rows - 1))
    (start_of plan x + offset_of rows (suc b))) parent
    (each_is_there (λ i. start_of plan (parent_of rows (suc i)) + offset_of rows (suc i)) (length rows - 1) b (omega (arith, there)))

moment_is_there : (rows : List Row) (plan : List ℕ) (t : ℕ) → IsMoment rows plan t → Contains (candidates rows plan) t
moment_is_there rows plan t m =
    let ends = at_each (end_of rows plan) (length rows) in
    let spawns = at_each (λ i. start_of plan (parent_of rows (suc i)) + offset_of rows (suc i)) (length rows - 1) in
    elim m [
      | inl e ↦ (0, omega arith, sym e)
      | inr later ↦ elim later [
        | inl (r, there, e) ↦ further t 0 (ends ++ spawns)
            (Contains-append_left ends spawns t (subst (λ x. Contains ends x) e (each_is_there (end_of rows plan) (length rows) r there)))
        | inr (a, b, child, e) ↦ further t 0 (ends ++ spawns)
            (Contains-append_right ends spawns t (subst (λ x. Contains spawns x) e (spawn_is_there rows plan a b child.not_main child.there child.parent)))
      ]
    ]

-- the moments are at most twice as many as the rows
pub few_moments : (rows : List Row) (plan : List ℕ) (count : ℕ) → 0 < length rows → CountsAll count (IsMoment rows plan) → count ≤ 2 * length rows
few_moments rows plan count some c = omega (
  arith,
  c.is,
  length-candidates rows plan some,
  rising_few c.list (candidates rows plan) c.rises (λ i h. moment_is_there rows plan _ (c.sound i h)),
)

-- How long rows wait for a cown, at most.
use Rattle.std.proofs.Common.{◌≡◌, ℕ, zero, suc, ◌+◌, ◌*◌, ◌^◌, ◌<◌, ◌≤◌, Bool, true, false, cond, List, [], ◌∷◌, length, get_or, ap, refl, subst, arith}
use Rattle.std.specs.Prelude.{All}
use Rattle.std.proofs.lemmas.Option.{slice_get-get_or}
use Rattle.boc_program.specs.declared.limits.TheConstants.{MOST_ROWS, MOST_TICKS}
use Rattle.boc_runs.specs.declared.rows.Row.{Row}
use Rattle.boc_runs.specs.Rows.{IsRows, offset_of, parent_of, ticks_of}
use Rattle.boc_plans.specs.declared.sharing.Sharing.{Sharing}
use Rattle.boc_plans.specs.Plans.{IsEarliest, Keeps, start_of}
use Rattle.boc_plans.specs.Seen.{seen}
use Rattle.boc_plans.proofs.Seeing.{rows_seen}
use Rattle.boc_cowns.specs.declared.hot.HotCown.{HotCown}
use Rattle.boc_cowns.specs.declared.hot.HotCowns.{HotCowns}
use Rattle.boc_cowns.specs.Hot.{IsHotCowns, sum_where, wait_of, waits_over}

-- when each row starts where one comes after the other, from a tick on
abbrev in_turn : ℕ → List Row → List ℕ
in_turn t [] = []
in_turn t (x ∷ rows) = t ∷ in_turn (t + x.ticks) rows

-- what the rows before one take together
abbrev before : List Row → ℕ → ℕ
before [] r = 0
before (x ∷ rows) zero = 0
before (x ∷ rows) (suc r) = x.ticks + before rows r

length-in_turn : (t : ℕ) (rows : List Row) → length (in_turn t rows) ≡ length rows
length-in_turn t [] = refl
length-in_turn t (x ∷ rows) = ap suc (length-in_turn (t + x.ticks) rows)

turn_at : (rows : List Row) (t r : ℕ) → r < length rows → start_of (in_turn t rows) r ≡ t + before rows r
turn_at [] t r h = absurd (omega (arith, h))
turn_at (x ∷ rows) t zero h = omega arith
turn_at (x ∷ rows) t (suc r) h = omega (arith, turn_at rows (t + x.ticks) r (omega (arith, h)))

rises : (rows : List Row) (a b : ℕ) → a < b → b < length rows → before rows a + ticks_of rows a ≤ before rows b
rises [] a b less h = absurd (omega (arith, h))
rises (x ∷ rows) a zero less h = absurd (omega (arith, less))
rises (x ∷ rows) zero (suc b) less h = omega arith
rises (x ∷ rows) (suc a) (suc b) less h = omega (arith, rises rows a b (omega (arith, less)) (omega (arith, h)))

before_low : (rows : List Row) (r : ℕ) → ((k : ℕ) → k < length rows → ticks_of rows k ≤ MOST_TICKS) → r < length rows → before rows r ≤ r * MOST_TICKS
before_low [] r high h = absurd (omega (arith, h))
before_low (x ∷ rows) zero high h = omega arith
before_low (x ∷ rows) (suc r) high h =
    let own : x.ticks ≤ MOST_TICKS = high 0 (omega arith) in
    omega (arith, own, before_low rows r (λ k l. high (suc k) (omega (arith, l))) (omega (arith, h)))

module _ (rows : List Row) (hr : IsRows rows) where
  abbrev turns : List ℕ
  turns = in_turn 0 rows

  child_after : (b : ℕ) → 0 < b → b < length rows → start_of turns (parent_of rows b) + offset_of rows b ≤ start_of turns b
  child_after b some there =
      let above = hr.parent_before b some there in
      omega (
        arith,
        turn_at rows 0 (parent_of rows b) (omega (arith, above, there)),
        turn_at rows 0 b there,
        rises rows (parent_of rows b) b above there,
        hr.ticks_cover b some there,
      )

  keeps_turns : Keeps rows turns
  keeps_turns = record {
    whole = length-in_turn 0 rows;
    spawned = λ a b child. subst (λ (p : ℕ). start_of turns p + offset_of rows b ≤ start_of turns b) child.parent (child_after b child.not_main child.there);
    in_order = λ a b there o. omega (
      arith,
      turn_at rows 0 a (omega (arith, o.before, there)),
      turn_at rows 0 b there,
      rises rows a b o.before there,
    );
  }

  -- no row waits for longer than all rows can take
  wait_low : (plan : List ℕ) → IsEarliest rows plan → (b : ℕ) → b < length rows → wait_of rows plan b ≤ MOST_ROWS * MOST_TICKS
  wait_low plan earliest b there =
      let start : start_of plan b ≤ start_of turns b = earliest.least turns keeps_turns b there in
      omega (arith, start, turn_at rows 0 b there, before_low rows b hr.ticks_high there, hr.not_many, there)

cond_low : (b : Bool) (x : ℕ) → cond b x 0 ≤ x
cond_low true x = omega arith
cond_low false x = omega arith

sum_low : (passes : ℕ → Bool) (ticks : ℕ → ℕ) (n : ℕ) → ((k : ℕ) → k < n → ticks k ≤ MOST_ROWS * MOST_TICKS)
    → sum_where passes ticks n ≤ n * (MOST_ROWS * MOST_TICKS)
sum_low passes ticks zero low = omega arith
sum_low passes ticks (suc n) low =
    omega (arith, sum_low passes ticks n (λ k h. low k (omega (arith, h))), cond_low (passes n) (ticks n), low n (omega arith))

-- no cown is waited for longer than all rows can wait together
pub waited_low : (list : List Row) (sharing : Sharing) (count : ℕ) (hot : HotCowns) → IsRows list → IsHotCowns list sharing count hot
    → All (λ own. own.waited < 2 ^ 56) hot.cowns.items
waited_low list sharing count hot hr is k d h =
    let rows : List Row = seen sharing list in
    let shape : IsRows rows = rows_seen sharing list hr in
    let own : HotCown = get_or hot.cowns.items k d in
    let told = is.each k own (slice_get-get_or hot.cowns.items k d h) in
    omega (
      arith,
      told.waited,
      sum_low (waits_over rows is.after own.cown) (wait_of rows is.plan) (length rows) (wait_low rows shape is.plan is.earliest),
      shape.not_many,
    )

-- What is known of when cowns come to rows, and stays so as more rows start.
use Rattle.std.proofs.Common.{◌≡◌, ◌≢◌, ◌⊎◌, inl, inr, ℕ, zero, suc, ◌+◌, ◌-◌, ◌*◌, ◌^◌, ◌<◌, ◌≤◌, true, List, length, Option, Some, None, sym, ap, ◌∙◌, arith}
use Rattle.boc_program.specs.declared.limits.TheConstants.{MOST_TICKS}
use Rattle.boc_runs.specs.declared.rows.Row.{Row}
use Rattle.boc_runs.specs.Rows.{IsRows, parent_of, offset_of, ticks_of}
use Rattle.boc_plans.specs.Plans.{start_of}
use Rattle.boc_greedy.specs.Simulating.{later}
use Rattle.boc_uses.specs.declared.uses.Use.{Use}
use Rattle.boc_turns.specs.Turns.{use_of, IsWithin}
use Rattle.boc_used_greedy.specs.Ready.{came, left_at, IsReadyBy, IsReadyFrom}
use Rattle.boc_used_greedy.proofs.Leaving.{own, came_has, came_least, over_above}

-- a row that has started in one plan starts at the same tick in the other one
abbrev pub Keeps : List Row → List ℕ → List ℕ → Type 0
Keeps rows plan other = (a : ℕ) → a < length rows → start_of plan a < later → start_of other a ≡ start_of plan a

module _ (rows : List Row) (hr : IsRows rows) (holds : List (Option Use))
    (within : (c r : ℕ) (u : Use) → own rows holds c r ≡ Some u → IsWithin MOST_TICKS u) where
  module _ (c : ℕ) where
    started : (plan : List ℕ) (a b : ℕ) (u : Use) → a < b → own rows holds c a ≡ Some u → came rows holds plan b c < later
        → left_at rows holds plan a c u ≤ came rows holds plan b c
        → (start_of plan a < later) × (came rows holds plan a c < later)
    started plan a b u lt e known has =
        let above = over_above rows holds c (within c) plan a u e in
        (omega (arith, above.0, has, known), omega (arith, above.1, has, known))

    -- a cown that comes to a row at a known tick comes no sooner as more rows start
    came_stays : (plan other : List ℕ) → Keeps rows plan other → (n b : ℕ) → b < n → b ≤ length rows → came rows holds plan b c < later
        → came rows holds plan b c ≤ came rows holds other b c
    came_stays plan other keeps zero b lt there known = absurd (omega (arith, lt))
    came_stays plan other keeps (suc n) b lt there known = came_least rows holds c plan (came rows holds other b c) b (λ a u less e o. (
        let has = came_has rows holds c plan a b u less e o in
        let s = started plan a b u less e known has in
        let same = keeps a (omega (arith, less, there)) s.0 in
        let up = came_stays plan other keeps n a (omega (arith, less, lt)) (omega (arith, less, there)) s.1 in
        omega (arith, same, up, came_has rows holds c other a b u less e o)))

    -- and it isn't too late
    pub came_low : (plan : List ℕ) (most : ℕ) → ((a : ℕ) → a < length rows → start_of plan a < later → start_of plan a ≤ most) → (n b : ℕ) → b < n
        → b ≤ length rows → came rows holds plan b c < later → came rows holds plan b c ≤ most + b * MOST_TICKS
    came_low plan most low zero b lt there known = absurd (omega (arith, lt))
    came_low plan most low (suc n) b lt there known = came_least rows holds c plan (most + b * MOST_TICKS) b (λ a u less e o. (
        let has = came_has rows holds c plan a b u less e o in
        let s = started plan a b u less e known has in
        let w = within c a u e in
        let start = low a (omega (arith, less, there)) s.0 in
        let up = came_low plan most low n a (omega (arith, less, lt)) (omega (arith, less, there)) s.1 in
        omega (arith, start, up, less, w.from_one, w.rises, w.ends)))

  -- a row that can start from a known tick on can't start sooner as more rows start
  pub ready_stays : (plan other : List ℕ) → Keeps rows plan other → (t u r : ℕ) → r < length rows → t < 2 ^ 63 → IsReadyBy rows holds plan t r
      → IsReadyBy rows holds other u r → IsReadyBy rows holds plan u r
  ready_stays plan other keeps t u r there low known i = record {
    spawned = λ above. (
        let before = hr.parent_before r above there in
        let same = keeps (parent_of rows r) (omega (arith, before, there)) (omega (arith, known.spawned above, low)) in
        omega (arith, same, i.spawned above));
    in_turn = λ c v e need. (
        let w = within c r v e in
        let up = came_stays c plan other keeps (suc r) r (omega arith) (omega (arith, there))
        (omega (arith, known.in_turn c v e need, low, w.rises, w.ends)) in
        omega (arith, up, i.in_turn c v e need));
  }

  -- and it can start soon enough
  pub ready_low : (plan : List ℕ) (most : ℕ) → ((a : ℕ) → a < length rows → start_of plan a < later → start_of plan a ≤ most) → (t r : ℕ)
      → r < length rows → t < 2 ^ 63 → IsReadyBy rows holds plan t r → IsReadyBy rows holds plan (most + (length rows + 1) * MOST_TICKS) r
  ready_low plan most low t r there small i = record {
    spawned = λ above. (
        let before = hr.parent_before r above there in
        let start = low (parent_of rows r) (omega (arith, before, there)) (omega (arith, i.spawned above, small)) in
        omega (arith, start, hr.ticks_cover r above there, hr.ticks_high (parent_of rows r) (omega (arith, before, there)), hr.not_empty));
    in_turn = λ c v e need. (
        let w = within c r v e in
        let up = came_low c plan most low (suc r) r (omega arith) (omega (arith, there))
        (omega (arith, i.in_turn c v e need, small, w.rises, w.ends)) in
        omega (arith, up, there, w.from_one));
  }

-- The cowns of one row are taken on, one after another.
use Rattle.std.proofs.Common.{◌≡◌, ◌≢◌, inl, inr, ℕ, ◌+◌, ◌<◌, List, [], length, Option, Some, sym, ap, ◌∙◌, arith}
use Rattle.std.specs.Prelude.{slice_get, slice_index, slice_set}
use Rattle.std.proofs.lemmas.Bool.{cases_lt}
use Rattle.boc_program.specs.declared.limits.TheConstants.{MOST_COWNS}
use Rattle.boc_runs.specs.declared.rows.Row.{Row}
use Rattle.boc_runs.specs.Rows.{IsRows, cowns_of}
use Rattle.boc_uses.specs.declared.uses.Use.{Use}
use Rattle.boc_turns.proofs.Gathering.{distinct}
use Rattle.boc_used_greedy.specs.declared.fronts.Front.{Front}
use Rattle.boc_used_greedy.specs.Fronts.{Notes, Has, IsFront, HasCome, AreTold, AreFronts, IsOneMore}
use Rattle.boc_used_greedy.proofs.Fronting.{come_still}
use Rattle.boc_used_greedy.proofs.Telling.{AreTakenTo, taken_more}

-- no row has a cown twice
pub cowns_apart : (rows : List Row) → IsRows rows → (r : ℕ) → r < length rows → (i j : ℕ) → i < length (cowns_of rows r)
    → j < length (cowns_of rows r) → i ≢ j → slice_index (cowns_of rows r) i ≢ slice_index (cowns_of rows r) j
cowns_apart rows hr r there i j low small ne = elim (cases_lt i j) [
  | inl lt ↦ distinct rows hr [] r there i j lt small
  | inr ge ↦ λ same. distinct rows hr [] r there j i (omega (arith, ge, ne)) low (sym same)
]

module _ (rows : List Row) (hr : IsRows rows) (holds : List (Option Use)) (plan starts : List ℕ) (row : ℕ) (there : row < length rows)
    (one : IsOneMore plan row starts) (old : List Front) (f : AreFronts rows holds plan old) (n : ℕ) (fronts : List Front) (list : List ℕ)
    (low : n < length (cowns_of rows row)) (t : AreTakenTo rows holds starts row old n fronts list) (x : Front)
    (at : slice_get fronts (slice_index (cowns_of rows row) n) ≡ Some x) where
  -- the next cown's front is the old one
  pub next_old : slice_get old (slice_index (cowns_of rows row) n) ≡ Some x
  next_old =
      sym (t.others (slice_index (cowns_of rows row) n) (λ k lt. cowns_apart rows hr row there k n (omega (arith, lt, low)) low (omega (arith, lt)))) ∙ at

  pub next_come : HasCome rows holds starts (slice_index (cowns_of rows row) n) x
  next_come = come_still rows holds (slice_index (cowns_of rows row) n) plan starts row x one.not_started one.same (f.each _ x next_old).come

  pub next_told : x.at < x.told → AreTold rows holds (slice_index (cowns_of rows row) n) x.at x.told
  next_told lt = (f.each _ x next_old).told

  pub next_taken : (more : List ℕ) (y : Front) → slice_index (cowns_of rows row) n < MOST_COWNS → Has more list
      → IsFront rows holds starts (slice_index (cowns_of rows row) n) y
      → Notes rows holds starts (slice_index (cowns_of rows row) n) x.told y.told more
      → AreTakenTo rows holds starts row old (n + 1) (slice_set fronts (slice_index (cowns_of rows row) n) y) more
  next_taken more y small has is notes = taken_more rows holds plan starts row one old f (cowns_apart rows hr row there) n fronts list more y low small t has
      (record {
        front = is;
        notes = λ z g b ge lt s. (
            let same : z ≡ x = (let e : Some z ≡ Some x = sym g ∙ next_old in cc) in
            notes b (omega (arith, ge, ap (λ (v : Front). v.told) same)) lt s);
      })

-- Rows are for some workers if those of each worker come one after the other.
use Rattle.std.proofs.Common.{◌≡◌, ℕ, zero, suc, ◌+◌, ◌-◌, ◌<◌, ◌≤◌, List, length, get_or, subst, ap, sym, ◌∙◌, inl, inr, arith, Some}
use Rattle.std.specs.Prelude.{All, slice_get}
use Rattle.std.proofs.lemmas.Bool.{cases_lt}
use Rattle.std.proofs.lemmas.Option.{slice_get-get_or, slice_get_within}
use Rattle.boc_runs.specs.declared.rows.Row.{Row}
use Rattle.boc_runs.specs.Rows.{IsRows}
use Rattle.boc_plans.specs.Plans.{start_of, end_of, HasEnds}
use Rattle.boc_plans.specs.Greedy.{worker_of, IsForWorkers, RunsAt}
use Rattle.boc_busy.specs.declared.stints.Stint.{Stint}
use Rattle.boc_busy.specs.Stints.{AreApart, AreInLine}

module _ (rows : List Row) (hr : IsRows rows) (starts ends workers : List ℕ) (stints : List Stint) (whole : length starts ≡ length rows)
    (has : HasEnds rows starts ends) (line : AreInLine starts ends workers stints) where
  -- a stint's row is one of the rows, and its end is later than its start
  stint_there : (k : ℕ) (s : Stint) → slice_get stints k ≡ Some s → s.row < length rows
  stint_there k s is = omega (arith, whole, (line.each k s is).0)

  stint_ends : (k : ℕ) (s : Stint) → slice_get stints k ≡ Some s → s.end ≡ end_of rows starts s.row
  stint_ends k s is = (line.each k s is).1.end_is ∙ has.at s.row (stint_there k s is)

  stint_starts : (k : ℕ) (s : Stint) → slice_get stints k ≡ Some s → s.start ≡ start_of starts s.row
  stint_starts k s is = (line.each k s is).1.start_is

  stint_long : (k : ℕ) (s : Stint) → slice_get stints k ≡ Some s → s.start < s.end
  stint_long k s is = omega (arith, stint_starts k s is, stint_ends k s is, hr.ticks_low s.row (stint_there k s is))

  -- a row is under way at the ticks of its stint
  stint_runs : (k : ℕ) (s : Stint) → slice_get stints k ≡ Some s → (t : ℕ) → s.start ≤ t → t < s.end → RunsAt rows starts s.row t
  stint_runs k s is t begun not_over = record {
    there = stint_there k s is;
    begun = omega (arith, begun, stint_starts k s is);
    not_over = omega (arith, not_over, stint_ends k s is);
  }

  -- where the stints are apart, so are those that don't stand side by side
  module _ (apart : AreApart stints) where
    far_apart : (d i j : ℕ) (a b : Stint) → j ≡ i + d + 1 → slice_get stints i ≡ Some a → slice_get stints j ≡ Some b → a.worker ≡ b.worker → a.end ≤ b.start
    far_apart zero i j a b place ia ib same = apart i a b ia (subst (λ (x : ℕ). slice_get stints x ≡ Some b) (omega (arith, place)) ib) same
    far_apart (suc d) i j a b place ia ib same =
        let k : ℕ = i + d + 1 in
        let next : j ≡ k + 1 = omega (arith, place) in
        let low : k < length stints = omega (arith, slice_get_within stints j b ib, next) in
        let m : Stint = get_or stints k a in
        let im : slice_get stints k ≡ Some m = slice_get-get_or stints k a low in
        let on : a.worker ≡ m.worker = elim (line.rise i k a m (omega arith) ia im) [
          | inl l ↦ elim (line.rise k j m b (omega (arith, next)) im ib) [
            | inl r ↦ absurd (omega (arith, l, r, same))
            | inr up ↦ absurd (omega (arith, l, up.0, same))
          ]
          | inr up ↦ up.0
        ] in
        let first : a.end ≤ m.start = far_apart d i k a m (omega arith) ia im on in
        let last : m.end ≤ b.start = apart k m b im (subst (λ (x : ℕ). slice_get stints x ≡ Some b) next ib) (omega (arith, on, same)) in
        omega (arith, first, last, stint_long k m im)

    first_over : (i j : ℕ) (a b : Stint) → i < j → slice_get stints i ≡ Some a → slice_get stints j ≡ Some b → a.worker ≡ b.worker → a.end ≤ b.start
    first_over i j a b l ia ib same = far_apart (j - i - 1) i j a b (omega (arith, l)) ia ib same

    one_at : (a b t : ℕ) → RunsAt rows starts a t → RunsAt rows starts b t → worker_of workers a ≡ worker_of workers b → a ≡ b
    one_at a b t ra rb same =
        let (i, s, is, row_s) = line.all a (omega (arith, whole, ra.there)) in
        let (j, u, iu, row_u) = line.all b (omega (arith, whole, rb.there)) in
        let on_s : s.worker ≡ worker_of workers a = (line.each i s is).1.worker_is ∙ ap (worker_of workers) row_s in
        let on_u : u.worker ≡ worker_of workers b = (line.each j u iu).1.worker_is ∙ ap (worker_of workers) row_u in
        let begun_s : s.start ≡ start_of starts a = stint_starts i s is ∙ ap (start_of starts) row_s in
        let begun_u : u.start ≡ start_of starts b = stint_starts j u iu ∙ ap (start_of starts) row_u in
        let over_s : s.end ≡ end_of rows starts a = stint_ends i s is ∙ ap (end_of rows starts) row_s in
        let over_u : u.end ≡ end_of rows starts b = stint_ends j u iu ∙ ap (end_of rows starts) row_u in
        let ra_begun = ra.begun in let rb_begun = rb.begun in let ra_over = ra.not_over in let rb_over = rb.not_over in
        elim (cases_lt i j) [
          | inl l ↦ absurd (omega (arith, first_over i j s u l is iu (omega (arith, on_s, on_u, same)), begun_u, rb_begun, over_s, ra_over))
          | inr g ↦ elim (cases_lt j i) [
            | inl l ↦ absurd (omega (arith, first_over j i u s l iu is (omega (arith, on_s, on_u, same)), begun_s, ra_begun, over_u, rb_over))
            | inr h ↦ (
                let place : i ≡ j = omega (arith, g, h) in
                let same_stint : Some s ≡ Some u = sym is ∙ ap (slice_get stints) place ∙ iu in
                sym row_s ∙ ap (λ (x : Stint). x.row) (let e : s ≡ u = cc in e) ∙ row_u)
          ]
        ]

    pub are_for : (p : ℕ) → length workers ≡ length starts → All (λ w. w < p) workers → IsForWorkers rows p starts workers
    are_for p served low = record {
      whole = served ∙ whole;
      below = λ r there. low r 0 (omega (arith, there, served, whole));
      apart = one_at;
    }

  -- and where no worker has two rows at one tick, they are apart
  pub all_apart : (p : ℕ) → IsForWorkers rows p starts workers → AreApart stints
  all_apart p fit k a b ia ib same = elim (cases_lt b.start a.end) [
    | inl l ↦ (
        let rises : a.start ≤ b.start = elim (line.rise k (k + 1) a b (omega arith) ia ib) [
          | inl less ↦ absurd (omega (arith, less, same))
          | inr up ↦ up.1
        ] in
        let on : worker_of workers a.row ≡ worker_of workers b.row = sym (line.each k a ia).1.worker_is ∙ same ∙ (line.each (k + 1) b ib).1.worker_is in
        let one : a.row ≡ b.row = fit.apart a.row b.row b.start (stint_runs k a ia b.start rises l)
        (stint_runs (k + 1) b ib b.start (omega arith) (stint_long (k + 1) b ib)) on in
        absurd (line.one k (k + 1) a b (omega arith) ia ib one))
    | inr ge ↦ ge
  ]

-- The moments of a simulation, counted one after another.
use Rattle.std.proofs.Common.{◌≡◌, ℕ, zero, suc, ◌+◌, ◌<◌, ◌≤◌, ◌⊎◌, List, [], ◌∷◌, ◌++◌, length, refl, sym, subst, inl, inr, arith}
use Rattle.std.specs.Prelude.{slice_index}
use Rattle.std.specs.List.{Contains}
use Rattle.std.proofs.lemmas.Bool.{cases_lt}
use Rattle.std.proofs.lemmas.List.{get_or_append_left, get_or_push, length_push}
use Rattle.std.proofs.lemmas.List.Elements.{Contains-push, Contains-append_left}
use Rattle.boc_runs.specs.declared.rows.Row.{Row}
use Rattle.boc_runs.specs.Rows.{IsRows}
use Rattle.boc_plans.specs.Greedy.{IsMoment, CountsAll}
use Rattle.boc_greedy.specs.Simulating.{IsPast}
use Rattle.boc_greedy.proofs.Agreeing.{Agree, turned}

-- numbers with the same properties are counted alike
pub counts_same : (n : ℕ) (P Q : ℕ → Type 0) → ((x : ℕ) → P x → Q x) → ((x : ℕ) → Q x → P x) → CountsAll n P → CountsAll n Q
counts_same n P Q f g c = record { list = c.list; rises = c.rises; sound = λ i h. f _ (c.sound i h); complete = λ x q. c.complete x (g x q); is = c.is }

-- one number more, above all before it
module _ (n : ℕ) (P Q : ℕ → Type 0) (t u : ℕ) (above : t < u) (low : (x : ℕ) → P x → x ≤ t) (keeps : (x : ℕ) → P x → Q x) (here : Q u)
    (one : (x : ℕ) → Q x → P x ⊎ (x ≡ u)) (c : CountsAll n P) where
  abbrev longer : List ℕ
  longer = c.list ++ u ∷ []

  long : length longer ≡ length c.list + 1
  long = length_push c.list u

  left : (i : ℕ) → i < length c.list → slice_index longer i ≡ slice_index c.list i
  left i h = get_or_append_left c.list (u ∷ []) 0 i h

  last : (i : ℕ) → i < length longer → length c.list ≤ i → slice_index longer i ≡ u
  last i h ge = get_or_push c.list u 0 i (omega (arith, long, h, ge))

  pub counts_more : CountsAll (n + 1) Q
  counts_more = record {
    list = longer;
    rises = λ i j lt h. elim (cases_lt j (length c.list)) [
      | inl l ↦ omega (arith, left i (omega (arith, lt, l)), left j l, c.rises i j lt l)
      | inr ge ↦ (let il : i < length c.list = omega (arith, lt, h, long) in omega (arith, left i il, last j h ge, low _ (c.sound i il), above))
    ];
    sound = λ i h. elim (cases_lt i (length c.list)) [
      | inl l ↦ rw (left i l) (keeps _ (c.sound i l))
      | inr ge ↦ rw (last i h ge) here
    ];
    complete = λ x q. elim (one x q) [
      | inl old ↦ Contains-append_left c.list (u ∷ []) x (c.complete x old)
      | inr e ↦ subst (λ (y : ℕ). Contains longer y) (sym e) (Contains-push c.list u)
    ];
    is = omega (arith, long, c.is);
  }

-- plans that agree before a tick have the same moments up to it
moment_there : (rows : List Row) → IsRows rows → (t : ℕ) (starts starts' workers workers' : List ℕ) → Agree t starts starts' workers workers' →
    (u : ℕ) → u ≤ t → IsMoment rows starts u → IsMoment rows starts' u
moment_there rows hr t starts starts' workers workers' a u le (inl z) = inl z
moment_there rows hr t starts starts' workers workers' a u le (inr (inl m)) =
    inr (inl (m.0, m.1, omega (arith, m.2, (a.there m.0 (omega (arith, m.2, le, hr.ticks_low m.0 m.1))).0)))
moment_there rows hr t starts starts' workers workers' a u le (inr (inr m)) =
    inr (inr (m.0, m.1, m.2, omega (arith, m.3, (a.there m.0 (omega (arith, m.3, le, hr.offset_above m.1 m.2.not_main m.2.there))).0)))

pub counts_given : (rows : List Row) → IsRows rows → (t : ℕ) (starts starts' workers workers' : List ℕ) → Agree t starts starts' workers workers' →
    (n : ℕ) → CountsAll n (IsPast rows starts t) → CountsAll n (IsPast rows starts' t)
counts_given rows hr t starts starts' workers workers' a n c = counts_same n (IsPast rows starts t) (IsPast rows starts' t)
    (λ u i. record { come = i.come; moment = moment_there rows hr t starts starts' workers workers' a u i.come i.moment })
    (λ u i. record {
      come = i.come;
      moment = moment_there rows hr t starts' starts workers' workers (turned t starts starts' workers workers' a) u i.come
          i.moment;
    }) c

-- the next moment is counted
pub counts_next : (rows : List Row) (starts : List ℕ) (t u n : ℕ) → t < u → IsMoment rows starts u → ((x : ℕ) → IsMoment rows starts x → t < x → x ≤ u → x ≡ u)
    →
    CountsAll n (IsPast rows starts t) → CountsAll (n + 1) (IsPast rows starts u)
counts_next rows starts t u n above here none c = counts_more n (IsPast rows starts t) (IsPast rows starts u) t u above
    (λ x i. i.come) (λ x i. record { come = omega (arith, i.come, above); moment = i.moment }) (record { come = omega arith; moment = here })
    (λ x i. elim (cases_lt t x) [ inl l ↦ inr (none x i.moment l i.come) | inr ge ↦ inl (record { come = ge; moment = i.moment }) ]) c

-- before anything starts, the first tick is the only moment
pub counts_first : (rows : List Row) (starts : List ℕ) → CountsAll 1 (IsPast rows starts 0)
counts_first rows starts = record {
  list = 0 ∷ [];
  rises = λ i j lt h. absurd (omega (arith, lt, h));
  sound = λ i h. (let z : slice_index (0 ∷ []) i ≡ 0 = zero_at i h in rw z (record { come = omega arith; moment = inl refl }));
  complete = λ x i. (0, omega arith, omega (arith, i.come));
  is = refl;
}
  where
    zero_at : (i : ℕ) → i < 1 → slice_index (0 ∷ []) i ≡ 0
    zero_at zero h = refl
    zero_at (suc i) h = absurd (omega (arith, h))

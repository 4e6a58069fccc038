-- When some rows end at the earliest is one tick, of one cown.
use Rattle.std.proofs.Common.{◌≡◌, ℕ, ◌<◌, ⊎_elim, List, length, refl, ap, subst, arith, Option, Some, None}
use Rattle.std.proofs.lemmas.Bool.{cases_order}
use Rattle.boc_runs.specs.declared.rows.Row.{Row}
use Rattle.boc_order.proofs.Alone.{one_plan, one_span}
use Rattle.boc_order.specs.declared.least.Busiest.{Busiest}
use Rattle.boc_order.specs.declared.least.Least.{Least}
use Rattle.boc_order.specs.Least.{IsBusiest, IsBusiestOf, IsBusy, IsHeldFrom, IsLeast, load_of, start_or_0, without_cowns, wrote_cown}
use Rattle.boc_order.proofs.FirstStarts.{one_first}
use Rattle.boc_order.proofs.LeastSpawns.{plan_span}

module _ (rows : List Row) (spawned : List ℕ) (count : ℕ) where
  one_busy_cown : (a b : Busiest) → IsBusiest rows spawned count a → IsBusiest rows spawned count b → a.cown ≡ b.cown
  one_busy_cown a b x y = ⊎_elim (λ (e : a.cown ≡ b.cown). e)
      (⊎_elim
      (λ (l : a.cown < b.cown). absurd (omega (arith, y.first a l x.is, x.none_later b y.below y.is)))
      (λ (g : b.cown < a.cown). absurd (omega (arith, x.first b g y.is, y.none_later a x.below x.is))))
      (cases_order a.cown b.cown)

  -- of one cown one thing is so
  pub one_busy : (a b : Busiest) → IsBusy rows spawned a → IsBusy rows spawned b → a.cown ≡ b.cown → a ≡ b
  one_busy a b x y cown =
      let load : a.load ≡ b.load = omega (arith, x.load, y.load, ap (load_of rows) cown) in
      let from : a.from ≡ b.from = one_first (wrote_cown rows b.cown) spawned (length rows) a.from b.from
      (subst (λ (k : ℕ). IsHeldFrom rows spawned k a.from) cown x.from) y.from in
      let until : a.until ≡ b.until = omega (arith, x.until, y.until, load, ap start_or_0 from) in
      λ i. record { cown = cown i; load = load i; from = from i; until = until i }

  one_busiest : (busiest other : Option Busiest) → IsBusiestOf rows spawned count busiest → IsBusiestOf rows spawned count other → busiest ≡ other
  one_busiest None None a b = refl
  one_busiest None (Some y) a b = absurd (omega (arith, a, b.below))
  one_busiest (Some x) None a b = absurd (omega (arith, b, a.below))
  one_busiest (Some x) (Some y) a b = ap (λ (busy : Busiest). Some busy) (one_busy x y a.is b.is (one_busy_cown x y a b))

pub one_least : (rows : List Row) (count : ℕ) (least other : Least) → IsLeast rows count least → IsLeast rows count other → least ≡ other
one_least rows count least other a b =
    let spawned : a.spawned ≡ b.spawned = one_plan (without_cowns rows) a.spawned b.spawned a.by_spawns.earliest b.by_spawns.earliest in
    let spawns : least.spawns ≡ other.spawns = one_span (without_cowns rows) least.spawns other.spawns
    (plan_span rows a.spawned least.spawns a.by_spawns) (plan_span rows b.spawned other.spawns b.by_spawns) in
    let busiest : least.busiest ≡ other.busiest = one_busiest rows b.spawned count least.busiest other.busiest
    (subst (λ (plan : List ℕ). IsBusiestOf rows plan count least.busiest) spawned a.busiest) b.busiest in
    λ i. record { spawns = spawns i; busiest = busiest i }

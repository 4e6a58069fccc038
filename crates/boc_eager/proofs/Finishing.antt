-- Rows that are looked at, one after the other, come to an end.
use Rattle.std.proofs.Common.{◌≡◌, ℕ, ◌+◌, ◌-◌, ◌*◌, ◌<◌, List, refl, subst, sym, arith, inl, inr}
use Rattle.std.proofs.lemmas.Bool.{cases_eq}
use Rattle.boc_runs.specs.declared.rows.Row.{Row}
use Rattle.boc_runs.specs.Rows.{IsRows}
use Rattle.boc_eager.specs.declared.course.Course.{Course}
use Rattle.boc_eager.specs.declared.place.Place.{Place}
use Rattle.boc_eager.specs.declared.place.Place.TheVariants.{Unspawned, New, First, FirstFor, BehindKin, BehindFor, Started}
use Rattle.boc_eager.specs.Courses.{InHand, IsAt, IsBefore, IsInHand, IsKept, IsKeptBut, IsLookedAt, Stands, later}
use Rattle.boc_eager.proofs.Leaving.{one_place}

pub fewer_left : (t p u r : ℕ) → IsBefore t p u r → u < later → p < 65536 → r < 65536
    → (later - u) * 65536 + (65536 - r) < (later - t) * 65536 + (65536 - p)
fewer_left t p u r (inl l) low hp hr = omega (arith, l, low, hp, hr)
fewer_left t p u r (inr e) low hp hr = (let e0 = e.0 in let e1 = e.1 in omega (arith, e0, e1, low, hp, hr))

pub kept_low : (rows : List Row) (c : Course) → IsRows rows → IsKept rows c → (c.tick < later) × (c.row < 65536)
kept_low rows c hr k = (omega (arith, k.ends.low, k.tick_low, hr.not_many), omega (arith, k.row_there, hr.not_many))

-- what stands where no row is looked at stands there still
stands_idle : (rows : List Row) (c : Course) (r : ℕ) (place : Place) → (place ≡ New → ⊥) → (place ≡ First → ⊥) → ((wait : ℕ) → place ≡ FirstFor wait → ⊥)
    → InHand rows c r place → Stands rows c r place
stands_idle rows c r Unspawned new first for s = s
stands_idle rows c r New new first for s = absurd (new refl)
stands_idle rows c r First new first for s = absurd (first refl)
stands_idle rows c r (FirstFor wait) new first for s = absurd (for wait refl)
stands_idle rows c r BehindKin new first for s = s
stands_idle rows c r (BehindFor wait) new first for s = s
stands_idle rows c r Started new first for s = s

pub looks_idle : (rows : List Row) (c : Course) (r : ℕ) → IsInHand rows r c → (place : Place) → IsAt c.places.items r place → (place ≡ New → ⊥)
    → (place ≡ First → ⊥) → ((wait : ℕ) → place ≡ FirstFor wait → ⊥) → IsLookedAt rows c c
looks_idle rows c r h place at new first for = record {
  kept = record {
    of_rows = k.of_rows;
    so_far = k.so_far;
    free_are = k.free_are;
    free_low = k.free_low;
    kin_are = k.kin_are;
    queues_are = k.queues_are;
    stands = λ b p hb ne at'. elim (cases_eq b r) [
      | inl e ↦ subst (λ (z : ℕ). Stands rows c z p) (sym e) (subst (λ (q : Place). Stands rows c r q)
          (one_place c.places.items r place p at (subst (λ (z : ℕ). IsAt c.places.items z p) e at'))
          (stands_idle rows c r place new first for (h.place place at)))
      | inr other ↦ k.stands b p hb other at'
    ];
    next_are = k.next_are;
    ends = k.ends;
    tick_low = k.tick_low;
    row_there = k.row_there;
  };
  tick = refl;
  row = refl;
}
  where
    k : IsKeptBut rows r c
    k = h.kept

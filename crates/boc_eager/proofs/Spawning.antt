-- The children of a row that starts, one after another.
use Rattle.std.proofs.Common.{◌≡◌, ◌≢◌, ℕ, ◌+◌, ◌<◌, ◌≤◌, List, length, set, sym, ap, ◌∙◌, subst, arith, inl, inr, length-set}
use Rattle.std.specs.List.{Contains}
use Rattle.std.proofs.lemmas.Bool.{cases_eq, cases_lt}
use Rattle.boc_program.proofs.ChangedItems.{set_same, set_other}
use Rattle.boc_runs.specs.declared.rows.Row.{Row}
use Rattle.boc_runs.specs.Rows.{offset_of}
use Rattle.boc_runs.specs.Changes.{IsChildOf}
use Rattle.boc_runs.specs.Siblings.{IsNextChild}
use Rattle.boc_plans.specs.Plans.{IsChild}
use Rattle.boc_eager.specs.declared.place.Place.{Place}
use Rattle.boc_eager.specs.declared.place.Place.TheVariants.{New}
use Rattle.boc_eager.specs.Lines.{Adds}
use Rattle.boc_eager.specs.Courses.{AreSpawned, IsAt}

-- a next child is spawned, and there is none between it and the one after it
pub spawned_more : (rows : List Row) (r t child younger : ℕ) (places mid : List Place) (next mid-next new-next : List (ℕ × ℕ)) → length places ≡ length rows
    → child < length rows → IsChildOf rows r child → IsNextChild rows r (child + 1) younger
    → AreSpawned rows r t child places mid next mid-next → Adds mid-next new-next (t + offset_of rows child, child)
    → AreSpawned rows r t younger places (set mid child New) next new-next
spawned_more rows r t child younger places mid next mid-next new-next whole there is y s a = record {
  whole = length-set mid child New ∙ s.whole;
  child = λ b low kid. elim (cases_eq b child) [
    | inl e ↦ (
      subst (λ (x : ℕ). IsAt (set mid child New) x New) (sym e) (set_same mid child New (omega (arith, there, whole, s.whole))),
      subst (λ (x : ℕ). Contains new-next (t + offset_of rows x, x)) (sym e) a.here,
    )
    | inr ne ↦ (
        let before : b < child = below b low kid ne in
        let old = s.child b before kid in
        (set_other mid child b New ne ∙ old.0, a.stays _ old.1))
  ];
  others = λ b none. (
      let ne : b ≢ child = λ e. none (subst (λ (x : ℕ). x < younger) (sym e) (omega (arith, y.above)))
      (subst (IsChild rows r) (sym e) (record { not_main = is.0; there = is.1; parent = is.2 })) in
      set_other mid child b New ne ∙ s.others b (λ low. none (omega (arith, low, y.above))));
  stays = λ e m. a.stays e (s.stays e m);
  was = λ e m. elim (a.was e m) [
    | inl same ↦ inr (
        let e0 : e.0 ≡ t + offset_of rows child = ap (λ (p : ℕ × ℕ). p.0) same in
        let e1 : e.1 ≡ child = ap (λ (p : ℕ × ℕ). p.1) same in (
          subst (IsChild rows r) (sym e1) (record { not_main = is.0; there = is.1; parent = is.2 }),
          e0 ∙ ap (λ (x : ℕ). t + offset_of rows x) (sym e1),
        ))
    | inr old ↦ s.was e old
  ];
}
  where
    below : (b : ℕ) → b < younger → IsChild rows r b → b ≢ child → b < child
    below b low kid ne = elim (cases_lt b child) [
      | inl l ↦ l
      | inr ge ↦ absurd (y.none_between b (omega (arith, ge)) low (kid.not_main, kid.there, kid.parent))
    ]

pub spawned_all : (rows : List Row) (r t child : ℕ) (places places' : List Place) (next next' : List (ℕ × ℕ)) → child ≤ length rows → length rows ≤ child
    → AreSpawned rows r t child places places' next next' → AreSpawned rows r t (length rows) places places' next next'
spawned_all rows r t child places places' next next' low high s =
    subst (λ (n : ℕ). AreSpawned rows r t n places places' next next') (let e : child ≡ length rows = omega (arith, low, high) in e) s

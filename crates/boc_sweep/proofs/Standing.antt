-- The rows of a record have an earliest plan, and it has an end.
use Rattle.std.proofs.Common.{◌≡◌, ℕ, zero, suc, ◌+◌, ◌<◌, ◌≤◌, ◌⊎◌, List, [], ◌∷◌, ◌++◌, length, Option, inl, inr, refl, sym, subst, arith}
use Rattle.std.specs.Prelude.{slice_index}
use Rattle.std.specs.List.{Contains}
use Rattle.std.proofs.lemmas.Bool.{cases_lt, cases_eq}
use Rattle.boc_runs.specs.declared.rows.Row.{Row}
use Rattle.boc_runs.specs.Rows.{IsRows, parent_of, offset_of, ticks_of, cowns_of}
use Rattle.boc_plans.specs.Plans.{ConflictOn, Ordered, end_of, IsEnd}
use Rattle.boc_order.specs.declared.latest.Latest.{Latest}
use Rattle.boc_order.specs.Latest.{later_of, IsLatestOf}
use Rattle.boc_order.specs.Placed.{placement, ArePlaced}
use Rattle.boc_order.proofs.Near.{conflict_at}
use Rattle.boc_order.proofs.Remembering.{IsLatest-same, later_latest, single, contains_head, contains_tail, contains_cases}
use Rattle.boc_order.proofs.Placing.{placement_waits, more_placed, placed_none}

-- a row is ordered before another, or isn't
module _ (rows : List Row) (n : ℕ) where
  on_some : (a : ℕ) (cowns : List ℕ) → ((c : ℕ) × Contains cowns c × ConflictOn rows c a n) ⊎ ((c : ℕ) → Contains cowns c → ConflictOn rows c a n → ⊥)
  on_some a [] = inr (λ c k. absurd (omega (arith, k.1)))
  on_some a (x ∷ cowns) = elim (conflict_at rows x a n) [
    | inl p ↦ inl (x, contains_head x cowns, p)
    | inr isnt ↦ elim (on_some a cowns) [
      | inl (c, k, p) ↦ inl (c, contains_tail x c cowns k, p)
      | inr none ↦ inr (λ c k p. elim (contains_cases x c cowns k) [ inl e ↦ isnt (subst (λ (y : ℕ). ConflictOn rows y a n) (sym e) p) | inr m ↦ none c m p ])
    ]
  ]

  ordered_or : (a : ℕ) → a < n → Ordered rows a n ⊎ (Ordered rows a n → ⊥)
  ordered_or a h = elim (on_some a (cowns_of rows a)) [
    | inl (c, k, p) ↦ inl (record { before = h; shared = (c, p) })
    | inr none ↦ inr (λ o. none o.shared.0 o.shared.1.first o.shared.1)
  ]

  -- of the first m rows those that are ordered before row n
  abbrev OrderedBelow : ℕ → ℕ → Type 0
  OrderedBelow m a = (a < m) × Ordered rows a n

  ordered_upto : (ends : List ℕ) → ((a : ℕ) → a < n → 0 < slice_index ends a) → (m : ℕ) → m ≤ n
      → (best : Latest) × IsLatestOf (OrderedBelow m) (slice_index ends) best
  ordered_upto ends late zero h = (record { end = 0; row = 0 }, record { none = λ e a o. omega (arith, o.0); some = λ l. absurd (omega (arith, l)) })
  ordered_upto ends late (suc m) h =
      let p = ordered_upto ends late m (omega (arith, h)) in
      elim (ordered_or m (omega (arith, h))) [
        | inl o ↦ (later_of p.0 (record { end = slice_index ends m; row = m }), one_more ends late m h p.0 p.1 o)
        | inr isnt ↦ (
          p.0,
          IsLatest-same (OrderedBelow m) (OrderedBelow (suc m)) (slice_index ends) (slice_index ends) p.0
              (λ a k. (omega (arith, k.0), k.1))
              (λ a k. elim (cases_eq a m) [ inl e ↦ absurd (isnt (subst (λ (x : ℕ). Ordered rows x n) e k.1)) | inr ne ↦ (omega (arith, k.0), k.1) ])
              (λ a k. refl) p.1,
        )
      ]
    where
      one_more : (ends : List ℕ) → ((a : ℕ) → a < n → 0 < slice_index ends a) → (m : ℕ) → suc m ≤ n → (best : Latest)
          → IsLatestOf (OrderedBelow m) (slice_index ends) best →
          Ordered rows m n → IsLatestOf (OrderedBelow (suc m)) (slice_index ends) (later_of best (record { end = slice_index ends m; row = m }))
      one_more ends late m h best q o =
          IsLatest-same (λ a. OrderedBelow m a ⊎ (a ≡ m)) (OrderedBelow (suc m)) (slice_index ends) (slice_index ends) _
          (λ a k. elim k [ inl k ↦ (omega (arith, k.0), k.1) | inr e ↦ (omega (arith, e), subst (λ (x : ℕ). Ordered rows x n) (sym e) o) ])
          (λ a k. elim (cases_eq a m) [ inl e ↦ inr e | inr ne ↦ inl (omega (arith, k.0), k.1) ])
          (λ a k. refl)
          (later_latest (OrderedBelow m) (λ a. a ≡ m) (slice_index ends) best (record { end = slice_index ends m; row = m }) q
          (single (slice_index ends) (record { end = slice_index ends m; row = m }) (late m (omega (arith, h))) refl))

-- a plan of the first n rows
pub record Stands (rows : List Row) (n : ℕ) : Type 0 where
  pub starts : List ℕ
  pub ends : List ℕ
  pub after : List (Option ℕ)
  pub placed : ArePlaced rows starts ends after n

spawned_of : List Row → ℕ → List ℕ → ℕ
spawned_of rows zero starts = 0
spawned_of rows (suc n) starts = slice_index starts (parent_of rows (suc n)) + offset_of rows (suc n)

spawned_main : (rows : List Row) (n : ℕ) (starts : List ℕ) → n ≡ 0 → spawned_of rows n starts ≡ 0
unfolding spawned_of
spawned_main rows zero starts e = refl
spawned_main rows (suc n) starts e = absurd (omega arith)

spawned_child : (rows : List Row) (n : ℕ) (starts : List ℕ) → 0 < n → spawned_of rows n starts ≡ slice_index starts (parent_of rows n) + offset_of rows n
unfolding spawned_of
spawned_child rows zero starts h = absurd (omega (arith, h))
spawned_child rows (suc n) starts h = refl

stands_next : (rows : List Row) → IsRows rows → (n : ℕ) → n < length rows → Stands rows n → Stands rows (n + 1)
stands_next rows hr n there s =
    let spawned : ℕ = spawned_of rows n s.starts in
    let late : (a : ℕ) → a < n → 0 < slice_index s.ends a = λ a h. omega (arith, (s.placed.placed a h).ends_then, hr.ticks_low a (omega (arith, h, there))) in
    let p = ordered_upto rows n s.ends late n (omega arith) in
    let q : IsLatestOf (λ a. Ordered rows a n) (slice_index s.ends) p.0 =
    IsLatest-same (OrderedBelow rows n n) (λ a. Ordered rows a n) (slice_index s.ends) (slice_index s.ends) p.0 (λ a k. k.1) (λ a o. (o.before, o))
    (λ a k. refl) p.1 in
    let place : ℕ × Option ℕ = placement spawned p.0 in
    record {
      starts = s.starts ++ place.0 ∷ [];
      ends = s.ends ++ (place.0 + ticks_of rows n) ∷ [];
      after = s.after ++ place.1 ∷ [];
      placed = more_placed rows hr s.starts s.ends s.after n there s.placed spawned place.0 place.1
          (record { main = spawned_main rows n s.starts; child = spawned_child rows n s.starts }) (placement_waits rows s.ends n spawned p.0 q);
    }

pub stands : (rows : List Row) → IsRows rows → (n : ℕ) → n ≤ length rows → Stands rows n
stands rows hr zero h = record { starts = []; ends = []; after = []; placed = placed_none rows [] [] [] refl refl refl }
stands rows hr (suc n) h =
    let same : n + 1 ≡ suc n = omega arith in
    subst (Stands rows) same (stands_next rows hr n (omega arith) (stands rows hr n (omega arith)))

-- the end of the first n rows
end_upto : (rows : List Row) (plan : List ℕ) (n : ℕ) → 0 < n → (r : ℕ) × (r < n) × ((a : ℕ) → a < n → end_of rows plan a ≤ end_of rows plan r)
end_upto rows plan zero h = absurd (omega (arith, h))
end_upto rows plan (suc n) h = elim (cases_eq n 0) [
  | inl e ↦ (n, omega arith, λ a below. (let same : a ≡ n = omega arith in rw same (omega arith)))
  | inr ne ↦ (
      let p = end_upto rows plan n (omega arith) in
      elim (cases_lt (end_of rows plan p.0) (end_of rows plan n)) [
        | inl l ↦ (
          n,
          omega arith,
          λ a below. elim (cases_lt a n) [
            | inl k ↦ omega (arith, p.2 a k, l)
            | inr g ↦ (let same : a ≡ n = omega arith in rw same (omega arith))
          ],
        )
        | inr g ↦ (
          p.0,
          omega (arith, p.1),
          λ a below. elim (cases_lt a n) [
            | inl k ↦ p.2 a k
            | inr f ↦ (let same : a ≡ n = omega arith in rw same (omega (arith, g)))
          ],
        )
      ])
]

pub has_end : (rows : List Row) → IsRows rows → (plan : List ℕ) → (last : ℕ) × IsEnd rows plan last
has_end rows hr plan =
    let p = end_upto rows plan (length rows) hr.not_empty in
    (end_of rows plan p.0, record { none_later = p.2; reached = (p.0, p.1, refl) })

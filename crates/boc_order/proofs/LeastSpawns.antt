-- Rows that only their spawns order, placed one after another: that is their earliest plan without cowns.
use Rattle.std.proofs.Common.{◌≡◌, ◌⊎◌, inl, inr, ℕ, zero, suc, ◌+◌, ◌*◌, ◌<◌, ◌≤◌, ◌^◌, max, List, [], ◌∷◌, ◌++◌, length}
use Rattle.std.proofs.Common.{refl, ap, sym, ◌∙◌, subst, arith}
use Rattle.std.specs.Option.{option_map_or}
use Rattle.std.specs.Prelude.{All, slice_get, slice_index}
use Rattle.std.proofs.lemmas.Bool.{cases_eq, cases_lt}
use Rattle.std.proofs.lemmas.List.{get_or_append_left, get_or_default, get_or_push, length_push, length-map}
use Rattle.boc_program.specs.declared.limits.TheConstants.{MOST_ROWS, MOST_TICKS}
use Rattle.boc_runs.specs.declared.rows.Row.{Row}
use Rattle.boc_runs.specs.Rows.{IsRows, parent_of, offset_of, ticks_of, cowns_of}
use Rattle.boc_plans.specs.Plans.{start_of, end_of, IsChild, Ordered, Keeps, IsEnd}
use Rattle.boc_plans.specs.Greedy.{IsSpan}
use Rattle.boc_order.specs.Least.{bare_row, without_cowns, IsSpawnPlan, KeepsSpawns}

-- ---- the rows without cowns

pub length-bare : (rows : List Row) → length (without_cowns rows) ≡ length rows
length-bare rows = length-map rows bare_row

read_bare : {X : Type 0} (f g : Row → X) (d : X) → ((x : Row) → f (bare_row x) ≡ g x) → (rows : List Row) (r : ℕ)
    → option_map_or f (slice_get (without_cowns rows) r) d ≡ option_map_or g (slice_get rows r) d
read_bare f g d tells [] r = refl
read_bare f g d tells (x ∷ rows) zero = tells x
read_bare f g d tells (x ∷ rows) (suc r) = read_bare f g d tells rows r

parent_of-bare : (rows : List Row) (r : ℕ) → parent_of (without_cowns rows) r ≡ parent_of rows r
parent_of-bare = read_bare (λ (x : Row). x.parent) (λ (x : Row). x.parent) 0 (λ x. refl)

offset_of-bare : (rows : List Row) (r : ℕ) → offset_of (without_cowns rows) r ≡ offset_of rows r
offset_of-bare = read_bare (λ (x : Row). x.offset) (λ (x : Row). x.offset) 0 (λ x. refl)

ticks_of-bare : (rows : List Row) (r : ℕ) → ticks_of (without_cowns rows) r ≡ ticks_of rows r
ticks_of-bare = read_bare (λ (x : Row). x.ticks) (λ (x : Row). x.ticks) 0 (λ x. refl)

cowns_of-bare : (rows : List Row) (r : ℕ) → cowns_of (without_cowns rows) r ≡ []
cowns_of-bare [] r = refl
cowns_of-bare (x ∷ rows) zero = refl
cowns_of-bare (x ∷ rows) (suc r) = cowns_of-bare rows r

-- nobody is ordered
none_ordered : (rows : List Row) (a b : ℕ) → Ordered (without_cowns rows) a b → ⊥
none_ordered rows a b o =
    let first = o.shared.1.first in
    omega (arith, first.1, ap (length {A = ℕ}) (cowns_of-bare rows a))

child_bare : (rows : List Row) (a b : ℕ) → IsChild rows a b → IsChild (without_cowns rows) a b
child_bare rows a b c = record {
  not_main = c.not_main;
  there = omega (arith, c.there, length-bare rows);
  parent = parent_of-bare rows b ∙ c.parent;
}

bare_child : (rows : List Row) (a b : ℕ) → IsChild (without_cowns rows) a b → IsChild rows a b
bare_child rows a b c = record {
  not_main = c.not_main;
  there = omega (arith, c.there, length-bare rows);
  parent = sym (parent_of-bare rows b) ∙ c.parent;
}

-- a plan that keeps the spawns keeps the rows without cowns
pub keeps_bare : (rows : List Row) (plan : List ℕ) → KeepsSpawns rows plan → Keeps (without_cowns rows) plan
keeps_bare rows plan k = record {
  whole = k.whole ∙ sym (length-bare rows);
  spawned = λ a b c. omega (arith, offset_of-bare rows b, k.spawned a b (bare_child rows a b c));
  in_order = λ a b there o. absurd (none_ordered rows a b o);
}

-- and so it ends no earlier than they do
pub spawns_end : (rows : List Row) (plan : List ℕ) (last spawns : ℕ) → KeepsSpawns rows plan → IsEnd rows plan last → IsSpan (without_cowns rows) spawns
    → spawns ≤ last
spawns_end rows plan last spawns k end s =
    let (r, there, at) = s.ends.reached in
    omega (
      arith,
      at,
      ticks_of-bare rows r,
      s.earliest.least plan (keeps_bare rows plan k) r there,
      end.none_later r (omega (arith, there, length-bare rows)),
    )

-- ---- the rows as they are placed

-- the first n rows start at their spawns, and this is the latest of their ends
pub record AreSpawned (rows : List Row) (starts : List ℕ) (n latest : ℕ) : Type 0 where
  pub whole : length starts ≡ n
  pub main : 0 < n → start_of starts 0 ≡ 0
  pub child : (b : ℕ) → 0 < b → b < n → start_of starts b ≡ start_of starts (parent_of rows b) + offset_of rows b
  pub low : (a : ℕ) → a < n → start_of starts a ≤ a * MOST_TICKS
  pub above : (a : ℕ) → a < n → end_of rows starts a ≤ latest
  pub reached : (latest ≡ 0) ⊎ ((a : ℕ) × (a < n) × (end_of rows starts a ≡ latest))

pub none_spawned : (rows : List Row) (starts : List ℕ) (latest : ℕ) → length starts ≡ 0 → latest ≡ 0 → AreSpawned rows starts 0 latest
none_spawned rows starts latest whole none = record {
  whole = whole;
  main = λ h. absurd (omega (arith, h));
  child = λ b some h. absurd (omega (arith, h));
  low = λ a h. absurd (omega (arith, h));
  above = λ a h. absurd (omega (arith, h));
  reached = inl none;
}

module _ (rows : List Row) (hr : IsRows rows) (starts : List ℕ) (n latest start : ℕ) (there : n < length rows) (s : AreSpawned rows starts n latest)
    (main : n ≡ 0 → start ≡ 0) (child : 0 < n → start ≡ slice_index starts (parent_of rows n) + offset_of rows n) where
  pub spawned_low : start ≤ n * MOST_TICKS
  spawned_low = elim (cases_eq n 0) [
    | inl e ↦ omega (arith, main e)
    | inr ne ↦ (
        let some : 0 < n = omega arith in
        let before : parent_of rows n < n = hr.parent_before n some there in
        omega (
          arith,
          child some,
          s.low (parent_of rows n) before,
          hr.ticks_cover n some there,
          hr.ticks_high (parent_of rows n) (omega (arith, before, there)),
        ))
  ]

  abbrev longer : List ℕ
  longer = starts ++ start ∷ []

  agree : (a : ℕ) → a < n → slice_index longer a ≡ slice_index starts a
  agree a h = get_or_append_left starts (start ∷ []) 0 a (omega (arith, h, s.whole))

  here : slice_index longer n ≡ start
  here = get_or_push starts start 0 n s.whole

  main_next : start_of longer 0 ≡ 0
  main_next = elim (cases_eq n 0) [
    | inl e ↦ subst (λ (k : ℕ). slice_index longer k ≡ 0) e (here ∙ main e)
    | inr ne ↦ (let some : 0 < n = omega arith in agree 0 some ∙ s.main some)
  ]

  child_next : (b : ℕ) → 0 < b → b < n + 1 → start_of longer b ≡ start_of longer (parent_of rows b) + offset_of rows b
  child_next b some below =
      let before : parent_of rows b < b = hr.parent_before b some (omega (arith, below, there)) in
      elim (cases_eq b n) [
        | inl e ↦ (
            let own : 0 < n = omega (arith, some, e) in
            let parent : parent_of rows n < n = hr.parent_before n own there in
            rw e (omega (arith, here, child own, agree (parent_of rows n) parent)))
        | inr ne ↦ (
            let less : b < n = omega arith in
            omega (arith, agree b less, agree (parent_of rows b) (omega (arith, before, less)), s.child b some less))
      ]

  pub spawned_next : (end next : ℕ) → end ≡ start + ticks_of rows n → next ≡ max end latest → AreSpawned rows (starts ++ start ∷ []) (n + 1) next
  spawned_next end next is next_is = record {
    whole = omega (arith, length_push starts start, s.whole);
    main = λ h. main_next;
    child = child_next;
    low = λ a h. elim (cases_eq a n) [
      | inl e ↦ rw e (omega (arith, here, spawned_low))
      | inr ne ↦ (let less : a < n = omega arith in omega (arith, agree a less, s.low a less))
    ];
    above = λ a h. elim (cases_eq a n) [
      | inl e ↦ rw e (omega (arith, here, is, next_is))
      | inr ne ↦ (let less : a < n = omega arith in omega (arith, agree a less, s.above a less, next_is))
    ];
    reached = elim (cases_lt latest end) [
      | inl later ↦ inr (n, omega arith, omega (arith, here, is, next_is, later))
      | inr earlier ↦ (
          let same : next ≡ latest = omega (arith, next_is, earlier) in
          elim s.reached [
            | inl z ↦ inl (same ∙ z)
            | inr (a, h, e) ↦ inr (a, omega (arith, h), omega (arith, agree a h, e, same))
          ])
    ];
  }

-- no row starts later than all rows can take together
pub starts_low : (rows : List Row) (starts : List ℕ) (n latest : ℕ) → n ≤ MOST_ROWS → AreSpawned rows starts n latest
    → All (λ start. start < 2 ^ 56) starts
starts_low rows starts n latest few s k d h =
    let there : k < n = omega (arith, h, s.whole) in
    omega (arith, s.low k there, there, few, get_or_default starts k d 0 h)

module _ (rows : List Row) (hr : IsRows rows) (starts : List ℕ) (n latest : ℕ) (all : n ≡ length rows) (s : AreSpawned rows starts n latest) where
  keeps : Keeps (without_cowns rows) starts
  keeps = keeps_bare rows starts (record {
    whole = s.whole ∙ all;
    spawned = λ a b c. (
        let same : start_of starts a ≡ start_of starts (parent_of rows b) = ap (slice_index starts) (sym c.parent) in
        omega (arith, same, s.child b c.not_main (omega (arith, c.there, all))));
  })

  least_below : (other : List ℕ) → Keeps (without_cowns rows) other → (k b : ℕ) → b < k → b < length rows → start_of starts b ≤ start_of other b
  least_below other kept zero b h there = absurd (omega (arith, h))
  least_below other kept (suc k) b h there = elim (cases_eq b 0) [
    | inl e ↦ rw e (omega (arith, s.main (omega (arith, there, all))))
    | inr ne ↦ (
        let some : 0 < b = omega arith in
        let before : parent_of rows b < b = hr.parent_before b some there in
        let own : IsChild rows (parent_of rows b) b = record { not_main = some; there = there; parent = refl } in
        omega (
          arith,
          s.child b some (omega (arith, there, all)),
          least_below other kept k (parent_of rows b) (omega (arith, before, h)) (omega (arith, before, there)),
          offset_of-bare rows b,
          kept.spawned (parent_of rows b) b (child_bare rows (parent_of rows b) b own),
        ))
  ]

  pub spawned_plan : IsSpawnPlan rows starts latest
  spawned_plan = record {
    earliest = record {
      keeps = keeps;
      least = λ other kept b there. least_below other kept (suc b) b (omega arith) (omega (arith, there, length-bare rows));
    };
    ends = record {
      none_later = λ r there. omega (arith, ticks_of-bare rows r, s.above r (omega (arith, there, length-bare rows, all)));
      reached = elim s.reached [
        | inl z ↦ absurd (omega (arith, z, s.above 0 (omega (arith, all, hr.not_empty)), hr.ticks_low 0 hr.not_empty))
        | inr (a, h, e) ↦ (a, omega (arith, h, all, length-bare rows), omega (arith, ticks_of-bare rows a, e))
      ];
    };
  }

-- the end of that plan is the span of the rows without cowns
pub plan_span : (rows : List Row) (plan : List ℕ) (span : ℕ) → IsSpawnPlan rows plan span → IsSpan (without_cowns rows) span
plan_span rows plan span is = record { plan = plan; earliest = is.earliest; ends = is.ends }

-- Of some rows there is one greedy plan for so many workers.
use Rattle.std.proofs.Common.{◌≡◌, ℕ, zero, suc, ◌<◌, ◌≤◌, List, length, sym, ◌∙◌, ap, inl, inr, arith}
use Rattle.std.proofs.lemmas.Bool.{cases_lt, cases_eq}
use Rattle.std.proofs.lemmas.List.{ext_get_or}
use Rattle.boc_runs.specs.declared.rows.Row.{Row}
use Rattle.boc_runs.specs.Rows.{IsRows, parent_of}
use Rattle.boc_plans.specs.Plans.{start_of}
use Rattle.boc_plans.specs.Greedy.{worker_of, IsReady, IsFree, IsGreedyAt, IsGreedy}

-- the rows that start before tick t in the first plan start at the same ticks in the other one, on the same workers
abbrev AreSameBefore : (rows : List Row) (plan workers other others : List ℕ) (t : ℕ) → Type 0
AreSameBefore rows plan workers other others t =
    (r : ℕ) → r < length rows → start_of plan r < t → (start_of other r ≡ start_of plan r) × (worker_of others r ≡ worker_of workers r)

-- of the first n rows those that start at tick t in the first plan do so in the other one, on the same workers
abbrev AreSameAt : (rows : List Row) (plan workers other others : List ℕ) (t n : ℕ) → Type 0
AreSameAt rows plan workers other others t n =
    (r : ℕ) → r < n → r < length rows → start_of plan r ≡ t → (start_of other r ≡ t) × (worker_of others r ≡ worker_of workers r)

module _ (rows : List Row) (hr : IsRows rows) (p : ℕ) where
  -- two plans that are the same before a tick have the same ready rows and free workers there
  module _ (plan workers other others : List ℕ) (t : ℕ) (same : AreSameBefore rows plan workers other others t)
      (back : AreSameBefore rows other others plan workers t) where
    ready_too : (r : ℕ) → IsReady rows plan t r → IsReady rows other t r
    ready_too r ready = record {
      there = ready.there;
      waits = elim (cases_lt (start_of other r) t) [
        | inr le ↦ le
        | inl lt ↦ absurd (omega (arith, (back r ready.there lt).0, ready.waits, lt))
      ];
      spawned = λ a child.
          (let before : parent_of rows r < r = hr.parent_before r child.not_main child.there in
          let early : start_of plan a < t = omega (arith, ready.spawned a child, hr.offset_above r child.not_main child.there) in
          omega (arith, ready.spawned a child, (same a (omega (arith, before, child.parent, child.there)) early).0));
      in_order = λ a o.
          (let there : a < length rows = omega (arith, o.before, ready.there) in
          let early : start_of plan a < t = omega (arith, ready.in_order a o, hr.ticks_low a there) in
          omega (arith, ready.in_order a o, (same a there early).0));
    }

    free_too : (w : ℕ) → IsFree rows p plan workers t w → IsFree rows p other others t w
    free_too w free = record {
      below = free.below;
      idle = λ r there at early.
          (let is = back r there early in
          omega (arith, free.idle r there (is.1 ∙ at) (omega (arith, is.0, early)), is.0));
    }

    -- so the row that starts there in the one starts there in the other, where the rows before it do
    module _ (one : IsGreedyAt rows p plan workers t) (two : IsGreedyAt rows p other others t) (r : ℕ) (there : r < length rows)
        (before : AreSameAt rows other others plan workers t r) where
      starts_too : start_of plan r ≡ t → start_of other r ≡ t
      starts_too at =
          let ready = ready_too r (one.ready r there at) in
          let free = free_too (worker_of workers r) (one.free r there at) in
          elim (cases_lt t (start_of other r)) [
            | inr le ↦ omega (arith, le, ready.waits)
            | inl late ↦ (
                let taken = two.none_idle r (worker_of workers r) ready late free in
                let a : ℕ = taken.0 in
                let below : a < r = two.least_rows a r ready late taken.1 taken.2 in
                let is = before a below taken.1 taken.2 in
                absurd (omega (arith, one.rising a r below there is.0 at, is.1, taken.3)))
          ]

      no_greater_worker : start_of plan r ≡ t → start_of other r ≡ t → worker_of others r ≤ worker_of workers r
      no_greater_worker at too =
          let free = free_too (worker_of workers r) (one.free r there at) in
          elim (cases_lt (worker_of workers r) (worker_of others r)) [
            | inr le ↦ le
            | inl less ↦ (
                let taken = two.least_workers r (worker_of workers r) there too free less in
                let a : ℕ = taken.0 in
                elim (cases_lt a r) [
                  | inl below ↦ (
                      let is = before a below taken.1 taken.2 in
                      absurd (omega (arith, one.rising a r below there is.0 at, is.1, taken.3)))
                  | inr above ↦ elim (cases_eq a r) [
                    | inl e ↦ absurd (omega (arith, taken.3, ap (worker_of others) e, less))
                    | inr ne ↦ absurd (omega (arith, two.rising r a (omega (arith, above, ne)) taken.1 too taken.2, taken.3, less))
                  ]
                ])
          ]

  -- where two plans start the same of the first rows at a tick, they do so of one row more
  row_too : (plan workers other others : List ℕ) (t n : ℕ) → AreSameBefore rows plan workers other others t → AreSameBefore rows other others plan workers t
      → IsGreedyAt rows p plan workers t → IsGreedyAt rows p other others t → AreSameAt rows plan workers other others t n
      → AreSameAt rows other others plan workers t n → AreSameAt rows plan workers other others t (suc n)
  row_too plan workers other others t n same back one two so_far so_back = λ r h there at. elim (cases_eq r n) [
    | inr ne ↦ so_far r (omega (arith, h, ne)) there at
    | inl e ↦ (
        let ahead : AreSameAt rows other others plan workers t r = λ a k. so_back a (omega (arith, k, e)) in
        let behind : AreSameAt rows plan workers other others t r = λ a k. so_far a (omega (arith, k, e)) in
        let too : start_of other r ≡ t = starts_too plan workers other others t same back one two r there ahead at in (
          too,
          omega (
            arith,
            no_greater_worker plan workers other others t same back one two r there ahead at too,
            no_greater_worker other others plan workers t back same two one r there behind too at,
          ),
        ))
  ]

  -- where two plans are the same before a tick and start the same rows at it, they are the same before the next
  tick_too : (plan workers other others : List ℕ) (t : ℕ) → AreSameBefore rows plan workers other others t
      → AreSameAt rows plan workers other others t (length rows) → AreSameBefore rows plan workers other others (suc t)
  tick_too plan workers other others t same now = λ r there h. elim (cases_lt (start_of plan r) t) [
    | inl early ↦ same r there early
    | inr late ↦ (
        let at : start_of plan r ≡ t = omega (arith, h, late) in
        let is = now r there there at in
        (is.0 ∙ sym at, is.1))
  ]

  module _ (plan workers other others : List ℕ) (one : IsGreedy rows p plan workers) (two : IsGreedy rows p other others) where
    -- row after row, the two start the same ones at a tick
    same_at : (t : ℕ) → AreSameBefore rows plan workers other others t → AreSameBefore rows other others plan workers t → (n : ℕ) →
        AreSameAt rows plan workers other others t n × AreSameAt rows other others plan workers t n
    same_at t same back zero = (λ r h. absurd (omega (arith, h)), λ r h. absurd (omega (arith, h)))
    same_at t same back (suc n) =
        let ih = same_at t same back n in (
          row_too plan workers other others t n same back (one.at t) (two.at t) ih.0 ih.1,
          row_too other others plan workers t n back same (two.at t) (one.at t) ih.1 ih.0,
        )

    -- tick after tick, the two start the same rows
    same_before : (t : ℕ) → AreSameBefore rows plan workers other others t × AreSameBefore rows other others plan workers t
    same_before zero = (λ r there h. absurd (omega (arith, h)), λ r there h. absurd (omega (arith, h)))
    same_before (suc t) =
        let ih = same_before t in
        let now = same_at t ih.0 ih.1 (length rows) in
        (tick_too plan workers other others t ih.0 now.0, tick_too other others plan workers t ih.1 now.1)

    same_row : (r : ℕ) → r < length rows → (start_of other r ≡ start_of plan r) × (worker_of others r ≡ worker_of workers r)
    same_row r there = (same_before (suc (start_of plan r))).0 r there (omega arith)

    pub one_greedy_plan : (plan ≡ other) × (workers ≡ others)
    one_greedy_plan = (
      ext_get_or 0 plan other (one.whole ∙ sym two.whole) (λ r h. sym (same_row r (omega (arith, h, one.whole))).0),
      ext_get_or 0 workers others (one.all_served ∙ sym two.all_served) (λ r h. sym (same_row r (omega (arith, h, one.all_served))).1),
    )

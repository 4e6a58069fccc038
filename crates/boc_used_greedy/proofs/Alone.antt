-- There is one greedy end with turns at most.
use Rattle.std.proofs.Common.{◌≡◌, ◌⊎◌, inl, inr, ℕ, zero, suc, ◌+◌, ◌-◌, ◌<◌, ◌≤◌, Bool, true, false, cond, List, [], ◌∷◌, length, Option, Some}
use Rattle.std.proofs.Common.{refl, subst, sym, ap, ◌∙◌, arith}
use Rattle.std.specs.Prelude.{nat_lt}
use Rattle.std.specs.List.{Contains}
use Rattle.std.proofs.lemmas.Bool.{cases_lt, cases_eq}
use Rattle.std.proofs.lemmas.Bool.Decides.{nat_tests}
use Rattle.boc_runs.specs.declared.rows.Row.{Row}
use Rattle.boc_runs.specs.Rows.{IsRows, parent_of, offset_of, ticks_of, cowns_of}
use Rattle.boc_plans.specs.Plans.{start_of, end_of, ConflictOn}
use Rattle.boc_plans.specs.Greedy.{worker_of, IsFree}
use Rattle.boc_uses.specs.declared.uses.Use.{Use}
use Rattle.boc_turns.specs.Turns.{use_of, over, IsTurn, IsOverBy}
use Rattle.boc_turns.specs.Workers.{times_of, IsBegun, IsFixed, IsReadyThen, IsGreedyThen, IsUsedGreedyEnd}
use Rattle.boc_turns.proofs.Least.{over_cases}
use Rattle.boc_turns.proofs.Pacing.{contains_split, contains_rest, contains_here}
use Rattle.boc_used_greedy.proofs.Leaving.{either}

-- those of some rows that come before a row
abbrev below : ℕ → List ℕ → List ℕ
below k [] = []
below k (x ∷ list) = cond (nat_lt x k) (x ∷ below k list) (below k list)

below_has : (k : ℕ) (list : List ℕ) (r : ℕ) → r < k → Contains list r → Contains (below k list) r
below_has k [] r lt h = h
below_has k (x ∷ list) r lt h = elim (either (nat_lt x k)) [
  | inl e ↦ subst (λ (b : Bool). Contains (cond b (x ∷ below k list) (below k list)) r) (sym e) (elim (contains_split x list r h) [
    | inl same ↦ subst (Contains (x ∷ below k list)) same (contains_here x (below k list))
    | inr rest ↦ contains_rest x (below k list) r (below_has k list r lt rest)
  ])
  | inr e ↦ subst (λ (b : Bool). Contains (cond b (x ∷ below k list) (below k list)) r) (sym e) (elim (contains_split x list r h) [
    | inl same ↦ absurd (let t : nat_lt x k ≡ true = (let low : x < k = omega (arith, same, lt) in grind (arith, nat_tests)) in
        let s : true ≡ false = sym t ∙ e in cc)
    | inr rest ↦ below_has k list r lt rest
  ])
]

below_is : (k : ℕ) (list : List ℕ) (r : ℕ) → Contains (below k list) r → (r < k) × Contains list r
below_is k [] r h = absurd (omega (arith, h.1))
below_is k (x ∷ list) r h = elim (either (nat_lt x k)) [
  | inl e ↦ elim (contains_split x (below k list) r (subst (λ (b : Bool). Contains (cond b (x ∷ below k list) (below k list)) r) e h)) [
    | inl same ↦ ((let low : x < k = grind (arith, nat_tests) in omega (arith, low, same)), subst (Contains (x ∷ list)) same (contains_here x list))
    | inr rest ↦ (let (lt, has) = below_is k list r rest in (lt, contains_rest x list r has))
  ]
  | inr e ↦ (let (lt, has) = below_is k list r (subst (λ (b : Bool). Contains (cond b (x ∷ below k list) (below k list)) r) e h) in
      (lt, contains_rest x list r has))
]

module _ (rows : List Row) (hr : IsRows rows) (uses : List (Option Use)) (relaxed : ℕ → Bool) (p : ℕ) where
  -- a greedy plan with its turns
  pub record IsPlan (plan workers : List ℕ) (begun : ℕ → ℕ → ℕ) : Type 0 where
    pub turns : (b c : ℕ) (u : Use) → b < length rows → IsTurn rows uses relaxed b c u → IsBegun rows uses plan begun b c u
    pub at : (t : ℕ) → IsGreedyThen rows uses relaxed p plan workers begun t

  -- a row that starts before a tick, or then with a number below k, does so on the same worker in the other plan
  abbrev Half : List ℕ → List ℕ → List ℕ → List ℕ → ℕ → ℕ → Type 0
  Half plan workers other others t k = (a : ℕ) → a < length rows → (start_of plan a < t) ⊎ ((start_of plan a ≡ t) × (a < k))
      → (start_of other a ≡ start_of plan a) × (worker_of others a ≡ worker_of workers a)

  module _ (plan workers : List ℕ) (begun : ℕ → ℕ → ℕ) (g : IsPlan plan workers begun) (other others : List ℕ) (begins : ℕ → ℕ → ℕ)
      (h : IsPlan other others begins) where
    -- turns of rows that start at the same ticks are over no later in the other plan
    over_le : (c k : ℕ) → relaxed c ≡ true → k ≤ length rows → (K : ℕ → Type 0) → ((r : ℕ) → K r → r < k → start_of other r ≡ start_of plan r)
        → ((r q : ℕ) (u v : Use) → K r → use_of rows uses r c ≡ Some u → u.needed ≡ false → q < r → ConflictOn rows c q r
        → use_of rows uses q c ≡ Some v → K q) → (n a : ℕ) (u : Use) → a < n → a < k → K a → use_of rows uses a c ≡ Some u
        → over (times_of other begins) a c u ≤ over (times_of plan begun) a c u
    over_le c k relax few K same closed zero a u lt low has e = absurd (omega (arith, lt))
    over_le c k relax few K same closed (suc n) a u lt low has e =
        let there : a < length rows = omega (arith, low, few) in
        let turn : IsTurn rows uses relaxed a c u = record { is_relaxed = relax; is_use = e } in
        let start = same a has low in
        elim (over_cases (times_of other begins) a c u) [
          | inl (need, is) ↦ elim (over_cases (times_of plan begun) a c u) [
            | inl (also, was) ↦ omega (arith, is, was, start)
            | inr (none, was) ↦ absurd (let s : true ≡ false = sym need ∙ none in cc)
          ]
          | inr (none, is) ↦ elim (over_cases (times_of plan begun) a c u) [
            | inl (need, was) ↦ absurd (let s : true ≡ false = sym need ∙ none in cc)
            | inr (also, was) ↦ (
                let x = g.turns a c u there turn in
                let y = h.turns a c u there turn in
                let first = x.keeps.from_first in
                let low_begin = y.least (begun a c) (omega (arith, first, start)) (λ q v less conflict usage. (
                let before = closed a q u v has e none less conflict usage in
                let le = over_le c k relax few K same closed n q v (omega (arith, less, lt)) (omega (arith, less, low)) before usage in
                omega (arith, le, x.keeps.after q v less conflict usage))) in
                omega (arith, is, was, low_begin))
          ]
        ]

    -- a row that can start in one plan can in the other one, where the rows before it start at the same ticks
    ready_too : (t k : ℕ) → k < length rows → ((a : ℕ) → a < k → start_of plan a ≤ t → start_of other a ≡ start_of plan a) → t ≤ start_of other k
        → IsReadyThen rows uses relaxed plan begun t k → IsReadyThen rows uses relaxed other begins t k
    ready_too t k there same waits i = record {
      there = there;
      waits = waits;
      spawned = λ a child. (
          let s = i.spawned a child in
          let before : a < k = omega (arith, hr.parent_before k child.not_main there, child.parent) in
          omega (arith, s, same a before (omega (arith, s))));
      in_order = λ a c lt conflict none. (let s = i.in_order a c lt conflict none in omega (arith, s, same a lt (omega (arith, s))));
      known = λ a c u v turn need lt conflict usage. (
          let f = i.known a c u v turn need lt conflict usage in
          record {
            known = below k f.known;
            among_them = below_has k f.known a lt f.among_them;
            begun = λ r has. (let (low, in_list) = below_is k f.known r has in
                let s = f.begun r in_list in
                omega (arith, s, same r low s));
            before = λ r q w x has u_is no_need less conf other_use. (
                let (low, in_list) = below_is k f.known r has in
                below_has k f.known q (omega (arith, less, low)) (f.before r q w x in_list u_is no_need less conf other_use));
          });
      in_turn = λ c tick u turn need is a v lt conflict usage. (
          let f = i.known a c u v turn need lt conflict usage in
          let le = over_le c k turn.is_relaxed (omega (arith, there)) (Contains f.known) (λ r has low. same r low (f.begun r has)) f.before (suc a) a v
          (omega arith) lt f.among_them usage in
          omega (arith, le, i.in_turn c tick u turn need is a v lt conflict usage));
    }

    module _ (t k : ℕ) (there : k < length rows) (to : Half plan workers other others t k) (back : Half other others plan workers t k) where
      free_too : (w : ℕ) → IsFree rows p plan workers t w → IsFree rows p other others t w
      free_too w i = record {
        below = i.below;
        idle = λ q low on lt. (
            let (start, worker) = back q low (inl lt) in
            let ends = i.idle q low (omega (arith, worker, on)) (omega (arith, start, lt)) in
            omega (arith, ends, start));
      }

      -- the row starts in the other plan too
      starts_too : start_of plan k ≡ t → start_of other k ≡ t
      starts_too e = elim (cases_lt (start_of other k) t) [
        | inl lt ↦ absurd (omega (arith, (back k there (inl lt)).0, lt, e))
        | inr ge ↦ elim (cases_eq (start_of other k) t) [
          | inl same ↦ same
          | inr ne ↦ absurd (
              let late : t < start_of other k = omega (arith, ge, ne) in
              let ready = ready_too t k there (λ a less by. elim (cases_eq (start_of plan a) t) [
                | inl now ↦ (to a (omega (arith, less, there)) (inr (now, less))).0
                | inr before ↦ (to a (omega (arith, less, there)) (inl (omega (arith, by, before)))).0
              ]) ge ((g.at t).ready k there e) in
              let (q, low, now, on) = (h.at t).none_idle k (worker_of workers k) ready late (free_too (worker_of workers k) ((g.at t).free k there e)) in
              let first = (h.at t).least_rows q k ready late low now in
              let (start, worker) = back q low (inr (now, first)) in
              omega (arith, (g.at t).rising q k first there (omega (arith, start, now)) e, worker, on))
        ]
      ]

      -- on a worker that is no greater
      no_greater : start_of plan k ≡ t → worker_of others k ≤ worker_of workers k
      no_greater e = elim (cases_lt (worker_of workers k) (worker_of others k)) [
        | inr ge ↦ ge
        | inl lt ↦ absurd (
            let also = starts_too e in
            let (q, low, now, on) = (h.at t).least_workers k (worker_of workers k) there also
            (free_too (worker_of workers k) ((g.at t).free k there e)) lt in
            elim (cases_lt q k) [
              | inl less ↦ (
                  let (start, worker) = back q low (inr (now, less)) in
                  omega (arith, (g.at t).rising q k less there (omega (arith, start, now)) e, worker, on))
              | inr ge ↦ elim (cases_eq q k) [
                | inl same ↦ omega (arith, ap (worker_of others) same, on, lt)
                | inr ne ↦ omega (arith, (h.at t).rising k q (omega (arith, ge, ne)) low also now, on, lt)
              ]
            ])
      ]

  module _ (plan workers : List ℕ) (begun : ℕ → ℕ → ℕ) (g : IsPlan plan workers begun) (other others : List ℕ) (begins : ℕ → ℕ → ℕ)
      (h : IsPlan other others begins) where
    abbrev Both : ℕ → ℕ → Type 0
    Both t k = Half plan workers other others t k × Half other others plan workers t k

    row_more : (t k : ℕ) → k < length rows → Both t k → Both t (k + 1)
    row_more t k there (to, back) = (
      λ a low either_way. elim either_way [
        | inl lt ↦ to a low (inl lt)
        | inr (now, less) ↦ elim (cases_eq a k) [
          | inl e ↦ (
              let at_k : start_of plan k ≡ t = ap (start_of plan) (sym e) ∙ now in
              let up = no_greater plan workers begun g other others begins h t k there to back at_k in
              let also = starts_too plan workers begun g other others begins h t k there to back at_k in
              let down = no_greater other others begins h plan workers begun g t k there back to also in (
                omega (arith, ap (start_of other) e, also, now),
                omega (arith, ap (worker_of others) e, ap (worker_of workers) e, up, down),
              ))
          | inr ne ↦ to a low (inr (now, omega (arith, less, ne)))
        ]
      ],
      λ a low either_way. elim either_way [
        | inl lt ↦ back a low (inl lt)
        | inr (now, less) ↦ elim (cases_eq a k) [
          | inl e ↦ (
              let at_k : start_of other k ≡ t = ap (start_of other) (sym e) ∙ now in
              let up = no_greater other others begins h plan workers begun g t k there back to at_k in
              let also = starts_too other others begins h plan workers begun g t k there back to at_k in
              let down = no_greater plan workers begun g other others begins h t k there to back also in (
                omega (arith, ap (start_of plan) e, also, now),
                omega (arith, ap (worker_of others) e, ap (worker_of workers) e, up, down),
              ))
          | inr ne ↦ back a low (inr (now, omega (arith, less, ne)))
        ]
      ],
    )

    all_rows : (t k : ℕ) → k ≤ length rows → Both t 0 → Both t k
    all_rows t zero few b = b
    all_rows t (suc k) few b =
        let e : k + 1 ≡ suc k = omega arith in
        subst (λ (x : ℕ). Both t x) e (row_more t k (omega (arith, few)) (all_rows t k (omega (arith, few)) b))

    all_ticks : (t : ℕ) → Both t 0
    all_ticks zero = (
      λ a low o. elim o [ inl lt ↦ absurd (omega (arith, lt)) | inr (now, less) ↦ absurd (omega (arith, less)) ],
      λ a low o. elim o [ inl lt ↦ absurd (omega (arith, lt)) | inr (now, less) ↦ absurd (omega (arith, less)) ],
    )
    all_ticks (suc t) = (let (to, back) = all_rows t (length rows) (omega arith) (all_ticks t) in (
      λ a low o. elim o [
        | inr (now, less) ↦ absurd (omega (arith, less))
        | inl lt ↦ elim (cases_eq (start_of plan a) t) [
          | inl now ↦ to a low (inr (now, low))
          | inr ne ↦ to a low (inl (omega (arith, lt, ne)))
        ]
      ],
      λ a low o. elim o [
        | inr (now, less) ↦ absurd (omega (arith, less))
        | inl lt ↦ elim (cases_eq (start_of other a) t) [
          | inl now ↦ back a low (inr (now, low))
          | inr ne ↦ back a low (inl (omega (arith, lt, ne)))
        ]
      ],
    ))

    -- all rows start at the same ticks
    pub same_start : (a : ℕ) → a < length rows → start_of other a ≡ start_of plan a
    same_start a low = ((all_ticks (suc (start_of plan a))).0 a low (inl (omega arith))).0

    pub over_too : (tick r : ℕ) → r < length rows → IsOverBy rows uses relaxed (times_of plan begun) tick r
        → IsOverBy rows uses relaxed (times_of other begins) tick r
    over_too tick r there by = record {
      row = omega (arith, by.row, same_start r there);
      turns = λ c u turn. (
          let le = over_le plan workers begun g other others begins h c (length rows) turn.is_relaxed (omega arith) (λ (q : ℕ). Unit {0})
          (λ q k low. same_start q low) (λ q x v w has e none less conflict f. tt) (suc r) r u (omega arith) there tt turn.is_use in
          omega (arith, le, by.turns c u turn));
    }

  pub no_later : (end other : ℕ) → IsUsedGreedyEnd rows uses relaxed p end → IsUsedGreedyEnd rows uses relaxed p other → other ≤ end
  no_later end other e f = f.none_sooner end (λ r there. over_too e.plan e.workers e.begun (record { turns = e.turns; at = e.at }) f.plan f.workers f.begun
      (record { turns = f.turns; at = f.at }) end r there (e.all_over r there))

-- two ends are one
pub one_end : (rows : List Row) (uses : List (Option Use)) (relaxed : ℕ → Bool) (p end other : ℕ) → IsRows rows → IsUsedGreedyEnd rows uses relaxed p end
    → IsUsedGreedyEnd rows uses relaxed p other → end ≡ other
one_end rows uses relaxed p end other hr e f = omega (arith, no_later rows hr uses relaxed p end other e f, no_later rows hr uses relaxed p other end f e)

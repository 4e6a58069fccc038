-- When the rows so far have left a cown, and when it comes to the next one.
use Rattle.std.proofs.Common.{◌≡◌, ◌⊎◌, inl, inr, ℕ, zero, suc, ◌+◌, ◌-◌, ◌*◌, ◌<◌, ◌≤◌, max, Bool, true, false, List, length, Option, Some, None}
use Rattle.std.proofs.Common.{refl, subst, sym, ap, ◌∙◌, arith}
use Rattle.std.proofs.lemmas.Bool.{cases_eq}
use Rattle.boc_program.specs.declared.limits.TheConstants.{MOST_TICKS}
use Rattle.boc_runs.specs.declared.rows.Row.{Row}
use Rattle.boc_plans.specs.Plans.{start_of}
use Rattle.boc_greedy.specs.Simulating.{later}
use Rattle.boc_uses.specs.declared.uses.Use.{Use}
use Rattle.boc_turns.specs.Turns.{use_of, IsWithin}
use Rattle.boc_turns.specs.Course.{wrote_cown}
use Rattle.boc_used_greedy.specs.Ready.{Left, came_by, over_from, left_after, left, came, left_at}

pub either : (b : Bool) → (b ≡ true) ⊎ (b ≡ false)
either true = inl refl
either false = inr refl

pub one_or_none : (o : Option Use) → (o ≡ None) ⊎ ((u : Use) × (o ≡ Some u))
one_or_none None = inl refl
one_or_none (Some u) = inr (u, refl)

module _ (rows : List Row) (holds : List (Option Use)) (c : ℕ) where
  abbrev pub held : List ℕ → ℕ → ℕ
  held plan n = (left rows holds plan c n).held

  abbrev pub wrote : List ℕ → ℕ → ℕ
  wrote plan n = (left rows holds plan c n).wrote

  abbrev pub own : ℕ → Option Use
  own n = use_of rows holds n c

  abbrev pub writes : ℕ → Bool
  writes n = wrote_cown rows n c

  abbrev pub over : List ℕ → ℕ → Use → ℕ
  over plan n u = left_at rows holds plan n c u

  -- ---- one row

  pub came_writes : (plan : List ℕ) (n : ℕ) → writes n ≡ true → came rows holds plan n c ≡ held plan n
  came_writes plan n w = ap (λ (b : Bool). came_by b (left rows holds plan c n)) w

  pub came_reads : (plan : List ℕ) (n : ℕ) → writes n ≡ false → came rows holds plan n c ≡ wrote plan n
  came_reads plan n w = ap (λ (b : Bool). came_by b (left rows holds plan c n)) w

  pub left_none : (plan : List ℕ) (n : ℕ) → own n ≡ None → left rows holds plan c (suc n) ≡ left rows holds plan c n
  left_none plan n e = ap (λ (o : Option Use). left_after o (writes n) (start_of plan n) (left rows holds plan c n)) e

  pub left_some : (plan : List ℕ) (n : ℕ) (u : Use) → own n ≡ Some u
      → left rows holds plan c (suc n) ≡ left_after (Some u) (writes n) (start_of plan n) (left rows holds plan c n)
  left_some plan n u e = ap (λ (o : Option Use). left_after o (writes n) (start_of plan n) (left rows holds plan c n)) e

  pub held_some : (plan : List ℕ) (n : ℕ) (u : Use) → own n ≡ Some u → held plan (suc n) ≡ max (held plan n) (over plan n u)
  held_some plan n u e = ap (λ (x : Left). x.held) (left_some plan n u e)

  pub wrote_writes : (plan : List ℕ) (n : ℕ) (u : Use) → own n ≡ Some u → writes n ≡ true
      → wrote plan (suc n) ≡ max (wrote plan n) (over_from u (start_of plan n) (held plan n))
  wrote_writes plan n u e w = ap (λ (x : Left). x.wrote) (left_some plan n u e)
      ∙ ap (λ (b : Bool). (left_after (Some u) b (start_of plan n) (left rows holds plan c n)).wrote) w

  pub wrote_reads : (plan : List ℕ) (n : ℕ) (u : Use) → own n ≡ Some u → writes n ≡ false → wrote plan (suc n) ≡ wrote plan n
  wrote_reads plan n u e w = ap (λ (x : Left). x.wrote) (left_some plan n u e)
      ∙ ap (λ (b : Bool). (left_after (Some u) b (start_of plan n) (left rows holds plan c n)).wrote) w

  pub over_writes : (plan : List ℕ) (n : ℕ) (u : Use) → writes n ≡ true → over plan n u ≡ over_from u (start_of plan n) (held plan n)
  over_writes plan n u w = ap (over_from u (start_of plan n)) (came_writes plan n w)

  -- ---- more rows

  held_step : (plan : List ℕ) (n : ℕ) → held plan n ≤ held plan (suc n)
  held_step plan n = elim (one_or_none (own n)) [
    | inl e ↦ omega (arith, ap (λ (x : Left). x.held) (left_none plan n e))
    | inr (u, e) ↦ omega (arith, held_some plan n u e)
  ]

  wrote_step : (plan : List ℕ) (n : ℕ) → wrote plan n ≤ wrote plan (suc n)
  wrote_step plan n = elim (one_or_none (own n)) [
    | inl e ↦ omega (arith, ap (λ (x : Left). x.wrote) (left_none plan n e))
    | inr (u, e) ↦ elim (either (writes n)) [
      | inl w ↦ omega (arith, wrote_writes plan n u e w)
      | inr w ↦ omega (arith, wrote_reads plan n u e w)
    ]
  ]

  pub held_up : (plan : List ℕ) (d n m : ℕ) → n + d ≡ m → held plan n ≤ held plan m
  held_up plan zero n m e = (let same : n ≡ m = omega (arith, e) in subst (λ (k : ℕ). held plan n ≤ held plan k) same (omega arith))
  held_up plan (suc d) n m e =
      let same : suc (n + d) ≡ m = omega (arith, e) in
      let up : held plan n ≤ held plan (suc (n + d)) = omega (arith, held_up plan d n (n + d) refl, held_step plan (n + d)) in
      subst (λ (k : ℕ). held plan n ≤ held plan k) same up

  pub wrote_up : (plan : List ℕ) (d n m : ℕ) → n + d ≡ m → wrote plan n ≤ wrote plan m
  wrote_up plan zero n m e = (let same : n ≡ m = omega (arith, e) in subst (λ (k : ℕ). wrote plan n ≤ wrote plan k) same (omega arith))
  wrote_up plan (suc d) n m e =
      let same : suc (n + d) ≡ m = omega (arith, e) in
      let up : wrote plan n ≤ wrote plan (suc (n + d)) = omega (arith, wrote_up plan d n (n + d) refl, wrote_step plan (n + d)) in
      subst (λ (k : ℕ). wrote plan n ≤ wrote plan k) same up

  pub held_has : (plan : List ℕ) (a b : ℕ) (u : Use) → a < b → own a ≡ Some u → over plan a u ≤ held plan b
  held_has plan a b u lt e =
      let up = held_up plan (b - suc a) (suc a) b (omega (arith, lt)) in
      omega (arith, up, held_some plan a u e)

  pub wrote_has : (plan : List ℕ) (a b : ℕ) (u : Use) → a < b → own a ≡ Some u → writes a ≡ true → over plan a u ≤ wrote plan b
  wrote_has plan a b u lt e w =
      let up = wrote_up plan (b - suc a) (suc a) b (omega (arith, lt)) in
      omega (arith, up, wrote_writes plan a u e w, over_writes plan a u w)

  -- a cown comes no sooner than the turns are over that are ordered before
  pub came_has : (plan : List ℕ) (a b : ℕ) (u : Use) → a < b → own a ≡ Some u → (writes a ≡ true) ⊎ (writes b ≡ true)
      → over plan a u ≤ came rows holds plan b c
  came_has plan a b u lt e o = elim (either (writes b)) [
    | inl w ↦ omega (arith, came_writes plan b w, held_has plan a b u lt e)
    | inr n ↦ elim o [
      | inl w ↦ omega (arith, came_reads plan b n, wrote_has plan a b u lt e w)
      | inr w ↦ absurd (let t : true ≡ false = sym w ∙ n in cc)
    ]
  ]

  pub held_least : (plan : List ℕ) (tick n : ℕ) → ((a : ℕ) (u : Use) → a < n → own a ≡ Some u → over plan a u ≤ tick) → held plan n ≤ tick
  held_least plan tick zero all = omega arith
  held_least plan tick (suc n) all =
      let low = held_least plan tick n (λ a u lt e. all a u (omega (arith, lt)) e) in
      elim (one_or_none (own n)) [
        | inl e ↦ omega (arith, ap (λ (x : Left). x.held) (left_none plan n e), low)
        | inr (u, e) ↦ omega (arith, held_some plan n u e, low, all n u (omega arith) e)
      ]

  pub wrote_least : (plan : List ℕ) (tick n : ℕ) → ((a : ℕ) (u : Use) → a < n → own a ≡ Some u → writes a ≡ true → over plan a u ≤ tick)
      → wrote plan n ≤ tick
  wrote_least plan tick zero all = omega arith
  wrote_least plan tick (suc n) all =
      let low = wrote_least plan tick n (λ a u lt e w. all a u (omega (arith, lt)) e w) in
      elim (one_or_none (own n)) [
        | inl e ↦ omega (arith, ap (λ (x : Left). x.wrote) (left_none plan n e), low)
        | inr (u, e) ↦ elim (either (writes n)) [
          | inl w ↦ omega (arith, wrote_writes plan n u e w, over_writes plan n u w, low, all n u (omega arith) e w)
          | inr w ↦ omega (arith, wrote_reads plan n u e w, low)
        ]
      ]

  -- and no later than all of them are
  pub came_least : (plan : List ℕ) (tick b : ℕ) → ((a : ℕ) (u : Use) → a < b → own a ≡ Some u → (writes a ≡ true) ⊎ (writes b ≡ true) → over plan a u ≤ tick)
      → came rows holds plan b c ≤ tick
  came_least plan tick b all = elim (either (writes b)) [
    | inl w ↦ omega (arith, came_writes plan b w, held_least plan tick b (λ a u lt e. all a u lt e (inr w)))
    | inr w ↦ omega (arith, came_reads plan b w, wrote_least plan tick b (λ a u lt e v. all a u lt e (inl v)))
  ]

  -- ---- two plans

  abbrev pub NoLater : List ℕ → List ℕ → ℕ → Type 0
  NoLater plan other n = (a : ℕ) (u : Use) → a < n → own a ≡ Some u → start_of plan a ≤ start_of other a

  pub left_no_later : (plan other : List ℕ) (n : ℕ) → NoLater plan other n → (held plan n ≤ held other n) × (wrote plan n ≤ wrote other n)
  left_no_later plan other zero le = (omega arith, omega arith)
  left_no_later plan other (suc n) le =
      let low = left_no_later plan other n (λ a u lt e. le a u (omega (arith, lt)) e) in
      elim (one_or_none (own n)) [
        | inl e ↦ (
          omega (arith, ap (λ (x : Left). x.held) (left_none plan n e), ap (λ (x : Left). x.held) (left_none other n e), low.0),
          omega (arith, ap (λ (x : Left). x.wrote) (left_none plan n e), ap (λ (x : Left). x.wrote) (left_none other n e), low.1),
        )
        | inr (u, e) ↦ (
            let start = le n u (omega arith) e in
            elim (either (writes n)) [
              | inl w ↦ (
                omega (arith, held_some plan n u e, held_some other n u e, over_writes plan n u w, over_writes other n u w, low.0, start),
                omega (arith, wrote_writes plan n u e w, wrote_writes other n u e w, low.0, low.1, start),
              )
              | inr w ↦ (
                omega (arith, held_some plan n u e, held_some other n u e, came_reads plan n w, came_reads other n w, low.0, low.1, start),
                omega (arith, wrote_reads plan n u e w, wrote_reads other n u e w, low.1),
              )
            ])
      ]

  -- a cown comes no later where no row starts later
  pub came_no_later : (plan other : List ℕ) (n : ℕ) → NoLater plan other n → came rows holds plan n c ≤ came rows holds other n c
  came_no_later plan other n le = (let low = left_no_later plan other n le in elim (either (writes n)) [
    | inl w ↦ omega (arith, came_writes plan n w, came_writes other n w, low.0)
    | inr w ↦ omega (arith, came_reads plan n w, came_reads other n w, low.1)
  ])

  -- ---- no tick is too great

  module _ (within : (r : ℕ) (u : Use) → own r ≡ Some u → IsWithin MOST_TICKS u) where
    pub over_above : (plan : List ℕ) (r : ℕ) (u : Use) → own r ≡ Some u
        → (start_of plan r + u.last ≤ over plan r u) × (came rows holds plan r c + 1 ≤ over plan r u)
    over_above plan r u e = (let w = within r u e in (omega (arith, w.from_one, w.rises), omega (arith, w.from_one, w.rises)))

    pub left_low : (plan : List ℕ) (most n : ℕ) → ((a : ℕ) (u : Use) → a < n → own a ≡ Some u → start_of plan a ≤ most)
        → (held plan n ≤ most + n * MOST_TICKS) × (wrote plan n ≤ most + n * MOST_TICKS)
    left_low plan most zero all = (omega arith, omega arith)
    left_low plan most (suc n) all =
        let low = left_low plan most n (λ a u lt e. all a u (omega (arith, lt)) e) in
        elim (one_or_none (own n)) [
          | inl e ↦ (
            omega (arith, ap (λ (x : Left). x.held) (left_none plan n e), low.0),
            omega (arith, ap (λ (x : Left). x.wrote) (left_none plan n e), low.1),
          )
          | inr (u, e) ↦ (
              let start = all n u (omega arith) e in
              let w = within n u e in
              elim (either (writes n)) [
                | inl v ↦ (
                  omega (arith, held_some plan n u e, over_writes plan n u v, low.0, start, w.from_one, w.rises, w.ends),
                  omega (arith, wrote_writes plan n u e v, low.0, low.1, start, w.from_one, w.rises, w.ends),
                )
                | inr v ↦ (
                  omega (arith, held_some plan n u e, came_reads plan n v, low.0, low.1, start, w.from_one, w.rises, w.ends),
                  omega (arith, wrote_reads plan n u e v, low.1),
                )
              ])
        ]

    -- a cown doesn't come to a row before one that is ordered before it has started
    pub came_unknown : (plan : List ℕ) (a b : ℕ) (u : Use) → a < b → own a ≡ Some u → start_of plan a ≡ later → (writes a ≡ true) ⊎ (writes b ≡ true)
        → later ≤ came rows holds plan b c
    came_unknown plan a b u lt e not o = omega (arith, came_has plan a b u lt e o, (over_above plan a u e).0, not)

    -- nor to one for which another one waits that it waits for
    pub came_behind : (plan : List ℕ) (a q b : ℕ) (u v : Use) → a < q → q < b → own a ≡ Some u → own q ≡ Some v → start_of plan a ≡ later
        → writes q ≡ true → later ≤ came rows holds plan b c
    came_behind plan a q b u v lt below e f not w = omega (
      arith,
      came_has plan q b v below f (inl w),
      (over_above plan q v f).1,
      came_unknown plan a q u lt e not (inr w),
    )

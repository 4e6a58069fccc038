-- How far cowns have come among the rows.
use Rattle.std.proofs.Common.{◌≡◌, ◌≢◌, ◌⊎◌, inl, inr, ℕ, zero, suc, ◌+◌, ◌-◌, ◌^◌, ◌<◌, ◌≤◌, Bool, true, false, List, length, Option, Some, None}
use Rattle.std.proofs.Common.{refl, subst, sym, ap, ◌∙◌, arith}
use Rattle.std.specs.List.{Contains}
use Rattle.std.proofs.lemmas.Bool.{cases_lt, cases_eq}
use Rattle.boc_program.specs.declared.limits.TheConstants.{MOST_ROWS, MOST_TICKS}
use Rattle.boc_runs.specs.declared.rows.Row.{Row}
use Rattle.boc_runs.specs.Rows.{IsRows, cowns_of}
use Rattle.boc_plans.specs.Plans.{start_of}
use Rattle.boc_greedy.specs.Simulating.{later}
use Rattle.boc_uses.specs.declared.uses.Use.{Use}
use Rattle.boc_turns.specs.Turns.{use_of, IsWithin}
use Rattle.boc_turns.specs.Course.{wrote_cown}
use Rattle.boc_turns.proofs.Gathering.{use_has}
use Rattle.boc_used_greedy.specs.declared.fronts.Front.{Front}
use Rattle.boc_used_greedy.specs.Ready.{Left, came_by, left_after, left, came}
use Rattle.boc_used_greedy.specs.Users.{IsNextUser}
use Rattle.boc_used_greedy.specs.Fronts.{left_of, IsLowPlan, Holds, Blocks, HasCome, Stops, IsFront}
use Rattle.boc_used_greedy.proofs.Leaving.{either, one_or_none, held, wrote, own, writes, came_writes, came_reads, left_none, left_some, wrote_reads}
use Rattle.boc_used_greedy.proofs.Leaving.{left_low, left_no_later, came_unknown, came_behind}

pub same_left : (x y : Left) → x.held ≡ y.held → x.wrote ≡ y.wrote → x ≡ y
same_left x y h w = λ i. record { held = h i; wrote = w i }

module _ (rows : List Row) (holds : List (Option Use)) (c : ℕ) where
  -- ---- rows that don't have the cown

  none_held : (r : ℕ) → (Contains (cowns_of rows r) c → ⊥) → own rows holds c r ≡ None
  none_held r not = elim (one_or_none (own rows holds c r)) [
    | inl e ↦ e
    | inr (u, e) ↦ absurd (not (use_has (cowns_of rows r) _ c u e))
  ]

  left_skips : (plan : List ℕ) (d n m : ℕ) → n + d ≡ m → ((r : ℕ) → n ≤ r → r < m → own rows holds c r ≡ None)
      → left rows holds plan c m ≡ left rows holds plan c n
  left_skips plan zero n m e none = ap (left rows holds plan c) (omega (arith, e))
  left_skips plan (suc d) n m e none =
      let same : m ≡ suc (n + d) = omega (arith, e) in
      ap (left rows holds plan c) same ∙ (left_none rows holds c plan (n + d) (none (n + d) (omega arith) (omega (arith, e)))
      ∙ left_skips plan d n (n + d) refl (λ r ge lt. none r ge (omega (arith, lt, e))))

  wrote_skips : (plan : List ℕ) (d n m : ℕ) → n + d ≡ m
      → ((r : ℕ) (u : Use) → n ≤ r → r < m → own rows holds c r ≡ Some u → writes rows holds c r ≡ false)
      → wrote rows holds c plan m ≡ wrote rows holds c plan n
  wrote_skips plan zero n m e reads = ap (wrote rows holds c plan) (omega (arith, e))
  wrote_skips plan (suc d) n m e reads =
      let same : m ≡ suc (n + d) = omega (arith, e) in
      let step : wrote rows holds c plan (suc (n + d)) ≡ wrote rows holds c plan (n + d) = elim (one_or_none (own rows holds c (n + d))) [
        | inl none ↦ ap (λ (x : Left). x.wrote) (left_none rows holds c plan (n + d) none)
        | inr (u, f) ↦ wrote_reads rows holds c plan (n + d) u f (reads (n + d) u (omega arith) (omega (arith, e)) f)
      ] in
      ap (wrote rows holds c plan) same ∙ (step ∙ wrote_skips plan d n (n + d) refl (λ r u ge lt f. reads r u ge (omega (arith, lt, e)) f))

  -- ---- a cown goes on

  -- past the row at the front, where what it leaves is this
  pub come_past : (plan : List ℕ) (front next : Front) → HasCome rows holds plan c front → front.at < length rows
      → IsNextUser rows c (front.at + 1) next.at
      → ((u : Use) → own rows holds c front.at ≡ Some u → start_of plan front.at < later)
      → left_of next ≡ left_after (own rows holds c front.at) (wrote_cown rows front.at c) (start_of plan front.at) (left_of front)
      → HasCome rows holds plan c next
  come_past plan front next h there user started is = record {
    below = user.below;
    user = user.user;
    started = λ r lt held. elim (cases_lt r front.at) [
      | inl before ↦ h.started r before held
      | inr ge ↦ elim (cases_eq r front.at) [
        | inl e ↦ subst (λ (x : ℕ). start_of plan x < later) (sym e) (started held.0 (ap (own rows holds c) (sym e) ∙ held.1))
        | inr ne ↦ absurd (user.none_between r (omega (arith, ge, ne)) lt (use_has (cowns_of rows r) _ c held.0 held.1))
      ]
    ];
    left_is = is ∙ (ap (left_after (own rows holds c front.at) (wrote_cown rows front.at c) (start_of plan front.at)) h.left_is
        ∙ sym (left_skips plan (next.at - suc front.at) (suc front.at) next.at (omega (arith, user.above))
        (λ r ge lt. none_held r (user.none_between r (omega (arith, ge)) lt))));
  }

  -- the other plan has the same starts, but for a row that has not started in the first one
  pub come_still : (plan other : List ℕ) (r : ℕ) (front : Front) → start_of plan r ≡ later → ((q : ℕ) → q ≢ r → start_of other q ≡ start_of plan q)
      → HasCome rows holds plan c front → HasCome rows holds other c front
  come_still plan other r front not same h = record {
    below = h.below;
    user = h.user;
    started = λ q lt held. (let s = h.started q lt held in omega (arith, s, same q (differs q s)));
    left_is = h.left_is ∙ same_left _ _ (omega (arith, up.0, down.0)) (omega (arith, up.1, down.1));
  }
    where
      differs : (q : ℕ) → start_of plan q < later → q ≢ r
      differs q lt e = (let at : start_of plan q ≡ later = ap (start_of plan) e ∙ not in omega (arith, at, lt))

      up : (held rows holds c plan front.at ≤ held rows holds c other front.at) × (wrote rows holds c plan front.at ≤ wrote rows holds c other front.at)
      up = left_no_later rows holds c plan other front.at (λ q u lt e. omega (arith, same q (differs q (h.started q lt (u, e)))))

      down : (held rows holds c other front.at ≤ held rows holds c plan front.at) × (wrote rows holds c other front.at ≤ wrote rows holds c plan front.at)
      down = left_no_later rows holds c other plan front.at (λ q u lt e. omega (arith, same q (differs q (h.started q lt (u, e)))))

  pub front_still : (plan other : List ℕ) (r : ℕ) (front : Front) → start_of plan r ≡ later → ((q : ℕ) → q ≢ r → start_of other q ≡ start_of plan q)
      → (Holds holds rows c r → ⊥) → IsFront rows holds plan c front → IsFront rows holds other c front
  front_still plan other r front not same none f = record {
    come = come_still plan other r front not same f.come;
    stops = λ there. (
        let s = f.stops there in
        let ne : front.at ≢ r = λ e. none (subst (λ (x : ℕ). Holds holds rows c x) e s.held) in
        record { held = s.held; not_started = same front.at ne ∙ s.not_started });
    told = f.told;
  }

  -- ---- when the cown comes to a row

  blocks_by : (r : ℕ) → Holds holds rows c r → writes rows holds c r ≡ true → Blocks rows holds c r
  blocks_by r held w = record { held = held; wrote = w }

  -- a row that holds the cown and hasn't started stands at the front or after it
  pub stands_after : (plan : List ℕ) (front : Front) (b : ℕ) → HasCome rows holds plan c front → Stops rows holds plan c b → front.at ≤ b
  stands_after plan front b h s = elim (cases_lt b front.at) [
    | inl lt ↦ absurd (omega (arith, h.started b lt s.held, s.not_started))
    | inr ge ↦ ge
  ]

  pub came_told : (plan : List ℕ) (front : Front) (b : ℕ) → IsFront rows holds plan c front → Stops rows holds plan c b → b < length rows → b < front.told
      → came rows holds plan b c ≡ came_by (wrote_cown rows b c) (left_of front)
  came_told plan front b f s there lt = elim (cases_eq front.at b) [
    | inl e ↦ ap (came_by (wrote_cown rows b c)) (sym (f.come.left_is ∙ ap (left rows holds plan c) e))
    | inr ne ↦ (
        let after : front.at < b = omega (arith, stands_after plan front b f.come s, ne) in
        let reads : writes rows holds c b ≡ false = elim (either (writes rows holds c b)) [
          | inl w ↦ absurd (f.told.inside b after lt s.held (inr (blocks_by b s.held w)))
          | inr w ↦ w
        ] in
        let skips = wrote_skips plan (b - front.at) front.at b (omega (arith, after)) (λ q u ge less e. elim (either (writes rows holds c q)) [
          | inl w ↦ absurd (elim (cases_eq q front.at) [
            | inl same ↦ f.told.inside b after lt s.held (inl (subst (Blocks rows holds c) same (blocks_by q (u, e) w)))
            | inr other ↦ f.told.inside q (omega (arith, ge, other)) (omega (arith, less, lt)) (u, e) (inr (blocks_by q (u, e) w))
          ])
          | inr w ↦ w
        ]) in
        came_reads rows holds c plan b reads ∙ (skips ∙ (ap (λ (x : Left). x.wrote) (sym f.come.left_is)
        ∙ sym (ap (λ (w : Bool). came_by w (left_of front)) reads))))
  ]

  module _ (within : (r : ℕ) (u : Use) → own rows holds c r ≡ Some u → IsWithin MOST_TICKS u) where
    pub came_untold : (plan : List ℕ) (front : Front) (b : ℕ) → IsFront rows holds plan c front → Stops rows holds plan c b → b < length rows
        → front.told ≤ b → later ≤ came rows holds plan b c
    came_untold plan front b f s there ge =
        let at_there : front.at < length rows = omega (arith, stands_after plan front b f.come s, there) in
        let stop = f.stops at_there in
        let after : front.at < b = omega (arith, f.told.above at_there, ge) in
        elim (f.told.outside b ge there s.held) [
          | inl blocks ↦ came_unknown rows holds c within plan front.at b stop.held.0 after stop.held.1 stop.not_started (inl blocks.wrote)
          | inr (q, above, below, blocks) ↦ elim (cases_eq q b) [
            | inl e ↦ came_unknown rows holds c within plan front.at b stop.held.0 after stop.held.1 stop.not_started
                (inr (subst (λ (x : ℕ). wrote_cown rows x c ≡ true) e blocks.wrote))
            | inr ne ↦ came_behind rows holds c within plan front.at q b stop.held.0 blocks.held.0 above (omega (arith, below, ne)) stop.held.1 blocks.held.1
                stop.not_started blocks.wrote
          ]
        ]

    -- a cown that is told to come to a row comes at a known tick
    pub front_known : (plan : List ℕ) (front : Front) (b tick : ℕ) → IsFront rows holds plan c front → Stops rows holds plan c b → b < length rows
        → b < front.told → tick < 2 ^ 61 → ((a : ℕ) → a < length rows → start_of plan a < later → start_of plan a ≤ tick) → length rows ≤ MOST_ROWS
        → came rows holds plan b c < later
    front_known plan front b tick f s there lt low come few =
        let is = came_told plan front b f s there lt in
        let low_left = left_low rows holds c within plan tick front.at
        (λ a u less e. (let st = f.come.started a less (u, e) in come a (omega (arith, less, f.come.below)) st)) in
        let held_is = ap (λ (x : Left). x.held) f.come.left_is in
        let wrote_is = ap (λ (x : Left). x.wrote) f.come.left_is in
        elim (either (writes rows holds c b)) [
          | inl w ↦ omega (arith, is, ap (λ (x : Bool). came_by x (left_of front)) w, held_is, low_left.0, low, few, f.come.below)
          | inr w ↦ omega (arith, is, ap (λ (x : Bool). came_by x (left_of front)) w, wrote_is, low_left.1, low, few, f.come.below)
        ]

    -- the same, where no row that has started did so too late for sums of ticks
    pub front_low : (plan : List ℕ) (front : Front) → HasCome rows holds plan c front → IsLowPlan rows plan → length rows ≤ MOST_ROWS
        → (front.held < 2 ^ 62) × (front.wrote < 2 ^ 62)
    front_low plan front h low few =
        let low_left = left_low rows holds c within plan (2 ^ 61) front.at
        (λ a u less e. omega (arith, low a (omega (arith, less, h.below)) (h.started a less (u, e)))) in (
          omega (arith, ap (λ (x : Left). x.held) h.left_is, low_left.0, few, h.below),
          omega (arith, ap (λ (x : Left). x.wrote) h.left_is, low_left.1, few, h.below),
        )

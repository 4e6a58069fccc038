-- A plan that is greedy by the starts so far is the greedy plan of the rows of which some cowns are relaxed.
use Rattle.std.proofs.Common.{◌≡◌, ◌⊎◌, inl, inr, ℕ, zero, suc, ◌+◌, ◌-◌, ◌^◌, ◌<◌, ◌≤◌, max, Bool, true, false, cond, List, [], ◌∷◌, length}
use Rattle.std.proofs.Common.{Option, Some, None, refl, subst, sym, ap, ◌∙◌, arith}
use Rattle.std.specs.Prelude.{nat_lt}
use Rattle.std.specs.List.{Contains}
use Rattle.std.specs.Option.{option_map_or}
use Rattle.std.proofs.lemmas.Bool.{cases_lt}
use Rattle.std.proofs.lemmas.Bool.Decides.{nat_tests}
use Rattle.std.proofs.lemmas.Option.{slice_get_past}
use Rattle.boc_program.specs.declared.limits.TheConstants.{MOST_COWNS, MOST_TICKS}
use Rattle.boc_runs.specs.declared.rows.Row.{Row}
use Rattle.boc_runs.specs.Rows.{IsRows, parent_of, offset_of, ticks_of, cowns_of, written_of}
use Rattle.boc_plans.specs.Plans.{start_of, end_of, IsChild, ConflictOn}
use Rattle.boc_order.proofs.Found.{found, finds}
use Rattle.boc_greedy.specs.Simulating.{later}
use Rattle.boc_uses.specs.declared.uses.Use.{Use}
use Rattle.boc_turns.specs.Turns.{use_of, IsWithin, over, IsTurn, AreOverBy}
use Rattle.boc_turns.specs.Course.{wrote_cown}
use Rattle.boc_turns.specs.Workers.{times_of, IsBegun, IsFixed, IsReadyThen, IsGreedyThen, IsUsedGreedyEnd}
use Rattle.boc_turns.proofs.Gathering.{use_has}
use Rattle.boc_turns.proofs.Pacing.{contains_split, contains_rest, contains_here}
use Rattle.boc_used_greedy.specs.Holds.{whole_use, hold_by, AreHolds}
use Rattle.boc_used_greedy.specs.Ready.{came, left_at, IsReadyBy, so_far, CanStartAt, IsGreedyBy}
use Rattle.boc_used_greedy.specs.Ends.{IsEndOf}
use Rattle.boc_used_greedy.proofs.Leaving.{either, one_or_none, held, held_has, held_least, came_has, came_least, came_no_later, over_above}
use Rattle.boc_used_greedy.proofs.Cutting.{cut_early, cut_seen, cut_no_sooner, cut_falls}

module _ (rows : List Row) (hr : IsRows rows) (uses : List (Option Use)) (relaxed : ℕ → Bool) (holds : List (Option Use))
    (are : AreHolds rows uses relaxed holds) where
  -- ---- what rows hold

  abbrev own : ℕ → ℕ → Option Use
  own r c = use_of rows holds r c

  pub own_has : (r c : ℕ) (u : Use) → own r c ≡ Some u → Contains (cowns_of rows r) c
  own_has r c u e = use_has (cowns_of rows r) _ c u e

  pub own_there : (r c : ℕ) (u : Use) → own r c ≡ Some u → r < length rows
  own_there r c u e = elim (cases_lt r (length rows)) [
    | inl there ↦ there
    | inr ge ↦ absurd (
        let none : cowns_of rows r ≡ [] = ap (λ (o : Option Row). option_map_or (λ (x : Row). x.cowns.items) o []) (slice_get_past rows r ge) in
        let has : Contains [] c = subst (λ (l : List ℕ). Contains l c) none (own_has r c u e) in
        omega (arith, has.1))
  ]

  pub within : (c r : ℕ) (u : Use) → own r c ≡ Some u → IsWithin MOST_TICKS u
  within c r u e =
      let w = are.are_uses.within r c u e in
      record { from_one = w.from_one; rises = w.rises; ends = omega (arith, w.ends, hr.ticks_high r (own_there r c u e)) }

  hold_relaxed : (r c : ℕ) → r < length rows → Contains (cowns_of rows r) c → relaxed c ≡ true → own r c ≡ use_of rows uses r c
  hold_relaxed r c there has e = are.each r c there
      ∙ λ i. cond (finds c (cowns_of rows r) has i) (hold_by (e i) (use_of rows uses r c) (ticks_of rows r)) None

  hold_whole : (r c : ℕ) → r < length rows → Contains (cowns_of rows r) c → relaxed c ≡ false → own r c ≡ Some (whole_use (ticks_of rows r))
  hold_whole r c there has e = are.each r c there
      ∙ λ i. cond (finds c (cowns_of rows r) has i) (hold_by (e i) (use_of rows uses r c) (ticks_of rows r)) None

  turn_own : (r c : ℕ) (u : Use) → r < length rows → IsTurn rows uses relaxed r c u → own r c ≡ Some u
  turn_own r c u there turn = hold_relaxed r c there (use_has (cowns_of rows r) _ c u turn.is_use) turn.is_relaxed ∙ turn.is_use

  own_use : (r c : ℕ) (u : Use) → relaxed c ≡ true → own r c ≡ Some u → use_of rows uses r c ≡ Some u
  own_use r c u relax e = sym (hold_relaxed r c (own_there r c u e) (own_has r c u e) relax) ∙ e

  own_whole : (r c : ℕ) (u : Use) → relaxed c ≡ false → own r c ≡ Some u → u ≡ whole_use (ticks_of rows r)
  own_whole r c u none e =
      let same : Some u ≡ Some (whole_use (ticks_of rows r)) = sym e ∙ hold_whole r c (own_there r c u e) (own_has r c u e) none in
      cc

  -- ---- conflicts

  conflict_writes : (c a b : ℕ) → ConflictOn rows c a b → (wrote_cown rows a c ≡ true) ⊎ (wrote_cown rows b c ≡ true)
  conflict_writes c a b conflict = elim conflict.wrote [
    | inl w ↦ inl (finds c (written_of rows a) w)
    | inr w ↦ inr (finds c (written_of rows b) w)
  ]

  own_conflict : (c a b : ℕ) (u v : Use) → own a c ≡ Some u → own b c ≡ Some v → (wrote_cown rows a c ≡ true) ⊎ (wrote_cown rows b c ≡ true)
      → ConflictOn rows c a b
  own_conflict c a b u v e f o = record {
    first = own_has a c u e;
    second = own_has b c v f;
    wrote = elim o [ inl w ↦ inl (found c (written_of rows a) w) | inr w ↦ inr (found c (written_of rows b) w) ];
  }

  module _ (p : ℕ) (plan workers : List ℕ) (whole : length plan ≡ length rows) (low : (r : ℕ) → r < length rows → start_of plan r < 2 ^ 62)
      (greedy : (t : ℕ) → IsGreedyBy rows holds p plan workers t) where
    -- ---- a row that needs a cown has it in time

    abbrev cut : ℕ → List ℕ
    cut t = so_far t plan

    not_later : (r : ℕ) → r < length rows → start_of plan r ≤ later
    not_later r there = omega (arith, low r there)

    need_came : (t r c : ℕ) (u : Use) → start_of plan r ≤ t → own r c ≡ Some u → u.needed ≡ true
        → came rows holds (cut t) r c + 1 ≤ start_of plan r + u.first
    need_came t r c u le e need =
        let there = own_there r c u e in
        let ready = ((greedy (start_of plan r)).ready r there refl).ready.in_turn c u e need in
        let more = came_no_later rows holds c (cut t) (cut (start_of plan r)) r (λ a v lt f.
        cut_falls (start_of plan r) t plan a (omega (arith, lt, there, whole)) le (not_later a (omega (arith, lt, there)))) in
        omega (arith, ready, more)

    plan_came : (t r c : ℕ) → r < length rows → came rows holds plan r c ≤ came rows holds (cut t) r c
    plan_came t r c there = came_no_later rows holds c plan (cut t) r
        (λ a v lt f. cut_no_sooner t plan a (omega (arith, lt, there, whole)) (not_later a (omega (arith, lt, there))))

    need_plan : (r c : ℕ) (u : Use) → own r c ≡ Some u → u.needed ≡ true → came rows holds plan r c + 1 ≤ start_of plan r + u.first
    need_plan r c u e need = omega (
      arith,
      need_came (start_of plan r) r c u (omega arith) e need,
      plan_came (start_of plan r) r c (own_there r c u e),
    )

    -- ---- the turns

    abbrev pub begun : ℕ → ℕ → ℕ
    begun r c = option_map_or (λ (u : Use). max (came rows holds plan r c) (start_of plan r + u.first - 1)) (own r c) 0

    begun_is : (r c : ℕ) (u : Use) → own r c ≡ Some u → begun r c ≡ max (came rows holds plan r c) (start_of plan r + u.first - 1)
    begun_is r c u e = ap (λ (o : Option Use). option_map_or (λ (u : Use). max (came rows holds plan r c) (start_of plan r + u.first - 1)) o 0) e

    over_is : (r c : ℕ) (u : Use) → own r c ≡ Some u → over (times_of plan begun) r c u ≡ left_at rows holds plan r c u
    over_is r c u e = (let w = within c r u e in elim (either u.needed) [
      | inl need ↦ omega (
        arith,
        ap (λ (b : Bool). cond b (start_of plan r + u.last) (begun r c + (u.last + 1 - u.first))) need,
        need_plan r c u e need,
        w.from_one,
        w.rises,
      )
      | inr none ↦ omega (
        arith,
        ap (λ (b : Bool). cond b (start_of plan r + u.last) (begun r c + (u.last + 1 - u.first))) none,
        begun_is r c u e,
      )
    ])

    is_begun : (b c : ℕ) (u : Use) → b < length rows → IsTurn rows uses relaxed b c u → IsBegun rows uses plan begun b c u
    is_begun b c u there turn =
        let e = turn_own b c u there turn in
        let w = within c b u e in
        let is = begun_is b c u e in
        record {
          keeps = record {
            after = λ a v lt conflict usage. (
                let f = turn_own a c v (omega (arith, lt, there)) (record { is_relaxed = turn.is_relaxed; is_use = usage }) in
                omega (arith, over_is a c v f, is, came_has rows holds c plan a b v lt f (conflict_writes c a b conflict)));
            from_first = omega (arith, is, w.from_one);
            waits = λ need. omega (arith, is, need_plan b c u e need, w.from_one);
          };
          least = λ tick start turns. (
              let l = came_least rows holds c plan tick b (λ a v lt f o. omega (
                arith,
                over_is a c v f,
                turns a v lt (own_conflict c a b v u f e o) (own_use a c v turn.is_relaxed f),
              )) in
              omega (arith, is, l, start));
        }

    -- ---- turns that are fixed

    module _ (t c : ℕ) where
      abbrev known_at : ℕ → Bool
      known_at r = option_map_or (λ (u : Use). nat_lt (left_at rows holds (cut t) r c u) later) (own r c) false

      abbrev known : ℕ → List ℕ
      known zero = []
      known (suc n) = cond (known_at n) (n ∷ known n) (known n)

      known_more : (n r : ℕ) → known_at r ≡ true → Contains (known n) r → Contains (known (suc n)) r
      known_more n r k has = elim (either (known_at n)) [
        | inl e ↦ subst (λ (b : Bool). Contains (cond b (n ∷ known n) (known n)) r) (sym e) (contains_rest n (known n) r has)
        | inr e ↦ subst (λ (b : Bool). Contains (cond b (n ∷ known n) (known n)) r) (sym e) has
      ]

      known_has : (n r : ℕ) → r < n → known_at r ≡ true → Contains (known n) r
      known_has zero r lt k = absurd (omega (arith, lt))
      known_has (suc n) r lt k = elim (cases_lt r n) [
        | inl less ↦ known_more n r k (known_has n r less k)
        | inr ge ↦ (
            let same : n ≡ r = omega (arith, lt, ge) in
            let e : known_at n ≡ true = subst (λ (x : ℕ). known_at x ≡ true) (sym same) k in
            subst (λ (b : Bool). Contains (cond b (n ∷ known n) (known n)) r) (sym e)
            (subst (λ (x : ℕ). Contains (n ∷ known n) x) same (contains_here n (known n))))
      ]

      known_sound : (n r : ℕ) → Contains (known n) r → known_at r ≡ true
      known_sound zero r has = absurd (omega (arith, has.1))
      known_sound (suc n) r has = elim (either (known_at n)) [
        | inl e ↦ elim (contains_split n (known n) r (subst (λ (b : Bool). Contains (cond b (n ∷ known n) (known n)) r) e has)) [
          | inl same ↦ subst (λ (x : ℕ). known_at x ≡ true) same e
          | inr rest ↦ known_sound n r rest
        ]
        | inr e ↦ known_sound n r (subst (λ (b : Bool). Contains (cond b (n ∷ known n) (known n)) r) e has)
      ]

      known_by : (r : ℕ) (u : Use) → own r c ≡ Some u → left_at rows holds (cut t) r c u < later → known_at r ≡ true
      known_by r u e h =
          let test : nat_lt (left_at rows holds (cut t) r c u) later ≡ true = grind (arith, nat_tests) in
          ap (λ (o : Option Use). option_map_or (λ (u : Use). nat_lt (left_at rows holds (cut t) r c u) later) o false) e ∙ test

      known_is : (r : ℕ) → known_at r ≡ true → (u : Use) × (own r c ≡ Some u) × (left_at rows holds (cut t) r c u < later)
      known_is r k = elim (one_or_none (own r c)) [
        | inl e ↦ absurd (
            let n : known_at r ≡ false =
            ap (λ (o : Option Use). option_map_or (λ (u : Use). nat_lt (left_at rows holds (cut t) r c u) later) o false) e in
            let s : true ≡ false = sym k ∙ n in
            cc)
        | inr (u, e) ↦ (
            let n : known_at r ≡ nat_lt (left_at rows holds (cut t) r c u) later =
            ap (λ (o : Option Use). option_map_or (λ (u : Use). nat_lt (left_at rows holds (cut t) r c u) later) o false) e in
            let test : nat_lt (left_at rows holds (cut t) r c u) later ≡ true = sym n ∙ k in
            (u, e, grind (arith, nat_tests)))
      ]

      -- a row that has left the cown by the starts so far has started
      left_started : (r : ℕ) (u : Use) → own r c ≡ Some u → left_at rows holds (cut t) r c u < later
          → (start_of plan r ≤ t) × (start_of (cut t) r ≡ start_of plan r)
      left_started r u e h =
          let there = own_there r c u e in
          cut_seen t plan r (omega (arith, there, whole)) (omega (arith, (over_above rows holds c (within c) (cut t) r u e).0, h))

      is_fixed : (a : ℕ) (u : Use) → relaxed c ≡ true → own a c ≡ Some u → left_at rows holds (cut t) a c u < later → IsFixed rows uses plan t c a
      is_fixed a u relax e h = record {
        known = known (length rows);
        among_them = known_has (length rows) a (own_there a c u e) (known_by a u e h);
        begun = λ r has. (let (v, f, l) = known_is r (known_sound (length rows) r has) in (left_started r v f l).0);
        before = λ r q v w has usage none lt conflict other. (
            let (x, f, l) = known_is r (known_sound (length rows) r has) in
            let there = own_there r c x f in
            let g = turn_own q c w (omega (arith, lt, there)) (record { is_relaxed = relax; is_use = other }) in
            let came = came_has rows holds c (cut t) q r w lt g (conflict_writes c q r conflict) in
            let over = (over_above rows holds c (within c) (cut t) r x f).1 in
            known_has (length rows) q (omega (arith, lt, there)) (known_by q w g (omega (arith, came, over, l))));
      }

      -- a turn that is fixed is over by the starts so far when it is over in the plan
      fixed_over : (relaxed c ≡ true) → (list : List ℕ) → ((r : ℕ) → Contains list r → start_of plan r ≤ t)
          → ((r q : ℕ) (u v : Use) → Contains list r → use_of rows uses r c ≡ Some u → u.needed ≡ false → q < r → ConflictOn rows c q r
          → use_of rows uses q c ≡ Some v → Contains list q)
          → (n a : ℕ) (u : Use) → a < n → Contains list a → own a c ≡ Some u → left_at rows holds (cut t) a c u ≤ left_at rows holds plan a c u
      fixed_over relax list starts before zero a u lt has e = absurd (omega (arith, lt))
      fixed_over relax list starts before (suc n) a u lt has e =
          let there = own_there a c u e in
          let w = within c a u e in
          let start = cut_early t plan a (omega (arith, there, whole)) (starts a has) in
          elim (either u.needed) [
            | inl need ↦ omega (arith, need_came t a c u (starts a has) e need, start, w.from_one, w.rises)
            | inr none ↦ (
                let l = came_least rows holds c (cut t) (came rows holds plan a c) a (λ q v less f o. (
                let conflict = own_conflict c q a v u f e o in
                let in_list = before a q u v has (own_use a c u relax e) none less conflict (own_use q c v relax f) in
                let low = fixed_over relax list starts before n q v (omega (arith, less, lt)) in_list f in
                omega (arith, low, came_has rows holds c plan q a v less f o))) in
                omega (arith, l, start))
          ]

    -- ---- the rows that can start

    to_then : (t r : ℕ) → CanStartAt rows holds plan t r → IsReadyThen rows uses relaxed plan begun t r
    to_then t r i = record {
      there = i.there;
      waits = i.waits;
      spawned = λ a child. (
          let s = i.ready.spawned child.not_main in
          let before = hr.parent_before r child.not_main i.there in
          let seen = cut_seen t plan (parent_of rows r) (omega (arith, before, i.there, whole)) (omega (arith, s, small)) in
          subst (λ (x : ℕ). start_of plan x + offset_of rows r ≤ t) child.parent (omega (arith, s, seen.1)));
      in_order = λ a c lt conflict none. (
          let e = hold_whole a c (omega (arith, lt, i.there)) conflict.first none in
          let f = hold_whole r c i.there conflict.second none in
          let over = (over_above rows holds c (within c) (cut t) a _ e).0 in
          let came = came_has rows holds c (cut t) a r _ lt e (conflict_writes c a r conflict) in
          let turn = i.ready.in_turn c _ f refl in
          let seen = cut_seen t plan a (omega (arith, lt, i.there, whole)) (omega (arith, over, came, turn, small)) in
          omega (arith, over, came, turn, seen.1));
      known = λ a c u v turn need lt conflict usage. (
          let e = turn_own a c v (omega (arith, lt, i.there)) (record { is_relaxed = turn.is_relaxed; is_use = usage }) in
          is_fixed t c a v turn.is_relaxed e (omega (
            arith,
            left_by a c u v turn need lt conflict e,
            small,
            (within c r u (turn_own r c u i.there turn)).rises,
            (within c r u (turn_own r c u i.there turn)).ends,
          )));
      in_turn = λ c tick u turn need is a v lt conflict usage. (
          let e = turn_own a c v (omega (arith, lt, i.there)) (record { is_relaxed = turn.is_relaxed; is_use = usage }) in
          let there : a < length rows = omega (arith, lt, i.there) in
          omega (
            arith,
            over_is a c v e,
            plan_came t a c there,
            cut_no_sooner t plan a (omega (arith, there, whole)) (not_later a there),
            left_by a c u v turn need lt conflict e,
            is,
          ));
    }
      where
        small : t < 2 ^ 62
        small = omega (arith, i.waits, low r i.there)

        left_by : (a c : ℕ) (u v : Use) → IsTurn rows uses relaxed r c u → u.needed ≡ true → a < r → ConflictOn rows c a r → own a c ≡ Some v
            → left_at rows holds (cut t) a c v + 1 ≤ t + u.first
        left_by a c u v turn need lt conflict e = omega (
          arith,
          came_has rows holds c (cut t) a r v lt e (conflict_writes c a r conflict),
          i.ready.in_turn c u (turn_own r c u i.there turn) need,
        )

    from_then : (t r : ℕ) → IsReadyThen rows uses relaxed plan begun t r → CanStartAt rows holds plan t r
    from_then t r i = record {
      there = i.there;
      waits = i.waits;
      ready = record {
        spawned = λ above. (
            let before = hr.parent_before r above i.there in
            let s = i.spawned (parent_of rows r) (record { not_main = above; there = i.there; parent = refl }) in
            omega (arith, s, cut_early t plan (parent_of rows r) (omega (arith, before, i.there, whole)) (omega (arith, s))));
        in_turn = λ c u e need. elim (either (relaxed c)) [
          | inl relax ↦ (
              let w = within c r u e in
              let turn : IsTurn rows uses relaxed r c u = record { is_relaxed = relax; is_use = own_use r c u relax e } in
              let l = came_least rows holds c (cut t) (t + u.first - 1) r (λ a v lt f o. (
              let conflict = own_conflict c a r v u f e o in
              let usage = own_use a c v relax f in
              let fixed = i.known a c u v turn need lt conflict usage in
              let plan_over = i.in_turn c (t + u.first - 1) u turn need (omega (arith, w.from_one)) a v lt conflict usage in
              let cut_over = fixed_over t c relax fixed.known fixed.begun fixed.before (suc a) a v (omega arith) fixed.among_them f in
              omega (arith, plan_over, cut_over, over_is a c v f))) in
              omega (arith, l, w.from_one))
          | inr none ↦ (
              let first : u.first ≡ 1 = ap (λ (x : Use). x.first) (own_whole r c u none e) in
              let l = came_least rows holds c (cut t) t r (λ a v lt f o. (
              let conflict = own_conflict c a r v u f e o in
              let is = own_whole a c v none f in
              let ended = i.in_order a c lt conflict none in
              let there = own_there a c v f in
              let begun : start_of plan a ≤ t = omega (arith, ended) in
              let came = need_came t a c v begun f (ap (λ (x : Use). x.needed) is) in
              let start = cut_early t plan a (omega (arith, there, whole)) begun in
              omega (arith, ended, came, start, ap (λ (x : Use). x.first) is, ap (λ (x : Use). x.last) is))) in
              omega (arith, l, first))
        ];
      };
    }

    greedy_then : (t : ℕ) → IsGreedyThen rows uses relaxed p plan workers begun t
    greedy_then t = (let g = greedy t in record {
      ready = λ r there e. to_then t r (g.ready r there e);
      free = g.free;
      rising = g.rising;
      least_rows = λ a b i. g.least_rows a b (from_then t b i);
      none_idle = λ b w i. g.none_idle b w (from_then t b i);
      least_workers = g.least_workers;
    })

    -- the end is the first tick by which all rows and turns have ended
    pub final_end : length workers ≡ length rows → (end : ℕ) → IsEndOf rows holds plan end → IsUsedGreedyEnd rows uses relaxed p end
    final_end served end is = record {
      plan = plan;
      workers = workers;
      begun = begun;
      whole = whole;
      all_served = served;
      turns = is_begun;
      at = greedy_then;
      all_over = λ r there. record {
        row = is.rows_end r there;
        turns = λ c u turn. (
            let e = turn_own r c u there turn in
            let has = own_has r c u e in
            let small : c < MOST_COWNS = (let (k, h, same) = has in omega (arith, hr.cowns_below r there k c h, same)) in
            omega (arith, over_is r c u e, held_has rows holds c plan r (length rows) u there e, is.turns_end c small));
      };
      none_sooner = λ tick by. is.least tick (λ r there. (by r there).row)
          (λ c small. held_least rows holds c plan tick (length rows) (λ a u there e. elim (either (relaxed c)) [
            | inl relax ↦ omega (
              arith,
              over_is a c u e,
              (by a there).turns c u (record { is_relaxed = relax; is_use = own_use a c u relax e }),
            )
            | inr none ↦ (
                let whole_is = own_whole a c u none e in
                omega (
                  arith,
                  (by a there).row,
                  need_plan a c u e (ap (λ (x : Use). x.needed) whole_is),
                  ap (λ (x : Use). x.first) whole_is,
                  ap (λ (x : Use). x.last) whole_is,
                ))
          ]));
    }

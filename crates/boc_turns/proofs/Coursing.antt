-- The course, with one row more: what the code finds of a row is what the rules ask of it.
use Rattle.std.proofs.Common.{◌≡◌, ◌≢◌, ◌⊎◌, inl, inr, ℕ, ◌+◌, ◌-◌, ◌*◌, ◌<◌, ◌≤◌, max, Bool, true, false, cond, List, [], ◌∷◌, ◌++◌, length}
use Rattle.std.proofs.Common.{take, drop, Option, Some, None, refl, subst, sym, ap, ◌∙◌, arith, get_or}
use Rattle.std.specs.Prelude.{nat_eq, slice_index, All}
use Rattle.std.specs.List.{Contains, fold}
use Rattle.std.proofs.lemmas.Bool.Decides.{nat_tests}
use Rattle.std.proofs.lemmas.List.{length-append, length-drop, take-append-le, drop-append-le, take_all, length_push}
use Rattle.std.proofs.lemmas.List.Elements.{Contains-get_or}
use Rattle.std.proofs.lemmas.Option.{slice_get_within}
use Rattle.std.proofs.Math.Seq.{drop-append_seam}
use Rattle.boc_program.specs.declared.limits.TheConstants.{MOST_COWNS, MOST_TICKS}
use Rattle.boc_runs.specs.declared.rows.Row.{Row}
use Rattle.boc_runs.specs.Rows.{IsRows, parent_of, offset_of, ticks_of, cowns_of, written_of}
use Rattle.boc_order.proofs.Found.{found, finds}
use Rattle.boc_uses.specs.declared.uses.Use.{Use}
use Rattle.boc_turns.specs.declared.pace.Wait.{Wait}
use Rattle.boc_turns.specs.declared.pace.Pace.{Pace}
use Rattle.boc_turns.specs.declared.coming.Hold.{Hold}
use Rattle.boc_turns.specs.declared.coming.Hold.TheVariants.{Whole, Never, Turn}
use Rattle.boc_turns.specs.declared.coming.Coming.{Coming}
use Rattle.boc_turns.specs.Pace.{made_by, over_by, wait_of, hold_of, wait_for, started, waited, left_by, left_of, left_written, noted, latest}
use Rattle.boc_turns.specs.Pace.{IsLow, IsLowHold, IsLowComing}
use Rattle.boc_turns.specs.Turns.{cowns_before, use_of, AreUses, IsWithin, Times, over, IsTurn}
use Rattle.boc_turns.specs.Course.{marked, wrote_cown, coming_by, AreComing, HavePassed, IsLast, waits_of, HavePaces}
use Rattle.boc_turns.proofs.Arriving.{start_ge, start_has, start_least, waits_sound, waits_complete, all_ge, all_has, all_least, last_ge, last_has}
use Rattle.boc_turns.proofs.Arriving.{last_least}
use Rattle.boc_turns.proofs.Gathering.{comes_sound, comes_complete, got_push}
use Rattle.boc_turns.proofs.Placing.{Agree, IsRaised, IsCome, IsNextRow, is_come, next_low, passed_more, last_more, turn_has, came_low}

-- ---- how a cown is held

hold_whole : (b : Bool) (o : Option Use) → hold_of b o ≡ Whole → b ≡ false
hold_whole false o e = refl
hold_whole true None e = absurd cc
hold_whole true (Some u) e = absurd cc

hold_turn : (b : Bool) (o : Option Use) (u : Use) → hold_of b o ≡ Turn u → (b ≡ true) × (o ≡ Some u)
hold_turn false o u e = absurd cc
hold_turn true None u e = absurd cc
hold_turn true (Some v) u e = (refl, (let same : v ≡ u = cc in ap (λ (x : Use). Some x) same))

wait_turn : (hold : Hold) (came : ℕ) (wait : Wait) → wait_for hold came ≡ Some wait
    → (u : Use) × (hold ≡ Turn u) × (u.needed ≡ true) × (wait ≡ wait_of u came)
wait_turn Whole came wait e = absurd cc
wait_turn Never came wait e = absurd cc
wait_turn (Turn u) came wait e = go u.needed refl
  where
    go : (b : Bool) → u.needed ≡ b → (v : Use) × (Turn u ≡ Turn v) × (v.needed ≡ true) × (wait ≡ wait_of v came)
    go true n = (let s : Some (wait_of u came) ≡ Some wait = rw n at e in (u, refl, n, (let w : wait ≡ wait_of u came = cc in w)))
    go false n = absurd (let s : None ≡ Some wait = rw n at e in cc)

left_cases : (b : Bool) (o : Option Use) (came start : ℕ) (waits : List Wait) (end tick : ℕ) → left_by (hold_of b o) came start waits end ≡ Some tick
    → ((b ≡ false) × (tick ≡ end)) ⊎ ((u : Use) × (b ≡ true) × (o ≡ Some u) × (tick ≡ over_by start waits came u))
left_cases false o came start waits end tick e = inl (refl, (let same : tick ≡ end = cc in same))
left_cases true None came start waits end tick e = absurd cc
left_cases true (Some u) came start waits end tick e = inr (u, refl, refl, (let same : tick ≡ over_by start waits came u = cc in same))

low_hold : (b : Bool) (o : Option Use) → ((u : Use) → o ≡ Some u → IsWithin MOST_TICKS u) → IsLowHold (hold_of b o)
low_hold false o all = tt
low_hold true None all = tt
low_hold true (Some u) all = all u refl

-- ---- the cowns that come to row n

module _ (rows : List Row) (hr : IsRows rows) (uses : List (Option Use)) (are : AreUses rows uses) (marks : List Bool) (times : Times) (n : ℕ)
    (there : n < length rows) (held wrote : List ℕ) (p : HavePassed rows uses (marked marks) times n held wrote) (coming : List Coming)
    (enough : length (cowns_of rows n) ≤ length (drop (cowns_before rows n) uses))
    (come : AreComing rows marks (drop (cowns_before rows n) uses) held wrote n (length (cowns_of rows n)) coming) where
  abbrev pub came : ℕ → ℕ
  came c = cond (wrote_cown rows n c) (slice_index held c) (slice_index wrote c)

  abbrev pub at : ℕ → Coming
  at c = coming_by rows held wrote n c (hold_of (marked marks c) (use_of rows uses n c))

  sound : (x : Coming) → Contains coming x → Contains (cowns_of rows n) x.cown × (x ≡ at x.cown)
  sound = comes_sound rows hr uses n there marks held wrote coming enough come

  complete : (c : ℕ) → Contains (cowns_of rows n) c → Contains coming (at c)
  complete = comes_complete rows hr uses n there marks held wrote coming enough come

  came_is : (x : Coming) → Contains coming x → x.came ≡ came x.cown
  came_is x h = ap (λ (y : Coming). y.came) (sound x h).1

  hold_is : (x : Coming) → Contains coming x → x.hold ≡ hold_of (marked marks x.cown) (use_of rows uses n x.cown)
  hold_is x h = ap (λ (y : Coming). y.hold) (sound x h).1

  pub comes : (c : ℕ) → Contains (cowns_of rows n) c → IsCome rows uses (marked marks) times n c (came c)
  comes c own = is_come rows hr uses (marked marks) times n there held wrote p c own

  cown_small : (c : ℕ) → Contains (cowns_of rows n) c → c < MOST_COWNS
  cown_small c (k, h, e) = omega (arith, hr.cowns_below n there k c h, e)

  small : (x : Coming) → Contains coming x → x.cown < MOST_COWNS
  small x h = cown_small x.cown (sound x h).0

  module _ (spawned start : ℕ) (main : n ≡ 0 → spawned ≡ 0) (child : 0 < n → spawned ≡ times.made (parent_of rows n) (offset_of rows n))
      (start_is : start ≡ fold started spawned coming) (waits : List Wait) (waits_are : waits ≡ fold waited [] coming) where
    whole_at : (c : ℕ) → marked marks c ≡ false → hold_of (marked marks c) (use_of rows uses n c) ≡ Whole
    whole_at c none = rw none

    turn_at : (c : ℕ) (u : Use) → IsTurn rows uses (marked marks) n c u → hold_of (marked marks c) (use_of rows uses n c) ≡ Turn u
    turn_at c u turn = rw (turn.is_relaxed, turn.is_use)

    pub next_row : IsNextRow rows uses (marked marks) times n came spawned start waits
    next_row = record {
      main = main;
      child = child;
      later = omega (arith, start_is, start_ge spawned coming);
      above = λ c own none. omega (arith, start_is, start_has spawned coming (at c) (complete c own) (whole_at c none));
      least = λ tick low all. (
          let l = start_least spawned tick coming low (λ x h whole. (
          let none = hold_whole (marked marks x.cown) (use_of rows uses n x.cown) (sym (hold_is x h) ∙ whole) in
          omega (arith, came_is x h, all x.cown (sound x h).0 none))) in
          omega (arith, start_is, l));
      sound = λ wait has. elim (waits_sound [] coming wait (subst (λ (l : List Wait). Contains l wait) waits_are has)) [
        | inl none ↦ absurd (omega (arith, none.1))
        | inr (x, h, e) ↦ (
            let (u, hold, need, is) = wait_turn x.hold x.came wait e in
            let (relaxed, own) = hold_turn (marked marks x.cown) (use_of rows uses n x.cown) u (sym (hold_is x h) ∙ hold) in
            (x.cown, u, record { is_relaxed = relaxed; is_use = own }, need, is ∙ ap (wait_of u) (came_is x h)))
      ];
      complete = λ c u turn need. (
          let own = turn_has rows uses (marked marks) n c u turn in
          let one : wait_for (at c).hold (at c).came ≡ Some (wait_of u (came c)) =
          ap (λ (hold : Hold). wait_for hold (came c)) (turn_at c u turn) ∙ rw need in
          subst (λ (l : List Wait). Contains l (wait_of u (came c))) (sym waits_are)
          (waits_complete [] coming (at c) (wait_of u (came c)) (complete c own) one));
    }

    -- ---- the times with row n

    -- the turn of a row at a cown begins when that comes, and when the tick of its first use does
    abbrev pub begun_of : Option Use → ℕ → ℕ
    begun_of None c = 0
    begun_of (Some u) c = max (came c) (made_by start waits u.first - 1)

    abbrev pub others : Times
    others = record {
      made = λ r k. cond (nat_eq r n) (made_by start waits k) (times.made r k);
      begun = λ r c. cond (nat_eq r n) (begun_of (use_of rows uses n c) c) (times.begun r c);
    }

    other_row : (r : ℕ) → r < n → nat_eq r n ≡ false
    other_row r h = (let ne : r ≢ n = omega arith in grind (arith, nat_tests))

    own_row : nat_eq n n ≡ true
    own_row = grind (arith, nat_tests)

    pub agree : Agree times others n
    agree = record { made = λ r k h. rw (other_row r h); begun = λ r c h. rw (other_row r h) }

    made_is : (k : ℕ) → others.made n k ≡ made_by start waits k
    made_is k = rw own_row

    begun_is : (c : ℕ) (u : Use) → IsTurn rows uses (marked marks) n c u → others.begun n c ≡ max (came c) (made_by start waits u.first - 1)
    begun_is c u turn = rw (own_row, turn.is_use)

    over_is : (c : ℕ) (u : Use) → IsTurn rows uses (marked marks) n c u → over others n c u ≡ over_by start waits (came c) u
    over_is c u turn = λ i. cond u.needed (made_is u.last i) (begun_is c u turn i + (u.last + 1 - u.first))

    pub made_low : (k : ℕ) → made_by start waits k ≤ n * MOST_TICKS + k
    made_low k = next_low rows hr uses are (marked marks) times n there held wrote p came comes spawned start waits next_row k

    pub is_low : IsLow start waits
    is_low k = omega (arith, made_low k, there, hr.not_many)

    module _ (end : ℕ) (end_is : end ≡ made_by start waits (ticks_of rows n)) where
      left_tells : (x : Coming) (tick : ℕ) → Contains coming x → left_of start waits end x ≡ Some tick
          → ((marked marks x.cown ≡ false) × (tick ≡ end))
          ⊎ ((u : Use) × IsTurn rows uses (marked marks) n x.cown u × (tick ≡ over_by start waits (came x.cown) u))
      left_tells x tick h e =
          let same : left_by (hold_of (marked marks x.cown) (use_of rows uses n x.cown)) (came x.cown) start waits end ≡ Some tick =
          ap (λ (y : Coming). left_of start waits end y) (sym (sound x h).1) ∙ e in
          elim (left_cases (marked marks x.cown) (use_of rows uses n x.cown) (came x.cown) start waits end tick same) [
            | inl (none, is) ↦ inl (none, is)
            | inr (u, relaxed, own, is) ↦ inr (u, record { is_relaxed = relaxed; is_use = own }, is)
          ]

      left_whole : (c : ℕ) → marked marks c ≡ false → left_of start waits end (at c) ≡ Some end
      left_whole c none = ap (λ (hold : Hold). left_by hold (came c) start waits end) (whole_at c none)

      left_turn : (c : ℕ) (u : Use) → IsTurn rows uses (marked marks) n c u → left_of start waits end (at c) ≡ Some (over_by start waits (came c) u)
      left_turn c u turn = ap (λ (hold : Hold). left_by hold (came c) start waits end) (turn_at c u turn)

      -- the ticks of one cown, where those are noted that pass
      module _ (noting : Coming → Option ℕ) (Passes : ℕ → Type 0) (c : ℕ) (low : c < MOST_COWNS)
          (passes : (tick : ℕ) → Passes n → Contains (cowns_of rows n) c → left_of start waits end (at c) ≡ Some tick → noting (at c) ≡ Some tick)
          (passed : (x : Coming) (tick : ℕ) → Contains coming x → x.cown ≡ c → noting x ≡ Some tick → Passes n × (left_of start waits end x ≡ Some tick))
          (old : List ℕ) (long : length old ≡ MOST_COWNS) where
        abbrev new : List ℕ
        new = fold (λ ticks x. noted x.cown (noting x) ticks) old coming

        noted_own : (tick : ℕ) → Passes n → Contains (cowns_of rows n) c → left_of start waits end (at c) ≡ Some tick → tick ≤ slice_index new c
        noted_own tick pass own e = all_has noting MOST_COWNS old coming (at c) tick long small (complete c own) (passes tick pass own e)

        raised : IsRaised rows hr uses (marked marks) times others n agree Passes c (slice_index old c) (slice_index new c)
        raised = record {
          above = all_ge noting MOST_COWNS old coming c long small;
          own = λ pass. record {
            whole = λ none own. omega (arith, made_is (ticks_of rows n), end_is, noted_own end pass own (left_whole c none));
            turn = λ u turn. omega (
              arith,
              over_is c u turn,
              noted_own (over_by start waits (came c) u) pass (turn_has rows uses (marked marks) n c u turn) (left_turn c u turn),
            );
          };
          least = λ tick high all. all_least noting MOST_COWNS old coming c tick long small high (λ x own h same e. (
              let (pass, is) = passed x own h same e in
              let left = all pass in
              let mine : Contains (cowns_of rows n) c = subst (Contains (cowns_of rows n)) same (sound x h).0 in
              elim (left_tells x own h is) [
                | inl (none, at_end) ↦ omega (
                  arith,
                  at_end,
                  end_is,
                  made_is (ticks_of rows n),
                  left.whole (sym (ap (marked marks) same) ∙ none) mine,
                )
                | inr (u, turn, over) ↦ (
                    let own_turn : IsTurn rows uses (marked marks) n c u = subst (λ (d : ℕ). IsTurn rows uses (marked marks) n d u) same turn in
                    let same_came : came x.cown ≡ came c = ap came same in
                    let over_c : over_by start waits (came x.cown) u ≡ over_by start waits (came c) u = ap (λ (d : ℕ). over_by start waits d u) same_came in
                    omega (arith, over, over_c, over_is c u own_turn, left.turn u own_turn))
              ]));
        }

      pub held_raised : (c : ℕ) → c < MOST_COWNS → (new : List ℕ) → length held ≡ MOST_COWNS
          → new ≡ fold (λ ticks x. noted x.cown (left_of start waits end x) ticks) held coming
          → IsRaised rows hr uses (marked marks) times others n agree (λ a. Unit {0}) c (slice_index held c) (slice_index new c)
      held_raised c low new long is = rw is (raised (left_of start waits end) (λ a. Unit {0}) c low (λ tick pass own e. e)
          (λ x tick h same e. (tt, e)) held long)

      written_passes : (c tick : ℕ) → Contains (written_of rows n) c → left_of start waits end (at c) ≡ Some tick
          → left_written start waits end (at c) ≡ Some tick
      written_passes c tick w e = (
          let t : wrote_cown rows n c ≡ true = finds c (written_of rows n) w in
          ap (λ (b : Bool). cond b (left_of start waits end (at c)) None) t ∙ e)

      written_passed : (x : Coming) (tick : ℕ) → left_written start waits end x ≡ Some tick → (x.writes ≡ true) × (left_of start waits end x ≡ Some tick)
      written_passed x tick e = go x.writes refl
        where
          go : (b : Bool) → x.writes ≡ b → (x.writes ≡ true) × (left_of start waits end x ≡ Some tick)
          go true w = (w, (let l : left_of start waits end x ≡ Some tick = rw w at e in l))
          go false w = absurd (let l : None ≡ Some tick = rw w at e in cc)

      written_own : (x : Coming) (tick c : ℕ) → Contains coming x → x.cown ≡ c → left_written start waits end x ≡ Some tick
          → Contains (written_of rows n) c × (left_of start waits end x ≡ Some tick)
      written_own x tick c h same e =
          let (writes, left) = written_passed x tick e in
          let test : wrote_cown rows n x.cown ≡ true = sym (ap (λ (y : Coming). y.writes) (sound x h).1) ∙ writes in
          (subst (Contains (written_of rows n)) same (found x.cown (written_of rows n) test), left)

      pub wrote_raised : (c : ℕ) → c < MOST_COWNS → (new : List ℕ) → length wrote ≡ MOST_COWNS
          → new ≡ fold (λ ticks x. noted x.cown (left_written start waits end x) ticks) wrote coming
          → IsRaised rows hr uses (marked marks) times others n agree (λ a. Contains (written_of rows a) c) c (slice_index wrote c) (slice_index new c)
      wrote_raised c low new long is = rw is (raised (left_written start waits end) (λ a. Contains (written_of rows a) c) c low
          (λ tick w own e. written_passes c tick w e) (λ x tick h same e. written_own x tick c h same e) wrote long)

      pub passed_next : (held_new wrote_new : List ℕ) → length held ≡ MOST_COWNS → length wrote ≡ MOST_COWNS
          → held_new ≡ fold (λ ticks x. noted x.cown (left_of start waits end x) ticks) held coming
          → wrote_new ≡ fold (λ ticks x. noted x.cown (left_written start waits end x) ticks) wrote coming
          → HavePassed rows uses (marked marks) others (n + 1) held_new wrote_new
      passed_next held_new wrote_new held_long wrote_long held_is wrote_is =
          passed_more rows hr uses are (marked marks) times n there held wrote p came comes spawned start waits next_row others agree made_is begun_is
          held_new wrote_new (λ c low. held_raised c low held_new held_long held_is) (λ c low. wrote_raised c low wrote_new wrote_long wrote_is)

      pub last_next : (old left new : ℕ) → left ≡ fold (λ last x. latest (left_of start waits end x) last) end coming → new ≡ max old left
          → IsLast rows uses (marked marks) times n old → IsLast rows uses (marked marks) others (n + 1) new
      last_next old left new is new_is l = last_more rows hr uses (marked marks) times others n agree old new (record {
        above = omega (arith, new_is);
        own = record {
          row = omega (arith, made_is (ticks_of rows n), end_is, last_ge (left_of start waits end) end coming, is, new_is);
          turns = λ c u turn. omega (
            arith,
            over_is c u turn,
            last_has (left_of start waits end) end coming (at c) (over_by start waits (came c) u)
                (complete c (turn_has rows uses (marked marks) n c u turn)) (left_turn c u turn),
            is,
            new_is,
          );
        };
        least = λ tick low by. (
            let row : end ≤ tick = omega (arith, by.row, made_is (ticks_of rows n), end_is) in
            let most = last_least (left_of start waits end) end tick coming row (λ x own h e. elim (left_tells x own h e) [
              | inl (none, at_end) ↦ omega (arith, at_end, row)
              | inr (u, turn, over) ↦ omega (arith, over, over_is x.cown u turn, by.turns x.cown u turn)
            ]) in
            omega (arith, new_is, low, most, is));
      }) l

      -- the paces of the rows before stay, and that of row n is appended
      pub paces_next : (paces : List Pace) (kept : List Wait) (pace : Pace) → pace.start ≡ start → pace.first ≡ length kept
          → pace.end ≡ length (kept ++ waits) → HavePaces times n paces kept → HavePaces others (n + 1) (paces ++ pace ∷ []) (kept ++ waits)
      paces_next paces kept pace start_at first_at end_at h = record {
        whole = omega (arith, length_push paces pace, h.whole);
        each = λ r q at_r. elim (got_push paces pace r q at_r) [
          | inl before ↦ (
              let old = h.each r q before in
              let low : r < n = omega (arith, slice_get_within paces r q before, h.whole) in
              let same : waits_of q (kept ++ waits) ≡ waits_of q kept =
              ap (λ (l : List Wait). take (q.end - q.first) l) (drop-append-le q.first kept waits (omega (arith, old.rises, old.within)))
              ∙ take-append-le (q.end - q.first) (drop q.first kept) waits (omega (arith, length-drop q.first kept, old.within)) in
              record {
                rises = old.rises;
                within = omega (arith, length-append kept waits, old.within);
                made_is = λ k. agree.made r k low ∙ (old.made_is k ∙ ap (λ (l : List Wait). made_by q.start l k) (sym same));
              })
          | inr (here, e) ↦ (
              let place : n ≡ r = omega (arith, here, h.whole) in
              let first : q.first ≡ length kept = ap (λ (x : Pace). x.first) (sym e) ∙ first_at in
              let last : q.end ≡ length (kept ++ waits) = ap (λ (x : Pace). x.end) (sym e) ∙ end_at in
              let begin : q.start ≡ start = ap (λ (x : Pace). x.start) (sym e) ∙ start_at in
              let own : waits_of q (kept ++ waits) ≡ waits = own_waits q kept first last in
              record {
                rises = omega (arith, first, last, length-append kept waits);
                within = omega (arith, last);
                made_is = λ k. ap (λ (x : ℕ). others.made x k) (sym place)
                    ∙ (made_is k ∙ sym (ap (λ (x : ℕ). made_by x (waits_of q (kept ++ waits)) k) begin ∙ ap (λ (l : List Wait). made_by start l k) own));
              })
        ];
      }
        where
          own_waits : (q : Pace) (kept : List Wait) → q.first ≡ length kept → q.end ≡ length (kept ++ waits) → waits_of q (kept ++ waits) ≡ waits
          own_waits q kept first last =
              ap (λ (k : ℕ). take (q.end - k) (drop k (kept ++ waits))) first
              ∙ (ap (λ (l : List Wait). take (q.end - length kept) l) (drop-append_seam kept waits)
              ∙ take_all (q.end - length kept) waits (omega (arith, last, length-append kept waits)))

    -- ---- no sum is too great

    pub all_low : All IsLowComing coming
    all_low k d h =
        let x : Coming = get_or coming k d in
        let has : Contains coming x = Contains-get_or coming k d h in
        let own = (sound x has).0 in
        let most = came_low rows hr uses are (marked marks) times n there held wrote p came comes spawned start waits next_row x.cown own in
        record {
          came = omega (arith, came_is x has, most, there, hr.not_many);
          hold = subst IsLowHold (sym (hold_is x has)) (low_hold (marked marks x.cown) (use_of rows uses n x.cown) (λ u e. (
              let within = are.within n x.cown u e in
              record { from_one = within.from_one; rises = within.rises; ends = omega (arith, within.ends, hr.ticks_high n there) })));
        }

-- Rows of a run go on as far as they may.
use Rattle.std.proofs.Common.{◌≡◌, ◌≢◌, ◌⊎◌, ℕ, zero, suc, ◌+◌, ◌<◌, ◌≤◌, inl, inr, Bool, true, false, List, [], ◌∷◌, ◌++◌, length, refl, sym, ◌∙◌, ap, subst, arith}
use Rattle.std.specs.Prelude.{slice_get, Some}
use Rattle.std.specs.List.{Contains}
use Rattle.std.proofs.lemmas.Bool.{cases_lt}
use Rattle.std.proofs.lemmas.List.{length-set}
use Rattle.std.proofs.lemmas.List.Elements.{Contains-append_left, Contains-append_right, Contains-push_cases}
use Rattle.boc_program.specs.declared.program.Program.{Program}
use Rattle.boc_program.specs.Changed.{changed}
use Rattle.boc_program.specs.Programs.{cown_count}
use Rattle.boc_program.specs.Rising.{rising}
use Rattle.boc_program.proofs.ChangedItems.{item_at, place_below}
use Rattle.boc_runs.specs.declared.event.Event.{Event}
use Rattle.boc_runs.specs.declared.event.Event.TheVariants.{Start, End}
use Rattle.boc_runs.specs.Lives.{Life, Pending, Running, Ended, MayStart}
use Rattle.boc_runs.specs.Run.{Member, Config, config_of, config_after, started_on, opening, state_of, member_cowns, MayHappen, IsRun}
use Rattle.boc_runs.specs.Serial.{SerialRow, serial_along}
use Rattle.boc_runs.specs.machine.AlongRows.{parents_of_rows, serial_of_log}
use Rattle.boc_machine_laws.proofs.Lists.{same_or_not}
use Rattle.boc_machine_laws.proofs.Rows.{with_life, life_there, config_more, run_more}
use Rattle.boc_fronts.specs.Orders.{HasWish}
use Rattle.boc_fronts.specs.Settled.{Waits, Settled}
use Rattle.boc_fronts.proofs.AlongLogs.{parents_on, parents_one}
use Rattle.boc_fronts.proofs.Orderly.{can_spawn}
use Rattle.boc_fronts.proofs.OrdersRun.{Played, orderly, open_or_not, waits, can_start, life_cases}
use Rattle.boc_fronts.proofs.Orderly.{run_is_orderly}
use Rattle.boc_follow.specs.Following.{Following}
use Rattle.boc_play.specs.Waiting.{Tables, next_after, released, AreChained}
use Rattle.boc_play.specs.Playing.{IsLonger, IsTried, HasEnded, GoesOn, Rests, AllRestBut, IsOver, IsUnended, AreTablesOf, AreSettled, SpawnsNone}
use Rattle.boc_play.proofs.Chaining.{same_over, other_unended, chain_released}
use Rattle.boc_play.proofs.Standing.{members, standings, next_spawns, idle_rests}
use Rattle.boc_play.proofs.Turning.{OneTurn, one_turn, could_start, earlier_ended, has_there}

abbrev pub rows_of : Following → List SerialRow
rows_of f = (serial_of_log f.program f.log).rows

abbrev pub longer : Following → Event → Following
longer f e = record f { log = f.log ++ (e ∷ []) }

abbrev pub MayStartIn : Following → ℕ → Type 0
MayStartIn f r = MayStart (state_of (members f)) (member_cowns (members f)) r

-- ---- what is settled, as lemmas of orders have it

abbrev pub as_played : (f : Following) (n : ℕ) → AreSettled f n → Played f.program (parents_of_rows f.log) n
as_played f n s = record { log = f.log; run = s.run; parents = refl; settled = s.settled }

-- a run of which no row need be settled
pub none_settled : (f : Following) → IsRun f.program f.log → AreSettled f 0
none_settled f run = record { run = run; settled = λ r low. absurd (omega (arith, low)) }

-- as many rows were spawned as there are
pub as_many : (f : Following) (n : ℕ) → AreSettled f n → length (parents_of_rows f.log) ≡ length (members f)
as_many f n s = (orderly f.program (parents_of_rows f.log) n (as_played f n s)).follows.same

-- this row is settled too
pub settled_more : (f : Following) (r : ℕ) → AreSettled f r → Settled (rows_of f) (members f) r → AreSettled f (r + 1)
settled_more f r s now = record {
  run = s.run;
  settled = λ q low.
      elim (cases_lt q r) [
        | inl h ↦ s.settled q h
        | inr h ↦ (let e : r ≡ q = omega (arith, h, low) in subst (λ (z : ℕ). Settled (rows_of f) (members f) z) e now)
      ];
}

-- a pending row that may not start waits
waits_there : (f : Following) (r : ℕ) → AreSettled f r → r < length (parents_of_rows f.log) → (MayStartIn f r → ⊥) → (m : Member)
    → slice_get (members f) r ≡ Some m → m.life ≡ Pending → Waits (rows_of f) r
waits_there f r s low not m there pending =
    let p : Program = f.program in
    let ps = parents_of_rows f.log in
    let x = as_played f r s in
    elim (open_or_not p ps r x r (omega (arith, low, as_many f r s))) [
      | inl h ↦ waits p ps r x h.0 h.1 h.2 h.3 h.4 h.5
      | inr over ↦ absurd (not (can_start p ps r x m there pending over))
    ]

none_in : (r : ℕ) → Contains [] r → ⊥
none_in r h = omega (arith, h.1)

-- rows that rest are settled
pub all_settled : (f : Following) → IsRun f.program f.log → AllRestBut f [] → (n : ℕ) → n ≤ length (parents_of_rows f.log) → AreSettled f n
all_settled f run rest zero few = none_settled f run
all_settled f run rest (suc n) few =
    let s = all_settled f run rest n (omega (arith, few)) in
    let r = rest n (none_in n) in
    let e : n + 1 ≡ suc n = omega arith in
    subst (λ (k : ℕ). AreSettled f k) e (settled_more f n s (record {
      pending = waits_there f n s (omega (arith, few)) r.held;
      running = λ m there runs. r.wishes (life_there (members f) n m there ∙ ap (λ l. Some l) runs);
    }))

-- ---- a row starts or ends

pub record Turned (old new : Following) (row : ℕ) (was is : Life) : Type 0 where
  pub turn : OneTurn (members old) (members new) row was is
  pub run : IsRun new.program new.log
  pub spawns : SpawnsNone old new

turned : (f g : Following) (row : ℕ) (e : Event) (h : Member → Member) (m : Member) → IsRun f.program f.log
    → MayHappen f.program (config_of f.program f.log) e → IsLonger f (e ∷ []) g → parents_on (parents_of_rows f.log) e ≡ parents_of_rows f.log
    → (config_after f.program (config_of f.program f.log) e).members ≡ changed (members f) row h (slice_get (members f) row)
    → slice_get (members f) row ≡ Some m → (h m).behaviour ≡ m.behaviour → Turned f g row m.life (h m).life
turned f g row e h m run may is same changes there keeps =
    let p : Program = f.program in
    let now : members (longer f e) ≡ changed (members f) row h (slice_get (members f) row) =
    ap (λ (d : Config). d.members) (config_more p (opening p) f.log e) ∙ changes in
    subst (λ (z : Following). Turned f z row m.life (h m).life) (sym is) (record {
      turn = subst (λ (ms : List Member). OneTurn (members f) ms row m.life (h m).life) (sym now) (one_turn (members f) row h m there keeps);
      run = run_more p (opening p) f.log e run may;
      spawns = record { program = refl; parents = parents_one f.log e ∙ same };
    })

pub over_still : (f g : Following) (row : ℕ) (was is : Life) → Turned f g row was is → (r d : ℕ) → IsOver f r d → IsOver g r d
over_still f g row was is t r d h = subst (λ (cs : List ℕ). Contains cs d) (sym (t.turn.cowns r)) h

pub over_before : (f g : Following) (row : ℕ) (was is : Life) → Turned f g row was is → (r d : ℕ) → IsOver g r d → IsOver f r d
over_before f g row was is t r d h = subst (λ (cs : List ℕ). Contains cs d) (t.turn.cowns r) h

-- another row rests on, if it couldn't start but for this one
rests_on : (f g : Following) (row : ℕ) (was is : Life) → Turned f g row was is → (r : ℕ) → r ≢ row → (MayStartIn g r → MayStartIn f r) → Rests f r → Rests g r
rests_on f g row was is t r apart could rest = record {
  held = λ may. rest.held (could may);
  wishes = λ runs.
      subst (λ (p : Program). HasWish (serial_along p (parents_of_rows g.log)).rows r) (sym t.spawns.program)
      (subst (λ (ps : List ℕ). HasWish (serial_along f.program ps).rows r) (sym t.spawns.parents)
      (rest.wishes (sym (t.turn.others r apart) ∙ runs)));
}

-- ---- a start is tried

-- a row that may start has started, and all but it and these rest
pub record Tried (old : Following) (t : Tables) (row : ℕ) (others : List ℕ) (f : Following) : Type 0 where
  pub tables : AreTablesOf f t
  pub spawns : SpawnsNone old f
  pub held : MayStartIn f row → ⊥
  pub rest : (r : ℕ) → r ≢ row → (Contains others r → ⊥) → Rests f r

not_these : (others : List ℕ) (row r : ℕ) → r ≢ row → (Contains others r → ⊥) → Contains (others ++ (row ∷ [])) r → ⊥
not_these others row r apart not h =
    elim (Contains-push_cases others row r h) [
      | inl k ↦ not k
      | inr e ↦ apart (sym e)
    ]

started : (f g : Following) (t : Tables) (row : ℕ) (others : List ℕ) → Turned f g row Pending Running → AreTablesOf f t
    → AllRestBut f (others ++ (row ∷ [])) → Tried f t row others g
started f g t row others x tables rest = record {
  tables = record {
    run = x.run;
    rows = tables.rows ∙ sym x.turn.many;
    cowns = tables.cowns ∙ ap (λ (p : Program). cown_count p.cowns) (sym x.spawns.program);
    chained = other_unended (IsOver g) (IsUnended f) (IsUnended g) t (λ r d h v e.
        elim (same_or_not r row) [
          | inl q ↦ (let z : Some Pending ≡ Some Ended = sym x.turn.had ∙ ap (state_of (members f)) (sym q) ∙ e in cc)
          | inr n ↦ v (x.turn.others r n ∙ e)
        ])
        (same_over (IsOver f) (IsOver g) (IsUnended f) t (over_still f g row Pending Running x) (over_before f g row Pending Running x) tables.chained);
  };
  spawns = x.spawns;
  held = λ may. (let z : Some Running ≡ Some Pending = sym x.turn.has ∙ may.waits in cc);
  rest = λ r apart not.
      rests_on f g row Pending Running x r apart
      (λ may. could_start (members f) (members g) row Pending Running x.turn r apart (λ o. may.none_running row x.turn.has o) may)
      (rest r (not_these others row r apart not));
}

pub tried : (f g : Following) (t : Tables) (row : ℕ) (others : List ℕ) → AreTablesOf f t → AllRestBut f (others ++ (row ∷ []))
    → IsTried f (Start row) g → Tried f t row others g
tried f g t row others tables rest (inl h) =
    let m = with_life (members f) row Pending h.0.waits in
    let x = turned f g row (Start row) (started_on (config_of f.program f.log).values) m.0 tables.run h.0 h.1 refl refl m.1 refl in
    started f g t row others (subst (λ (l : Life). Turned f g row l Running) m.2 x) tables rest
tried f g t row others tables rest (inr h) =
    subst (λ (z : Following). Tried f t row others z) (sym h.1) (record {
      tables = tables;
      spawns = record { program = refl; parents = refl };
      held = h.0;
      rest = λ r apart not. rest r (not_these others row r apart not);
    })

-- ---- it goes on

pub spawns_none : (f g h : Following) → SpawnsNone f g → SpawnsNone g h → SpawnsNone f h
spawns_none f g h a b = record { program = b.program ∙ a.program; parents = b.parents ∙ a.parents }

pub record Settles (old : Following) (f : Following) (t : Tables) (others : List ℕ) : Type 0 where
  pub tables : AreTablesOf f t
  pub spawns : SpawnsNone old f
  pub rest : AllRestBut f others

rests_now : (old f : Following) (t : Tables) (row : ℕ) (others : List ℕ) → Tried old t row others f
    → (state_of (members f) row ≡ Some Running → HasWish (rows_of f) row) → Settles old f t others
rests_now old f t row others x wishes = record {
  tables = x.tables;
  spawns = x.spawns;
  rest = λ r not.
      elim (same_or_not r row) [
        | inl e ↦ subst (λ (z : ℕ). Rests f z) (sym e) (record { held = x.held; wishes = wishes })
        | inr n ↦ x.rest r n not
      ];
}

-- a row that doesn't end
pub stays : (old f g : Following) (t : Tables) (row : ℕ) (others : List ℕ) → Tried old t row others f → GoesOn f row false g → Settles old g t others
stays old f g t row others x (inl h) =
    let p : Program = f.program in
    let ps = parents_of_rows f.log in
    let o = run_is_orderly p f.log x.tables.run in
    let can = can_spawn p (config_of p f.log) ps o.follows o.spawned row h.wish.offset (rising h.wish.cowns) (next_spawns f row h.wish h.next) in
    subst (λ (z : Following). Settles old z t others) (sym h.same) (rests_now old f t row others x (λ runs. can.wishes))
stays old f g t row others x (inr h) =
    subst (λ (z : Following). Settles old z t others) (sym h.1) (rests_now old f t row others x (λ runs.
    let m = with_life (members f) row Running runs in
    absurd (idle_rests f row m.0 x.tables.run h.0 m.1 m.2)))

-- a row that may start where another one has ended, over one of its cowns, comes next after it
comes_next : (f g : Following) (t : Tables) (row : ℕ) → Turned f g row Running Ended → AreTablesOf f t → (r : ℕ) → r ≢ row → MayStartIn g r
    → (c : ℕ) → IsOver g r c → IsOver g row c → Contains (next_after t.next row) r
comes_next f g t row x tables r apart may c has its =
    elim (cases_lt r row) [
      | inl low ↦ absurd (
          let ended : state_of (members g) r ≡ Some Ended = earlier_ended g.program g.log x.run r row c low has its
          (λ e. let z : Some Ended ≡ Some Pending = sym x.turn.has ∙ e in cc) in
          let z : Some Ended ≡ Some Pending = sym ended ∙ may.waits in cc)
      | inr high ↦
          let low : row < r = omega (arith, high, apart) in
          let k = tables.chained.chained row r c low (over_before f g row Running Ended x row c its) (over_before f g row Running Ended x r c has)
          (λ e. let z : Some Running ≡ Some Ended = sym x.turn.had ∙ e in cc) in
          elim (same_or_not k.by row) [
            | inl e ↦ subst (λ (z : ℕ). Contains (next_after t.next z) r) e k.next
            | inr n ↦
                let over : IsOver g k.by c = over_still f g row Running Ended x k.by c k.has in
                let m = item_at (members g) k.by (has_there (members g) k.by c over) in
                absurd (elim (life_cases m.0.life) [
                  | inl pending ↦ may.none_earlier k.by k.before (life_there (members g) k.by m.0 m.1 ∙ ap (λ l. Some l) pending) (c, has, over)
                  | inr (inl running) ↦ may.none_running k.by (life_there (members g) k.by m.0 m.1 ∙ ap (λ l. Some l) running) (c, has, over)
                  | inr (inr ended) ↦
                      let was : state_of (members f) k.by ≡ Some Ended =
                      sym (x.turn.others k.by n) ∙ life_there (members g) k.by m.0 m.1 ∙ ap (λ l. Some l) ended in
                      let before : row < k.by = omega (arith, k.from, n) in
                      let first : state_of (members f) row ≡ Some Ended = earlier_ended f.program f.log tables.run row k.by c before
                      (over_before f g row Running Ended x row c its) k.has
                      (λ e. let z : Some Ended ≡ Some Pending = sym was ∙ e in cc) in
                      (let z : Some Running ≡ Some Ended = sym x.turn.had ∙ first in cc)
                ])
          ]
    ]

tables_released : (f g : Following) (t : Tables) (row : ℕ) → Turned f g row Running Ended → AreTablesOf f t → AreTablesOf g (released t row)
tables_released f g t row x tables = record {
  run = x.run;
  rows = length-set t.next row [] ∙ tables.rows ∙ sym x.turn.many;
  cowns = tables.cowns ∙ ap (λ (p : Program). cown_count p.cowns) (sym x.spawns.program);
  chained = chain_released (IsOver g) (IsUnended f) (IsUnended g) t row
      (same_over (IsOver f) (IsOver g) (IsUnended f) t (over_still f g row Running Ended x) (over_before f g row Running Ended x) tables.chained)
      (λ r d h v.
      let apart : r ≢ row = λ q. v (ap (state_of (members g)) q ∙ x.turn.has) in
      ((λ e. v (x.turn.others r apart ∙ e)), apart))
      (λ r d low h its v. v (earlier_ended g.program g.log x.run r row d low h its
      (λ e. let z : Some Ended ≡ Some Pending = sym x.turn.has ∙ e in cc)));
}

-- a row that has ended
has_ended : (old f g : Following) (t : Tables) (row : ℕ) (others : List ℕ) → Tried old t row others f → Turned f g row Running Ended
    → Settles old g (released t row) (others ++ next_after t.next row)
has_ended old f g t row others x now = record {
  tables = tables_released f g t row now x.tables;
  spawns = spawns_none old f g x.spawns now.spawns;
  rest = λ r not.
      elim (same_or_not r row) [
        | inl e ↦ subst (λ (z : ℕ). Rests g z) (sym e) (record {
          held = λ may. (let z : Some Ended ≡ Some Pending = sym now.turn.has ∙ may.waits in cc);
          wishes = λ runs. absurd (let z : Some Ended ≡ Some Running = sym now.turn.has ∙ runs in cc);
        })
        | inr apart ↦ rests_on f g row Running Ended now r apart (λ may.
            could_start (members f) (members g) row Running Ended now.turn r apart (λ o.
            not (Contains-append_right others (next_after t.next row) r (comes_next f g t row now x.tables r apart may o.0 o.1 o.2))) may)
            (x.rest r apart (λ h. not (Contains-append_left others (next_after t.next row) r h)))
      ];
}

-- a row ends by an event
end_turns : (f g : Following) (row : ℕ) → IsRun f.program f.log → HasEnded f row g → Turned f g row Running Ended
end_turns f g row run h =
    let u = h.ends.underway in
    let e : Event = End row u.means.ticks u.means.status h.ends.ends.written in
    let may : MayHappen f.program (config_of f.program f.log) e = subst (MayHappen f.program (config_of f.program f.log)) h.ends.ends.is h.may in
    let over : Member → Member = λ z. record z { life = Ended } in
    subst (λ (l : Life). Turned f g row l Ended) may.runs
    (turned f g row e over may.member run may (h.longer ∙ ap (longer f) h.ends.ends.is) refl refl may.is refl)

pub ended : (old f g : Following) (t : Tables) (row : ℕ) (others : List ℕ) → Tried old t row others f → GoesOn f row true g
    → Settles old g (released t row) (others ++ next_after t.next row)
ended old f g t row others x h = has_ended old f g t row others x (end_turns f g row x.tables.run h)

-- it is there
pub ended_there : (f g : Following) (t : Tables) (row : ℕ) → AreTablesOf f t → GoesOn f row true g → row < length t.next
ended_there f g t row tables h =
    let now = end_turns f g row tables.run h in
    let m = with_life (members f) row Running now.turn.had in
    omega (arith, tables.rows, place_below (members f) row m.0 m.1)

-- Each order of spawns is that of a run, and each whole order that of a whole run.
use Rattle.std.proofs.Common.{◌≡◌, ◌≢◌, ◌⊎◌, ℕ, zero, suc, ◌+◌, ◌<◌, ◌≤◌, inl, inr, List, [], ◌∷◌, ◌++◌, length, refl, sym, ◌∙◌, ap, subst, arith, length-append, append-nil, append_assoc}
use Rattle.std.specs.Prelude.{slice_get, Option, Some, None}
use Rattle.std.specs.Option.{option_map_or}
use Rattle.std.specs.List.{Contains}
use Rattle.std.proofs.lemmas.Bool.{cases_lt}
use Rattle.boc_program.specs.declared.limits.TheConstants.{MOST_ROWS}
use Rattle.boc_program.specs.declared.program.Program.{Program}
use Rattle.boc_program.specs.Changed.{changed}
use Rattle.boc_program.specs.Meaning.{Wish, Meaning}
use Rattle.boc_program.specs.Rising.{rising}
use Rattle.boc_program.proofs.ChangedItems.{place_below, item_at}
use Rattle.boc_runs.specs.declared.event.Event.{Event}
use Rattle.boc_runs.specs.declared.event.Event.TheVariants.{Spawn, Start, End}
use Rattle.boc_runs.specs.Lives.{Life, Pending, Running, Ended, Overlap, MayStart}
use Rattle.boc_runs.specs.Serial.{SerialRow, wish_of_row, children, after_turn, after_turns, serial_along}
use Rattle.boc_runs.specs.Run.{Member, Config, started_on, meaning_of, wish_at, next_wish, config_after, config_of, opening, state_of, member_cowns}
use Rattle.boc_runs.specs.Run.{MaySpawn, SpawnsWish, CanEnd, MayHappen, IsRun, IsWholeRun}
use Rattle.boc_runs.specs.machine.Queues.{times}
use Rattle.boc_runs.specs.machine.AlongRows.{parents_of_rows}
use Rattle.boc_runs.proofs.OwnOrders.{along_more, rows_done}
use Rattle.boc_machine_laws.proofs.Lists.{same_or_not, times-here, times-other}
use Rattle.boc_machine_laws.proofs.Members.{all_fit, means_there}
use Rattle.boc_machine_laws.proofs.Rows.{with_life, life_there, config_more, run_more, may_spawn}
use Rattle.boc_machine_laws.proofs.SerialEnd.{means_same}
use Rattle.boc_machine_laws.proofs.Starts.{times_contains}
use Rattle.boc_machine_laws.proofs.Twins.{rows_along, Follows, running_not_pending, read_changed}
use Rattle.boc_fronts.specs.Orders.{others_of, HasWish, cowns_at, IsOrdered, IsBefore, Next, Farther, CanSpawn, IsNextParent, IsOrderFrom, IsOrder, IsWholeOrder}
use Rattle.boc_fronts.specs.Settled.{Waits, Settled}
use Rattle.boc_fronts.proofs.AlongLogs.{parents_on, parents_one}
use Rattle.boc_fronts.proofs.Orderly.{others_are, Orderly, run_is_orderly, wish_below, wish_there, none_of_ended, cowns_are}
use Rattle.boc_fronts.proofs.Layers.{next_can}

-- ---- lists

-- two lists have an item in common, or none
shared_or_not : (xs ys : List ℕ) → ((d : ℕ) × (0 < times d xs) × (0 < times d ys)) ⊎ ((d : ℕ) → 0 < times d xs → 0 < times d ys → ⊥)
shared_or_not [] ys = inr (λ d h k. absurd (omega (arith, h)))
shared_or_not (x ∷ xs) ys =
    elim (same_or_not (times x ys) 0) [
      | inr some ↦ inl (x, omega (arith, times-here x xs), omega (arith, some))
      | inl none ↦ elim (shared_or_not xs ys) [
        | inl h ↦ inl (h.0, more h.0 h.1, h.2)
        | inr apart ↦ inr (λ d h k. elim (same_or_not x d) [
          | inl e ↦ omega (arith, k, none, ap (λ z. times z ys) e)
          | inr n ↦ apart d (omega (arith, h, times-other d x xs n)) k
        ])
      ]
    ]
  where
    more : (d : ℕ) → 0 < times d xs → 0 < times d (x ∷ xs)
    more d h =
        elim (same_or_not x d) [
          | inl e ↦ subst (λ (z : ℕ). 0 < times z (x ∷ xs)) e (omega (arith, times-here x xs))
          | inr n ↦ omega (arith, h, times-other d x xs n)
        ]

pub life_cases : (l : Life) → (l ≡ Pending) ⊎ ((l ≡ Running) ⊎ (l ≡ Ended))
life_cases Pending = inl refl
life_cases Running = inr (inl refl)
life_cases Ended = inr (inr refl)

some_or_none : {A : Type 0} (o : Option A) → ((x : A) × (o ≡ Some x)) ⊎ (o ≡ None)
some_or_none None = inr refl
some_or_none (Some x) = inl (x, refl)

past_none : {A : Type 0} (xs : List A) (i : ℕ) → slice_get xs i ≡ None → length xs ≤ i
past_none xs i e =
    elim (cases_lt i (length xs)) [
      | inr past ↦ past
      | inl low ↦ let x = item_at xs i low in absurd (let f : None ≡ Some x.0 = sym e ∙ x.1 in cc)
    ]

-- ---- a run in which rows up to a place are settled

-- a run whose rows have these parents, and of which so many rows are settled
pub record Played (p : Program) (ps : List ℕ) (n : ℕ) : Type 0 where
  pub log : List Event
  pub run : IsRun p log
  pub parents : parents_of_rows log ≡ ps
  pub settled : (r : ℕ) → r < n → Settled (rows_along p ps) (config_of p log).members r

pub orderly : (p : Program) (ps : List ℕ) (n : ℕ) (x : Played p ps n) → Orderly p (config_of p x.log) ps
orderly p ps n x = subst (λ qs. Orderly p (config_of p x.log) qs) x.parents (run_is_orderly p x.log x.run)

module _ (p : Program) (ps : List ℕ) (r : ℕ) (x : Played p ps r) where
  abbrev pub c : Config
  c = config_of p x.log

  abbrev pub rows : List SerialRow
  rows = rows_along p ps

  pub follows : Follows p c ps
  follows = (orderly p ps r x).follows

  -- one event more, which changes this row alone
  pub one_more : (e : Event) (g : Member → Member) → MayHappen p c e → parents_on ps e ≡ ps
      → (config_after p c e).members ≡ changed c.members r g (slice_get c.members r) → Played p ps r
  one_more e g may same changes = record {
    log = x.log ++ (e ∷ []);
    run = run_more p (opening p) x.log e x.run may;
    parents = parents_one x.log e ∙ ap (λ qs. parents_on qs e) x.parents ∙ same;
    settled = λ q low.
        let members : (config_of p (x.log ++ (e ∷ []))).members ≡ changed c.members r g (slice_get c.members r) =
        ap (λ (d : Config). d.members) (config_more p (opening p) x.log e) ∙ changes in
        let was : (m : Member) → slice_get (config_of p (x.log ++ (e ∷ []))).members q ≡ Some m → slice_get c.members q ≡ Some m =
        λ m there. elim (read_changed c.members r g q m (sym (ap (λ ms. slice_get ms q) members) ∙ there)) [
          | inl h ↦ absurd (omega (arith, h.0, low))
          | inr h ↦ h.1
        ] in
        record {
          pending = λ m there life. (x.settled q low).pending m (was m there) life;
          running = λ m there life. (x.settled q low).running m (was m there) life;
        };
  }

  pub one_more_log : (e : Event) (g : Member → Member) (may : MayHappen p c e) (same : parents_on ps e ≡ ps)
      (changes : (config_after p c e).members ≡ changed c.members r g (slice_get c.members r)) → (one_more e g may same changes).log ≡ x.log ++ (e ∷ [])
  unfolding one_more
  one_more_log e g may same changes = refl

  -- this row is settled too
  pub one_settled : Settled rows c.members r → Played p ps (suc r)
  one_settled now = record {
    log = x.log;
    run = x.run;
    parents = x.parents;
    settled = λ q low.
        elim (cases_lt q r) [
          | inl h ↦ x.settled q h
          | inr h ↦ (let e : r ≡ q = omega (arith, h, low) in subst (λ (z : ℕ). Settled rows c.members z) e now)
        ];
  }

  -- a running row without a wish can end
  can_end : (m : Member) → slice_get c.members r ≡ Some m → m.life ≡ Running
      → wish_of_row (slice_get rows r) (children r (others_of rows)) ≡ None
      → (means : Meaning) × CanEnd p c.members r means.ticks means.status means.written
  can_end m there runs none =
      let fits = all_fit p x.log x.run r m there in
      let means = means_there p m fits in
      let t = follows.twins r m there in
      let same : t.row.means ≡ means.0 = means_same p ps r m means.0 t (running_not_pending m.life runs) means.1 in
      let kids : m.spawned ≡ children r (others_of rows) = t.spawned_is ∙ ap (children r) (sym (others_are rows)) in
      let past : length means.0.wishes ≤ m.spawned = past_none means.0.wishes m.spawned
      (ap (λ (z : Meaning). slice_get z.wishes m.spawned) (sym same) ∙ ap (slice_get t.row.means.wishes) kids
      ∙ sym (ap (λ o. wish_of_row o (children r (others_of rows))) t.is) ∙ none) in (
        means.0,
        record {
          member = m;
          is = there;
          runs = runs;
          means = means.0;
          meant = means.1;
          all_spawned = omega (arith, past, fits.spent means.0 means.1);
          ticks_are = refl;
          status_is = refl;
          written_is = refl;
        },
      )

  -- a row that shares a cown with this one
  abbrev pub Shares : ℕ → Type 0
  Shares a = (d : ℕ) × (0 < times d (cowns_at rows a)) × (0 < times d (cowns_at rows r))

  -- of the rows up to a place one that shares a cown with this one has not ended, or all that do have
  pub open_or_not : (n : ℕ) → n ≤ length c.members
      → ((a : ℕ) × (m : Member) × (a < n) × (slice_get c.members a ≡ Some m) × (m.life ≢ Ended) × Shares a)
      ⊎ ((a : ℕ) (m : Member) → a < n → slice_get c.members a ≡ Some m → Shares a → m.life ≡ Ended)
  open_or_not zero few = inr (λ a m low there s. absurd (omega (arith, low)))
  open_or_not (suc n) few =
      elim (open_or_not n (omega (arith, few))) [
        | inl h ↦ inl (h.0, h.1, omega (arith, h.2), h.3, h.4, h.5)
        | inr all ↦
            let m = item_at c.members n (omega (arith, few)) in
            let rest : ((m.0.life ≡ Ended) ⊎ (Shares n → ⊥)) → (a : ℕ) (z : Member) → a < suc n → slice_get c.members a ≡ Some z → Shares a
            → z.life ≡ Ended = λ over a z low there s.
            elim (cases_lt a n) [
              | inl h ↦ all a z h there s
              | inr h ↦
                  let e : a ≡ n = omega (arith, h, low) in
                  let same : m.0 ≡ z = (let f : Some m.0 ≡ Some z = sym m.1 ∙ sym (ap (slice_get c.members) e) ∙ there in cc) in
                  elim over [
                    | inl ended ↦ ap (λ (y : Member). y.life) (sym same) ∙ ended
                    | inr apart ↦ absurd (apart (subst (λ (y : ℕ). Shares y) e s))
                  ]
            ] in
            elim (life_cases m.0.life) [
              | inr (inr ended) ↦ inr (rest (inl ended))
              | inl pending ↦ elim (shared_or_not (cowns_at rows n) (cowns_at rows r)) [
                | inl s ↦ inl (n, m.0, omega arith, m.1, (λ e. let f : Pending ≡ Ended = sym pending ∙ e in cc), s)
                | inr apart ↦ inr (rest (inr (λ s. apart s.0 s.1 s.2)))
              ]
              | inr (inl running) ↦ elim (shared_or_not (cowns_at rows n) (cowns_at rows r)) [
                | inl s ↦ inl (n, m.0, omega arith, m.1, (λ e. let f : Running ≡ Ended = sym running ∙ e in cc), s)
                | inr apart ↦ inr (rest (inr (λ s. apart s.0 s.1 s.2)))
              ]
            ]
      ]

  -- where an earlier row over one of its cowns has not ended, this one waits
  pub waits : (a : ℕ) (m : Member) → a < r → slice_get c.members a ≡ Some m → m.life ≢ Ended → Shares a → Waits rows r
  waits a m low there unended s =
      let o : IsOrdered rows a r = record { earlier = low; cown = s.0; has = s.1; has_too = s.2 } in
      elim (life_cases m.life) [
        | inl pending ↦
            let w = (x.settled a low).pending m there pending in
            record { earlier = w.earlier; before = Farther w.earlier a r w.before o; wishes = w.wishes }
        | inr (inl running) ↦ record { earlier = a; before = Next a r o; wishes = (x.settled a low).running m there running }
        | inr (inr ended) ↦ absurd (unended ended)
      ]

  -- cowns of members that overlap are shared
  overlap_shares : (m n : Member) (a : ℕ) → slice_get c.members r ≡ Some m → slice_get c.members a ≡ Some n
      → Overlap (member_cowns c.members) r a → Shares a
  overlap_shares m n a there other o =
      let mine : member_cowns c.members r ≡ cowns_at rows r =
      ap (λ z. option_map_or (λ (y : Member). y.behaviour.cowns) z []) there ∙ sym (cowns_are p c ps follows r m there) in
      let its : member_cowns c.members a ≡ cowns_at rows a =
      ap (λ z. option_map_or (λ (y : Member). y.behaviour.cowns) z []) other ∙ sym (cowns_are p c ps follows a n other) in (
        o.0,
        times_contains (cowns_at rows a) o.0 (subst (λ cs. Contains cs o.0) its o.2),
        times_contains (cowns_at rows r) o.0 (subst (λ cs. Contains cs o.0) mine o.1),
      )

  -- a pending row can start once the earlier ones over its cowns have ended
  pub can_start : (m : Member) → slice_get c.members r ≡ Some m → m.life ≡ Pending
      → ((a : ℕ) (n : Member) → a < r → slice_get c.members a ≡ Some n → Shares a → n.life ≡ Ended)
      → MayStart (state_of c.members) (member_cowns c.members) r
  can_start m there pending over = record {
    waits = life_there c.members r m there ∙ ap (λ l. Some l) pending;
    none_running = λ other runs o.
        let n = with_life c.members other Running runs in
        let s = overlap_shares m n.0 other there n.1 o in
        elim (cases_lt other r) [
          | inl low ↦ (let f : Running ≡ Ended = sym n.2 ∙ over other n.0 low n.1 s in cc)
          | inr high ↦ elim (same_or_not other r) [
            | inl e ↦ (let f : Some Running ≡ Some Pending =
                sym runs ∙ ap (state_of c.members) e ∙ life_there c.members r m there ∙ ap (λ l. Some l) pending in cc)
            | inr apart ↦
                let ended : m.life ≡ Ended = follows.ordered r other m n.0 there n.1 (omega (arith, high, apart)) s.0
                (subst (λ cs. 0 < times s.0 cs) (cowns_are p c ps follows r m there) s.2)
                (subst (λ cs. 0 < times s.0 cs) (cowns_are p c ps follows other n.0 n.1) s.1) (running_not_pending n.0.life n.2) in
                (let f : Pending ≡ Ended = sym pending ∙ ended in cc)
          ]
        ];
    none_earlier = λ other low waiting o.
        let n = with_life c.members other Pending waiting in
        (let f : Pending ≡ Ended = sym n.2 ∙ over other n.0 low n.1 (overlap_shares m n.0 other there n.1 o) in cc);
  }

-- the member at a place after an event that changes it
pub now_at : (p : Program) (log : List Event) (e : Event) (r : ℕ) (g : Member → Member) (m : Member)
    → (config_after p (config_of p log) e).members ≡ changed (config_of p log).members r g (slice_get (config_of p log).members r)
    → slice_get (config_of p log).members r ≡ Some m → (n : Member) → slice_get (config_of p (log ++ (e ∷ []))).members r ≡ Some n → g m ≡ n
now_at p log e r g m changes there n is =
    elim (read_changed (config_of p log).members r g r n
    (sym (ap (λ ms. slice_get ms r) (ap (λ (d : Config). d.members) (config_more p (opening p) log e) ∙ changes)) ∙ is)) [
      | inl h ↦
          let same : h.1.0 ≡ m = (let f : Some h.1.0 ≡ Some m = sym h.1.1 ∙ there in cc) in
          ap g (sym same) ∙ h.1.2
      | inr h ↦ absurd (h.0 refl)
    ]

-- a running row goes on until it has a wish, or has ended
settle_running : (p : Program) (ps : List ℕ) (r : ℕ) (x : Played p ps r) (m : Member) → slice_get (config_of p x.log).members r ≡ Some m
    → m.life ≡ Running → Played p ps (suc r)
settle_running p ps r x m there runs =
    let rows = rows_along p ps in
    let c = config_of p x.log in
    elim (some_or_none (wish_of_row (slice_get rows r) (children r (others_of rows)))) [
      | inl wish ↦ one_settled p ps r x (record {
        pending = λ n is pending.
            absurd (let f : Some n ≡ Some m = sym is ∙ there in let same : n ≡ m = cc in
            let g : Pending ≡ Running = sym pending ∙ ap (λ (z : Member). z.life) same ∙ runs in cc);
        running = λ n is life. record { wish = wish.0; next = wish.1 };
      })
      | inr none ↦
          let end = can_end p ps r x m there runs none in
          let e : Event = End r end.0.ticks end.0.status (record { items = end.0.written }) in
          let y = one_more p ps r x e (λ z. record z { life = Ended }) end.1 refl refl in
          let q = one_more_log p ps r x e (λ z. record z { life = Ended }) end.1 refl refl in
          let over : (n : Member) → slice_get (config_of p y.log).members r ≡ Some n → n.life ≡ Ended =
          λ n is. sym (ap (λ (z : Member). z.life) (now_at p x.log e r (λ z. record z { life = Ended }) m refl there n
          (ap (λ log. slice_get (config_of p log).members r) (sym q) ∙ is))) in
          one_settled p ps r y (record {
            pending = λ n is pending. absurd (let g : Pending ≡ Ended = sym pending ∙ over n is in cc);
            running = λ n is running. absurd (let g : Running ≡ Ended = sym running ∙ over n is in cc);
          })
    ]

settle_pending : (p : Program) (ps : List ℕ) (r : ℕ) (x : Played p ps r) (m : Member) → slice_get (config_of p x.log).members r ≡ Some m
    → m.life ≡ Pending → Played p ps (suc r)
settle_pending p ps r x m there pending =
    let c = config_of p x.log in
    elim (open_or_not p ps r x r (omega (arith, place_below c.members r m there))) [
      | inl h ↦ one_settled p ps r x (record {
        pending = λ n is life. waits p ps r x h.0 h.1 h.2 h.3 h.4 h.5;
        running = λ n is runs.
            absurd (let f : Some n ≡ Some m = sym is ∙ there in let same : n ≡ m = cc in
            let g : Running ≡ Pending = sym runs ∙ ap (λ (z : Member). z.life) same ∙ pending in cc);
      })
      | inr over ↦
          let may = can_start p ps r x m there pending over in
          let y = one_more p ps r x (Start r) (started_on c.values) may refl refl in
          let q = one_more_log p ps r x (Start r) (started_on c.values) may refl refl in
          let n = item_at (config_of p y.log).members r
          (omega (arith, place_below c.members r m there, (follows p ps r x).same, (follows p ps r y).same)) in
          let runs : n.0.life ≡ Running =
          sym (ap (λ (z : Member). z.life) (now_at p x.log (Start r) r (started_on c.values) m refl there n.0
          (ap (λ log. slice_get (config_of p log).members r) (sym q) ∙ n.1))) in
          settle_running p ps r y n.0 n.1 runs
    ]

settle_row : (p : Program) (ps : List ℕ) (r : ℕ) (x : Played p ps r) → r < length ps → Played p ps (suc r)
settle_row p ps r x low =
    let c = config_of p x.log in
    let m = item_at c.members r (omega (arith, low, (follows p ps r x).same)) in
    elim (life_cases m.0.life) [
      | inl pending ↦ settle_pending p ps r x m.0 m.1 pending
      | inr (inl running) ↦ settle_running p ps r x m.0 m.1 running
      | inr (inr ended) ↦
          let over : (n : Member) → slice_get c.members r ≡ Some n → n.life ≡ Ended =
          λ n is. (let f : Some m.0 ≡ Some n = sym m.1 ∙ is in let same : m.0 ≡ n = cc in
          ap (λ (z : Member). z.life) (sym same) ∙ ended) in
          one_settled p ps r x (record {
            pending = λ n is pending. absurd (let g : Pending ≡ Ended = sym pending ∙ over n is in cc);
            running = λ n is running. absurd (let g : Running ≡ Ended = sym running ∙ over n is in cc);
          })
    ]

settle_all : (p : Program) (ps : List ℕ) (n : ℕ) → n ≤ length ps → Played p ps 0 → Played p ps n
settle_all p ps zero few x = x
settle_all p ps (suc n) few x = settle_row p ps n (settle_all p ps n (omega (arith, few)) x) (omega (arith, few))

-- ---- one spawn more

pub main_may : (p : Program) (ms : List Member) → length ms ≡ 0 → MaySpawn p ms 0 0 []
main_may p [] none = (refl, refl, refl)
main_may p (m ∷ ms) none = absurd (omega (arith, none))

-- a row that can spawn runs, and its next wish is that of its row in the serial run
pub spawns : (p : Program) (ps : List ℕ) (x : Played p ps (length ps)) (r : ℕ) (can : CanSpawn (rows_along p ps) r)
    → SpawnsWish p (config_of p x.log).members r can.wishes.wish.offset (rising can.wishes.wish.cowns)
spawns p ps x r can =
    let rows = rows_along p ps in
    let c = config_of p x.log in
    let o = orderly p ps (length ps) x in
    let low : r < length ps = omega (arith, wish_below rows r can.wishes, rows_done p ps) in
    let m = item_at c.members r (omega (arith, low, o.follows.same)) in
    let runs : m.0.life ≡ Running = elim (life_cases m.0.life) [
      | inl pending ↦ let w = (x.settled r low).pending m.0 m.1 pending in absurd (can.free w.earlier w.before w.wishes)
      | inr (inl running) ↦ running
      | inr (inr ended) ↦ absurd (none_of_ended p c ps o.follows o.spawned r m.0 m.1 ended can.wishes)
    ] in
    let t = o.follows.twins r m.0 m.1 in
    let means = means_there p m.0 (all_fit p x.log x.run r m.0 m.1) in
    let same : t.row.means ≡ means.0 = means_same p ps r m.0 means.0 t (running_not_pending m.0.life runs) means.1 in
    record {
      runs = life_there c.members r m.0 m.1 ∙ ap (λ l. Some l) runs;
      wish = can.wishes.wish;
      next = ap (next_wish p) m.1 ∙ ap (λ z. wish_at z m.0.spawned) means.1
          ∙ ap (λ (z : Meaning). slice_get z.wishes m.0.spawned) (sym same) ∙ wish_there p c ps o.follows r m.0 m.1 can.wishes;
      offset_is = refl;
      cowns_are = refl;
    }

spawned_by_event : (p : Program) (ps : List ℕ) (x : Played p ps (length ps)) (r : ℕ) (e : Event) → MayHappen p (config_of p x.log) e
    → parents_on ps e ≡ ps ++ (r ∷ []) → Played p (ps ++ (r ∷ [])) 0
spawned_by_event p ps x r e may more = record {
  log = x.log ++ (e ∷ []);
  run = run_more p (opening p) x.log e x.run may;
  parents = parents_one x.log e ∙ ap (λ qs. parents_on qs e) x.parents ∙ more;
  settled = λ q low. absurd (omega (arith, low));
}

play_one : (p : Program) (ps : List ℕ) (r : ℕ) (x : Played p ps (length ps)) → IsNextParent (rows_along p ps) r → length ps < MOST_ROWS
    → Played p (ps ++ (r ∷ [])) 0
play_one p [] r x next few =
    let c = config_of p x.log in
    let none : length c.members ≡ 0 = sym (orderly p [] 0 x).follows.same in
    let e : Event = Spawn (length c.members) 0 0 (record { items = [] }) in
    spawned_by_event p [] x r e (refl, omega (arith, none), main_may p c.members none) (ap (λ z. z ∷ []) (sym next))
play_one p (q ∷ ps) r x next few =
    let qs = q ∷ ps in
    let c = config_of p x.log in
    let same = (orderly p qs (length qs) x).follows.same in
    let can = next_can (rows_along p qs) r (omega (arith, rows_done p qs)) next in
    let e : Event = Spawn (length c.members) r can.wishes.wish.offset (record { items = rising can.wishes.wish.cowns }) in
    spawned_by_event p qs x r e (
      refl,
      omega (arith, same, few),
      may_spawn p c.members r can.wishes.wish.offset (rising can.wishes.wish.cowns) (omega (arith, same)) (spawns p qs x r can),
    ) refl

play_from : (p : Program) (done rest : List ℕ) → Played p done (length done) → IsOrderFrom p (serial_along p done) rest
    → length done + length rest ≤ MOST_ROWS → Played p (done ++ rest) (length (done ++ rest))
play_from p done [] x order few =
    subst (λ (qs : List ℕ). Played p qs (length qs)) (sym (append-nil done)) x
play_from p done (r ∷ rest) x order few =
    let more = done ++ (r ∷ []) in
    let one = settle_all p more (length more) (omega arith) (play_one p done r x order.0 (omega (arith, few))) in
    subst (λ (qs : List ℕ). Played p qs (length qs)) (append_assoc done (r ∷ []) rest)
    (play_from p more rest one (subst (λ s. IsOrderFrom p s rest) (sym (along_more p (serial_along p []) done r)) order.1)
    (omega (arith, few, length-append done (r ∷ []))))

nothing_played : (p : Program) → Played p [] 0
nothing_played p = record { log = []; run = tt; parents = refl; settled = λ r low. absurd (omega (arith, low)) }

played : (p : Program) (ps : List ℕ) → IsOrder p ps → length ps ≤ MOST_ROWS → Played p ps (length ps)
played p ps order few = play_from p [] ps (nothing_played p) order (omega (arith, few))

-- an order of spawns is that of a run
pub orders_make_runs : (p : Program) (ps : List ℕ) → IsOrder p ps → length ps ≤ MOST_ROWS → (log : List Event) × IsRun p log × (parents_of_rows log ≡ ps)
orders_make_runs p ps order few = let x = played p ps order few in (x.log, x.run, x.parents)

-- a whole order is that of a whole run
pub whole_orders_make_runs : (p : Program) (ps : List ℕ) → IsWholeOrder p ps → (log : List Event) × IsWholeRun p log × (parents_of_rows log ≡ ps)
whole_orders_make_runs p ps whole =
    let x = played p ps whole.order whole.few in
    let c = config_of p x.log in
    let same = (orderly p ps (length ps) x).follows.same in (
      x.log,
      record {
        run = x.run;
        over = record {
          some = omega (arith, same, whole.some);
          ended = λ r low.
              let m = item_at c.members r low in
              let settled = x.settled r (omega (arith, low, same)) in
              life_there c.members r m.0 m.1 ∙ ap (λ l. Some l) (elim (life_cases m.0.life) [
                | inl pending ↦ let w = settled.pending m.0 m.1 pending in absurd (whole.none_left w.earlier w.wishes)
                | inr (inl running) ↦ absurd (whole.none_left r (settled.running m.0 m.1 running))
                | inr (inr ended) ↦ ended
              ]);
        };
      },
      x.parents,
    )

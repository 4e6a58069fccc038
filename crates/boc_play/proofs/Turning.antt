-- A row of a run starts or ends, and what of the other rows stays.
use Rattle.std.proofs.Common.{◌≡◌, ◌≢◌, ◌⊎◌, ℕ, ◌+◌, ◌<◌, ◌≤◌, inl, inr, List, [], ◌∷◌, ◌++◌, length, refl, sym, ◌∙◌, ap, subst, arith, length-append}
use Rattle.std.specs.Prelude.{slice_get, Some, None, option_map}
use Rattle.std.specs.List.{Contains}
use Rattle.std.specs.Option.{option_map_or}
use Rattle.std.proofs.lemmas.Bool.{cases_lt}
use Rattle.boc_program.specs.declared.program.Program.{Program}
use Rattle.boc_program.specs.Changed.{changed}
use Rattle.boc_program.proofs.ChangedItems.{place_below, item_at, none_past, last_item, front_item, length-changed}
use Rattle.boc_runs.specs.declared.event.Event.{Event}
use Rattle.boc_runs.specs.Lives.{Life, Pending, Running, Ended, Overlap, MayStart}
use Rattle.boc_runs.specs.Run.{Member, config_of, state_of, member_cowns, IsRun}
use Rattle.boc_runs.specs.machine.AlongRows.{parents_of_rows}
use Rattle.boc_machine_laws.proofs.Lists.{same_or_not}
use Rattle.boc_machine_laws.proofs.Rows.{changed_same, changed_other, life_there, with_life}
use Rattle.boc_machine_laws.proofs.Starts.{times_contains}
use Rattle.boc_fronts.proofs.Orderly.{run_is_orderly}
use Rattle.boc_fronts.proofs.OrdersRun.{life_cases}

-- ---- one row changes

-- one row lives on, and the others and all cowns stay
pub record OneTurn (old new : List Member) (row : ℕ) (was is : Life) : Type 0 where
  pub had : state_of old row ≡ Some was
  pub has : state_of new row ≡ Some is
  pub others : (r : ℕ) → r ≢ row → state_of new r ≡ state_of old r
  pub cowns : (r : ℕ) → member_cowns new r ≡ member_cowns old r
  pub many : length new ≡ length old

pub one_turn : (ms : List Member) (row : ℕ) (g : Member → Member) (m : Member) → slice_get ms row ≡ Some m
    → (g m).behaviour ≡ m.behaviour → OneTurn ms (changed ms row g (slice_get ms row)) row m.life (g m).life
one_turn ms row g m is same =
    let new = changed ms row g (slice_get ms row) in
    let there : slice_get new row ≡ Some (g m) = changed_same ms row g ∙ ap (option_map g) is in
    record {
      had = life_there ms row m is;
      has = life_there new row (g m) there;
      others = λ r apart. ap (option_map (λ (z : Member). z.life)) (changed_other ms row r g (slice_get ms row) apart);
      cowns = λ r.
          elim (same_or_not r row) [
            | inl e ↦ subst (λ (z : ℕ). member_cowns new z ≡ member_cowns ms z) (sym e)
                (ap (λ o. option_map_or (λ (z : Member). z.behaviour.cowns) o []) there ∙ ap (λ b. b.cowns) same
                ∙ sym (ap (λ o. option_map_or (λ (z : Member). z.behaviour.cowns) o []) is))
            | inr apart ↦ ap (λ o. option_map_or (λ (z : Member). z.behaviour.cowns) o []) (changed_other ms row r g (slice_get ms row) apart)
          ];
      many = length-changed ms row g (slice_get ms row);
    }

pub still_overlap : (old new : List Member) → ((r : ℕ) → member_cowns new r ≡ member_cowns old r) → (a b : ℕ)
    → Overlap (member_cowns old) a b → Overlap (member_cowns new) a b
still_overlap old new same a b o = (
  o.0,
  subst (λ (cs : List ℕ). Contains cs o.0) (sym (same a)) o.1,
  subst (λ (cs : List ℕ). Contains cs o.0) (sym (same b)) o.2,
)

-- what may start after one row has started or ended, over other cowns, could start before
pub could_start : (old new : List Member) (row : ℕ) (was is : Life) → OneTurn old new row was is → (r : ℕ) → r ≢ row
    → (Overlap (member_cowns new) r row → ⊥) → MayStart (state_of new) (member_cowns new) r → MayStart (state_of old) (member_cowns old) r
could_start old new row was is t r apart none may = record {
  waits = sym (t.others r apart) ∙ may.waits;
  none_running = λ other runs o.
      let p = still_overlap old new t.cowns r other o in
      elim (same_or_not other row) [
        | inl e ↦ none (subst (λ (z : ℕ). Overlap (member_cowns new) r z) e p)
        | inr n ↦ may.none_running other (t.others other n ∙ runs) p
      ];
  none_earlier = λ other low waiting o.
      let p = still_overlap old new t.cowns r other o in
      elim (same_or_not other row) [
        | inl e ↦ none (subst (λ (z : ℕ). Overlap (member_cowns new) r z) e p)
        | inr n ↦ may.none_earlier other low (t.others other n ∙ waiting) p
      ];
}

-- ---- the order of rows over a cown

cown_of : (ms : List Member) (r c : ℕ) (m : Member) → slice_get ms r ≡ Some m → Contains (member_cowns ms r) c → Contains m.behaviour.cowns c
cown_of ms r c m is h = subst (λ (cs : List ℕ). Contains cs c) (ap (λ o. option_map_or (λ (z : Member). z.behaviour.cowns) o []) is) h

-- a row with a cown is there
pub has_there : (ms : List Member) (r c : ℕ) → Contains (member_cowns ms r) c → r < length ms
has_there ms r c h =
    elim (cases_lt r (length ms)) [
      | inl low ↦ low
      | inr past ↦
          let none : Contains [] c = subst (λ (cs : List ℕ). Contains cs c)
          (ap (λ o. option_map_or (λ (z : Member). z.behaviour.cowns) o []) (none_past ms r past)) h in
          absurd (omega (arith, none.1))
    ]

-- of two rows over a cown the earlier one has ended, unless the later one is pending
pub earlier_ended : (p : Program) (log : List Event) → IsRun p log → (a b c : ℕ) → a < b → Contains (member_cowns (config_of p log).members a) c
    → Contains (member_cowns (config_of p log).members b) c → (state_of (config_of p log).members b ≡ Some Pending → ⊥)
    → state_of (config_of p log).members a ≡ Some Ended
earlier_ended p log run a b c low ha hb begun =
    let ms = (config_of p log).members in
    let m = item_at ms a (has_there ms a c ha) in
    let n = item_at ms b (has_there ms b c hb) in
    let ended : m.0.life ≡ Ended = (run_is_orderly p log run).follows.ordered a b m.0 n.0 m.1 n.1 low c
    (times_contains m.0.behaviour.cowns c (cown_of ms a c m.0 m.1 ha)) (times_contains n.0.behaviour.cowns c (cown_of ms b c n.0 n.1 hb))
    (λ e. begun (life_there ms b n.0 n.1 ∙ ap (λ l. Some l) e)) in
    life_there ms a m.0 m.1 ∙ ap (λ l. Some l) ended

-- ---- one row more

pub record OneMore (old new : List Member) : Type 0 where
  pub others : (r : ℕ) → r ≢ length old → state_of new r ≡ state_of old r
  pub cowns : (r : ℕ) → r ≢ length old → member_cowns new r ≡ member_cowns old r
  pub many : length new ≡ length old + 1

past_or_not : (old : List Member) (x : Member) (r : ℕ) → r ≢ length old → slice_get (old ++ (x ∷ [])) r ≡ slice_get old r
past_or_not old x r apart =
    elim (cases_lt r (length old)) [
      | inl low ↦ front_item old x r low
      | inr past ↦ none_past (old ++ (x ∷ [])) r (omega (arith, past, apart, length-append old (x ∷ []))) ∙ sym (none_past old r past)
    ]

pub one_more : (old : List Member) (parent : ℕ) (g : Member → Member) (x : Member) → ((m : Member) → (g m).behaviour ≡ m.behaviour)
    → ((m : Member) → (g m).life ≡ m.life) → OneMore old (changed old parent g (slice_get old parent) ++ (x ∷ []))
one_more old parent g x same lives =
    let mid = changed old parent g (slice_get old parent) in
    let many : length mid ≡ length old = length-changed old parent g (slice_get old parent) in
    record {
      others = λ r apart. ap (option_map (λ (z : Member). z.life)) (past_or_not mid x r (λ e. apart (e ∙ many))) ∙ life_of r;
      cowns = λ r apart. ap (λ o. option_map_or (λ (z : Member). z.behaviour.cowns) o []) (past_or_not mid x r (λ e. apart (e ∙ many))) ∙ cowns_of r;
      many = omega (arith, many, length-append mid (x ∷ []));
    }
  where
    life_now : (r : ℕ) → state_of (changed old r g (slice_get old r)) r ≡ state_of old r
    life_now r =
        elim (cases_lt r (length old)) [
          | inl low ↦
              let m = item_at old r low in
              ap (option_map (λ (z : Member). z.life)) (changed_same old r g ∙ ap (option_map g) m.1) ∙ ap (λ l. Some l) (lives m.0) ∙ sym (life_there old r m.0 m.1)
          | inr past ↦ ap (λ o. state_of (changed old r g o) r) (none_past old r past)
        ]

    life_of : (r : ℕ) → state_of (changed old parent g (slice_get old parent)) r ≡ state_of old r
    life_of r =
        elim (same_or_not r parent) [
          | inl e ↦ subst (λ (z : ℕ). state_of (changed old z g (slice_get old z)) r ≡ state_of old r) e (life_now r)
          | inr n ↦ ap (option_map (λ (z : Member). z.life)) (changed_other old parent r g (slice_get old parent) n)
        ]

    cowns_now : (r : ℕ) → member_cowns (changed old r g (slice_get old r)) r ≡ member_cowns old r
    cowns_now r =
        elim (cases_lt r (length old)) [
          | inl low ↦
              let m = item_at old r low in
              ap (λ o. option_map_or (λ (z : Member). z.behaviour.cowns) o []) (changed_same old r g ∙ ap (option_map g) m.1)
              ∙ ap (λ b. b.cowns) (same m.0) ∙ sym (ap (λ o. option_map_or (λ (z : Member). z.behaviour.cowns) o []) m.1)
          | inr past ↦ ap (λ o. member_cowns (changed old r g o) r) (none_past old r past)
        ]

    cowns_of : (r : ℕ) → member_cowns (changed old parent g (slice_get old parent)) r ≡ member_cowns old r
    cowns_of r =
        elim (same_or_not r parent) [
          | inl e ↦ subst (λ (z : ℕ). member_cowns (changed old z g (slice_get old z)) r ≡ member_cowns old r) e (cowns_now r)
          | inr n ↦ ap (λ o. option_map_or (λ (z : Member). z.behaviour.cowns) o []) (changed_other old parent r g (slice_get old parent) n)
        ]

-- an earlier row that may start after a spawn could start before
pub could_start_too : (old new : List Member) → OneMore old new → (r : ℕ) → r ≢ length old
    → MayStart (state_of new) (member_cowns new) r → MayStart (state_of old) (member_cowns old) r
could_start_too old new t r apart may = record {
  waits = sym (t.others r apart) ∙ may.waits;
  none_running = λ other runs o.
      let n = with_life old other Running runs in
      let old_row = earlier other n.0 n.1 in
      may.none_running other (t.others other old_row ∙ runs) (overlap other old_row o);
  none_earlier = λ other low waiting o.
      let n = with_life old other Pending waiting in
      let old_row = earlier other n.0 n.1 in
      may.none_earlier other low (t.others other old_row ∙ waiting) (overlap other old_row o);
}
  where
    earlier : (other : ℕ) (m : Member) → slice_get old other ≡ Some m → other ≢ length old
    earlier other m is e = omega (arith, e, place_below old other m is)

    overlap : (other : ℕ) → other ≢ length old → Overlap (member_cowns old) r other → Overlap (member_cowns new) r other
    overlap other n o = (
      o.0,
      subst (λ (cs : List ℕ). Contains cs o.0) (sym (t.cowns r apart)) o.1,
      subst (λ (cs : List ℕ). Contains cs o.0) (sym (t.cowns other n)) o.2,
    )

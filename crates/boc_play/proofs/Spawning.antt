-- The next row of a run is spawned.
use Rattle.std.proofs.Common.{◌≡◌, ◌≢◌, ℕ, zero, suc, ◌+◌, ◌<◌, ◌≤◌, inl, inr, List, [], ◌∷◌, ◌++◌, length, refl, sym, ◌∙◌, ap, subst, arith, ℤ, length-append}
use Rattle.std.specs.Prelude.{slice_get, nat_eq, All, Option, Some, None}
use Rattle.std.specs.List.{Contains}
use Rattle.std.specs.Option.{option_map_or}
use Rattle.arrayvec.specs.ArrayVec.{ArrayVec}
use Rattle.boc_program.specs.declared.program.Program.{Program}
use Rattle.boc_program.specs.Meaning.{Wish}
use Rattle.boc_program.specs.Programs.{cown_count}
use Rattle.boc_program.specs.Rising.{rising}
use Rattle.boc_program.specs.Signatures.{AllBelow}
use Rattle.boc_program.proofs.ChangedItems.{place_below, item_at, front_item}
use Rattle.boc_runs.specs.declared.event.Event.TheVariants.{Spawn}
use Rattle.boc_runs.specs.Run.{Member, Config, opening, waiting, config_of, config_after, members_after_spawn, state_of, member_cowns, MaySpawn, IsRun}
use Rattle.boc_runs.specs.Serial.{SerialRow, Behaviour, behaviour_of, main_behaviour, wish_of_row, children, next_behaviour, run_at_once, serial_along}
use Rattle.boc_runs.specs.machine.AlongRows.{parents_of_rows, serial_of_log}
use Rattle.boc_runs.proofs.OwnOrders.{along_more, rows_done}
use Rattle.boc_machine_laws.proofs.Core.{one_if}
use Rattle.boc_machine_laws.proofs.Lists.{same_or_not, not_eq}
use Rattle.boc_machine_laws.proofs.Members.{all_fit}
use Rattle.boc_machine_laws.proofs.Rows.{may_spawn, config_more, run_more, with_life, life_there, after_spawn, with_one_more}
use Rattle.boc_runs.specs.Lives.{Running, Ended}
use Rattle.boc_fronts.specs.Orders.{others_of, HasWish, IsNextParent}
use Rattle.boc_fronts.proofs.AlongLogs.{parents_one}
use Rattle.boc_fronts.proofs.Layers.{next_can}
use Rattle.boc_fronts.proofs.Orderly.{wish_below}
use Rattle.boc_fronts.proofs.WishesLeft.{children_now}
use Rattle.boc_fronts.proofs.OrdersRun.{main_may, spawns}
use Rattle.boc_follow.specs.Following.{Following}
use Rattle.boc_follow.specs.Standings.{next_at}
use Rattle.boc_follow.specs.Takes.{MayCome, IsOfRow}
use Rattle.boc_play.specs.Waiting.{Tables, latest_at, with_row, all_linked, AreThere, AreChained}
use Rattle.boc_play.specs.Playing.{CanSpawnNext, HasSpawned, IsLonger, Rests, AllRestBut, IsOver, IsUnended, AreTablesOf, SpawnsNone, SpawnsOne}
use Rattle.boc_play.proofs.Chaining.{AndOver, same_over, other_unended, chain_row, all_many}
use Rattle.boc_play.proofs.Standing.{members, standings, next_spawns, spawns_next}
use Rattle.boc_play.proofs.Settling.{as_played, as_many, rows_of, longer}
use Rattle.boc_play.proofs.Turning.{OneMore, one_more, could_start_too, has_there}

-- a row with a next wish is there
wish_there : (f : Following) (r : ℕ) (w : Wish) → next_at (standings f) r ≡ Some w → 0 < length (members f)
wish_there f r w e =
    let s = next_spawns f r w e in
    let m = with_life (members f) r Running s.runs in
    omega (arith, place_below (members f) r m.0 m.1)

-- the next wish of a row may be spawned
pub wish_may : (f : Following) (row parent offset : ℕ) (cowns : ArrayVec ℕ) (w : Wish) → CanSpawnNext f parent → row ≡ length (members f)
    → next_at (standings f) parent ≡ Some w → offset ≡ w.offset → cowns.items ≡ rising w.cowns → MayCome f (Spawn row parent offset cowns)
wish_may f row parent offset cowns w can is next offset_is cowns_are =
    let p : Program = f.program in
    let many = as_many f (length (parents_of_rows f.log)) can.settled in
    let may : MaySpawn p (members f) parent w.offset (rising w.cowns) =
    may_spawn p (members f) parent w.offset (rising w.cowns) (wish_there f parent w next) (next_spawns f parent w next) in (
      is,
      omega (arith, is, many, can.few),
      subst (λ (cs : List ℕ). MaySpawn p (members f) parent offset cs) (sym cowns_are)
          (subst (λ (n : ℕ). MaySpawn p (members f) parent n (rising w.cowns)) (sym offset_is) may),
    )

-- of a run with rows the next parent has a wish
has_wish : (f : Following) (parent : ℕ) → CanSpawnNext f parent → 0 < length (members f) → next_at (standings f) parent ≡ None → ⊥
has_wish f parent can some none =
    let p : Program = f.program in
    let ps = parents_of_rows f.log in
    let x = as_played f (length ps) can.settled in
    let many = as_many f (length ps) can.settled in
    let next = next_can (serial_of_log p f.log).rows parent (omega (arith, some, many, rows_done p ps)) can.can in
    let s = spawns p ps x parent next in
    let m = with_life (members f) parent Running s.runs in
    (let q : None ≡ Some s.wish = sym none ∙ spawns_next f parent next.wishes.wish.offset (rising next.wishes.wish.cowns) s m.0 m.1 in cc)

-- where no row is there main may be spawned
pub main_comes : (f : Following) (row parent offset : ℕ) (cowns : ArrayVec ℕ) → CanSpawnNext f parent → row ≡ length (members f)
    → next_at (standings f) parent ≡ None → offset ≡ 0 → cowns.items ≡ [] → MayCome f (Spawn row parent offset cowns)
main_comes f row parent offset cowns can is none offset_is cowns_are = by_rows (length (members f)) refl
  where
    p : Program
    p = f.program

    first : (ps : List ℕ) → length ps ≡ 0 → IsNextParent (serial_along p ps).rows parent → parent ≡ 0
    first [] e next = next
    first (q ∷ ps) e next = absurd (omega (arith, e))

    by_rows : (n : ℕ) → length (members f) ≡ n → MayCome f (Spawn row parent offset cowns)
    by_rows zero e =
        let many = as_many f (length (parents_of_rows f.log)) can.settled in
        let zeroth : parent ≡ 0 = first (parents_of_rows f.log) (many ∙ e) can.can in (
          is,
          omega (arith, is, e),
          subst (λ (cs : List ℕ). MaySpawn p (members f) parent offset cs) (sym cowns_are)
              (subst (λ (n : ℕ). MaySpawn p (members f) parent n []) (sym offset_is)
              (subst (λ (n : ℕ). MaySpawn p (members f) n 0 []) (sym zeroth) (main_may p (members f) e))),
        )
    by_rows (suc n) e = absurd (has_wish f parent can (omega (arith, e)) none)

-- ---- the run with one row more

-- another row still has a wish
wish_stays : (rows : List SerialRow) (x : SerialRow) (r : ℕ) → HasWish rows r → x.parent ≢ r → HasWish (rows ++ (x ∷ [])) r
wish_stays rows x r h apart =
    let low = wish_below rows r h in
    let none : one_if (nat_eq x.parent r) ≡ 0 = ap one_if (not_eq x.parent r apart) in
    let kids : children r (others_of (rows ++ (x ∷ []))) ≡ children r (others_of rows) =
    omega (arith, children_now rows x r (omega (arith, low)), none) in
    record {
      wish = h.wish;
      next = ap (λ k. wish_of_row (slice_get (rows ++ (x ∷ [])) r) k) kids
          ∙ ap (λ o. wish_of_row o (children r (others_of rows))) (front_item rows x r low) ∙ h.next;
    }

parent_is : (p : Program) (values : List ℤ) (parent : ℕ) (o : Option Behaviour) → (run_at_once p values parent o).parent ≡ parent
parent_is p values parent None = refl
parent_is p values parent (Some b) = refl

grown : (p : Program) (ms : List Member) (parent offset : ℕ) (cowns : List ℕ) → MaySpawn p ms parent offset cowns
    → OneMore ms (members_after_spawn p ms parent)
grown p [] parent offset cowns may = one_more [] parent with_one_more (waiting main_behaviour) (λ m. refl) (λ m. refl)
grown p (m ∷ ms) parent offset cowns may =
    subst (OneMore (m ∷ ms)) (sym (after_spawn p (m ∷ ms) parent may.wish (omega arith) may.next))
    (one_more (m ∷ ms) parent with_one_more (waiting (behaviour_of may.wish)) (λ z. refl) (λ z. refl))

-- a run with one row more
pub record Spawned (old : Following) (parent : ℕ) (f : Following) : Type 0 where
  pub more : OneMore (members old) (members f)
  pub run : IsRun f.program f.log
  pub spawns : SpawnsOne old parent f

pub spawned : (f g : Following) (parent : ℕ) → IsRun f.program f.log → HasSpawned f parent g → Spawned f parent g
spawned f g parent run h =
    let p : Program = f.program in
    let e = Spawn h.row parent h.offset h.cowns in
    let now : members (longer f e) ≡ members_after_spawn p (members f) parent =
    ap (λ (d : Config). d.members) (config_more p (opening p) f.log e) in
    subst (λ (z : Following). Spawned f parent z) (sym h.longer) (record {
      more = subst (OneMore (members f)) (sym now) (grown p (members f) parent h.offset h.cowns.items h.may.2);
      run = run_more p (opening p) f.log e run h.may;
      spawns = record { program = refl; parents = parents_one f.log e };
    })

rows_more : (f g : Following) (parent : ℕ) → SpawnsOne f parent g → (x : SerialRow) × (x.parent ≡ parent) × (rows_of g ≡ rows_of f ++ (x ∷ []))
rows_more f g parent s =
    let p : Program = f.program in
    let ps = parents_of_rows f.log in
    let was = serial_along p ps in
    let x = run_at_once p was.values parent (next_behaviour was.rows parent) in (
      x,
      parent_is p was.values parent (next_behaviour was.rows parent),
      ap (λ (q : Program). (serial_along q (parents_of_rows g.log)).rows) s.program
          ∙ ap (λ (qs : List ℕ). (serial_along p qs).rows) s.parents
          ∙ ap (λ s. s.rows) (along_more p (serial_along p []) ps parent),
    )

-- all but the parent and the new row rest on
pub rest_spawned : (f g : Following) (parent row : ℕ) → Spawned f parent g → row ≡ length (members f) → AllRestBut f []
    → AllRestBut g (parent ∷ row ∷ [])
rest_spawned f g parent row x is rest r not =
    let old = rest r (λ (h : Contains [] r). omega (arith, h.1)) in
    let apart : r ≢ length (members f) = λ e. not (1, omega arith, is ∙ sym e) in
    let more = rows_more f g parent x.spawns in
    record {
      held = λ may. old.held (could_start_too (members f) (members g) x.more r apart may);
      wishes = λ runs.
          subst (λ (rows : List SerialRow). HasWish rows r) (sym more.2)
          (wish_stays (rows_of f) more.0 r (old.wishes (sym (x.more.others r apart) ∙ runs)) (λ e. not (0, omega arith, sym more.1 ∙ e)));
    }

-- ---- its cowns

below_in : (n : ℕ) (cs : List ℕ) → AllBelow n cs → (d : ℕ) → Contains cs d → d < n
below_in n [] all d h = absurd (omega (arith, h.1))
below_in n (c ∷ cs) all d (zero, l, e) = (let q : c ≡ d = e in subst (λ (z : ℕ). z < n) q all.0)
below_in n (c ∷ cs) all d (suc k, l, e) = below_in n cs all.1 d (k, omega (arith, l), e)

-- the cowns of a row are cowns of the program
pub cowns_below : (f : Following) → IsRun f.program f.log → (r d : ℕ) → IsOver f r d → d < cown_count f.program.cowns
cowns_below f run r d h =
    let m = item_at (members f) r (has_there (members f) r d h) in
    below_in (cown_count f.program.cowns) m.0.behaviour.cowns (all_fit f.program f.log run r m.0 m.1).below d
    (subst (λ (cs : List ℕ). Contains cs d) (ap (λ o. option_map_or (λ (z : Member). z.behaviour.cowns) o []) m.1) h)

-- the latest rows are there
pub tables_there : (f : Following) (t : Tables) → AreTablesOf f t → AreThere t
tables_there f t tables d r e = omega (arith, tables.rows, has_there (members f) r d (tables.chained.latest_has r d e))

-- the tables with the new row
pub tables_more : (f g : Following) (parent row : ℕ) (t u : Tables) → Spawned f parent g → AreTablesOf f t → row ≡ length (members f)
    → u ≡ with_row t row (member_cowns (members g) row) → AreTablesOf g u
tables_more f g parent row t u x tables is same = subst (AreTablesOf g) (sym same) (record {
  run = x.run;
  rows = omega (arith, many.0, length-append t.next ([] ∷ []), tables.rows, x.more.many);
  cowns = many.1 ∙ tables.cowns ∙ ap (λ (p : Program). cown_count p.cowns) (sym x.spawns.program);
  chained = same_over (AndOver (IsOver f) row (Contains cs)) (IsOver g) (IsUnended g) (with_row t row cs) to from
      (chain_row (IsOver f) (IsUnended g) t row cs (other_unended (IsOver f) (IsUnended f) (IsUnended g) t was tables.chained)
      (tables_there f t tables) (λ r d h. omega (arith, is, has_there (members f) r d h)) (is ∙ sym tables.rows) low);
})
  where
    cs : List ℕ
    cs = member_cowns (members g) row

    more : Tables
    more = record t { next = t.next ++ ([] ∷ []) }

    many : (length (all_linked more row cs).next ≡ length more.next) × (length (all_linked more row cs).latest ≡ length more.latest)
    many = all_many more row cs

    old_row : (r d : ℕ) → IsOver f r d → r ≢ length (members f)
    old_row r d h e = omega (arith, e, has_there (members f) r d h)

    was : (r d : ℕ) → IsOver f r d → IsUnended g r → IsUnended f r
    was r d h v e = v (x.more.others r (old_row r d h) ∙ e)

    low : (d : ℕ) → Contains cs d → d < length t.latest
    low d h = omega (
      arith,
      cowns_below g x.run row d h,
      tables.cowns,
      ap (λ (p : Program). cown_count p.cowns) x.spawns.program,
    )

    to : (r d : ℕ) → AndOver (IsOver f) row (Contains cs) r d → IsOver g r d
    to r d (inl h) = subst (λ (ds : List ℕ). Contains ds d) (sym (x.more.cowns r (old_row r d h))) h
    to r d (inr h) = subst (λ (z : ℕ). IsOver g z d) (sym h.0) h.1

    from : (r d : ℕ) → IsOver g r d → AndOver (IsOver f) row (Contains cs) r d
    from r d h =
        elim (same_or_not r row) [
          | inl e ↦ inr (e, subst (λ (z : ℕ). IsOver g z d) e h)
          | inr n ↦ inl (subst (λ (ds : List ℕ). Contains ds d) (x.more.cowns r (λ e. n (e ∙ sym is))) h)
        ]

-- the cowns of a row as they are told
pub told_cowns : (ms : List Member) (r : ℕ) (b : Behaviour) → IsOfRow ms r b → member_cowns ms r ≡ b.cowns
told_cowns ms r b told = ap (λ o. option_map_or (λ (z : Member). z.behaviour.cowns) o []) told.is ∙ ap (λ z. z.cowns) told.behaviour_is

-- a spawn, and then events that spawn no row
pub spawns_still : (f : Following) (parent : ℕ) (g h : Following) → SpawnsOne f parent g → SpawnsNone g h → SpawnsOne f parent h
spawns_still f parent g h one none = record { program = none.program ∙ one.program; parents = none.parents ∙ one.parents }

-- The rows of a run were spawned in an order.
use Rattle.std.proofs.Common.{◌≡◌, ◌≢◌, ◌⊎◌, ℕ, ◌<◌, ◌≤◌, inl, inr, List, [], ◌∷◌, ◌++◌, length, refl, sym, ◌∙◌, ap, subst, arith, length-append, ℤ}
use Rattle.std.specs.Prelude.{slice_get, Option, Some, None, option_map}
use Rattle.std.specs.Option.{option_map_or}
use Rattle.std.proofs.lemmas.Bool.{cases_lt}
use Rattle.boc_program.specs.declared.limits.TheConstants.{MOST_ROWS}
use Rattle.boc_program.specs.declared.body.Body.{Body}
use Rattle.boc_program.specs.declared.body.EndStatus.{EndStatus}
use Rattle.boc_program.specs.declared.short.Input.{Input}
use Rattle.boc_program.specs.declared.program.Program.{Program}
use Rattle.boc_program.specs.Changed.{changed}
use Rattle.boc_program.specs.Meaning.{Meaning, meaning}
use Rattle.boc_program.proofs.ChangedItems.{place_below, item_at, none_past}
use Rattle.boc_runs.specs.declared.event.Event.{Event}
use Rattle.boc_runs.specs.declared.event.Event.TheVariants.{Spawn, Start, End}
use Rattle.boc_runs.specs.Lives.{Pending, Running, Ended}
use Rattle.boc_runs.specs.Serial.{SerialRow, Serial, Behaviour, behaviour_of, no_meaning, meaning_if, wish_of_row, children, after_turn, after_turns, serial_along}
use Rattle.boc_runs.specs.Run.{Member, Config, waiting, started_on, meaning_of, wish_at, next_wish, members_after_spawn, config_after, config_after_all, config_of, opening}
use Rattle.boc_runs.specs.Run.{MaySpawn, SpawnsWish, CanEnd, MayHappen, IsRunFrom, IsRun, IsWholeRun}
use Rattle.boc_runs.specs.machine.Queues.{times}
use Rattle.boc_runs.specs.machine.AlongRows.{parents_of_rows}
use Rattle.boc_runs.proofs.OwnOrders.{rows_done}
use Rattle.boc_machine_laws.proofs.Rows.{with_life, life_there, with_one_more, after_spawn}
use Rattle.boc_machine_laws.proofs.Twins.{rows_along, later, Follows, ended_not_pending, running_not_pending, read_changed, read_more}
use Rattle.boc_machine_laws.proofs.SerialEnd.{means_same}
use Rattle.boc_machine_laws.proofs.SerialSpawn.{wish_means}
use Rattle.boc_fronts.proofs.AlongLogs.{parents_on, follows_next, parents_after, parents_are, none_yet}
use Rattle.boc_fronts.specs.Orders.{others_of, HasWish, cowns_at, IsOrdered, IsBefore, Next, Farther, CanSpawn, IsNextParent, IsOrderFrom, IsOrder, IsWholeOrder}

pub others_are : (rows : List SerialRow) → others_of rows ≡ later rows
others_are [] = refl
others_are (main ∷ others) = refl

-- an order with one more
pub order_more : (p : Program) (s : Serial) (ps : List ℕ) (r : ℕ) → IsOrderFrom p s ps
    → IsNextParent (after_turns p s ps).rows r → IsOrderFrom p s (ps ++ (r ∷ []))
order_more p s [] r order next = (next, tt)
order_more p s (q ∷ ps) r order next = (order.0, order_more p (after_turn p s q) ps r order.1 next)

-- who has ended has spawned all
abbrev EndsSpawned : Program → List Member → Type 0
EndsSpawned p ms = (r : ℕ) (m : Member) (means : Meaning) → slice_get ms r ≡ Some m → m.life ≡ Ended
    → meaning_of p m ≡ Some means → m.spawned ≡ length means.wishes

-- a body is there and means something, or nothing is meant
meant_or_not : (o : Option Body) (args : List ℤ) (inputs : List Input)
    → (meaning_if o args inputs ≡ no_meaning) ⊎
    ((means : Meaning) × (option_map (λ body. meaning body args inputs) o ≡ Some means))
meant_or_not None args inputs = inl refl
meant_or_not (Some body) args inputs = inr (meaning body args inputs, refl)

module _ (p : Program) (c : Config) (ps : List ℕ) (f : Follows p c ps) where
  abbrev rows : List SerialRow
  rows = rows_along p ps

  -- the cowns of a row are its behaviour's
  pub cowns_are : (r : ℕ) (m : Member) → slice_get c.members r ≡ Some m → cowns_at rows r ≡ m.behaviour.cowns
  cowns_are r m e =
      let t = f.twins r m e in
      ap (λ o. option_map_or (λ (x : SerialRow). x.behaviour.cowns) o []) t.is ∙ ap (λ (b : Behaviour). b.cowns) t.behaviour_is

  pub wish_there : (r : ℕ) (m : Member) (e : slice_get c.members r ≡ Some m) (h : HasWish rows r)
      → slice_get (f.twins r m e).row.means.wishes m.spawned ≡ Some h.wish
  wish_there r m e h =
      let t = f.twins r m e in
      ap (slice_get t.row.means.wishes) (t.spawned_is ∙ ap (children r) (sym (others_are rows)))
      ∙ sym (ap (λ o. wish_of_row o (children r (others_of rows))) t.is) ∙ h.next

  pub none_of_ended : EndsSpawned p c.members → (r : ℕ) (m : Member) → slice_get c.members r ≡ Some m → m.life ≡ Ended
      → HasWish rows r → ⊥
  none_of_ended spawned r m e ended h =
      let t = f.twins r m e in
      let begun = ended_not_pending m.life ended in
      elim (meant_or_not (slice_get p.bodies m.behaviour.kind) m.behaviour.args m.inputs) [
        | inl nothing ↦
            let same : t.row.means ≡ no_meaning = t.means_are
            ∙ ap (meaning_if (slice_get p.bodies m.behaviour.kind) m.behaviour.args) (sym (t.begun begun)) ∙ nothing in
            let g : None ≡ Some h.wish = sym (none_past no_meaning.wishes m.spawned (omega arith))
            ∙ sym (ap (λ (z : Meaning). slice_get z.wishes m.spawned) same) ∙ wish_there r m e h in
            absurd cc
        | inr means ↦
            let same : t.row.means ≡ means.0 = means_same p ps r m means.0 t begun means.1 in
            let g : None ≡ Some h.wish =
            sym (none_past means.0.wishes m.spawned (omega (arith, spawned r m means.0 e ended means.1)))
            ∙ sym (ap (λ (z : Meaning). slice_get z.wishes m.spawned) same) ∙ wish_there r m e h in
            absurd cc
      ]

  -- of two rows over a cown the earlier one has ended once the later one has started
  ordered_ended : (a b : ℕ) → IsOrdered rows a b → (n : Member) → slice_get c.members b ≡ Some n → n.life ≢ Pending
      → (m : Member) × (slice_get c.members a ≡ Some m) × (m.life ≡ Ended)
  ordered_ended a b o n there begun =
      let x = item_at c.members a (omega (arith, o.earlier, place_below c.members b n there)) in (
        x.0,
        x.1,
        f.ordered a b x.0 n x.1 there o.earlier o.cown (subst (λ cs. 0 < times o.cown cs) (cowns_are a x.0 x.1) o.has)
            (subst (λ cs. 0 < times o.cown cs) (cowns_are b n there) o.has_too) begun,
      )

  pub before_ended : (a b : ℕ) → IsBefore rows a b → (n : Member) → slice_get c.members b ≡ Some n → n.life ≢ Pending
      → (m : Member) × (slice_get c.members a ≡ Some m) × (m.life ≡ Ended)
  before_ended a b (Next x y o) n there begun = ordered_ended x y o n there begun
  before_ended a b (Farther x d y h o) n there begun =
      let z = ordered_ended d y o n there begun in
      before_ended x d h z.0 z.1 (ended_not_pending z.0.life z.2)

  -- a row that may spawn by the rules can spawn
  pub can_spawn : EndsSpawned p c.members → (parent offset : ℕ) (cowns : List ℕ) → SpawnsWish p c.members parent offset cowns
      → CanSpawn rows parent
  can_spawn spawned parent offset cowns s =
      let x = with_life c.members parent Running s.runs in
      let t = f.twins parent x.0 x.1 in
      let begun = running_not_pending x.0.life x.2 in
      let next : wish_at (meaning_of p x.0) x.0.spawned ≡ Some s.wish = sym (ap (next_wish p) x.1) ∙ s.next in
      let m = wish_means (meaning_of p x.0) x.0.spawned s.wish next in
      let same : t.row.means ≡ m.0 = means_same p ps parent x.0 m.0 t begun m.1 in
      record {
        wishes = record {
          wish = s.wish;
          next = ap (λ o. wish_of_row o (children parent (others_of rows))) t.is
              ∙ ap (λ k. slice_get t.row.means.wishes k) (ap (children parent) (others_are rows) ∙ sym t.spawned_is)
              ∙ ap (λ (z : Meaning). slice_get z.wishes x.0.spawned) same ∙ m.2;
        };
        free = λ a h wish.
            let y = before_ended a parent h x.0 x.1 begun in
            none_of_ended spawned a y.0 y.1 y.2 wish;
      }

-- ---- who may come next

next_first : (rows : List SerialRow) (r : ℕ) → length rows ≡ 0 → r ≡ 0 → IsNextParent rows r
next_first [] r none e = e
next_first (main ∷ others) r none e = absurd (omega (arith, none))

pub next_later : (rows : List SerialRow) (r : ℕ) → 0 < length rows → CanSpawn rows r → IsNextParent rows r
next_later [] r some can = absurd (omega (arith, some))
next_later (main ∷ others) r some can = can

may_come : (p : Program) (ms : List Member) (values : List ℤ) (ps : List ℕ) (parent offset : ℕ) (cowns : List ℕ)
    → Follows p (record { members = ms; values = values }) ps → EndsSpawned p ms → MaySpawn p ms parent offset cowns
    → IsNextParent (rows_along p ps) parent
may_come p [] values ps parent offset cowns f spawned may =
    next_first (rows_along p ps) parent (rows_done p ps ∙ f.same) may.0
may_come p (m ∷ ms) values ps parent offset cowns f spawned may =
    next_later (rows_along p ps) parent (omega (arith, rows_done p ps, f.same))
    (can_spawn p (record { members = m ∷ ms; values = values }) ps f spawned parent offset cowns may)

-- ---- who has ended has spawned all

spawned_first : (p : Program) (b : Behaviour) → EndsSpawned p (waiting b ∷ [])
spawned_first p b r m means e ended meant =
    elim (read_more [] (waiting b) r m e) [
      | inl q ↦ absurd (omega (arith, q.0))
      | inr q ↦ absurd (let g : Pending ≡ Ended = ap (λ (z : Member). z.life) q.1 ∙ ended in cc)
    ]

spawned_later : (p : Program) (ms : List Member) (parent : ℕ) (b : Behaviour) → EndsSpawned p ms
    → ((m : Member) → slice_get ms parent ≡ Some m → m.life ≡ Running)
    → EndsSpawned p (changed ms parent with_one_more (slice_get ms parent) ++ (waiting b ∷ []))
spawned_later p ms parent b old runs r m means e ended meant =
    elim (read_more (changed ms parent with_one_more (slice_get ms parent)) (waiting b) r m e) [
      | inl q ↦ elim (read_changed ms parent with_one_more r m q.1) [
        | inl z ↦ absurd (let g : Running ≡ Ended = sym (runs z.1.0 z.1.1) ∙ ap (λ (y : Member). y.life) z.1.2 ∙ ended in cc)
        | inr z ↦ old r m means z.1 ended meant
      ]
      | inr q ↦ absurd (let g : Pending ≡ Ended = ap (λ (z : Member). z.life) q.1 ∙ ended in cc)
    ]

spawned_any : (p : Program) (ms : List Member) (parent offset : ℕ) (cowns : List ℕ) → EndsSpawned p ms
    → MaySpawn p ms parent offset cowns → EndsSpawned p (members_after_spawn p ms parent)
spawned_any p [] parent offset cowns old may = spawned_first p (record { kind = 0; args = []; cowns = [] })
spawned_any p (m ∷ ms) parent offset cowns old may =
    subst (EndsSpawned p) (sym (after_spawn p (m ∷ ms) parent may.wish (omega arith) may.next))
    (spawned_later p (m ∷ ms) parent (behaviour_of may.wish) old
    (λ n e. let g : Some n.life ≡ Some Running = sym (life_there (m ∷ ms) parent n e) ∙ may.runs in cc))

spawned_start : (p : Program) (c : Config) (row : ℕ) → EndsSpawned p c.members
    → EndsSpawned p (changed c.members row (started_on c.values) (slice_get c.members row))
spawned_start p c row old r m means e ended meant =
    elim (read_changed c.members row (started_on c.values) r m e) [
      | inl z ↦ absurd (let g : Running ≡ Ended = ap (λ (y : Member). y.life) z.1.2 ∙ ended in cc)
      | inr z ↦ old r m means z.1 ended meant
    ]

spawned_end : (p : Program) (c : Config) (row ticks : ℕ) (status : EndStatus) (written : List ℕ) → EndsSpawned p c.members
    → CanEnd p c.members row ticks status written
    → EndsSpawned p (changed c.members row (λ m. record m { life = Ended }) (slice_get c.members row))
spawned_end p c row ticks status written old may r m means e ended meant =
    elim (read_changed c.members row (λ x. record x { life = Ended }) r m e) [
      | inl z ↦
          let same : may.member ≡ z.1.0 = (let g : Some may.member ≡ Some z.1.0 = sym may.is ∙ z.1.1 in cc) in
          let means_are : may.means ≡ means = (let g : Some may.means ≡ Some means = sym may.meant
          ∙ ap (meaning_of p) same ∙ ap (meaning_of p) z.1.2 ∙ meant in cc) in
          sym (ap (λ (y : Member). y.spawned) z.1.2) ∙ sym (ap (λ (y : Member). y.spawned) same) ∙ may.all_spawned
          ∙ ap (λ (y : Meaning). length y.wishes) means_are
      | inr z ↦ old r m means z.1 ended meant
    ]

spawned_next : (p : Program) (c : Config) (e : Event) → EndsSpawned p c.members → MayHappen p c e
    → EndsSpawned p (config_after p c e).members
spawned_next p c (Spawn row parent offset cowns) old may = spawned_any p c.members parent offset cowns.items old may.2
spawned_next p c (Start row) old may = spawned_start p c row old
spawned_next p c (End row ticks status written) old may = spawned_end p c row ticks status written.items old may

-- ---- all events

pub record Orderly (p : Program) (c : Config) (ps : List ℕ) : Type 0 where
  pub follows : Follows p c ps
  pub order : IsOrder p ps
  pub few : length ps ≤ MOST_ROWS
  pub spawned : EndsSpawned p c.members

orderly_next : (p : Program) (c : Config) (ps : List ℕ) (e : Event) → Orderly p c ps → MayHappen p c e
    → Orderly p (config_after p c e) (parents_on ps e)
orderly_next p c ps (Spawn row parent offset cowns) o may = record {
  follows = follows_next p c ps (Spawn row parent offset cowns) o.follows may;
  order = order_more p (serial_along p []) ps parent o.order
      (may_come p c.members c.values ps parent offset cowns.items o.follows o.spawned may.2);
  few = omega (arith, may.0, may.1, o.follows.same, length-append ps (parent ∷ []));
  spawned = spawned_next p c (Spawn row parent offset cowns) o.spawned may;
}
orderly_next p c ps (Start row) o may = record {
  follows = follows_next p c ps (Start row) o.follows may;
  order = o.order;
  few = o.few;
  spawned = spawned_next p c (Start row) o.spawned may;
}
orderly_next p c ps (End row ticks status written) o may = record {
  follows = follows_next p c ps (End row ticks status written) o.follows may;
  order = o.order;
  few = o.few;
  spawned = spawned_next p c (End row ticks status written) o.spawned may;
}

pub orderly_all : (p : Program) (c : Config) (ps : List ℕ) (log : List Event) → Orderly p c ps → IsRunFrom p c log
    → Orderly p (config_after_all p c log) (parents_after ps log)
orderly_all p c ps [] o run = o
orderly_all p c ps (e ∷ log) o run =
    orderly_all p (config_after p c e) (parents_on ps e) log (orderly_next p c ps e o run.0) run.1

opening_orderly : (p : Program) → Orderly p (opening p) []
opening_orderly p = record {
  follows = none_yet p;
  order = tt;
  few = omega arith;
  spawned = λ r m means e. absurd (let g : None ≡ Some m = e in cc);
}

pub run_is_orderly : (p : Program) (log : List Event) → IsRun p log → Orderly p (config_of p log) (parents_of_rows log)
run_is_orderly p log run =
    subst (λ ps. Orderly p (config_of p log) ps) (sym (parents_are log)) (orderly_all p (opening p) [] log (opening_orderly p) run)

pub runs_make_orders : (p : Program) (log : List Event) → IsRun p log → IsOrder p (parents_of_rows log)
runs_make_orders p log run = (run_is_orderly p log run).order

pub wish_below : (rows : List SerialRow) (r : ℕ) → HasWish rows r → r < length rows
wish_below rows r h =
    elim (cases_lt r (length rows)) [
      | inl low ↦ low
      | inr high ↦ absurd (let g : None ≡ Some h.wish =
          sym (ap (λ o. wish_of_row o (children r (others_of rows))) (none_past rows r high)) ∙ h.next in cc)
    ]

pub whole_runs_make_orders : (p : Program) (log : List Event) → IsWholeRun p log → IsWholeOrder p (parents_of_rows log)
whole_runs_make_orders p log whole =
    let c = config_of p log in
    let ps = parents_of_rows log in
    let o = run_is_orderly p log whole.run in
    record {
      order = o.order;
      some = omega (arith, whole.over.some, o.follows.same);
      few = o.few;
      none_left = λ r h.
          let x = item_at c.members r (omega (arith, wish_below (rows_along p ps) r h, rows_done p ps, o.follows.same)) in
          none_of_ended p c ps o.follows o.spawned r x.0 x.1
          (let g : Some x.0.life ≡ Some Ended = sym (life_there c.members r x.0 x.1)
          ∙ whole.over.ended r (place_below c.members r x.0 x.1) in cc) h;
    }

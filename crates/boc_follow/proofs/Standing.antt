-- How the behaviours of a run stand, and how an event changes that.
use Rattle.std.proofs.Common.{◌≡◌, ℕ, ◌+◌, List, [], ◌∷◌, ◌++◌, length, map, refl, sym, ◌∙◌, ap, subst, ℤ}
use Rattle.std.specs.Prelude.{slice_get, Option, Some, None}
use Rattle.std.specs.Option.{option_map, option_and_then}
use Rattle.std.proofs.lemmas.List.{map-append, length-map}
use Rattle.std.proofs.lemmas.Option.{slice_get-map}
use Rattle.boc_program.specs.declared.body.Body.{Body}
use Rattle.boc_program.specs.declared.body.EndStatus.{EndStatus}
use Rattle.boc_program.specs.declared.program.Program.{Program}
use Rattle.boc_program.specs.Meaning.{Wish, Meaning, meaning}
use Rattle.boc_program.specs.Programs.{cown_count}
use Rattle.boc_program.specs.Changed.{changed}
use Rattle.boc_runs.specs.Lives.{Life, Pending, Running, Ended}
use Rattle.boc_runs.specs.Serial.{behaviour_of, inputs_of}
use Rattle.boc_runs.specs.Run.{Member, waiting, meaning_of, wish_at, next_wish, spawned_by, started_on, state_of, CanEnd}
use Rattle.boc_follow.specs.Standings.{Underway, Standing, underway_if, standing_of, fresh, with_one_more, started_in}
use Rattle.boc_follow.specs.Standings.{over_in, next_if, next_of, next_at, EndsSo, CanStart, CanWrite}
use Rattle.boc_follow.proofs.Changes.{map-changed}
use Rattle.boc_machine_laws.proofs.Members.{MemberFits, AllFit}
use Rattle.boc_program.proofs.Outputs.{output_for_each}

-- ---- what is under way

-- it is that of a running behaviour
pub underway_is : (l : Life) (o : Option Meaning) (k : ℕ) (u : Underway) → underway_if l o k ≡ Some u → (l ≡ Running) × (o ≡ Some u.means) × (u.spawned ≡ k)
underway_is Running (Some m) k u e =
    let same : (let v : Underway = record { means = m; spawned = k } in v) ≡ u = cc in
    (refl, ap (λ v. Some v.means) same, sym (ap (λ v. v.spawned) same))
underway_is Running None k u e = absurd cc
underway_is Pending o k u e = absurd cc
underway_is Ended o k u e = absurd cc

next_is : (l : Life) (o : Option Meaning) (k : ℕ) (w : Wish) → next_if (underway_if l o k) ≡ Some w → (l ≡ Running) × (wish_at o k ≡ Some w)
next_is Running (Some m) k w e = (refl, e)
next_is Running None k w e = absurd cc
next_is Pending o k w e = absurd cc
next_is Ended o k w e = absurd cc

next_of_running : (l : Life) (o : Option Meaning) (k : ℕ) (w : Wish) → l ≡ Running → wish_at o k ≡ Some w → next_if (underway_if l o k) ≡ Some w
next_of_running Running (Some m) k w runs e = e
next_of_running Running None k w runs e = absurd cc
next_of_running Pending o k w runs e = absurd cc
next_of_running Ended o k w runs e = absurd cc

one_more : (l : Life) (o : Option Meaning) (k : ℕ)
    → underway_if l o (k + 1) ≡ option_map (λ (u : Underway). record u { spawned = u.spawned + 1 }) (underway_if l o k)
one_more Running (Some m) k = refl
one_more Running None k = refl
one_more Pending o k = refl
one_more Ended o k = refl

begun : (f : Body → Meaning) (o : Option Body) (k : ℕ) → k ≡ 0
    → underway_if Running (option_map f o) k ≡ option_map (λ (body : Body). let u : Underway = record { means = f body; spawned = 0 } in u) o
begun f None k none = refl
begun f (Some body) k none = ap (λ n. Some (let u : Underway = record { means = f body; spawned = n } in u)) none

-- ---- of the behaviours of a run

module _ (p : Program) (ms : List Member) where
  abbrev standings : List Standing
  standings = map (standing_of p) ms

  stands_at : (r : ℕ) → slice_get standings r ≡ option_map (standing_of p) (slice_get ms r)
  stands_at r = slice_get-map (standing_of p) ms r

  pub stands_of : (r : ℕ) (m : Member) → slice_get ms r ≡ Some m → slice_get standings r ≡ Some (standing_of p m)
  stands_of r m at = stands_at r ∙ ap (option_map (standing_of p)) at

  -- a row with a next wish runs, and that is its behaviour's
  pub wish_of_running : (r : ℕ) (w : Wish) → next_at standings r ≡ Some w → (state_of ms r ≡ Some Running) × (next_wish p (slice_get ms r) ≡ Some w)
  wish_of_running r w next = wished (slice_get ms r) (sym (ap (option_and_then next_of) (stands_at r)) ∙ next)
    where
      wished : (o : Option Member) → option_and_then next_of (option_map (standing_of p) o) ≡ Some w
          → (option_map (λ (m : Member). m.life) o ≡ Some Running) × (next_wish p o ≡ Some w)
      wished None e = absurd cc
      wished (Some m) e = (let both = next_is m.life (meaning_of p m) m.spawned w e in (ap (λ l. Some l) both.0, both.1))

  pub running_wishes : (r : ℕ) (w : Wish) → state_of ms r ≡ Some Running → next_wish p (slice_get ms r) ≡ Some w → next_at standings r ≡ Some w
  running_wishes r w runs next = ap (option_and_then next_of) (stands_at r) ∙ wishes (slice_get ms r) runs next
    where
      wishes : (o : Option Member) → option_map (λ (m : Member). m.life) o ≡ Some Running → next_wish p o ≡ Some w
          → option_and_then next_of (option_map (standing_of p) o) ≡ Some w
      wishes None e f = absurd cc
      wishes (Some m) e f = (let runs : m.life ≡ Running = cc in next_of_running m.life (meaning_of p m) m.spawned w runs f)

  -- the behaviour of a row that stands so
  pub stood : (r : ℕ) (s : Standing) → slice_get standings r ≡ Some s → (m : Member) × (slice_get ms r ≡ Some m) × (standing_of p m ≡ s)
  stood r s at = found (slice_get ms r) (sym (stands_at r) ∙ at)
    where
      found : (o : Option Member) → option_map (standing_of p) o ≡ Some s → (m : Member) × (o ≡ Some m) × (standing_of p m ≡ s)
      found None e = absurd cc
      found (Some m) e = (m, refl, (let same : standing_of p m ≡ s = cc in same))

  -- ---- what an event changes

  pub standings_spawned : (parent : ℕ) (w : Wish) → next_wish p (slice_get ms parent) ≡ Some w
      → map (standing_of p) (spawned_by ms parent (next_wish p (slice_get ms parent))) ≡ changed standings parent with_one_more (slice_get standings parent)
      ++ fresh (behaviour_of w) ∷ []
  standings_spawned parent w next =
      let more : Member → Member = λ x. record x { spawned = x.spawned + 1 } in
      ap (λ o. map (standing_of p) (spawned_by ms parent o)) next
      ∙ map-append (standing_of p) (changed ms parent more (slice_get ms parent)) (waiting (behaviour_of w) ∷ [])
      ∙ ap (λ ss. ss ++ fresh (behaviour_of w) ∷ []) (map-changed (standing_of p) more with_one_more ms parent
      (λ m is. ap (λ u. let s : Standing = record { behaviour = m.behaviour; underway = u } in s) (one_more m.life (meaning_of p m) m.spawned)))

  pub standings_started : (values : List ℤ) (row : ℕ) → AllFit p ms → state_of ms row ≡ Some Pending
      → map (standing_of p) (changed ms row (started_on values) (slice_get ms row)) ≡ changed standings row (started_in p values) (slice_get standings row)
  standings_started values row fits waits =
      map-changed (standing_of p) (started_on values) (started_in p values) ms row (λ m is.
      let e : Some m.life ≡ Some Pending = sym (ap (option_map (λ (x : Member). x.life)) is) ∙ waits in
      let pends : m.life ≡ Pending = cc in
      ap (λ u. let s : Standing = record { behaviour = m.behaviour; underway = u } in s)
      (begun (λ body. meaning body m.behaviour.args (inputs_of m.behaviour.cowns values)) (slice_get p.bodies m.behaviour.kind) m.spawned
      ((fits row m is).fresh pends)))

  pub standings_ended : (row : ℕ)
      → map (standing_of p) (changed ms row (λ m. record m { life = Ended }) (slice_get ms row)) ≡ changed standings row over_in (slice_get standings row)
  standings_ended row = map-changed (standing_of p) (λ m. record m { life = Ended }) over_in ms row (λ m is. refl)

  -- ---- what rows can do

  pub can_start : (n : ℕ) → AllFit p ms → n ≡ cown_count p.cowns → (row : ℕ) (s : Standing) → slice_get standings row ≡ Some s → CanStart p n s
  can_start n fits many row s at =
      let m = stood row s at in
      subst (CanStart p n) m.2 (subst (λ k. CanStart p k (standing_of p m.0)) (sym many)
      (record { counts = (fits row m.0 m.1).counts; below = (fits row m.0 m.1).below }))

  pub can_write : (n : ℕ) → AllFit p ms → n ≡ cown_count p.cowns → (row : ℕ) (s : Standing) → slice_get standings row ≡ Some s → CanWrite n s
  can_write n fits many row s at =
      let m = stood row s at in
      subst (CanWrite n) m.2 (subst (λ k. CanWrite k (standing_of p m.0)) (sym many)
      (record { below = (fits row m.0 m.1).below; outputs = λ u is. outputs_of m.0 (fits row m.0 m.1) u is }))
    where
      meant : (args : List ℤ) (m : Member) (o : Option Body) (u : Underway)
          → option_map (λ (body : Body). meaning body m.behaviour.args m.inputs) o ≡ Some u.means → length u.means.outputs ≡ length m.inputs
      meant args m None u e = absurd cc
      meant args m (Some body) u e =
          (let same : meaning body m.behaviour.args m.inputs ≡ u.means = cc in
          ap (λ (x : Meaning). length x.outputs) (sym same) ∙ output_for_each body m.behaviour.args m.inputs)

      outputs_of : (m : Member) → MemberFits p m → (u : Underway) → (standing_of p m).underway ≡ Some u → length m.behaviour.cowns ≡ length u.means.outputs
      outputs_of m fit u is =
          let runs = underway_is m.life (meaning_of p m) m.spawned u is in
          ap (length {A = ℕ}) (sym (fit.holds runs.0)) ∙ length-map m.inputs (λ i. i.cown) ∙ sym
          (meant m.behaviour.args m (slice_get p.bodies m.behaviour.kind) u runs.1)

  -- a row that ends so can end
  pub can_end : (row ticks : ℕ) (status : EndStatus) (written : List ℕ) (s : Standing) → slice_get standings row ≡ Some s → EndsSo s ticks status written
      → CanEnd p ms row ticks status written
  can_end row ticks status written s at ends =
      let m = stood row s at in
      let runs = underway_is m.0.life (meaning_of p m.0) m.0.spawned ends.underway (ap (λ (x : Standing). x.underway) m.2 ∙ ends.is) in
      record {
        member = m.0;
        is = m.1;
        runs = runs.0;
        means = ends.underway.means;
        meant = runs.1;
        all_spawned = sym runs.2 ∙ ends.all_spawned;
        ticks_are = ends.ticks_are;
        status_is = ends.status_is;
        written_is = ends.written_is;
      }

  -- and one that can end ends so
  pub ends_so : (row ticks : ℕ) (status : EndStatus) (written : List ℕ) (s : Standing) → slice_get standings row ≡ Some s
      → CanEnd p ms row ticks status written → EndsSo s ticks status written
  ends_so row ticks status written s at can =
      let m = stood row s at in
      let e : Some m.0 ≡ Some can.member = sym m.1 ∙ can.is in
      let same : m.0 ≡ can.member = cc in
      let stands : standing_of p can.member ≡ s = ap (standing_of p) (sym same) ∙ m.2 in
      record {
        underway = record { means = can.means; spawned = can.member.spawned };
        is = sym (ap (λ (x : Standing). x.underway) stands) ∙ ap (λ l. underway_if l (meaning_of p can.member) can.member.spawned) can.runs ∙ ap
            (λ o. underway_if Running o can.member.spawned) can.meant;
        all_spawned = can.all_spawned;
        ticks_are = can.ticks_are;
        status_is = can.status_is;
        written_is = can.written_is;
      }

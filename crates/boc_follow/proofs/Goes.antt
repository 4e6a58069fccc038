-- What is kept of a followed run, and how events that may come change it.
use Rattle.std.proofs.Common.{◌≡◌, ℕ, zero, suc, ◌<◌, List, [], ◌∷◌, ◌++◌, length, map, take, drop, refl, sym, ◌∙◌, ap, subst, arith, rules, ℤ}
use Rattle.std.specs.Prelude.{slice_get, Option, Some, None, IsSome}
use Rattle.std.specs.Option.{option_map_or, option_and_then}
use Rattle.std.proofs.lemmas.List.{length-map}
use Rattle.arrayvec.specs.ArrayVec.{ArrayVec}
use Rattle.boc_program.specs.declared.body.EndStatus.{EndStatus}
use Rattle.boc_runs.specs.declared.event.Event.{Event}
use Rattle.boc_runs.specs.declared.event.Event.TheVariants.{Spawn, Start, End}
use Rattle.boc_runs.specs.declared.event.BrokenRule.TheVariants as rule
use Rattle.boc_program.specs.declared.program.Program.{Program}
use Rattle.boc_program.specs.Meaning.{Wish}
use Rattle.boc_program.specs.Programs.{cown_count}
use Rattle.boc_program.specs.Changed.{changed}
use Rattle.boc_runs.specs.Lives.{Life, Pending, Running}
use Rattle.boc_runs.specs.Legal.{Entry, entries, life_of, IsAllowed}
use Rattle.boc_runs.specs.Run.{Member, Config, config_of, config_after, opening, members_after_spawn}
use Rattle.boc_runs.specs.Run.{meaning_of, values_after_end, values_written, state_of, MaySpawn, CanEnd, MayHappen}
use Rattle.boc_follow.specs.declared.row.FollowedRow.{FollowedRow}
use Rattle.boc_follow.specs.Following.{IsFollowing}
use Rattle.boc_follow.specs.Standings.{Standing, standing_in, standing_of, underway_if, with_one_more, started_in, over_in, written_if}
use Rattle.boc_follow.specs.Standings.{written_by, written_at, next_of, EndsSo, CanStart, CanWrite, NoChild, IsChild}
use Rattle.boc_follow.proofs.Besides.{config_more, run_more, same_count, may_start}
use Rattle.boc_machine_laws.proofs.Members.{AllFit, all_fit, values_length}
use Rattle.boc_follow.proofs.Standing.{wish_of_running, running_wishes, standings_spawned, standings_started, standings_ended}
use Rattle.boc_follow.proofs.Standing.{can_start, can_write, can_end, ends_so, stands_of}

take_front : {A : Type 0} (xs ys : List A) (n : ℕ) → length xs ≡ n → take n (xs ++ ys) ≡ xs
take_front [] ys zero e = refl
take_front [] ys (suc n) e = absurd (omega arith)
take_front (x ∷ xs) ys zero e = absurd (omega arith)
take_front (x ∷ xs) ys (suc n) e = ap (λ zs. x ∷ zs) (take_front xs ys n (omega arith))

-- a slice that is written back to a vector in its whole length
pub written_back : {A : Type 0} (new old : List A) (n : ℕ) → length new ≡ n → take n (new ++ drop (length new) old) ≡ new
written_back new old n e = take_front new (drop (length new) old) n e

-- ---- the row that a spawn makes

child_may : (p : Program) (n : ℕ) (ms : List Member) (es : List Entry) (row parent offset : ℕ) (cowns : ArrayVec ℕ) (child : Standing) → length ms ≡ length es
    → IsAllowed n es (Spawn row parent offset cowns) → IsChild (map (standing_of p) ms) parent offset cowns.items child
    → MaySpawn p ms parent offset cowns.items
child_may p n [] [] row parent offset cowns child same allowed made = (allowed.keeps rule.ParentNotRunning, allowed.keeps rule.Offset, allowed.keeps rule.Cowns)
child_may p n [] (e ∷ es) row parent offset cowns child same allowed made = absurd (omega arith)
child_may p n (m ∷ ms) es row parent offset cowns child same allowed made =
    let w = wish_of_running p (m ∷ ms) parent made.wish made.next in
    record { runs = w.0; wish = made.wish; next = w.1; offset_is = made.offset_is; cowns_are = made.cowns_are }

no_child_may : (p : Program) (ms : List Member) (parent offset : ℕ) (cowns : List ℕ) → NoChild (map (standing_of p) ms) parent offset cowns
    → MaySpawn p ms parent offset cowns → ⊥
no_child_may p [] parent offset cowns none may = none
no_child_may p (m ∷ ms) parent offset cowns none may = none may.wish (running_wishes p (m ∷ ms) parent may.wish may.runs may.next) may.offset_is may.cowns_are

child_rows : (p : Program) (ms : List Member) (parent offset : ℕ) (cowns : List ℕ) (child : Standing)
    → IsChild (map (standing_of p) ms) parent offset cowns child
    → map (standing_of p) (members_after_spawn p ms parent) ≡ changed (map (standing_of p) ms) parent with_one_more
    (slice_get (map (standing_of p) ms) parent) ++ child ∷ []
child_rows p [] parent offset cowns child made = ap (λ s. s ∷ []) (sym made)
child_rows p (m ∷ ms) parent offset cowns child made =
    let ss = map (standing_of p) (m ∷ ms) in
    standings_spawned p (m ∷ ms) parent made.wish (wish_of_running p (m ∷ ms) parent made.wish made.next).1
    ∙ ap (λ s. changed ss parent with_one_more (slice_get ss parent) ++ s ∷ []) (sym made.child_is)

-- the parent of a row that a spawn makes has a next wish
pub parent_has_next : (ss : List Standing) (parent offset : ℕ) (cowns : List ℕ) (child : Standing) → IsChild ss parent offset cowns child → (s : Standing)
    → slice_get ss parent ≡ Some s → IsSome (next_of s)
parent_has_next [] parent offset cowns child made s at = absurd (let e : None ≡ Some s = at in cc)
parent_has_next (main ∷ others) parent offset cowns child made s at =
    let e : next_of s ≡ Some made.wish = sym (ap (option_and_then next_of) at) ∙ made.next in
    subst (λ (o : Option Wish). IsSome o) (sym e) (search rules)

-- ---- of what is kept

living_there : (ms : List Member) (row : ℕ) (l : Life) → state_of ms row ≡ Some l → row < length ms
living_there [] row l e = absurd (let f : None ≡ Some l = e in cc)
living_there (m ∷ ms) zero l e = omega arith
living_there (m ∷ ms) (suc row) l e = omega (arith, living_there ms row l e)

entry_there : (es : List Entry) (row : ℕ) (l : Life) → life_of es row ≡ Some l → row < length es
entry_there [] row l e = absurd (let f : None ≡ Some l = e in cc)
entry_there (m ∷ es) zero l e = omega arith
entry_there (m ∷ es) (suc row) l e = omega (arith, entry_there es row l e)

module _ {p : Program} {n : ℕ} {log : List Event} {rows : List FollowedRow} {values : List ℤ} (f : IsFollowing p n log rows values) where
  abbrev ms : List Member
  ms = (config_of p log).members

  abbrev kept : List Standing
  kept = map standing_in rows

  abbrev stands : List Standing
  stands = map (standing_of p) ms

  fits : AllFit p ms
  fits = all_fit p log f.run

  pub row_count : length rows ≡ length ms
  row_count = sym (length-map rows standing_in) ∙ ap (length {A = Standing}) f.rows_are ∙ length-map ms (standing_of p)

  pub value_count : length values ≡ cown_count p.cowns
  value_count = ap (length {A = ℤ}) f.values_are ∙ values_length p log

  goes_on : (event : Event) (rows' : List FollowedRow) (values' : List ℤ) → MayHappen p (config_of p log) event
      → map standing_in rows' ≡ map (standing_of p) (config_after p (config_of p log) event).members → values' ≡ (config_after p (config_of p log) event).values
      → IsFollowing p n (log ++ event ∷ []) rows' values'
  goes_on event rows' values' may rows_are values_are =
      let more = config_more p (opening p) log event in
      record {
        run = run_more p (opening p) log event f.run may;
        cowns_are = f.cowns_are;
        rows_are = rows_are ∙ ap (λ (c : Config). map (standing_of p) c.members) (sym more);
        values_are = values_are ∙ ap (λ (c : Config). c.values) (sym more);
      }

  module _ {event : Event} (allowed : IsAllowed (cown_count p.cowns) (entries log) event) where
    abbrev May : Type 0
    May = MayHappen p (config_of p log) event

    -- ---- a spawn

    module _ {row parent offset : ℕ} {cowns : ArrayVec ℕ} (is : event ≡ Spawn row parent offset cowns) where
      spawn_allowed : IsAllowed (cown_count p.cowns) (entries log) (Spawn row parent offset cowns)
      spawn_allowed = subst (IsAllowed (cown_count p.cowns) (entries log)) is allowed

      pub may_spawn : (child : Standing) → IsChild kept parent offset cowns.items child → May
      may_spawn child made =
          subst (MayHappen p (config_of p log)) (sym is) (
            spawn_allowed.keeps rule.NumberNotNext ∙ sym (same_count p log f.run),
            spawn_allowed.keeps rule.TooMany,
            child_may p (cown_count p.cowns) ms (entries log) row parent offset cowns child (same_count p log f.run) spawn_allowed
                (subst (λ ss. IsChild ss parent offset cowns.items child) f.rows_are made),
          )

      pub may_not_spawn : NoChild kept parent offset cowns.items → May → ⊥
      may_not_spawn none may =
          let spawns = subst (MayHappen p (config_of p log)) is may in
          no_child_may p ms parent offset cowns.items (subst (λ ss. NoChild ss parent offset cowns.items) f.rows_are none) spawns.2

      pub spawn_goes : (child : Standing) (rows' : List FollowedRow) → IsChild kept parent offset cowns.items child
          → map standing_in rows' ≡ changed kept parent with_one_more (slice_get kept parent) ++ child ∷ [] → IsFollowing p n (log ++ event ∷ []) rows' values
      spawn_goes child rows' made put =
          let own = subst (λ ss. IsChild ss parent offset cowns.items child) f.rows_are made in
          goes_on event rows' values (may_spawn child made)
          (put ∙ ap (λ ss. changed ss parent with_one_more (slice_get ss parent) ++ child ∷ []) f.rows_are ∙ sym
          (child_rows p ms parent offset cowns.items child own)
          ∙ ap (λ e. map (standing_of p) (config_after p (config_of p log) e).members) (sym is))
          (f.values_are ∙ ap (λ e. (config_after p (config_of p log) e).values) (sym is))

    -- ---- a start

    module _ {row : ℕ} (is : event ≡ Start row) where
      pub may_start_now : May
      may_start_now =
          let starts = subst (IsAllowed (cown_count p.cowns) (entries log)) is allowed in
          subst (MayHappen p (config_of p log)) (sym is) (may_start p log f.run row (starts.keeps rule.StartNotAllowed))

      pending : state_of ms row ≡ Some Pending
      pending = (subst (MayHappen p (config_of p log)) is may_start_now).waits

      pub start_there : row < length rows
      start_there = omega (arith, row_count, living_there ms row Pending pending)

      pub start_fits : (s : Standing) → slice_get kept row ≡ Some s → CanStart p (length values) s
      start_fits s at = can_start p ms (length values) fits value_count row s (sym (ap (λ ss. slice_get ss row) f.rows_are) ∙ at)

      pub start_goes : (rows' : List FollowedRow) → map standing_in rows' ≡ changed kept row (started_in p values) (slice_get kept row)
          → IsFollowing p n (log ++ event ∷ []) rows' values
      start_goes rows' put =
          goes_on event rows' values may_start_now
          (put ∙ ap (λ ss. changed ss row (started_in p values) (slice_get ss row)) f.rows_are ∙ ap
          (λ vs. changed stands row (started_in p vs) (slice_get stands row)) f.values_are
          ∙ sym (standings_started p ms (config_of p log).values row fits pending)
          ∙ ap (λ e. map (standing_of p) (config_after p (config_of p log) e).members) (sym is))
          (f.values_are ∙ ap (λ e. (config_after p (config_of p log) e).values) (sym is))

    -- ---- an end

    module _ {row ticks : ℕ} {status : EndStatus} {written : ArrayVec ℕ} (is : event ≡ End row ticks status written) where
      pub end_there : row < length rows
      end_there =
          let ends = subst (IsAllowed (cown_count p.cowns) (entries log)) is allowed in
          omega (arith, row_count, same_count p log f.run, entry_there (entries log) row Running (ends.keeps rule.EndNotAllowed).runs)

      module _ {s : Standing} (at : slice_get kept row ≡ Some s) where
        own : slice_get stands row ≡ Some s
        own = sym (ap (λ ss. slice_get ss row) f.rows_are) ∙ at

        can : EndsSo s ticks status written.items → CanEnd p ms row ticks status written.items
        can ends = can_end p ms row ticks status written.items s own ends

        pub may_end : EndsSo s ticks status written.items → May
        may_end ends = subst (MayHappen p (config_of p log)) (sym is) (can ends)

        pub may_not_end : (EndsSo s ticks status written.items → ⊥) → May → ⊥
        may_not_end other may = other (ends_so p ms row ticks status written.items s own (subst (MayHappen p (config_of p log)) is may))

        pub end_goes : (rows' : List FollowedRow) (values' : List ℤ) → EndsSo s ticks status written.items
            → map standing_in rows' ≡ changed kept row over_in (slice_get kept row)
            → values' ≡ written_at kept row values → IsFollowing p n (log ++ event ∷ []) rows' values'
        end_goes rows' values' ends put wrote =
            let c = can ends in
            let m : Member = c.member in
            let vs = (config_of p log).values in
            let before : values_after_end p vs (slice_get ms row) ≡ values_written vs m.behaviour.cowns (Some c.means) =
            ap (values_after_end p vs) c.is ∙ ap (values_written vs m.behaviour.cowns) c.meant in
            let now : written_at kept row values ≡ values_written vs m.behaviour.cowns (Some c.means) =
            ap (λ o. option_map_or (λ (x : Standing). written_by x values) o values) at
            ∙ ap (λ ws. written_by s ws) f.values_are
            ∙ sym (ap (λ o. option_map_or (λ (x : Standing). written_by x vs) o vs) own)
            ∙ ap (λ o. option_map_or (λ (x : Standing). written_by x vs) o vs) (stands_there m c.is)
            ∙ ap (λ l. written_if (underway_if l (meaning_of p m) m.spawned) m.behaviour.cowns vs) c.runs
            ∙ ap (λ o. written_if (underway_if Running o m.spawned) m.behaviour.cowns vs) c.meant in
            goes_on event rows' values' (may_end ends)
            (put ∙ ap (λ ss. changed ss row over_in (slice_get ss row)) f.rows_are ∙ sym (standings_ended p ms row)
            ∙ ap (λ e. map (standing_of p) (config_after p (config_of p log) e).members) (sym is))
            (wrote ∙ now ∙ sym before ∙ ap (λ e. (config_after p (config_of p log) e).values) (sym is))
          where
            stands_there : (m : Member) → slice_get ms row ≡ Some m → slice_get stands row ≡ Some (standing_of p m)
            stands_there m at = stands_of p ms row m at

      pub end_fits : (s : Standing) → slice_get kept row ≡ Some s → CanWrite (length values) s
      end_fits s at = can_write p ms (length values) fits value_count row s (sym (ap (λ ss. slice_get ss row) f.rows_are) ∙ at)

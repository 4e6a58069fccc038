-- What has happened tells the same of the rows after a further event.
use Rattle.std.proofs.Common.{◌≡◌, ℕ, suc, List, [], ◌∷◌, ◌++◌, length, map, get_or, refl, sym, ◌∙◌, ap, subst, inl, inr, arith}
use Rattle.std.specs.Prelude.{slice_get, slice_set, Option, Some, None, All}
use Rattle.std.proofs.lemmas.Bool.{cases_eq}
use Rattle.std.proofs.lemmas.List.{length-map, map-append}
use Rattle.std.proofs.lemmas.List.Elements.{All-push}
use Rattle.std.proofs.lemmas.Option.{slice_get_within}
use Rattle.boc_runs.specs.declared.event.Event.{Event}
use Rattle.boc_runs.specs.declared.event.Event.TheVariants.{Spawn, Start, End}
use Rattle.boc_runs.specs.declared.event.BrokenRule.TheVariants as rules
use Rattle.boc_runs.specs.declared.events.Deed.{Deed}
use Rattle.boc_runs.specs.declared.events.Deed.TheVariants as deeds
use Rattle.boc_runs.specs.declared.events.Happening.{Happening}
use Rattle.boc_runs.specs.declared.rows.Row.{Row}
use Rattle.boc_runs.specs.Happenings.{event_of, event_at, happening_of, told}
use Rattle.boc_program.specs.Changed.{changed}
use Rattle.boc_runs.specs.Lives.{Life, Pending, Running, Ended, MayStart}
use Rattle.boc_runs.specs.Legal.{Entry, pending, after, life_of, entry_cowns, MayEnd, IsAllowed}
use Rattle.boc_runs.specs.Records.{AreRowsOf}
use Rattle.boc_rules.specs.Logged.{row_of, told_of, HasHappened}
use Rattle.boc_program.proofs.ChangedItems.{set_other, item_at, length-changed, front_item, last_item}
use Rattle.boc_rules.proofs.Lists.{set_same, one_got, got_at}
use Rattle.boc_rules.proofs.Next.{living, life_at, not_pending_ended, not_running_ended}
use Rattle.boc_rules.proofs.KeptRows.{at_entry, rows_of_run}

-- a row after an event: as it was spawned, and unchanged from its end on
record IsLater (old new : Entry) : Type 0 where
  parent : new.parent ≡ old.parent
  offset : new.offset ≡ old.offset
  cowns : new.cowns ≡ old.cowns
  over : old.life ≡ Ended → new.life ≡ Ended
  same : old.life ≡ Ended → row_of new ≡ row_of old

-- each row is there after an event
abbrev AreLater : List Entry → List Entry → Type 0
AreLater rows rows2 = (r : ℕ) (old : Entry) → slice_get rows r ≡ Some old → (new : Entry) × (slice_get rows2 r ≡ Some new) × IsLater old new

stays : (e : Entry) → IsLater e e
stays e = record { parent = refl; offset = refl; cowns = refl; over = λ h. h; same = λ h. refl }

later_changed : (rows : List Entry) (r : ℕ) (f : Entry → Entry) (o : Option Entry) → slice_get rows r ≡ o
    → ((e : Entry) → slice_get rows r ≡ Some e → IsLater e (f e)) → AreLater rows (changed rows r f o)
later_changed rows r f None is goes k e at = (e, at, stays e)
later_changed rows r f (Some x) is goes k e at =
    elim (cases_eq k r) [
      | inl p ↦
          let one : x ≡ e = one_got rows r x e is (got_at rows r k e (sym p) at) in
          (f x, got_at (slice_set rows r (f x)) k r (f x) p (set_same rows r (f x) x is), subst (λ (y : Entry). IsLater y (f x)) one (goes x is))
      | inr p ↦ (e, set_other rows r k (f x) p ∙ at, stays e)
    ]

later_push : (rows rows2 : List Entry) (v : Entry) → AreLater rows rows2 → AreLater rows (rows2 ++ (v ∷ []))
later_push rows rows2 v later k e at =
    let x = later k e at in
    (x.0, front_item rows2 v k (slice_get_within rows2 k x.0 x.1) ∙ x.1, x.2)

same_life : (rows : List Entry) (r : ℕ) (e : Entry) (l : Life) → slice_get rows r ≡ Some e → life_of rows r ≡ Some l → e.life ≡ l
same_life rows r e l at is = let f : Some e.life ≡ Some l = sym (life_at rows r e at) ∙ is in cc

later_more : (count : ℕ) (rows : List Entry) (event : Event) → IsAllowed count rows event → AreLater rows (after rows event)
later_more count rows (Spawn row parent offset cowns) a =
    later_push rows (changed rows parent (λ e. record e { last = offset }) (slice_get rows parent)) (pending parent offset cowns.items)
    (later_changed rows parent (λ e. record e { last = offset }) (slice_get rows parent) refl
    (λ e at. record { parent = refl; offset = refl; cowns = refl; over = λ h. h; same = λ h. refl }))
later_more count rows (Start row) a =
    let may : MayStart (life_of rows) (entry_cowns rows) row = a.keeps rules.StartNotAllowed in
    later_changed rows row (λ e. record e { life = Running }) (slice_get rows row) refl
    (λ e at.
    let waits = same_life rows row e Pending at may.waits in
    record { parent = refl; offset = refl; cowns = refl; over = λ h. absurd (not_pending_ended (sym waits ∙ h)); same = λ h. refl })
later_more count rows (End row ticks status written) a =
    let may : MayEnd rows row ticks written.items = a.keeps rules.EndNotAllowed in
    later_changed rows row (λ e. record e { life = Ended; ticks = ticks; status = status; written = written.items }) (slice_get rows row) refl
    (λ e at.
    let runs = same_life rows row e Running at may.runs in
    record { parent = refl; offset = refl; cowns = refl; over = λ h. refl; same = λ h. absurd (not_running_ended (sym runs ∙ h)) })

tells_same : (n : ℕ) (d : Deed) (old new : Entry) → IsLater old new → (d ≡ deeds.Ended → old.life ≡ Ended)
    → event_of n (row_of new) d ≡ event_of n (row_of old) d
tells_same n deeds.Spawned old new l over = λ i. Spawn n (l.parent i) (l.offset i) (record { items = l.cowns i })
tells_same n deeds.Started old new l over = refl
tells_same n deeds.Ended old new l over = ap (λ (x : Row). event_of n x deeds.Ended) (l.same (over refl))

-- what a happening tells of the rows so far
abbrev told_one : List Entry → Happening → Event
told_one rows h = event_at h.row (slice_get (map row_of rows) h.row) h.deed

one_same : (rows rows2 : List Entry) (h : Happening) → AreLater rows rows2 → HasHappened rows h → told_one rows2 h ≡ told_one rows h
one_same rows rows2 h later has =
    let e = item_at rows h.row has.there in
    let x = later h.row e.0 e.1 in
    ap (λ (o : Option Row). event_at h.row o h.deed) (at_entry rows2 h.row x.0 x.1)
    ∙ tells_same h.row h.deed e.0 x.0 x.2 (λ d. same_life rows h.row e.0 Ended e.1 (has.over d))
    ∙ sym (ap (λ (o : Option Row). event_at h.row o h.deed) (at_entry rows h.row e.0 e.1))

all_same : (rows rows2 : List Entry) (happenings : List Happening) → AreLater rows rows2 → All (HasHappened rows) happenings
    → told_of rows2 happenings ≡ told_of rows happenings
all_same rows rows2 [] later all = refl
all_same rows rows2 (h ∷ happenings) later all =
    ap (λ (x : Event). x ∷ told_of rows2 happenings) (one_same rows rows2 h later (all 0 h (omega arith)))
    ∙ ap (λ (xs : List Event). told_one rows h ∷ xs) (all_same rows rows2 happenings later (λ k d less. all (suc k) d (omega arith)))

happened_later : (rows rows2 : List Entry) (h : Happening) → AreLater rows rows2 → HasHappened rows h → HasHappened rows2 h
happened_later rows rows2 h later has =
    let e = item_at rows h.row has.there in
    let x = later h.row e.0 e.1 in record {
      there = slice_get_within rows2 h.row x.0 x.1;
      over = λ d. life_at rows2 h.row x.0 x.1 ∙ ap (λ (l : Life). Some l) (x.2.over (same_life rows h.row e.0 Ended e.1 (has.over d)));
    }

-- the row of an event after it
record IsTold (rows : List Entry) (event : Event) : Type 0 where
  entry : Entry
  is : slice_get (after rows event) (happening_of event).row ≡ Some entry
  tells : event_of (happening_of event).row (row_of entry) (happening_of event).deed ≡ event
  over : (happening_of event).deed ≡ deeds.Ended → entry.life ≡ Ended

not_spawned_ended : deeds.Spawned ≡ deeds.Ended → ⊥
not_spawned_ended e = cc

not_started_ended : deeds.Started ≡ deeds.Ended → ⊥
not_started_ended e = cc

changed_at : (rows : List Entry) (r : ℕ) (f : Entry → Entry) (e : Entry) → slice_get rows r ≡ Some e
    → slice_get (changed rows r f (slice_get rows r)) r ≡ Some (f e)
changed_at rows r f e at = ap (λ (o : Option Entry). slice_get (changed rows r f o) r) at ∙ set_same rows r (f e) e at

told_new : (count : ℕ) (rows : List Entry) (event : Event) → IsAllowed count rows event → IsTold rows event
told_new count rows (Spawn row parent offset cowns) a =
    let first = changed rows parent (λ e. record e { last = offset }) (slice_get rows parent) in
    let v = pending parent offset cowns.items in
    let next : row ≡ length rows = a.keeps rules.NumberNotNext in record {
      entry = v;
      is = got_at (first ++ (v ∷ [])) row (length first) v
          (next ∙ sym (length-changed rows parent (λ (e : Entry). record e { last = offset }) (slice_get rows parent))) (last_item first v);
      tells = refl;
      over = λ d. absurd (not_spawned_ended d);
    }
told_new count rows (Start row) a =
    let may : MayStart (life_of rows) (entry_cowns rows) row = a.keeps rules.StartNotAllowed in
    let e = living rows row Pending may.waits in record {
      entry = record e.0 { life = Running };
      is = changed_at rows row (λ e. record e { life = Running }) e.0 e.1;
      tells = refl;
      over = λ d. absurd (not_started_ended d);
    }
told_new count rows (End row ticks status written) a =
    let may : MayEnd rows row ticks written.items = a.keeps rules.EndNotAllowed in
    let e = living rows row Running may.runs in record {
      entry = record e.0 { life = Ended; ticks = ticks; status = status; written = written.items };
      is = changed_at rows row (λ e. record e { life = Ended; ticks = ticks; status = status; written = written.items }) e.0 e.1;
      tells = refl;
      over = λ d. refl;
    }

-- an event that is allowed is told behind the others, which are told as before
pub told_more : (count : ℕ) (rows : List Entry) (happenings : List Happening) (event : Event) → All (HasHappened rows) happenings → IsAllowed count rows event
    → told_of (after rows event) (happenings ++ (happening_of event ∷ [])) ≡ told_of rows happenings ++ (event ∷ [])
told_more count rows happenings event all a =
    let rows2 = after rows event in
    let t = told_new count rows event a in
    map-append (told_one rows2) happenings (happening_of event ∷ [])
    ∙ ap (λ (xs : List Event). xs ++ (told_one rows2 (happening_of event) ∷ [])) (all_same rows rows2 happenings (later_more count rows event a) all)
    ∙ ap (λ (x : Event). told_of rows happenings ++ (x ∷ []))
    (ap (λ (o : Option Row). event_at (happening_of event).row o (happening_of event).deed) (at_entry rows2 (happening_of event).row t.entry t.is)
    ∙ t.tells)

-- and has happened
pub happened_more : (count : ℕ) (rows : List Entry) (happenings : List Happening) (event : Event) → All (HasHappened rows) happenings
    → IsAllowed count rows event
    → All (HasHappened (after rows event)) (happenings ++ (happening_of event ∷ []))
happened_more count rows happenings event all a =
    let rows2 = after rows event in
    let t = told_new count rows event a in
    All-push (HasHappened rows2) happenings (happening_of event)
    (λ k d less. happened_later rows rows2 (get_or happenings k d) (later_more count rows event a) (all k d less))
    (record {
      there = slice_get_within rows2 (happening_of event).row t.entry t.is;
      over = λ d. life_at rows2 (happening_of event).row t.entry t.is ∙ ap (λ (l : Life). Some l) (t.over d);
    })

-- there are as many events as happenings
pub told_length : (rows : List Entry) (happenings : List Happening) → length (told_of rows happenings) ≡ length happenings
told_length rows happenings = length-map happenings (told_one rows)

-- the happenings tell the log of the rows
pub told_rows : (run : List Entry) (rows : List Row) (happenings : List Happening) → AreRowsOf run rows → told happenings rows ≡ told_of run happenings
told_rows run rows happenings are = ap (told happenings) (sym (rows_of_run run rows are))

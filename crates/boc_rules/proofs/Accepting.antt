-- What is kept of a run stays that of its rows as an event takes it on.
use Rattle.std.proofs.Common.{◌≡◌, ℕ, suc, ◌+◌, ◌<◌, ◌≤◌, List, [], ◌∷◌, ◌++◌, length, map, get_or, refl, sym, ◌∙◌, ap, subst, arith}
use Rattle.std.proofs.Math.ListN.{length-set}
use Rattle.std.specs.Prelude.{slice_get, slice_set, Option, Some, None, All}
use Rattle.std.proofs.lemmas.Option.{slice_get_within}
use Rattle.arrayvec.specs.ArrayVec.{ArrayVec}
use Rattle.boc_program.specs.declared.body.EndStatus.{EndStatus}
use Rattle.boc_runs.specs.declared.event.Event.{Event}
use Rattle.boc_runs.specs.declared.event.Event.TheVariants.{Spawn, Start, End}
use Rattle.boc_runs.specs.declared.event.BrokenRule.TheVariants as rules
use Rattle.boc_program.specs.declared.limits.TheConstants.{MOST_HELD}
use Rattle.boc_runs.specs.declared.rows.Row.{Row}
use Rattle.boc_runs.specs.Lives as lives
use Rattle.boc_program.specs.Changed.{changed}
use Rattle.boc_runs.specs.Lives.{MayStart}
use Rattle.boc_runs.specs.Legal.{Entry, pending, after, life_of, entry_cowns, MayEnd, MayNeed, IsParent, IsAllowed}
use Rattle.boc_runs.specs.Records.{IsRowOf, AreRowsOf}
use Rattle.boc_rules.specs.declared.kept_row.Life.{Life}
use Rattle.boc_rules.specs.declared.kept_row.Life.TheVariants.{Pending, Running, Ended}
use Rattle.boc_rules.specs.declared.kept_row.KeptRow.{KeptRow}
use Rattle.boc_rules.specs.Before.{noted}
use Rattle.boc_rules.specs.Course.{AreLegal}
use Rattle.boc_rules.specs.SoFar.{IsKeptRowOf, AreKeptRowsOf, AreFound, AreLatest, over_one, over, entry_of, entries_of, AreParts, new_row, meant}
use Rattle.boc_rules.proofs.Next.{living, after_more, legal_more}
use Rattle.boc_rules.proofs.KeptRows.{rows_go_on}
use Rattle.boc_rules.proofs.Keeping.{IsSet, kept_rows_set, found_set, latest_set, over_set, kept_rows_push, found_push, latest_push, over_push}
use Rattle.boc_program.proofs.ChangedItems.{item_at}

-- what is kept beside the rows is that of these
pub record IsThatOf (run : List Entry) (cowns : ℕ) (kept_rows : List KeptRow) (found latest : List (Option ℕ)) (ended : ℕ) : Type 0 where
  pub kept_rows_are : AreKeptRowsOf run kept_rows
  pub found_are : AreFound run kept_rows found
  pub latest_are : AreLatest run cowns latest
  pub ended_is : ended ≡ over run

that : (cowns : ℕ) (run : List Entry) (rows : List Row) (kept_rows : List KeptRow) (found latest : List (Option ℕ)) (ended : ℕ)
    → AreParts cowns run rows kept_rows found latest ended → IsThatOf run cowns kept_rows found latest ended
that cowns run rows kept_rows found latest ended k = record
    { kept_rows_are = k.kept_rows_are; found_are = k.found_are; latest_are = k.latest_are; ended_is = k.ended_is }

-- a row and its kept_row tell the entry
same_entry : (e : Entry) (row : Row) (kept_row : KeptRow) → IsRowOf e row → IsKeptRowOf e kept_row → e ≡ entry_of row kept_row
same_entry e row kept_row of at =
    ap (λ x. let y : Entry = record e { parent = x } in y) (sym of.parent)
    ∙ ap (λ x. let y : Entry = record e { parent = row.parent; offset = x } in y) (sym of.offset)
    ∙ ap (λ x. let y : Entry = record e { parent = row.parent; offset = row.offset; cowns = x } in y) (sym of.cowns)
    ∙ ap (λ x. let y : Entry = record e { parent = row.parent; offset = row.offset; cowns = row.cowns.items; life = x } in y) (sym at.life)
    ∙ ap (λ x. let y : Entry = record (entry_of row kept_row) { last = x; ticks = e.ticks; status = e.status; written = e.written } in y) (sym at.last)
    ∙ ap (λ x. let y : Entry = record (entry_of row kept_row) { ticks = x; status = e.status; written = e.written } in y) (sym of.ticks)
    ∙ ap (λ x. let y : Entry = record (entry_of row kept_row) { status = x; written = e.written } in y) (sym of.status)
    ∙ ap (λ x. let y : Entry = record (entry_of row kept_row) { written = x } in y) (sym of.written)

-- rows and their kept_rows tell the run
entries_same : (run : List Entry) (rows : List Row) (kept_rows : List KeptRow) → AreRowsOf run rows → AreKeptRowsOf run kept_rows
    → run ≡ entries_of rows kept_rows
entries_same [] [] kept_rows of at = refl
entries_same [] (row ∷ rows) kept_rows of at = absurd (omega (arith, of.all))
entries_same (e ∷ run) [] kept_rows of at = absurd (omega (arith, of.all))
entries_same (e ∷ run) (row ∷ rows) [] of at = absurd (omega (arith, at.all))
entries_same (e ∷ run) (row ∷ rows) (kept_row ∷ kept_rows) of at =
    let first = same_entry e row kept_row (of.each 0 e row refl refl) (at.each 0 e kept_row refl refl) in
    let rest = entries_same run rows kept_rows (record { all = omega (arith, of.all); each = λ r d x g h. of.each (suc r) d x g h })
    (record { all = omega (arith, at.all); each = λ r d x g h. at.each (suc r) d x g h }) in
    ap (λ x. x ∷ run) first ∙ ap (λ xs. entry_of row kept_row ∷ xs) rest

-- the rows after an event that is allowed are those of a legal log
pub legal_after : (cowns : ℕ) (run : List Entry) (event : Event) → AreLegal cowns run → IsAllowed cowns run event → AreLegal cowns (after run event)
legal_after cowns run event l a = record {
  few = l.few;
  log = l.log ++ (event ∷ []);
  legal = legal_more cowns [] l.log event l.legal (subst (λ (r : List Entry). IsAllowed cowns r event) l.rows_are a);
  rows_are = ap (λ (r : List Entry). after r event) l.rows_are ∙ sym (after_more [] l.log event);
}

-- what is kept is that of the rows of a legal log, which are these
pub record Goes (cowns : ℕ) (later : List Entry) (rows : List Row) (kept_rows : List KeptRow) (found latest : List (Option ℕ)) (ended : ℕ) : Type 0 where
  pub kept : AreParts cowns (entries_of rows kept_rows) rows kept_rows found latest ended
  pub rows_are : entries_of rows kept_rows ≡ later

goes : (cowns : ℕ) (run : List Entry) (event : Event) (rows : List Row) (kept_rows : List KeptRow) (found latest : List (Option ℕ)) (ended : ℕ)
    → AreLegal cowns run
    → IsAllowed cowns run event
    → AreRowsOf (after run event) rows → IsThatOf (after run event) cowns kept_rows found latest ended
    → Goes cowns (after run event) rows kept_rows found latest ended
goes cowns run event rows kept_rows found latest ended l a are t =
    let e = entries_same (after run event) rows kept_rows are t.kept_rows_are in
    let k : AreParts cowns (after run event) rows kept_rows found latest ended = record {
      legal = legal_after cowns run event l a;
      rows_are = are;
      kept_rows_are = t.kept_rows_are;
      found_are = t.found_are;
      latest_are = t.latest_are;
      ended_is = t.ended_is;
    } in
    record { kept = subst (λ (r : List Entry). AreParts cowns r rows kept_rows found latest ended) e k; rows_are = sym e }

-- the row of a life goes on to another, with its cowns and its children as before
that_goes_on : (run : List Entry) (cowns : ℕ) (kept_rows : List KeptRow) (found latest : List (Option ℕ)) (ended later row : ℕ) (from : lives.Life)
    (f : Entry → Entry) (now : Life) → IsThatOf run cowns kept_rows found latest ended → life_of run row ≡ Some from
    → ((e : Entry) → (f e).cowns ≡ e.cowns) → ((e : Entry) → (f e).last ≡ e.last) → ((e : Entry) → (f e).life ≡ meant now)
    → later + over_one from ≡ ended + over_one (meant now)
    → IsThatOf (changed run row f (slice_get run row)) cowns (changed kept_rows row (λ s. record s { life = now }) (slice_get kept_rows row)) found latest later
that_goes_on run cowns kept_rows found latest ended later row from f now t at cowns_stay last_stays lives counts =
    let e = living run row from at in
    let v : Entry = f e.0 in
    let h : IsSet run row e.0 v = record { is = e.1; cowns = cowns_stay e.0 } in
    let inside : row < length kept_rows = omega (arith, t.kept_rows_are.all, slice_get_within run row e.0 e.1) in
    let x = item_at kept_rows row inside in
    let y : KeptRow = record x.0 { life = now } in
    let was = t.kept_rows_are.each row e.0 x.0 e.1 x.1 in
    let counted = over_set run row e.0 v e.1 in
    subst (λ (r : List Entry). IsThatOf r cowns (changed kept_rows row (λ s. record s { life = now }) (slice_get kept_rows row)) found latest later)
    (sym (ap (changed run row f) e.1))
    (subst (λ (s : List KeptRow). IsThatOf (slice_set run row v) cowns s found latest later)
    (sym (ap (changed kept_rows row (λ s. record s { life = now })) x.1))
    (record {
      kept_rows_are =
          kept_rows_set run kept_rows row e.0 v x.0 y t.kept_rows_are h x.1 (record { life = sym (lives e.0); last = was.last ∙ sym (last_stays e.0) });
      found_are = found_set run kept_rows found row e.0 v x.0 y t.found_are h x.1 refl refl;
      latest_are = latest_set run row e.0 v cowns latest t.latest_are h;
      ended_is = omega (arith, counted, ap over_one e.2, ap over_one (lives e.0), counts, t.ended_is);
    }))

-- the parent has a further child
that_child : (run : List Entry) (cowns : ℕ) (kept_rows : List KeptRow) (found latest : List (Option ℕ)) (ended parent offset : ℕ) (e : Entry) (x : KeptRow)
    → IsThatOf run cowns kept_rows found latest ended → slice_get run parent ≡ Some e → slice_get kept_rows parent ≡ Some x
    → IsThatOf (slice_set run parent (record e { last = offset })) cowns (slice_set kept_rows parent (record x { last = offset })) found latest ended
that_child run cowns kept_rows found latest ended parent offset e x t is at =
    let v : Entry = record e { last = offset } in
    let h : IsSet run parent e v = record { is = is; cowns = refl } in
    let was = t.kept_rows_are.each parent e x is at in
    let counted = over_set run parent e v is in record {
      kept_rows_are = kept_rows_set run kept_rows parent e v x (record x { last = offset }) t.kept_rows_are h at (record { life = was.life; last = refl });
      found_are = found_set run kept_rows found parent e v x (record x { last = offset }) t.found_are h at refl refl;
      latest_are = latest_set run parent e v cowns latest t.latest_are h;
      ended_is = omega (arith, counted, t.ended_is);
    }

abbrev new_kept_row : List (Option ℕ) → ArrayVec ℕ → KeptRow
new_kept_row found cowns = record { life = Pending; last = 0; from = length found; to = length found + length cowns.items }

-- a new row stands behind the others
that_push : (run : List Entry) (count : ℕ) (kept_rows : List KeptRow) (found latest : List (Option ℕ)) (ended row parent offset : ℕ) (cowns : ArrayVec ℕ)
    → IsThatOf run count kept_rows found latest ended → row ≡ length run → All (λ c. c < count) cowns.items → length cowns.items ≤ MOST_HELD
    → IsThatOf (run ++ (pending parent offset cowns.items ∷ [])) count (kept_rows ++ (new_kept_row found cowns ∷ []))
    (found ++ map (λ c. get_or latest c None) cowns.items) (noted latest cowns.items row) ended
that_push run count kept_rows found latest ended row parent offset cowns t next below held =
    let v = pending parent offset cowns.items in record {
      kept_rows_are = kept_rows_push run kept_rows v (new_kept_row found cowns) t.kept_rows_are (record { life = refl; last = refl });
      found_are = found_push run kept_rows found v (new_kept_row found cowns) count latest t.kept_rows_are t.found_are t.latest_are below held refl refl;
      latest_are = subst (λ (n : ℕ). AreLatest (run ++ (v ∷ [])) count (noted latest cowns.items n)) (sym next) (latest_push run v count latest t.latest_are);
      ended_is = omega (arith, over_push run v, t.ended_is);
    }

no_kept_rows : (kept_rows : List KeptRow) → length kept_rows ≡ 0 → kept_rows ≡ []
no_kept_rows [] e = refl
no_kept_rows (x ∷ kept_rows) e = absurd (omega arith)

that_spawn : (run : List Entry) (count : ℕ) (kept_rows : List KeptRow) (found latest : List (Option ℕ)) (ended row parent offset : ℕ) (cowns : ArrayVec ℕ)
    → IsThatOf run count kept_rows found latest ended → row ≡ length run
    → IsParent run parent → MayNeed count run cowns.items → length cowns.items ≤ MOST_HELD
    → IsThatOf (changed run parent (λ x. record x { last = offset }) (slice_get run parent) ++ (pending parent offset cowns.items ∷ [])) count
    (changed kept_rows parent (λ s. record s { last = offset }) (slice_get kept_rows parent) ++ (new_kept_row found cowns ∷ []))
    (found ++ map (λ c. get_or latest c None) cowns.items) (noted latest cowns.items row) ended
that_spawn [] count kept_rows found latest ended row parent offset cowns t next p m held =
    let none : kept_rows ≡ [] = no_kept_rows kept_rows t.kept_rows_are.all in
    let same : changed kept_rows parent (λ s. record s { last = offset }) (slice_get kept_rows parent) ≡ kept_rows =
    subst (λ (s : List KeptRow). changed s parent (λ s. record s { last = offset }) (slice_get s parent) ≡ s) (sym none) refl in
    subst (λ (s : List KeptRow). IsThatOf (pending parent offset cowns.items ∷ []) count (s ++ (new_kept_row found cowns ∷ []))
    (found ++ map (λ c. get_or latest c None) cowns.items) (noted latest cowns.items row) ended) (sym same)
    (that_push [] count kept_rows found latest ended row parent offset cowns t next
    (subst (λ (cs : List ℕ). All (λ c. c < count) cs) (sym m) (λ k d h. absurd (omega arith))) held)
that_spawn (main ∷ others) count kept_rows found latest ended row parent offset cowns t next p m held =
    let run = main ∷ others in
    let e = living run parent lives.Running p in
    let inside : parent < length kept_rows = omega (arith, t.kept_rows_are.all, slice_get_within run parent e.0 e.1) in
    let x = item_at kept_rows parent inside in
    let v : Entry = record e.0 { last = offset } in
    let y : KeptRow = record x.0 { last = offset } in
    subst (λ (r : List Entry). IsThatOf (r ++ (pending parent offset cowns.items ∷ [])) count
    (changed kept_rows parent (λ s. record s { last = offset }) (slice_get kept_rows parent) ++ (new_kept_row found cowns ∷ []))
    (found ++ map (λ c. get_or latest c None) cowns.items) (noted latest cowns.items row) ended)
    (sym (ap (changed run parent (λ z. record z { last = offset })) e.1))
    (subst (λ (s : List KeptRow). IsThatOf (slice_set run parent v ++ (pending parent offset cowns.items ∷ [])) count (s ++ (new_kept_row found cowns ∷ []))
    (found ++ map (λ c. get_or latest c None) cowns.items) (noted latest cowns.items row) ended)
    (sym (ap (changed kept_rows parent (λ s. record s { last = offset })) x.1))
    (that_push (slice_set run parent v) count (slice_set kept_rows parent y) found latest ended row parent offset cowns
    (that_child run count kept_rows found latest ended parent offset e.0 x.0 t e.1 x.1) (next ∙ sym (length-set run parent v)) m.below held))

may_start : (run : List Entry) (row : ℕ) → MayStart (life_of run) (entry_cowns run) row → life_of run row ≡ Some lives.Pending
may_start run row may = may.waits

may_end : (run : List Entry) (row ticks : ℕ) (written : List ℕ) → MayEnd run row ticks written → life_of run row ≡ Some lives.Running
may_end run row ticks written may = may.runs

pub keeps_start : (cowns : ℕ) (run : List Entry) (rows : List Row) (kept_rows : List KeptRow) (found latest : List (Option ℕ)) (ended row : ℕ)
    → AreParts cowns run rows kept_rows found latest ended → IsAllowed cowns run (Start row)
    → Goes cowns (after run (Start row)) rows (changed kept_rows row (λ s. record s { life = Running }) (slice_get kept_rows row)) found latest ended
keeps_start cowns run rows kept_rows found latest ended row k a =
    goes cowns run (Start row) rows (changed kept_rows row (λ s. record s { life = Running }) (slice_get kept_rows row)) found latest ended k.legal a
    (rows_go_on run rows (Start row) k.rows_are)
    (that_goes_on run cowns kept_rows found latest ended ended row lives.Pending (λ x. record x { life = lives.Running }) Running
    (that cowns run rows kept_rows found latest ended k)
    (may_start run row (a.keeps rules.StartNotAllowed)) (λ e. refl) (λ e. refl) (λ e. refl) refl)

pub keeps_end : (cowns : ℕ) (run : List Entry) (rows : List Row) (kept_rows : List KeptRow) (found latest : List (Option ℕ)) (ended row ticks : ℕ)
    (status : EndStatus) (written : ArrayVec ℕ) → AreParts cowns run rows kept_rows found latest ended → IsAllowed cowns run (End row ticks status written)
    → Goes cowns (after run (End row ticks status written))
    (changed rows row (λ x. record x { ticks = ticks; status = status; written = written }) (slice_get rows row))
    (changed kept_rows row (λ s. record s { life = Ended }) (slice_get kept_rows row)) found latest (ended + 1)
keeps_end cowns run rows kept_rows found latest ended row ticks status written k a =
    goes cowns run (End row ticks status written) (changed rows row (λ x. record x { ticks = ticks; status = status; written = written }) (slice_get rows row))
    (changed kept_rows row (λ s. record s { life = Ended }) (slice_get kept_rows row)) found latest (ended + 1) k.legal a
    (rows_go_on run rows (End row ticks status written) k.rows_are)
    (that_goes_on run cowns kept_rows found latest ended (ended + 1) row lives.Running
    (λ x. record x { life = lives.Ended; ticks = ticks; status = status; written = written.items }) Ended
    (that cowns run rows kept_rows found latest ended k) (may_end run row ticks written.items (a.keeps rules.EndNotAllowed)) (λ e. refl) (λ e. refl) (λ e. refl)
    (omega arith))

pub keeps_spawn : (count : ℕ) (run : List Entry) (rows : List Row) (kept_rows : List KeptRow) (found latest : List (Option ℕ)) (ended row parent offset : ℕ)
    (cowns : ArrayVec ℕ) → AreParts count run rows kept_rows found latest ended → IsAllowed count run (Spawn row parent offset cowns)
    → Goes count (after run (Spawn row parent offset cowns)) (rows ++ (new_row parent offset cowns ∷ []))
    (changed kept_rows parent (λ s. record s { last = offset }) (slice_get kept_rows parent) ++ (new_kept_row found cowns ∷ []))
    (found ++ map (λ c. get_or latest c None) cowns.items) (noted latest cowns.items row) ended
keeps_spawn count run rows kept_rows found latest ended row parent offset cowns k a =
    goes count run (Spawn row parent offset cowns) (rows ++ (new_row parent offset cowns ∷ []))
    (changed kept_rows parent (λ s. record s { last = offset }) (slice_get kept_rows parent) ++ (new_kept_row found cowns ∷ []))
    (found ++ map (λ c. get_or latest c None) cowns.items) (noted latest cowns.items row) ended k.legal a
    (rows_go_on run rows (Spawn row parent offset cowns) k.rows_are)
    (that_spawn run count kept_rows found latest ended row parent offset cowns (that count run rows kept_rows found latest ended k)
    (a.keeps rules.NumberNotNext)
    (a.keeps rules.ParentNotRunning) (a.keeps rules.Cowns) a.bounds.4)

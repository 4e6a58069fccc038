-- What a kept_row says of its row, and what a legal event finds there.
use Rattle.std.proofs.Common.{◌≡◌, ℕ, ◌*◌, ◌<◌, ◌≤◌, ◌↔◌, List, [], ◌∷◌, length, get_or, refl, sym, ◌∙◌, ap, subst, arith}
use Rattle.std.proofs.Math.ListN.{length-set}
use Rattle.std.specs.Prelude.{slice_get, slice_set, slice_range, Option, Some, All}
use Rattle.std.specs.Option.{option_map_or}
use Rattle.std.proofs.lemmas.Option.{slice_get_read, slice_get_past, slice_get_within}
use Rattle.arrayvec.specs.ArrayVec.{ArrayVec}
use Rattle.boc_program.specs.declared.body.EndStatus.{EndStatus}
use Rattle.boc_runs.specs.declared.event.Event.{Event}
use Rattle.boc_runs.specs.declared.event.Event.TheVariants.{Spawn, Start, End}
use Rattle.boc_runs.specs.declared.event.BrokenRule.TheVariants as rules
use Rattle.boc_runs.specs.declared.rows.Row.{Row}
use Rattle.boc_program.specs.declared.limits.TheConstants.{MOST_COWNS, MOST_HELD, MOST_ROWS}
use Rattle.boc_runs.specs.Lives as lives
use Rattle.boc_runs.specs.Lives.{MayStart}
use Rattle.boc_runs.specs.Legal.{Entry, after, life_of, entry_cowns, last_of, MayEnd, MayNeed, IsAllowed}
use Rattle.boc_runs.specs.Rows.{IsRows}
use Rattle.boc_runs.proofs.RunsAreLegal.{smaller, among_below}
use Rattle.boc_rules.specs.declared.kept_row.Life.TheVariants.{Pending, Running, Ended}
use Rattle.boc_rules.specs.declared.kept_row.Life.{Life}
use Rattle.boc_rules.specs.declared.kept_row.KeptRow.{KeptRow}
use Rattle.boc_rules.specs.declared.so_far.RunSoFar.{RunSoFar}
use Rattle.boc_rules.specs.Course.{AreLegal, IsOver}
use Rattle.boc_rules.specs.Before.{IsOverAt}
use Rattle.boc_rules.specs.SoFar.{meant, IsKeptRowOf, AreKeptRowsOf, over_one, over, so_far, IsRunSoFar, IsSpawned, IsStarted, IsEnded}
use Rattle.boc_rules.proofs.Next.{living, cowns_at, life_at, last_at, well_log, not_pending_running, not_pending_ended}
use Rattle.boc_rules.proofs.Starts.{starts, over_before}
use Rattle.boc_rules.proofs.Keeping.{over_set}
use Rattle.boc_rules.proofs.Well.{IsWell}
use Rattle.boc_rules.proofs.Accepting.{Goes, keeps_spawn, keeps_start, keeps_end}
use Rattle.boc_rules.proofs.Finished.{over_few, all_over, over_all, is_rows}
use Rattle.boc_program.proofs.ChangedItems.{item_at}

-- the rows of a legal log are well
pub well_rows : (cowns : ℕ) (rows : List Entry) → AreLegal cowns rows → IsWell cowns rows
well_rows cowns rows l = subst (IsWell cowns) (sym l.rows_are) (well_log cowns l.log l.legal)

-- the entry of a kept_row that was read
pub record IsReadAt (run : List Entry) (kept_rows : List KeptRow) (r : ℕ) (kept_row : KeptRow) : Type 0 where
  pub entry : Entry
  pub was : slice_get run r ≡ Some entry
  pub at : slice_get kept_rows r ≡ Some kept_row
  pub is : IsKeptRowOf entry kept_row

pub read_at : (run : List Entry) (kept_rows : List KeptRow) (r : ℕ) (kept_row : KeptRow) → AreKeptRowsOf run kept_rows → r < length kept_rows
    → kept_row ≡ get_or kept_rows r kept_row
    → IsReadAt run kept_rows r kept_row
read_at run kept_rows r kept_row are less read =
    let at = slice_get_read kept_rows (length kept_rows) r kept_row refl less read in
    let e = item_at run r (omega (arith, are.all, less)) in
    record { entry = e.0; was = e.1; at = at; is = are.each r e.0 kept_row e.1 at }

pub last_read : (run : List Entry) (kept_rows : List KeptRow) (r : ℕ) (kept_row : KeptRow) → AreKeptRowsOf run kept_rows → r < length kept_rows
    → kept_row ≡ get_or kept_rows r kept_row
    → kept_row.last ≡ last_of run r
last_read run kept_rows r kept_row are less read =
    let h = read_at run kept_rows r kept_row are less read in
    h.is.last ∙ sym (last_at run r h.entry h.was)

pub last_past : (run : List Entry) (kept_rows : List KeptRow) (r : ℕ) → AreKeptRowsOf run kept_rows → length kept_rows ≤ r → 0 ≡ last_of run r
last_past run kept_rows r are past = sym (ap (λ (o : Option Entry). option_map_or (λ (x : Entry). x.last) o 0)
    (slice_get_past run r (omega (arith, are.all, past))))

-- a pending row may start where the rows before it on its cowns are over
pub pending_may_start : (run : RunSoFar) (r : ℕ) (kept_row : KeptRow) (before : List (Option ℕ)) → IsRunSoFar run → r < length run.kept_rows.items
    → kept_row ≡ get_or run.kept_rows.items r kept_row → kept_row.life ≡ Pending → before ≡ slice_range run.found.items kept_row.from kept_row.to
    → All (IsOverAt (so_far run)) before ↔ MayStart (life_of (so_far run)) (entry_cowns (so_far run)) r
pending_may_start run r kept_row before k less read waits same =
    let rows = so_far run in
    let h = read_at rows run.kept_rows.items r kept_row k.kept_rows_are less read in
    let life : life_of rows r ≡ Some lives.Pending = life_at rows r h.entry h.was ∙ ap (λ (l : lives.Life). Some l) (sym h.is.life ∙ ap meant waits) in
    let are = k.found_are.before r kept_row h.at in (
      λ over. starts run.cowns rows r (slice_range run.found.items kept_row.from kept_row.to) (well_rows run.cowns (so_far run) k.legal) life are
          (subst (λ (b : List (Option ℕ)). All (IsOverAt rows) b) same over),
      λ may. subst (λ (b : List (Option ℕ)). All (IsOverAt rows) b) (sym same)
          (over_before rows r (slice_range run.found.items kept_row.from kept_row.to) may are),
    )

meant_pending : (l : Life) → meant l ≡ lives.Pending → l ≡ Pending
meant_pending Pending e = refl
meant_pending Running e = absurd (not_pending_running (sym e))
meant_pending Ended e = absurd (not_pending_ended (sym e))

-- and no other row may
pub others_may_not : (run : RunSoFar) (r : ℕ) (kept_row : KeptRow) → IsRunSoFar run → r < length run.kept_rows.items
    → kept_row ≡ get_or run.kept_rows.items r kept_row
    → MayStart (life_of (so_far run)) (entry_cowns (so_far run)) r → kept_row.life ≡ Pending
others_may_not run r kept_row k less read may =
    let rows = so_far run in
    let h = read_at rows run.kept_rows.items r kept_row k.kept_rows_are less read in
    let e : Some h.entry.life ≡ Some lives.Pending = sym (life_at rows r h.entry h.was) ∙ may.waits in
    let f : h.entry.life ≡ lives.Pending = cc in
    meant_pending kept_row.life (h.is.life ∙ f)

need_below : (count : ℕ) (rows : List Entry) (cowns : List ℕ) → MayNeed count rows cowns → All (λ c. c < count) cowns
need_below count [] cowns m = subst (λ (cs : List ℕ). All (λ c. c < count) cs) (sym m) (λ k d h. absurd (omega arith))
need_below count (main ∷ others) cowns m = m.below

-- the cowns that an allowed event names have bytes
pub spawn_small : (count : ℕ) (rows : List Entry) (row parent offset : ℕ) (cowns : ArrayVec ℕ) → count ≤ MOST_COWNS
    → IsAllowed count rows (Spawn row parent offset cowns) → All (λ c. c < MOST_COWNS) cowns.items
spawn_small count rows row parent offset cowns few a = smaller count MOST_COWNS cowns.items few (need_below count rows cowns.items (a.keeps rules.Cowns))

pub written_small : (count : ℕ) (rows : List Entry) (row ticks : ℕ) (status : EndStatus) (written : ArrayVec ℕ) → AreLegal count rows
    → IsAllowed count rows (End row ticks status written) → All (λ c. c < MOST_COWNS) written.items
written_small count rows row ticks status written l a =
    let may : MayEnd rows row ticks written.items = a.keeps rules.EndNotAllowed in
    let e = living rows row lives.Running may.runs in
    among_below MOST_COWNS (entry_cowns rows row) written.items
    (smaller count MOST_COWNS (entry_cowns rows row) l.few
    (subst (λ (cs : List ℕ). All (λ c. c < count) cs) (sym (cowns_at rows row e.0 e.1)) ((well_rows count rows l).cowned row e.0 e.1).below))
    may.own.own

-- An event that is allowed finds what it needs.
pub record IsSpawnable (run : RunSoFar) (row : ℕ) (cowns : ArrayVec ℕ) : Type 0 where
  pub there : All (λ c. c < length run.latest.items) cowns.items
  pub small : All (λ c. c < MOST_COWNS) cowns.items
  pub next : row < MOST_ROWS
  pub few : length run.found.items ≤ MOST_HELD * MOST_ROWS

pub spawn_finds : (run : RunSoFar) {event : Event} {row parent offset : ℕ} {cowns : ArrayVec ℕ} → event ≡ Spawn row parent offset cowns → IsRunSoFar run
    → IsAllowed run.cowns (so_far run) event → IsSpawnable run row cowns
spawn_finds run {row = row} {parent = parent} {offset = offset} {cowns = cowns} is k allowed = let a = subst (IsAllowed run.cowns (so_far run)) is allowed in
    record {
      there = subst (λ (n : ℕ). All (λ c. c < n) cowns.items) (sym k.latest_are.all) (need_below run.cowns (so_far run) cowns.items (a.keeps rules.Cowns));
      small = spawn_small run.cowns (so_far run) row parent offset cowns k.legal.few a;
      next = a.keeps rules.TooMany;
      few = omega (arith, k.found_are.few, (well_rows run.cowns (so_far run) k.legal).few);
    }

pub there : (rows : List Entry) (r : ℕ) (l : lives.Life) → life_of rows r ≡ Some l → r < length rows
there rows r l h = let e = living rows r l h in slice_get_within rows r e.0 e.1

pub start_finds : (run : RunSoFar) {event : Event} {row : ℕ} → event ≡ Start row → IsRunSoFar run → IsAllowed run.cowns (so_far run) event
    → row < length run.kept_rows.items
start_finds run {row = row} is k allowed =
    let a = subst (IsAllowed run.cowns (so_far run)) is allowed in
    let may : MayStart (life_of (so_far run)) (entry_cowns (so_far run)) row = a.keeps rules.StartNotAllowed in
    omega (arith, k.kept_rows_are.all, there (so_far run) row lives.Pending may.waits)

-- what the end of a row needs
pub record IsEndable (run : RunSoFar) (row : ℕ) (written : ArrayVec ℕ) : Type 0 where
  pub kept : row < length run.kept_rows.items
  pub placed : row < length run.rows.items
  pub small : All (λ c. c < MOST_COWNS) written.items
  pub few : run.ended < MOST_ROWS

pub end_finds : (run : RunSoFar) {event : Event} {row ticks : ℕ} {status : EndStatus} {written : ArrayVec ℕ} → event ≡ End row ticks status written
    → IsRunSoFar run → IsAllowed run.cowns (so_far run) event → IsEndable run row written
end_finds run {row = row} {ticks = ticks} {status = status} {written = written} is k allowed =
    let a = subst (IsAllowed run.cowns (so_far run)) is allowed in
    let rows = so_far run in
    let may : MayEnd rows row ticks written.items = a.keeps rules.EndNotAllowed in
    let e = living rows row lives.Running may.runs in
    let v : Entry = record e.0 { life = lives.Ended } in
    let inside = slice_get_within rows row e.0 e.1 in
    let w = well_rows run.cowns (so_far run) k.legal in record {
      kept = omega (arith, k.kept_rows_are.all, inside);
      placed = omega (arith, k.rows_are.all, inside);
      small = written_small run.cowns rows row ticks status written k.legal a;
      few = omega (arith, k.ended_is, over_set rows row e.0 v e.1, ap over_one e.2, over_few (slice_set rows row v), length-set rows row v, w.few);
    }

-- what is kept of a run is that of these rows
abbrev pub HasGone : RunSoFar → List Entry → Type 0
HasGone run later = Goes run.cowns later run.rows.items run.kept_rows.items run.found.items run.latest.items run.ended

-- so it is after an event, where these rows are kept
gone_as : (old new : RunSoFar) {event given : Event} {rows : List Row} {kept_rows : List KeptRow} {found latest : List (Option ℕ)} {ended : ℕ} → event ≡ given
    → IsAllowed old.cowns (so_far old) event → (IsAllowed old.cowns (so_far old) given
    → Goes old.cowns (after (so_far old) given) rows kept_rows found latest ended)
    → new.cowns ≡ old.cowns → new.rows.items ≡ rows → new.kept_rows.items ≡ kept_rows → new.found.items ≡ found → new.latest.items ≡ latest → new.ended ≡ ended
    → HasGone new (after (so_far old) event)
gone_as old new {given = given} {rows = rows} {kept_rows = kept_rows} {found = found} {latest = latest} {ended = ended} is allowed goes a c d g e f =
    let later = after (so_far old) given in
    let k = goes (subst (IsAllowed old.cowns (so_far old)) is allowed) in
    subst (λ (x : Event). HasGone new (after (so_far old) x)) (sym is)
    (subst (λ (x : ℕ). Goes x later new.rows.items new.kept_rows.items new.found.items new.latest.items new.ended) (sym a)
    (subst (λ (x : List Row). Goes old.cowns later x new.kept_rows.items new.found.items new.latest.items new.ended) (sym c)
    (subst (λ (x : List KeptRow). Goes old.cowns later rows x new.found.items new.latest.items new.ended) (sym d)
    (subst (λ (x : List (Option ℕ)). Goes old.cowns later rows kept_rows x new.latest.items new.ended) (sym g)
    (subst (λ (x : List (Option ℕ)). Goes old.cowns later rows kept_rows found x new.ended) (sym e)
    (subst (λ (x : ℕ). Goes old.cowns later rows kept_rows found latest x) (sym f) k))))))

-- The run is kept after an event.
pub kept_spawn : {old new : RunSoFar} {event : Event} {row parent offset : ℕ} {cowns given : ArrayVec ℕ} → event ≡ Spawn row parent offset cowns
    → IsRunSoFar old → IsAllowed old.cowns (so_far old) event
    → given ≡ cowns → IsSpawned old new row parent offset given → HasGone new (after (so_far old) event)
kept_spawn {old = old} {new = new} {row = row} {parent = parent} {offset = offset} {cowns = cowns} is k allowed same spawned =
    let h = subst (IsSpawned old new row parent offset) same spawned in
    gone_as old new is allowed
    (keeps_spawn old.cowns (so_far old) old.rows.items old.kept_rows.items old.found.items old.latest.items old.ended row parent offset
    cowns k)
    h.cowns_stay h.rows h.kept_rows h.found h.latest h.ended

pub kept_start : {old new : RunSoFar} {event : Event} {row : ℕ} → event ≡ Start row → IsRunSoFar old → IsAllowed old.cowns (so_far old) event
    → IsStarted old new row → HasGone new (after (so_far old) event)
kept_start {old = old} {new = new} {row = row} is k allowed h =
    gone_as old new is allowed (keeps_start old.cowns (so_far old) old.rows.items old.kept_rows.items old.found.items old.latest.items old.ended row k)
    h.cowns_stay h.rows_stay h.kept_rows h.found_stays h.latest_stay h.ended

pub kept_end : {old new : RunSoFar} {event : Event} {row ticks : ℕ} {status : EndStatus} {written given : ArrayVec ℕ} → event ≡ End row ticks status written
    → IsRunSoFar old → IsAllowed old.cowns (so_far old) event
    → given ≡ written → IsEnded old new row ticks status given → HasGone new (after (so_far old) event)
kept_end {old = old} {new = new} {row = row} {ticks = ticks} {status = status} {written = written} is k allowed same ended =
    let h = subst (IsEnded old new row ticks status) same ended in
    gone_as old new is allowed (keeps_end old.cowns (so_far old) old.rows.items old.kept_rows.items old.found.items old.latest.items old.ended row ticks status
    written k)
    h.cowns_stay h.rows h.kept_rows h.found_stays h.latest_stay h.ended

-- A run is over where all of its rows are.
pub over_is : (rows : List Entry) → 0 < length rows → (over rows ≡ length rows) ↔ IsOver rows
over_is rows some = (λ all. record { some = some; ended = all_over rows all }, λ o. over_all rows o.ended)

pub complete_is : (run : RunSoFar) → IsRunSoFar run → 0 < length run.rows.items → (run.ended ≡ length run.rows.items) ↔ IsOver (so_far run)
complete_is run k some =
    let is = over_is (so_far run) (omega (arith, k.rows_are.all, some)) in (
      λ all. is.0 (omega (arith, k.ended_is, k.rows_are.all, all)),
      λ o. omega (arith, k.ended_is, k.rows_are.all, is.1 o),
    )

-- the rows of a run that is over have the shape of a record's
pub rows_of_complete : (run : RunSoFar) → IsRunSoFar run → IsOver (so_far run) → IsRows run.rows.items
rows_of_complete run k o = is_rows run.cowns (so_far run) run.rows.items k.legal.few (well_rows run.cowns (so_far run) k.legal) o k.rows_are

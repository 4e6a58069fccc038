-- A turn of a serial run, as its rows tell it.
use Rattle.std.proofs.Common.{◌≡◌, ℕ, Some, ◌+◌, ◌<◌, ◌≤◌, List, [], ◌∷◌, ◌++◌, map, length, drop, ap, sym, ◌∙◌, subst, arith, ℤ, length-drop}
use Rattle.std.specs.Prelude.{slice_index_or}
use Rattle.std.proofs.lemmas.List.{drop_more, drop_all, get_or_append_left, length-map}
use Rattle.boc_program.specs.declared.body.Body.{Body}
use Rattle.boc_program.specs.declared.program.Program.{Program}
use Rattle.boc_program.specs.Programs.{initial_values}
use Rattle.boc_runs.specs.Serial.{Behaviour, main_behaviour}
use Rattle.boc_runs.specs.OwnOrder.{EndsWith}
use Rattle.boc_eval.specs.Faulted.{EndsAs, FaultedRow, turn_fault}
use Rattle.boc_eval.specs.Queue.{HasReached, Turned}
use Rattle.boc_eval.proofs.Queued.{reached_first, reached_next, reached_end}
use Rattle.boc_eval.specs.declared.rows.Rows.{Rows}
use Rattle.boc_eval.specs.Behaviours.{behaviour_in, behaviours_of, behaviour_at, IsConsistent}

pub rows_are : (rows : Rows) → length (behaviours_of rows) ≡ length rows.rows.items
rows_are rows = length-map rows.rows.items (behaviour_in rows.args.items rows.cowns.items)

-- two bodies that are found at one place are the same
pub same_found : (a b : Body) → Some a ≡ Some b → a ≡ b
same_found a b e = cc

-- the behaviours that come behind leave those before them as they are
pub stays_at : (old new : Rows) (more : List Behaviour) (turn : ℕ) → turn < length old.rows.items → behaviours_of new ≡ behaviours_of old ++ more
    → behaviour_at new turn ≡ behaviour_at old turn
stays_at old new more turn h e =
    ap (λ (bs : List Behaviour). slice_index_or bs turn main_behaviour) e
    ∙ get_or_append_left (behaviours_of old) more main_behaviour turn (omega (arith, rows_are old))

-- the behaviour whose turn it is comes before those whose turns are to come
pub in_front : (p : Program) (rows : Rows) (turn : ℕ) (values : List ℤ) (n : ℕ) (faulted : List FaultedRow) → turn < length rows.rows.items
    → HasReached p (drop turn (behaviours_of rows)) values n faulted
    → HasReached p (behaviour_at rows turn ∷ drop (turn + 1) (behaviours_of rows)) values n faulted
in_front p rows turn values n faulted h s =
    subst (λ (q : List Behaviour). HasReached p q values n faulted) (drop_more (behaviours_of rows) turn main_behaviour (omega (arith, rows_are rows))) s

-- where the run stands with main's row alone
pub first_row : (p : Program) (none rows : Rows) (values : List ℤ) (faulted : List FaultedRow) → none.rows.items ≡ []
    → behaviours_of rows ≡ behaviours_of none ++ main_behaviour ∷ [] → values ≡ initial_values p.cowns → faulted ≡ []
    → HasReached p (behaviours_of rows) values (length rows.rows.items) faulted
first_row p none rows values faulted empty added v unfaulted =
    let alone : behaviours_of rows ≡ main_behaviour ∷ [] =
    added ∙ ap (λ rs. map (behaviour_in none.args.items none.cowns.items) rs ++ main_behaviour ∷ []) empty in
    let one : 1 ≡ length rows.rows.items = omega (arith, ap length alone, rows_are rows) in
    subst (λ (fs : List FaultedRow). HasReached p (behaviours_of rows) values (length rows.rows.items) fs) (sym unfaulted)
    (subst (λ (n : ℕ). HasReached p (behaviours_of rows) values n []) one (reached_first p (behaviours_of rows) values alone v))

-- where the run stands after a turn
pub next_row : (p : Program) (old new : Rows) (turn : ℕ) (values after : List ℤ) (faulted more_faulted : List FaultedRow) → turn < length old.rows.items
    → HasReached p (drop turn (behaviours_of old)) values (length old.rows.items) faulted
    → Turned p (behaviour_at old turn) (drop (turn + 1) (behaviours_of old)) values (drop (turn + 1) (behaviours_of new)) after
    → length old.rows.items ≤ length new.rows.items → IsConsistent new → more_faulted ≡ faulted ++ turn_fault p turn (behaviour_at old turn) values
    → HasReached p (drop (turn + 1) (behaviours_of new)) after (length new.rows.items) more_faulted
next_row p old new turn values after faulted more_faulted h s t more sound noted =
    reached_next p (behaviour_at old turn) (drop (turn + 1) (behaviours_of old)) values (length old.rows.items) faulted (drop (turn + 1) (behaviours_of new))
    after (length new.rows.items) turn more_faulted (in_front p old turn values (length old.rows.items) faulted h s) t
    (omega (arith, rows_are old, rows_are new, length-drop (turn + 1) (behaviours_of old), length-drop (turn + 1) (behaviours_of new), h, more))
    sound.few_rows (omega (arith, rows_are old, length-drop (turn + 1) (behaviours_of old), h)) noted

-- the run is over after the turn of the last row
pub last_row : (p : Program) (rows : Rows) (turn : ℕ) (values : List ℤ) (faulted : List FaultedRow) → length rows.rows.items ≤ turn
    → HasReached p (drop turn (behaviours_of rows)) values (length rows.rows.items) faulted → EndsAs p values faulted
last_row p rows turn values faulted h s =
    reached_end p (drop turn (behaviours_of rows)) values (length rows.rows.items) faulted s
    (drop_all turn (behaviours_of rows) (omega (arith, rows_are rows)))

-- the values of a serial run that ends so
pub ends_with : (p : Program) (values : List ℤ) (faulted : List FaultedRow) → EndsAs p values faulted → EndsWith p values
ends_with p values faulted e = record { done = e.done; own = e.own; few = e.few; values_are = e.values_are }

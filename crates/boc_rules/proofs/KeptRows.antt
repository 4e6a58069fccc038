-- The rows of a run as they are kept, and what an event makes of them.
use Rattle.std.proofs.Common.{◌≡◌, ℕ, zero, suc, List, [], ◌∷◌, ◌++◌, map, refl, sym, ◌∙◌, ap, subst, arith}
use Rattle.std.specs.Prelude.{slice_get, Option, Some, None}
use Rattle.std.specs.Option.{option_map}
use Rattle.std.proofs.lemmas.List.{length-map, map-append, map-set}
use Rattle.std.proofs.lemmas.Option.{slice_get-map}
use Rattle.boc_program.specs.declared.body.EndStatus.{EndStatus}
use Rattle.boc_runs.specs.declared.event.Event.{Event}
use Rattle.boc_runs.specs.declared.event.Event.TheVariants.{Spawn, Start, End}
use Rattle.boc_runs.specs.declared.rows.Row.{Row}
use Rattle.boc_runs.specs.Lives as lives
use Rattle.boc_program.specs.Changed.{changed}
use Rattle.boc_runs.specs.Legal.{Entry, pending, after}
use Rattle.boc_runs.specs.Records.{IsRowOf, AreRowsOf}
use Rattle.boc_rules.specs.Logged.{row_of}
use Rattle.boc_rules.specs.RunLog.{rows_after}
use Rattle.boc_rules.specs.SoFar.{new_row}
use Rattle.boc_rules.proofs.Lists.{one_got}

pub at_entry : (rows : List Entry) (r : ℕ) (e : Entry) → slice_get rows r ≡ Some e → slice_get (map row_of rows) r ≡ Some (row_of e)
at_entry rows r e at = slice_get-map row_of rows r ∙ ap (option_map row_of) at

-- a row with these parts
abbrev made : ℕ → ℕ → List ℕ → ℕ → EndStatus → List ℕ → Row
made parent offset cowns ticks status written = record
    { parent = parent; offset = offset; cowns = record { items = cowns }; ticks = ticks; status = status; written = record { items = written } }

row_is : (e : Entry) (x : Row) → IsRowOf e x → row_of e ≡ x
row_is e x is =
    λ i. made (sym is.parent i) (sym is.offset i) (sym is.cowns i) (sym is.ticks i) (sym is.status i) (sym is.written i)

-- the rows so far are those of the run
pub rows_of_run : (run : List Entry) (rows : List Row) → AreRowsOf run rows → map row_of run ≡ rows
rows_of_run [] [] are = refl
rows_of_run [] (x ∷ rows) are = absurd (let e = are.all in omega arith)
rows_of_run (e ∷ run) [] are = absurd (let f = are.all in omega arith)
rows_of_run (e ∷ run) (x ∷ rows) are =
    ap (λ (y : Row). y ∷ map row_of run) (row_is e x (are.each 0 e x refl refl))
    ∙ ap (λ (ys : List Row). x ∷ ys) (rows_of_run run rows (record { all = omega (arith, are.all); each = λ r f y g h. are.each (suc r) f y g h }))

rows_at : (run : List Entry) (r : ℕ) (e : Entry) (x : Row) → slice_get run r ≡ Some e → slice_get (map row_of run) r ≡ Some x → IsRowOf e x
rows_at run r e x g h =
    let one : row_of e ≡ x = one_got (map row_of run) r (row_of e) x (at_entry run r e g) h in
    subst (IsRowOf e) one (record { parent = refl; offset = refl; cowns = refl; ticks = refl; status = refl; written = refl })

-- and there is one for each of its rows
pub run_of_rows : (run : List Entry) → AreRowsOf run (map row_of run)
run_of_rows run = record { all = length-map run row_of; each = rows_at run }

changed_next : {A : Type 0} (x : A) (xs : List A) (r : ℕ) (f : A → A) (o : Option A) → changed (x ∷ xs) (suc r) f o ≡ x ∷ changed xs r f o
changed_next x xs r f None = refl
changed_next x xs r f (Some y) = refl

-- a list that changed in what isn't looked at
map_stays : {A B : Type 0} (f : A → B) (g : A → A) → ((x : A) → f (g x) ≡ f x) → (xs : List A) (r : ℕ) → map f (changed xs r g (slice_get xs r)) ≡ map f xs
map_stays f g same [] r = refl
map_stays f g same (x ∷ xs) zero = ap (λ y. y ∷ map f xs) (same x)
map_stays f g same (x ∷ xs) (suc r) = ap (map f) (changed_next x xs r g (slice_get xs r)) ∙ ap (λ ys. f x ∷ ys) (map_stays f g same xs r)

changed_map : {A B : Type 0} (f : A → B) (g : A → A) (h : B → B) → ((x : A) → f (g x) ≡ h (f x)) → (xs : List A) (r : ℕ) (o : Option A)
    → map f (changed xs r g o) ≡ changed (map f xs) r h (option_map f o)
changed_map f g h same xs r None = refl
changed_map f g h same xs r (Some x) = map-set f xs r (g x) ∙ ap (λ y. changed (map f xs) r (λ _. y) (Some y)) (same x)

-- the rows of a run after an event
rows_more : (run : List Entry) (event : Event) → map row_of (after run event) ≡ rows_after (map row_of run) event
rows_more run (Spawn row parent offset cowns) =
    let first = changed run parent (λ e. record e { last = offset }) (slice_get run parent) in
    map-append row_of first (pending parent offset cowns.items ∷ [])
    ∙ ap (λ (xs : List Row). xs ++ (new_row parent offset cowns ∷ [])) (map_stays row_of (λ e. record e { last = offset }) (λ e. refl) run parent)
rows_more run (Start row) = map_stays row_of (λ e. record e { life = lives.Running }) (λ e. refl) run row
rows_more run (End row ticks status written) =
    let over : Row → Row = λ x. record x { ticks = ticks; status = status; written = written } in
    changed_map row_of (λ e. record e { life = lives.Ended; ticks = ticks; status = status; written = written.items }) over (λ e. refl) run row
    (slice_get run row)
    ∙ ap (changed (map row_of run) row over) (sym (slice_get-map row_of run row))

-- what is kept stays the rows of the run
pub rows_go_on : (run : List Entry) (rows : List Row) (event : Event) → AreRowsOf run rows → AreRowsOf (after run event) (rows_after rows event)
rows_go_on run rows event are =
    subst (AreRowsOf (after run event)) (rows_more run event ∙ ap (λ (xs : List Row). rows_after xs event) (rows_of_run run rows are))
    (run_of_rows (after run event))

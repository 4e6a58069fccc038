-- What happenings tell of rows, place by place.
use Rattle.std.proofs.Common.{◌≡◌, ℕ, ◌<◌, List, length, get_or, ap, subst, sym, ◌∙◌}
use Rattle.std.specs.Prelude.{slice_get, Option, Some}
use Rattle.std.specs.Option.{option_map}
use Rattle.std.proofs.lemmas.Option.{slice_get-map, slice_get-get_or}
use Rattle.std.proofs.lemmas.List.{length-map}
use Rattle.boc_runs.specs.declared.events.Happening.{Happening}
use Rattle.boc_runs.specs.declared.rows.Row.{Row}
use Rattle.boc_runs.specs.Happenings.{event_of, event_at, told, AreOf}

-- there are as many events as happenings
pub told_all : (happenings : List Happening) (rows : List Row) → length (told happenings rows) ≡ length happenings
told_all happenings rows = length-map happenings (λ h. event_at h.row (slice_get rows h.row) h.deed)

-- the event at a place is told by the happening there, of its row
told_got : (happenings : List Happening) (rows : List Row) (k : ℕ) (h : Happening) (row : Row) → slice_get happenings k ≡ Some h
    → slice_get rows h.row ≡ Some row
    → slice_get (told happenings rows) k ≡ Some (event_of h.row row h.deed)
told_got happenings rows k h row at is =
    slice_get-map (λ h. event_at h.row (slice_get rows h.row) h.deed) happenings k
    ∙ ap (option_map (λ (h : Happening). event_at h.row (slice_get rows h.row) h.deed)) at
    ∙ ap (λ (o : Option Row). Some (event_at h.row o h.deed)) is

-- the event of a happening and a row as they were read
pub told_read : (happenings : List Happening) (rows : List Row) (k n : ℕ) (none : Happening) (other : Row) → k < length happenings → AreOf happenings rows
    → n ≡ (get_or happenings k none).row
    → slice_get (told happenings rows) k ≡ Some (event_of (get_or happenings k none).row (get_or rows n other) (get_or happenings k none).deed)
told_read happenings rows k n none other less are number =
    let h = get_or happenings k none in
    let there = subst (λ (r : ℕ). r < length rows) (sym number) (are k none less) in
    let is = ap (slice_get rows) (sym number) ∙ slice_get-get_or rows n other there in
    told_got happenings rows k h (get_or rows n other) (slice_get-get_or happenings k none less) is

-- Texts that grow by a line.
use Rattle.std.proofs.Common.{suc, take, append_assoc, ◌≡◌, ℕ, ◌+◌, ◌∷◌, List, [], ◌++◌, sym, ap, ◌∙◌, arith}
use Rattle.std.proofs.lemmas.List.{append-nil}
use Rattle.std.proofs.Math.Seq.{take-suc}
use Rattle.std.specs.Prelude.{slice_get, Some}
use Rattle.std.proofs.lemmas.Option.{slice_get_within, get_or_from_slice_get}
use Rattle.boc_runs.specs.declared.event.Event.{Event}
use Rattle.boc_record.specs.RecordTexts.{Version, line, event_line, event_lines}

add_one : (i : ℕ) → i + 1 ≡ suc i
add_one i = omega arith

-- one event more
pub lines_more : (v : Version) (events : List Event) (event : Event) → event_lines v (events ++ event ∷ []) ≡ event_lines v events ++ line (event_line v event)
lines_more v [] event = append-nil (line (event_line v event))
lines_more v (first ∷ events) event =
    ap (λ xs. line (event_line v first) ++ xs) (lines_more v events event)
    ∙ sym (append_assoc (line (event_line v first)) (event_lines v events) (line (event_line v event)))

-- one line more
pub put_line_more : (v : Version) (before text after : List ℕ) (events : List Event) (i : ℕ) (event : Event) → slice_get events i ≡ Some event
    → text ≡ before ++ event_lines v (take i events)
    → after ≡ text ++ line (event_line v event) → after ≡ before ++ event_lines v (take (i + 1) events)
put_line_more v before text after events i event at e put =
    put ∙ ap (λ xs. xs ++ line (event_line v event)) e ∙ append_assoc before (event_lines v (take i events)) (line (event_line v event))
    ∙ ap (λ xs. before ++ xs) (sym (lines_more v (take i events) event)
    ∙ ap (λ x. event_lines v (take i events ++ x ∷ [])) (sym (get_or_from_slice_get events i event event at))
    ∙ ap (event_lines v) (sym (take-suc events i event (slice_get_within events i event at)) ∙ ap (λ n. take n events) (sym (add_one i))))

-- The line of an event at the front of bytes, read without looking for its end first.
use Rattle.std.proofs.Common.{◌≡◌, ℕ, ◌+◌, ◌-◌, ◌<◌, ◌≤◌, ◌^◌, List, [], ◌∷◌, ◌++◌, length, get_or, drop, refl, sym, ◌∙◌, ap, arith, append_assoc}
use Rattle.std.proofs.Common.{length-append}
use Rattle.std.specs.Prelude.{codes, Option, Some, None}
use Rattle.std.specs.Io.KnownBytes.{prepend_known, Consumes}
use Rattle.std.proofs.lemmas.List.{take-append-drop, length-drop}
use Rattle.std.proofs.lemmas.List.Elements.{All-push}
use Rattle.std.proofs.Math.Seq.{drop-append_seam}
use Rattle.boc_runs.specs.declared.event.Event.{Event}
use Rattle.boc_runs.specs.Legal.{Entry}
use Rattle.boc_record.specs.RecordTexts.{Version, field, fields, line, event_line}
use Rattle.boc_record.specs.Fields.{IsFront, sign_of}
use Rattle.boc_record.specs.Ahead.{IsFieldAhead, AreFieldsAhead, TellsAhead, IsLineAhead}
use Rattle.boc_record.specs.Reading.{TakesEvent}
use Rattle.boc_record.proofs.Runs.{front_decimal, fields_more}
use Rattle.boc_record.proofs.Told.{line_is}
use Rattle.boc_record.proofs.Lines.{one_event}

-- a text that is not empty is its first byte and the others
pub first_byte : (text : List ℕ) → 0 < length text → text ≡ get_or text 0 0 ∷ drop 1 text
first_byte [] some = absurd (omega (arith, some))
first_byte (b ∷ rest) some = refl

-- the field at the front of a text that begins with a space and few digits
pub field_is_ahead : (text : List ℕ) (len value : ℕ) → 9 ≤ length text → get_or text 0 0 ≡ 32 → IsFront (drop 1 text) len value → len < 8 → 0 < len
    → (get_or (drop 1 text) 0 0 ≡ 48 → len ≡ 1) → value < 2 ^ 32
    → IsFieldAhead text value (drop len (drop 1 text))
field_is_ahead text len value long space front few some lead small =
    let after = drop 1 text in record {
      small = small;
      is = first_byte text (omega (arith, long)) ∙ ap (λ b. b ∷ after) space
          ∙ ap (λ xs. 32 ∷ xs) (sym (take-append-drop len after) ∙ ap (λ xs. xs ++ drop len after) (front_decimal after len value front some lead small));
      near = omega (arith, few, long, length-drop len after, length-drop 1 text);
    }

-- one field more behind those that were read
pub one_more_ahead : (text ns rest left : List ℕ) (n : ℕ) → AreFieldsAhead text ns rest → IsFieldAhead rest n left → AreFieldsAhead text (ns ++ n ∷ []) left
one_more_ahead text ns rest left n all f = record {
  small = All-push (λ m. m < 2 ^ 32) ns n all.small f.small;
  is = all.is ∙ ap (λ xs. fields ns ++ xs) f.is ∙ sym (append_assoc (fields ns) (field n) left) ∙ ap (λ xs. xs ++ left) (sym (fields_more ns n));
  near = omega (arith, all.near, f.near, length-append ns (n ∷ []));
}

-- the line that a sign and fields make, where a line feed stands behind them
pub line_ahead : (v : Version) (bytes rest : List ℕ) (event : Event) → 0 < length bytes → TellsAhead v (get_or bytes 0 0) (drop 1 bytes) event rest
    → get_or rest 0 0 ≡ 10 → length bytes - length rest ≤ 80
    → IsLineAhead v bytes event (length bytes - length rest)
line_ahead v bytes rest event some told feed short =
    let l = event_line v event in
    let others = drop 1 rest in
    let front : bytes ≡ l ++ rest = first_byte bytes some ∙ ap (λ b. b ∷ drop 1 bytes) (sym told.sign_is) ∙ ap (λ xs. sign_of event ∷ xs) told.is
    ∙ ap (λ xs. xs ++ rest) (sym (line_is v event)) in
    let whole : bytes ≡ line l ++ others = front ∙ ap (λ xs. l ++ xs) (first_byte rest told.some ∙ ap (λ b. b ∷ others) feed)
    ∙ sym (append_assoc l (codes "\n") others) in
    let joined : length bytes ≡ length l + length rest = ap length front ∙ length-append l rest in
    let size : length bytes - length rest + 1 ≡ length (line l) = omega (arith, joined, length-append l (codes "\n")) in
    let behind : drop (length bytes - length rest + 1) bytes ≡ others =
    ap (λ n. drop n bytes) size ∙ ap (drop (length (line l))) whole ∙ drop-append_seam (line l) others in record {
      small = told.small;
      short = omega (arith, joined, short);
      within = omega (arith, joined, told.some);
      is = whole ∙ ap (λ xs. line l ++ xs) (sym behind);
      spelt = told.spelt;
    }

-- bytes that a line stands at the front of are those of the line and the others
pub taken_ahead : (held rest given : List ℕ) (s : Option (List ℕ)) → held ≡ given ++ rest → Consumes (prepend_known held s) (prepend_known rest s) given
taken_ahead held rest given None e = tt
taken_ahead held rest given (Some bytes) e = ap (λ xs. xs ++ bytes) e ∙ append_assoc given rest bytes

-- an event whose line stands at the front of bytes is taken with that line
pub event_in_front : (v : Version) (rows : List Entry) (bytes : List ℕ) (event : Event) (len : ℕ) (s : Option (List ℕ)) → IsLineAhead v bytes event len
    → TakesEvent v rows event (prepend_known bytes s) (prepend_known (drop (len + 1) bytes) s)
event_in_front v rows bytes event len s told = record {
  small = told.small;
  one = one_event v event told.small;
  short = told.short;
  taken = taken_ahead bytes (drop (len + 1) bytes) (line (event_line v event)) s told.is;
  spelt = told.spelt rows;
}

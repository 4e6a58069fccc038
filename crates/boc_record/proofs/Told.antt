-- Lines of events, and what they tell.
use Rattle.std.proofs.Common.{◌^◌, get_or, length, drop, ◌≡◌, ℕ, ◌≤◌, ◌<◌, ◌∷◌, List, [], ◌++◌, refl, sym, ap, ◌∙◌, subst, arith}
use Rattle.std.proofs.lemmas.List.Elements.{All-cons}
use Rattle.boc_program.specs.declared.body.EndStatus.{EndStatus}
use Rattle.boc_program.specs.declared.body.EndStatus.TheVariants as statuses
use Rattle.boc_runs.specs.declared.event.Event.{Event}
use Rattle.boc_runs.specs.declared.event.Event.TheVariants.{Spawn, Start, End}
use Rattle.boc_program.specs.declared.limits.TheConstants.{MOST_COWNS, MOST_HELD}
use Rattle.boc_runs.specs.Legal.{Entry, HasBounds}
use Rattle.boc_record.specs.RecordTexts.{Version, First, Second, version_number, fields, event_line, status_number, written_fields, IsHeader, IsEventLine}
use Rattle.boc_record.specs.RecordTexts.{IsSpelt}
use Rattle.boc_record.specs.Fields.{IsField, AreSmall, sign_of, numbers_of, Tells}
use Rattle.std.specs.Prelude.{codes, MatchOption, Option, Some, None}
use Rattle.boc_record.proofs.Runs.{small_rest, first_field, one_field}

-- an event's line is its sign and its numbers
pub line_is : (v : Version) (event : Event) → event_line v event ≡ sign_of event ∷ fields (numbers_of v event)
line_is v (Spawn row parent offset cowns) = refl
line_is v (Start row) = refl
line_is v (End row ticks status written) = refl

nothing_small : AreSmall []
nothing_small k d h = absurd (omega (arith, h))

small_status : (status : EndStatus) → status_number status < 2 ^ 32
small_status statuses.Done = omega arith
small_status _ = omega arith

-- a text is that of small numbers
pub record IsOfNumbers (text ns : List ℕ) : Type 0 where
  pub small : AreSmall ns
  pub is : text ≡ fields ns

-- the first field of such a text is that of the first number
pub next_field : (text rest : List ℕ) (n m : ℕ) (ns : List ℕ) → IsField text n rest → IsOfNumbers text (m ∷ ns) → (n ≡ m) × IsOfNumbers rest ns
next_field text rest n m ns f t =
    let same = one_field text rest (fields ns) n m f (subst (λ x. IsField x m (fields ns)) (sym t.is) (first_field m ns t.small)) in
    (same.0, record { small = small_rest m ns t.small; is = same.1 })

-- and it is there
pub has_field : (text : List ℕ) (m : ℕ) (ns : List ℕ) → ((n : ℕ) (rest : List ℕ) → IsField text n rest → ⊥) → IsOfNumbers text (m ∷ ns) → ⊥
has_field text m ns none t = none m (fields ns) (subst (λ x. IsField x m (fields ns)) (sym t.is) (first_field m ns t.small))

small_written : (v : Version) (written : List ℕ) → AreSmall written → AreSmall (written_fields v written)
small_written First written small = nothing_small
small_written Second written small = small

-- the numbers of an event are small
pub small_numbers : (v : Version) (event : Event) → HasBounds event → AreSmall (numbers_of v event)
small_numbers v (Spawn row parent offset cowns) s =
    All-cons (λ n. n < 2 ^ 32) row (parent ∷ offset ∷ cowns.items) s.0
    (All-cons (λ n. n < 2 ^ 32) parent (offset ∷ cowns.items) s.1 (All-cons (λ n. n < 2 ^ 32) offset cowns.items s.2 s.3))
small_numbers v (Start row) s = All-cons (λ n. n < 2 ^ 32) row [] s nothing_small
small_numbers v (End row ticks status written) s =
    let last = written_fields v written.items in
    All-cons (λ n. n < 2 ^ 32) row (ticks ∷ status_number status ∷ last) s.0
    (All-cons (λ n. n < 2 ^ 32) ticks (status_number status ∷ last) s.1
    (All-cons (λ n. n < 2 ^ 32) (status_number status) last (small_status status) (small_written v written.items s.2)))

-- the text of a spawn
pub record IsSpawnText (text : List ℕ) : Type 0 where
  pub row : ℕ
  pub parent : ℕ
  pub offset : ℕ
  pub cowns : List ℕ
  pub few : length cowns ≤ MOST_HELD
  pub of : IsOfNumbers text (row ∷ parent ∷ offset ∷ cowns)

pub spawn_text : (text : List ℕ) (v : Version) (event : Event) → Tells v 43 text event → IsSpawnText text
spawn_text text v (Spawn row parent offset cowns) t = record {
  row = row;
  parent = parent;
  offset = offset;
  cowns = cowns.items;
  few = t.small.4;
  of = record { small = small_numbers v (Spawn row parent offset cowns) t.small; is = t.is };
}
spawn_text text v (Start row) t = absurd (omega (arith, t.sign_is))
spawn_text text v (End row ticks status written) t = absurd (omega (arith, t.sign_is))

-- the text of a start
pub start_text : (text : List ℕ) (v : Version) (event : Event) → Tells v 62 text event → (row : ℕ) × IsOfNumbers text (row ∷ [])
start_text text v (Spawn row parent offset cowns) t = absurd (omega (arith, t.sign_is))
start_text text v (Start row) t = (row, record { small = small_numbers v (Start row) t.small; is = t.is })
start_text text v (End row ticks status written) t = absurd (omega (arith, t.sign_is))

-- the text of an end
pub record IsEndText (v : Version) (text : List ℕ) : Type 0 where
  pub row : ℕ
  pub ticks : ℕ
  pub status : EndStatus
  pub written : List ℕ
  pub small : AreSmall written
  pub few : length written ≤ MOST_HELD
  pub of : IsOfNumbers text (row ∷ ticks ∷ status_number status ∷ written_fields v written)

pub end_text : (text : List ℕ) (v : Version) (event : Event) → Tells v 60 text event → IsEndText v text
end_text text v (Spawn row parent offset cowns) t = absurd (omega (arith, t.sign_is))
end_text text v (Start row) t = absurd (omega (arith, t.sign_is))
end_text text v (End row ticks status written) t = record {
  row = row;
  ticks = ticks;
  status = status;
  written = written.items;
  small = t.small.2;
  few = t.small.3;
  of = record { small = small_numbers v (End row ticks status written) t.small; is = t.is };
}

-- where no event is told, the line is none
pub none_told : (text rest : List ℕ) (v : Version) (sign : ℕ) → ((event : Event) → Tells v sign rest event → ⊥) → text ≡ sign ∷ rest → IsEventLine v text → ⊥
none_told text rest v sign none e given =
    let event = given.0 in
    let both : sign ∷ rest ≡ sign_of event ∷ fields (numbers_of v event) = sym e ∙ given.2 ∙ line_is v event in
    none event (record { sign_is = sym (ap (λ xs. get_or xs 0 0) both); small = given.1; is = ap (drop 1) both })

-- an event that is told has this line
told_line : (text rest : List ℕ) (v : Version) (sign : ℕ) (event : Event) → Tells v sign rest event → text ≡ sign ∷ rest → text ≡ event_line v event
told_line text rest v sign event t e = e ∙ ap (λ x. x ∷ rest) (sym t.sign_is) ∙ ap (λ xs. sign_of event ∷ xs) t.is ∙ sym (line_is v event)

-- what is told of an event, or why nothing is
pub judged : (result : Option Event) (text rest : List ℕ) (v : Version) (rows : List Entry) (sign : ℕ)
    → MatchOption result ((event : Event) → Tells v sign rest event → ⊥) (λ event. Tells v sign rest event × IsSpelt v rows event)
    → text ≡ sign ∷ rest → MatchOption result (IsEventLine v text → ⊥) (λ event. HasBounds event × (text ≡ event_line v event) × IsSpelt v rows event)
judged None text rest v rows sign none e = none_told text rest v sign none e
judged (Some event) text rest v rows sign t e = (t.0.small, told_line text rest v sign event t.0 e, t.1)

-- but an end, each event is spelt alike in both versions
spelt_alike : (v : Version) (rows : List Entry) (event : Event) → (sign_of event ≡ 60 → ⊥) → IsSpelt v rows event
spelt_alike First rows (Spawn row parent offset cowns) h = tt
spelt_alike First rows (Start row) h = tt
spelt_alike First rows (End row ticks status written) h = absurd (h refl)
spelt_alike Second rows event h = tt

-- the same of an event that is told in any version
pub judged_alike : (result : Option Event) (text rest : List ℕ) (v : Version) (rows : List Entry) (sign : ℕ) → (sign ≡ 60 → ⊥)
    → MatchOption result ((w : Version) (event : Event) → Tells w sign rest event → ⊥) (λ event. (w : Version) → Tells w sign rest event)
    → text ≡ sign ∷ rest → MatchOption result (IsEventLine v text → ⊥) (λ event. HasBounds event × (text ≡ event_line v event) × IsSpelt v rows event)
judged_alike None text rest v rows sign other none e = none_told text rest v sign (none v) e
judged_alike (Some event) text rest v rows sign other t e =
    ((t v).small, told_line text rest v sign event (t v) e, spelt_alike v rows event (λ s. other (sym (t v).sign_is ∙ s)))

-- a header is the mark, its version and its number
pub record IsHeaderText (text : List ℕ) : Type 0 where
  pub version : Version
  pub cowns : ℕ
  pub few : cowns ≤ MOST_COWNS
  pub of : IsOfNumbers text (version_number version ∷ cowns ∷ [])

small_version : (v : Version) → version_number v < 2 ^ 32
small_version First = omega arith
small_version Second = omega arith

pub header_text : (text rest : List ℕ) → text ≡ codes "boc" ++ rest → IsHeader text → IsHeaderText rest
header_text text rest e given = record {
  version = given.0;
  cowns = given.1;
  few = given.2;
  of = record {
    small = All-cons (λ n. n < 2 ^ 32) (version_number given.0) (given.1 ∷ []) (small_version given.0)
        (All-cons (λ n. n < 2 ^ 32) given.1 [] (omega (arith, given.2)) nothing_small);
    is = ap (drop 3) (sym e ∙ given.3);
  };
}

-- The line of an event that is allowed is not too long.
use Rattle.std.proofs.Common.{ℕ, suc, ◌+◌, ◌*◌, ◌<◌, ◌≤◌, ◌^◌, List, [], ◌∷◌, ◌++◌, length, get_or, sym, subst, arith, length-append}
use Rattle.std.specs.Prelude.{All}
use Rattle.std.proofs.lemmas.List.{get_or_default}
use Rattle.std.proofs.lemmas.Option.{slice_get_within}
use Rattle.std.proofs.lemmas.Fmt.{length-decimal-le}
use Rattle.boc_program.specs.declared.body.EndStatus.{EndStatus}
use Rattle.boc_program.specs.declared.body.EndStatus.TheVariants as statuses
use Rattle.boc_program.specs.declared.limits.TheConstants.{MOST_COWNS, MOST_HELD, MOST_ROWS, MOST_TICKS}
use Rattle.boc_text.specs.declared.lines.TheConstants.{MOST_LINE}
use Rattle.boc_runs.specs.declared.event.Event.{Event}
use Rattle.boc_runs.specs.declared.event.Event.TheVariants.{Spawn, Start, End}
use Rattle.boc_runs.specs.declared.event.BrokenRule.TheVariants as rules
use Rattle.boc_runs.specs.Lives.{Running}
use Rattle.boc_program.specs.Cowns.{AreAmong}
use Rattle.boc_runs.specs.Legal.{Entry, entry_cowns, IsParent, IsOffset, MayNeed, MayEnd, IsAllowed}
use Rattle.boc_record.specs.RecordTexts.{Version, First, Second, field, fields, header, event_line, status_number, written_fields}
use Rattle.boc_rules.proofs.Well.{IsWell}
use Rattle.boc_rules.proofs.Next.{living}
use Rattle.boc_rules.proofs.Starts.{has_entry}

-- a field of so many digits
field_of_length : (k n : ℕ) → 0 < k → n < 10 ^ k → n < 2 ^ 64 → length (field n) ≤ k + 1
field_of_length k n some less wide = omega (arith, length-decimal-le k n some less wide)

three : (n : ℕ) → n ≤ 999 → length (field n) ≤ 4
three n less = field_of_length 3 n (omega arith) (omega (arith, less)) (omega (arith, less))

five : (n : ℕ) → n ≤ 99999 → length (field n) ≤ 6
five n less = field_of_length 5 n (omega arith) (omega (arith, less)) (omega (arith, less))

seven : (n : ℕ) → n ≤ 9999999 → length (field n) ≤ 8
seven n less = field_of_length 7 n (omega arith) (omega (arith, less)) (omega (arith, less))

ten : (n : ℕ) → n < 2 ^ 32 → length (field n) ≤ 11
ten n less = field_of_length 10 n (omega arith) (omega (arith, less)) (omega (arith, less))

first_below : (x : ℕ) (xs : List ℕ) → All (λ c. c < MOST_COWNS) (x ∷ xs) → x < MOST_COWNS
first_below x xs h = h 0 0 (omega arith)

rest_below : (x : ℕ) (xs : List ℕ) → All (λ c. c < MOST_COWNS) (x ∷ xs) → All (λ c. c < MOST_COWNS) xs
rest_below x xs h = λ k d less. h (suc k) d (omega (arith, less))

-- the fields of cowns
cown_fields : (cs : List ℕ) → All (λ c. c < MOST_COWNS) cs → length (fields cs) ≤ 4 * length cs
cown_fields [] h = omega arith
cown_fields (c ∷ cs) h =
    omega (arith, length-append (field c) (fields cs), three c (omega (arith, first_below c cs h)), cown_fields cs (rest_below c cs h))

below_most : (count : ℕ) (cs : List ℕ) → count ≤ MOST_COWNS → All (λ c. c < count) cs → All (λ c. c < MOST_COWNS) cs
below_most count cs few h = λ k d less. omega (arith, h k d less, few)

-- a header is short
pub short_header : (v : Version) (c : ℕ) → c ≤ MOST_COWNS → length (header v c) ≤ MOST_LINE
short_header First c few = omega (
  arith,
  length-append (field 1) (field c ++ []),
  length-append (field c) [],
  three 1 (omega arith),
  three c
      (omega (arith, few)),
)
short_header Second c few = omega (
  arith,
  length-append (field 2) (field c ++ []),
  length-append (field c) [],
  three 2 (omega arith),
  three c
      (omega (arith, few)),
)

parent_few : (count : ℕ) (rows : List Entry) (parent : ℕ) → IsWell count rows → IsParent rows parent → parent ≤ MOST_ROWS
parent_few count [] parent w p = omega (arith, p)
parent_few count (main ∷ others) parent w p =
    let e = living (main ∷ others) parent Running p in
    omega (arith, slice_get_within (main ∷ others) parent e.0 e.1, w.few)

offset_few : (rows : List Entry) (parent offset : ℕ) → IsOffset rows parent offset → offset ≤ MOST_TICKS
offset_few [] parent offset o = omega (arith, o)
offset_few (main ∷ others) parent offset o = o.1

need_few : (count : ℕ) (rows : List Entry) (cowns : List ℕ) → count ≤ MOST_COWNS → MayNeed count rows cowns → All (λ c. c < MOST_COWNS) cowns
need_few count [] cowns few m = subst (λ (cs : List ℕ). All (λ c. c < MOST_COWNS) cs) (sym m) (λ k d h. absurd (omega arith))
need_few count (main ∷ others) cowns few m = below_most count cowns few m.below

-- what was written is below the number of cowns
own_few : (count : ℕ) (rows : List Entry) (row : ℕ) (written : List ℕ) → count ≤ MOST_COWNS → IsWell count rows → AreAmong (entry_cowns rows row) written
    → All (λ c. c < MOST_COWNS) written
own_few count rows row written few w among = λ k d less.
    let has = among.own k d less in
    let e = has_entry rows row (get_or written k d) has in
    let at = e.2 in
    let small = (w.cowned row e.0 e.1).below at.0 0 at.1 in
    omega (arith, small, get_or_default e.0.cowns at.0 0 (get_or written k d) at.1, at.2, few)

status_few : (s : EndStatus) → status_number s ≤ 9
status_few statuses.Done = omega arith
status_few _ = omega arith

written_few : (v : Version) (written : List ℕ) → All (λ c. c < MOST_COWNS) written → length written ≤ MOST_HELD
    → length (fields (written_fields v written)) ≤ 32
written_few First written below few = omega arith
written_few Second written below few = omega (arith, cown_fields written below, few)

-- so is the line of an event that is allowed behind the rows of a legal log
pub short_event : (v : Version) (count : ℕ) (rows : List Entry) (event : Event) → count ≤ MOST_COWNS → IsWell count rows → IsAllowed count rows event
    → length (event_line v event) ≤ MOST_LINE
short_event v count rows (Spawn row parent offset cowns) few w a =
    let b = a.bounds in
    let less : row < MOST_ROWS = a.keeps rules.TooMany in
    let tail = fields cowns.items in
    omega (
      arith,
      length-append (field row) (field parent ++ (field offset ++ tail)),
      length-append (field parent) (field offset ++ tail),
      length-append (field offset) tail,
      five row (omega (arith, less)),
      five parent (omega (arith, parent_few count rows parent w (a.keeps rules.ParentNotRunning))),
      seven offset (omega (arith, offset_few rows parent offset (a.keeps rules.Offset))),
      cown_fields cowns.items (need_few count rows cowns.items few (a.keeps rules.Cowns)),
      b.4,
    )
short_event v count rows (Start row) few w a = omega (arith, length-append (field row) [], ten row a.bounds)
short_event v count rows (End row ticks status written) few w a =
    let b = a.bounds in
    let may : MayEnd rows row ticks written.items = a.keeps rules.EndNotAllowed in
    let tail = fields (written_fields v written.items) in
    omega (
      arith,
      length-append (field row) (field ticks ++ (field (status_number status) ++ tail)),
      length-append (field ticks) (field (status_number status) ++ tail),
      length-append (field (status_number status)) tail,
      ten row b.0,
      seven ticks (omega (arith, may.high)),
      three (status_number status) (omega (arith, status_few status)),
      written_few v written.items (own_few count rows row written.items few w may.own) b.3,
    )

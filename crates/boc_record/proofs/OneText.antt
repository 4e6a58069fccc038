-- A line tells one event, and a header one version and one number of cowns.
use Rattle.std.proofs.Common.{◌≡◌, ◌≢◌, ℕ, ◌≤◌, List, [], ◌∷◌, length, get_or, drop, refl, sym, ◌∙◌, ap, subst, arith}
use Rattle.std.specs.Prelude.{codes}
use Rattle.arrayvec.specs.ArrayVec.{ArrayVec}
use Rattle.boc_program.specs.declared.body.EndStatus.{EndStatus}
use Rattle.boc_program.specs.declared.body.EndStatus.TheVariants as statuses
use Rattle.boc_program.specs.declared.limits.TheConstants.{MOST_COWNS}
use Rattle.boc_runs.specs.declared.event.Event.{Event}
use Rattle.boc_runs.specs.declared.event.Event.TheVariants.{Spawn, Start, End}
use Rattle.boc_runs.specs.Legal.{Entry, HasBounds}
use Rattle.boc_record.specs.RecordTexts.{Version, First, Second, version_number, fields, header, event_line, status_number, written_fields, IsSpelt}
use Rattle.boc_record.specs.Fields.{AreSmall, IsField, sign_of, numbers_of}
use Rattle.boc_record.proofs.Runs.{small_rest, first_field, one_field}
use Rattle.boc_record.proofs.Told.{line_is, small_numbers}
use Rattle.boc_record.proofs.Lines.{small_pair}

-- numbers that are written alike are the same
pub one_fields_list : (ns ms : List ℕ) → AreSmall ns → AreSmall ms → fields ns ≡ fields ms → ns ≡ ms
one_fields_list [] [] p q e = refl
one_fields_list [] (m ∷ ms) p q e = absurd (omega (arith, ap length e))
one_fields_list (n ∷ ns) [] p q e = absurd (omega (arith, ap length e))
one_fields_list (n ∷ ns) (m ∷ ms) p q e =
    let s = one_field (fields (n ∷ ns)) (fields ns) (fields ms) n m (first_field n ns p)
    (subst (λ (t : List ℕ). IsField t m (fields ms)) (sym e) (first_field m ms q)) in
    ap (λ x. x ∷ ns) s.0 ∙ ap (λ xs. m ∷ xs) (one_fields_list ns ms (small_rest n ns p) (small_rest m ms q) s.1)

first_same : (n m : ℕ) (ns ms : List ℕ) → n ∷ ns ≡ m ∷ ms → n ≡ m
first_same n m ns ms e = cc

rest_same : (n m : ℕ) (ns ms : List ℕ) → n ∷ ns ≡ m ∷ ms → ns ≡ ms
rest_same n m ns ms e = cc

one_version : (v w : Version) → version_number v ≡ version_number w → v ≡ w
one_version First First e = refl
one_version First Second e = absurd (omega (arith, e))
one_version Second First e = absurd (omega (arith, e))
one_version Second Second e = refl

-- a header has one version and one number
pub one_header_of : (v w : Version) (c d : ℕ) → c ≤ MOST_COWNS → d ≤ MOST_COWNS → header v c ≡ header w d → (v ≡ w) × (c ≡ d)
one_header_of v w c d p q e =
    let all = one_fields_list (version_number v ∷ c ∷ []) (version_number w ∷ d ∷ []) (small_pair v c p) (small_pair w d q) (ap (drop 3) e) in
    let rest = rest_same (version_number v) (version_number w) (c ∷ []) (d ∷ []) all in
    (one_version v w (first_same (version_number v) (version_number w) (c ∷ []) (d ∷ []) all), first_same c d [] [] rest)

-- the statuses in the order of their numbers
abbrev all_statuses : List EndStatus
all_statuses = statuses.Done ∷ statuses.Overflow ∷ statuses.ZeroDivisor ∷ statuses.OutOfRange ∷ statuses.SameCown ∷ statuses.Negative ∷ statuses.TickCap ∷ []

status_at : (s : EndStatus) → get_or all_statuses (status_number s) statuses.Done ≡ s
status_at statuses.Done = refl
status_at _ = refl

one_status : (s t : EndStatus) → status_number s ≡ status_number t → s ≡ t
one_status s t e = sym (status_at s) ∙ ap (λ n. get_or all_statuses n statuses.Done) e ∙ status_at t

pub one_items : (a b : ArrayVec ℕ) → a.items ≡ b.items → a ≡ b
one_items a b e = ap (λ (xs : List ℕ). let v : ArrayVec ℕ = record { items = xs } in v) e

-- what a row wrote is told, or left out
one_written : (v : Version) (rows : List Entry) (row ticks other : ℕ) (s t : EndStatus) (a b : ArrayVec ℕ) → IsSpelt v rows (End row ticks s a)
    → IsSpelt v rows (End row other t b)
    → written_fields v a.items ≡ written_fields v b.items → a ≡ b
one_written First rows row ticks other s t a b p q e = one_items a b (p ∙ sym q)
one_written Second rows row ticks other s t a b p q e = one_items a b e

one_end : (v : Version) (rows : List Entry) (row line_row ticks other : ℕ) (s t : EndStatus) (a b : ArrayVec ℕ) → row ≡ line_row → ticks ≡ other → s ≡ t
    → IsSpelt v rows (End row ticks s a) → IsSpelt v rows (End line_row other t b)
    → written_fields v a.items ≡ written_fields v b.items → End row ticks s a ≡ End line_row other t b
one_end v rows row line_row ticks other s t a b p q r x y e =
    let w : a ≡ b = one_written v rows row ticks other s t a b x (subst (λ (k : ℕ). IsSpelt v rows (End k other t b)) (sym p) y) e in
    cc

-- events that are spelt behind the same rows, and have the same numbers, are the same
same_event : (v : Version) (rows : List Entry) (e f : Event) → IsSpelt v rows e → IsSpelt v rows f → sign_of e ≡ sign_of f → numbers_of v e ≡ numbers_of v f
    → e ≡ f
same_event v rows (Spawn row parent offset cowns) (Spawn r p o c) x y s n =
    let tail = rest_same row r (parent ∷ offset ∷ cowns.items) (p ∷ o ∷ c.items) n in
    let later = rest_same parent p (offset ∷ cowns.items) (o ∷ c.items) tail in
    let one = first_same row r (parent ∷ offset ∷ cowns.items) (p ∷ o ∷ c.items) n in
    let two = first_same parent p (offset ∷ cowns.items) (o ∷ c.items) tail in
    let three = first_same offset o cowns.items c.items later in
    let four : cowns ≡ c = one_items cowns c (rest_same offset o cowns.items c.items later) in
    cc
same_event v rows (Spawn row parent offset cowns) (Start r) x y s n = absurd (omega (arith, s))
same_event v rows (Spawn row parent offset cowns) (End r t u w) x y s n = absurd (omega (arith, s))
same_event v rows (Start row) (Spawn r p o c) x y s n = absurd (omega (arith, s))
same_event v rows (Start row) (Start r) x y s n = ap Start (first_same row r [] [] n)
same_event v rows (Start row) (End r t u w) x y s n = absurd (omega (arith, s))
same_event v rows (End row ticks status written) (Spawn r p o c) x y s n = absurd (omega (arith, s))
same_event v rows (End row ticks status written) (Start r) x y s n = absurd (omega (arith, s))
same_event v rows (End row ticks status written) (End r t u w) x y s n =
    let a = written_fields v written.items in
    let b = written_fields v w.items in
    let tail = rest_same row r (ticks ∷ status_number status ∷ a) (t ∷ status_number u ∷ b) n in
    let later = rest_same ticks t (status_number status ∷ a) (status_number u ∷ b) tail in
    one_end v rows row r ticks t status u written w (first_same row r (ticks ∷ status_number status ∷ a) (t ∷ status_number u ∷ b) n)
    (first_same ticks t (status_number status ∷ a) (status_number u ∷ b) tail)
    (one_status status u (first_same (status_number status) (status_number u) a b later)) x y
    (rest_same (status_number status) (status_number u) a b later)

-- a line tells one event
pub one_event_of : (v : Version) (rows : List Entry) (e f : Event) → HasBounds e → HasBounds f → IsSpelt v rows e → IsSpelt v rows f
    → event_line v e ≡ event_line v f → e ≡ f
one_event_of v rows e f p q x y h =
    let both : sign_of e ∷ fields (numbers_of v e) ≡ sign_of f ∷ fields (numbers_of v f) = sym (line_is v e) ∙ h ∙ line_is v f in
    same_event v rows e f x y (first_same (sign_of e) (sign_of f) (fields (numbers_of v e)) (fields (numbers_of v f)) both)
    (one_fields_list (numbers_of v e) (numbers_of v f) (small_numbers v e p) (small_numbers v f q)
    (rest_same (sign_of e) (sign_of f) (fields (numbers_of v e)) (fields (numbers_of v f)) both))

no_sign : (e : Event) → sign_of e ≢ 46
no_sign (Spawn row parent offset cowns) h = absurd (omega (arith, h))
no_sign (Start row) h = absurd (omega (arith, h))
no_sign (End row ticks status written) h = absurd (omega (arith, h))

-- no event's line is the last
pub no_stop : (v : Version) (e : Event) → event_line v e ≢ codes "."
no_stop v e h =
    let both : sign_of e ∷ fields (numbers_of v e) ≡ 46 ∷ [] = sym (line_is v e) ∙ h in
    no_sign e (first_same (sign_of e) 46 (fields (numbers_of v e)) [] both)

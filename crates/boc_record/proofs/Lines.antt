-- Lines of a text: a text has one first line, and so many lines as line feeds.
use Rattle.std.proofs.Common.{◌≡◌, ◌≢◌, ◌==◌, ℕ, suc, ◌+◌, ◌%◌, ◌<◌, ◌≤◌, ◌^◌, List, [], ◌∷◌, ◌++◌, length, get_or, drop, refl, sym, ◌∙◌, ap, subst, arith}
use Rattle.std.specs.Prelude.{codes, decimal, cond}
use Rattle.std.proofs.lemmas.Bool.Decides.{nat_tests}
use Rattle.std.proofs.lemmas.List.Elements.{All-nil, All-cons, All-append, All-push}
use Rattle.std.proofs.lemmas.List.Sums.{sum_by-append, sum_by-cons}
use Rattle.std.proofs.lemmas.Fmt.{decimal_by_steps}
use Rattle.boc_runs.specs.declared.event.Event.{Event}
use Rattle.boc_runs.specs.declared.event.Event.TheVariants.{Spawn, Start, End}
use Rattle.boc_program.specs.declared.limits.TheConstants.{MOST_COWNS}
use Rattle.boc_runs.specs.Legal.{Entry, entries, after, after_all, HasBounds, IsAllowed, IsLegalFrom}
use Rattle.boc_record.specs.RecordTexts.{Version, First, Second, version_number, field, fields, header, event_line, event_lines, begun, record_text, line}
use Rattle.boc_record.specs.RecordTexts.{IsOneLine, IsSpelt, AreSpelt, HasBegun}
use Rattle.boc_record.specs.Fields.{AreSmall, sign_of, numbers_of}
use Rattle.boc_record.specs.Reading.{line_feeds}
use Rattle.boc_record.proofs.Runs.{small_first, small_rest}
use Rattle.boc_record.proofs.Told.{line_is, small_numbers}

-- ---- what has no line feed

digit_is_none : (d : ℕ) → 48 + d ≢ 10
digit_is_none d e = absurd (omega (arith, e))

one_decimal : (n : ℕ) → n < 2 ^ 64 → IsOneLine (decimal n)
one_decimal =
    decimal_by_steps (λ n ds. IsOneLine ds) (λ n h. All-cons (λ b. b ≢ 10) (48 + n) [] (digit_is_none n) (All-nil (λ b. b ≢ 10)))
    (λ n ds h p. All-push (λ b. b ≢ 10) ds (48 + n % 10) p (digit_is_none (n % 10)))

one_field_line : (n : ℕ) → n < 2 ^ 32 → IsOneLine (field n)
one_field_line n h = All-cons (λ b. b ≢ 10) 32 (decimal n) (λ e. absurd (omega (arith, e))) (one_decimal n (omega (arith, h)))

one_fields : (ns : List ℕ) → AreSmall ns → IsOneLine (fields ns)
one_fields [] small = All-nil (λ b. b ≢ 10)
one_fields (n ∷ ns) small = All-append (λ b. b ≢ 10) (field n) (fields ns) (one_field_line n (small_first n ns small)) (one_fields ns (small_rest n ns small))

pub small_pair : (v : Version) (cowns : ℕ) → cowns ≤ MOST_COWNS → AreSmall (version_number v ∷ cowns ∷ [])
small_pair First cowns few = All-cons (λ n. n < 2 ^ 32) 1 (cowns ∷ []) (omega arith)
    (All-cons (λ n. n < 2 ^ 32) cowns [] (omega (arith, few)) (All-nil (λ n. n < 2 ^ 32)))
small_pair Second cowns few = All-cons (λ n. n < 2 ^ 32) 2 (cowns ∷ []) (omega arith)
    (All-cons (λ n. n < 2 ^ 32) cowns [] (omega (arith, few)) (All-nil (λ n. n < 2 ^ 32)))

-- a header has none
pub one_header : (v : Version) (cowns : ℕ) → cowns ≤ MOST_COWNS → IsOneLine (header v cowns)
one_header v cowns few =
    let all = fields (version_number v ∷ cowns ∷ []) in
    All-cons (λ b. b ≢ 10) 98 (111 ∷ 99 ∷ all) (λ e. absurd (omega (arith, e)))
    (All-cons (λ b. b ≢ 10) 111 (99 ∷ all) (λ e. absurd (omega (arith, e)))
    (All-cons (λ b. b ≢ 10) 99 all (λ e. absurd (omega (arith, e))) (one_fields (version_number v ∷ cowns ∷ []) (small_pair v cowns few))))

sign_is_none : (event : Event) → sign_of event ≢ 10
sign_is_none (Spawn row parent offset cowns) e = absurd (omega (arith, e))
sign_is_none (Start row) e = absurd (omega (arith, e))
sign_is_none (End row ticks status written) e = absurd (omega (arith, e))

-- an event's line has none
pub one_event : (v : Version) (event : Event) → HasBounds event → IsOneLine (event_line v event)
one_event v event small =
    subst IsOneLine (sym (line_is v event)) (All-cons (λ b. b ≢ 10) (sign_of event) (fields (numbers_of v event)) (sign_is_none event)
    (one_fields (numbers_of v event) (small_numbers v event small)))

pub one_stop : IsOneLine (codes ".")
one_stop = All-cons (λ b. b ≢ 10) 46 [] (λ e. absurd (omega (arith, e))) (All-nil (λ b. b ≢ 10))

-- ---- the first line of a text

first_byte : (d : ℕ) (l : List ℕ) → IsOneLine (d ∷ l) → d ≢ 10
first_byte d l one = one 0 0 (omega arith)

others_too : (d : ℕ) (l : List ℕ) → IsOneLine (d ∷ l) → IsOneLine l
others_too d l one = λ k e h. one (suc k) e (omega (arith, h))

-- a text has one first line
pub first_line : (l m xs ys : List ℕ) → IsOneLine l → IsOneLine m → line l ++ xs ≡ line m ++ ys → (l ≡ m) × (xs ≡ ys)
first_line [] [] xs ys p q e = (refl, ap (drop 1) e)
first_line [] (d ∷ m) xs ys p q e = absurd (first_byte d m q (sym (ap (λ zs. get_or zs 0 0) e)))
first_line (c ∷ l) [] xs ys p q e = absurd (first_byte c l p (ap (λ zs. get_or zs 0 0) e))
first_line (c ∷ l) (d ∷ m) xs ys p q e =
    let rest = first_line l m xs ys (others_too c l p) (others_too d m q) (ap (drop 1) e) in
    (ap (λ x. x ∷ l) (ap (λ zs. get_or zs 0 0) e) ∙ ap (λ zs. d ∷ zs) rest.0, rest.1)

-- ---- how many line feeds there are

pub feeds_both : (xs ys : List ℕ) → line_feeds (xs ++ ys) ≡ line_feeds xs + line_feeds ys
feeds_both xs ys = sum_by-append (λ b. cond (b == 10) 1 0) xs ys

no_feed_more : (d n : ℕ) → d ≢ 10 → n ≡ 0 → cond (d == 10) 1 0 + n ≡ 0
no_feed_more d n h e = grind (arith, nat_tests)

pub no_feeds : (l : List ℕ) → IsOneLine l → line_feeds l ≡ 0
no_feeds [] one = refl
no_feeds (d ∷ l) one = sum_by-cons (λ b. cond (b == 10) 1 0) d l ∙ no_feed_more d (line_feeds l) (first_byte d l one) (no_feeds l (others_too d l one))

one_feed : line_feeds (codes "\n") ≡ 1
one_feed = refl

pub line_feed : (l : List ℕ) → IsOneLine l → line_feeds (line l) ≡ 1
line_feed l one = omega (arith, feeds_both l (codes "\n"), no_feeds l one, one_feed)

lines_feeds : (v : Version) (count : ℕ) (rows : List Entry) (events : List Event) → IsLegalFrom count rows events
    → line_feeds (event_lines v events) ≡ length events
lines_feeds v count rows [] legal = refl
lines_feeds v count rows (event ∷ events) legal =
    omega (
      arith,
      feeds_both (line (event_line v event)) (event_lines v events),
      line_feed (event_line v event) (one_event v event legal.0.bounds),
      lines_feeds
          v count (after rows event) events legal.1,
    )

-- a text that has begun has a line for each event, and the first line
pub begun_feeds : (v : Version) (cowns : ℕ) (events : List Event) → HasBegun v cowns events → line_feeds (begun v cowns events) ≡ length events + 1
begun_feeds v cowns events h =
    omega (
      arith,
      feeds_both (line (header v cowns)) (event_lines v events),
      line_feed (header v cowns) (one_header v cowns h.few),
      lines_feeds v cowns []
          events h.legal,
    )

pub text_feeds : (v : Version) (cowns : ℕ) (events : List Event) → HasBegun v cowns events → line_feeds (record_text v cowns events) ≡ length events + 2
text_feeds v cowns events h =
    omega (arith, feeds_both (begun v cowns events) (line (codes ".")), begun_feeds v cowns events h, line_feed (codes ".") one_stop)

-- ---- one event more

legal_more : (count : ℕ) (rows : List Entry) (events : List Event) (event : Event) → IsLegalFrom count rows events
    → IsAllowed count (after_all rows events) event → IsLegalFrom count rows (events ++ event ∷ [])
legal_more count rows [] event l a = (a, tt)
legal_more count rows (first ∷ events) event l a = (l.0, legal_more count (after rows first) events event l.1 a)

spelt_more : (v : Version) (rows : List Entry) (events : List Event) (event : Event) → AreSpelt v rows events → IsSpelt v (after_all rows events) event
    → AreSpelt v rows (events ++ event ∷ [])
spelt_more v rows [] event s is = (is, tt)
spelt_more v rows (first ∷ events) event s is = (s.0, spelt_more v (after rows first) events event s.1 is)

pub begun_more : (v : Version) (cowns : ℕ) (events : List Event) (event : Event) → HasBegun v cowns events → IsAllowed cowns (entries events) event
    → IsSpelt v (entries events) event → HasBegun v cowns (events ++ event ∷ [])
begun_more v cowns events event h a s = record {
  few = h.few;
  legal = legal_more cowns [] events event h.legal a;
  spelt = spelt_more v [] events event h.spelt s;
}

-- A text is that of one record, or has one first fault, and never both.
use Rattle.std.proofs.Common.{◌≡◌, ◌⊎◌, ℕ, suc, List, [], ◌∷◌, ◌++◌, length, get_or, refl, sym, ◌∙◌, ap, subst, inl, inr, arith, append_assoc}
use Rattle.std.specs.Prelude.{codes}
use Rattle.std.proofs.lemmas.List.{append-nil}
use Rattle.boc_runs.specs.declared.event.Event.{Event}
use Rattle.boc_runs.specs.declared.event.BrokenRule.{BrokenRule}
use Rattle.boc_runs.specs.declared.event.BrokenRule.TheVariants as rules
use Rattle.boc_runs.specs.declared.rows.Row.{Row}
use Rattle.boc_record.specs.declared.verdict.RecordFaultKind.{RecordFaultKind}
use Rattle.boc_record.specs.declared.verdict.RecordFaultKind.TheVariants as kinds
use Rattle.boc_runs.specs.Legal.{Entry, entries, HasBounds, KeepsRule, IsComplete, IsFirstBroken, place_of_rule}
use Rattle.boc_runs.specs.Records.{Recorded, IsRowOf, AreRowsOf}
use Rattle.boc_record.specs.RecordTexts.{Version, header, event_line, begun, line, BeginsWith, BeginsLong, IsCut, IsHeader, HasBegun, HasNoForm, BreaksRule}
use Rattle.boc_record.specs.RecordTexts.{FirstLineIs, NextLineIs, IsWrongAfter, HasMore, IsFirstFault, IsTextOf, kind_of_rule}
use Rattle.std.proofs.lemmas.Bool.{cases_order}
use Rattle.boc_record.proofs.Lines.{first_line, one_stop}
use Rattle.boc_record.proofs.OneText.{one_event_of, no_stop, one_items}
use Rattle.boc_record.proofs.Beginnings.{GoesOn, same, left_goes_on, right_goes_on, both_begun, begins_header, begins_on, begins_one, not_cut, not_long}
use Rattle.boc_record.proofs.Beginnings.{not_both}

-- ---- what is wrong with the line behind some events

-- what it is, of four kinds of fault
data Wrong (v : Version) (c : ℕ) (es : List Event) (text : List ℕ) (kind : RecordFaultKind) : Type 0 where
  no_form : kind ≡ kinds.Form → HasNoForm v text → Wrong v c es text kind
  broken : (rule : BrokenRule) → kind ≡ kind_of_rule rule → BreaksRule v c es text rule → Wrong v c es text kind
  unended : kind ≡ kinds.Unended → BeginsWith text (codes ".") → (IsComplete es → ⊥) → Wrong v c es text kind
  cut : kind ≡ kinds.Truncated → IsCut text → Wrong v c es text kind

wrong : (v : Version) (c : ℕ) (es : List Event) (text : List ℕ) (kind : RecordFaultKind) → NextLineIs v c es text kind → Wrong v c es text kind
wrong v c es text kinds.Form h = no_form refl h
wrong v c es text kinds.NumberNotNext h = broken rules.NumberNotNext refl h
wrong v c es text kinds.ParentNotRunning h = broken rules.ParentNotRunning refl h
wrong v c es text kinds.Offset h = broken rules.Offset refl h
wrong v c es text kinds.Cowns h = broken rules.Cowns refl h
wrong v c es text kinds.StartNotAllowed h = broken rules.StartNotAllowed refl h
wrong v c es text kinds.EndNotAllowed h = broken rules.EndNotAllowed refl h
wrong v c es text kinds.TooMany h = broken rules.TooMany refl h
wrong v c es text kinds.Unended h = unended refl h.0 h.1
wrong v c es text kinds.Truncated h = cut refl h
wrong v c es text _ h = absurd h

-- an event's line has a form
has_form : (v : Version) (text : List ℕ) (e : Event) → HasBounds e → BeginsWith text (event_line v e) → HasNoForm v text → ⊥
has_form v text e small b (inl long) = not_long text (event_line v e) b long
has_form v text e small b (inr other) = other.2 (e, small, begins_one text other.0 (event_line v e) other.1 b)

-- and so has the last line
stop_has_form : (v : Version) (text : List ℕ) → BeginsWith text (codes ".") → HasNoForm v text → ⊥
stop_has_form v text b (inl long) = not_long text (codes ".") b long
stop_has_form v text b (inr other) = other.3 (begins_one text other.0 (codes ".") other.1 b)

cut_has_form : (v : Version) (text : List ℕ) → IsCut text → HasNoForm v text → ⊥
cut_has_form v text c (inl long) = not_both text long c
cut_has_form v text c (inr other) = not_cut text other.0 other.1 c

-- no event's line is the last one
not_stop : (v : Version) (text : List ℕ) (e : Event) → BeginsWith text (event_line v e) → BeginsWith text (codes ".") → ⊥
not_stop v text e b s = no_stop v e (begins_one text (event_line v e) (codes ".") b s)

-- an event breaks one rule first
abbrev all_rules : List BrokenRule
all_rules = rules.NumberNotNext ∷ rules.TooMany ∷ rules.ParentNotRunning ∷ rules.Offset ∷ rules.Cowns ∷ rules.StartNotAllowed ∷ rules.EndNotAllowed ∷ []

rule_at : (a : BrokenRule) → get_or all_rules (place_of_rule a) rules.NumberNotNext ≡ a
rule_at rules.NumberNotNext = refl
rule_at _ = refl

one_place : (a b : BrokenRule) → place_of_rule a ≡ place_of_rule b → a ≡ b
one_place a b e = sym (rule_at a) ∙ ap (λ n. get_or all_rules n rules.NumberNotNext) e ∙ rule_at b

one_broken : (c : ℕ) (rows : List Entry) (e : Event) (a b : BrokenRule) → IsFirstBroken c rows e a → IsFirstBroken c rows e b → a ≡ b
one_broken c rows e a b p q =
    elim (cases_order (place_of_rule a) (place_of_rule b)) [
      | inl h ↦ one_place a b h
      | inr h ↦ elim h [ inl less ↦ absurd (p.broken (q.earlier a less)) | inr less ↦ absurd (q.broken (p.earlier b less)) ]
    ]

one_rule : (v : Version) (c : ℕ) (es : List Event) (text : List ℕ) (a b : BrokenRule) → BreaksRule v c es text a → BreaksRule v c es text b → a ≡ b
one_rule v c es text a b p q =
    let one : q.event ≡ p.event = one_event_of v (entries es) q.event p.event q.first.bounds p.first.bounds q.spelt p.spelt
    (begins_one text (event_line v q.event) (event_line v p.event) q.stands p.stands) in
    one_broken c (entries es) p.event a b p.first (subst (λ (e : Event). IsFirstBroken c (entries es) e b) one q.first)

-- a line has one thing wrong first
one_wrong : (v : Version) (c : ℕ) (es : List Event) (text : List ℕ) (k j : RecordFaultKind) → Wrong v c es text k → Wrong v c es text j → k ≡ j
one_wrong v c es text k j (no_form p f) (no_form q g) = p ∙ sym q
one_wrong v c es text k j (no_form p f) (broken r q b) = absurd (has_form v text b.event b.first.bounds b.stands f)
one_wrong v c es text k j (no_form p f) (unended q b n) = absurd (stop_has_form v text b f)
one_wrong v c es text k j (no_form p f) (cut q b) = absurd (cut_has_form v text b f)
one_wrong v c es text k j (broken r p b) (no_form q f) = absurd (has_form v text b.event b.first.bounds b.stands f)
one_wrong v c es text k j (broken r p b) (broken s q d) = p ∙ ap kind_of_rule (one_rule v c es text r s b d) ∙ sym q
one_wrong v c es text k j (broken r p b) (unended q d n) = absurd (not_stop v text b.event b.stands d)
one_wrong v c es text k j (broken r p b) (cut q d) = absurd (not_cut text (event_line v b.event) b.stands d)
one_wrong v c es text k j (unended p b n) (no_form q f) = absurd (stop_has_form v text b f)
one_wrong v c es text k j (unended p b n) (broken r q d) = absurd (not_stop v text d.event d.stands b)
one_wrong v c es text k j (unended p b n) (unended q d m) = p ∙ sym q
one_wrong v c es text k j (unended p b n) (cut q d) = absurd (not_cut text (codes ".") b d)
one_wrong v c es text k j (cut p b) (no_form q f) = absurd (cut_has_form v text b f)
one_wrong v c es text k j (cut p b) (broken r q d) = absurd (not_cut text (event_line v d.event) d.stands b)
one_wrong v c es text k j (cut p b) (unended q d n) = absurd (not_cut text (codes ".") d b)
one_wrong v c es text k j (cut p b) (cut q d) = p ∙ sym q

-- where the text goes on nothing is wrong
on_is_right : (v : Version) (c : ℕ) (es : List Event) (text : List ℕ) (k : RecordFaultKind) → HasBegun v c es → GoesOn v c (entries es) text
    → Wrong v c es text k → ⊥
on_is_right v c es text k h g (no_form p f) = has_form v text g.event g.allowed.bounds (begins_on v c es text h g) f
on_is_right v c es text k h g (broken r p b) =
    let one : b.event ≡ g.event = one_event_of v (entries es) b.event g.event b.first.bounds g.allowed.bounds b.spelt g.spelt
    (begins_one text (event_line v b.event) (event_line v g.event) b.stands (begins_on v c es text h g)) in
    b.first.broken (subst (λ (e : Event). KeepsRule c (entries es) e r) (sym one) (g.allowed.keeps r))
on_is_right v c es text k h g (unended p b n) = not_stop v text g.event (begins_on v c es text h g) b
on_is_right v c es text k h g (cut p b) = not_cut text (event_line v g.event) (begins_on v c es text h g) b

begins_stop : (text tail : List ℕ) → text ≡ line (codes ".") ++ tail → BeginsWith text (codes ".")
begins_stop text tail e = record { rest = tail; is = e; one = one_stop; short = omega arith }

-- nor where the last line stands, and the run is complete
end_is_right : (v : Version) (c : ℕ) (es : List Event) (text tail : List ℕ) (k : RecordFaultKind) → text ≡ line (codes ".") ++ tail → IsComplete es
    → Wrong v c es text k → ⊥
end_is_right v c es text tail k e o (no_form p f) = stop_has_form v text (begins_stop text tail e) f
end_is_right v c es text tail k e o (broken r p b) = not_stop v text b.event b.stands (begins_stop text tail e)
end_is_right v c es text tail k e o (unended p b n) = n o
end_is_right v c es text tail k e o (cut p b) = not_cut text (codes ".") (begins_stop text tail e) b

-- and the last line is no event's
end_goes_on : (v : Version) (c : ℕ) (es : List Event) (text tail : List ℕ) → HasBegun v c es → text ≡ line (codes ".") ++ tail → GoesOn v c (entries es) text
    → ⊥
end_goes_on v c es text tail h e g = not_stop v text g.event (begins_on v c es text h g) (begins_stop text tail e)

-- ---- whole texts

-- a text has all lines of a record, and this behind them
record Ends (text tail : List ℕ) : Type 0 where
  version : Version
  cowns : ℕ
  events : List Event
  begins : HasBegun version cowns events
  complete : IsComplete events
  is : text ≡ begun version cowns events ++ (line (codes ".") ++ tail)

-- it is so with one number of cowns, the same events and the same tail
record AreEnds (c d : ℕ) (es fs : List Event) (xs ys : List ℕ) : Type 0 where
  cowns : c ≡ d
  events : es ≡ fs
  tails : xs ≡ ys

one_end : (text xs ys : List ℕ) (a : Ends text xs) (b : Ends text ys) → AreEnds a.cowns b.cowns a.events b.events xs ys
one_end text xs ys a b =
    let x = line (codes ".") ++ xs in
    let y = line (codes ".") ++ ys in
    let two = both_begun a.version b.version a.cowns b.cowns a.events b.events x y a.begins b.begins (sym a.is ∙ b.is) in
    let begins : HasBegun a.version a.cowns b.events = subst (λ (v : Version). HasBegun v a.cowns b.events) (sym two.version)
    (subst (λ (n : ℕ). HasBegun b.version n b.events) (sym two.cowns) b.begins) in
    elim two.followed [
      | same p q ↦ record { cowns = two.cowns; events = p; tails = (first_line (codes ".") (codes ".") xs ys one_stop one_stop q).1 }
      | left_goes_on g ↦ absurd (end_goes_on a.version a.cowns a.events x xs a.begins refl g)
      | right_goes_on g ↦ absurd (end_goes_on a.version a.cowns b.events y ys begins refl g)
    ]

-- such a text has no line that is wrong
end_not_wrong : (text xs : List ℕ) (n : ℕ) (k : RecordFaultKind) → Ends text xs → IsWrongAfter text n k → ⊥
end_not_wrong text xs n k a w =
    let x = line (codes ".") ++ xs in
    let two = both_begun w.version a.version w.cowns a.cowns w.events a.events w.rest x w.begins a.begins (sym w.split ∙ a.is) in
    let begins : HasBegun w.version w.cowns a.events = subst (λ (v : Version). HasBegun v w.cowns a.events) (sym two.version)
    (subst (λ (n : ℕ). HasBegun a.version n a.events) (sym two.cowns) a.begins) in
    let is = wrong w.version w.cowns w.events w.rest k w.wrong in
    elim two.followed [
      | same p q ↦ end_is_right w.version w.cowns w.events w.rest xs k q (subst IsComplete (sym p) a.complete) is
      | left_goes_on g ↦ on_is_right w.version w.cowns w.events w.rest k w.begins g is
      | right_goes_on g ↦ end_goes_on w.version w.cowns a.events x xs begins refl g
    ]

-- two lines that are wrong are one
both_wrong : (text : List ℕ) (n m : ℕ) (k j : RecordFaultKind) → IsWrongAfter text n k → IsWrongAfter text m j → (n ≡ m) × (k ≡ j)
both_wrong text n m k j a b =
    let two = both_begun a.version b.version a.cowns b.cowns a.events b.events a.rest b.rest a.begins b.begins (sym a.split ∙ b.split) in
    let begins : HasBegun a.version a.cowns b.events = subst (λ (v : Version). HasBegun v a.cowns b.events) (sym two.version)
    (subst (λ (n : ℕ). HasBegun b.version n b.events) (sym two.cowns) b.begins) in
    let first = wrong a.version a.cowns a.events a.rest k a.wrong in
    let second : Wrong a.version a.cowns b.events b.rest j =
    subst (λ (v : Version). Wrong v a.cowns b.events b.rest j) (sym two.version)
    (subst (λ (n : ℕ). Wrong b.version n b.events b.rest j) (sym two.cowns) (wrong b.version b.cowns b.events b.rest j b.wrong)) in
    elim two.followed [
      | same p q ↦ (
        omega (arith, a.number_is, b.number_is, ap length p),
        one_wrong a.version a.cowns a.events a.rest k j first
            (subst (λ (fs : List Event). Wrong a.version a.cowns fs a.rest j) (sym p)
            (subst (λ (ys : List ℕ). Wrong a.version a.cowns b.events ys j) (sym q) second)),
      )
      | left_goes_on g ↦ absurd (on_is_right a.version a.cowns a.events a.rest k a.begins g first)
      | right_goes_on g ↦ absurd (on_is_right a.version a.cowns b.events b.rest j begins g second)
    ]

-- ---- the first line

-- what is wrong with a first line, of two kinds of fault
data FirstWrong (text : List ℕ) (kind : RecordFaultKind) : Type 0 where
  no_header : kind ≡ kinds.Header → BeginsLong text ⊎ ((l : List ℕ) × BeginsWith text l × (IsHeader l → ⊥)) → FirstWrong text kind
  cut_header : kind ≡ kinds.Truncated → IsCut text → FirstWrong text kind

first_wrong : (text : List ℕ) (kind : RecordFaultKind) → FirstLineIs text kind → FirstWrong text kind
first_wrong text kinds.Header h = no_header refl h
first_wrong text kinds.Truncated h = cut_header refl h
first_wrong text _ h = absurd h

cut_is_none : (text : List ℕ) → IsCut text → BeginsLong text ⊎ ((l : List ℕ) × BeginsWith text l × (IsHeader l → ⊥)) → ⊥
cut_is_none text c (inl long) = not_both text long c
cut_is_none text c (inr other) = not_cut text other.0 other.1 c

one_first : (text : List ℕ) (k j : RecordFaultKind) → FirstWrong text k → FirstWrong text j → k ≡ j
one_first text k j (no_header p a) (no_header q b) = p ∙ sym q
one_first text k j (no_header p a) (cut_header q b) = absurd (cut_is_none text b a)
one_first text k j (cut_header p a) (no_header q b) = absurd (cut_is_none text a b)
one_first text k j (cut_header p a) (cut_header q b) = p ∙ sym q

-- a text that has begun has nothing wrong there
begun_is_right : (v : Version) (c : ℕ) (es : List Event) (text rest : List ℕ) (k : RecordFaultKind) → HasBegun v c es → text ≡ begun v c es ++ rest
    → FirstWrong text k → ⊥
begun_is_right v c es text rest k h e (no_header p (inl long)) = not_long text (header v c) (begins_header v c es text rest h e) long
begun_is_right v c es text rest k h e (no_header p (inr other)) =
    other.2 (v, c, h.few, begins_one text other.0 (header v c) other.1 (begins_header v c es text rest h e))
begun_is_right v c es text rest k h e (cut_header p b) = not_cut text (header v c) (begins_header v c es text rest h e) b

-- ---- the laws

-- where a first fault is
data Faulty (text : List ℕ) (n : ℕ) (k : RecordFaultKind) : Type 0 where
  at_first : n ≡ 1 → FirstLineIs text k → Faulty text n k
  further_on : IsWrongAfter text n k → Faulty text n k
  behind : k ≡ kinds.After → HasMore text n → Faulty text n k

either : (text : List ℕ) (n : ℕ) (k : RecordFaultKind) → ((n ≡ 1) × FirstLineIs text k) ⊎ IsWrongAfter text n k → Faulty text n k
either text n k (inl p) = at_first p.0 p.1
either text n k (inr p) = further_on p

faulty : (text : List ℕ) (n : ℕ) (k : RecordFaultKind) → IsFirstFault text n k → Faulty text n k
faulty text n kinds.After h = behind refl h
faulty text n k h = either text n k h

abbrev more_ends : (text : List ℕ) (n : ℕ) (h : HasMore text n) → Ends text (h.first ∷ h.rest)
more_ends text n h = record {
  version = h.version;
  cowns = h.cowns;
  events = h.events;
  begins = h.begins;
  complete = h.complete;
  is = h.split ∙ append_assoc (begun h.version h.cowns h.events) (line (codes ".")) (h.first ∷ h.rest);
}

abbrev text_ends : (text : List ℕ) (r : Recorded) → IsTextOf text r → Ends text []
text_ends text r t = record {
  version = t.version;
  cowns = r.cowns;
  events = r.events;
  begins = record { few = t.record_is.few; legal = t.record_is.legal; spelt = t.spelt };
  complete = t.record_is.complete;
  is = t.is ∙ ap (λ xs. begun t.version r.cowns r.events ++ xs) (sym (append-nil (line (codes "."))));
}

-- such a text has no fault of its first line
end_not_first : (text xs : List ℕ) (k : RecordFaultKind) → Ends text xs → FirstLineIs text k → ⊥
end_not_first text xs k a f = begun_is_right a.version a.cowns a.events text (line (codes ".") ++ xs) k a.begins a.is (first_wrong text k f)

both_faulty : (text : List ℕ) (n m : ℕ) (k j : RecordFaultKind) → Faulty text n k → Faulty text m j → (n ≡ m) × (k ≡ j)
both_faulty text n m k j (at_first p a) (at_first q b) = (p ∙ sym q, one_first text k j (first_wrong text k a) (first_wrong text j b))
both_faulty text n m k j (at_first p a) (further_on b) =
    absurd (begun_is_right b.version b.cowns b.events text b.rest k b.begins b.split (first_wrong text k a))
both_faulty text n m k j (at_first p a) (behind q b) = absurd (end_not_first text (b.first ∷ b.rest) k (more_ends text m b) a)
both_faulty text n m k j (further_on a) (at_first q b) =
    absurd (begun_is_right a.version a.cowns a.events text a.rest j a.begins a.split (first_wrong text j b))
both_faulty text n m k j (further_on a) (further_on b) = both_wrong text n m k j a b
both_faulty text n m k j (further_on a) (behind q b) = absurd (end_not_wrong text (b.first ∷ b.rest) n k (more_ends text m b) a)
both_faulty text n m k j (behind p a) (at_first q b) = absurd (end_not_first text (a.first ∷ a.rest) j (more_ends text n a) b)
both_faulty text n m k j (behind p a) (further_on b) = absurd (end_not_wrong text (a.first ∷ a.rest) m j (more_ends text n a) b)
both_faulty text n m k j (behind p a) (behind q b) =
    let one = one_end text (a.first ∷ a.rest) (b.first ∷ b.rest) (more_ends text n a) (more_ends text m b) in
    (omega (arith, a.number_is, b.number_is, ap length one.events), p ∙ sym q)

-- a text has one first fault at most
pub one_fault : (text : List ℕ) (n m : ℕ) (k j : RecordFaultKind) → IsFirstFault text n k → IsFirstFault text m j → (n ≡ m) × (k ≡ j)
one_fault text n m k j a b = both_faulty text n m k j (faulty text n k a) (faulty text m j b)

ends_faulty : (text : List ℕ) (n : ℕ) (k : RecordFaultKind) → Ends text [] → Faulty text n k → ⊥
ends_faulty text n k a (at_first p b) = end_not_first text [] k a b
ends_faulty text n k a (further_on b) = end_not_wrong text [] n k a b
ends_faulty text n k a (behind p b) =
    let one = one_end text [] (b.first ∷ b.rest) a (more_ends text n b) in
    omega (arith, ap length one.tails)

-- and none where it is a record's
pub never_both : (text : List ℕ) (r : Recorded) (n : ℕ) (k : RecordFaultKind) → IsTextOf text r → IsFirstFault text n k → ⊥
never_both text r n k t f = ends_faulty text n k (text_ends text r t) (faulty text n k f)

-- the rows of a run are one list
one_row : (e : Entry) (x y : Row) → IsRowOf e x → IsRowOf e y → x ≡ y
one_row e x y p q = λ i. record {
  parent = (p.parent ∙ sym q.parent) i;
  offset = (p.offset ∙ sym q.offset) i;
  cowns = one_items x.cowns y.cowns (p.cowns ∙ sym q.cowns) i;
  ticks = (p.ticks ∙ sym q.ticks) i;
  status = (p.status ∙ sym q.status) i;
  written = one_items x.written y.written (p.written ∙ sym q.written) i;
}

next_rows : (e : Entry) (run : List Entry) (x : Row) (xs : List Row) → AreRowsOf (e ∷ run) (x ∷ xs) → AreRowsOf run xs
next_rows e run x xs h = record { all = omega (arith, h.all); each = λ r f y g i. h.each (suc r) f y g i }

one_rows : (run : List Entry) (xs ys : List Row) → AreRowsOf run xs → AreRowsOf run ys → xs ≡ ys
one_rows [] [] [] p q = refl
one_rows [] [] (y ∷ ys) p q = absurd (omega (arith, q.all))
one_rows [] (x ∷ xs) ys p q = absurd (omega (arith, p.all))
one_rows (e ∷ run) [] ys p q = absurd (omega (arith, p.all))
one_rows (e ∷ run) (x ∷ xs) [] p q = absurd (omega (arith, q.all))
one_rows (e ∷ run) (x ∷ xs) (y ∷ ys) p q =
    ap (λ (z : Row). z ∷ xs) (one_row e x y (p.each 0 e x refl refl) (q.each 0 e y refl refl))
    ∙ ap (λ zs. y ∷ zs) (one_rows run xs ys (next_rows e run x xs p) (next_rows e run y ys q))

-- a text is that of one record at most
pub one_record : (text : List ℕ) (r s : Recorded) → IsTextOf text r → IsTextOf text s → r ≡ s
one_record text r s t u =
    let one = one_end text [] [] (text_ends text r t) (text_ends text s u) in
    let e : r.events ≡ s.events = one.events in
    let x : r.rows ≡ s.rows = one_rows (entries r.events) r.rows s.rows t.record_is.rows_are
    (subst (λ (es : List Event). AreRowsOf (entries es) s.rows) (sym e) u.record_is.rows_are) in
    λ i. record { cowns = one.cowns i; events = e i; rows = x i }

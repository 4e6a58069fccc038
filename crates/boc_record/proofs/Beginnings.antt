-- Two beginnings of one text: they are the same, or one goes on with the line of an event that is allowed.
use Rattle.std.proofs.Common.{◌≡◌, ℕ, ◌+◌, ◌<◌, List, [], ◌∷◌, ◌++◌, length, get_or, refl, sym, ◌∙◌, ap, subst, arith, append_assoc, length-append}
use Rattle.std.specs.Prelude.{codes}
use Rattle.std.proofs.lemmas.List.{get_or-take, length-take}
use Rattle.boc_text.specs.declared.lines.TheConstants.{MOST_LINE}
use Rattle.boc_runs.specs.declared.event.Event.{Event}
use Rattle.boc_runs.specs.Legal.{Entry, entries, after, after_all, IsAllowed, IsLegalFrom, IsLegal}
use Rattle.boc_record.specs.RecordTexts.{Version, header, event_line, event_lines, begun, line, BeginsWith, BeginsLong, IsCut, IsSpelt, AreSpelt, HasBegun}
use Rattle.boc_rules.proofs.Next.{well_log}
use Rattle.boc_record.proofs.Lines.{one_header, one_event, first_line}
use Rattle.boc_record.proofs.OneText.{one_event_of, one_header_of}
use Rattle.boc_record.proofs.Short.{short_header, short_event}

-- a text begins with the line of an event that may follow these rows
pub record GoesOn (v : Version) (count : ℕ) (rows : List Entry) (text : List ℕ) : Type 0 where
  pub event : Event
  pub rest : List ℕ
  pub is : text ≡ line (event_line v event) ++ rest
  pub allowed : IsAllowed count rows event
  pub spelt : IsSpelt v rows event

-- what follows the same rows: the events are the same, or those on one side go on
pub data Followed (v : Version) (count : ℕ) (rows : List Entry) (es fs : List Event) (xs ys : List ℕ) : Type 0 where
  same : es ≡ fs → xs ≡ ys → Followed v count rows es fs xs ys
  left_goes_on : GoesOn v count (after_all rows es) xs → Followed v count rows es fs xs ys
  right_goes_on : GoesOn v count (after_all rows fs) ys → Followed v count rows es fs xs ys

goes_on : (v : Version) (count : ℕ) (rows : List Entry) (f : Event) (fs : List Event) (xs ys : List ℕ) → IsLegalFrom count rows (f ∷ fs)
    → AreSpelt v rows (f ∷ fs) → xs ≡ event_lines v (f ∷ fs) ++ ys → GoesOn v count rows xs
goes_on v count rows f fs xs ys l s e = record {
  event = f;
  rest = event_lines v fs ++ ys;
  is = e ∙ append_assoc (line (event_line v f)) (event_lines v fs) ys;
  allowed = l.0;
  spelt = s.0;
}

more : (v : Version) (count : ℕ) (rows : List Entry) (e : Event) (es fs : List Event) (xs ys : List ℕ) → Followed v count (after rows e) es fs xs ys
    → Followed v count rows (e ∷ es) (e ∷ fs) xs ys
more v count rows e es fs xs ys (same p q) = same (ap (λ gs. e ∷ gs) p) q
more v count rows e es fs xs ys (left_goes_on g) = left_goes_on g
more v count rows e es fs xs ys (right_goes_on g) = right_goes_on g

pub follow : (v : Version) (count : ℕ) (rows : List Entry) (es fs : List Event) (xs ys : List ℕ) → IsLegalFrom count rows es → AreSpelt v rows es
    → IsLegalFrom count rows fs → AreSpelt v rows fs
    → event_lines v es ++ xs ≡ event_lines v fs ++ ys → Followed v count rows es fs xs ys
follow v count rows [] [] xs ys l s m t e = same refl e
follow v count rows [] (f ∷ fs) xs ys l s m t e = left_goes_on (goes_on v count rows f fs xs ys m t e)
follow v count rows (e ∷ es) [] xs ys l s m t h = right_goes_on (goes_on v count rows e es ys xs l s (sym h))
follow v count rows (e ∷ es) (f ∷ fs) xs ys l s m t h =
    let a = event_lines v es ++ xs in
    let b = event_lines v fs ++ ys in
    let lines : line (event_line v e) ++ a ≡ line (event_line v f) ++ b =
    sym (append_assoc (line (event_line v e)) (event_lines v es) xs) ∙ h ∙ append_assoc (line (event_line v f)) (event_lines v fs) ys in
    let split = first_line (event_line v e) (event_line v f) a b (one_event v e l.0.bounds) (one_event v f m.0.bounds) lines in
    let one : f ≡ e = sym (one_event_of v rows e f l.0.bounds m.0.bounds s.0 t.0 split.0) in
    subst (λ (g : Event). Followed v count rows (e ∷ es) (g ∷ fs) xs ys) (sym one)
    (more v count rows e es fs xs ys
    (follow v count (after rows e) es fs xs ys l.1 s.1 (subst (λ (g : Event). IsLegalFrom count (after rows g) fs) one m.1)
    (subst (λ (g : Event). AreSpelt v (after rows g) fs) one t.1) split.1))

-- two beginnings of one text
pub record AreBegun (v w : Version) (c d : ℕ) (es fs : List Event) (xs ys : List ℕ) : Type 0 where
  pub version : v ≡ w
  pub cowns : c ≡ d
  pub followed : Followed v c [] es fs xs ys

pub both_begun : (v w : Version) (c d : ℕ) (es fs : List Event) (xs ys : List ℕ) → HasBegun v c es → HasBegun w d fs → begun v c es ++ xs ≡ begun w d fs ++ ys
    → AreBegun v w c d es fs xs ys
both_begun v w c d es fs xs ys b g h =
    let x = event_lines v es ++ xs in
    let y = event_lines w fs ++ ys in
    let lines : line (header v c) ++ x ≡ line (header w d) ++ y =
    sym (append_assoc (line (header v c)) (event_lines v es) xs) ∙ h ∙ append_assoc (line (header w d)) (event_lines w fs) ys in
    let split = first_line (header v c) (header w d) x y (one_header v c b.few) (one_header w d g.few) lines in
    let one = one_header_of v w c d b.few g.few split.0 in
    let rest : event_lines v es ++ xs ≡ event_lines v fs ++ ys = split.1 ∙ ap (λ (u : Version). event_lines u fs ++ ys) (sym one.0) in
    record {
      version = one.0;
      cowns = one.1;
      followed = follow v c [] es fs xs ys b.legal b.spelt (subst (λ (n : ℕ). IsLegal n fs) (sym one.1) g.legal)
          (subst (λ (u : Version). AreSpelt u [] fs) (sym one.0) g.spelt) rest;
    }

-- ---- what a text begins with

-- a text that has begun begins with its header
pub begins_header : (v : Version) (c : ℕ) (es : List Event) (text rest : List ℕ) → HasBegun v c es → text ≡ begun v c es ++ rest → BeginsWith text (header v c)
begins_header v c es text rest b e = record {
  rest = event_lines v es ++ rest;
  is = e ∙ append_assoc (line (header v c)) (event_lines v es) rest;
  one = one_header v c b.few;
  short = short_header v c b.few;
}

-- what goes on begins with the line of its event
pub begins_on : (v : Version) (c : ℕ) (es : List Event) (text : List ℕ) → HasBegun v c es → (g : GoesOn v c (entries es) text)
    → BeginsWith text (event_line v g.event)
begins_on v c es text b g = record {
  rest = g.rest;
  is = g.is;
  one = one_event v g.event g.allowed.bounds;
  short = short_event v c (entries es) g.event b.few (well_log c es b.legal) g.allowed;
}

-- a text begins with one line
pub begins_one : (text l m : List ℕ) → BeginsWith text l → BeginsWith text m → l ≡ m
begins_one text l m p q = (first_line l m p.rest q.rest p.one q.one (sym p.is ∙ q.is)).0

feed_at : (l rest : List ℕ) (d : ℕ) → get_or (line l ++ rest) (length l) d ≡ 10
feed_at [] rest d = refl
feed_at (x ∷ l) rest d = feed_at l rest d

feed_within : (l rest : List ℕ) → length l < length (line l ++ rest)
feed_within l rest = omega (arith, length-append (line l) rest, length-append l (codes "\n"))

feed_in : (text l : List ℕ) (d : ℕ) → BeginsWith text l → get_or text (length l) d ≡ 10
feed_in text l d b = ap (λ t. get_or t (length l) d) b.is ∙ feed_at l b.rest d

within : (text l : List ℕ) → BeginsWith text l → length l < length text
within text l b = subst (λ t. length l < length t) (sym b.is) (feed_within l b.rest)

-- a line that ends is not cut
pub not_cut : (text l : List ℕ) → BeginsWith text l → IsCut text → ⊥
not_cut text l b c = c.one (length l) 0 (within text l b) (feed_in text l 0 b)

-- nor is it too long
pub not_long : (text l : List ℕ) → BeginsWith text l → BeginsLong text → ⊥
not_long text l b long =
    let early : length l < MOST_LINE + 1 = omega (arith, b.short) in
    long.one (length l) 0 (omega (arith, length-take (MOST_LINE + 1) text, within text l b, early))
    (get_or-take (MOST_LINE + 1) text (length l) 0 early ∙ feed_in text l 0 b)

-- and one that is too long is not cut
pub not_both : (text : List ℕ) → BeginsLong text → IsCut text → ⊥
not_both text long cut = omega (arith, long.more, cut.short)

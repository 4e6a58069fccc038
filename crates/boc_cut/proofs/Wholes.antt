-- A stream that is the text of a record so far: how it may go on.
use Rattle.std.proofs.Common.{◌≡◌, ℕ, suc, ◌+◌, ◌<◌, ◌≤◌, ◌^◌, List, [], ◌∷◌, ◌++◌, ◌∙◌, length, length-append, append_assoc, take, drop, get_or, ap, subst}
use Rattle.std.proofs.Common.{sym, refl, arith, ◌≢◌}
use Rattle.std.proofs.lemmas.List.{get_or-take, length-take, append-nil}
use Rattle.std.proofs.lemmas.List.Elements.{All-nil}
use Rattle.std.specs.Prelude.{codes, Option, Some, None, IfSome}
use Rattle.std.specs.Io.KnownBytes.{Consumes, IsAtEnd}
use Rattle.boc_program.specs.declared.limits.TheConstants.{MOST_COWNS}
use Rattle.boc_record.specs.RecordTexts.{Version, First, Second, version_number, line, header, event_line, event_lines, begun, BeginsWith}
use Rattle.boc_record.specs.RecordTexts.{IsOneLine, IsTextOf, HasBegun, fields}
use Rattle.boc_record.specs.declared.verdict.RecordFaultKind.TheVariants.{After}
use Rattle.boc_record.proofs.Beginnings.{GoesOn as Goes, Followed, same, left_goes_on, right_goes_on, both_begun, begins_header, begins_on, not_long}
use Rattle.boc_record.proofs.Lines.{one_event, one_stop, first_line}
use Rattle.boc_record.proofs.OneFault.{never_both}
use Rattle.boc_record.proofs.OneText.{no_stop}
use Rattle.boc_rules.specs.Log.{Log}
use Rattle.boc_runs.specs.declared.event.Event.{Event}
use Rattle.boc_runs.specs.Legal.{entries, IsComplete}
use Rattle.boc_runs.specs.Records.{Recorded}
use Rattle.boc_stream.specs.LongLines.{GivesLine, EndsInLine, IsTooLong}
use Rattle.boc_stream.specs.StreamFields.{IsShort, AreShort, IsShortField}
use Rattle.boc_stream.specs.StreamTexts.{stream_header}
use Rattle.boc_stream.specs.declared.fault.StreamFaultKind.{StreamFaultKind}
use Rattle.boc_stream.specs.declared.fault.StreamFaultKind.TheVariants as kinds
use Rattle.boc_stream.proofs.ShortFields.{one_field, first_field, small_rest}
use Rattle.boc_stream.proofs.Telling.{short_more}
use Rattle.boc_cut.specs.Reading.{HasNoLine}
use Rattle.boc_cut.specs.Whole.{NoneNext, IsNoRecord, NoRest, RefusesAs}

-- ---- texts that begin with a short line

feed_there : (l rest : List ℕ) → IsOneLine (line l ++ rest) → ⊥
feed_there [] rest one = one 0 0 (omega arith) refl
feed_there (x ∷ l) rest one = feed_there l rest (λ k d h. one (suc k) d (omega (arith, h)))

-- they do not end within that
not_within : (text l : List ℕ) → BeginsWith text l → EndsInLine (Some text) → ⊥
not_within text l b e = feed_there l b.rest (subst IsOneLine (sym e.whole ∙ b.is) e.unbroken)

not_too_long : (text l : List ℕ) → BeginsWith text l → IsTooLong (Some text) → ⊥
not_too_long text l b e = not_long text l b (record {
  more = omega (arith, length-take 4097 text, ap length e.front, e.many);
  one = λ k d h. (
      let few : k < 81 = omega (arith, h, length-take 81 text) in
      let at : get_or (take 81 text) k d ≡ get_or e.beginning k d =
      get_or-take 81 text k d few ∙ sym (get_or-take 4097 text k d (omega (arith, few))) ∙ ap (λ t. get_or t k d) e.front in
      subst (λ b. b ≢ 10) (sym at) (e.unbroken k d (omega (arith, few, e.many))));
})

-- and they do not end at once
not_ended : (text l : List ℕ) → BeginsWith text l → text ≡ [] → ⊥
not_ended text l b e =
    omega (arith, ap length (sym e ∙ b.is), length-append (line l) b.rest, length-append l (codes "\n"))

-- there is a line
not_without : (kind : StreamFaultKind) (text l : List ℕ) → BeginsWith text l → HasNoLine kind (Some text) → (kind ≡ kinds.Device → ⊥) → ⊥
not_without kinds.Truncated text l b e never = not_within text l b e
not_without kinds.LongLine text l b e never = not_too_long text l b e
not_without kinds.Device text l b e never = never refl
not_without _ text l b e never = e

-- ---- how a record's text goes on that has begun

-- the text goes on with an event that is allowed, or ends
pub data Onward (v : Version) (cowns : ℕ) (log : List Event) (text : List ℕ) : Type 0 where
  goes : Goes v cowns (entries log) text → Onward v cowns log text
  ends : text ≡ line (codes ".") → IsComplete log → Onward v cowns log text

begun_of : (text : List ℕ) (r : Recorded) → (t : IsTextOf text r) → HasBegun t.version r.cowns r.events
begun_of text r t = record { few = t.record_is.few; legal = t.record_is.legal; spelt = t.spelt }

by_followed : (v : Version) (cowns : ℕ) (log events : List Event) (text : List ℕ) → IsComplete events → Followed v cowns [] log events text (line (codes "."))
    → Onward v cowns log text
by_followed v cowns log events text complete (same p q) = ends q (subst IsComplete (sym p) complete)
by_followed v cowns log events text complete (left_goes_on g) = goes g
by_followed v cowns log events text complete (right_goes_on g) =
    absurd (no_stop v g.event (sym (first_line (codes ".") (event_line v g.event) [] g.rest one_stop
    (one_event v g.event g.allowed.bounds) g.is).0))

pub onward : (v : Version) (cowns : ℕ) (log : List Event) (text rest : List ℕ) (r : Recorded) → HasBegun v cowns log → text ≡ begun v cowns log ++ rest
    → IsTextOf text r → Onward v cowns log rest
onward v cowns log text rest r b e t =
    by_followed v cowns log r.events rest t.record_is.complete
    (both_begun v t.version cowns r.cowns log r.events rest (line (codes ".")) b (begun_of text r t) (sym e ∙ t.is)).followed

first_of : (v : Version) (cowns : ℕ) (log : List Event) (text : List ℕ) → HasBegun v cowns log → Onward v cowns log text → (l : List ℕ) × BeginsWith text l
first_of v cowns log text b (goes g) = (event_line v g.event, begins_on v cowns log text b g)
first_of v cowns log text b (ends e complete) =
    (codes ".", record { rest = []; is = e ∙ sym (append-nil (line (codes "."))); one = one_stop; short = omega arith })

-- a text does not go on at its end
pub not_at_end : (v : Version) (cowns : ℕ) (log : List Event) (text : List ℕ) → HasBegun v cowns log → Onward v cowns log text → text ≡ [] → ⊥
not_at_end v cowns log text b o e = let f = first_of v cowns log text b o in not_ended text f.0 f.1 e

-- nor where there is no line
pub not_stopped : (v : Version) (cowns : ℕ) (log : List Event) (text : List ℕ) (kind : StreamFaultKind) → HasBegun v cowns log → Onward v cowns log text
    → HasNoLine kind (Some text) → (kind ≡ kinds.Device → ⊥) → ⊥
not_stopped v cowns log text kind b o e never = let f = first_of v cowns log text b o in not_without kind text f.0 f.1 e never

-- nor by another line
pub not_other : (v : Version) (log : Log) (text l rest : List ℕ) → text ≡ line l ++ rest → IsOneLine l → NoneNext v log l
    → (l ≡ codes "." → IsComplete log.events → ⊥)
    → Onward v log.cowns log.events text → ⊥
not_other v log text l rest e one none never (goes g) =
    let split = first_line l (event_line v g.event) rest g.rest one (one_event v g.event g.allowed.bounds) (sym e ∙ g.is) in
    none g.event (record { bounds = g.allowed.bounds; is = split.0; spelt = g.spelt }) g.allowed
not_other v log text l rest e one none never (ends f complete) =
    never (first_line l (codes ".") rest [] one one_stop (sym e ∙ f ∙ sym (append-nil (line (codes "."))))).0 complete

-- ---- what is no record

-- the rest of a text so far, where the source tells it, does not go on
pub no_rest : (v : Version) (cowns : ℕ) (log : List Event) (before now : Option (List ℕ)) → HasBegun v cowns log → Consumes before now (event_lines v log)
    → ((rest : List ℕ) → now ≡ Some rest → Onward v cowns log rest → ⊥) → NoRest v cowns before
no_rest v cowns log before now b c never None d r = tt
no_rest v cowns log None now b c never (Some text) d r = absurd d
no_rest v cowns log (Some mid) None b c never (Some text) d r = absurd c
no_rest v cowns log (Some mid) (Some rest) b c never (Some text) d r = λ t.
    never rest refl (onward v cowns log text rest r b (d ∙ ap (λ xs. line (header v cowns) ++ xs) c
    ∙ sym (append_assoc (line (header v cowns)) (event_lines v log) rest)) t)

-- nor does a text with something behind its last line
pub no_more : (v : Version) (cowns : ℕ) (log : List Event) (before now : Option (List ℕ)) → HasBegun v cowns log → IsComplete log
    → Consumes before now (event_lines v log ++ line (codes ".")) → IfSome now (λ rest. 0 < length rest) → NoRest v cowns before
no_more v cowns log before now b complete c some None d r = tt
no_more v cowns log None now b complete c some (Some text) d r = absurd d
no_more v cowns log (Some mid) None b complete c some (Some text) d r = absurd c
no_more v cowns log (Some mid) (Some []) b complete c some (Some text) d r = absurd (omega (arith, some))
no_more v cowns log (Some mid) (Some (first ∷ rest)) b complete c some (Some text) d r = λ t. never_both text r (length log + 3) After t (record {
  version = v;
  cowns = cowns;
  events = log;
  begins = b;
  complete = complete;
  first = first;
  rest = rest;
  split = d ∙ ap (λ xs. line (header v cowns) ++ xs) c
      ∙ sym (append_assoc (line (header v cowns)) (event_lines v log ++ line (codes ".")) (first ∷ rest))
      ∙ ap (λ xs. xs ++ (first ∷ rest)) (sym (append_assoc (line (header v cowns)) (event_lines v log) (line (codes "."))));
  number_is = refl;
})

-- no text of a record has another first line
pub no_header : (known : Option (List ℕ))
    → ((r : Recorded) (text : List ℕ) (v : Version) → known ≡ Some text → r.cowns ≤ MOST_COWNS → BeginsWith text (header v r.cowns) → ⊥)
    → IsNoRecord known
no_header None never r = tt
no_header (Some text) never r = λ t.
    never r text t.version refl t.record_is.few (begins_header t.version r.cowns r.events text (line (codes ".")) (begun_of text r t) t.is)

same_text : (xs ys : List ℕ) → Some xs ≡ Some ys → xs ≡ ys
same_text xs ys e = cc

-- nor none at all
pub no_first_line : (known : Option (List ℕ)) → IsAtEnd known → IsNoRecord known
no_first_line None e r = tt
no_first_line (Some text) e r = no_header (Some text) (λ s t v is few b. not_ended t (header v s.cowns) b (sym (same_text text t is) ∙ e)) r

-- nor one without an end
pub no_whole_line : (kind : StreamFaultKind) (known : Option (List ℕ)) → HasNoLine kind known → RefusesAs kind known
no_whole_line kinds.Truncated known e = no_header known (λ s t v is few b. not_within t (header v s.cowns) b (subst EndsInLine is e))
no_whole_line kinds.LongLine known e = no_header known (λ s t v is few b. not_too_long t (header v s.cowns) b (subst IsTooLong is e))
no_whole_line kinds.Device known e = tt
no_whole_line _ known e = absurd e

-- fields of numbers are of one list of them
pub one_shorts : (ns ms : List ℕ) → AreShort ns → AreShort ms → fields ns ≡ fields ms → ns ≡ ms
one_shorts [] [] p q e = refl
one_shorts [] (m ∷ ms) p q e = absurd (omega (arith, ap length e))
one_shorts (n ∷ ns) [] p q e = absurd (omega (arith, ap length e))
one_shorts (n ∷ ns) (m ∷ ms) p q e =
    let other : IsShortField (fields (n ∷ ns)) m (fields ms) = subst (λ (t : List ℕ). IsShortField t m (fields ms)) (sym e) (first_field m ms q) in
    let one = one_field (fields (n ∷ ns)) (fields ns) (fields ms) n m (first_field n ns p) other in
    ap (λ x. x ∷ ns) one.0 ∙ ap (λ xs. m ∷ xs) (one_shorts ns ms (small_rest n ns p) (small_rest m ms q) one.1)

-- ---- the first line

-- a line that was found is the first one of the bytes
pub behind : (l rest : List ℕ) (now after : Option (List ℕ)) → now ≡ Some rest → GivesLine l now after → (more : List ℕ) × (rest ≡ line l ++ more)
behind l rest now None e g = absurd (subst (λ (x : Option (List ℕ)). Consumes x None (line l)) e g.taken)
behind l rest now (Some more) e g = (more, subst (λ (x : Option (List ℕ)). Consumes x (Some more) (line l)) e g.taken)

first_found : (l m text : List ℕ) (before after : Option (List ℕ)) → GivesLine l before after → before ≡ Some text → BeginsWith text m → l ≡ m
first_found l m text before after g e b =
    let split = behind l text before after e g in
    (first_line l m split.0 b.rest g.unbroken b.one (sym split.1 ∙ b.is)).0

-- a line that is no header is not the first of a record
pub other_header : (l : List ℕ) (before after : Option (List ℕ)) → GivesLine l before after
    → ((v : Version) (n : ℕ) → IsShort n → l ≡ stream_header v n → ⊥) → IsNoRecord before
other_header l before after g none =
    no_header before (λ r text v e few b. none v r.cowns (omega (arith, few)) (first_found l (header v r.cowns) text before after g e b))

short_version : (v : Version) → IsShort (version_number v)
short_version First = omega arith
short_version Second = omega arith

two_shorts : (v : Version) (n : ℕ) → IsShort n → AreShort (version_number v ∷ n ∷ [])
two_shorts v n small = short_more (version_number v) (n ∷ []) (short_version v) (short_more n [] small (All-nil (λ m. m < 10 ^ 18)))

one_header : (v w : Version) (n m : ℕ) → IsShort n → IsShort m → stream_header v n ≡ header w m → n ≡ m
one_header v w n m p q e =
    let numbers = one_shorts (version_number v ∷ n ∷ []) (version_number w ∷ m ∷ []) (two_shorts v n p) (two_shorts w m q) (ap (drop 3) e) in
    ap (λ xs. get_or xs 1 0) numbers

-- nor is one that names more cowns than a record can have
pub many_cowns : (l : List ℕ) (v : Version) (n : ℕ) (before after : Option (List ℕ)) → GivesLine l before after → IsShort n → l ≡ stream_header v n
    → (n ≤ MOST_COWNS → ⊥) → IsNoRecord before
many_cowns l v n before after g small is many = no_header before (λ r text w e few b. (
    let same = one_header v w n r.cowns small (omega (arith, few)) (sym is ∙ first_found l (header w r.cowns) text before after g e b) in
    many (omega (arith, same, few))))

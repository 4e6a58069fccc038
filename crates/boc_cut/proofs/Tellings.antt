-- The line that tells something of an event is the event's.
use Rattle.std.proofs.Common.{◌≡◌, ◌≢◌, ℕ, suc, ◌<◌, ◌≤◌, ◌^◌, List, [], ◌∷◌, ◌++◌, ◌∙◌, length, drop, get_or, ap, subst, sym, refl, arith}
use Rattle.std.specs.Prelude.{Option, Some, None, MatchOption, Err}
use Rattle.std.proofs.lemmas.List.Elements.{All-nil}
use Rattle.boc_program.specs.declared.body.EndStatus.{EndStatus}
use Rattle.boc_program.specs.declared.body.EndStatus.TheVariants as statuses
use Rattle.boc_program.specs.declared.limits.TheConstants.{MOST_HELD}
use Rattle.boc_record.specs.Fields.{AreSmall, numbers_of as event_numbers, sign_of as event_sign}
use Rattle.boc_record.specs.RecordTexts.{Version, First, Second, IsSpelt, fields, event_line, status_number}
use Rattle.boc_record.proofs.Told.{line_is, small_numbers}
use Rattle.boc_record.proofs.OneText.{one_event_of}
use Rattle.boc_rules.specs.Log.{Log, grown}
use Rattle.boc_rules.specs.Rules.{Applies}
use Rattle.boc_rules.specs.declared.fault.RuleFault.{RuleFault}
use Rattle.boc_rules.specs.declared.fault.RuleFault.TheVariants as rules_broken
use Rattle.boc_runs.specs.declared.event.BrokenRule.{BrokenRule}
use Rattle.boc_runs.specs.declared.event.Event.{Event}
use Rattle.boc_runs.specs.declared.event.Event.TheVariants as events
use Rattle.boc_runs.specs.Legal.{Entry, entries, HasBounds, IsAllowed, IsFirstBroken}
use Rattle.boc_stream.specs.StreamFields.{IsShort, AreShort}
use Rattle.boc_stream.specs.StreamTexts.{Says, sign_of, numbers_of}
use Rattle.boc_stream.specs.declared.told.Told.{Told}
use Rattle.boc_stream.specs.declared.told.Told.TheVariants as tolds
use Rattle.boc_stream.proofs.Telling.{short_more}
use Rattle.boc_cut.specs.Whole.{IsTaken, IsLineOf, IsSmall, NoneNext, SaysEvent}
use Rattle.boc_cut.proofs.Wholes.{one_shorts}

-- what is told of an event makes its line
pub says_line : (v : Version) (l : List ℕ) (told : Told) (ns : List ℕ) (event : Event) → Says v l told ns → SaysEvent v told ns event → l ≡ event_line v event
says_line v l (tolds.Spawn row parent offset) ns (events.Spawn r p o cowns) s e = s.is ∙ (λ i. 43 ∷ fields (e.0 i ∷ e.1 i ∷ e.2 i ∷ e.3 i))
says_line v l (tolds.Start row) ns (events.Start r) s e = s.is ∙ (λ i. 62 ∷ fields (e i ∷ s.may i))
says_line First l (tolds.End row ticks status) ns (events.End r t u written) s e =
    s.is ∙ (λ i. 60 ∷ fields (e.0 i ∷ e.1 i ∷ status_number (e.2 i) ∷ s.may i))
says_line Second l (tolds.End row ticks status) ns (events.End r t u written) s e =
    s.is ∙ (λ i. 60 ∷ fields (e.0 i ∷ e.1 i ∷ status_number (e.2 i) ∷ e.3 i))
says_line v l told ns event s e = absurd e

-- the event of a line that was told was put behind a log
pub taken_line : (v : Version) (l : List ℕ) (told : Told) (ns : List ℕ) (event : Event) (old new : Log) → Says v l told ns
    → HasBounds event × SaysEvent v told ns event × IsSpelt v (entries old.events) event
    → IsAllowed old.cowns (entries old.events) event × (new ≡ grown old event)
    → IsTaken v l old new
taken_line v l told ns event old new says of_event applied = record {
  event = event;
  line_is = record { bounds = of_event.0; is = says_line v l told ns event says of_event.1; spelt = of_event.2 };
  allowed = applied.0;
  events_are = ap (λ (x : Log). x.events) applied.1;
  cowns_are = ap (λ (x : Log). x.cowns) applied.1;
}

-- the line of an event that was told
pub line_of : (v : Version) (rows : List Entry) (l : List ℕ) (told : Told) (ns : List ℕ) (event : Event) → Says v l told ns
    → HasBounds event × SaysEvent v told ns event × IsSpelt v rows event → IsLineOf v rows l event
line_of v rows l told ns event says of_event =
    record { bounds = of_event.0; is = says_line v l told ns event says of_event.1; spelt = of_event.2 }

-- what was told of a line, if something was
pub told_none : (v : Version) (l ns : List ℕ) (o : Option Told) → o ≡ None
    → MatchOption o ((told : Told) (last : List ℕ) → Says v l told last → ⊥) (λ told. Says v l told ns) → (told : Told) (last : List ℕ) → Says v l told last → ⊥
told_none v l ns None e none = none
told_none v l ns (Some told) e says = absurd (let f : Some told ≡ None = e in cc)

pub told_some : (v : Version) (l ns : List ℕ) (o : Option Told) (told : Told) → o ≡ Some told
    → MatchOption o ((told : Told) (last : List ℕ) → Says v l told last → ⊥) (λ told. Says v l told ns) → Says v l told ns
told_some v l ns None told e none = absurd (let f : None ≡ Some told = e in cc)
told_some v l ns (Some other) told e says =
    let same : other ≡ told = (let f : Some other ≡ Some told = e in cc) in
    subst (λ (t : Told). Says v l t ns) same says

-- ---- each event's line tells something

short_of : (n : ℕ) → n < 2 ^ 32 → IsShort n
short_of n h = omega (arith, h)

shorts_of : (ns : List ℕ) → AreSmall ns → AreShort ns
shorts_of ns small = λ k d h. short_of (get_or ns k d) (small k d h)

short_status : (status : EndStatus) → IsShort (status_number status)
short_status statuses.Done = omega arith
short_status statuses.Overflow = omega arith
short_status statuses.ZeroDivisor = omega arith
short_status statuses.OutOfRange = omega arith
short_status statuses.SameCown = omega arith
short_status statuses.Negative = omega arith
short_status statuses.TickCap = omega arith

none_short : AreShort []
none_short = All-nil (λ n. n < 10 ^ 18)

-- what an event's line tells, and the numbers at its end
pub says_of : (v : Version) (l : List ℕ) (event : Event) → HasBounds event → l ≡ event_line v event → (told : Told) × (ns : List ℕ) × Says v l told ns
says_of v l (events.Spawn row parent offset cowns) b e = (
  tolds.Spawn row parent offset,
  cowns.items,
  record {
    numbers = short_more row (parent ∷ offset ∷ []) (short_of row b.0) (short_more parent (offset ∷ []) (short_of parent b.1)
        (short_more offset [] (short_of offset b.2) none_short));
    cowns_small = shorts_of cowns.items b.3;
    may = tt;
    is = e;
  },
)
says_of v l (events.Start row) b e =
    (tolds.Start row, [], record { numbers = short_more row [] (short_of row b) none_short; cowns_small = none_short; may = refl; is = e })
says_of First l (events.End row ticks status written) b e = (
  tolds.End row ticks status,
  [],
  record {
    numbers = short_more row (ticks ∷ status_number status ∷ []) (short_of row b.0) (short_more ticks (status_number status ∷ []) (short_of ticks b.1)
        (short_more (status_number status) [] (short_status status) none_short));
    cowns_small = none_short;
    may = refl;
    is = e;
  },
)
says_of Second l (events.End row ticks status written) b e = (
  tolds.End row ticks status,
  written.items,
  record {
    numbers = short_more row (ticks ∷ status_number status ∷ []) (short_of row b.0) (short_more ticks (status_number status ∷ []) (short_of ticks b.1)
        (short_more (status_number status) [] (short_status status) none_short));
    cowns_small = shorts_of written.items b.2;
    may = tt;
    is = e;
  },
)

-- a line that tells nothing is no event's
pub none_told : (v : Version) (log : Log) (l : List ℕ) → ((told : Told) (ns : List ℕ) → Says v l told ns → ⊥) → NoneNext v log l
none_told v log l none event is allowed = let s = says_of v l event is.bounds is.is in none s.0 s.1 s.2

-- ---- what is told of an event has its numbers

both_lists : (v : Version) (l : List ℕ) (told : Told) (ns : List ℕ) (event : Event) → Says v l told ns → HasBounds event → l ≡ event_line v event
    → (sign_of told ≡ event_sign event) × (numbers_of told ++ ns ≡ event_numbers v event)
both_lists v l told ns event s b e =
    let both : sign_of told ∷ fields (numbers_of told ++ ns) ≡ event_sign event ∷ fields (event_numbers v event) = sym s.is ∙ e ∙ line_is v event in (
      ap (λ xs. get_or xs 0 0) both,
      one_shorts (numbers_of told ++ ns) (event_numbers v event) (all_short told ns s.numbers s.cowns_small)
          (shorts_of (event_numbers v event) (small_numbers v event b)) (ap (drop 1) both),
    ) where
      all_short : (told : Told) (ns : List ℕ) → AreShort (numbers_of told) → AreShort ns → AreShort (numbers_of told ++ ns)
      all_short (tolds.Spawn row parent offset) ns a b = short_more row (parent ∷ offset ∷ ns) (a 0 0 (omega arith))
          (short_more parent (offset ∷ ns) (a 1 0 (omega arith)) (short_more offset ns (a 2 0 (omega arith)) b))
      all_short (tolds.Start row) ns a b = short_more row ns (a 0 0 (omega arith)) b
      all_short (tolds.End row ticks status) ns a b = short_more row (ticks ∷ status_number status ∷ ns) (a 0 0 (omega arith))
          (short_more ticks (status_number status ∷ ns) (a 1 0 (omega arith)) (short_more (status_number status) ns (a 2 0 (omega arith)) b))
      all_short tolds.Last ns a b = b

few_numbers : (v : Version) (told : Told) (ns : List ℕ) (event : Event) → HasBounds event → sign_of told ≡ event_sign event
    → numbers_of told ++ ns ≡ event_numbers v event → length ns ≤ MOST_HELD
few_numbers v (tolds.Spawn row parent offset) ns (events.Spawn r p o cowns) b s e = omega (arith, b.4, ap length e)
few_numbers v (tolds.Start row) ns (events.Start r) b s e = omega (arith, ap length e)
few_numbers First (tolds.End row ticks status) ns (events.End r t u written) b s e = omega (arith, ap length e)
few_numbers Second (tolds.End row ticks status) ns (events.End r t u written) b s e = omega (arith, b.3, ap length e)
few_numbers v (tolds.Spawn row parent offset) ns (events.Start r) b s e = absurd (omega (arith, s))
few_numbers v (tolds.Spawn row parent offset) ns (events.End r t u written) b s e = absurd (omega (arith, s))
few_numbers v (tolds.Start row) ns (events.Spawn r p o cowns) b s e = absurd (omega (arith, s))
few_numbers v (tolds.Start row) ns (events.End r t u written) b s e = absurd (omega (arith, s))
few_numbers v (tolds.End row ticks status) ns (events.Spawn r p o cowns) b s e = absurd (omega (arith, s))
few_numbers v (tolds.End row ticks status) ns (events.Start r) b s e = absurd (omega (arith, s))
few_numbers v tolds.Last ns (events.Spawn r p o cowns) b s e = absurd (omega (arith, s))
few_numbers v tolds.Last ns (events.Start r) b s e = absurd (omega (arith, s))
few_numbers v tolds.Last ns (events.End r t u written) b s e = absurd (omega (arith, s))

not_last : (told : Told) (event : Event) → sign_of told ≡ event_sign event → told ≢ tolds.Last
not_last told (events.Spawn r p o cowns) s e = absurd (omega (arith, sym (ap sign_of e) ∙ s))
not_last told (events.Start r) s e = absurd (omega (arith, sym (ap sign_of e) ∙ s))
not_last told (events.End r t u written) s e = absurd (omega (arith, sym (ap sign_of e) ∙ s))

-- what is told that a record cannot have is told by no event's line
pub none_small : (v : Version) (log : Log) (l : List ℕ) (told : Told) (ns : List ℕ) → Says v l told ns → (IsSmall told ns → ⊥) → NoneNext v log l
none_small v log l told ns s none event is allowed =
    let both = both_lists v l told ns event s is.bounds is.is in
    none (record {
      small = subst AreSmall (sym both.1) (small_numbers v event is.bounds);
      few = few_numbers v told ns event is.bounds both.0 both.1;
      open_line = not_last told event both.0;
    })

-- nor does a line tell an event that is allowed where it tells one that breaks a rule
pub none_broken : (v : Version) (log : Log) (l : List ℕ) (event : Event) (rule : BrokenRule) → IsLineOf v (entries log.events) l event
    → IsFirstBroken log.cowns (entries log.events) event rule → NoneNext v log l
none_broken v log l event rule is broken other other_is allowed =
    let one : other ≡ event = one_event_of v (entries log.events) other event other_is.bounds is.bounds other_is.spelt is.spelt (sym other_is.is ∙ is.is) in
    broken.broken ((subst (λ (x : Event). IsAllowed log.cowns (entries log.events) x) one allowed).keeps rule)

-- such a rule was the answer
pub broken_line : (v : Version) (l : List ℕ) (event : Event) (old new : Log) (fault : RuleFault) (rule : BrokenRule) → fault ≡ rules_broken.Broken rule
    → IsLineOf v (entries old.events) l event → Applies old event (Err fault) new → NoneNext v old l × (new ≡ old)
broken_line v l event old new fault rule e is applied =
    let refused = subst (λ (f : RuleFault). Applies old event (Err f) new) e applied in
    (none_broken v old l event rule is refused.0, refused.1)

-- ---- what is told that a record cannot have

pub no_small_spawn : (row parent offset : ℕ) (ns : List ℕ) → (row < 2 ^ 32 → parent < 2 ^ 32 → offset < 2 ^ 32 → AreSmall ns → length ns ≤ MOST_HELD → ⊥)
    → IsSmall (tolds.Spawn row parent offset) ns → ⊥
no_small_spawn row parent offset ns none s =
    none (s.small 0 0 (omega arith)) (s.small 1 0 (omega arith)) (s.small 2 0 (omega arith))
    (λ k d h. s.small (suc (suc (suc k))) d (omega (arith, h))) s.few

pub no_small_start : (row : ℕ) (ns : List ℕ) → (row < 2 ^ 32 → ⊥) → IsSmall (tolds.Start row) ns → ⊥
no_small_start row ns none s = none (s.small 0 0 (omega arith))

pub no_small_end : (row ticks : ℕ) (status : EndStatus) (ns : List ℕ) → (row < 2 ^ 32 → ticks < 2 ^ 32 → AreSmall ns → length ns ≤ MOST_HELD → ⊥)
    → IsSmall (tolds.End row ticks status) ns → ⊥
no_small_end row ticks status ns none s =
    none (s.small 0 0 (omega arith)) (s.small 1 0 (omega arith)) (λ k d h. s.small (suc (suc (suc k))) d (omega (arith, h))) s.few

spelt_spawn : (v : Version) (rows : List Entry) (row parent offset : ℕ) (ns : List ℕ) (event : Event) → SaysEvent v (tolds.Spawn row parent offset) ns event
    → IsSpelt v rows event
spelt_spawn First rows row parent offset ns (events.Spawn r p o cowns) e = tt
spelt_spawn Second rows row parent offset ns (events.Spawn r p o cowns) e = tt
spelt_spawn v rows row parent offset ns (events.Start r) e = absurd e
spelt_spawn v rows row parent offset ns (events.End r t u written) e = absurd e

-- a spawn is spelt behind any rows
pub spawn_event : (v : Version) (rows : List Entry) (row parent offset : ℕ) (ns : List ℕ) (told : Told) (o : Option Event)
    → told ≡ tolds.Spawn row parent offset
    → MatchOption o (IsSmall (tolds.Spawn row parent offset) ns → ⊥) (λ e. HasBounds e × SaysEvent v (tolds.Spawn row parent offset) ns e)
    → MatchOption o (IsSmall told ns → ⊥) (λ e. HasBounds e × SaysEvent v told ns e × IsSpelt v rows e)
spawn_event v rows row parent offset ns told None is none = subst (λ (t : Told). IsSmall t ns → ⊥) (sym is) none
spawn_event v rows row parent offset ns told (Some e) is says =
    (says.0, subst (λ (t : Told). SaysEvent v t ns e) (sym is) says.1, spelt_spawn v rows row parent offset ns e says.1)

-- What `whatif`, `curve` and `sweep` answer.
use Rattle.std.proofs.Common.{◌≡◌, ℕ, ◌+◌, ◌≤◌, List, ◌++◌, length, Option, Result, Ok, Err, sym, ap, ◌∙◌, subst, arith}
use Rattle.std.specs.Result.{IsErrAnd}
use Rattle.std.proofs.KnownBytes.{Keeps-refl}
use Rattle.std.proofs.lemmas.List.{append-nil}
use Rattle.boc_text.specs.Streams.{ReadsWhole, StopsAt}
use Rattle.boc_program.specs.declared.limits.TheConstants.{MOST_TEXT}
use Rattle.boc_run_commands.specs.declared.fault.Fault.{Fault}
use Rattle.boc_run_commands.specs.declared.fault.Fault.TheVariants as faults
use Rattle.boc_run_commands.specs.declared.fault.Want.TheVariants as means
use Rattle.boc_run_commands.specs.Faults.{gone_of, of_write}
use Rattle.boc_text.specs.Writing.{Writes}
use Rattle.boc_text.specs.declared.fault.WriteFault.{WriteFault}
use Rattle.boc_text.specs.declared.fault.WriteFault.TheVariants as writes
use Rattle.std.specs.Prelude.{IfSome, Some, None}
use Rattle.std.specs.Io.KnownBytes.{Consumes, IsAtEnd}
use Rattle.boc_run_commands.specs.Commands.{AnswersInput, Leaves, LeavesAfter}
use Rattle.boc_runs.specs.declared.rows.Row.{Row}
use Rattle.boc_plans.specs.declared.sharing.Sharing.{Sharing}
use Rattle.boc_plans.specs.Seen.{seen}
use Rattle.boc_order.specs.declared.report.Profile.{Profile}
use Rattle.boc_order.specs.Profiles.{IsProfileOf}
use Rattle.boc_greedy.specs.declared.plan.Greedy.{Greedy}
use Rattle.boc_report.specs.Parts.{part_of}
use Rattle.boc_run_commands.specs.Answers.{AreSwept, IsAskedPart, IsCheckAnswer, IsReport, IsProfileAnswer, IsSweepAnswer}
use Rattle.boc_run_commands.specs.Answers.{first_of}
use Rattle.boc_plans.specs.declared.sweep.Sweep.{Sweep}
use Rattle.boc_run_commands.specs.CheckTexts.{check_text}
use Rattle.boc_report.specs.Texts.{report_text, sweep_lines}
use Rattle.boc_runs.specs.Records.{Recorded}
use Rattle.boc_record.specs.RecordTexts.{IsTextOf}
use Rattle.boc_record.specs.Reading.{TakesRecord}
use Rattle.boc_words.specs.declared.asked.AskedPlans.{AskedPlans}

-- the answer of a sweep, from the rows that were swept
pub swept : (sharing kept : Sharing) (over : Sweep) (input : List ℕ) (r : Recorded) (rows : List Row) (count first : ℕ) (ends read : List ℕ)
    → IsTextOf input r → rows ≡ r.rows → count ≡ r.cowns → kept ≡ sharing → AreSwept (seen kept rows) count over ends → read ≡ ends → first ≡ first_of over
    → IsSweepAnswer sharing over input (sweep_lines first read)
swept sharing kept over input r rows count first ends read spells same many way sweep are from = record {
  recorded = r;
  spells = spells;
  ends = ends;
  sweep = subst (λ n. AreSwept (seen sharing r.rows) n over ends) many
      (subst (λ s. AreSwept (seen s r.rows) count over ends) way (subst (λ xs. AreSwept (seen kept xs) count over ends) same sweep));
  text = ap (sweep_lines first) are ∙ ap (λ n. sweep_lines n ends) from;
}

-- the sink failed after a beginning of the answer
pub stopped : (IsText : List ℕ → Type 0) (r : Result (Unit {0}) Fault) (gone : ℕ) (text : List ℕ) (old new : Option (List ℕ))
    → IsErrAnd r (λ f. f ≡ faults.Means (means.Sink gone)) → IsText text → StopsAt gone text old new → Leaves IsText r old new
stopped IsText (Ok done) gone text old new h is stops = absurd h
stopped IsText (Err f) gone text old new h is stops = subst (λ x. Leaves {A = Unit {0}} IsText (Err x) old new) (sym h) (text, is, stops)

-- nothing went out where there was no memory
pub out_of_memory : (IsText : List ℕ → Type 0) (r : Result (Unit {0}) Fault) (same : Option (List ℕ)) → IsErrAnd r (λ f. f ≡ faults.Means means.Memory)
    → Leaves IsText r same same
out_of_memory IsText (Ok done) same h = absurd h
out_of_memory IsText (Err f) same h = subst (λ x. Leaves {A = Unit {0}} IsText (Err x) same same) (sym h) (Keeps-refl same)

-- an answer to a text that was taken whole, as what went out
pub answers_text : (IsAnswer : List ℕ → List ℕ → Type 0) (before after : Option (List ℕ)) (text seen made output : List ℕ)
    → ReadsWhole before after text (MOST_TEXT + 1)
    → seen ≡ text → output ≡ made → IsAnswer seen made → length seen ≤ MOST_TEXT → AnswersInput IsAnswer before after output
answers_text IsAnswer before after text seen made output read same is answer few = record {
  input = text;
  taken = read.taken;
  whole = read.whole (omega (arith, ap length same));
  answers = subst (λ t. IsAnswer t output) same (subst (IsAnswer seen) (sym is) answer);
}

-- the answer of a check, from the rows that were read
pub counted : (text : List ℕ) (r : Recorded) (rows : List Row) (made output : List ℕ) → IsTextOf text r → rows ≡ r.rows → made ≡ check_text (length rows)
    → output ≡ made
    → IsCheckAnswer text output
counted text r rows made output spells same is out = record { recorded = r; spells = spells; text = out ∙ is ∙ ap (λ xs. check_text (length xs)) same }

-- what holds of a text that was taken to the end holds of the bytes that the source told, if it told any
pub told : (P : List ℕ → Type 0) (before after : Option (List ℕ)) (text : List ℕ) → Consumes before after text → IsAtEnd after → P text → IfSome before P
told P None after text taken over h = tt
told P (Some xs) None text taken over h = absurd taken
told P (Some xs) (Some ys) text taken over h = subst P (sym (taken ∙ ap (λ zs. text ++ zs) over ∙ append-nil text)) h

-- the report on a profile and the greedy plan that was made, as it is passed on to be written
pub is_report : (rows : List Row) (asked : AskedPlans) (profile : Profile) (made plan : Option Greedy) → IsProfileOf rows profile
    → IsAskedPart rows asked (part_of asked.unplanned made) → plan ≡ made
    → IsReport rows asked (report_text asked.unplanned profile.work profile.span profile.chain.steps.items profile.starts.items profile.ends.items
    ++ part_of asked.unplanned plan)
is_report rows asked profile made plan is part_is same = record {
  starts = profile.starts.items;
  earliest = is.earliest;
  ends = profile.ends.items;
  ends_are = is.ends;
  span = profile.span;
  span_is = is.span;
  steps = profile.chain.steps.items;
  picked = is.picked;
  part = part_of asked.unplanned plan;
  part_is = subst (λ p. IsAskedPart rows asked (part_of asked.unplanned p)) (sym same) part_is;
  text = ap (λ work. report_text asked.unplanned work profile.span profile.chain.steps.items profile.starts.items profile.ends.items
      ++ part_of asked.unplanned plan) is.work;
}

-- the report on the rows of a record that was read
pub reported : (sharing : Sharing) (asked : AskedPlans) (text : List ℕ) (r : Recorded) (rows : List Row) (made output : List ℕ) → IsTextOf text r
    → rows ≡ r.rows → IsReport (seen sharing rows) asked made → output ≡ made → IsProfileAnswer sharing asked text output
reported sharing asked text r rows made output spells same report is = record {
  recorded = r;
  spells = spells;
  report = subst (λ t. IsReport (seen sharing r.rows) asked t) (sym is) (subst (λ xs. IsReport (seen sharing xs) asked made) same report);
}

-- a text that could not be written leaves a beginning of it, or nothing
pub unwritten : (IsText : List ℕ → Type 0) (r : Result (Unit {0}) Fault) (fault : WriteFault) (text : List ℕ) (old new : Option (List ℕ))
    → IsErrAnd r (λ f. f ≡ of_write fault) → IsText text → Writes {A = Unit {0}} text (Err fault) old new → Leaves IsText r old new
unwritten IsText (Ok done) fault text old new h is writes = absurd h
unwritten IsText (Err f) writes.Memory text old new h is kept = subst (λ x. Leaves {A = Unit {0}} IsText (Err x) old new) (sym h) kept
unwritten IsText (Err f) (writes.Device gone) text old new h is stops = subst (λ x. Leaves {A = Unit {0}} IsText (Err x) old new) (sym h) (text, is, stops)

-- what goes out as one answer goes out as another that it is
pub leaves_as : (IsText IsOther : List ℕ → Type 0) (r : Result (Unit {0}) Fault) (old new : Option (List ℕ)) → ((text : List ℕ) → IsText text
    → IsOther text) → Leaves IsText r old new
    → Leaves IsOther r old new
leaves_as IsText IsOther (Ok done) old new other left = (left.0, other left.0 left.1, left.2)
leaves_as IsText IsOther (Err fault) old new other left = after (gone_of fault) left
  where
    after : (gone : Option ℕ) → LeavesAfter IsText gone old new → LeavesAfter IsOther gone old new
    after None kept = kept
    after (Some gone) left = (left.0, other left.0 left.1, left.2)

-- what goes out of a record that was read to the end answers it
pub leaves_read : (IsText : List ℕ → Type 0) (IsAnswer : List ℕ → List ℕ → Type 0) (r : Result (Unit {0}) Fault) (before after old new : Option (List ℕ))
    {recorded : Recorded} (read : TakesRecord recorded before after)
    → ((made : List ℕ) → IsText made → IsAnswer read.text made) → Leaves IsText r old new → Leaves (AnswersInput IsAnswer before after) r old new
leaves_read IsText IsAnswer r before after old new read answers =
    leaves_as IsText (AnswersInput IsAnswer before after) r old new
    (λ made is. record { input = read.text; taken = read.taken; whole = read.over; answers = answers made is })

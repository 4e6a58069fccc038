-- What is taken of an input that is a program or a record, and what is refused of it.
use Rattle.std.proofs.Common.{◌≡◌, ◌∙◌, ℕ, zero, suc, ◌+◌, ◌<◌, ◌≤◌, inl, inr, List, [], ◌∷◌}
use Rattle.std.proofs.Common.{◌++◌, length, Option, Some, None, Result, Ok, Err, refl, ap, sym, subst, arith}
use Rattle.std.proofs.Common.{◌⊎◌, Bool, true, false, true≢false, take}
use Rattle.std.specs.Prelude.{codes}
use Rattle.std.specs.Str.{bytes_eq}
use Rattle.std.proofs.lemmas.Slice.Eq.{bytes_eq-Decides}
use Rattle.std.specs.Result.{IsErrAnd}
use Rattle.std.specs.Io.KnownBytes.{Consumes}
use Rattle.std.proofs.lemmas.List.{append_assoc}
use Rattle.boc_text.specs.Streams.{ReadsWhole}
use Rattle.boc_program.specs.declared.limits.TheConstants.{MOST_COWNS, MOST_TEXT}
use Rattle.boc_runs.specs.declared.rows.Row.{Row}
use Rattle.boc_record.specs.RecordTexts.{IsTextOf}
use Rattle.boc_record.specs.Reading.{IsFault, ReadsCounted}
use Rattle.boc_record.specs.declared.fault.RecordFault.{RecordFault}
use Rattle.boc_record.specs.declared.verdict.RecordFaultKind.{RecordFaultKind}
use Rattle.boc_record.specs.declared.verdict.RecordFaultKind.TheVariants as kinds
use Rattle.boc_run_commands.specs.declared.fault.Fault.{Fault}
use Rattle.boc_run_commands.specs.declared.fault.Fault.TheVariants as faults
use Rattle.boc_run_commands.specs.Commands.{AnswersInput, IsRecordRefusal}
use Rattle.boc_run_commands.specs.declared.fault.Want.TheVariants as wants
use Rattle.boc_words.specs.declared.asked.RunFile.{RunFile}
use Rattle.boc_words.specs.declared.asked.RunFile.TheVariants as run_files
use Rattle.boc_words.specs.declared.schedule.Schedule.{Schedule}
use Rattle.boc_run_commands.specs.NamedRuns.{BeginsRecord, IsCounted, IsOfNamedRun, IsOfOwn, IsOfRecord, IsShort, IsTaken, RefusesNamedRun, of_record_in_memory}
use Rattle.boc_run_commands.proofs.Asked.{told}

-- ---- the input

consumes_on : (before between after : Option (List ℕ)) (xs ys : List ℕ) → Consumes before between xs → Consumes between after ys
    → Consumes before after (xs ++ ys)
consumes_on None between after xs ys first second = tt
consumes_on (Some all) None after xs ys first second = absurd first
consumes_on (Some all) (Some left) None xs ys first second = absurd second
consumes_on (Some all) (Some left) (Some rest) xs ys first second =
    first ∙ ap (λ (t : List ℕ). xs ++ t) second ∙ sym (append_assoc xs ys rest)

begins_on : (text rest : List ℕ) → BeginsRecord text → BeginsRecord (text ++ rest)
begins_on [] rest h = absurd (let e : [] ≡ codes "boc" = h in omega (arith, ap length e))
begins_on (a ∷ []) rest h = absurd (let e : a ∷ [] ≡ codes "boc" = h in omega (arith, ap length e))
begins_on (a ∷ b ∷ []) rest h = absurd (let e : a ∷ b ∷ [] ≡ codes "boc" = h in omega (arith, ap length e))
begins_on (a ∷ b ∷ c ∷ text) rest h = h

-- the text of a record was taken to its end
pub taken_whole : (before between after : Option (List ℕ)) (text rest all : List ℕ) (first second : ℕ) → ReadsWhole before between text first
    → ReadsWhole between after rest second → length rest < second → BeginsRecord text → all ≡ text ++ rest → IsTaken before after all
taken_whole before between after text rest all first second reads more less begins same =
    subst (IsTaken before after) (sym same) (record {
      taken = consumes_on before between after text rest reads.taken more.taken;
      whole = λ is. more.whole less;
      few = λ none. absurd (none (begins_on text rest begins));
    })

shorter : (n most : ℕ) → n ≤ most → (n ≡ most → ⊥) → n < most
shorter zero zero few other = absurd (other refl)
shorter zero (suc most) few other = omega arith
shorter (suc n) zero few other = absurd (omega (arith, few))
shorter (suc n) (suc most) few other =
    let less : n < most = shorter n most (omega (arith, few)) (λ same. other (ap suc same)) in
    omega (arith, less)

-- a text that is no long record was taken as far as a program text is
pub taken_few : (before after : Option (List ℕ)) (text : List ℕ) → ReadsWhole before after text (MOST_TEXT + 1)
    → (length text ≡ MOST_TEXT + 1 → BeginsRecord text → ⊥) → IsTaken before after text
taken_few before after text reads none = record {
  taken = reads.taken;
  whole = λ is. reads.whole (shorter (length text) (MOST_TEXT + 1) reads.few (λ same. none same is));
  few = λ no. reads;
}

-- whether it begins as a record does can be told
pub begins_or_not : (text : List ℕ) → BeginsRecord text ⊎ (BeginsRecord text → ⊥)
begins_or_not text = go (bytes_eq (take 3 text) (codes "boc")) refl
  where
    go : (b : Bool) → bytes_eq (take 3 text) (codes "boc") ≡ b → BeginsRecord text ⊎ (BeginsRecord text → ⊥)
    go true is = inl ((bytes_eq-Decides (take 3 text) (codes "boc")).0 is)
    go false is = inr (λ same. true≢false (sym ((bytes_eq-Decides (take 3 text) (codes "boc")).1 same) ∙ is))

-- an answer to a text that was taken, as what went out
pub answers_taken : (IsAnswer : List ℕ → List ℕ → Type 0) (before after : Option (List ℕ)) (text made output : List ℕ) → IsTaken before after text
    → IsShort text → IsAnswer text made → output ≡ made → AnswersInput IsAnswer before after output
answers_taken IsAnswer before after text made output taken short answer same = record {
  input = text;
  taken = taken.taken;
  whole = elim (begins_or_not text) [
    | inl begins ↦ taken.whole begins
    | inr none ↦ let few = short none in (taken.few none).whole (omega (arith, few))
  ];
  answers = subst (IsAnswer text) (sym same) answer;
}

-- ---- what is refused

-- want of memory is a fault of an own run
own_memory : (always_on : Type 0) (schedule : Schedule) (text : List ℕ) → IsOfOwn always_on schedule text (faults.Means wants.Memory)
own_memory always_on schedule text = elim (begins_or_not text) [
  | inl begins ↦ inl (begins, tt)
  | inr none ↦ inr (none, tt)
]

-- and of any run with its names
pub no_memory : (always_on : Type 0) (schedule : Schedule) (file : Option RunFile) (bytes text : List ℕ)
    → IsOfNamedRun always_on schedule file bytes text (faults.Means wants.Memory)
no_memory always_on schedule None bytes text = own_memory always_on schedule text
no_memory always_on schedule (Some (run_files.Record path)) bytes text = tt
no_memory always_on schedule (Some (run_files.Names path)) bytes text = own_memory always_on schedule text

-- an input is refused for what was taken of it
pub refused_named_run : (always_on : Type 0) (schedule : Schedule) (file : Option RunFile) (bytes : List ℕ) (result : Result (Unit {0}) Fault)
    (fault : Fault) (text : List ℕ)
    (before after : Option (List ℕ)) → IsErrAnd result (λ f. f ≡ fault) → IsTaken before after text → IsOfNamedRun always_on schedule file bytes text fault
    → RefusesNamedRun always_on schedule file bytes result before after
refused_named_run always_on schedule file bytes (Ok done) fault text before after h taken is = absurd h
refused_named_run always_on schedule file bytes (Err f) fault text before after h taken is =
    subst (λ (x : Fault). RefusesNamedRun {A = Unit {0}} always_on schedule file bytes (Err x) before after) (sym h) (go fault is)
  where
    go : (x : Fault) → IsOfNamedRun always_on schedule file bytes text x → RefusesNamedRun {A = Unit {0}} always_on schedule file bytes (Err x) before after
    go (faults.Means w) is = tt
    go _ is = (text, taken, is)

-- ---- a record in memory

-- what was read of a text in memory is its record
pub counted_in : (text : List ℕ) (before after : Option (List ℕ)) (rows : List Row) (cowns : ℕ) → before ≡ Some text
    → ReadsCounted (Ok (rows, cowns)) before after → cowns ≤ MOST_COWNS → IsCounted text rows cowns
counted_in text before after rows cowns same reads few =
    let given : ReadsCounted (Ok (rows, cowns)) (Some text) after = subst (λ b. ReadsCounted (Ok (rows, cowns)) b after) same reads in
    record {
      recorded = given.0;
      spells = told (λ t. IsTextOf t given.0) (Some text) after given.1.text given.1.taken given.1.over given.1.text_of;
      rows_are = given.2;
      cowns_are = given.3;
      few = few;
    }

-- the fault of a text in memory is its first one, or want of memory
pub refused_in : (text : List ℕ) (fault : RecordFault) (before after : Option (List ℕ)) → before ≡ Some text
    → IsFault fault.kind fault.line before after → IsOfRecord text (of_record_in_memory fault fault.kind)
refused_in text fault before after same is = go fault.kind refl (subst (λ b. IsFault fault.kind fault.line b after) same is)
  where
    go : (kind : RecordFaultKind) → fault.kind ≡ kind → IsFault kind fault.line (Some text) after → IsOfRecord text (of_record_in_memory fault kind)
    go kinds.Memory own is = tt
    go kinds.Device own is = tt
    go kind own is = subst (λ k. IsRecordRefusal fault k (Some text)) (sym own) is

-- What is told of the same two runs has one text, with one text of notes.
use Rattle.std.proofs.Common.{◌≡◌, ◌∙◌, ◌++◌, ℕ, Bool, true, false, List, length, Option, Some, None, ap, refl, subst, sym}
use Rattle.std.specs.Prelude.{codes, ◌&&◌}
use Rattle.boc_runs.specs.declared.rows.Row.{Row}
use Rattle.boc_runs.specs.Records.{Recorded}
use Rattle.boc_runs.specs.Rows.{IsRows}
use Rattle.boc_names.specs.declared.names.Names.{Names}
use Rattle.boc_names.specs.Names.{CallTheSame, texts_of}
use Rattle.boc_remedies.specs.Questions.{Asked}
use Rattle.boc_compare.specs.declared.side.Side.{Side}
use Rattle.boc_compare.specs.Laws.{SayTheSame}
use Rattle.boc_compare.proofs.OneSide.{one_side}
use Rattle.boc_compare_report.proofs.OneText.{one_compare_text}
use Rattle.boc_words.specs.declared.asked.AskedCompare.{AskedCompare}
use Rattle.boc_words.specs.declared.asked.CompareFiles.{CompareFiles}
use Rattle.boc_words.specs.declared.asked.RunFile.{RunFile}
use Rattle.boc_run_commands.specs.Notes.{AreWanted, notes_of_rows}
use Rattle.boc_plan_commands.specs.WhyAnswers.{asked_of}
use Rattle.boc_several_commands.specs.Comparing.{AreNotesOf, IsComparedText, IsSided, IsSideTold, TellsCompare, TellsNamed, notes_of_side}
use Rattle.boc_several_commands.specs.declared.compare.Pair.{Pair}
use Rattle.boc_several_commands.specs.declared.side.Sided.{Sided}
use Rattle.boc_several_commands.proofs.Compared.{side_in_names}

-- ---- one side

-- the same is known of two runs, which call everything the same
pub record AreAlike (sided other : Sided) : Type 0 where
  pub side : SayTheSame sided.side other.side
  pub names : CallTheSame sided.names other.names
  pub named : sided.named ≡ other.named
  pub notes : sided.notes.items ≡ other.notes.items

one_named : (file : Option RunFile) (text : List ℕ) (named other : Bool) → TellsNamed file text named → TellsNamed file text other → named ≡ other
one_named (Some file) text named other a b = a ∙ sym b
one_named None text true true a b = refl
one_named None text true false a b = absurd (a b)
one_named None text false true a b = absurd (b a)
one_named None text false false a b = refl

one_text_of_notes : (quiet : Bool) (rows : List Row) (names others : Names) → CallTheSame names others → (notes other : List ℕ)
    → AreWanted quiet (λ told. told ≡ notes_of_rows (texts_of names.rows.items) rows) notes
    → AreWanted quiet (λ told. told ≡ notes_of_rows (texts_of others.rows.items) rows) other → notes ≡ other
one_text_of_notes true rows names others same notes other a b = a ∙ sym b
one_text_of_notes false rows names others same notes other a b =
    a ∙ ap (λ (called : List (List ℕ)). notes_of_rows called rows) same.rows ∙ sym b

-- of the rows of one run that are reported on one thing is known
pub one_sided : (asked : AskedCompare) (file : Option RunFile) (bytes text : List ℕ) (sided other : Sided) (a : IsSided asked file bytes text sided)
    (b : IsSided asked file bytes text other) → CallTheSame sided.names other.names → a.recorded ≡ b.recorded → a.measured ≡ b.measured → IsRows b.measured
    → length other.names.defs.items ≡ length b.measured → AreAlike sided other
one_sided asked file bytes text sided other a b called same measured shape whole =
    let question : Asked = asked_of b.measured other.names asked.sharing asked.workers in
    record {
      side = one_side question sided.side other.side shape whole
          (side_in_names b.measured other.names asked.sharing asked.workers sided.names.defs.items sided.names.families.items called.defs called.families
          sided.side (subst (λ (rows : List Row). IsSideTold asked rows sided.names sided.side) measured a.side)) b.side;
      names = called;
      named = one_named file text sided.named other.named a.named b.named;
      notes = one_text_of_notes asked.quiet b.recorded.rows sided.names other.names called sided.notes.items other.notes.items
          (subst (λ (r : Recorded). AreWanted asked.quiet (λ told. told ≡ notes_of_rows (texts_of sided.names.rows.items) r.rows) sided.notes.items) same
          a.noted) b.noted;
    }

-- ---- both sides

-- what is alike stays so where it stands elsewhere
say_the_same : (x y side other : Side) → x ≡ side → y ≡ other → SayTheSame side other → SayTheSame x y
say_the_same x y side other a b same =
    subst (λ (s : Side). SayTheSame s y) (sym a) (subst (λ (s : Side). SayTheSame side s) (sym b) same)

call_the_same : (x y names others : Names) → x ≡ names → y ≡ others → CallTheSame names others → CallTheSame x y
call_the_same x y names others a b same =
    subst (λ (n : Names). CallTheSame n y) (sym a) (subst (λ (n : Names). CallTheSame names n) (sym b) same)

one_text : (asked : AskedCompare) (before after other_before other_after : Sided) → AreAlike before other_before → AreAlike after other_after
    → (text other : List ℕ) → IsComparedText asked before after text → IsComparedText asked other_before other_after other → text ≡ other
one_text asked before after other_before other_after was is text other a b =
    one_compare_text a.own b.own (record {
      before = say_the_same a.own.before.now b.own.before.now before.side other_before.side a.are.before_is b.are.before_is was.side;
      before_names = call_the_same a.own.before_names.now b.own.before_names.now before.names other_before.names a.are.before_names_are
          b.are.before_names_are was.names;
      after = say_the_same a.own.after.now b.own.after.now after.side other_after.side a.are.after_is b.are.after_is is.side;
      after_names = call_the_same a.own.after_names.now b.own.after_names.now after.names other_after.names a.are.after_names_are b.are.after_names_are
          is.names;
      named = a.are.named_is ∙ (λ i. was.named i && is.named i) ∙ sym b.are.named_is;
      typical = a.are.typical_is ∙ sym b.are.typical_is;
      workers = a.are.workers_are ∙ sym b.are.workers_are;
    }) text other a.text_is b.text_is

one_text_of_both : (before after other_before other_after : Sided) → AreAlike before other_before → AreAlike after other_after → (notes others : List ℕ)
    → AreNotesOf before after notes → AreNotesOf other_before other_after others → notes ≡ others
one_text_of_both before after other_before other_after was is notes others a b =
    a ∙ (λ i. notes_of_side (codes "boc: note: in BEFORE:\n") (was.notes i) ++ notes_of_side (codes "boc: note: in AFTER:\n") (is.notes i)) ∙ sym b

-- where the same is known of both runs, there is one answer
pub one_compared : (asked : AskedCompare) (files : CompareFiles) (pair : Pair) (input notes output others other : List ℕ)
    (one : TellsCompare asked files pair notes input output) (another : TellsCompare asked files pair others input other)
    → AreAlike one.before another.before → AreAlike one.after another.after → (notes ≡ others) × (output ≡ other)
one_compared asked files pair input notes output others other one another was is = (
  one_text_of_both one.before one.after another.before another.after was is notes others one.noted another.noted,
  one_text asked one.before one.after another.before another.after was is output other one.told another.told,
)

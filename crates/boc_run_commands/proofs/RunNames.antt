-- The names of the rows and the cowns of a run are as many as those, and few.
use Rattle.std.proofs.Common.{◌≡◌, ◌∙◌, ℕ, zero, suc, ◌+◌, ◌<◌, ◌≤◌, List, [], ◌∷◌, Option, Some, None, Vec, codes, length, refl, ap, sym, subst, arith}
use Rattle.std.specs.Global.{Global}
use Rattle.std.specs.Prelude.{All, replicate, slice_get, slice_index_or}
use Rattle.std.proofs.lemmas.List.{length-append, length-map, length-replicate}
use Rattle.std.proofs.lemmas.List.Elements.{All-append, All-map, All-replicate}
use Rattle.boc_program.specs.declared.limits.TheConstants.{MOST_COWNS, MOST_ROWS}
use Rattle.boc_program.specs.declared.cown.Cown.{Cown}
use Rattle.boc_program.specs.declared.program.Program.{Program}
use Rattle.boc_program.specs.Programs.{cown_count, members}
use Rattle.boc_runs.specs.declared.event.Event.{Event}
use Rattle.boc_runs.specs.declared.rows.Row.{Row}
use Rattle.boc_runs.specs.Records.{Recorded, IsRecord, IsRecordOf}
use Rattle.boc_runs.specs.Rows.{IsRows}
use Rattle.boc_runs.specs.Run.{Member, config_of, IsRun}
use Rattle.boc_runs.proofs.RunsAreLegal.{run_twins}
use Rattle.boc_follow.proofs.RowKinds.{kind_there}
use Rattle.boc_names.specs.declared.names.Names.{Names}
use Rattle.boc_names.specs.Names.{Text, AreNamesOf, AreNumbers, cown_names, declared_names, family_numbers, member_names, member_text, named_cowns}
use Rattle.boc_names.specs.Names.{numbered_from, numbers_from, texts_of}
use Rattle.boc_names.specs.NamesFile.{AreWhole}
use Rattle.boc_names.proofs.Counts.{declared_few}
use Rattle.boc_run_commands.specs.NamedRuns.{AreFew}

-- ---- numbers as names

pub numbers_length : (i n : ℕ) → length (numbers_from i n) ≡ n
numbers_length i zero = refl
numbers_length i (suc n) = ap suc (numbers_length (suc i) n)

numbers_below : (i n most : ℕ) → i + n ≤ most → All (λ k. k < most) (numbers_from i n)
numbers_below i zero most h k d l = absurd (omega arith)
numbers_below i (suc n) most h zero d l = omega arith
numbers_below i (suc n) most h (suc k) d l = numbers_below (suc i) n most (omega arith) k d (omega arith)

pub numbered_length : (word : Text) (i n : ℕ) → length (numbered_from word i n) ≡ n
numbered_length word i zero = refl
numbered_length word i (suc n) = ap suc (numbered_length word (suc i) n)

-- as many texts as vectors
as_many : (texts : List (Vec ℕ Global)) (all : List Text) → texts_of texts ≡ all → length texts ≡ length all
as_many texts all is = sym (length-map texts (λ (t : Vec ℕ Global). t.items)) ∙ ap length is

-- the numbers of rows and cowns are few
pub numbers_few : (rows : List Row) (cowns : ℕ) (names : Names) → IsRows rows → cowns ≤ MOST_COWNS → AreNumbers (length rows) cowns names
    → AreFew rows names
numbers_few rows cowns names is few are = record {
  rows_are = as_many names.rows.items _ are.rows ∙ numbered_length (codes "row ") 0 (length rows);
  few_rows = is.not_many;
  defs = ap length are.defs ∙ numbers_length 0 (length rows);
  few_defs = subst (All (λ (d : ℕ). d < MOST_ROWS)) (sym are.defs) (numbers_below 0 (length rows) MOST_ROWS (omega (arith, is.not_many)));
  cowns_are = as_many names.cowns.items _ are.cowns ∙ numbered_length (codes "cown ") 0 cowns
      ∙ sym (ap length are.families ∙ numbers_length 0 cowns);
  few_cowns = omega (arith, few, ap length are.families, numbers_length 0 cowns);
  few_families = subst (All (λ (f : ℕ). f < MOST_COWNS)) (sym are.families) (numbers_below 0 cowns MOST_COWNS (omega (arith, few)));
}

-- the numbers of cowns are counted
pub numbers_counted : (rows cowns : ℕ) (names : Names) → AreNumbers rows cowns names
    → (length names.cowns.items ≡ cowns) × (length names.families.items ≡ cowns) × (length names.defs.items ≡ rows)
numbers_counted rows cowns names are = (
  as_many names.cowns.items _ are.cowns ∙ numbered_length (codes "cown ") 0 cowns,
  ap length are.families ∙ numbers_length 0 cowns,
  ap length are.defs ∙ numbers_length 0 rows,
)

-- ---- the names of a run

there : {A : Type 0} (xs : List A) (k : ℕ) (d : A) → k < length xs → slice_get xs k ≡ Some (slice_index_or xs k d)
there [] k d l = absurd (omega arith)
there (x ∷ xs) zero d l = refl
there (x ∷ xs) (suc k) d l = there xs k d (omega arith)

kinds_below : (p : Program) (log : List Event) → IsRun p log → All (λ (m : Member). m.behaviour.kind < length p.bodies) (config_of p log).members
kinds_below p log run k d l =
    kind_there p log run k (slice_index_or (config_of p log).members k d) (there (config_of p log).members k d l)

families_length : (k : ℕ) (cowns : List Cown) → length (family_numbers k cowns) ≡ cown_count cowns
families_length k [] = refl
families_length k (c ∷ cs) =
    omega (arith, length-append (replicate (members c.size) k) (family_numbers (suc k) cs), length-replicate (members c.size) k, families_length (suc k) cs)

families_below : (k most : ℕ) (cowns : List Cown) → k + length cowns ≤ most → All (λ f. f < most) (family_numbers k cowns)
families_below k most [] h = λ i d l. absurd (omega arith)
families_below k most (c ∷ cs) h =
    All-append (λ f. f < most) (replicate (members c.size) k) (family_numbers (suc k) cs) (All-replicate (λ f. f < most) (members c.size) k (omega arith))
    (families_below (suc k) most cs (omega arith))

members_length : (name : Text) (i n : ℕ) → length (member_names name i n) ≡ n
members_length name i zero = refl
members_length name i (suc n) = ap suc (members_length name (suc i) n)

declared_length : (name : Text) (size : Option ℕ) → length (declared_names name size) ≡ members size
declared_length name None = refl
declared_length name (Some n) = members_length name 0 n

cowns_length : (cowns : List Cown) → length (cown_names cowns) ≡ cown_count cowns
cowns_length [] = refl
cowns_length (c ∷ cs) = omega (arith, length-append (declared_names c.name c.size) (cown_names cs), declared_length c.name c.size, cowns_length cs)

-- a record of a run has as many rows as the run
pub as_many_rows : (p : Program) (r : Recorded) → IsRecordOf p r → IsRecord r → length (config_of p r.events).members ≡ length r.rows
as_many_rows p r run whole = sym (run_twins p r.events run.run.run).same ∙ sym whole.rows_are.all

-- the names of a run of a program are few
pub named_few : (p : Program) (r : Recorded) (called : List Text) (names : Names) → IsRecordOf p r → IsRecord r → IsRows r.rows
    → AreNamesOf p called (config_of p r.events).members names → AreFew r.rows names
named_few p r called names run whole shape are =
    let kinds : All (λ (m : Member). m.behaviour.kind < MOST_ROWS) (config_of p r.events).members =
    λ k d l. omega (arith, kinds_below p r.events run.run.run k d l, p.few_defs) in
    record {
      rows_are = as_many names.rows.items _ are.rows
          ∙ length-map (config_of p r.events).members (member_text (codes "main" ∷ called) (named_cowns p.cowns)) ∙ as_many_rows p r run whole;
      few_rows = shape.not_many;
      defs = ap length are.defs ∙ length-map (config_of p r.events).members (λ m. m.behaviour.kind) ∙ as_many_rows p r run whole;
      few_defs = subst (All (λ (d : ℕ). d < MOST_ROWS)) (sym are.defs)
          (All-map (λ (d : ℕ). d < MOST_ROWS) (λ (m : Member). m.behaviour.kind) (config_of p r.events).members kinds);
      cowns_are = as_many names.cowns.items _ are.cowns ∙ cowns_length p.cowns ∙ sym (ap length are.families ∙ families_length 0 p.cowns);
      few_cowns = omega (arith, ap length are.families, families_length 0 p.cowns, run.cowns, whole.few);
      few_families = subst (All (λ (f : ℕ). f < MOST_COWNS)) (sym are.families)
          (families_below 0 MOST_COWNS p.cowns (omega (arith, declared_few p.cowns p.members, run.cowns, whole.few)));
    }

-- ---- names laid over others

weaker : (numbers : List ℕ) (count most : ℕ) → count ≤ most → All (λ n. n < count) numbers → All (λ n. n < most) numbers
weaker numbers count most few below k d l = let h : slice_index_or numbers k d < count = below k d l in omega (arith, few, h)

-- names that a file laid over few others are few
pub renamed_few : (rows : List Row) (base names : Names) → AreFew rows base → AreWhole (length base.rows.items) names.rows.items names.defs.items
    → AreWhole (length base.cowns.items) names.cowns.items names.families.items → AreFew rows names
renamed_few rows base names few each_row each_cown = record {
  rows_are = each_row.texts_are ∙ few.rows_are;
  few_rows = few.few_rows;
  defs = each_row.numbers_are ∙ few.rows_are;
  few_defs = weaker names.defs.items (length base.rows.items) MOST_ROWS (omega (arith, few.rows_are, few.few_rows)) each_row.below;
  cowns_are = each_cown.texts_are ∙ sym each_cown.numbers_are;
  few_cowns = omega (arith, each_cown.numbers_are, few.cowns_are, few.few_cowns);
  few_families = weaker names.families.items (length base.cowns.items) MOST_COWNS (omega (arith, few.cowns_are, few.few_cowns)) each_cown.below;
}

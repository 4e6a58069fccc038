-- The names that rows and cowns have without a file are as many as those, so a file's can be laid over them.
use Rattle.std.proofs.Common.{◌≡◌, ◌∙◌, ℕ, zero, suc, ◌+◌, ◌<◌, ◌≤◌, List, [], ◌∷◌, length, refl, ap, sym, subst, arith, Option, Some, None}
use Rattle.std.specs.Prelude.{All, codes, replicate}
use Rattle.std.proofs.lemmas.List.{length-append, length-map, length-replicate}
use Rattle.boc_program.specs.declared.cown.Cown.{Cown}
use Rattle.boc_program.specs.declared.program.Program.{Program}
use Rattle.boc_program.specs.Programs.{cown_count, members}
use Rattle.boc_runs.specs.Run.{Member}
use Rattle.boc_names.specs.declared.names.Names.{Names}
use Rattle.boc_names.specs.Names.{Text, AreNamesOf, AreNumbers, cown_names, declared_names, family_numbers, member_names, numbered_from}
use Rattle.boc_names.specs.Names.{numbers_from}
use Rattle.boc_names.specs.NamesFile.{AreWhole}
use Rattle.boc_names.proofs.Groups.{texts_length}

-- ---- numbers as names

numbers_length : (i n : ℕ) → length (numbers_from i n) ≡ n
numbers_length i zero = refl
numbers_length i (suc n) = ap suc (numbers_length (suc i) n)

numbered_length : (word : Text) (i n : ℕ) → length (numbered_from word i n) ≡ n
numbered_length word i zero = refl
numbered_length word i (suc n) = ap suc (numbered_length word (suc i) n)

numbers_below : (i n most : ℕ) → i + n ≤ most → All (λ k. k < most) (numbers_from i n)
numbers_below i zero most h k d l = absurd (omega arith)
numbers_below i (suc n) most h zero d l = omega arith
numbers_below i (suc n) most h (suc k) d l = numbers_below (suc i) n most (omega arith) k d (omega arith)

-- each of so many rows has a number for itself
pub each_row_numbered : (rows cowns : ℕ) (names : Names) → AreNumbers rows cowns names → AreWhole rows names.rows.items names.defs.items
each_row_numbered rows cowns names are = record {
  texts_are = sym (texts_length names.rows.items) ∙ ap length are.rows ∙ numbered_length (codes "row ") 0 rows;
  numbers_are = ap length are.defs ∙ numbers_length 0 rows;
  below = subst (All (λ d. d < rows)) (sym are.defs) (numbers_below 0 rows rows (omega arith));
}

-- and each of so many cowns
pub each_cown_numbered : (rows cowns : ℕ) (names : Names) → AreNumbers rows cowns names → AreWhole cowns names.cowns.items names.families.items
each_cown_numbered rows cowns names are = record {
  texts_are = sym (texts_length names.cowns.items) ∙ ap length are.cowns ∙ numbered_length (codes "cown ") 0 cowns;
  numbers_are = ap length are.families ∙ numbers_length 0 cowns;
  below = subst (All (λ f. f < cowns)) (sym are.families) (numbers_below 0 cowns cowns (omega arith));
}

-- ---- the names of a run

member_names-length : (name : Text) (i n : ℕ) → length (member_names name i n) ≡ n
member_names-length name i zero = refl
member_names-length name i (suc n) = ap suc (member_names-length name (suc i) n)

declared_length : (name : Text) (size : Option ℕ) → length (declared_names name size) ≡ members size
declared_length name None = refl
declared_length name (Some n) = member_names-length name 0 n

cown_names-length : (cowns : List Cown) → length (cown_names cowns) ≡ cown_count cowns
cown_names-length [] = refl
cown_names-length (c ∷ cs) =
    omega (arith, length-append (declared_names c.name c.size) (cown_names cs), declared_length c.name c.size, cown_names-length cs)

families_length : (k : ℕ) (cowns : List Cown) → length (family_numbers k cowns) ≡ cown_count cowns
families_length k [] = refl
families_length k (c ∷ cs) =
    omega (arith, length-append (replicate (members c.size) k) (family_numbers (suc k) cs), length-replicate (members c.size) k, families_length (suc k) cs)

-- of a run each row has a text, and a number of a def
pub each_row_of_run : (program : Program) (called : List Text) (run : List Member) (names : Names) → AreNamesOf program called run names
    → (length names.rows.items ≡ length run) × (length names.defs.items ≡ length run)
each_row_of_run program called run names are = (
  sym (texts_length names.rows.items) ∙ ap length are.rows ∙ length-map run _,
  ap length are.defs ∙ length-map run _,
)

-- and each of the program's cowns has one, and a number of a family
pub each_cown_of_run : (program : Program) (called : List Text) (run : List Member) (names : Names) → AreNamesOf program called run names
    → (length names.cowns.items ≡ cown_count program.cowns) × (length names.families.items ≡ cown_count program.cowns)
each_cown_of_run program called run names are = (
  sym (texts_length names.cowns.items) ∙ ap length are.cowns ∙ cown_names-length program.cowns,
  ap length are.families ∙ families_length 0 program.cowns,
)

-- Rows and cowns can be called by their numbers: there are names that do.
use Rattle.std.proofs.Common.{◌≡◌, ◌+◌, ◌<◌, ◌≤◌, ◌^◌, ℕ, zero, suc, List, [], ◌∷◌, Option, Vec, Ok}
use Rattle.std.proofs.Common.{None, ap, arith, codes, decimal, length, refl, subst, sym, ◌∙◌}
use Rattle.std.specs.Global.{Global}
use Rattle.std.proofs.lemmas.Fmt.{length-decimal-le_succ}
use Rattle.std.proofs.lemmas.List.{length-append, length-map}
use denote.RawPtr.{null_ptr}
use Rattle.boc_program.specs.declared.limits.TheConstants.{MOST_COWNS, MOST_ROWS}
use Rattle.boc_runs.specs.declared.rows.Row.{Row}
use Rattle.boc_runs.specs.Rows.{IsRows}
use Rattle.boc_record.specs.Reading.{ReadsCounted}
use Rattle.boc_names.specs.declared.names.Names.{Names}
use Rattle.boc_names.specs.Names.{Text, AreNumbers, numbered, numbered_from, numbers_from, texts_of}
use Rattle.boc_run_commands.specs.NamedRuns.{ReadsNamed}
use Rattle.boc_run_commands.proofs.RunNames.{numbered_length, numbers_few, numbers_length}

-- a vector of these things
abbrev vec_of : {A : Type 0} (alloc : Global) (items : List A) → length items < 2 ^ 63 → Vec A Global
vec_of alloc items few = record {
  ptr = null_ptr;
  len = length items;
  cap = length items;
  alloc = alloc;
  items = items;
  ok = (refl, omega arith);
  small = few;
}

numbered_short : (word : Text) (i : ℕ) → length word ≤ 8 → i ≤ MOST_ROWS → length (numbered word i) < 2 ^ 63
numbered_short word i short low = omega (arith, short, low, length-append word (decimal i), length-decimal-le_succ i (omega (arith, low)))

-- vectors of a word with so many numbers
record Numbered (word : Text) (i n : ℕ) : Type 0 where
  texts : List (Vec ℕ Global)
  are : texts_of texts ≡ numbered_from word i n

numbered_texts : (alloc : Global) (word : Text) → length word ≤ 8 → (i n : ℕ) → i + n ≤ MOST_ROWS → Numbered word i n
numbered_texts alloc word short i zero low = record { texts = []; are = refl }
numbered_texts alloc word short i (suc n) low =
    let rest : Numbered word (suc i) n = numbered_texts alloc word short (suc i) n (omega (arith, low)) in
    record {
      texts = vec_of alloc (numbered word i) (numbered_short word i short (omega (arith, low))) ∷ rest.texts;
      are = ap (λ (l : List Text). numbered word i ∷ l) rest.are;
    }

-- as many texts as numbers
texts_length : (word : Text) (i n : ℕ) (all : Numbered word i n) → length all.texts ≡ n
texts_length word i n all =
    sym (length-map all.texts (λ (t : Vec ℕ Global). t.items)) ∙ ap (λ (l : List Text). length l) all.are ∙ numbered_length word i n

-- names of so many rows and cowns by their numbers
record Numbering (rows cowns : ℕ) : Type 0 where
  names : Names
  are : AreNumbers rows cowns names

numbering : (alloc : Global) (rows cowns : ℕ) → rows ≤ MOST_ROWS → cowns ≤ MOST_COWNS → Numbering rows cowns
numbering alloc rows cowns few few_cowns =
    let row_texts : Numbered (codes "row ") 0 rows = numbered_texts alloc (codes "row ") (omega arith) 0 rows (omega (arith, few)) in
    let cown_texts : Numbered (codes "cown ") 0 cowns = numbered_texts alloc (codes "cown ") (omega arith) 0 cowns (omega (arith, few_cowns)) in
    let all_rows : Vec (Vec ℕ Global) Global =
    vec_of alloc row_texts.texts (omega (arith, few, texts_length (codes "row ") 0 rows row_texts)) in
    let all_cowns : Vec (Vec ℕ Global) Global =
    vec_of alloc cown_texts.texts (omega (arith, few_cowns, texts_length (codes "cown ") 0 cowns cown_texts)) in
    record {
      names = record {
        defs = vec_of alloc (numbers_from 0 rows) (omega (arith, few, numbers_length 0 rows));
        def_names = all_rows;
        rows = all_rows;
        cowns = all_cowns;
        families = vec_of alloc (numbers_from 0 cowns) (omega (arith, few_cowns, numbers_length 0 cowns));
        family_names = all_cowns;
      };
      are = record {
        defs = refl;
        def_names = row_texts.are;
        rows = row_texts.are;
        cowns = cown_texts.are;
        families = refl;
        family_names = cown_texts.are;
      };
    }

-- the rows of a record that was read, called by their numbers
pub record NumberedRun (rows : List Row) (cowns : ℕ) (before after : Option (List ℕ)) : Type 0 where
  pub names : Names
  pub are : AreNumbers (length rows) cowns names
  pub reads : (bytes : List ℕ) → ReadsNamed None bytes (Ok (record { rows = rows; names = names; times = None })) before after

pub numbered_run : (alloc : Global) (rows : List Row) (cowns : ℕ) (before after : Option (List ℕ)) → IsRows rows → cowns ≤ MOST_COWNS
    → ReadsCounted (Ok (rows, cowns)) before after → NumberedRun rows cowns before after
numbered_run alloc rows cowns before after shape few_cowns read =
    let all : Numbering (length rows) cowns = numbering alloc (length rows) cowns (omega (arith, shape.not_many)) few_cowns in
    record {
      names = all.names;
      are = all.are;
      reads = λ bytes. (
        read.1.text,
        read.1.taken,
        read.1.over,
        record {
          recorded = read.0;
          named = record {
            spells = read.1.text_of;
            names_are = subst (λ (n : ℕ). AreNumbers (length read.0.rows) n all.names) read.3
                (subst (λ (r : List Row). AreNumbers (length r) cowns all.names) read.2 all.are);
          };
          rows_are = read.2;
          few = numbers_few rows cowns all.names shape few_cowns all.are;
        },
      );
    }

-- No byte of a data block is one that means something to a page.
use Rattle.std.proofs.Common.{◌≡◌, Bool, true, false, List, [], ◌∷◌, ◌++◌, refl, sym, subst}
use Rattle.std.specs.Prelude.{not, codes, Option, Some, None, take}
use Rattle.std.proofs.lemmas.List.Sums.{AllPass-from_list_all}
use Rattle.boc_plans.specs.declared.sharing.Sharing.{Sharing}
use Rattle.boc_plans.specs.declared.sharing.Sharing.TheVariants.{Exclusive, SharedReads}
use Rattle.boc_runs.specs.declared.rows.Row.{Row}
use Rattle.boc_names.specs.declared.names.Names.{Names}
use Rattle.boc_names.specs.Names.{Text}
use Rattle.boc_remedies.specs.Ends.{judged}
use Rattle.boc_remedies.specs.declared.candidates.Candidate.{Candidate}
use Rattle.boc_page.specs.declared.block.Block.{Block}
use Rattle.boc_page.specs.declared.block.LineTicks.{LineTicks}
use Rattle.boc_page.specs.declared.advice.TheConstants.{MOST_LISTED}
use Rattle.boc_page.specs.Advice.{candidate_text, candidates_text, joined_candidates, kind_text, remedy_name}
use Rattle.boc_page.specs.Blocks.{IsBlock, IsInert, advice_part, head_part, names_part, plans_part, program_part, rows_part, shared_text, source_text}
use Rattle.boc_page.proofs.Inert.{Inert, both, flat, inert_decimal, inert_key, inert_lists_member, inert_number_member, inert_numbers_member, inert_string}
use Rattle.boc_page.proofs.Inert.{inert_string_member, inert_strings_member, lit, plain}

-- ---- candidates

inert_candidate : (names : Names) (own : Candidate) → Inert (candidate_text names own)
inert_candidate names own = both _ _ (both _ _ (both _ _ (both _ _ (both _ _ (both _ _ (both _ _ (both _ _ (lit (codes "[") refl) (inert_string (kind_text
    own.remedy))) (lit (codes ",") refl)) (inert_string (remedy_name names own.remedy))) (lit (codes ",") refl)) (inert_decimal own.ends.span)) (lit (codes
    ",") refl)) (inert_decimal (judged own.ends))) (lit (codes "]") refl)

inert_joined : (names : Names) (candidates : List Candidate) → Inert (joined_candidates names candidates)
inert_joined names [] = record { all = refl }
inert_joined names (c ∷ candidates) = both _ _ (inert_candidate names c)
    (flat (λ own. codes "," ++ candidate_text names own)
    (λ own. both (codes ",") (candidate_text names own) (lit (codes ",") refl) (inert_candidate names own)) candidates)

inert_candidates : (names : Names) (candidates : List Candidate) → Inert (candidates_text names candidates)
unfolding candidates_text
inert_candidates names candidates = both _ _ (both _ _ (both _ _ (inert_key (codes "candidates") (lit (codes "candidates") refl)) (lit (codes "[") refl))
    (inert_joined names candidates)) (lit (codes "]") refl)

-- ---- parts

inert_shared : (sharing : Sharing) → Inert (shared_text sharing)
inert_shared Exclusive = record { all = refl }
inert_shared SharedReads = record { all = refl }

inert_head : (block : Block) → Inert (head_part block)
unfolding head_part
inert_head block = both _ _ (both _ _ (both _ _ (both _ _ (both _ _ (both _ _ (both _ _ (both _ _ (both _ _ (lit (codes "{\"format\":1") refl)
    (inert_string_member (codes "title") _ refl)) (inert_string_member (codes "run") _ refl)) (inert_key (codes "shared") (lit (codes "shared") refl)))
    (inert_shared block.sharing)) (inert_number_member (codes "p") _ refl)) (inert_number_member (codes "work") _ refl)) (inert_number_member (codes
    "span") _ refl)) (inert_number_member (codes "end") _ refl)) (inert_number_member (codes "bound") _ refl)

inert_names : (block : Block) (args : List Text) → Inert (names_part block args)
unfolding names_part
inert_names block args = both _ _ (both _ _ (both _ _ (inert_strings_member (codes "defs") _ refl) (inert_strings_member (codes "cowns") _ refl))
    (inert_numbers_member (codes "def") _ refl)) (inert_strings_member (codes "args") _ refl)

inert_rows : (rows : List Row) → Inert (rows_part rows)
unfolding rows_part
inert_rows rows = both _ _ (both _ _ (both _ _ (both _ _ (both _ _ (inert_numbers_member (codes "parent") _ refl) (inert_numbers_member (codes "offset") _
    refl)) (inert_numbers_member (codes "ticks") _ refl)) (inert_lists_member (codes "holds") _ refl)) (inert_numbers_member (codes "wrote") _ refl))
    (inert_lists_member (codes "faults") _ refl)

inert_plans : (block : Block) → Inert (plans_part block)
unfolding plans_part
inert_plans block = both _ _ (both _ _ (both _ _ (both _ _ (inert_numbers_member (codes "start") _ refl) (inert_numbers_member (codes "greedyStart") _
    refl)) (inert_numbers_member (codes "worker") _ refl)) (inert_numbers_member (codes "chain") _ refl)) (inert_lists_member (codes "curve") _ refl)

inert_advice : (block : Block) → Inert (advice_part block)
unfolding advice_part
inert_advice block = both _ _ (both _ _ (both _ _ (both _ _ (both _ _ (both _ _ (inert_candidates block.names.now (take MOST_LISTED block.candidates.now))
    (inert_string_member (codes "least") _ refl)) (inert_string_member (codes "verdict") _ refl)) (inert_string_member (codes "reads") _ refl))
    (inert_number_member (codes "spawnsAlone") _ refl)) (inert_number_member (codes "busiest") _ refl)) (inert_lists_member (codes "cownTable") _ refl)

inert_source : (source : Option Text) → Inert (source_text source)
inert_source None = record { all = refl }
inert_source (Some source) = inert_string source

inert_program : (source : Option Text) (lines : List LineTicks) → Inert (program_part source lines)
unfolding program_part
inert_program source lines = both _ _ (both _ _ (inert_key (codes "source") (lit (codes "source") refl)) (inert_source source)) (inert_lists_member (codes
    "lines") _ refl)

-- ---- the block

not_true : (b : Bool) → not b ≡ true → b ≡ false
not_true true e = sym e
not_true false e = refl

pub inert_block : (block : Block) (source : Option Text) (text : Text) → IsBlock block source text → IsInert text
inert_block block source text x =
    let all : Inert text = subst (λ (t : Text). Inert t) (sym x.is)
    (both _ _ (both _ _ (both _ _ (both _ _ (both _ _ (both _ _ (inert_head block) (inert_names block x.args)) (inert_rows block.rows.now))
    (inert_plans block)) (inert_advice block)) (inert_program source block.lines.now)) (lit (codes "}") refl)) in
    λ k d there. not_true _ (AllPass-from_list_all plain text all.all k d there)

-- The text of a record spells no program: it begins with a name, and a program with a keyword.
use Rattle.std.proofs.Common.{◌≡◌, ◌∙◌, ℕ, List, [], ◌∷◌, Option, Some, None, refl, sym, ap, arith}
use Rattle.std.proofs.lemmas.Option.{same_Some}
use Rattle.boc_program.specs.declared.program.Program.{Program}
use Rattle.boc_reader.specs.declared.terminal.Keyword.TheVariants as keywords
use Rattle.boc_reader.specs.Shape.{Block, Cown, Def, braced_tokens, cown_tokens, def_tokens, each_tokens}
use Rattle.boc_reader.specs.Spells.{Spells}
use Rattle.boc_reader.specs.Tokens.{Token, run, keyword, name, put, token_of_run, tokens_of_text}
use Rattle.boc_reader.proofs.Reading.{read_one, token_read}
use Rattle.boc_reader.proofs.Texts.{run_at}
use Rattle.boc_record.specs.RecordTexts.{IsTextOf}
use Rattle.boc_runs.specs.Records.{Recorded}

-- the word that a record begins with, with a blank behind it, is a name
reads_word : (rest : List ℕ) → tokens_of_text (98 ∷ 111 ∷ 99 ∷ 32 ∷ rest) ≡ put (Some (name (98 ∷ 111 ∷ 99 ∷ []))) (tokens_of_text (32 ∷ rest))
unfolding token_of_run
reads_word rest =
    let text = 98 ∷ 111 ∷ 99 ∷ 32 ∷ rest in
    let word = 98 ∷ 111 ∷ 99 ∷ [] in
    token_read text (32 ∷ rest) (name word)
    (read_one text (32 ∷ rest) (run word) (name word ∷ []) (run_at text 3 refl (omega arith)) refl (omega arith))

first_of : (word : Token) (others : Option (List Token)) (tokens : List Token) → put (Some word) others ≡ Some tokens
    → (ws : List Token) × (tokens ≡ word ∷ ws)
first_of word None tokens e = absurd cc
first_of word (Some ws) tokens e = (ws, sym (same_Some (word ∷ ws) tokens e))

-- no program begins with a name
no_name_first : (word : List ℕ) (ws : List Token) (cowns : List Cown) (defs : List Def) (main : Block)
    → name word ∷ ws ≡ each_tokens cown_tokens cowns (each_tokens def_tokens defs (keyword keywords.Main ∷ braced_tokens main [])) → ⊥
no_name_first word ws [] [] main e = cc
no_name_first word ws [] (d ∷ defs) main e = cc
no_name_first word ws (c ∷ cowns) defs main e = cc

no_program : (text rest : List ℕ) (p : Program) → text ≡ 98 ∷ 111 ∷ 99 ∷ 32 ∷ rest → Spells text p → ⊥
no_program text rest p is spells =
    let first = first_of (name (98 ∷ 111 ∷ 99 ∷ [])) (tokens_of_text (32 ∷ rest)) spells.tokens
    (sym (reads_word rest) ∙ ap tokens_of_text (sym is) ∙ spells.has_tokens) in
    no_name_first (98 ∷ 111 ∷ 99 ∷ []) first.0 spells.tree.cowns spells.tree.defs spells.tree.main (sym first.1 ∙ spells.has_shape.tokens_are)

pub record_spells_none : (text : List ℕ) (r : Recorded) (p : Program) → IsTextOf text r → Spells text p → ⊥
record_spells_none text r p is spells = no_program text _ p is.is spells

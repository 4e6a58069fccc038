-- What stands behind `when`.
use Rattle.std.proofs.Common.{◌≡◌, ℕ, List, ◌∷◌, sym, ◌∙◌}
use Rattle.boc_reader.specs.declared.terminal.Sign.TheVariants.{Semicolon, Open, Close}
use Rattle.boc_reader.specs.Tokens.{name, sign}
use Rattle.boc_reader.specs.Shape.{Expr, NamedCown}
use Rattle.boc_reader.specs.Phrases.{Ahead, Stands, NoneStands}
use Rattle.boc_reader.specs.Grammar.{NoSign, expr_phrase, ref_phrase, list_phrase, arguments_phrase, call_phrase}
use Rattle.boc_reader.proofs.Refused.{OneReading, one_pair}
use Rattle.boc_reader.proofs.Listed.{one_list}
use Rattle.boc_reader.proofs.Items.{exprs_readable, refs_readable}

pub one_exprs : OneReading (list_phrase expr_phrase Semicolon)
one_exprs x y r s p q e = one_list expr_phrase Semicolon exprs_readable x y r s e

pub one_refs : OneReading (list_phrase ref_phrase Close)
one_refs x y r s p q e = one_list ref_phrase Close refs_readable x y r s e

pub one_arguments : OneReading arguments_phrase
one_arguments = one_pair (list_phrase expr_phrase Semicolon) (list_phrase ref_phrase Close) (λ _ _ _ _. tt) one_exprs one_refs

-- after the parenthesis stands a semicolon
pub no_call_end : (old mid end : Ahead) (f : List ℕ) (w : List Expr × List NamedCown) → old.tokens ≡ name f ∷ sign Open ∷ mid.tokens
    → Stands arguments_phrase mid w end.tokens → NoSign Semicolon end.tokens → NoneStands call_phrase old
no_call_end old mid end f w e item none x r st =
    let h = st.tokens in
    none r (one_arguments w x.1 end.tokens (sign Semicolon ∷ r) tt tt (sym item.tokens ∙ cc)).1

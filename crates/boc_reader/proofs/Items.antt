-- Expressions, references and names can be read from lists.
use Rattle.std.proofs.Common.{◌≡◌, ◌≢◌, List, ◌∷◌, refl}
use Rattle.boc_reader.specs.declared.terminal.Sign.{Sign}
use Rattle.boc_reader.specs.declared.terminal.Sign.TheVariants.{Semicolon, Close, Comma, OpenIndex, CloseIndex}
use Rattle.boc_reader.specs.Tokens.{Token, sign}
use Rattle.boc_reader.specs.Shape.{Expr, plain, compared, Sum, one_term, more_terms, Term, one_factor, more_factors, Unary, negated, unsigned, Atom, literal}
use Rattle.boc_reader.specs.Shape.{variable, parens, expr_tokens, sum_tokens, term_tokens, unary_tokens, atom_tokens, NamedCown, alone, member, ref_tokens}
use Rattle.boc_reader.specs.Grammar.{EndsRef, expr_phrase, ref_phrase, name_phrase}
use Rattle.boc_reader.proofs.Refused.{OneReading}
use Rattle.boc_reader.proofs.Operators.{sign_ends}
use Rattle.boc_reader.proofs.Expressions.{one_expr}
use Rattle.boc_reader.proofs.Listed.{Readable}

-- an expression doesn't begin with a semicolon
no_atom : (x : Atom) (w r : List Token) → atom_tokens x w ≢ sign Semicolon ∷ r
no_atom (literal n) w r e = cc
no_atom (variable n) w r e = cc
no_atom (parens n) w r e = cc

no_unary : (x : Unary) (w r : List Token) → unary_tokens x w ≢ sign Semicolon ∷ r
no_unary (negated u) w r e = cc
no_unary (unsigned a) w r e = no_atom a w r e

no_term : (x : Term) (w r : List Token) → term_tokens x w ≢ sign Semicolon ∷ r
no_term (one_factor u) w r e = no_unary u _ r e
no_term (more_factors u op t) w r e = no_unary u _ r e

no_sum : (x : Sum) (w r : List Token) → sum_tokens x w ≢ sign Semicolon ∷ r
no_sum (one_term t) w r e = no_term t _ r e
no_sum (more_terms t op s) w r e = no_term t _ r e

no_expr : (x : Expr) (w r : List Token) → expr_tokens x w ≢ sign Semicolon ∷ r
no_expr (plain s) w r e = no_sum s _ r e
no_expr (compared s op t) w r e = no_sum s _ r e

pub exprs_readable : Readable expr_phrase Semicolon
exprs_readable = record {
  one = one_expr;
  comma = sign_ends Comma refl;
  closed = sign_ends Semicolon refl;
  no_comma = λ e. cc;
  begins = no_expr;
  small = λ x. tt;
}

pub one_ref : OneReading ref_phrase
one_ref (alone x) (alone y) r s p q e = (cc, cc)
one_ref (alone x) (member y f) r s p q e = let t : r ≡ sign OpenIndex ∷ expr_tokens f (sign CloseIndex ∷ s) = cc in absurd (p _ t)
one_ref (member x f) (alone y) r s p q e = let t : s ≡ sign OpenIndex ∷ expr_tokens f (sign CloseIndex ∷ r) = cc in absurd (q _ t)
one_ref (member x e) (member y f) r s p q h =
    let u = one_expr e f (sign CloseIndex ∷ r) (sign CloseIndex ∷ s) (sign_ends CloseIndex refl e r) (sign_ends CloseIndex refl f s) cc in
    let v = u.0 in
    let t = u.1 in
    (cc, cc)

ref_ends : (z : Sign) → z ≢ OpenIndex → (x : NamedCown) (r : List Token) → EndsRef x (sign z ∷ r)
ref_ends z h (alone x) r = λ after e. let same : z ≡ OpenIndex = cc in h same
ref_ends z h (member x e) r = tt

no_ref : (x : NamedCown) (w r : List Token) → ref_tokens x w ≢ sign Close ∷ r
no_ref (alone x) w r e = cc
no_ref (member x f) w r e = cc

pub refs_readable : Readable ref_phrase Close
refs_readable = record {
  one = one_ref;
  comma = ref_ends Comma (λ e. cc);
  closed = ref_ends Close (λ e. cc);
  no_comma = λ e. cc;
  begins = no_ref;
  small = λ x. tt;
}

pub names_readable : (close : Sign) → close ≢ Comma → Readable name_phrase close
names_readable close h = record {
  one = λ x y r s p q e. (cc, cc);
  comma = λ x r. tt;
  closed = λ x r. tt;
  no_comma = h;
  begins = λ x w r e. cc;
  small = λ x. tt;
}

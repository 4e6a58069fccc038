-- Expressions: their tokens are those of one only, and where a part isn't there, the whole isn't.
use Rattle.std.proofs.Common.{◌≡◌, ◌≢◌, ℕ, ◌+◌, ◌≤◌, List, ◌∷◌, Some, None, refl, sym, ap, ◌∙◌, arith}
use Rattle.boc_reader.specs.declared.terminal.Sign.TheVariants.{Open, Close, Minus}
use Rattle.boc_reader.specs.Tokens.{Token, name, number, sign}
use Rattle.boc_reader.specs.Shape.{comparison_sign, sum_sign, term_sign, Expr, plain, compared, expr_tokens, Sum, one_term, more_terms, sum_tokens, sum_nodes}
use Rattle.boc_reader.specs.Shape.{Term, one_factor, more_factors, term_tokens, term_nodes, Unary, negated, unsigned, unary_tokens, unary_nodes, Atom, literal}
use Rattle.boc_reader.specs.Shape.{variable, parens, atom_tokens, atom_nodes}
use Rattle.boc_reader.specs.Phrases.{Ahead, Stands, NoneStands}
use Rattle.boc_reader.specs.Grammar.{NoSign, NoOperator, EndsSum, EndsExpr, expr_phrase, compared_phrase, sum_phrase, more_terms_phrase, term_phrase}
use Rattle.boc_reader.specs.Grammar.{more_factors_phrase, unary_phrase, atom_phrase, closed_phrase}
use Rattle.boc_reader.proofs.Operators.{same_comparison, same_sum, same_term, sign_ends, comparison_ends, sum_ends}

atom_minus : (a : Atom) (r w : List Token) → atom_tokens a r ≢ sign Minus ∷ w
atom_minus (literal n) r w e = cc
atom_minus (variable x) r w e = cc
atom_minus (parens x) r w e = cc

mutual
  pub one_expr : (x y : Expr) (r s : List Token) → EndsExpr x r → EndsExpr y s → expr_tokens x r ≡ expr_tokens y s → (x ≡ y) × (r ≡ s)
  one_expr (plain a) (plain b) r s p q e = let u = one_sum a b r s p.0 q.0 e in (ap plain u.0, u.1)
  one_expr (plain a) (compared b op t) r s p q e =
      absurd (p.1 op (sum_tokens t s) (one_sum a b r (sign (comparison_sign op) ∷ sum_tokens t s) p.0 (comparison_ends op _) e).1)
  one_expr (compared a op t) (plain b) r s p q e =
      absurd (q.1 op (sum_tokens t r) (sym (one_sum a b (sign (comparison_sign op) ∷ sum_tokens t r) s (comparison_ends op _) q.0 e).1))
  one_expr (compared a op t) (compared b op' t') r s p q e =
      let u = one_sum a b (sign (comparison_sign op) ∷ sum_tokens t r) (sign (comparison_sign op') ∷ sum_tokens t' s) (comparison_ends op _)
      (comparison_ends op' _) e in
      let h = u.0 in
      let k = u.1 in
      let o : op ≡ op' = same_comparison op op' cc in
      let v = one_sum t t' r s p q cc in
      let w = v.0 in
      (cc, v.1)

  pub one_sum : (x y : Sum) (r s : List Token) → EndsSum r → EndsSum s → sum_tokens x r ≡ sum_tokens y s → (x ≡ y) × (r ≡ s)
  one_sum (one_term a) (one_term b) r s p q e = let u = one_terms a b r s p.0 q.0 e in (ap one_term u.0, u.1)
  one_sum (one_term a) (more_terms b op y) r s p q e =
      absurd (p.1 op (sum_tokens y s) (one_terms a b r (sign (sum_sign op) ∷ sum_tokens y s) p.0 (sum_ends op _) e).1)
  one_sum (more_terms a op x) (one_term b) r s p q e =
      absurd (q.1 op (sum_tokens x r) (sym (one_terms a b (sign (sum_sign op) ∷ sum_tokens x r) s (sum_ends op _) q.0 e).1))
  one_sum (more_terms a op x) (more_terms b op' y) r s p q e =
      let u = one_terms a b (sign (sum_sign op) ∷ sum_tokens x r) (sign (sum_sign op') ∷ sum_tokens y s) (sum_ends op _) (sum_ends op' _) e in
      let h = u.0 in
      let k = u.1 in
      let o : op ≡ op' = same_sum op op' cc in
      let v = one_sum x y r s p q cc in
      let w = v.0 in
      (cc, v.1)

  pub one_terms : (x y : Term) (r s : List Token) → NoOperator term_sign r → NoOperator term_sign s → term_tokens x r ≡ term_tokens y s → (x ≡ y) × (r ≡ s)
  one_terms (one_factor a) (one_factor b) r s p q e = let u = one_unary a b r s e in (ap one_factor u.0, u.1)
  one_terms (one_factor a) (more_factors b op y) r s p q e =
      absurd (p op (term_tokens y s) (one_unary a b r (sign (term_sign op) ∷ term_tokens y s) e).1)
  one_terms (more_factors a op x) (one_factor b) r s p q e =
      absurd (q op (term_tokens x r) (sym (one_unary a b (sign (term_sign op) ∷ term_tokens x r) s e).1))
  one_terms (more_factors a op x) (more_factors b op' y) r s p q e =
      let u = one_unary a b (sign (term_sign op) ∷ term_tokens x r) (sign (term_sign op') ∷ term_tokens y s) e in
      let h = u.0 in
      let k = u.1 in
      let o : op ≡ op' = same_term op op' cc in
      let v = one_terms x y r s p q cc in
      let w = v.0 in
      (cc, v.1)

  pub one_unary : (x y : Unary) (r s : List Token) → unary_tokens x r ≡ unary_tokens y s → (x ≡ y) × (r ≡ s)
  one_unary (negated a) (negated b) r s e = let u = one_unary a b r s cc in (ap negated u.0, u.1)
  one_unary (negated a) (unsigned b) r s e = absurd (atom_minus b s _ (sym e))
  one_unary (unsigned a) (negated b) r s e = absurd (atom_minus a r _ e)
  one_unary (unsigned a) (unsigned b) r s e = let u = one_atom a b r s e in (ap unsigned u.0, u.1)

  pub one_atom : (x y : Atom) (r s : List Token) → atom_tokens x r ≡ atom_tokens y s → (x ≡ y) × (r ≡ s)
  one_atom (literal n) (literal m) r s e = (cc, cc)
  one_atom (variable n) (variable m) r s e = (cc, cc)
  one_atom (parens x) (parens y) r s e =
      let v = one_expr x y (sign Close ∷ r) (sign Close ∷ s) (sign_ends Close refl x r) (sign_ends Close refl y s) cc in
      let t = v.1 in
      (ap parens v.0, cc)
  one_atom x y r s e = absurd cc

-- an expression is a sum, and a comparison or none

pub no_comparison : (old mid : Ahead) (a : Sum) → Stands sum_phrase old a mid.tokens → sum_nodes a + mid.room ≡ old.room → NoneStands compared_phrase mid
    → NoneStands expr_phrase old
no_comparison old mid a first n none (plain b) r st =
    let u = one_sum a b mid.tokens r first.ends st.ends.0 (sym first.tokens ∙ st.tokens) in
    none None r (record { tokens = u.1; ends = st.ends.1; fits = omega arith; small = tt })
no_comparison old mid a first n none (compared b op t) r st =
    let u = one_sum a b mid.tokens (sign (comparison_sign op) ∷ sum_tokens t r) first.ends (comparison_ends op _) (sym first.tokens ∙ st.tokens) in
    none (Some (op, t)) r (record { tokens = u.1; ends = st.ends; fits = omega (arith, st.fits, ap sum_nodes u.0, n); small = tt })

pub no_first_term : (old : Ahead) → NoneStands term_phrase old → NoneStands sum_phrase old
no_first_term old none (one_term a) r st = none a r (record { tokens = st.tokens; ends = st.ends.0; fits = st.fits; small = tt })
no_first_term old none (more_terms a op s) r st = none a _ (record { tokens = st.tokens; ends = sum_ends op _; fits = omega (arith, st.fits); small = tt })

pub no_more_terms : (old mid : Ahead) (a : Term) → Stands term_phrase old a mid.tokens → term_nodes a + mid.room ≡ old.room → NoneStands more_terms_phrase mid
    → NoneStands sum_phrase old
no_more_terms old mid a first n none (one_term b) r st =
    let u = one_terms a b mid.tokens r first.ends st.ends.0 (sym first.tokens ∙ st.tokens) in
    none None r (record { tokens = u.1; ends = st.ends.1; fits = omega arith; small = tt })
no_more_terms old mid a first n none (more_terms b op s) r st =
    let u = one_terms a b mid.tokens (sign (sum_sign op) ∷ sum_tokens s r) first.ends (sum_ends op _) (sym first.tokens ∙ st.tokens) in
    none (Some (op, s)) r (record { tokens = u.1; ends = st.ends; fits = omega (arith, st.fits, ap term_nodes u.0, n); small = tt })

pub no_first_factor : (old : Ahead) → NoneStands unary_phrase old → NoneStands term_phrase old
no_first_factor old none (one_factor a) r st = none a r (record { tokens = st.tokens; ends = tt; fits = st.fits; small = tt })
no_first_factor old none (more_factors a op s) r st = none a _ (record { tokens = st.tokens; ends = tt; fits = omega (arith, st.fits); small = tt })

pub no_more_factors : (old mid : Ahead) (a : Unary) → Stands unary_phrase old a mid.tokens → unary_nodes a + mid.room ≡ old.room
    → NoneStands more_factors_phrase mid → NoneStands term_phrase old
no_more_factors old mid a first n none (one_factor b) r st =
    let u = one_unary a b mid.tokens r (sym first.tokens ∙ st.tokens) in
    none None r (record { tokens = u.1; ends = st.ends; fits = omega arith; small = tt })
no_more_factors old mid a first n none (more_factors b op s) r st =
    let u = one_unary a b mid.tokens (sign (term_sign op) ∷ term_tokens s r) (sym first.tokens ∙ st.tokens) in
    none (Some (op, s)) r (record { tokens = u.1; ends = st.ends; fits = omega (arith, st.fits, ap unary_nodes u.0, n); small = tt })

-- factors and atoms

atom_needs_room : (a : Atom) → 1 ≤ atom_nodes a
atom_needs_room (literal n) = omega arith
atom_needs_room (variable n) = omega arith
atom_needs_room (parens x) = omega arith

pub no_room_for_atom : (old : Ahead) → old.room ≡ 0 → NoneStands atom_phrase old
no_room_for_atom old h a r st = omega (arith, atom_needs_room a, st.fits)

pub no_room_for_unary : (old : Ahead) → old.room ≡ 0 → NoneStands unary_phrase old
no_room_for_unary old h (negated a) r st = omega (arith, st.fits)
no_room_for_unary old h (unsigned a) r st = omega (arith, atom_needs_room a, st.fits)

pub no_negated : (old mid : Ahead) → old.tokens ≡ sign Minus ∷ mid.tokens → 1 + mid.room ≡ old.room → NoneStands unary_phrase mid → NoneStands unary_phrase old
no_negated old mid e n none (negated a) r st = let w = st.tokens in none a r (record { tokens = cc; ends = tt; fits = omega (arith, st.fits); small = tt })
no_negated old mid e n none (unsigned a) r st = atom_minus a r mid.tokens (sym st.tokens ∙ e)

pub no_unsigned : (old mid : Ahead) → mid ≡ old → NoSign Minus old.tokens → NoneStands atom_phrase mid → NoneStands unary_phrase old
no_unsigned old mid same no_minus none (negated a) r st = no_minus _ st.tokens
no_unsigned old mid same no_minus none (unsigned a) r st =
    none a r (record {
      tokens = ap (λ (h : Ahead). h.tokens) same ∙ st.tokens;
      ends = tt;
      fits = omega (arith, st.fits, ap (λ (h : Ahead). h.room) same);
      small = tt;
    })

pub no_parens : (old mid : Ahead) → old.tokens ≡ sign Open ∷ mid.tokens → 1 + mid.room ≡ old.room → NoneStands (closed_phrase expr_phrase Close) mid
    → NoneStands atom_phrase old
no_parens old mid e n none (literal m) r st = let w = st.tokens in absurd cc
no_parens old mid e n none (variable m) r st = let w = st.tokens in absurd cc
no_parens old mid e n none (parens x) r st = let w = st.tokens in none x r (record { tokens = cc; ends = tt; fits = omega (arith, st.fits); small = tt })

pub not_atom : (old : Ahead) → ((n : ℕ) (after : List Token) → old.tokens ≢ number n ∷ after)
    → ((n : List ℕ) (after : List Token) → old.tokens ≢ name n ∷ after) → NoSign Open old.tokens → NoneStands atom_phrase old
not_atom old no_number no_name no_open (literal n) r st = no_number n r st.tokens
not_atom old no_number no_name no_open (variable n) r st = no_name n r st.tokens
not_atom old no_number no_name no_open (parens s) r st = no_open _ st.tokens

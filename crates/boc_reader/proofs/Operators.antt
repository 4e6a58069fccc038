-- What follows an expression.
use Rattle.std.proofs.Common.{◌≡◌, ◌≢◌, List, ◌∷◌, refl, ap, ◌∙◌, arith}
use Rattle.boc_reader.specs.declared.terminal.Sign.{Sign}
use Rattle.boc_reader.specs.declared.level.Comparison.{Comparison}
use Rattle.boc_reader.specs.declared.level.Comparison.TheVariants as comparisons
use Rattle.boc_reader.specs.declared.level.SumOperator.{SumOperator}
use Rattle.boc_reader.specs.declared.level.SumOperator.TheVariants as sums
use Rattle.boc_reader.specs.declared.level.TermOperator.{TermOperator}
use Rattle.boc_reader.specs.declared.level.TermOperator.TheVariants as terms
use Rattle.boc_reader.specs.Tokens.{Token, sign}
use Rattle.boc_reader.specs.Shape.{comparison_sign, sum_sign, term_sign, Expr, plain, compared}
use Rattle.boc_reader.specs.Grammar.{tightness, NoOperator, EndsSum, EndsExpr}

tightness_comparison : (op : Comparison) → tightness (comparison_sign op) ≡ 1
tightness_comparison comparisons.Equal = refl
tightness_comparison _ = refl

tightness_sum : (op : SumOperator) → tightness (sum_sign op) ≡ 2
tightness_sum sums.Add = refl
tightness_sum sums.Subtract = refl

tightness_term : (op : TermOperator) → tightness (term_sign op) ≡ 3
tightness_term terms.Multiply = refl
tightness_term terms.Divide = refl
tightness_term terms.Remainder = refl

-- the operator at which a sign is one of its level
pub same_comparison : (a b : Comparison) → comparison_sign a ≡ comparison_sign b → a ≡ b
same_comparison comparisons.Equal comparisons.Equal e = refl
same_comparison comparisons.NotEqual comparisons.NotEqual e = refl
same_comparison comparisons.Less comparisons.Less e = refl
same_comparison comparisons.AtMost comparisons.AtMost e = refl
same_comparison comparisons.Greater comparisons.Greater e = refl
same_comparison comparisons.AtLeast comparisons.AtLeast e = refl
same_comparison a b e = absurd cc

pub same_sum : (a b : SumOperator) → sum_sign a ≡ sum_sign b → a ≡ b
same_sum sums.Add sums.Add e = refl
same_sum sums.Subtract sums.Subtract e = refl
same_sum a b e = absurd cc

pub same_term : (a b : TermOperator) → term_sign a ≡ term_sign b → a ≡ b
same_term terms.Multiply terms.Multiply e = refl
same_term terms.Divide terms.Divide e = refl
same_term terms.Remainder terms.Remainder e = refl
same_term a b e = absurd cc

no_comparison_at : (z : Sign) (w : List Token) → tightness z ≢ 1 → NoOperator comparison_sign (sign z ∷ w)
no_comparison_at z w h op after e = let same : z ≡ comparison_sign op = cc in h (ap tightness same ∙ tightness_comparison op)

no_sum_at : (z : Sign) (w : List Token) → tightness z ≢ 2 → NoOperator sum_sign (sign z ∷ w)
no_sum_at z w h op after e = let same : z ≡ sum_sign op = cc in h (ap tightness same ∙ tightness_sum op)

no_term_at : (z : Sign) (w : List Token) → tightness z ≢ 3 → NoOperator term_sign (sign z ∷ w)
no_term_at z w h op after e = let same : z ≡ term_sign op = cc in h (ap tightness same ∙ tightness_term op)

-- a sign that is no operator ends an expression
pub sign_ends : (z : Sign) → tightness z ≡ 0 → (x : Expr) (w : List Token) → EndsExpr x (sign z ∷ w)
sign_ends z h (plain s) w = ((no_term_at z w (λ e. omega arith), no_sum_at z w (λ e. omega arith)), no_comparison_at z w (λ e. omega arith))
sign_ends z h (compared s op t) w = (no_term_at z w (λ e. omega arith), no_sum_at z w (λ e. omega arith))

-- a looser operator ends what a tighter one takes in
pub comparison_ends : (op : Comparison) (w : List Token) → EndsSum (sign (comparison_sign op) ∷ w)
comparison_ends op w =
    let t = tightness_comparison op in
    (no_term_at (comparison_sign op) w (λ e. omega arith), no_sum_at (comparison_sign op) w (λ e. omega arith))

pub sum_ends : (op : SumOperator) (w : List Token) → NoOperator term_sign (sign (sum_sign op) ∷ w)
sum_ends op w = let t = tightness_sum op in no_term_at (sum_sign op) w (λ e. omega arith)

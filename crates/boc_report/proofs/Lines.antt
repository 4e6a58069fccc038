-- Texts that grow by a line.
use Rattle.std.proofs.Common.{suc, codes, decimal, get_or, length, drop, take, append_assoc, ◌≡◌, ℕ, ◌+◌, ◌≤◌, ◌∷◌, List, [], ◌++◌}
use Rattle.std.proofs.Common.{sym, ap, ◌∙◌, refl}
use Rattle.std.proofs.Common.{arith}
use Rattle.std.proofs.lemmas.List.{append-nil, drop_all, take_all}
use Rattle.std.proofs.Math.Seq.{take-suc}
use Rattle.boc_plans.specs.declared.chain.ChainStep.{ChainStep}
use Rattle.boc_plans.specs.declared.chain.Via.TheVariants.{Last}
use Rattle.boc_text.proofs.Sending.{GrowsBy}
use Rattle.boc_report.specs.ByLine.{lines_from}
use Rattle.boc_report.proofs.ByLines.{IsOfLines, lines_shift}
use Rattle.boc_report.specs.Texts.{bound_line, number_line, plan_line, plan_lines, report_head, served_line, served_lines, step_line, step_lines, sweep_line}
use Rattle.boc_report.specs.Texts.{sweep_lines, via_word}

-- nothing stands behind a room
pub behind : (n : ℕ) (room : List ℕ) → length room ≡ n → drop n room ≡ []
behind n room same = drop_all n room (omega (arith, same))

-- lines as they are formed, from their end on
pub sweep_formed : (row span : ℕ) (more : List ℕ) → decimal row ++ 32 ∷ (decimal span ++ 10 ∷ more) ≡ sweep_line row span ++ more
sweep_formed row span more = simp append_assoc

pub plan_formed : (row start end : ℕ) (more : List ℕ)
    → decimal row ++ 32 ∷ (decimal start ++ 32 ∷ (decimal end ++ 10 ∷ more)) ≡ plan_line row start end ++ more
plan_formed row start end more = simp append_assoc

pub served_formed : (row start end worker : ℕ) (more : List ℕ)
    → decimal row ++ 32 ∷ (decimal start ++ 32 ∷ (decimal end ++ 32 ∷ (decimal worker ++ 10 ∷ more))) ≡ served_line row start end worker ++ more
served_formed row start end worker more = simp append_assoc

pub step_formed : (step : ChainStep) → decimal step.row ++ (via_word step.via ++ (decimal step.weight ++ 10 ∷ [])) ≡ step_line step
step_formed step = simp append_assoc

pub bound_formed : (end bound : ℕ) → codes "end " ++ (decimal end ++ 32 ∷ (codes "bound " ++ (decimal bound ++ 10 ∷ []))) ≡ bound_line end bound
bound_formed end bound = simp append_assoc

pub head_formed : (rows work span : ℕ) → number_line (codes "rows ") rows ++ (number_line (codes "work ") work ++ (number_line
    (codes "span ") span ++ codes "chain\n"))
    ≡ report_head rows work span ++ codes "chain\n"
head_formed rows work span = sym (append_assoc (number_line (codes "rows ") rows ++ number_line (codes "work ") work) (number_line
    (codes "span ") span) (codes "chain\n")
    ∙ append_assoc (number_line (codes "rows ") rows) (number_line (codes "work ") work) (number_line (codes "span ") span ++ codes "chain\n"))

add_one : (i : ℕ) → i + 1 ≡ suc i
add_one i = omega arith

first_at : (r : ℕ) → r + 0 ≡ r
first_at r = omega arith

next_at : (r i : ℕ) → r + suc i ≡ suc r + i
next_at r i = omega arith

pub zero_more : (i : ℕ) → i ≡ 0 + i
zero_more i = omega arith

-- one step more
steps_more : (steps : List ChainStep) (step : ChainStep) → step_lines (steps ++ step ∷ []) ≡ step_lines steps ++ step_line step
steps_more [] step = append-nil (step_line step)
steps_more (first ∷ steps) step = ap (λ xs. step_line first ++ xs) (steps_more steps step)
    ∙ sym (append_assoc (step_line first) (step_lines steps) (step_line step))

-- the lines of the first steps
abbrev pub steps_to : List ChainStep → ℕ → List ℕ
steps_to steps i = step_lines (take i steps)

-- the line of a step
abbrev pub step_at : List ChainStep → ChainStep → ℕ → List ℕ
step_at steps none i = step_line (get_or steps i none)

-- a step, of which nothing is said
abbrev pub no_step : ChainStep
no_step = record { row = 0; weight = 0; via = Last }

steps_grow : (steps : List ChainStep) (none : ChainStep) → GrowsBy (steps_to steps) (step_at steps none) (length steps)
steps_grow steps none i h =
    ap step_lines (ap (λ n. take n steps) (add_one i) ∙ take-suc steps i none h) ∙ steps_more (take i steps) (get_or steps i none)

steps_all : (steps : List ChainStep) (i : ℕ) → length steps ≤ i → steps_to steps i ≡ step_lines steps
steps_all steps i end = ap step_lines (take_all i steps end)

pub steps_by_line : (steps : List ChainStep) (none : ChainStep) → IsOfLines (step_lines steps) (steps_to steps) (step_at steps none) (length steps)
steps_by_line steps none = record { grows = steps_grow steps none; all = steps_all steps }

-- ---- each line by its index

pub plan_by_line : (line : ℕ → List ℕ) (r : ℕ) (starts ends : List ℕ) → length starts ≡ length ends
    → ((i : ℕ) → line i ≡ plan_line (r + i) (get_or starts i 0) (get_or ends i 0)) → lines_from line 0 (length starts) ≡ plan_lines r starts ends
plan_by_line line r [] [] same is = refl
plan_by_line line r [] (end ∷ ends) same is = absurd (omega (arith, same))
plan_by_line line r (start ∷ starts) [] same is = absurd (omega (arith, same))
plan_by_line line r (start ∷ starts) (end ∷ ends) same is =
    ap (λ xs. xs ++ lines_from line 1 (length starts)) (is 0 ∙ ap (λ (n : ℕ). plan_line n start end) (first_at r))
    ∙ ap (λ xs. plan_line r start end ++ xs) (lines_shift line 0 (length starts)
    ∙ plan_by_line (λ i. line (suc i)) (suc r) starts ends (omega (arith, same))
    (λ i. is (suc i) ∙ ap (λ (n : ℕ). plan_line n (get_or starts i 0) (get_or ends i 0)) (next_at r i)))

pub served_by_line : (line : ℕ → List ℕ) (r : ℕ) (starts ends workers : List ℕ) → length starts ≡ length ends → length starts ≡ length workers
    → ((i : ℕ) → line i ≡ served_line (r + i) (get_or starts i 0) (get_or ends i 0) (get_or workers i 0))
    → lines_from line 0 (length starts) ≡ served_lines r starts ends workers
served_by_line line r [] ends workers e w is = refl
served_by_line line r (start ∷ starts) [] workers e w is = absurd (omega (arith, e))
served_by_line line r (start ∷ starts) (end ∷ ends) [] e w is = absurd (omega (arith, w))
served_by_line line r (start ∷ starts) (end ∷ ends) (worker ∷ workers) e w is =
    ap (λ xs. xs ++ lines_from line 1 (length starts)) (is 0 ∙ ap (λ (n : ℕ). served_line n start end worker) (first_at r))
    ∙ ap (λ xs. served_line r start end worker ++ xs) (lines_shift line 0 (length starts)
    ∙ served_by_line (λ i. line (suc i)) (suc r) starts ends workers (omega (arith, e)) (omega (arith, w))
    (λ i. is (suc i) ∙ ap (λ (n : ℕ). served_line n (get_or starts i 0) (get_or ends i 0) (get_or workers i 0)) (next_at r i)))

pub sweep_by_line : (line : ℕ → List ℕ) (r : ℕ) (spans : List ℕ) → ((i : ℕ) → line i ≡ sweep_line (r + i) (get_or spans i 0))
    → lines_from line 0 (length spans) ≡ sweep_lines r spans
sweep_by_line line r [] is = refl
sweep_by_line line r (span ∷ spans) is =
    ap (λ xs. xs ++ lines_from line 1 (length spans)) (is 0 ∙ ap (λ (n : ℕ). sweep_line n span) (first_at r))
    ∙ ap (λ xs. sweep_line r span ++ xs) (lines_shift line 0 (length spans)
    ∙ sweep_by_line (λ i. line (suc i)) (suc r) spans (λ i. is (suc i) ∙ ap (λ (n : ℕ). sweep_line n (get_or spans i 0)) (next_at r i)))

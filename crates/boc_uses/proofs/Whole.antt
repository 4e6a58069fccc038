-- What is noted of a whole body.
use Rattle.std.proofs.Common.{◌≡◌, ℕ, List, [], ◌∷◌, ◌++◌, length, take, drop, refl, sym, ap, ◌∙◌, Bool, Option, None, ℤ}
use Rattle.std.specs.Prelude.{replicate}
use Rattle.boc_program.specs.declared.body.Body.{Body}
use Rattle.boc_program.specs.declared.short.Input.{Input}
use Rattle.boc_program.specs.Syntax.{Code}
use Rattle.boc_program.specs.Meaning.{cowns_held, start_slots, values_held}
use Rattle.boc_uses.specs.declared.uses.Use.{Use}
use Rattle.boc_uses.specs.Uses.{body_uses, code_uses, cown_uses}
use Rattle.boc_uses.specs.Noting.{noted_all, noted_then, standing}
use Rattle.boc_uses.proofs.Summed.{noted_none}
use Rattle.boc_uses.proofs.Walked.{noted_end}

pub whole_noted : (body : Body) (args : List ℤ) (inputs : List Input) (params : ℕ) (block : Code) (slots : List ℤ) (u0 u1 : List (Option Use)) (b : Bool)
    → length args ≡ params → block ≡ body.block → slots ≡ start_slots args (values_held inputs) body.slots → u0 ≡ replicate (length inputs) None
    → noted_all params u0 (code_uses block (standing (cowns_held inputs) slots 1) (λ s. [])) ≡ noted_then b params u1 []
    → u1 ≡ cown_uses body args inputs
whole_noted body args inputs params block slots u0 u1 b p is s u h =
    let held = cowns_held inputs in
    sym (noted_end b params u1)
    ∙ sym h
    ∙ ap (λ p. noted_all p u0 (code_uses block (standing held slots 1) (λ s. []))) (sym p)
    ∙ ap (λ u. noted_all (length args) u (code_uses block (standing held slots 1) (λ s. []))) u
    ∙ ap (λ c. noted_all (length args) (replicate (length inputs) None) (code_uses c (standing held slots 1) (λ s. []))) is
    ∙ ap (λ s. noted_all (length args) (replicate (length inputs) None) (code_uses body.block (standing held s 1) (λ s. []))) s
    ∙ noted_none (length args) (length inputs) (body_uses body args inputs)

take_front : {A : Type 0} (xs ys : List A) → take (length xs) (xs ++ ys) ≡ xs
take_front [] ys = refl
take_front (x ∷ xs) ys = ap (λ l. x ∷ l) (take_front xs ys)

-- a list that was written over another that is as long
pub written_back : {A : Type 0} (new old : List A) → length new ≡ length old → take (length old) (new ++ drop (length new) old) ≡ new
written_back new old e = ap (λ n. take n (new ++ drop (length new) old)) (sym e) ∙ take_front new (drop (length new) old)

-- Of truths, and of tests of `when`s.
use Rattle.std.proofs.Common.{◌≡◌, ◌⊎◌, inl, inr, refl, Bool, true, false, IsTrue}
use Rattle.std.specs.Prelude.{◌&&◌, ◌||◌, not}
use Rattle.boc_program.specs.Syntax.{Code, Done, Assign, Work, If, Repeat, When}
use Rattle.boc_program.specs.Signatures.{Test, whens_pass}
use Rattle.boc_program.proofs.Truth.{and_true}
use Rattle.boc_footprints.specs.Whens.{some_when}

pub true_or_false : (b : Bool) → IsTrue b ⊎ (b ≡ false)
true_or_false true = inl refl
true_or_false false = inr refl

pub both_true : (a b : Bool) → IsTrue a → IsTrue b → IsTrue (a && b)
both_true true b h k = k
both_true false b h k = absurd cc

pub not_true : (b : Bool) → IsTrue (not b) → IsTrue b → ⊥
not_true true h k = cc
not_true false h k = cc

pub or_true : (a b : Bool) → IsTrue (a || b) → IsTrue a ⊎ IsTrue b
or_true true b h = inl refl
or_true false b h = inr h

pub or_left : (a b : Bool) → IsTrue a → IsTrue (a || b)
or_left true b h = refl
or_left false b h = absurd cc

pub or_right : (a b : Bool) → IsTrue b → IsTrue (a || b)
or_right true b h = refl
or_right false b h = h

or_false : (a b : Bool) → (a || b) ≡ false → (a ≡ false) × (b ≡ false)
or_false true b h = absurd cc
or_false false b h = (refl, h)

not_false : (b : Bool) → b ≡ false → IsTrue (not b)
not_false true h = absurd cc
not_false false h = refl

-- where no `when` passes a test, each fails it
pub none_pass : (test : Test) (c : Code) → some_when test c ≡ false → IsTrue (whens_pass (λ kind args refs. not (test kind args refs)) c)
none_pass test Done h = refl
none_pass test (Assign slot e rest) h = none_pass test rest h
none_pass test (Work e rest) h = none_pass test rest h
none_pass test (If e block other rest) h =
    let all = or_false (some_when test block || some_when test other) (some_when test rest) h in
    let blocks = or_false (some_when test block) (some_when test other) all.0 in
    both_true _ _ (both_true _ _ (none_pass test block blocks.0) (none_pass test other blocks.1)) (none_pass test rest all.1)
none_pass test (Repeat e block rest) h =
    let all = or_false (some_when test block) (some_when test rest) h in
    both_true _ _ (none_pass test block all.0) (none_pass test rest all.1)
none_pass test (When kind args refs rest) h =
    let all = or_false (test kind args refs) (some_when test rest) h in
    both_true _ _ (not_false (test kind args refs) all.0) (none_pass test rest all.1)

-- each `when` passes both of two tests
pub both_pass : (test other_test : Test) (c : Code) → IsTrue (whens_pass test c) → IsTrue (whens_pass other_test c)
    → IsTrue (whens_pass (λ kind args refs. test kind args refs && other_test kind args refs) c)
both_pass t u Done h k = refl
both_pass t u (Assign slot e rest) h k = both_pass t u rest h k
both_pass t u (Work e rest) h k = both_pass t u rest h k
both_pass t u (If e block other rest) h k =
    let all = and_true (whens_pass t block && whens_pass t other) (whens_pass t rest) h in
    let blocks = and_true (whens_pass t block) (whens_pass t other) all.0 in
    let all' = and_true (whens_pass u block && whens_pass u other) (whens_pass u rest) k in
    let blocks' = and_true (whens_pass u block) (whens_pass u other) all'.0 in
    both_true _ _ (both_true _ _ (both_pass t u block blocks.0 blocks'.0) (both_pass t u other blocks.1 blocks'.1)) (both_pass t u rest all.1 all'.1)
both_pass t u (Repeat e block rest) h k =
    let all = and_true (whens_pass t block) (whens_pass t rest) h in
    let all' = and_true (whens_pass u block) (whens_pass u rest) k in
    both_true _ _ (both_pass t u block all.0 all'.0) (both_pass t u rest all.1 all'.1)
both_pass t u (When kind args refs rest) h k =
    let all = and_true (t kind args refs) (whens_pass t rest) h in
    let all' = and_true (u kind args refs) (whens_pass u rest) k in
    both_true _ _ (both_true _ _ all.0 all'.0) (both_pass t u rest all.1 all'.1)

use Rattle.std.proofs.Common.{◌≡◌, ◌∙◌, ◌∷◌, ◌<◌, ℕ, List, length, ap, sym, arith, take}
use Rattle.std.specs.Prelude.{true}
use Rattle.std.specs.Char.{is_ascii_graphic}
use Rattle.std.specs.List.{list_all}
use Rattle.std.proofs.lemmas.Bool.Decides.{nat_tests}
use Rattle.boc_names.proofs.Words.{no_word, is_next}
use Rattle.boc_names.proofs.entry.next_word.Goals as goal
use Rattle.boc_names.proofs.entry.next_word.Goals.{then-is_empty-via-then-is_empty, then-is_empty-via-else-is_empty+then-not-is_printed}

-- a text that a blank begins, as it was split
spaced : (first : ℕ) (text after : List ℕ) → text ≡ first ∷ after → first ≡ 32 → text ≡ 32 ∷ after
spaced first text after e space = e ∙ ap (λ x. x ∷ after) space

pub returns-then-is_empty : goal.returns-then-is_empty
returns-then-is_empty c =
    let after = c.in_ok-first.after.now in
    let text = spaced _ _ _ c.in_ok-first.ensures.cases.0 (grind (arith, nat_tests)) in
    let same : c.split_at.result.0.now ≡ take c.unbroken.result after = c.split_at.ensures.front in
    no_word c.args.text.now after c.unbroken.result text c.unbroken.ensures (λ word. elim c.then-is_empty.branch [
      | then-is_empty-via-then-is_empty w ↦ (let none : length c.split_at.result.0.now ≡ 0 = grind (arith, nat_tests) in
          omega (arith, word.0, none, ap length same))
      | then-is_empty-via-else-is_empty+then-not-is_printed w ↦
          (let t : list_all is_ascii_graphic c.split_at.result.0.now ≡ true = ap (list_all is_ascii_graphic) same ∙ word.1 in absurd cc)
    ])

pub returns : goal.returns
returns c =
    let text = spaced _ _ _ c.in_ok-first.ensures.cases.0 (grind (arith, nat_tests)) in
    let some : 0 < length c.split_at.result.0.now = grind (arith, nat_tests) in
    is_next c.args.text.now c.in_ok-first.after.now c.split_at.result.0.now c.split_at.result.1.now c.unbroken.result text c.unbroken.ensures
    c.split_at.ensures.front c.split_at.ensures.back (some, sym c.is_printed.ensures ∙ c.if-not-is_printed.false)

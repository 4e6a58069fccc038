use Rattle.std.proofs.Common.{ℕ, Bool, ◌++◌, ◌∷◌, [], List, cond, not, ap, sym, ◌∙◌, get_or, arith}
use Rattle.std.specs.Prelude.{◌==◌}
use Rattle.std.proofs.lemmas.List.Elements.{filter_more}
use Rattle.boc_program.specs.declared.limits.TheConstants.{MOST_COWNS}
use Rattle.boc_program.proofs.Freeing.{put_small, put_few}
use Rattle.boc_program.proofs.held.HeldCowns.without.Goals as goal

pub put_unless-requires : goal.put_unless-requires
put_unless-requires c = omega (arith, c.loop-number.invariant.few, c.loop-number-test.true, c.as_slice-number-items.ensures.few)

pub loop-number-preserved : goal.loop-number-preserved
loop-number-preserved c =
    let i : ℕ = c.loop-number.number-index in
    let xs : List ℕ = c.as_slice-number-items.result.now in
    let x : ℕ = get_or xs i 0 in
    let p : ℕ → Bool = λ (k : ℕ). not (k == c.args.cown) in
    record {
      kept = c.put_unless.ensures ∙ ap (λ (l : List ℕ). l ++ cond (p x) (x ∷ []) []) c.loop-number.invariant.kept
          ∙ sym (filter_more p xs i 0 c.loop-number-test.true);
      small = rw c.put_unless.ensures (put_small (p x) x _ MOST_COWNS (omega (arith, c.type_inv.number-items i)) c.loop-number.invariant.small);
      few = rw c.put_unless.ensures (omega (arith, put_few (p x) x c.loop-number.kept.items, c.loop-number.invariant.few));
    }

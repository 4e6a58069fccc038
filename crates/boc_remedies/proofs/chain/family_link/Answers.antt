use Rattle.std.proofs.Common.{◌≡◌, ◌<◌, ◌≤◌, ℕ, List, All, length, subst, sym, arith}
use Rattle.boc_program.specs.declared.limits.TheConstants.{MOST_COWNS, MOST_HELD}
use Rattle.boc_remedies.specs.Families.{families_of}
use Rattle.boc_remedies.proofs.Sets.{All-families_of, length-families_of-le}
use Rattle.boc_remedies.proofs.chain.family_link.Goals as goal

pub held-requires-clause-few : goal.held-requires-clause-few
held-requires-clause-few c =
    let families = c.args.families.now in
    let cowns = c.as_slice.result.now in
    let is : c.as_slice-in-Hands.result.now ≡ families_of families cowns = cc (c.in_ok-set-in-Hands.ensures, c.as_slice-in-Hands.ensures) in
    let few : length (families_of families cowns) ≤ MOST_HELD = omega (arith, length-families_of-le families cowns, c.as_slice.ensures.few) in
    subst (λ (xs : List ℕ). length xs ≤ MOST_HELD) (sym is) few

pub held-requires-clause-low : goal.held-requires-clause-low
held-requires-clause-low c =
    let families = c.args.families.now in
    let cowns = c.as_slice.result.now in
    let is : c.as_slice-in-Hands.result.now ≡ families_of families cowns = cc (c.in_ok-set-in-Hands.ensures, c.as_slice-in-Hands.ensures) in
    subst (λ (xs : List ℕ). All (λ f. f < MOST_COWNS) xs) (sym is) (All-families_of (λ f. f < MOST_COWNS) families cowns c.requires.few_families)

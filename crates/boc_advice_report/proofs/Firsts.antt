-- The table of several cowns, from the first of them.
use Rattle.std.proofs.Common.{◌≡◌, ◌≤◌, List, [], ◌∷◌, length, get_or, ap, arith}
use Rattle.boc_names.specs.declared.names.Names.{Names}
use Rattle.boc_remedies.specs.declared.together.Together.{Together}
use Rattle.boc_advice_report.specs.AdviceTexts.{sets_table, together_table}

-- the table has greedy ends where the first has one
pub by_first : (names : Names) (together : List Together) (own : Together) → 1 ≤ length together → own ≡ get_or together 0 own
    → sets_table names own.ends.greedy together ≡ together_table names together
by_first names [] own some is = absurd (omega (arith, some))
by_first names (first ∷ others) own some is = ap (λ (o : Together). sets_table names o.ends.greedy (first ∷ others)) is

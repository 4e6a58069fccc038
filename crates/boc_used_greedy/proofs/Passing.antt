-- Which rows are told that a cown comes.
use Rattle.std.proofs.Common.{◌≡◌, ◌≢◌, ◌⊎◌, inl, inr, ℕ, ◌+◌, ◌<◌, ◌≤◌, List, length, Option, subst, sym, ap, arith}
use Rattle.std.specs.List.{Contains}
use Rattle.std.proofs.lemmas.Bool.{cases_lt, cases_eq}
use Rattle.boc_runs.specs.declared.rows.Row.{Row}
use Rattle.boc_runs.specs.Rows.{cowns_of}
use Rattle.boc_uses.specs.declared.uses.Use.{Use}
use Rattle.boc_turns.proofs.Gathering.{use_has}
use Rattle.boc_used_greedy.specs.Users.{IsNextUser}
use Rattle.boc_used_greedy.specs.Fronts.{Holds, Blocks, AreTold}

module _ (rows : List Row) (holds : List (Option Use)) (c : ℕ) where
  has_own : (b : ℕ) → Holds holds rows c b → Contains (cowns_of rows b) c
  has_own b (u, e) = use_has (cowns_of rows b) _ c u e

  -- no rows are left
  pub told_none : AreTold rows holds c (length rows) (length rows)
  told_none = record {
    above = λ there. absurd (omega (arith, there));
    below = omega arith;
    inside = λ b after lt held blocks. omega (arith, after, lt);
    outside = λ b ge there held. absurd (omega (arith, ge, there));
  }

  -- the next row after one that blocks isn't told
  pub told_blocked : (at next : ℕ) → IsNextUser rows c (at + 1) next → Blocks rows holds c at → AreTold rows holds c at next
  told_blocked at next user blocks = record {
    above = λ there. omega (arith, user.above);
    below = user.below;
    inside = λ b after lt held blocked. user.none_between b (omega (arith, after)) lt (has_own b held);
    outside = λ b ge there held. inl blocks;
  }

  -- the rows after one that doesn't block are told, up to the first that does
  pub record IsTelling (at next : ℕ) : Type 0 where
    pub above : at < next
    pub below : next ≤ length rows
    pub user : next < length rows → Contains (cowns_of rows next) c
    pub inside : (b : ℕ) → at ≤ b → b < next → Blocks rows holds c b → ⊥

  pub telling_first : (at next : ℕ) → IsNextUser rows c (at + 1) next → (Blocks rows holds c at → ⊥) → IsTelling at next
  telling_first at next user free = record {
    above = omega (arith, user.above);
    below = user.below;
    user = user.user;
    inside = λ b ge lt blocks. elim (cases_eq b at) [
      | inl e ↦ free (subst (Blocks rows holds c) e blocks)
      | inr ne ↦ user.none_between b (omega (arith, ge, ne)) lt (has_own b blocks.held)
    ];
  }

  pub telling_more : (at next after : ℕ) → IsTelling at next → IsNextUser rows c (next + 1) after → (Blocks rows holds c next → ⊥) → IsTelling at after
  telling_more at next after t user free = record {
    above = omega (arith, t.above, user.above);
    below = user.below;
    user = user.user;
    inside = λ b ge lt blocks. elim (cases_lt b next) [
      | inl before ↦ t.inside b ge before blocks
      | inr late ↦ elim (cases_eq b next) [
        | inl e ↦ free (subst (Blocks rows holds c) e blocks)
        | inr ne ↦ user.none_between b (omega (arith, late, ne)) lt (has_own b blocks.held)
      ]
    ];
  }

  pub telling_done : (at next : ℕ) → IsTelling at next → (next < length rows → Blocks rows holds c next) → AreTold rows holds c at next
  telling_done at next t blocks = record {
    above = λ there. t.above;
    below = t.below;
    inside = λ b after lt held blocked. elim blocked [
      | inl first ↦ t.inside at (omega arith) t.above first
      | inr here ↦ t.inside b (omega (arith, after)) lt here
    ];
    outside = λ b ge there held. inr (next, t.above, ge, blocks (omega (arith, ge, there)));
  }

  -- the rows that were told before are told still where the cown has come to one of them
  pub told_still : (old at told : ℕ) → AreTold rows holds c old told → old ≤ at → at < told → Holds holds rows c at → AreTold rows holds c at told
  told_still old at told t after before own = elim (cases_eq old at) [
    | inl e ↦ subst (λ (x : ℕ). AreTold rows holds c x told) e t
    | inr ne ↦ (
        let later : old < at = omega (arith, after, ne) in
        record {
          above = λ there. before;
          below = t.below;
          inside = λ b above lt held blocked. elim blocked [
            | inl here ↦ t.inside at later before own (inr here)
            | inr there ↦ t.inside b (omega (arith, later, above)) lt held (inr there)
          ];
          outside = λ b ge there held. elim (t.outside b ge there held) [
            | inl first ↦ absurd (t.inside at later before own (inl first))
            | inr (q, above, below, blocks) ↦ elim (cases_lt q told) [
              | inl lt ↦ absurd (t.inside q above lt blocks.held (inr blocks))
              | inr late ↦ inr (q, omega (arith, before, late), below, blocks)
            ]
          ];
        })
  ]

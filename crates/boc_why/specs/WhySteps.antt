-- The parts that a why is made of: the shares of a chain by def and by link.
use Rattle.std.specs.Prelude.{ℕ, List}
use Rattle.boc_plans.specs.declared.chain.ChainStep.{ChainStep}
use Rattle.boc_why.specs.declared.links.Link.{Link}
use Rattle.boc_why.specs.declared.shares.Share.{Share}
use Rattle.boc_why.specs.Shares.{AreDefsOf, AreFirsts, AreShares, weights_of}

-- the shares of a chain by the defs of its rows
pub record AreSharesByDef (defs : List ℕ) (steps : List ChainStep) (shares : List Share) : Type 0 where
  pub keys : List ℕ
  pub keys_are : AreDefsOf defs steps keys
  pub are : AreShares keys (weights_of steps) shares

-- the shares of a chain by its links, whose steps have these weights
pub record AreSharesByLink (links : List Link) (weights : List ℕ) (shares : List Share) : Type 0 where
  pub firsts : List ℕ
  pub firsts_are : AreFirsts links firsts
  pub are : AreShares firsts weights shares

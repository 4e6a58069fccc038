-- Why some rows take as long as they do.
use Rattle.std.specs.Prelude.{◌≡◌, ℕ, List}
use Rattle.boc_runs.specs.declared.rows.Row.{Row}
use Rattle.boc_plans.specs.declared.sharing.Sharing.{Sharing}
use Rattle.boc_plans.specs.Seen.{seen}
use Rattle.boc_order.specs.Profiles.{IsProfileOf}
use Rattle.boc_why.specs.Shares.{AreDefsOf, AreFirsts, AreLinks, AreShares, weights_of}
use Rattle.boc_order.specs.Least.{IsLeast}
use Rattle.boc_why.specs.declared.why.Why.{Why}

-- For rows with these defs over so many cowns: their profile, with the chain that holds them back; what leads on from each of its steps, its shares by def and
-- by link, and a lower bound for any order on the cowns.
pub record IsWhy (rows : List Row) (sharing : Sharing) (defs : List ℕ) (count : ℕ) (why : Why) : Type 0 where
  pub profile : IsProfileOf (seen sharing rows) why.profile
  pub links : AreLinks (seen sharing rows) defs why.profile.chain.steps.items why.links.items
  pub keys : List ℕ
  pub keys_are : AreDefsOf defs why.profile.chain.steps.items keys
  pub by_def : AreShares keys (weights_of why.profile.chain.steps.items) why.by_def.items
  pub firsts : List ℕ
  pub firsts_are : AreFirsts why.links.items firsts
  pub by_link : AreShares firsts (weights_of why.profile.chain.steps.items) why.by_link.items
  pub least : IsLeast (seen sharing rows) count why.least

-- two say the same: in all that is told of them they are alike
pub record SayTheSame (why other : Why) : Type 0 where
  pub work : why.profile.work ≡ other.profile.work
  pub starts : why.profile.starts.items ≡ other.profile.starts.items
  pub ends : why.profile.ends.items ≡ other.profile.ends.items
  pub span : why.profile.span ≡ other.profile.span
  pub steps : why.profile.chain.steps.items ≡ other.profile.chain.steps.items
  pub links : why.links.items ≡ other.links.items
  pub by_def : why.by_def.items ≡ other.by_def.items
  pub by_link : why.by_link.items ≡ other.by_link.items
  pub least : why.least ≡ other.least

-- When two reports on cowns tell the same.
use Rattle.std.specs.Prelude.{◌≡◌, Option, Some, None}
use Rattle.boc_cowns_report.specs.declared.told.CownsTold.{CownsTold}
use Rattle.boc_cowns_report.specs.declared.told.JudgedTold.{JudgedTold}

-- the same is told for a number of workers, or for none in both
abbrev pub JudgeTheSame : Option JudgedTold → Option JudgedTold → Type 0
JudgeTheSame None None = Unit {0}
JudgeTheSame (Some told) (Some other) = (told.workers ≡ other.workers) × (told.cowns.now ≡ other.cowns.now)
JudgeTheSame told other = ⊥

-- two reports tell the same
pub record TellTheSame (told other : CownsTold) : Type 0 where
  pub span : told.hot.now.span ≡ other.hot.now.span
  pub least : told.hot.now.least ≡ other.hot.now.least
  pub shared : told.hot.now.shared ≡ other.hot.now.shared
  pub cowns : told.hot.now.cowns.items ≡ other.hot.now.cowns.items
  pub judged : JudgeTheSame told.judged other.judged
  pub together : told.together.now ≡ other.together.now
  pub order : told.order ≡ other.order

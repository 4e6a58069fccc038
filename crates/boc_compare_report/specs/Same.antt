-- When two reports of two runs tell the same.
use Rattle.std.specs.Prelude.{◌≡◌}
use Rattle.boc_names.specs.Names.{CallTheSame}
use Rattle.boc_compare.specs.Laws.{SayTheSame}
use Rattle.boc_compare_report.specs.declared.told.Compared.{Compared}

-- two reports tell the same
pub record TellTheSame (own other : Compared) : Type 0 where
  pub before : SayTheSame own.before.now other.before.now
  pub before_names : CallTheSame own.before_names.now other.before_names.now
  pub after : SayTheSame own.after.now other.after.now
  pub after_names : CallTheSame own.after_names.now other.after_names.now
  pub named : own.named ≡ other.named
  pub typical : own.typical ≡ other.typical
  pub workers : own.workers ≡ other.workers

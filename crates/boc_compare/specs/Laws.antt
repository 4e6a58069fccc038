-- When two sides say the same.
use Rattle.std.specs.Prelude.{◌≡◌}
use Rattle.boc_compare.specs.declared.side.Side.{Side}

-- in all that is known of them two sides are alike
pub record SayTheSame (side other : Side) : Type 0 where
  pub rows : side.rows ≡ other.rows
  pub times : side.times ≡ other.times
  pub typical : side.typical ≡ other.typical
  pub order_end : side.order_end ≡ other.order_end
  pub bound : side.bound ≡ other.bound
  pub by_def : side.by_def.items ≡ other.by_def.items
  pub defs : side.defs.items ≡ other.defs.items
  pub families : side.families.items ≡ other.families.items

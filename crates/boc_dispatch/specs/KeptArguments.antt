-- How arguments are kept.
use Rattle.std.specs.Prelude.{[], ℤ}
use Rattle.arrayvec.specs.ArrayVec.{ArrayVec}
use Rattle.boc_dispatch.specs.declared.kept_args.List.{List}
use Rattle.boc_dispatch.specs.declared.kept_args.List.TheVariants.{None, One, More}

-- the arguments that are kept
abbrev pub kept_list : List → ArrayVec ℤ
kept_list None = record { items = [] }
kept_list (One args) = record { items = args }
kept_list (More args) = args.value

-- The definition of the last line tried on a few cowns.
use Rattle.std.proofs.Common.{◌≡◌, [], ◌∷◌, Some, None, codes, refl}
use Rattle.std.specs.Fmt.{digits}
use Rattle.boc_plans.specs.declared.sharing.Sharing.TheVariants.{Exclusive, SharedReads}
use Rattle.boc_names.specs.declared.names.Names.{Names}
use Rattle.boc_names.specs.Names.{texts_of}
use Rattle.boc_order.specs.declared.least.Busiest.{Busiest}
use Rattle.boc_why_report.specs.WhyTexts.{from_text, least_text}

abbrev pricer : Busiest
pricer = record { cown = 1; load = 228; from = Some 0; until = 228 }

abbrev fork : Busiest
fork = record { cown = 0; load = 204; from = Some 20; until = 224 }

-- nothing is told of a cown that is busy from the start on
pub from_none : from_text None ≡ []
from_none = refl

pub from_start : from_text (Some 0) ≡ []
from_start = refl

module _ (names : Names) (cowns : texts_of names.cowns.items ≡ codes "fork[6]" ∷ codes "pricer" ∷ []) where
  pub text_from_start : least_text names Exclusive (record { spawns = 109; busiest = Some pricer })
      ≡ codes "lower bound for any order: 228 (pricer is held for 228 ticks)\n"
  unfolding digits
  text_from_start = rw cowns refl

  pub text_from_later : least_text names Exclusive (record { spawns = 224; busiest = Some fork })
      ≡ codes "lower bound for any order: 224 (fork[6] is held for 204 ticks, from tick 20 on)\n"
  unfolding digits
  text_from_later = rw cowns refl

  pub text_where_shared : least_text names SharedReads (record { spawns = 109; busiest = Some fork })
      ≡ codes "lower bound for any order: 224 (fork[6] is written for 204 ticks, from tick 20 on)\n"
  unfolding digits
  text_where_shared = rw cowns refl

-- where the spawns alone take longer, they are told
pub text_of_spawns : (names : Names) → least_text names Exclusive (record { spawns = 225; busiest = Some fork })
    ≡ codes "lower bound for any order: 225 (their spawns take that long)\n"
unfolding digits
text_of_spawns names = refl

pub text_of_none : (names : Names) → least_text names Exclusive (record { spawns = 9; busiest = None })
    ≡ codes "lower bound for any order: 9 (their spawns take that long)\n"
unfolding digits
text_of_none names = refl

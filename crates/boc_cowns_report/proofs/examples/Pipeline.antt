-- The definition of what is told tried on the cowns of a pipeline.
use Rattle.std.proofs.Common.{◌≡◌, ◌++◌, [], ◌∷◌, Some, None, codes, true, false, refl}
use Rattle.std.specs.Fmt.{digits}
use Rattle.boc_plans.specs.declared.sharing.Sharing.TheVariants.{Exclusive, SharedReads}
use Rattle.boc_names.specs.declared.names.Names.{Names}
use Rattle.boc_names.specs.Names.{texts_of}
use Rattle.boc_table.specs.Tables.{table_text}
use Rattle.boc_cowns.specs.declared.hot.HotCown.{HotCown}
use Rattle.boc_cowns.specs.declared.hot.HotCowns.{HotCowns}
use Rattle.boc_cowns_report.specs.CownsTexts.{cown_lines, cowns_head, cowns_sides, is_late, is_most, more_text, percent, reads_text, span_text}
use Rattle.boc_cowns_report.specs.CownsTexts.{shared_text, told_of, verdict_text}

abbrev pricer : HotCown
pricer = record { cown = 1; rows = 6; wrote = 6; held = 228; from = Some 4; waited = 180; chain = 190; without = 219 }

abbrev store : HotCown
store = record { cown = 0; rows = 6; wrote = 4; held = 48; from = Some 2; waited = 0; chain = 0; without = 279 }

-- a cown for which nobody asks before tick 210, and one for which nobody asks before tick 200
abbrev pub late : HotCown
late = record { cown = 1; rows = 1; wrote = 1; held = 30; from = Some 210; waited = 0; chain = 0; without = 279 }

abbrev pub sooner : HotCown
sooner = record { cown = 1; rows = 1; wrote = 1; held = 30; from = Some 200; waited = 0; chain = 0; without = 279 }

-- 228 of 279 ticks are 81 percent and some more, and 75 of 100 are most of them
pub part : percent 228 279 ≡ 81
part = refl

pub enough : is_most 75 100 ≡ true
enough = refl

pub too_few : is_most 74 100 ≡ false
too_few = refl

-- a span of 94 where the spawns alone need 54: the last row of a cown can't end before 94, or before 83
pub most_of_the_cost : is_late 94 54 94 ≡ true
most_of_the_cost = refl

pub too_soon : is_late 83 54 94 ≡ false
too_soon = refl

-- the first so many are told, and how many more there are
pub first_of_two : told_of (Some 1) (pricer ∷ store ∷ []) ≡ pricer ∷ []
first_of_two = refl

pub all_of_two : told_of None (pricer ∷ store ∷ []) ≡ pricer ∷ store ∷ []
all_of_two = refl

pub none_more : more_text 0 ≡ []
none_more = refl

pub one_more : more_text 1 ≡ codes ".. and 1 more cown\n"
one_more = refl

pub nine_more : more_text 9 ≡ codes ".. and 9 more cowns\n"
unfolding digits
nine_more = refl

module _ (names : Names) (cowns : texts_of names.cowns.items ≡ codes "store" ∷ codes "pricer" ∷ []) where
  pub text_of_table : table_text cowns_sides (cowns_head ∷ cown_lines names 279 (pricer ∷ store ∷ []))
      ≡ codes "cown    rows  wrote  held  of span  waited  chain  without\n"
      ++ codes "pricer     6      6   228      81%     180    190      219\n"
      ++ codes "store      6      4    48      17%       0      0      279\n"
  unfolding digits
  text_of_table = rw cowns refl

  pub text_of_reads : reads_text names store ≡ codes ": 2 of the 6 rows of store only read it"
  unfolding digits
  text_of_reads = rw cowns refl

module _ (names : Names) (cowns : texts_of names.cowns.items ≡ codes "store" ∷ codes "pricer" ∷ []) (hot : HotCowns) (span : hot.span ≡ 279)
    (spawns : hot.least.spawns ≡ 109) (shared : hot.shared ≡ 235) (list : hot.cowns.items ≡ store ∷ []) where
  pub text_of_span : span_text hot ≡ codes "span 279; by spawns alone 109; busiest cown 48\n"
  unfolding digits
  text_of_span = rw (span, spawns, list) refl

  -- the pricer is the load, and the store alone isn't
  pub text_of_load : verdict_text names hot (pricer ∷ store ∷ []) ≡ codes "load: pricer is held 228 of 279 ticks; split it, or shorten what holds it"
  unfolding digits
  text_of_load = rw (span, spawns, cowns) refl

  pub text_of_order : verdict_text names hot (store ∷ [])
      ≡ codes "order: no cown is held for more than 48 of 279 ticks; another order of the behaviours may end sooner"
  unfolding digits
  text_of_order = rw (span, spawns) refl

  -- though it is held for less long than the store, nobody can be done with it before tick 240 of 279; with tick 230 there is more to be had by order
  pub text_of_late : verdict_text names hot (store ∷ late ∷ [])
      ≡ codes "load: pricer is held 30 of 279 ticks, none of them before tick 210; spawn earlier, split it, or shorten what holds it"
  unfolding digits
  text_of_late = rw (span, spawns, cowns) refl

  pub text_of_sooner : verdict_text names hot (store ∷ sooner ∷ [])
      ≡ codes "order: no cown is held for more than 48 of 279 ticks; another order of the behaviours may end sooner"
  unfolding digits
  text_of_sooner = rw (span, spawns) refl

  pub text_of_none : verdict_text names hot [] ≡ codes "spawns: they alone need 109 of 279 ticks; spawn earlier, or do less"
  unfolding digits
  text_of_none = rw (span, spawns) refl

  -- shared reads are told of where there are none
  pub text_of_shared : shared_text names Exclusive hot ≡ codes "with --shared-reads the span is 235: 2 of the 6 rows of store only read it\n"
  unfolding digits
  text_of_shared = rw (span, shared, list, cowns) refl

  pub text_where_shared : shared_text names SharedReads hot ≡ []
  text_where_shared = refl

-- where the spawns alone need 210 of 279 ticks, the pricer isn't the load, nor is the order
module _ (names : Names) (hot : HotCowns) (span : hot.span ≡ 279) (spawns : hot.least.spawns ≡ 210) where
  pub text_of_spawns : verdict_text names hot (pricer ∷ store ∷ []) ≡ codes "spawns: they alone need 210 of 279 ticks; spawn earlier, or do less"
  unfolding digits
  text_of_spawns = rw (span, spawns) refl

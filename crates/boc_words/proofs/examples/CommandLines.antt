-- The definitions tried on command lines.
use Rattle.std.proofs.Common.{map, ◌≡◌, List, [], ◌∷◌, Some, None, true, inl, inr, refl, codes, lit≤}
use Rattle.clap.proofs.OnLiterals.{clap_on_literals}
use Rattle.clap.specs.Words.{Text, fault_of, is_simple, is_simple_and_free, subcommand_of}
use Rattle.clap.specs.declared.error.kind.ErrorKind.TheVariants as kinds
use Rattle.boc_words.specs.Commands.{after_names_file, after_operand, before_operand, end_option, files_of, then_option, top_option}
use Rattle.boc_words.specs.EditWords.{edit_word}
use Rattle.boc_words.specs.declared.asked.AskedCown.TheVariants.{Number}
use Rattle.boc_words.specs.declared.asked.AskedEdit.TheVariants.{Row}
use Rattle.boc_words.specs.Words.{AreAtOdds, AreCowns, AreDraws, AreRunners, AreShared, AreTaken, AreUpTo, AreTooMany, AreWorkers, IsOver, IsSchedule}
use Rattle.boc_words.specs.Words.{AreBothStandard, AsksAllEnds, AsksDraws, GivesNumber, HasRuns, IsOfOne, IsUnfitEnds, LacksSeed, Names}
use Rattle.boc_words.specs.Words.{command_line, edit_words, values_at}
use Rattle.boc_words.specs.declared.commands.Kind.TheVariants as called
use Rattle.boc_words.specs.declared.schedule.Schedule.TheVariants.{Drawn, Timed}
use Rattle.boc_plans.specs.declared.edit.Change.TheVariants.{Offset, Ticks, Cost}
use Rattle.boc_plans.specs.declared.sharing.Sharing.TheVariants.{Exclusive, SharedReads}
use Rattle.boc_plans.specs.declared.sweep.Sweep.TheVariants as sweep
use Rattle.std.specs.Fmt.{digits}

-- what the parser's contract says of `boc` is exact
pub is_exact : is_simple_and_free command_line ≡ true
is_exact = refl

pub is_simple_too : is_simple command_line ≡ true
is_simple_too = refl

-- ---- words that are taken

abbrev whatif_words : List Text
whatif_words = codes "boc" ∷ codes "whatif" ∷ codes "--p" ∷ codes "+2" ∷ codes "2=1" ∷ codes "0=30" ∷ []

pub whatif_taken : AreTaken whatif_words
unfolding clap_on_literals
whatif_taken = refl

pub whatif_named : Names (subcommand_of command_line whatif_words) called.WhatIf (λ rows.
    (values_at rows (codes "edits") ≡ map edit_word (Row (record { row = 2; change = Ticks 1 }) ∷ Row (record { row = 0; change = Ticks 30 }) ∷ []))
    × AreWorkers rows (Some 2))
unfolding clap_on_literals digits
whatif_named = (_, refl, (refl, record { text = codes "+2"; alone = refl; says = record { numeral = (lit≤ tt, (lit≤ tt, tt)); value = refl } }))

abbrev without_words : List Text
without_words = codes "boc" ∷ codes "whatif" ∷ codes "--without" ∷ codes "7" ∷ codes "2@5" ∷ codes "--without=+02" ∷ codes "1=3/2" ∷ []

pub without_taken : AreTaken without_words
unfolding clap_on_literals
without_taken = refl

pub without_named : Names (subcommand_of command_line without_words) called.WhatIf (λ rows. AreCowns rows (Number 7 ∷ Number 2 ∷ [])
    × (values_at rows (codes "edits")
    ≡ map edit_word (Row (record { row = 2; change = Offset 5 }) ∷ Row (record { row = 1; change = Cost (record { over = 3; under = 2 }) }) ∷ [])))
unfolding clap_on_literals digits
without_named = (
  _,
  refl,
  (
    (record { numeral = (lit≤ tt, (lit≤ tt, tt)); value = refl }, (record { numeral = (lit≤ tt, (lit≤ tt, (lit≤ tt, tt))); value = refl }, tt)),
    refl,
  ),
)

abbrev early_words : List Text
early_words = codes "boc" ∷ codes "whatif" ∷ codes "--early" ∷ codes "parse" ∷ codes "p.boc" ∷ codes "--early=" ∷ codes "parse=1/2" ∷ []

pub early_taken : AreTaken early_words
unfolding clap_on_literals
early_taken = refl

pub early_named : Names (subcommand_of command_line early_words) called.WhatIf (λ rows.
    (values_at rows (codes "early") ≡ codes "parse" ∷ [] ∷ []) × (edit_words rows ≡ codes "parse=1/2" ∷ []))
unfolding clap_on_literals
early_named = (_, refl, (refl, refl))

abbrev sweep_words : List Text
sweep_words = codes "boc" ∷ codes "sweep" ∷ codes "--p=3" ∷ codes "--shared-reads" ∷ []

pub sweep_taken : AreTaken sweep_words
unfolding clap_on_literals
sweep_taken = refl

pub sweep_named : Names (subcommand_of command_line sweep_words) called.Sweep (λ rows.
    IsOver rows (sweep.Ticks (Some 3)) × AreShared rows SharedReads)
unfolding clap_on_literals digits
sweep_named = (
  _,
  refl,
  (
    (
      λ e. cc,
      λ e. cc,
      record { text = codes "3"; alone = refl; says = record { numeral = (lit≤ tt, (lit≤ tt, tt)); value = refl } },
    ),
    refl,
  ),
)

abbrev cowns_words : List Text
cowns_words = codes "boc" ∷ codes "sweep" ∷ codes "--cowns" ∷ []

pub cowns_taken : AreTaken cowns_words
unfolding clap_on_literals
cowns_taken = refl

pub cowns_named : Names (subcommand_of command_line cowns_words) called.Sweep (λ rows. IsOver rows (sweep.Cowns None))
unfolding clap_on_literals
cowns_named = (_, refl, (refl, λ e. cc, refl))

abbrev spawns_words : List Text
spawns_words = codes "boc" ∷ codes "sweep" ∷ codes "--shared-reads" ∷ codes "--spawns" ∷ []

pub spawns_taken : AreTaken spawns_words
unfolding clap_on_literals
spawns_taken = refl

pub spawns_named : Names (subcommand_of command_line spawns_words) called.Sweep (λ rows. IsOver rows sweep.Spawns)
unfolding clap_on_literals
spawns_named = (_, refl, (λ e. cc, refl, refl))

-- the parser takes these, and their options are at odds
abbrev odd_words : List Text
odd_words = codes "boc" ∷ codes "sweep" ∷ codes "--spawns" ∷ codes "--p" ∷ codes "2" ∷ []

pub odd_taken : AreTaken odd_words
unfolding clap_on_literals
odd_taken = refl

pub odd_named : Names (subcommand_of command_line odd_words) called.Sweep (λ rows. AreAtOdds rows)
unfolding clap_on_literals
odd_named = (_, refl, (refl, inr (λ e. cc)))

-- and of these more files than one are given
abbrev files_words : List Text
files_words = codes "boc" ∷ codes "why" ∷ codes "--record" ∷ codes "a" ∷ codes "--names=b" ∷ []

pub files_taken : AreTaken files_words
unfolding clap_on_literals
files_taken = refl

pub files_named : Names (subcommand_of command_line files_words) called.Why (λ rows. AreTooMany (files_of called.Why) rows)
unfolding clap_on_literals
files_named = (_, refl, lit≤ tt)

abbrev then_words : List Text
then_words = codes "boc" ∷ codes "why" ∷ codes "--p=4" ∷ codes "--then" ∷ codes "3" ∷ []

pub then_taken : AreTaken then_words
unfolding clap_on_literals
then_taken = refl

pub then_named : Names (subcommand_of command_line then_words) called.Why (λ rows.
    GivesNumber then_option rows (Some 3) × AreWorkers rows (Some 4))
unfolding clap_on_literals digits
then_named = (
  _,
  refl,
  (
    record { text = codes "3"; alone = refl; says = record { numeral = (lit≤ tt, (lit≤ tt, tt)); value = refl } },
    record { text = codes "4"; alone = refl; says = record { numeral = (lit≤ tt, (lit≤ tt, tt)); value = refl } },
  ),
)

abbrev why_words : List Text
why_words = codes "boc" ∷ codes "why" ∷ []

pub why_named : Names (subcommand_of command_line why_words) called.Why (λ rows. GivesNumber then_option rows None × AreWorkers rows None)
unfolding clap_on_literals
why_named = (_, refl, (refl, refl))

abbrev held_words : List Text
held_words = codes "boc" ∷ codes "cowns" ∷ codes "-p" ∷ codes "4" ∷ []

pub held_taken : AreTaken held_words
unfolding clap_on_literals
held_taken = refl

pub held_named : Names (subcommand_of command_line held_words) called.Cowns (λ rows.
    AreWorkers rows (Some 4) × GivesNumber top_option rows None)
unfolding clap_on_literals digits
held_named = (
  _,
  refl,
  (record { text = codes "4"; alone = refl; says = record { numeral = (lit≤ tt, (lit≤ tt, tt)); value = refl } }, refl),
)

abbrev curve_words : List Text
curve_words = codes "boc" ∷ codes "curve" ∷ []

pub curve_taken : AreTaken curve_words
unfolding clap_on_literals
curve_taken = refl

pub curve_named : Names (subcommand_of command_line curve_words) called.Curve (λ rows. AreUpTo rows 64 × AreShared rows Exclusive)
unfolding clap_on_literals
curve_named = (_, refl, (inl (refl, refl), λ e. cc))

abbrev profile_words : List Text
profile_words = codes "boc" ∷ codes "profile" ∷ []

pub profile_named : Names (subcommand_of command_line profile_words) called.Profile (λ rows. AreWorkers rows None × AreShared rows Exclusive)
unfolding clap_on_literals
profile_named = (_, refl, (refl, λ e. cc))

abbrev time_words : List Text
time_words = codes "boc" ∷ codes "time" ∷ codes "--p" ∷ codes "3" ∷ codes "--workers=16" ∷ []

pub time_taken : AreTaken time_words
unfolding clap_on_literals
time_taken = refl

pub time_named : Names (subcommand_of command_line time_words) called.Time (λ rows. AreRunners rows 16 × AreWorkers rows (Some 3))
unfolding clap_on_literals digits
time_named = (
  _,
  refl,
  (
    inr (record { text = codes "16"; alone = refl; says = record { numeral = (lit≤ tt, (lit≤ tt, (lit≤ tt, tt))); value = refl } }),
    record { text = codes "3"; alone = refl; says = record { numeral = (lit≤ tt, (lit≤ tt, tt)); value = refl } },
  ),
)

abbrev run_words : List Text
run_words = codes "boc" ∷ codes "run" ∷ []

pub run_named : Names (subcommand_of command_line run_words) called.Run (λ rows. AreRunners rows 1)
unfolding clap_on_literals
run_named = (_, refl, inl (refl, refl))

abbrev drawn_words : List Text
drawn_words = codes "boc" ∷ codes "run" ∷ codes "--seed" ∷ codes "7" ∷ codes "--depth=2" ∷ codes "--workers=3" ∷ []

pub drawn_taken : AreTaken drawn_words
unfolding clap_on_literals
drawn_taken = refl

pub drawn_named : Names (subcommand_of command_line drawn_words) called.Run (λ rows. IsSchedule rows (Drawn 3 7 (Some 2)))
unfolding clap_on_literals digits
drawn_named = (
  _,
  refl,
  (
    (λ e. cc),
    (
      inr (record { text = codes "3"; alone = refl; says = record { numeral = (lit≤ tt, (lit≤ tt, tt)); value = refl } }),
      record { text = codes "7"; alone = refl; says = record { numeral = (lit≤ tt, (lit≤ tt, tt)); value = refl } },
      record { text = codes "2"; alone = refl; says = record { numeral = (lit≤ tt, (lit≤ tt, tt)); value = refl } },
    ),
  ),
)

abbrev timed_words : List Text
timed_words = codes "boc" ∷ codes "time" ∷ codes "--timed" ∷ codes "-p" ∷ codes "17" ∷ []

pub timed_taken : AreTaken timed_words
unfolding clap_on_literals
timed_taken = refl

-- there are no more than 16 workers
pub timed_named : Names (subcommand_of command_line timed_words) called.Time (λ rows. IsSchedule rows (Timed 16))
unfolding clap_on_literals digits
timed_named = (
  _,
  refl,
  (
    refl,
    inl (17, record { text = codes "17"; alone = refl; says = record { numeral = (lit≤ tt, (lit≤ tt, (lit≤ tt, tt))); value = refl } }, inl (refl, refl)),
    refl,
    refl,
  ),
)

-- the parser takes these, and there is no seed for the depth
abbrev depth_words : List Text
depth_words = codes "boc" ∷ codes "time" ∷ codes "--depth" ∷ codes "2" ∷ []

pub depth_taken : AreTaken depth_words
unfolding clap_on_literals
depth_taken = refl

pub depth_named : Names (subcommand_of command_line depth_words) called.Time (λ rows. LacksSeed rows)
unfolding clap_on_literals
depth_named = (_, refl, (λ e. cc, refl))

abbrev outcomes_words : List Text
outcomes_words = codes "boc" ∷ codes "outcomes" ∷ codes "--runs" ∷ codes "9" ∷ codes "--depth" ∷ codes "2" ∷ []

pub outcomes_taken : AreTaken outcomes_words
unfolding clap_on_literals
outcomes_taken = refl

pub outcomes_named : Names (subcommand_of command_line outcomes_words) called.Outcomes (λ rows. AsksDraws rows (record {
  runs = 9;
  seed = 0;
  workers = 4;
  depth = Some 2;
}))
unfolding clap_on_literals digits
outcomes_named = (
  _,
  refl,
  record {
    drawn = λ e. cc;
    no_search = (refl, refl);
    draws = record {
      runs = inr (record { text = codes "9"; alone = refl; says = record { numeral = (lit≤ tt, (lit≤ tt, tt)); value = refl } });
      seed = inl (refl, refl);
      workers = inl (refl, refl);
      depth = record { text = codes "2"; alone = refl; says = record { numeral = (lit≤ tt, (lit≤ tt, tt)); value = refl } };
    };
  },
)

abbrev all_ends_words : List Text
all_ends_words = codes "boc" ∷ codes "outcomes" ∷ codes "--all" ∷ codes "--end=2" ∷ []

pub all_ends_taken : AreTaken all_ends_words
unfolding clap_on_literals
all_ends_taken = refl

pub all_ends_named : Names (subcommand_of command_line all_ends_words) called.Outcomes (λ rows.
    AsksAllEnds rows 1000000 × GivesNumber end_option rows (Some 2))
unfolding clap_on_literals digits
all_ends_named = (
  _,
  refl,
  (
    record { all = refl; no_draws = (refl, refl, refl, refl); most = inl (refl, refl) },
    record { text = codes "2"; alone = refl; says = record { numeral = (lit≤ tt, (lit≤ tt, tt)); value = refl } },
  ),
)

-- the parser takes these, and what is of draws stands beside a search of all ends
abbrev searched_words : List Text
searched_words = codes "boc" ∷ codes "outcomes" ∷ codes "--all" ∷ codes "--seed" ∷ codes "0" ∷ []

pub searched_taken : AreTaken searched_words
unfolding clap_on_literals
searched_taken = refl

pub searched_named : Names (subcommand_of command_line searched_words) called.Outcomes (λ rows. IsUnfitEnds rows)
unfolding clap_on_literals
searched_named = (_, refl, inl (refl, inr (inl (λ e. cc))))

abbrev compare_words : List Text
compare_words = codes "boc" ∷ codes "compare" ∷ codes "-p4" ∷ codes "a" ∷ codes "--names-b=n" ∷ codes "-" ∷ []

pub compare_taken : AreTaken compare_words
unfolding clap_on_literals
compare_taken = refl

pub compare_named : Names (subcommand_of command_line compare_words) called.Compare (λ rows.
    (values_at rows before_operand ≡ codes "a" ∷ []) × (values_at rows after_operand ≡ codes "-" ∷ [])
    × (values_at rows after_names_file ≡ codes "n" ∷ []))
unfolding clap_on_literals
compare_named = (_, refl, (refl, refl, refl))

-- the parser takes these, and both inputs are standard input
abbrev standard_words : List Text
standard_words = codes "boc" ∷ codes "compare" ∷ codes "-" ∷ codes "-" ∷ []

pub standard_taken : AreTaken standard_words
unfolding clap_on_literals
standard_taken = refl

pub standard_named : Names (subcommand_of command_line standard_words) called.Compare (λ rows. AreBothStandard rows)
unfolding clap_on_literals
standard_named = (_, refl, (refl, refl))

-- the parser takes these, and what is of one run stands beside many
abbrev many_words : List Text
many_words = codes "boc" ∷ codes "why" ∷ codes "--runs" ∷ codes "9" ∷ codes "--timed" ∷ []

pub many_taken : AreTaken many_words
unfolding clap_on_literals
many_taken = refl

pub many_named : Names (subcommand_of command_line many_words) called.Why (λ rows. HasRuns rows × IsOfOne rows)
unfolding clap_on_literals
many_named = (_, refl, (λ e. cc, inl refl))

-- ---- words that are not

pub one_input : fault_of command_line (codes "boc" ∷ codes "compare" ∷ codes "a" ∷ []) ≡ kinds.MissingRequiredArgument ∷ []
unfolding clap_on_literals
one_input = refl

pub no_command : fault_of command_line (codes "boc" ∷ []) ≡ kinds.DisplayHelpOnMissingArgumentOrSubcommand ∷ []
unfolding clap_on_literals
no_command = refl

pub too_many_workers : fault_of command_line (codes "boc" ∷ codes "profile" ∷ codes "--p" ∷ codes "65" ∷ []) ≡ kinds.ValueValidation ∷ []
unfolding clap_on_literals
too_many_workers = refl

pub too_many_runners : fault_of command_line (codes "boc" ∷ codes "run" ∷ codes "--workers" ∷ codes "17" ∷ []) ≡ kinds.ValueValidation ∷ []
unfolding clap_on_literals
too_many_runners = refl

pub too_deep : fault_of command_line (codes "boc" ∷ codes "outcomes" ∷ codes "--depth" ∷ codes "17" ∷ []) ≡ kinds.ValueValidation ∷ []
unfolding clap_on_literals
too_deep = refl

pub no_runs : fault_of command_line (codes "boc" ∷ codes "outcomes" ∷ codes "--runs" ∷ codes "0" ∷ []) ≡ kinds.ValueValidation ∷ []
unfolding clap_on_literals
no_runs = refl

pub no_fronts : fault_of command_line (codes "boc" ∷ codes "outcomes" ∷ codes "--all" ∷ codes "--most" ∷ codes "0" ∷ []) ≡ kinds.ValueValidation ∷ []
unfolding clap_on_literals
no_fronts = refl

pub too_many_fronts :
    fault_of command_line (codes "boc" ∷ codes "outcomes" ∷ codes "--all" ∷ codes "--most" ∷ codes "100000001" ∷ []) ≡ kinds.ValueValidation ∷ []
unfolding clap_on_literals
too_many_fronts = refl

pub no_end : fault_of command_line (codes "boc" ∷ codes "outcomes" ∷ codes "--all" ∷ codes "--end" ∷ codes "0" ∷ []) ≡ kinds.ValueValidation ∷ []
unfolding clap_on_literals
no_end = refl

pub too_many_changes : fault_of command_line (codes "boc" ∷ codes "why" ∷ codes "--then" ∷ codes "6" ∷ []) ≡ kinds.ValueValidation ∷ []
unfolding clap_on_literals
too_many_changes = refl

pub no_changes : fault_of command_line (codes "boc" ∷ codes "why" ∷ codes "--then" ∷ codes "0" ∷ []) ≡ kinds.ValueValidation ∷ []
unfolding clap_on_literals
no_changes = refl

pub changes_of_cowns : fault_of command_line (codes "boc" ∷ codes "cowns" ∷ codes "--then=3" ∷ []) ≡ kinds.UnknownArgument ∷ []
unfolding clap_on_literals
changes_of_cowns = refl

pub too_many_workers_of_cowns : fault_of command_line (codes "boc" ∷ codes "cowns" ∷ codes "-p" ∷ codes "65" ∷ []) ≡ kinds.ValueValidation ∷ []
unfolding clap_on_literals
too_many_workers_of_cowns = refl

pub word_too_many : fault_of command_line (codes "boc" ∷ codes "values" ∷ codes "program" ∷ codes "more" ∷ []) ≡ kinds.UnknownArgument ∷ []
unfolding clap_on_literals
word_too_many = refl

pub version_asked : fault_of command_line (codes "boc" ∷ codes "--version" ∷ []) ≡ kinds.DisplayVersion ∷ []
unfolding clap_on_literals
version_asked = refl

pub help_asked : fault_of command_line (codes "boc" ∷ codes "--help" ∷ []) ≡ kinds.DisplayHelp ∷ []
unfolding clap_on_literals
help_asked = refl

pub cowns_with_a_value : fault_of command_line (codes "boc" ∷ codes "sweep" ∷ codes "--cowns=1" ∷ []) ≡ kinds.TooManyValues ∷ []
unfolding clap_on_literals
cowns_with_a_value = refl

pub no_cown : fault_of command_line (codes "boc" ∷ codes "whatif" ∷ codes "--without" ∷ []) ≡ kinds.InvalidValue ∷ []
unfolding clap_on_literals
no_cown = refl

pub no_early_def : fault_of command_line (codes "boc" ∷ codes "whatif" ∷ codes "--early" ∷ []) ≡ kinds.InvalidValue ∷ []
unfolding clap_on_literals
no_early_def = refl

pub early_of_why : fault_of command_line (codes "boc" ∷ codes "why" ∷ codes "--early" ∷ codes "parse" ∷ []) ≡ kinds.UnknownArgument ∷ []
unfolding clap_on_literals
early_of_why = refl

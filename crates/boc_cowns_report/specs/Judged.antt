-- Cowns by the ends of greedy plans without them.
use Rattle.std.specs.Prelude.{ℕ, nat_lt, List, [], map, slice_index}
use Rattle.std.specs.List.{fold}
use Rattle.boc_cowns.specs.declared.hot.HotCown.{HotCown}
use Rattle.boc_remedies.specs.InOrder.{put_before}
use Rattle.boc_cowns_report.specs.declared.judged.JudgedCown.{JudgedCown}

-- a cown with the end of the plan without it, which stands at its number
abbrev pub judged_by : List ℕ → HotCown → JudgedCown
judged_by ends own = record { hot = own; end = slice_index ends own.cown }

-- cowns with one more, after those that leave as much or less
abbrev pub judged_with : List JudgedCown → JudgedCown → List JudgedCown
judged_with judged own = put_before (λ j. nat_lt own.end j.end) judged own

-- the cowns: those that leave the soonest end first, and of equal ones the first
abbrev pub judged_cowns : List ℕ → List HotCown → List JudgedCown
judged_cowns ends cowns = fold judged_with [] (map (judged_by ends) cowns)

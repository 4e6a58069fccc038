-- How it is told what some rows take by some workers, and what holds them back then.
use Rattle.std.specs.Prelude.{◌-◌, ◌*◌, ◌/◌, ◌==◌, ℕ, zero, suc, max, Bool, cond, nat_le, ◌++◌, codes, decimal}
use Rattle.std.specs.Int.{div_ceil}
use Rattle.boc_names.specs.Names.{Text}
use Rattle.boc_advice_report.specs.declared.workers.ForWorkers.{ForWorkers}
use Rattle.boc_advice_report.specs.AdviceTexts.{count_text}

-- how much of the work each worker has, rounded up; nothing where there is none
abbrev pub share_of : ForWorkers → ℕ
share_of own = cond (own.p == 0) 0 (div_ceil own.work own.p)

-- a tick before which no plan for the workers ends
abbrev pub least_of : ForWorkers → ℕ
least_of own = max (share_of own) own.span

-- for how much of the time the workers are busy, in percent, rounded down; for nothing of it where there is none
abbrev pub busy_of : ForWorkers → ℕ
busy_of own = cond (own.p * own.end == 0) 0 (own.work * 100 / (own.p * own.end))

-- when the greedy plan ends, and a tick before which no plan for the workers does
abbrev pub ends_text : ForWorkers → Text
ends_text own = count_text own.p ++ codes "   end " ++ decimal own.end ++ codes "   least " ++ decimal (least_of own)

-- how much of the work each worker has
abbrev pub share_text : ForWorkers → Text
share_text own = codes "   work/" ++ decimal own.p ++ codes " " ++ decimal (share_of own)

-- for how much of the time the workers are busy
abbrev pub busy_text : ForWorkers → Text
busy_text own = codes "   busy " ++ decimal (busy_of own) ++ codes "%\n"

-- the line of some workers
abbrev pub workers_text : ForWorkers → Text
workers_text own = ends_text own ++ share_text own ++ busy_text own

-- ---- the verdict

-- whether these are 90 of 100 ticks of an end at least
abbrev pub is_most : ℕ → ℕ → Bool
is_most ticks end = nat_le (end * 90) (ticks * 100)

-- so many ticks of the end
abbrev pub part_text : ℕ → ℕ → Text
part_text ticks end = decimal ticks ++ codes " of " ++ decimal end ++ codes " ticks; "

-- the workers are too few
abbrev pub workers_verdict : ForWorkers → Text
workers_verdict own =
    codes "workers: the work alone takes " ++ count_text own.p ++ codes " " ++ part_text (share_of own) own.end
    ++ codes "a change that leaves the work as it is saves at most " ++ decimal (own.end - share_of own)

-- what more workers save at most
abbrev pub saves_text : ℕ → Text
saves_text zero = codes "nothing"
saves_text (suc n) = codes "at most " ++ decimal (suc n)

-- the chain is what holds the rows back
abbrev pub chain_verdict : ForWorkers → Text
chain_verdict own = codes "chain: the critical path takes " ++ part_text own.span own.end ++ codes "more workers save " ++ saves_text (own.end - own.span)

-- neither is
abbrev pub plan_verdict : ForWorkers → Text
plan_verdict own =
    codes "plan: neither the work nor the critical path takes more than " ++ part_text (least_of own) own.end
    ++ codes "earlier spawns or another order may save up to " ++ decimal (own.end - least_of own)

-- what holds the rows back: that the workers are too few, where the work alone takes most of the end; else the chain, where that does; else neither
abbrev pub verdict_text : ForWorkers → Text
verdict_text own =
    cond (is_most (share_of own) own.end) (workers_verdict own) (cond (is_most own.span own.end) (chain_verdict own) (plan_verdict own)) ++ codes "\n"

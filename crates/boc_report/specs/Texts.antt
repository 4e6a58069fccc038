-- The texts of reports, of curves and of sweeps.
use Rattle.std.specs.Prelude.{ℕ, suc, Bool, true, false, List, [], ◌∷◌, ◌++◌, length, codes, decimal}
use Rattle.boc_plans.specs.declared.chain.ChainStep.{ChainStep}
use Rattle.boc_plans.specs.declared.chain.Via.{Via}
use Rattle.boc_plans.specs.declared.chain.Via.TheVariants.{Spawn, Order, Last}
use Rattle.boc_greedy.specs.declared.points.CurvePoint.{CurvePoint}

-- what stands between the row and the weight of a step: the link to the next one
abbrev pub via_word : Via → List ℕ
via_word Spawn = codes " spawn "
via_word Order = codes " order "
via_word Last = codes " end "

-- the line of a step of a chain
abbrev pub step_line : ChainStep → List ℕ
step_line s = decimal s.row ++ via_word s.via ++ decimal s.weight ++ codes "\n"

-- the lines of a chain's steps
abbrev pub step_lines : List ChainStep → List ℕ
step_lines [] = []
step_lines (s ∷ steps) = step_line s ++ step_lines steps

-- the line of a row in a plan: its number, its start and its end
abbrev pub plan_line : ℕ → ℕ → ℕ → List ℕ
plan_line r start end = decimal r ++ codes " " ++ decimal start ++ codes " " ++ decimal end ++ codes "\n"

-- the lines of the rows of a plan from row r on
abbrev pub plan_lines : ℕ → List ℕ → List ℕ → List ℕ
plan_lines r [] ends = []
plan_lines r (start ∷ starts) [] = []
plan_lines r (start ∷ starts) (end ∷ ends) = plan_line r start end ++ plan_lines (suc r) starts ends

-- a line of a word and a number
abbrev pub number_line : List ℕ → ℕ → List ℕ
number_line word n = word ++ decimal n ++ codes "\n"

-- the numbers at the head of a report: how many rows, their work, and the span
abbrev pub report_head : ℕ → ℕ → ℕ → List ℕ
report_head rows work span = number_line (codes "rows ") rows ++ number_line (codes "work ") work ++ number_line (codes "span ") span

-- the plan of a report; where a report is wanted without its plans, there is none
abbrev pub plan_text : Bool → List ℕ → List ℕ → List ℕ
plan_text true starts ends = []
plan_text false starts ends = codes "plan\n" ++ plan_lines 0 starts ends

-- a report, without its plan or with it: the numbers, the chain, and the plan
abbrev pub report_text : Bool → ℕ → ℕ → List ChainStep → List ℕ → List ℕ → List ℕ
report_text unplanned work span steps starts ends =
    report_head (length starts) work span ++ codes "chain\n" ++ step_lines steps ++ plan_text unplanned starts ends

-- the line of a row in a greedy plan: its number, its start, its end and its worker
abbrev pub served_line : ℕ → ℕ → ℕ → ℕ → List ℕ
served_line r start end worker =
    decimal r ++ codes " " ++ decimal start ++ codes " " ++ decimal end ++ codes " " ++ decimal worker ++ codes "\n"

-- the lines of the rows of a greedy plan from row r on
abbrev pub served_lines : ℕ → List ℕ → List ℕ → List ℕ → List ℕ
served_lines r [] ends workers = []
served_lines r (start ∷ starts) [] workers = []
served_lines r (start ∷ starts) (end ∷ ends) [] = []
served_lines r (start ∷ starts) (end ∷ ends) (worker ∷ workers) =
    served_line r start end worker ++ served_lines (suc r) starts ends workers

-- the rows of a greedy plan; where a report is wanted without its plans, there are none
abbrev pub served_text : Bool → List ℕ → List ℕ → List ℕ → List ℕ
served_text true starts ends workers = []
served_text false starts ends workers = served_lines 0 starts ends workers

-- the line of the end of a greedy plan, and of the tick by which it has ended
abbrev pub bound_line : ℕ → ℕ → List ℕ
bound_line last bound = codes "end " ++ decimal last ++ codes " bound " ++ decimal bound ++ codes "\n"

-- a part of a report on workers, without its rows or with them: the number of workers behind a word, the rows, and the end with its bound
abbrev pub workers_text : List ℕ → Bool → ℕ → List ℕ → List ℕ → List ℕ → ℕ → ℕ → List ℕ
workers_text word unplanned p starts ends workers last bound =
    number_line word p ++ served_text unplanned starts ends workers ++ bound_line last bound

-- the greedy part of a report
abbrev pub greedy_text : Bool → ℕ → List ℕ → List ℕ → List ℕ → ℕ → ℕ → List ℕ
greedy_text unplanned p starts ends workers last bound = workers_text (codes "greedy ") unplanned p starts ends workers last bound

-- the part of a report on a timed run
abbrev pub timed_text : Bool → ℕ → List ℕ → List ℕ → List ℕ → ℕ → ℕ → List ℕ
timed_text unplanned p starts ends workers last bound = workers_text (codes "timed ") unplanned p starts ends workers last bound

-- the line of a point of a curve: the number of workers, the end of their greedy plan, the tick before which no plan of theirs ends, and the
-- tick by which the greedy one has ended
abbrev pub curve_line : CurvePoint → List ℕ
curve_line point =
    decimal point.workers ++ codes " " ++ decimal point.end ++ codes " " ++ decimal point.low ++ codes " " ++ decimal point.bound ++ codes "\n"

-- the lines of the points of a curve
abbrev pub curve_lines : List CurvePoint → List ℕ
curve_lines [] = []
curve_lines (point ∷ points) = curve_line point ++ curve_lines points

-- a curve: the work, the span, and the points
abbrev pub curve_text : ℕ → ℕ → List CurvePoint → List ℕ
curve_text work span points = number_line (codes "work ") work ++ number_line (codes "span ") span ++ curve_lines points

-- the line of a row or a cown in a sweep: its number, and the span or the end that goes with it
abbrev pub sweep_line : ℕ → ℕ → List ℕ
sweep_line r span = decimal r ++ codes " " ++ decimal span ++ codes "\n"

-- the lines of a sweep from number r on
abbrev pub sweep_lines : ℕ → List ℕ → List ℕ
sweep_lines r [] = []
sweep_lines r (span ∷ spans) = sweep_line r span ++ sweep_lines (suc r) spans

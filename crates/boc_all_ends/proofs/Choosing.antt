-- The places that are tried.
use Rattle.std.proofs.Common.{◌≡◌, ℕ, zero, suc, ◌<◌, nat_lt, IsTrue, List, [], ◌∷◌, inl, inr, subst, sym, arith}
use Rattle.std.specs.Prelude.{map, slice_get, Some, None, Result, Ok, Err, IfOk}
use Rattle.std.proofs.lemmas.Bool.Decides.{nat_tests}
use Rattle.std.specs.List.{Contains}
use Rattle.boc_program.proofs.RisingNumbers.{none_in_none, first_or_later}
use Rattle.boc_program.specs.declared.program.Program.{Program}
use Rattle.boc_runs.specs.Serial.{Behaviour}
use Rattle.boc_eval.specs.Queue.{QueueFits}
use Rattle.boc_fronts.specs.Fronts as fronts
use Rattle.boc_runs.specs.machine.Queues.{times}
use Rattle.boc_footprints.specs.Footprints.{TakesAll}
use Rattle.boc_sharp_footprints.specs.Footprints.{IsFootprintByArgs, ReachedBy}
use Rattle.boc_sharp_footprints.specs.Tables.{reaches_by}
use Rattle.boc_footprints.proofs.Truths.{or_true, or_left, or_right}
use Rattle.boc_choices.specs.Chosen.{AreChosen, WishesTakeAll}
use Rattle.boc_choices.specs.Holding.{Table}
use Rattle.boc_choices.proofs.Closed.{chosen_are_enough}
use Rattle.boc_front_rows.specs.declared.row.Front.{Front}
use Rattle.boc_front_rows.specs.Lists.{list_at}
use Rattle.boc_front_rows.specs.Rows.{plains}
use Rattle.boc_front_rows.specs.Seen.{front_of, shown}
use Rattle.boc_front_rows.proofs.Mapped.{mapped_at}
use Rattle.boc_all_ends.specs.Spreading.{AreToTry}
use Rattle.boc_all_ends.specs.Stepping.{ListsFit}
use Rattle.boc_all_ends.specs.Tabled.{IsTableOf}
use Rattle.boc_all_ends.proofs.Seeing.{Lists}

-- what holds of a result holds of it in other words
pub if_ok : {T E : Type 0} (P Q : T → Type 0) (r : Result T E) → IfOk r P → ((t : T) → P t → Q t) → IfOk r Q
if_ok P Q (Ok t) h f = f t h
if_ok P Q (Err e) h f = tt

some_times : (n : ℕ) → IsTrue (nat_lt 0 n) → 0 < n
some_times n h = grind (arith, nat_tests)

is_some : (n : ℕ) → 0 < n → IsTrue (nat_lt 0 n)
is_some n h = grind (arith, nat_tests)

-- a footprint by a table makes the table one of the program, and the other way round
pub table_of : (p : Program) (table : Table) → IsFootprintByArgs p (ReachedBy table) → IsTableOf p table
table_of p table f = (
  λ b values w takes at c has. elim (f.cowns b values w takes at c has) [
    | inl own ↦ or_left (nat_lt 0 (times c b.cowns)) (reaches_by table b.kind b.args c) (is_some (times c b.cowns) own)
    | inr reached ↦ or_right (nat_lt 0 (times c b.cowns)) (reaches_by table b.kind b.args c) reached
  ],
  f.wishes,
)

footprint_of : (p : Program) (table : Table) → IsTableOf p table → IsFootprintByArgs p (ReachedBy table)
footprint_of p table t = record {
  cowns = λ b values w takes at c has. elim (or_true (nat_lt 0 (times c b.cowns)) (reaches_by table b.kind b.args c) (t.0 b values w takes at c has)) [
    | inl own ↦ inl (some_times (times c b.cowns) own)
    | inr reached ↦ inr reached
  ];
  wishes = t.1;
}

-- each behaviour of a queue that fits takes all
queue_takes_all : (p : Program) (bs : List Behaviour) (b : Behaviour) → QueueFits p bs → Contains bs b → TakesAll p b
queue_takes_all p [] b fits at = absurd (none_in_none b at)
queue_takes_all p (x ∷ bs) b fits at = elim (first_or_later x b bs at) [
  | inl is ↦ subst (TakesAll p) is fits.0.0
  | inr later ↦ queue_takes_all p bs b fits.1 later
]

-- so does each wish of a front, where the lists fit
wishes_take_all : (p : Program) (lists : Lists) (f : Front) → ListsFit p lists → WishesTakeAll p (front_of lists f)
wishes_take_all p lists f fits i row b is at =
    let r = mapped_at (shown lists) (plains f.live.items) i row is in
    queue_takes_all p (list_at lists r.0.wishes) b (fits r.0.wishes) (subst (λ (l : fronts.LiveRow). Contains l.wishes b) (sym r.2) at)

-- chosen places of a front are to be tried
pub to_try : (p : Program) (lists : Lists) (table : Table) (f : Front) (places : List ℕ) → IsTableOf p table → ListsFit p lists
    → AreChosen table (front_of lists f) places → AreToTry p (front_of lists f) places
to_try p lists table f places is fits chosen = record {
  free = λ i at. elim chosen [
    | inl closed ↦ ((closed.2 i).0 at).1
    | inr all ↦ (all i).0 at
  ];
  enough = λ live. chosen_are_enough p table (front_of lists f) places (footprint_of p table is) (wishes_take_all p lists f fits) live chosen;
}

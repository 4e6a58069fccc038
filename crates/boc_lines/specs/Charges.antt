-- What each statement of a body is charged: some ticks, one charge after another.
use Rattle.std.specs.Prelude.{ℕ, zero, suc, ◌+◌, ◌-◌, nat_le, nat_eq, min, if◌then◌else◌, List, [], ◌∷◌, ℤ, Ok, Err, slice_set}
use Rattle.boc_program.specs.declared.limits.TheConstants.{MOST_TICKS}
use Rattle.boc_program.specs.declared.body.Body.{Body}
use Rattle.boc_program.specs.declared.short.Input.{Input}
use Rattle.boc_program.specs.Syntax.{Code, Done, Assign, Work, If, Repeat, When, code_size}
use Rattle.boc_program.specs.Value.{OrFault, then_value, value, values}
use Rattle.boc_program.specs.Meaning.{State, as_count, is_zero, cowns_of, distinct, start}

-- ticks that a statement was charged; statements have numbers in the order of the text
pub record Charge : Type 0 where
  pub statement : ℕ
  pub ticks : ℕ

-- what a body is charged from some point to its end, and the values of its slots then
pub record Bill : Type 0 where
  pub charges : List Charge
  pub slots : List ℤ

-- what comes after, from a state
abbrev pub After : Type 0
After = State → Bill

-- what is charged before what comes after it
abbrev pub Charging : Type 0
Charging = State → After → Bill

-- the body ends here, and nothing more is charged
abbrev pub closed : After
closed s = record { charges = []; slots = s.slots }

-- a charge in front of what comes after
abbrev pub charging : ℕ → ℕ → Bill → Bill
charging statement n bill = record bill { charges = (record { statement = statement; ticks = n }) ∷ bill.charges }

-- charges a statement n ticks, unless that would pass the cap
abbrev pub charge : ℕ → ℕ → Charging
charge statement n s next =
    if nat_le (s.ticks + n) MOST_TICKS then charging statement n (next (record s { ticks = s.ticks + n })) else closed s

-- goes on with a value, unless there is a fault
abbrev pub given : {A : Type 0} → OrFault A → State → (A → Bill) → Bill
given (Ok v) s go = go v
given (Err fault) s go = closed s

-- n turns, each for a tick of the statement
abbrev pub turns : ℕ → ℕ → Charging → Charging
turns statement zero a s next = next s
turns statement (suc n) a s next = charge statement 1 s (λ s. a s (λ s. turns statement n a s next))

-- What statements are charged, of which the first has the number k. A statement comes before those of its blocks, and these before the next statement.
abbrev pub charged : Code → ℕ → Charging
charged Done k s next = next s
charged (Assign slot e rest) k s next =
    charge k 1 s (λ s. given (value e s.slots) s (λ v.
    charged rest (k + 1) (record s { slots = slice_set s.slots slot v }) next))
charged (Work e rest) k s next =
    given (then_value (value e s.slots) as_count) s (λ n. charge k n s (λ s. charged rest (k + 1) s next))
charged (If e block other rest) k s next =
    charge k 1 s (λ s. given (value e s.slots) s (λ v.
    (if is_zero v then charged other (k + 1 + code_size block) else charged block (k + 1)) s
    (λ s. charged rest (k + 1 + code_size block + code_size other) s next)))
charged (Repeat e block rest) k s next =
    charge k 1 s (λ s. given (then_value (value e s.slots) as_count) s (λ n.
    turns k n (charged block (k + 1)) s (λ s. charged rest (k + 1 + code_size block) s next)))
charged (When kind args refs rest) k s next =
    charge k 1 s (λ s.
    given (values args s.slots) s (λ vs.
    given (then_value (cowns_of refs s) distinct) s (λ cs. charged rest (k + 1) s next)))

-- what a body is charged from its start to its end: the tick of its start has the number `first`, and its statements those after it
abbrev pub bill : ℕ → Body → List ℤ → List Input → Bill
bill first body args inputs = charging first 1 (charged body.block (first + 1) (start body args inputs) closed)

-- the ticks of charges together
abbrev pub total : List Charge → ℕ
total [] = 0
total (c ∷ charges) = c.ticks + total charges

-- the ticks of a charge that are of this statement
abbrev pub own_ticks : ℕ → Charge → ℕ
own_ticks statement c = if nat_eq c.statement statement then c.ticks else 0

-- the ticks that a statement was charged
abbrev pub ticks_of : ℕ → List Charge → ℕ
ticks_of statement [] = 0
ticks_of statement (c ∷ charges) = own_ticks statement c + ticks_of statement charges

-- the charges of the first n ticks: the one in which these end is cut, and those after it are of no ticks
abbrev pub first_ticks : ℕ → List Charge → List Charge
first_ticks n [] = []
first_ticks n (c ∷ charges) = (record c { ticks = min n c.ticks }) ∷ first_ticks (n - c.ticks) charges

-- A body under way, as it walks over its statements.
use Rattle.std.specs.Prelude.{◌≡◌, ◌+◌, ◌≤◌, ◌&&◌, is_ok, Bool, true, false, ℕ, ℤ, List, Option, Some, None, length, sum}
use Rattle.boc_program.specs.declared.limits.TheConstants.{MOST_TICKS}
use Rattle.boc_program.specs.Syntax.{SlotExpr, CownRef}
use Rattle.boc_program.specs.Value.{then_value, value, values}
use Rattle.boc_program.specs.Meaning.{State, as_count, cowns_of, distinct}
use Rattle.boc_lines.specs.declared.walk.Walk.{Walk}
use Rattle.boc_lines.specs.Charges.{Bill, After, Charging, closed, charge, given}
use Rattle.boc_lines.specs.Books.{Book, entered}

-- where it stands
abbrev pub state_of : Walk → State
state_of w = record { held = w.held.items; slots = w.slots.items; ticks = w.ticks }

-- what is kept of its charges
abbrev pub book_of : Walk → Book
book_of w = record { ticks = w.counts.items; chain = w.chain.items; left = w.left }

-- it goes on to what comes next, or ends here
abbrev pub goes_on : Bool → After → After
goes_on true next s = next s
goes_on false next s = closed s

-- something was charged on the way from one point to another, or up to the end that is there
abbrev pub Charges : Charging → Walk → Bool → Walk → Type 0
Charges a old on new = (next : After) → entered (book_of old) (a (state_of old) next) ≡ entered (book_of new) (goes_on on next (state_of new))

-- the same, with a value on which what comes next depends
abbrev pub goes_on_with : {A : Type 0} → Option A → (A → After) → After
goes_on_with (Some v) next s = next v s
goes_on_with None next s = closed s

abbrev pub ChargesWith : {A : Type 0} → ((A → After) → State → Bill) → Walk → Option A → Walk → Type 0
ChargesWith {A} a old found new =
    (next : A → After) → entered (book_of old) (a next (state_of old)) ≡ entered (book_of new) (goes_on_with found next (state_of new))

-- a statement is charged its tick, and its expression has a value
abbrev pub testing : ℕ → SlotExpr → (ℤ → After) → State → Bill
testing k e next s = charge k 1 s (λ s. given (value e s.slots) s (λ v. next v s))

-- the same, where the value is a number of turns
abbrev pub counting : ℕ → SlotExpr → (ℕ → After) → State → Bill
counting k e next s = charge k 1 s (λ s. given (then_value (value e s.slots) as_count) s (λ n. next n s))

-- a wish has all its values, and names each cown once
abbrev pub can_wish : List SlotExpr → List CownRef → State → Bool
can_wish args refs s = is_ok (values args s.slots) && is_ok (then_value (cowns_of refs s) distinct)

-- the most that is counted of any number: the ticks of all rows of a run
abbrev pub MOST_COUNTED : ℕ
MOST_COUNTED = 65535000000

-- there is room for as many further ticks as the body may take
pub record HasRoom (w : Walk) : Type 0 where
  pub ticks : w.ticks ≤ MOST_TICKS
  pub counts : sum w.counts.items + MOST_TICKS ≤ MOST_COUNTED + w.ticks
  pub chain : sum w.chain.items + MOST_TICKS ≤ MOST_COUNTED + w.ticks

-- it went on: no more was counted than ticks were charged
pub record Keeps (old new : Walk) : Type 0 where
  pub ticks : new.ticks ≤ MOST_TICKS
  pub slots : length new.slots.items ≡ length old.slots.items
  pub counts : sum new.counts.items + old.ticks ≤ sum old.counts.items + new.ticks
  pub chain : sum new.chain.items + old.ticks ≤ sum old.chain.items + new.ticks

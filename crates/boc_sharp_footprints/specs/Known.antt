-- What is known of a body's slots while it runs, whatever the values of the cowns.
use Rattle.std.specs.Prelude.{ℕ, ◌+◌, ◌-◌, nat_lt, nat_le, Bool, true, false, if◌then◌else◌, ◌&&◌, not, is_some, List, Option, Some, None, ℤ, pos, negsuc}
use Rattle.std.specs.Prelude.{neg_ℤ, Ok, Err, slice_index_or}
use Rattle.std.specs.Prelude.{replicate, slice_set}
use Rattle.boc_program.specs.Syntax.{SlotExpr, Number, Slot, Negate, Binary, CownRef, Held, Single, Member}
use Rattle.boc_program.specs.Value.{OrFault, in_64_bits, apply}
use Rattle.boc_program.specs.Meaning.{is_zero}

-- for each slot the value, where it is known
abbrev pub Known : Type 0
Known = List (Option ℤ)

-- what is known of a slot
abbrev pub known_at : Known → ℕ → Option ℤ
known_at a i = slice_index_or a i None

-- the value, unless there is a fault
abbrev pub unless_fault : OrFault ℤ → Option ℤ
unless_fault (Ok v) = Some v
unless_fault (Err fault) = None

-- goes on with a known value
abbrev pub if_known : Option ℤ → (ℤ → Option ℤ) → Option ℤ
if_known None go = None
if_known (Some v) go = go v

-- what is known of the value of an expression; nothing, where it has a fault
abbrev pub known : SlotExpr → Known → Option ℤ
known (Number z) a = Some z
known (Slot i) a = known_at a i
known (Negate e) a = if_known (known e a) (λ v. unless_fault (in_64_bits (neg_ℤ v)))
known (Binary op x y) a = if_known (known x a) (λ v. if_known (known y a) (λ w. unless_fault (apply op v w)))

-- the same, if the expression is there
abbrev pub known_if : Option SlotExpr → Known → Option ℤ
known_if None a = None
known_if (Some e) a = known e a

-- a condition may hold, or may fail
abbrev pub may_hold : Option ℤ → Bool
may_hold None = true
may_hold (Some v) = not (is_zero v)

abbrev pub may_fail : Option ℤ → Bool
may_fail None = true
may_fail (Some v) = is_zero v

-- cowns from a first one on
pub record Range : Type 0 where
  pub first : ℕ
  pub size : ℕ

-- the cown is one of the range
abbrev pub is_within : Range → ℕ → Bool
is_within r cown = nat_le r.first cown && nat_lt (cown - r.first) r.size

-- the same, if there is a range
abbrev pub is_within_any : Option Range → ℕ → Bool
is_within_any None cown = false
is_within_any (Some r) cown = is_within r cown

-- the member of an array that has this index, if it is one; where the index is not known, all members
abbrev pub members : ℕ → ℕ → Option ℤ → Option Range
members first size None = Some (record { first = first; size = size })
members first size (Some (pos i)) = if nat_lt i size then Some (record { first = first + i; size = 1 }) else None
members first size (Some (negsuc i)) = None

-- the cowns to which a reference may be, if it is to one; a parameter is one of the behaviour's own, and names no other
abbrev pub range_of : Known → CownRef → Option Range
range_of a (Held i) = Some (record { first = 0; size = 0 })
range_of a (Single cown) = Some (record { first = cown; size = 1 })
range_of a (Member first size index) = members first size (known index a)

-- a reference may be to this cown
abbrev pub may_name : ℕ → Known → CownRef → Bool
may_name cown a ref = is_within_any (range_of a ref) cown

-- a reference may be to a cown
abbrev pub may_lead : Known → CownRef → Bool
may_lead a ref = is_some (range_of a ref)

-- as a body starts: of its slots only this one is known
abbrev pub known_at_start : ℕ → ℕ → ℕ → Known
known_at_start slots place value = slice_set (replicate slots None) place (Some (pos value))

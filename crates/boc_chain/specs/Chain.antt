-- What each call of the chains does to the lists of requests. Slots are counted as the machine counts numbers.
pub use Rattle.boc_runs.specs.machine.Queues.{times}
use Rattle.std.specs.Prelude.{◌≡◌, ℕ, nat_lt, ◌||◌, ◌+◌, ◌-◌, ◌<◌, true, false, List, [], ◌∷◌, ◌++◌, length, map, ◌==◌, if◌then◌else◌, slice_get, slice_set}
use Rattle.std.specs.Prelude.{slice_index_or, Option, Some, None, position}
use Rattle.std.specs.Option.{option_map}
use Rattle.boc_chain.specs.declared.request.Request.{Request}
use Rattle.boc_chain.specs.declared.request.Slot.{Slot}
use Rattle.boc_chain.specs.declared.request.Settled.{Settled}
use Rattle.boc_chain.specs.declared.request.Settled.TheVariants.{Lone, Linked}
use Rattle.boc_chain.specs.declared.request.Settled.TheVariants.{Blocked as SettleBlocked}
use Rattle.boc_chain.specs.declared.request.Released.{Released}
use Rattle.boc_chain.specs.declared.request.Released.TheVariants.{Unhooked, Passed}
use Rattle.boc_chain.specs.declared.request.Released.TheVariants.{Blocked as LeaveBlocked}

-- what was admitted: the cowns, rising, and how many of its requests were exchanged
pub record Place : Type 0 where
  pub cowns : List ℕ
  pub exchanged : ℕ

-- the list of cown c
abbrev pub list : List (List Request) → ℕ → List Request
list lists c = slice_index_or lists c []

-- whose requests these are
abbrev pub slots : List Request → List ℕ
slots requests = map (λ r. r.slot) requests

-- its cowns, and how many of its requests were exchanged
abbrev pub cowns_of : Option Place → List ℕ
cowns_of None = []
cowns_of (Some p) = p.cowns

-- how many of its requests were exchanged
abbrev pub exchanged_of : Option Place → ℕ
exchanged_of None = 0
exchanged_of (Some p) = p.exchanged

-- the cown of request i
abbrev pub cown : Option Place → ℕ → ℕ
cown p i = slice_index_or (cowns_of p) i 0

-- the list of the cown of request i
abbrev pub list_for : List (List Request) → Option Place → ℕ → List Request
list_for lists p i = list lists (cown p i)

-- the lists, once that one is changed
abbrev pub with_change : (List Request → List Request) → List (List Request) → Option Place → ℕ → List (List Request)
with_change change lists p i = slice_set lists (cown p i) (change (list lists (cown p i)))

-- a request of the slot is in the list
abbrev pub StandsIn : List Request → ℕ → Type 0
StandsIn requests slot = 0 < times slot (slots requests)

-- a request that was just exchanged
abbrev pub fresh : ℕ → Request
fresh slot = record { slot = slot; settled = false; flagged = false }

-- the list with a fresh request of the slot at its end
abbrev pub with_fresh : ℕ → List Request → List Request
with_fresh slot requests = requests ++ (fresh slot ∷ [])

-- the place with one more request exchanged
abbrev pub one_more : Option Place → Option Place
one_more None = None
one_more (Some p) = Some (record p { exchanged = p.exchanged + 1 })

-- the slot of a request
abbrev pub slot_of : Request → Slot
slot_of r = record { index = r.slot }

-- the slot at the end of a list
abbrev pub last_slot : List Request → Option Slot
last_slot requests = option_map slot_of (slice_get requests (length requests - 1))

-- the request right before a place
abbrev pub at_before : List Request → Option ℕ → Option Request
at_before requests None = None
at_before requests (Some k) = if nat_lt 0 k then slice_get requests (k - 1) else None

-- the request right before the slot's
abbrev pub before : ℕ → List Request → Option Request
before slot requests = at_before requests (position (λ r. r.slot == slot) requests)

-- the list with the slot's request settled, or flagged
abbrev pub settle_one : ℕ → Request → Request
settle_one slot r = record r { settled = r.settled || (r.slot == slot) }

-- the same of each request of a list
abbrev pub with_settled : ℕ → List Request → List Request
with_settled slot requests = map (settle_one slot) requests

-- the request flagged, where it is that of the slot
abbrev pub flag_one : ℕ → Request → Request
flag_one slot r = record r { flagged = r.flagged || (r.slot == slot) }

-- the same of each request of a list
abbrev pub with_flagged : ℕ → List Request → List Request
with_flagged slot requests = map (flag_one slot) requests

-- what settling answers where this one is before it: lone where none is, else linked once that one is flagged
abbrev pub answer_behind : Option Request → Settled
answer_behind None = Lone
answer_behind (Some r) = if r.flagged then Linked else SettleBlocked

-- the list after a settle behind such a request, or behind none
abbrev pub settled_behind : Option Request → ℕ → List Request → List Request
settled_behind None slot requests = with_settled slot requests
settled_behind (Some r) slot requests = if r.flagged then with_settled slot requests else requests

-- what settling the slot's request answers, and the list after it
abbrev pub settle_answer : ℕ → List Request → Settled
settle_answer slot requests = answer_behind (before slot requests)

-- the list after a settle of the slot
abbrev pub after_settle : ℕ → List Request → List Request
after_settle slot requests = settled_behind (before slot requests) slot requests

-- what the front's leaving answers, and the list after it
abbrev pub leave_answer : List Request → Released
leave_answer [] = Unhooked
leave_answer (r ∷ []) = Unhooked
leave_answer (r ∷ (next ∷ rest)) = if next.settled then Passed (record { index = next.slot }) else LeaveBlocked

-- the list after its front has left
abbrev pub after_leave : List Request → List Request
after_leave [] = []
after_leave (r ∷ []) = []
after_leave (r ∷ (next ∷ rest)) = if next.settled then next ∷ rest else r ∷ (next ∷ rest)

-- granted: settled and first
abbrev pub IsGranted : ℕ → List Request → Type 0
IsGranted slot [] = ⊥
IsGranted slot (r ∷ rest) = (r.slot ≡ slot) × (r.settled ≡ true)

-- The parts of links that are kept short, and changes of them.
use Rattle.std.specs.Prelude.{ℕ, Bool, true, false, Option, Some, None}
use Rattle.boc_chain.specs.declared.linked.Change.{Change}
use Rattle.boc_chain.specs.declared.linked.Change.TheVariants.{Settle, Schedule, Next, Lead}
use Rattle.boc_chain.specs.declared.linked.Link.{Link}
use Rattle.boc_chain.specs.declared.linked.Node.{Node}
use Rattle.boc_chain.specs.declared.short_link.Marks.{Marks}
use Rattle.boc_chain.specs.declared.short_link.Marks.TheVariants as marks
use Rattle.boc_chain.specs.declared.short_link.Sides.{Sides}
use Rattle.boc_chain.specs.declared.short_link.Sides.TheVariants as sides

-- the node of this slot and place, if there is one
abbrev pub node_if : Bool → ℕ → ℕ → Option Node
node_if true slot place = Some (record { slot = slot; place = place })
node_if false slot place = None

-- whether the request has settled
abbrev pub has_settled : Marks → Bool
has_settled marks.Neither = false
has_settled marks.Settled = true
has_settled marks.Scheduled = false
has_settled marks.Both = true

-- whether the request is scheduled
abbrev pub is_scheduled : Marks → Bool
is_scheduled marks.Neither = false
is_scheduled marks.Settled = false
is_scheduled marks.Scheduled = true
is_scheduled marks.Both = true

-- whether the request before it is known
abbrev pub has_before : Sides → Bool
has_before sides.Neither = false
has_before sides.Before = true
has_before sides.Next = false
has_before sides.Both = true

-- whether the request after it is known
abbrev pub has_next : Sides → Bool
has_next sides.Neither = false
has_next sides.Before = false
has_next sides.Next = true
has_next sides.Both = true

-- a link with one part of it changed
abbrev pub changed : Change → Link → Link
changed Settle link = record link { settled = true }
changed Schedule link = record link { scheduled = true }
changed (Next node) link = record link { next = Some node }
changed Lead link = record link { before = None }

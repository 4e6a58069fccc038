use Rattle.std.proofs.Common.{◌≡◌, take}
use Rattle.boc_end_orders.proofs.recording.put_all.Given as goal

-- the events so far
abbrev pub invariant-loop-place : goal.invariant-loop-place
invariant-loop-place l = record { cowns : l.rules.cowns ≡ l.cowns; events : l.rules.events ≡ take l.place l.events }

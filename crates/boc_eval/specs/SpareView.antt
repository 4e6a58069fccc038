-- How the room of a body that has ended is seen.
use Rattle.std.specs.Prelude.{◌≡◌, ℕ, Option, Some, Box, vec_capacity}
use Rattle.std.specs.Option.{option_map}
use Rattle.std.specs.declared.alloc.Global.{Global}
use Rattle.boc_eval.specs.declared.frame.Spare.TheInside.{Inside}
use Rattle.boc_eval.specs.declared.frame.Seat.{Seat}
use Rattle.boc_eval.specs.Seats.{HasRoom}

-- for how many registers it is, if there is any
abbrev pub room : Inside → Option ℕ
room s = option_map (λ seat. vec_capacity seat.value.registers) s.seat

-- in it there is room for the registers of any body
pub record IsReady (s : Inside) : Type 0 where
  pub registers : (seat : Box Seat Global) → s.seat ≡ Some seat → HasRoom seat.value

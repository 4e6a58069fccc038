-- The parts of bodies and of programs.
use Rattle.std.specs.Prelude.{◌≡◌, ℕ, ◌+◌, ◌≤◌, IsTrue, List, length}
use Rattle.boc_program.specs.declared.limits.TheConstants.{MOST_ARGUMENTS, MOST_BODIES, MOST_COWNS, MOST_HELD, MOST_NODES, MOST_SLOTS}
use Rattle.boc_program.specs.Syntax.{Code}
use Rattle.boc_program.specs.Resolved.{nodes, fits}
use Rattle.boc_program.specs.declared.body.Body.{Body}
use Rattle.boc_program.specs.declared.cown.Cown.{Cown}
use Rattle.boc_program.specs.Programs.{cown_count, have_members, program_fits, has_main}

-- they keep the limits, and each slot and cown parameter that the block names is there
pub record MakesBody (params cown_params slots : ℕ) (block : Code) : Type 0 where
  pub few_params : params ≤ MOST_ARGUMENTS
  pub few_cowns : cown_params ≤ MOST_HELD
  pub few_slots : slots ≤ MOST_SLOTS
  pub parameters_are_slots : params + cown_params ≤ slots
  pub few_nodes : nodes block ≤ MOST_NODES
  pub resolved : IsTrue (fits (record { slots = slots; cowns = cown_params }) block)

-- a body has these parts
pub record IsMadeOf (params cown_params slots : ℕ) (block : Code) (body : Body) : Type 0 where
  pub same_params : body.params ≡ params
  pub same_cowns : body.cown_params ≡ cown_params
  pub same_slots : body.slots ≡ slots
  pub same_block : body.block ≡ block

-- the parts of a program: they keep the limits, every array has a member, main takes nothing, and every `when` fits
pub record MakesProgram (cowns : List Cown) (bodies : List Body) : Type 0 where
  pub members : IsTrue (have_members cowns)
  pub few_cowns : cown_count cowns ≤ MOST_COWNS
  pub few_defs : length bodies ≤ MOST_BODIES
  pub main : IsTrue (has_main bodies)
  pub calls : IsTrue (program_fits cowns bodies)

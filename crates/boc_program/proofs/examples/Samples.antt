-- Bodies and programs of given parts, which a test shows to keep the limits.
use Rattle.std.proofs.Common.{ℕ, ◌+◌, List, length, IsTrue, lit≤}
use Rattle.std.proofs.Math.Dec.{T, leb}
use Rattle.boc_program.specs.declared.limits.TheConstants.{MOST_ARGUMENTS, MOST_BODIES, MOST_COWNS, MOST_HELD, MOST_NODES, MOST_SLOTS}
use Rattle.boc_program.specs.declared.body.Body.{Body}
use Rattle.boc_program.specs.declared.cown.Cown.{Cown}
use Rattle.boc_program.specs.declared.program.Program.{Program}
use Rattle.boc_program.specs.Syntax.{Code}
use Rattle.boc_program.specs.Resolved.{nodes, fits}
use Rattle.boc_program.specs.Programs.{cown_count, have_members, program_fits, has_main}

-- the limits of a body, each as a test
abbrev pub BodyTests : ℕ → ℕ → ℕ → Code → Type 0
BodyTests params cown_params slots block =
    T (leb params MOST_ARGUMENTS) × T (leb cown_params MOST_HELD) × T (leb slots MOST_SLOTS) × T (leb (params + cown_params) slots)
    × T (leb (nodes block) MOST_NODES) × IsTrue (fits (record { slots = slots; cowns = cown_params }) block)

abbrev pub body_of : (params cown_params slots : ℕ) (block : Code) → BodyTests params cown_params slots block → Body
body_of params cown_params slots block (few_params, few_cowns, few_slots, parameters_are_slots, few_nodes, resolved) = record {
  params = params;
  cown_params = cown_params;
  slots = slots;
  block = block;
  few_params = lit≤ few_params;
  few_cowns = lit≤ few_cowns;
  few_slots = lit≤ few_slots;
  parameters_are_slots = lit≤ parameters_are_slots;
  few_nodes = lit≤ few_nodes;
  resolved = resolved;
}

-- the limits of a program, each as a test
abbrev pub ProgramTests : List Cown → List Body → Type 0
ProgramTests cowns bodies =
    IsTrue (have_members cowns) × T (leb (cown_count cowns) MOST_COWNS) × T (leb (length bodies) MOST_BODIES) × IsTrue (has_main bodies)
    × IsTrue (program_fits cowns bodies)

abbrev pub program_of : (cowns : List Cown) (bodies : List Body) → ProgramTests cowns bodies → Program
program_of cowns bodies (members, few_cowns, few_defs, main, calls) = record {
  cowns = cowns;
  bodies = bodies;
  members = members;
  few_cowns = lit≤ few_cowns;
  few_defs = lit≤ few_defs;
  main = main;
  calls = calls;
}

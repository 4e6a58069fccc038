-- A program that adds to a cown and moves a part of it to another.
use Rattle.std.proofs.Common.{List, [], ◌∷◌, None, refl, codes, pos}
use Rattle.boc_program.specs.declared.body.Operator.TheVariants as operators
use Rattle.boc_program.specs.declared.body.Body.{Body}
use Rattle.boc_program.specs.declared.cown.Cown.{Cown}
use Rattle.boc_program.specs.declared.program.Program.{Program}
use Rattle.boc_program.specs.Syntax as resolved
use Rattle.boc_program.proofs.examples.Samples.{body_of, program_of}

abbrev pub cowns : List Cown
cowns = (record { name = codes "a"; size = None; initial = pos 10 }) ∷ (record { name = codes "b"; size = None; initial = pos 0 }) ∷ []

abbrev pub main_body : Body
main_body = body_of 0 0 0
    (resolved.When 1 (resolved.Number (pos 5) ∷ []) (resolved.Single 0 ∷ [])
    (resolved.When 2 (resolved.Number (pos 3) ∷ []) (resolved.Single 0 ∷ resolved.Single 1 ∷ [])
    (resolved.When 1 (resolved.Number (pos 1) ∷ []) (resolved.Single 1 ∷ []) resolved.Done)))
    (tt, tt, tt, tt, tt, refl)

abbrev pub add_body : Body
add_body = body_of 1 1 2 (resolved.Assign 1 (resolved.Binary operators.Add (resolved.Slot 1) (resolved.Slot 0)) resolved.Done) (tt, tt, tt, tt, tt, refl)

abbrev pub move_body : Body
move_body = body_of 1 2 3
    (resolved.Assign 1 (resolved.Binary operators.Subtract (resolved.Slot 1) (resolved.Slot 0))
    (resolved.Assign 2 (resolved.Binary operators.Add (resolved.Slot 2) (resolved.Slot 0)) resolved.Done))
    (tt, tt, tt, tt, tt, refl)

abbrev pub program : Program
program = program_of cowns (main_body ∷ add_body ∷ move_body ∷ []) (refl, tt, tt, refl, refl)

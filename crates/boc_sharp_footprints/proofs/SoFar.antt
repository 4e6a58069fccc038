-- Sets of values and of kinds that are closed, as far as the test has come.
use Rattle.std.proofs.Common.{◌≡◌, ℕ, ◌<◌, List, Bool, Some}
use Rattle.std.specs.Prelude.{slice_get}
use Rattle.boc_program.specs.declared.body.Body.{Body}
use Rattle.boc_program.specs.declared.program.Program.{Program}
use Rattle.boc_sharp_footprints.specs.Tables.{Sharp, ByValue, IsClosedAt, IsClosedKind}

-- the sets of the values below this one are closed
abbrev pub ClosedBelow : Sharp → Body → ByValue → ℕ → Type 0
ClosedBelow table body kind n = (value : ℕ) (set : List Bool) → value < n → slice_get kind.sets value ≡ Some set → IsClosedAt table body kind.place value set

-- the sets of the kinds below this one are closed
abbrev pub KindsClosedBelow : Program → Sharp → ℕ → Type 0
KindsClosedBelow p table n = (kind : ℕ) (one : ByValue) (body : Body) → kind < n → slice_get table.by_value kind ≡ Some one
    → slice_get p.bodies kind ≡ Some body → IsClosedKind table body one

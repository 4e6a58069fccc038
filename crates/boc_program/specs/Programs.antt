-- A program whose arrays have members, and whose calls fit.
use Rattle.std.specs.Prelude.{ℕ, ◌+◌, nat_eq, nat_lt, ◌&&◌, false, Bool, List, [], ◌∷◌, map, ℤ, replicate, ◌++◌}
use Rattle.boc_program.specs.declared.cown.Cown.{Cown}
use Rattle.boc_program.specs.declared.body.Body.{Body}
use Rattle.boc_program.specs.Signatures.{signature_of, calls_fit}
use Rattle.boc_program.specs.Resolved.{every}
pub use Rattle.boc_program.specs.Sizes.{members}

-- the cowns' values at the start, the members of an array one after the other
abbrev pub initial_values : List Cown → List ℤ
initial_values [] = []
initial_values (c ∷ cs) = replicate (members c.size) c.initial ++ initial_values cs

-- how many cowns the declarations make
abbrev pub cown_count : List Cown → ℕ
cown_count [] = 0
cown_count (c ∷ cs) = members c.size + cown_count cs

-- every array has a member
abbrev pub have_members : List Cown → Bool
have_members cowns = every (map (λ c. nat_lt 0 (members c.size)) cowns)

-- every call of every body fits
abbrev pub program_fits : List Cown → List Body → Bool
program_fits cowns bodies = every (map (calls_fit (map signature_of bodies) (cown_count cowns)) bodies)

-- there is a main body, which takes nothing
abbrev pub has_main : List Body → Bool
has_main [] = false
has_main (main ∷ defs) = nat_eq main.params 0 && nat_eq main.cown_params 0

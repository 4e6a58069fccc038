use Rattle.std.proofs.Common.{◌≡◌, List, map, refl}
use Rattle.boc_reader.specs.Placed.{token_of}
use Rattle.boc_reader.specs.declared.expected.Expected.{Expected}
use Rattle.boc_explain_program.specs.Allowed.{AreAllowed, allowed_of, every_token}
use Rattle.boc_explain_program.specs.declared.allowed.Candidate.{Candidate}
use Rattle.boc_explain_program.proofs.allowed.Allowed.of.Goals as goal

of_all : (allowed cs : List Candidate) (e : Expected) → allowed ≡ allowed_of e cs → map (λ c. token_of c.0) cs ≡ every_token → AreAllowed allowed e
of_all allowed cs e are every = record { candidates = cs; every = every; are = are }

pub returns-clause-tokens : goal.returns-clause-tokens
returns-clause-tokens c = of_all c.in_ok-allowed_of.field-0.items _ c.args.expected.now c.in_ok-allowed_of.ensures refl

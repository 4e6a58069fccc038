-- A statement and what follows it.
use Rattle.std.proofs.Common.{◌≡◌, refl, false, true, Bool, map}
use Rattle.std.specs.Prelude.{◌||◌}
use Rattle.boc_program.specs.declared.body.Stmt.{Stmt}
use Rattle.boc_program.specs.declared.body.Stmt.TheVariants as stmt
use Rattle.boc_program.specs.Syntax.{Code, Done}
use Rattle.boc_program.specs.Signatures.{Test}
use Rattle.boc_program.specs.memory.View.{before, slot_expr_of, cown_ref_of}
use Rattle.boc_footprints.specs.Whens.{some_when}

or_swap : (x r : Bool) → (x || r) ≡ ((x || false) || r)
or_swap true r = refl
or_swap false r = refl

or_pair_swap : (a b r : Bool) → ((a || b) || r) ≡ (((a || b) || false) || r)
or_pair_swap a b r = or_swap (a || b) r

pub some_before : (test : Test) (s : Stmt) (rest : Code) → some_when test (before s rest) ≡ (some_when test (before s Done) || some_when test rest)
some_before test (stmt.Assign slot e) rest = refl
some_before test (stmt.Work e) rest = refl
some_before test (stmt.If e a b) rest = or_pair_swap (some_when test a) (some_when test b) (some_when test rest)
some_before test (stmt.Repeat e a) rest = or_swap (some_when test a) (some_when test rest)
some_before test (stmt.When kind args refs) rest = or_swap (test kind (map slot_expr_of args.items) (map cown_ref_of refs.items)) (some_when test rest)

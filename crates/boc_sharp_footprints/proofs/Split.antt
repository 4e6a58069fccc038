-- A statement and what follows it.
use Rattle.std.proofs.Common.{◌≡◌, ◌+◌, ◌≤◌, refl, false, true, Bool, map}
use Rattle.std.specs.Prelude.{◌||◌, ◌&&◌}
use Rattle.boc_program.specs.declared.body.Stmt.{Stmt}
use Rattle.boc_program.specs.declared.body.Stmt.TheVariants as stmt
use Rattle.boc_program.specs.Syntax.{Code, Done, code_size}
use Rattle.boc_program.proofs.Followed as followed
use Rattle.boc_program.specs.memory.View.{before, slot_expr_of, cown_ref_of}
use Rattle.boc_sharp_footprints.specs.Known.{Known, known, may_hold, may_fail}
use Rattle.boc_sharp_footprints.specs.Followed.{KnownTest, forget, after, past, some_when}

pub forget_one : (s : Stmt) (rest : Code) (a : Known) → forget (before s rest) a ≡ forget rest (forget (before s Done) a)
forget_one (stmt.Assign slot e) rest a = refl
forget_one (stmt.Work e) rest a = refl
forget_one (stmt.If e b c) rest a = refl
forget_one (stmt.Repeat e b) rest a = refl
forget_one (stmt.When kind args refs) rest a = refl

pub then_size : (s : Stmt) (rest : Code) → code_size (before s rest) ≡ code_size (before s Done) + code_size rest
then_size s rest = followed.then_size s rest

pub then_positive : (s : Stmt) → 1 ≤ code_size (before s Done)
then_positive s = followed.then_positive s

pub after_one : (s : Stmt) (rest : Code) (a : Known) → after (before s rest) a ≡ after rest (after (before s Done) a)
after_one (stmt.Assign slot e) rest a = refl
after_one (stmt.Work e) rest a = refl
after_one (stmt.If e b c) rest a = refl
after_one (stmt.Repeat e b) rest a = refl
after_one (stmt.When kind args refs) rest a = refl

swap : (x r : Bool) → (x || r) ≡ ((x || false) || r)
swap true r = refl
swap false r = refl

pub some_one : (test : KnownTest) (s : Stmt) (rest : Code) (a : Known)
    → some_when test (before s rest) a ≡ (some_when test (before s Done) a || some_when test rest (after (before s Done) a))
some_one test (stmt.Assign slot e) rest a = refl
some_one test (stmt.Work e) rest a = refl
some_one test (stmt.If e b c) rest a =
    swap ((may_hold (known (slot_expr_of e) a) && some_when test b a)
    || (may_fail (known (slot_expr_of e) a) && some_when test c (past (may_hold (known (slot_expr_of e) a)) b a)))
    (some_when test rest (past (may_fail (known (slot_expr_of e) a)) c (past (may_hold (known (slot_expr_of e) a)) b a)))
some_one test (stmt.Repeat e b) rest a = swap (some_when test b (forget b a)) (some_when test rest (past true b (forget b a)))
some_one test (stmt.When kind args refs) rest a = swap (test kind (map slot_expr_of args.items) (map cown_ref_of refs.items) a) (some_when test rest a)

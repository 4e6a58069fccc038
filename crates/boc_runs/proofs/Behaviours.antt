-- The body that a behaviour names, and how many values there are.
use Rattle.std.proofs.Common.{◌≡◌, ℕ, zero, suc, List, [], ◌∷◌, map, length, refl, sym, ap, ◌∙◌, arith, IsTrue, ℤ, Some, Bool, length-set, length-append}
use Rattle.std.specs.Prelude.{slice_get, slice_set, replicate, nat_eq}
use Rattle.std.proofs.lemmas.List.{length-replicate}
use Rattle.std.proofs.lemmas.Bool.Decides.{nat_tests}
use Rattle.boc_program.specs.declared.cown.Cown.{Cown}
use Rattle.boc_program.specs.declared.body.Body.{Body}
use Rattle.boc_program.specs.Meaning.{cowns_held}
use Rattle.boc_program.specs.Programs.{cown_count, initial_values, members, has_main}
use Rattle.boc_program.specs.Resolved.{every}
use Rattle.boc_program.specs.Signatures.{signature_of, CountsAre}
use Rattle.boc_runs.specs.Serial.{inputs_of, after_outputs}
use Rattle.boc_program.proofs.Truth.{and_true}

-- the body that a kind names, with its counts and its calls
pub record Named (bodies : List Body) (test : Body → Bool) (kind args cowns : ℕ) : Type 0 where
  pub body : Body
  pub is : slice_get bodies kind ≡ Some body
  pub few_args : args ≡ body.params
  pub few_cowns : cowns ≡ body.cown_params
  pub passes : IsTrue (test body)

pub named : (bodies : List Body) (test : Body → Bool) (kind args cowns : ℕ) → CountsAre (slice_get (map signature_of bodies) kind) args cowns
    → IsTrue (every (map test bodies)) → Named bodies test kind args cowns
named [] test zero args cowns c t = absurd c
named [] test (suc n) args cowns c t = absurd c
named (b ∷ bodies) test zero args cowns c t =
    record { body = b; is = refl; few_args = c.0; few_cowns = c.1; passes = (and_true (test b) (every (map test bodies)) t).0 }
named (b ∷ bodies) test (suc n) args cowns c t =
    let r = named bodies test n args cowns c (and_true (test b) (every (map test bodies)) t).1 in
    record { body = r.body; is = r.is; few_args = r.few_args; few_cowns = r.few_cowns; passes = r.passes }

-- the cowns of inputs are those that they were made of
pub cowns_of_inputs : (cs : List ℕ) (values : List ℤ) → cowns_held (inputs_of cs values) ≡ cs
cowns_of_inputs [] values = refl
cowns_of_inputs (c ∷ cs) values = ap (λ ds. c ∷ ds) (cowns_of_inputs cs values)

-- there are as many values after outputs are written
pub length-after_outputs : (values : List ℤ) (cs : List ℕ) (vs : List ℤ) → length (after_outputs values cs vs) ≡ length values
length-after_outputs values [] vs = refl
length-after_outputs values (c ∷ cs) [] = refl
length-after_outputs values (c ∷ cs) (v ∷ vs) = length-after_outputs (slice_set values c v) cs vs ∙ simp length-set

-- there are as many values at the start as cowns
pub initial-length : (cs : List Cown) → length (initial_values cs) ≡ cown_count cs
initial-length [] = refl
initial-length (c ∷ cs) =
    omega (arith, length-append (replicate (members c.size) c.initial) (initial_values cs), length-replicate (members c.size) c.initial, initial-length cs)

-- main takes nothing
pub main_fits : (bodies : List Body) → IsTrue (has_main bodies) → CountsAre (slice_get (map signature_of bodies) 0) 0 0
main_fits [] h = absurd cc
main_fits (main ∷ defs) h =
    let both = and_true (nat_eq main.params 0) (nat_eq main.cown_params 0) h in
    (sym (grind (arith, nat_tests, both.0)), sym (grind (arith, nat_tests, both.1)))

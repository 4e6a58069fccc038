-- A `when` that passes a test, of those that all pass another.
use Rattle.std.proofs.Common.{◌≡◌, ℕ, zero, suc, ◌+◌, ◌<◌, ◌≤◌, inl, inr, refl, List, [], ◌∷◌, length, map, subst, arith, IsTrue, Bool, Option, Some, None}
use Rattle.std.specs.Prelude.{◌&&◌, ◌||◌, slice_get, nat_eq, nat_lt, nat_le, ◌-◌}
use Rattle.std.specs.List.{list_any}
use Rattle.std.proofs.lemmas.List.{length-map}
use Rattle.std.proofs.lemmas.Option.{slice_get_within}
use Rattle.std.proofs.lemmas.Bool.Decides.{nat_tests}
use Rattle.boc_program.specs.declared.body.Body.{Body}
use Rattle.boc_program.specs.declared.program.Program.{Program}
use Rattle.boc_program.specs.Syntax.{SlotExpr, CownRef, Held, Single, Member, Code, Done, Assign, Work, If, Repeat, When}
use Rattle.boc_program.specs.Programs.{cown_count}
use Rattle.boc_program.specs.Resolved.{every}
use Rattle.boc_program.specs.Signatures.{Test, Signature, whens_pass, signature_of, ref_below, counts_fit, call_fits, calls_fit}
use Rattle.boc_program.proofs.Truth.{and_true}
use Rattle.boc_footprints.specs.Whens.{some_when, may_be, may_name, names, spawns}
use Rattle.boc_footprints.proofs.Truths.{or_true}

-- a `when` that passes both tests
record Passing (test other : Test) : Type 0 where
  kind : ℕ
  args : List SlotExpr
  refs : List CownRef
  passes : IsTrue (test kind args refs)
  passes_too : IsTrue (other kind args refs)

passing : (test all : Test) (c : Code) → IsTrue (some_when test c) → IsTrue (whens_pass all c) → Passing test all
passing test all Done h t = absurd cc
passing test all (Assign slot e rest) h t = passing test all rest h t
passing test all (Work e rest) h t = passing test all rest h t
passing test all (If e block other rest) h t =
    let both = and_true (whens_pass all block && whens_pass all other) (whens_pass all rest) t in
    let blocks = and_true (whens_pass all block) (whens_pass all other) both.0 in
    elim (or_true (some_when test block || some_when test other) (some_when test rest) h) [
      | inl inside ↦ elim (or_true (some_when test block) (some_when test other) inside) [
        | inl here ↦ passing test all block here blocks.0
        | inr there ↦ passing test all other there blocks.1
      ]
      | inr later ↦ passing test all rest later both.1
    ]
passing test all (Repeat e block rest) h t =
    let both = and_true (whens_pass all block) (whens_pass all rest) t in
    elim (or_true (some_when test block) (some_when test rest) h) [
      | inl inside ↦ passing test all block inside both.0
      | inr later ↦ passing test all rest later both.1
    ]
passing test all (When kind args refs rest) h t =
    let both = and_true (all kind args refs) (whens_pass all rest) t in
    elim (or_true (test kind args refs) (some_when test rest) h) [
      | inl here ↦ record { kind = kind; args = args; refs = refs; passes = here; passes_too = both.0 }
      | inr later ↦ passing test all rest later both.1
    ]

there_if : (o : Option Signature) (sigs : List Signature) (kind : ℕ) (args : List SlotExpr) (refs : List CownRef) → slice_get sigs kind ≡ o
    → IsTrue (counts_fit o args refs) → kind < length sigs
there_if None sigs kind args refs e t = absurd cc
there_if (Some sig) sigs kind args refs e t = slice_get_within sigs kind sig e

-- a kind that a `when` has is there
pub spawned_there : (sigs : List Signature) (n : ℕ) (body : Body) (other : ℕ) → IsTrue (calls_fit sigs n body) → IsTrue (spawns other body.block)
    → other < length sigs
spawned_there sigs n body other fits h =
    let w = passing (λ kind args refs. nat_eq kind other) (call_fits sigs body.cown_params n) body.block h fits in
    let named = and_true (nat_lt 0 w.kind) (counts_fit (slice_get sigs w.kind) w.args w.refs && every (map (ref_below body.cown_params n) w.refs)) w.passes_too in
    let both = and_true (counts_fit (slice_get sigs w.kind) w.args w.refs) (every (map (ref_below body.cown_params n) w.refs)) named.1 in
    let is : w.kind ≡ other = grind (arith, nat_tests, w.passes) in
    subst (λ k. k < length sigs) is (there_if (slice_get sigs w.kind) sigs w.kind w.args w.refs refl both.0)

-- a cown that a reference may be to is there
ref_there : (held n c : ℕ) (r : CownRef) → IsTrue (may_name c r) → IsTrue (ref_below held n r) → c < n
ref_there held n c (Held i) h t = absurd cc
ref_there held n c (Single other) h t = grind (arith, nat_tests)
ref_there held n c (Member first size index) h t =
    let all = and_true (nat_le first c && nat_lt (c - first) size) (may_be (c - first) index) h in
    let bounds = and_true (nat_le first c) (nat_lt (c - first) size) all.0 in
    let from : first ≤ c = grind (arith, nat_tests, bounds.0) in
    let to : c - first < size = grind (arith, nat_tests, bounds.1) in
    let end : first + size ≤ n = grind (arith, nat_tests) in
    omega arith

refs_there : (held n c : ℕ) (rs : List CownRef) → IsTrue (list_any (may_name c) rs) → IsTrue (every (map (ref_below held n) rs)) → c < n
refs_there held n c [] h t = absurd cc
refs_there held n c (r ∷ rs) h t =
    let both = and_true (ref_below held n r) (every (map (ref_below held n) rs)) t in
    elim (or_true (may_name c r) (list_any (may_name c) rs) h) [
      | inl here ↦ ref_there held n c r here both.0
      | inr later ↦ refs_there held n c rs later both.1
    ]

-- a cown that a `when` names is there
pub named_there : (sigs : List Signature) (n : ℕ) (body : Body) (c : ℕ) → IsTrue (calls_fit sigs n body) → IsTrue (names c body.block) → c < n
named_there sigs n body c fits h =
    let w = passing (λ kind args refs. list_any (may_name c) refs) (call_fits sigs body.cown_params n) body.block h fits in
    let named = and_true (nat_lt 0 w.kind) (counts_fit (slice_get sigs w.kind) w.args w.refs && every (map (ref_below body.cown_params n) w.refs)) w.passes_too in
    let both = and_true (counts_fit (slice_get sigs w.kind) w.args w.refs) (every (map (ref_below body.cown_params n) w.refs)) named.1 in
    refs_there body.cown_params n c w.refs w.passes both.1

every_at : (test : Body → Bool) (bodies : List Body) (kind : ℕ) (body : Body) → IsTrue (every (map test bodies)) → slice_get bodies kind ≡ Some body → IsTrue (test body)
every_at test [] kind body t e = absurd cc
every_at test (b ∷ bodies) zero body t e =
    let is : b ≡ body = (let f : Some b ≡ Some body = e in cc) in
    subst (λ x. IsTrue (test x)) is (and_true (test b) (every (map test bodies)) t).0
every_at test (b ∷ bodies) (suc kind) body t e = every_at test bodies kind body (and_true (test b) (every (map test bodies)) t).1 e

-- each body of a program calls what is there
pub body_fits : (p : Program) (kind : ℕ) (body : Body) → slice_get p.bodies kind ≡ Some body
    → IsTrue (calls_fit (map signature_of p.bodies) (cown_count p.cowns) body)
body_fits p kind body e = every_at (calls_fit (map signature_of p.bodies) (cown_count p.cowns)) p.bodies kind body p.calls e

pub kind_there : (p : Program) (kind other : ℕ) (body : Body) → slice_get p.bodies kind ≡ Some body → IsTrue (spawns other body.block)
    → other < length p.bodies
kind_there p kind other body e h =
    omega (arith, spawned_there (map signature_of p.bodies) (cown_count p.cowns) body other (body_fits p kind body e) h, length-map p.bodies signature_of)

pub cown_there : (p : Program) (kind c : ℕ) (body : Body) → slice_get p.bodies kind ≡ Some body → IsTrue (names c body.block) → c < 256
cown_there p kind c body e h =
    omega (arith, named_there (map signature_of p.bodies) (cown_count p.cowns) body c (body_fits p kind body e) h, p.few_cowns)

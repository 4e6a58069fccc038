-- What resolved names keep: the slots and cown parameters that are there, and the limits on nodes.
use Rattle.std.proofs.Common.{◌≡◌, ℕ, ◌+◌, ◌<◌, ◌≤◌, Bool, true, false, List, map, length, Option, Some, None, IsTrue, refl, arith}
use Rattle.std.specs.Prelude.{◌&&◌, nat_lt, nat_le, max, if◌then◌else◌}
use Rattle.std.specs.Option.{option_map, option_and_then}
use Rattle.std.proofs.lemmas.Bool.Decides.{nat_tests}
use Rattle.boc_program.specs.Syntax.{SlotExpr, CownRef, Code, Done, Assign, Work, If, Repeat, When}
use Rattle.boc_program.specs.Resolved.{every, expr_fits, ref_fits, fits, expr_nodes, ref_nodes, nodes, total}
use Rattle.boc_program.specs.Signatures.{Test, whens_pass}
use Rattle.boc_reader.specs.Names.{Left, deepest}

-- what an option was made from

pub record ThenMade {A B : Type 0} (f : A → Option B) (o : Option A) (b : B) : Type 0 where
  pub value : A
  pub is : o ≡ Some value
  pub gives : f value ≡ Some b

pub then_made : {A B : Type 0} (f : A → Option B) (o : Option A) (b : B) → option_and_then f o ≡ Some b → ThenMade f o b
then_made f None b h = absurd cc
then_made f (Some a) b h = record { value = a; is = refl; gives = h }

pub record MapMade {A B : Type 0} (f : A → B) (o : Option A) (b : B) : Type 0 where
  pub value : A
  pub is : o ≡ Some value
  pub gives : f value ≡ b

pub map_made : {A B : Type 0} (f : A → B) (o : Option A) (b : B) → option_map f o ≡ Some b → MapMade f o b
map_made f None b h = absurd cc
map_made f (Some a) b h = record { value = a; is = refl; gives = cc }

pub test_made : {B : Type 0} (t : Bool) (o : Option B) (b : B) → (if t then o else None) ≡ Some b → (t ≡ true) × (o ≡ Some b)
test_made true o b h = (refl, h)
test_made false o b h = absurd cc

-- tests

pub both : (a b : Bool) → IsTrue a → IsTrue b → IsTrue (a && b)
both true b h k = k
both false b h k = absurd cc

pub below : (a b : ℕ) → a < b → IsTrue (nat_lt a b)
below a b h = grind (arith, nat_tests)

pub at_most : (a b : ℕ) → a ≤ b → IsTrue (nat_le a b)
at_most a b h = grind (arith, nat_tests)

-- an expression names slots below k, and has at most j nodes
pub record ExprKeeps (k j : ℕ) (e : SlotExpr) : Type 0 where
  pub within : (n : ℕ) → k ≤ n → IsTrue (expr_fits n e)
  pub few : expr_nodes e ≤ j

abbrev pub left_nodes : Left → ℕ
left_nodes None = 0
left_nodes (Some l) = expr_nodes l.0 + 1

abbrev pub left_fits : ℕ → Left → Bool
left_fits n None = true
left_fits n (Some l) = expr_fits n l.0

-- several expressions name slots below k, are as many as l, and have at most j nodes
pub record ExprsKeep (k l j : ℕ) (es : List SlotExpr) : Type 0 where
  pub many : length es ≡ l
  pub within : (n : ℕ) → k ≤ n → IsTrue (every (map (expr_fits n) es))
  pub few : total (map expr_nodes es) ≤ j

pub record CownRefsKeep (held k l j : ℕ) (ps : List CownRef) : Type 0 where
  pub many : length ps ≡ l
  pub within : (n : ℕ) → k ≤ n → IsTrue (every (map (ref_fits (record { slots = n; cowns = held })) ps))
  pub few : total (map ref_nodes ps) ≤ j

-- Where k names are in scope and `held` cowns are held, code writes slots below any number of slots that is large enough, has at most m nodes, and each of its
-- calls passes the test.
pub record CodeKeeps (test : Test) (held k m : ℕ) (c : Code) : Type 0 where
  pub few : nodes c ≤ m
  pub deep : deepest 0 c ≤ k + m
  pub within : (n : ℕ) → k ≤ n → deepest 0 c ≤ n → IsTrue (fits (record { slots = n; cowns = held }) c)
  pub passes : IsTrue (whens_pass test c)

pub keeps_done : (test : Test) (held k : ℕ) → CodeKeeps test held k 0 Done
keeps_done test held k = record { few = omega arith; deep = omega arith; within = λ n a b. refl; passes = refl }

pub keeps_let : (test : Test) (held k j m : ℕ) (e : SlotExpr) (rest : Code) → ExprKeeps k j e → CodeKeeps test held (k + 1) m rest
    → CodeKeeps test held k (1 + j + m) (Assign k e rest)
keeps_let test held k j m e rest x r = record {
  few = omega arith;
  deep = omega arith;
  within = λ n a b. both _ _ (both _ _ (below k n (omega arith)) (x.within n a)) (r.within n (omega arith) (omega arith));
  passes = r.passes;
}

pub keeps_assign : (test : Test) (held k j m slot : ℕ) (e : SlotExpr) (rest : Code) → slot < k → ExprKeeps k j e → CodeKeeps test held k m rest
    → CodeKeeps test held k (1 + j + m) (Assign slot e rest)
keeps_assign test held k j m slot e rest h x r = record {
  few = omega arith;
  deep = omega arith;
  within = λ n a b. both _ _ (both _ _ (below slot n (omega arith)) (x.within n a)) (r.within n a (omega arith));
  passes = r.passes;
}

pub keeps_work : (test : Test) (held k j m : ℕ) (e : SlotExpr) (rest : Code) → ExprKeeps k j e → CodeKeeps test held k m rest
    → CodeKeeps test held k (1 + j + m) (Work e rest)
keeps_work test held k j m e rest x r = record {
  few = omega arith;
  deep = omega arith;
  within = λ n a b. both _ _ (x.within n a) (r.within n a b);
  passes = r.passes;
}

pub keeps_if : (test : Test) (held k j i o m : ℕ) (e : SlotExpr) (a b rest : Code) → ExprKeeps k j e → CodeKeeps test held k i a → CodeKeeps test held k o b
    → CodeKeeps test held k m rest → CodeKeeps test held k (1 + (j + (i + o)) + m) (If e a b rest)
keeps_if test held k j i o m e a b rest x p q r = record {
  few = omega arith;
  deep = omega arith;
  within = λ n g h. both _ _ (both _ _ (x.within n g) (both _ _ (p.within n g (omega arith)) (q.within n g (omega arith)))) (r.within n g (omega arith));
  passes = both _ _ (both _ _ p.passes q.passes) r.passes;
}

pub keeps_repeat : (test : Test) (held k j i m : ℕ) (e : SlotExpr) (a rest : Code) → ExprKeeps k j e → CodeKeeps test held k i a → CodeKeeps test held k m rest
    → CodeKeeps test held k (1 + (j + i) + m) (Repeat e a rest)
keeps_repeat test held k j i m e a rest x p r = record {
  few = omega arith;
  deep = omega arith;
  within = λ n g h. both _ _ (both _ _ (x.within n g) (p.within n g (omega arith))) (r.within n g (omega arith));
  passes = both _ _ p.passes r.passes;
}

pub keeps_when : (test : Test) (held k l l' j i m kind : ℕ) (es : List SlotExpr) (ps : List CownRef) (rest : Code) → l ≤ 8 → l' ≤ 8 → ExprsKeep k l j es
    → CownRefsKeep held k l' i ps → IsTrue (test kind es ps) → CodeKeeps test held k m rest → CodeKeeps test held k (1 + (j + i) + m) (When kind es ps rest)
keeps_when test held k l l' j i m kind es ps rest f g x p t r = record {
  few = omega arith;
  deep = omega arith;
  within = λ n a b. both _ _ (both _ _ (both _ _ (at_most (length es) 8 (omega arith)) (at_most (length ps) 8 (omega arith)))
      (both _ _ (x.within n a) (p.within n a))) (r.within n a b);
  passes = both _ _ t r.passes;
}

-- the deepest slot, and n at the least
pub deepest-max : (n : ℕ) (c : Code) → deepest n c ≡ max n (deepest 0 c)
deepest-max n Done = omega arith
deepest-max n (Assign slot e rest) = omega (arith, deepest-max n rest)
deepest-max n (Work e rest) = omega (arith, deepest-max n rest)
deepest-max n (If e a b rest) = omega (arith, deepest-max n a, deepest-max n b, deepest-max n rest)
deepest-max n (Repeat e a rest) = omega (arith, deepest-max n a, deepest-max n rest)
deepest-max n (When kind args refs rest) = omega (arith, deepest-max n rest)

-- Folds, item by item.
use Rattle.std.proofs.Common.{◌≡◌, inl, inr, ℕ, ◌<◌, ◌≤◌, max, Bool, true, false, List, length, take, ap, sym, ◌↔◌, IsTrue, arith}
use Rattle.std.specs.Prelude.{nat_eq, nat_lt}
use Rattle.std.specs.List.{Contains, fold, list_any}
use Rattle.std.proofs.lemmas.Bool.Decides.{nat_tests}
use Rattle.std.proofs.lemmas.List.{take_all}
use Rattle.boc_order.proofs.Found.{among_tells}
use Rattle.boc_turns.specs.declared.pace.Wait.{Wait}
use Rattle.boc_turns.specs.Pace.{later}

pub fold_all : {A B : Type 0} (f : B → A → B) (a : B) (xs : List A) (i : ℕ) → length xs ≤ i → fold f a (take i xs) ≡ fold f a xs
fold_all f a xs i h = ap (fold f a) (take_all i xs h)

pub later_takes : (tick start : ℕ) (wait : Wait) → wait.first ≤ tick → max start wait.late ≡ later tick start wait
later_takes tick start wait h = (let e : nat_lt tick wait.first ≡ false = grind (arith, nat_tests) in rw e)

pub later_skips : (tick start : ℕ) (wait : Wait) → tick < wait.first → start ≡ later tick start wait
later_skips tick start wait h = (let e : nat_lt tick wait.first ≡ true = grind (arith, nat_tests) in rw e)

-- a test that tells what a list has
pub same_test : (b : Bool) (c : ℕ) (xs : List ℕ) → IsTrue b ↔ Contains xs c → b ≡ list_any (nat_eq c) xs
same_test true c xs tells = elim (among_tells c xs) [ inl (e, has) ↦ sym e | inr (e, none) ↦ absurd (none (tells.0 cc)) ]
same_test false c xs tells = elim (among_tells c xs) [
  | inl (e, has) ↦ absurd (let t : false ≡ true = tells.1 has in cc)
  | inr (e, none) ↦ sym e
]

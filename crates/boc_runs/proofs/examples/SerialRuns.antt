-- Serial runs tried on programs: a countdown, and a program whose rows may come in two orders.
use Rattle.std.proofs.Common.{◌≡◌, List, [], ◌∷◌, None, refl, codes, pos, lit≤}
use Rattle.std.specs.Prelude.{map}
use Rattle.boc_program.specs.declared.body.Operator.TheVariants.{Add, Subtract, Multiply, Greater}
use Rattle.boc_program.specs.declared.body.Body.{Body}
use Rattle.boc_program.specs.declared.program.Program.{Program}
use Rattle.boc_program.specs.Syntax.{Number, Slot, Binary, Held, Single, Done, Assign, If, When}
use Rattle.boc_runs.specs.Serial.{serial_along}
use Rattle.boc_runs.specs.OwnOrder.{IsOwnOrder, EndsWith, HasTooMany}
use Rattle.boc_runs.proofs.OwnOrders.{ends_once, not_too_many}
use Rattle.boc_program.proofs.examples.Samples.{body_of, program_of}
use Rattle.boc_program.proofs.examples.Transfer.{main_body, add_body}

-- cown a = 0; def down(n; x) { x = x + n; if n > 0 { when down(n - 1; x); } } main { when down(2; a); }
abbrev countdown_main : Body
countdown_main = record main_body { block = When 1 (Number (pos 2) ∷ []) (Single 0 ∷ []) Done; few_nodes = lit≤ tt; resolved = refl }

abbrev down : Body
down = record add_body {
  block = Assign 1 (Binary Add (Slot 1) (Slot 0))
      (If (Binary Greater (Slot 0) (Number (pos 0))) (When 1 (Binary Subtract (Slot 0) (Number (pos 1)) ∷ []) (Held 0 ∷ []) Done) Done Done);
  few_nodes = lit≤ tt;
  resolved = refl;
}

abbrev countdown : Program
countdown = program_of ((record { name = codes "a"; size = None; initial = pos 0 }) ∷ []) (countdown_main ∷ down ∷ []) (refl, tt, tt, refl, refl)

-- each behaviour has the next as its child, three times
pub countdown_ends : EndsWith countdown (pos 3 ∷ [])
countdown_ends = record { done = 0 ∷ 0 ∷ 1 ∷ 2 ∷ []; own = refl; few = lit≤ tt; values_are = refl }

-- so it ends with no other values, and has not too many behaviours
pub with_no_other : EndsWith countdown (pos 4 ∷ []) → ⊥
with_no_other other = let same : pos 3 ∷ [] ≡ pos 4 ∷ [] = ends_once countdown (pos 3 ∷ []) (pos 4 ∷ []) countdown_ends other in cc

pub has_few : HasTooMany countdown → ⊥
has_few = not_too_many countdown (pos 3 ∷ []) countdown_ends

-- after main's turn its wish is due
pub one_is_due : IsOwnOrder countdown (0 ∷ []) (0 ∷ [])
one_is_due = refl

pub and_not_none : IsOwnOrder countdown (0 ∷ []) [] → ⊥
and_not_none own = cc

-- a row that isn't there yet is no parent
pub not_its_own_child : (due : List _) → IsOwnOrder countdown (0 ∷ 1 ∷ []) due → ⊥
not_its_own_child due own = cc

-- the cowns that each row wrote
pub wrote : map (λ row. row.means.written) (serial_along countdown (0 ∷ 0 ∷ 1 ∷ 2 ∷ [])).rows ≡ [] ∷ (0 ∷ []) ∷ (0 ∷ []) ∷ (0 ∷ []) ∷ []
wrote = refl

-- cown a = 0; cown b = 1; def inc(; x) { x = x + 1; } def tenfold(; x) { x = x * 10; } def first(; x) { when inc(; b); }
-- def second(;) { when tenfold(; b); } main { when first(; a); when second(;); }
abbrev two_wishes : Body
two_wishes = record main_body { block = When 3 [] (Single 0 ∷ []) (When 4 [] [] Done); few_nodes = lit≤ tt; resolved = refl }

abbrev inc : Body
inc = body_of 0 1 1 (Assign 0 (Binary Add (Slot 0) (Number (pos 1))) Done) (tt, tt, tt, tt, tt, refl)

abbrev tenfold : Body
tenfold = record inc { block = Assign 0 (Binary Multiply (Slot 0) (Number (pos 10))) Done; few_nodes = lit≤ tt; resolved = refl }

abbrev first : Body
first = record inc { block = When 1 [] (Single 1 ∷ []) Done; few_nodes = lit≤ tt; resolved = refl }

abbrev second : Body
second = record main_body { block = When 2 [] (Single 1 ∷ []) Done; few_nodes = lit≤ tt; resolved = refl }

abbrev two_orders : Program
two_orders = program_of
    ((record { name = codes "a"; size = None; initial = pos 0 }) ∷ (record { name = codes "b"; size = None; initial = pos 1 }) ∷ [])
    (two_wishes ∷ inc ∷ tenfold ∷ first ∷ second ∷ []) (refl, tt, tt, refl, refl)

-- in the program's own order the child of the first comes before that of the second
pub in_own_order : EndsWith two_orders (pos 0 ∷ pos 20 ∷ [])
in_own_order = record { done = 0 ∷ 0 ∷ 0 ∷ 1 ∷ 2 ∷ []; own = refl; few = lit≤ tt; values_are = refl }

-- along rows in another order the values are others
pub in_another_order : (serial_along two_orders (0 ∷ 0 ∷ 0 ∷ 2 ∷ 1 ∷ [])).values ≡ pos 0 ∷ pos 11 ∷ []
in_another_order = refl

pub which_is_not_its_own : (due : List _) → IsOwnOrder two_orders (0 ∷ 0 ∷ 0 ∷ 2 ∷ 1 ∷ []) due → ⊥
which_is_not_its_own due own = cc

-- Every slot and cown parameter that a body names is there.
use Rattle.std.specs.Prelude.{ℕ, ◌+◌, nat_lt, nat_le, Bool, true, ◌&&◌, List, [], ◌∷◌, map, length}
use Rattle.boc_program.specs.declared.limits.TheConstants.{MOST_ARGUMENTS, MOST_COWNS, MOST_HELD}
use Rattle.boc_program.specs.Syntax.{SlotExpr, Number, Slot, Negate, Binary, CownRef, Held, Single, Member, Code, Done, Assign, Work, If, Repeat, When}

-- how many slots there are, and how many cown parameters
pub record Scope : Type 0 where
  pub slots : ℕ
  pub cowns : ℕ

-- each slot of an expression is one of n
abbrev pub expr_fits : ℕ → SlotExpr → Bool
expr_fits n (Number z) = true
expr_fits n (Slot i) = nat_lt i n
expr_fits n (Negate e) = expr_fits n e
expr_fits n (Binary op a b) = expr_fits n a && expr_fits n b

-- each slot and cown parameter of a reference is there
abbrev pub ref_fits : Scope → CownRef → Bool
ref_fits scope (Held i) = nat_lt i scope.cowns
ref_fits scope (Single cown) = nat_lt cown MOST_COWNS
ref_fits scope (Member first size index) = nat_le (first + size) MOST_COWNS && expr_fits scope.slots index

-- all of these hold
abbrev pub every : List Bool → Bool
every [] = true
every (b ∷ bs) = b && every bs

-- each slot and cown parameter that statements name is there, and no call has more than eight arguments or cowns
abbrev pub fits : Scope → Code → Bool
fits scope Done = true
fits scope (Assign slot e rest) = (nat_lt slot scope.slots && expr_fits scope.slots e) && fits scope rest
fits scope (Work e rest) = expr_fits scope.slots e && fits scope rest
fits scope (If e block other rest) = (expr_fits scope.slots e && (fits scope block && fits scope other)) && fits scope rest
fits scope (Repeat e block rest) = (expr_fits scope.slots e && fits scope block) && fits scope rest
fits scope (When kind args refs rest) =
    ((nat_le (length args) MOST_ARGUMENTS && nat_le (length refs) MOST_HELD)
    && (every (map (expr_fits scope.slots) args) && every (map (ref_fits scope) refs)))
    && fits scope rest

-- the sum of these
abbrev pub total : List ℕ → ℕ
total [] = 0
total (n ∷ ns) = n + total ns

-- the nodes of a statement, which are at least one more than those of a block in it
abbrev pub expr_nodes : SlotExpr → ℕ
expr_nodes (Number z) = 1
expr_nodes (Slot i) = 1
expr_nodes (Negate e) = expr_nodes e + 1
expr_nodes (Binary op a b) = expr_nodes a + expr_nodes b + 1

-- the nodes of a reference
abbrev pub ref_nodes : CownRef → ℕ
ref_nodes (Held i) = 1
ref_nodes (Single cown) = 1
ref_nodes (Member first size index) = expr_nodes index + 1

-- the nodes of statements
abbrev pub nodes : Code → ℕ
nodes Done = 0
nodes (Assign slot e rest) = expr_nodes e + 1 + nodes rest
nodes (Work e rest) = expr_nodes e + 1 + nodes rest
nodes (If e block other rest) = expr_nodes e + nodes block + nodes other + 1 + nodes rest
nodes (Repeat e block rest) = expr_nodes e + nodes block + 1 + nodes rest
nodes (When kind args refs rest) = total (map expr_nodes args) + total (map ref_nodes refs) + 1 + nodes rest

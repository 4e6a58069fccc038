-- Every `when` names a def and gives it as many arguments and cowns as it takes, and names cowns that are there.
use Rattle.std.specs.Prelude.{◌≡◌, ℕ, ◌+◌, ◌<◌, nat_eq, nat_lt, nat_le, Bool, true, false, ◌&&◌, List, [], ◌∷◌, Option, Some, None, map, length, slice_get}
use Rattle.boc_program.specs.Syntax.{SlotExpr, CownRef, Held, Single, Member, Code, Done, Assign, Work, If, Repeat, When}
use Rattle.boc_program.specs.declared.body.Body.{Body}
use Rattle.boc_program.specs.Resolved.{every}
use Rattle.boc_program.specs.Meaning.{Wish}

-- a test of a kind, its arguments and its cowns
abbrev pub Test : Type 0
Test = ℕ → List SlotExpr → List CownRef → Bool

-- every `when` passes
abbrev pub whens_pass : Test → Code → Bool
whens_pass test Done = true
whens_pass test (Assign slot e rest) = whens_pass test rest
whens_pass test (Work e rest) = whens_pass test rest
whens_pass test (If e block other rest) = (whens_pass test block && whens_pass test other) && whens_pass test rest
whens_pass test (Repeat e block rest) = whens_pass test block && whens_pass test rest
whens_pass test (When kind args refs rest) = test kind args refs && whens_pass test rest

-- how many arguments and cowns a body takes
pub record Signature : Type 0 where
  pub args : ℕ
  pub cowns : ℕ

-- what a body takes
abbrev pub signature_of : Body → Signature
signature_of body = record { args = body.params; cowns = body.cown_params }

-- the cown is one of `cowns`, where `held` are held
abbrev pub ref_below : ℕ → ℕ → CownRef → Bool
ref_below held cowns (Held i) = nat_lt i held
ref_below held cowns (Single cown) = nat_lt cown cowns
ref_below held cowns (Member first size index) = nat_le (first + size) cowns

-- so many arguments and cowns are what the signature takes
abbrev pub counts_fit : Option Signature → List SlotExpr → List CownRef → Bool
counts_fit None args refs = false
counts_fit (Some sig) args refs = nat_eq (length args) sig.args && nat_eq (length refs) sig.cowns

-- a call names a def, which isn't main, gives it what it takes, and names cowns that are there
abbrev pub call_fits : List Signature → ℕ → ℕ → Test
call_fits sigs held cowns kind args refs =
    nat_lt 0 kind && (counts_fit (slice_get sigs kind) args refs && every (map (ref_below held cowns) refs))

-- every call of a body fits, where there are so many cowns
abbrev pub calls_fit : List Signature → ℕ → Body → Bool
calls_fit sigs cowns body = whens_pass (call_fits sigs body.cown_params cowns) body.block

-- every cown is below n
abbrev pub AllBelow : ℕ → List ℕ → Type 0
AllBelow n [] = Unit {0}
AllBelow n (c ∷ cs) = (c < n) × AllBelow n cs

-- the body that a wish names takes its arguments and its cowns, which are there
abbrev pub CountsAre : Option Signature → ℕ → ℕ → Type 0
CountsAre None args cowns = ⊥
CountsAre (Some sig) args cowns = (args ≡ sig.args) × (cowns ≡ sig.cowns)

-- a wish names a def, which isn't main, gives it what it takes, and names cowns that are there
pub record WishFits (sigs : List Signature) (cowns : ℕ) (w : Wish) : Type 0 where
  pub of_def : 0 < w.kind
  pub counts : CountsAre (slice_get sigs w.kind) (length w.args) (length w.cowns)
  pub below : AllBelow cowns w.cowns

-- every wish does
abbrev pub WishesFit : List Signature → ℕ → List Wish → Type 0
WishesFit sigs cowns [] = Unit {0}
WishesFit sigs cowns (w ∷ ws) = WishFits sigs cowns w × WishesFit sigs cowns ws

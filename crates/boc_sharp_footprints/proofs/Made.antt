-- Tables as they are made.
use Rattle.std.proofs.Common.{◌≡◌, ◌↔◌, ℕ, ℤ, sym, subst, List, [], Bool, IsTrue, Some, None}
use Rattle.std.specs.Prelude.{slice_get}
use Rattle.boc_program.specs.declared.program.Program.{Program}
use Rattle.boc_footprints.specs.Footprints.{IsFootprint, Reaches}
use Rattle.boc_footprints.specs.Tables.{reaches}
use Rattle.boc_sharp_footprints.specs.Tables.{Sharp, ByValue, IsClosed}
use Rattle.boc_sharp_footprints.specs.Footprints.{IsFootprintByArgs, ReachedBy}
use Rattle.boc_sharp_footprints.proofs.Footing.{closed_footprint, by_kind_too}

abbrev IsByKind : Program → List (List Bool) → Type 0
IsByKind p by_kind = IsFootprint p (λ kind cown. IsTrue (reaches by_kind kind cown))

pub closed_table : (p : Program) (table : Sharp) (by_kind : List (List Bool)) (b : Bool) → IsByKind p by_kind → table.by_kind ≡ by_kind
    → (IsTrue b → IsClosed p table) → IsTrue b → IsFootprintByArgs p (ReachedBy table)
closed_table p table by_kind b foot same closed h = closed_footprint p table (subst (λ ks. IsByKind p ks) (sym same) foot) (closed h)

nothing_there : (sets : List ByValue) (kind : ℕ) (one : ByValue) → sets ≡ [] → slice_get sets kind ≡ Some one → ⊥
nothing_there sets kind one none is = (let f : None ≡ Some one = subst (λ (xs : List ByValue). slice_get xs kind ≡ Some one) none is in cc)

pub table_without_sets : (p : Program) (table : Sharp) (by_kind : List (List Bool)) → IsByKind p by_kind → table.by_kind ≡ by_kind → table.by_value ≡ []
    → IsFootprintByArgs p (ReachedBy table)
table_without_sets p table by_kind foot same none =
    closed_footprint p table (subst (λ ks. IsByKind p ks) (sym same) foot) (λ kind one body is body_is. absurd (nothing_there table.by_value kind one none is))

-- by a table no more is reached than by kinds
pub within : (p : Program) (table : Sharp) (by_kind : List (List Bool)) → ((kind cown : ℕ) → (IsTrue (reaches by_kind kind cown) ↔ Reaches p kind cown))
    → table.by_kind ≡ by_kind → (kind : ℕ) (args : List ℤ) (cown : ℕ) → ReachedBy table kind args cown → Reaches p kind cown
within p table by_kind exact same kind args cown h =
    (exact kind cown).0 (subst (λ ks. IsTrue (reaches ks kind cown)) same (by_kind_too table kind args cown h))

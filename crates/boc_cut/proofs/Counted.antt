-- How many calls of a source failed, from call to call.
use Rattle.std.proofs.Common.{◌≡◌, ℕ, ◌+◌, ◌∙◌, subst, sym, refl, ap}
use Rattle.std.specs.Prelude.{Result, Ok, Err, IfErr}
use Rattle.boc_stream.specs.declared.fault.StreamFaultKind.{StreamFaultKind}
use Rattle.boc_stream.specs.declared.fault.StreamFaultKind.TheVariants as kinds
use Rattle.boc_cut.specs.Counting.{CountsKind, CountsPart, SparesSource}

-- each kind other than a failure of the source
pub spares : (kind : StreamFaultKind) → (kind ≡ kinds.Device → ⊥) → SparesSource kind
spares kinds.Device never n = absurd (never refl)
spares _ never n = refl

-- a kind that spares the source, where no call failed
pub spared : (kind : StreamFaultKind) (old new : ℕ) → SparesSource kind → new ≡ old → CountsKind kind old new
spared kind old new spares_it e = subst (λ (n : ℕ). CountsKind kind old n) (sym e) (spares_it old)

-- an answer of a call that does not read
pub spared_part : {A : Type 0} (r : Result A StreamFaultKind) (old new : ℕ) → IfErr r SparesSource → new ≡ old → CountsPart r old new
spared_part (Ok done) old new spares_it e = e
spared_part (Err kind) old new spares_it e = spared kind old new spares_it e

-- the count from a call before which none failed
pub from_here : (kind : StreamFaultKind) (old mid new : ℕ) → CountsKind kind mid new → mid ≡ old → CountsKind kind old new
from_here kind old mid new counts e = subst (λ (n : ℕ). CountsKind kind n new) e counts

pub part_from_here : {A : Type 0} (r : Result A StreamFaultKind) (old mid new : ℕ) → CountsPart r mid new → mid ≡ old → CountsPart r old new
part_from_here r old mid new counts e = subst (λ (n : ℕ). CountsPart r n new) e counts

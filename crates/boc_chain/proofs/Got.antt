-- What stands at a place of a list that was written or grew.
use Rattle.std.proofs.Common.{◌≡◌, ◌≢◌, ℕ, zero, suc, ◌<◌, List, [], ◌∷◌, ◌++◌, length, get_or, refl, sym, ◌∙◌, ap, arith}
use Rattle.std.specs.Prelude.{slice_get, Some}
use Rattle.boc_program.proofs.ChangedItems.{last_item}

pub got : {X : Type 0} (xs : List X) (i : ℕ) (d : X) → i < length xs → slice_get xs i ≡ Some (get_or xs i d)
got [] i d h = absurd (omega arith)
got (x ∷ xs) zero d h = refl
got (x ∷ xs) (suc i) d h = got xs i d (omega arith)

pub got_push : {X : Type 0} (xs : List X) (v : X) (k : ℕ) → k ≢ length xs → slice_get (xs ++ (v ∷ [])) k ≡ slice_get xs k
got_push [] v zero n = absurd (n refl)
got_push [] v (suc k) n = refl
got_push (x ∷ xs) v zero n = refl
got_push (x ∷ xs) v (suc k) n = got_push xs v k (λ e. n (ap (λ m. suc m) e))

-- the same, of a list that is one longer
pub at_end : {X : Type 0} (xs ys : List X) (v : X) (n : ℕ) → ys ≡ xs ++ (v ∷ []) → n ≡ length xs → slice_get ys n ≡ Some v
at_end xs ys v n e k = ap (λ zs. slice_get zs n) e ∙ ap (slice_get (xs ++ (v ∷ []))) k ∙ last_item xs v

pub before_end : {X : Type 0} (xs ys : List X) (v : X) (n s : ℕ) → ys ≡ xs ++ (v ∷ []) → n ≡ length xs → s ≢ n → slice_get ys s ≡ slice_get xs s
before_end xs ys v n s e k far = ap (λ zs. slice_get zs s) e ∙ got_push xs v s (λ f. far (f ∙ sym k))

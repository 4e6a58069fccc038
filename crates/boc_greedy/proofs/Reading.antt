-- Elements that were read.
use Rattle.std.proofs.Common.{◌≡◌, ℕ, ◌<◌, List, length, get_or, refl}
use Rattle.std.specs.Prelude.{slice_index}
use Rattle.std.proofs.lemmas.Option.{slice_get_read, get_or_from_slice_get}

-- an element that was read within a list
pub read_at : (xs : List ℕ) (i x : ℕ) → i < length xs → x ≡ get_or xs i x → slice_index xs i ≡ x
read_at xs i x h e = get_or_from_slice_get xs i x 0 (slice_get_read xs (length xs) i x refl h e)

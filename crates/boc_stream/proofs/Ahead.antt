-- Bytes that are taken in ahead, and what they begin with.
use Rattle.std.proofs.Common.{◌≡◌, ◌≢◌, ℕ, ◌+◌, ◌-◌, ◌≤◌, ◌<◌, List, ◌++◌, length, take, drop, Option, Some, None, arith, ap, sym, ◌∙◌, subst, append_assoc}
use Rattle.std.proofs.Common.{eq-eqb, length-take}
use Rattle.std.proofs.Math.Nat.{sub-zero}
use Rattle.std.proofs.lemmas.List.{drop-drop, drop-take}
use Rattle.std.proofs.lemmas.List.Elements.{All-from_get_or}
use Rattle.std.proofs.Math.Seq.{take-add, take-append_seam, drop-append_seam}
use Rattle.std.proofs.lemmas.List.{take-append-le, take_all}
use Rattle.std.specs.Prelude.{slice_range, min, IfSome}
use Rattle.std.specs.Io.KnownBytes.{prepend_known, Keeps, Consumes}
use Rattle.memchr.specs.Find.{Nowhere, Passes, is_byte}
use borrow.Rule.Slice.PartMut.{put_mid, post_of}
use Rattle.boc_stream.specs.LongLines.{LinesState, to_come, HasNoLineFeed, IsTooLong}

-- the bytes from a later start on are those from the start on, without the first of them
pub range-later : (buffer : List ℕ) (start end n : ℕ) → n ≤ end - start → slice_range buffer (start + n) end ≡ drop n (slice_range buffer start end)
range-later buffer start end n h =
    let split : end - start ≡ n + (end - (start + n)) = omega arith in
    sym (ap (λ k. drop n (take k (drop start buffer))) split ∙ drop-take n (end - (start + n)) (drop start buffer)
    ∙ ap (take (end - (start + n))) (drop-drop n start buffer))

pub range-length : (buffer : List ℕ) (start end : ℕ) → length (slice_range buffer start end) ≤ end - start
range-length buffer start end = omega (arith, length-take (end - start) (drop start buffer))

-- the front of a list whose first part is as long as that
take_behind : (front more rest : List ℕ) (k : ℕ) → k ≤ length more → take (length front + k) (front ++ (more ++ rest)) ≡ front ++ take k more
take_behind front more rest k h =
    take-add (length front) k (front ++ (more ++ rest))
    ∙ ap (λ l. l ++ take k (drop (length front) (front ++ (more ++ rest)))) (take-append_seam front (more ++ rest))
    ∙ ap (λ l. front ++ take k l) (drop-append_seam front (more ++ rest))
    ∙ ap (λ l. front ++ l) (take-append-le k more rest h)

-- the bytes that were given stand behind those that were held
prepend_known-more : (a b : Option (List ℕ)) (held given : List ℕ) → Consumes a b given → Keeps (prepend_known held a) (prepend_known (held ++ given) b)
prepend_known-more None b held given p = tt
prepend_known-more (Some x) None held given p = absurd p
prepend_known-more (Some x) (Some y) held given p = append_assoc held given y ∙ ap (λ l. held ++ l) (sym p)

-- bytes were moved to the front of a buffer, and a source gave some behind them
pub refilled : (a b : Option (List ℕ)) (held moved given : List ℕ) (len room count : ℕ) → take len moved ≡ held → len ≤ length moved → count ≤ length given
    → Consumes a b (take count given)
    → Keeps (prepend_known held a) (prepend_known (slice_range (put_mid len room moved given) 0 (len + count)) b)
refilled a b held moved given len room count e long few p =
    let size : length (take len moved) ≡ len = length-take len moved ∙ omega arith in
    let joined : take (len + count) (put_mid len room moved given) ≡ held ++ take count given =
    ap (λ k. take (k + count) (put_mid len room moved given)) (sym size) ∙ take_behind (take len moved) given (post_of len room moved) count few
    ∙ ap (λ l. l ++ take count given) e in
    subst (λ l. Keeps (prepend_known held a) (prepend_known l b)) (sym (ap (λ k. take k (put_mid len room moved given)) (sub-zero (len + count)) ∙ joined))
    (prepend_known-more a b held (take count given) p)

-- a search for a line feed that found none
pub none_found : (bytes : List ℕ) → Nowhere (Passes (is_byte 10) bytes) 0 (length bytes) → HasNoLineFeed bytes
none_found bytes h = All-from_get_or (λ b. b ≢ 10) bytes 0 (λ i lt e. h i (omega arith) lt (eq-eqb _ _ e))

-- nor is there one in the front of bytes, as far as it was searched
pub none_in_front : (bytes : List ℕ) (most : ℕ) → most ≡ min (length bytes) 4097 → Nowhere (Passes (is_byte 10) (take most bytes)) 0 (length (take most bytes))
    → 4096 < most
    → (4096 < length bytes) × HasNoLineFeed (take 4097 bytes)
none_in_front bytes most e h over = let same : most ≡ 4097 = omega arith in
    (omega arith, subst (λ k. HasNoLineFeed (take k bytes)) same (none_found (take most bytes) h))

-- or in all of few bytes
pub none_in_all : (bytes : List ℕ) (most : ℕ) → most ≡ min (length bytes) 4097 → Nowhere (Passes (is_byte 10) (take most bytes)) 0 (length (take most bytes))
    → most ≤ 4096
    → (length bytes ≤ 4096) × HasNoLineFeed bytes
none_in_all bytes most e h few = (omega arith, subst HasNoLineFeed (take_all most bytes (omega arith)) (none_found (take most bytes) h))

-- more bytes than a line may have stand in front of those that a source has
pub too_long : (bytes : List ℕ) (known rest : Option (List ℕ)) → 4096 < length bytes → HasNoLineFeed (take 4097 bytes) → Keeps known (prepend_known bytes rest)
    → IsTooLong known
too_long bytes known rest many unbroken kept = record {
  beginning = take 4097 bytes;
  many = length-take 4097 bytes ∙ omega arith;
  unbroken = unbroken;
  front = begins known rest kept;
} where
  begins : (known rest : Option (List ℕ)) → Keeps known (prepend_known bytes rest) → IfSome known (λ xs. take 4097 xs ≡ take 4097 bytes)
  begins None rest p = tt
  begins (Some xs) None p = absurd p
  begins (Some xs) (Some ys) p = ap (take 4097) (sym p) ∙ take-append-le 4097 bytes ys (omega arith)

-- bytes were taken in, and none given
pub record HasWaited (old new : LinesState) (source rest : Option (List ℕ)) (before after : ℕ) : Type 0 where
  pub bytes : Keeps (to_come old source) (to_come new rest)
  pub is_over : new.is_over ≡ old.is_over
  pub failures : after ≡ before

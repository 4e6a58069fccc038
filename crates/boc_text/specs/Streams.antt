-- What calls on sources and sinks do to their bytes and to their counts of failures.
use Rattle.std.specs.Prelude.{◌≡◌, ◌≢◌, ◌-◌, ℕ, ◌+◌, ◌≤◌, ◌<◌, List, length, take, Option, Result, Ok, Err, MatchResult}
use Rattle.std.specs.Io.KnownBytes.{Keeps, Appends, Consumes, IsAtEnd}
use Rattle.boc_text.specs.declared.whole.TextFault.{TextFault}
use Rattle.boc_text.specs.declared.whole.TextFault.TheVariants.{Memory, Device}

-- a call failed, and counted it, or did neither
abbrev pub CountsFailure : {A E : Type 0} → Result A E → ℕ → ℕ → Type 0
CountsFailure r old new = MatchResult r (λ _. new ≡ old) (λ _. new ≡ old + 1)

-- some of the bytes went out, at least one where there are any, or none
abbrev pub WritesSome : {E : Type 0} → Option (List ℕ) → Option (List ℕ) → Result ℕ E → List ℕ → Type 0
WritesSome old new r bytes =
    MatchResult r (λ n. (n ≤ length bytes) × (0 < length bytes → 0 < n) × Appends old new (take n bytes)) (λ _. Keeps old new)

-- all bytes were taken, or as many as the limit allows
pub record ReadsWhole (old new : Option (List ℕ)) (text : List ℕ) (limit : ℕ) : Type 0 where
  pub taken : Consumes old new text
  pub few : length text ≤ limit
  pub whole : length text < limit → IsAtEnd new

-- a failure was counted where the device failed, and there alone
abbrev pub CountsDevice : {A : Type 0} → Result A TextFault → ℕ → ℕ → Type 0
CountsDevice (Ok v) old new = new ≡ old
CountsDevice (Err Memory) old new = new ≡ old
CountsDevice (Err Device) old new = new ≡ old + 1

-- the first `gone` bytes went out, and not all of them
pub record StopsAt (gone : ℕ) (bytes : List ℕ) (old new : Option (List ℕ)) : Type 0 where
  pub short : gone < length bytes
  pub out : Appends old new (take gone bytes)

-- A call is counted: so many were left up to the one that is to fail, itself included. That one adds to the failures, and no other does.
pub record CountsCall (left after old new : ℕ) : Type 0 where
  pub counted : after ≡ left - 1
  pub fails : left ≡ 1 → new ≡ old + 1
  pub passes : left ≢ 1 → new ≡ old

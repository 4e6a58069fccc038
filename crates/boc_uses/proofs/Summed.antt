-- What is noted in the end is the uses in short.
use Rattle.std.proofs.Common.{◌≡◌, ℕ, zero, suc, ◌+◌, ◌-◌, ◌<◌, List, [], ◌∷◌, refl, sym, ap, ◌∙◌, Bool, true, false, Option, Some, None, arith}
use Rattle.std.specs.Prelude.{nat_eq, nat_lt, ◌||◌, if◌then◌else◌, replicate, slice_index_or, slice_set}
use Rattle.std.specs.List.{filter, list_any}
use Rattle.std.proofs.lemmas.Bool.Decides.{nat_tests}
use Rattle.boc_uses.specs.declared.uses.Use.{Use}
use Rattle.boc_uses.specs.Uses.{SlotUse, needs, last_tick, summary, of_slot, summaries}
use Rattle.boc_uses.specs.Noting.{after_use, noted, noted_all}

-- uses of one slot, noted one after another
abbrev summed : Option Use → List SlotUse → Option Use
summed m [] = m
summed m (u ∷ us) = summed (Some (after_use m u.tick (needs u.way))) us

or_false : (a : Bool) → (a || false) ≡ a
or_false true = refl
or_false false = refl

or_assoc : (a b c : Bool) → ((a || b) || c) ≡ (a || (b || c))
or_assoc true b c = refl
or_assoc false b c = refl

abbrev use_of : ℕ → ℕ → Bool → Option Use
use_of first last needed = Some (record { first = first; last = last; needed = needed })

summed_some : (first last : ℕ) (needed : Bool) (us : List SlotUse)
    → summed (use_of first last needed) us ≡ use_of first (last_tick last us) (needed || list_any (λ u. needs u.way) us)
summed_some first last needed [] = ap (use_of first last) (sym (or_false needed))
summed_some first last needed (u ∷ us) =
    summed_some first u.tick (needed || needs u.way) us
    ∙ ap (use_of first (last_tick u.tick us)) (or_assoc needed (needs u.way) (list_any (λ u. needs u.way) us))

summed_none : (us : List SlotUse) → summed None us ≡ summary us
summed_none [] = refl
summed_none (u ∷ us) = summed_some u.tick u.tick (needs u.way) us

-- each place with the uses of its slot, noted one after another
abbrev merged : ℕ → List (Option Use) → List SlotUse → List (Option Use)
merged slot [] us = []
merged slot (m ∷ ms) us = summed m (of_slot slot us) ∷ merged (slot + 1) ms us

noted_before : (slot : ℕ) (ms : List (Option Use)) (u : SlotUse) → u.slot < slot → noted slot ms u ≡ ms
noted_before slot ms u h =
    let t : nat_lt u.slot slot ≡ true = grind (arith, nat_tests) in
    ap (λ b. if b then ms else slice_set ms (u.slot - slot) (Some (after_use (slice_index_or ms (u.slot - slot) None) u.tick (needs u.way)))) t

noted_at : (slot : ℕ) (m : Option Use) (ms : List (Option Use)) (u : SlotUse) → u.slot ≡ slot
    → noted slot (m ∷ ms) u ≡ Some (after_use m u.tick (needs u.way)) ∷ ms
noted_at slot m ms u e =
    let t : nat_lt u.slot slot ≡ false = grind (arith, nat_tests) in
    let n : u.slot - slot ≡ 0 = omega arith in
    ap (λ b. if b then m ∷ ms else slice_set (m ∷ ms) (u.slot - slot) (Some (after_use (slice_index_or (m ∷ ms) (u.slot - slot) None) u.tick (needs u.way)))) t
    ∙ ap (λ k. slice_set (m ∷ ms) k (Some (after_use (slice_index_or (m ∷ ms) k None) u.tick (needs u.way)))) n

noted_behind : (slot : ℕ) (m : Option Use) (ms : List (Option Use)) (u : SlotUse) → slot < u.slot
    → noted slot (m ∷ ms) u ≡ m ∷ noted (slot + 1) ms u
noted_behind slot m ms u h =
    let t : nat_lt u.slot slot ≡ false = grind (arith, nat_tests) in
    let t1 : nat_lt u.slot (slot + 1) ≡ false = grind (arith, nat_tests) in
    let n : u.slot - slot ≡ suc (u.slot - (slot + 1)) = omega arith in
    ap (λ b. if b then m ∷ ms else slice_set (m ∷ ms) (u.slot - slot) (Some (after_use (slice_index_or (m ∷ ms) (u.slot - slot) None) u.tick (needs u.way)))) t
    ∙ ap (λ k. slice_set (m ∷ ms) k (Some (after_use (slice_index_or (m ∷ ms) k None) u.tick (needs u.way)))) n
    ∙ ap (λ b. m ∷ (if b then ms
    else slice_set ms (u.slot - (slot + 1)) (Some (after_use (slice_index_or ms (u.slot - (slot + 1)) None) u.tick (needs u.way))))) (sym t1)

data Order (a b : ℕ) : Type 0 where
  Less : a < b → Order a b
  Same : a ≡ b → Order a b
  More : b < a → Order a b

order_more : (a b : ℕ) → Order a b → Order (suc a) (suc b)
order_more a b (Less h) = Less (omega arith)
order_more a b (Same e) = Same (ap suc e)
order_more a b (More h) = More (omega arith)

order : (a b : ℕ) → Order a b
order zero zero = Same refl
order zero (suc b) = Less (omega arith)
order (suc a) zero = More (omega arith)
order (suc a) (suc b) = order_more a b (order a b)

other_slot : (slot : ℕ) (u : SlotUse) (us : List SlotUse) → nat_eq u.slot slot ≡ false → of_slot slot (u ∷ us) ≡ of_slot slot us
other_slot slot u us e = ap (λ b. if b then u ∷ of_slot slot us else of_slot slot us) e

same_slot : (slot : ℕ) (u : SlotUse) (us : List SlotUse) → nat_eq u.slot slot ≡ true → of_slot slot (u ∷ us) ≡ u ∷ of_slot slot us
same_slot slot u us e = ap (λ b. if b then u ∷ of_slot slot us else of_slot slot us) e

merged_step : (slot : ℕ) (m : Option Use) (ms : List (Option Use)) (u : SlotUse) (us : List SlotUse) → Order u.slot slot
    → merged (slot + 1) (noted (slot + 1) ms u) us ≡ merged (slot + 1) ms (u ∷ us)
    → merged slot (noted slot (m ∷ ms) u) us ≡ merged slot (m ∷ ms) (u ∷ us)
merged_step slot m ms u us (Less h) rest =
    let t : nat_eq u.slot slot ≡ false = grind (arith, nat_tests) in
    let n : u.slot < slot + 1 = omega arith in
    ap (λ ms. merged slot ms us) (noted_before slot (m ∷ ms) u h)
    ∙ ap (λ ms. summed m (of_slot slot us) ∷ merged (slot + 1) ms us) (sym (noted_before (slot + 1) ms u n))
    ∙ ap (λ r. summed m (of_slot slot us) ∷ r) rest
    ∙ ap (λ l. summed m l ∷ merged (slot + 1) ms (u ∷ us)) (sym (other_slot slot u us t))
merged_step slot m ms u us (Same e) rest =
    let t : nat_eq u.slot slot ≡ true = grind (arith, nat_tests) in
    let n : u.slot < slot + 1 = omega arith in
    ap (λ ms. merged slot ms us) (noted_at slot m ms u e)
    ∙ ap (λ ms. summed (Some (after_use m u.tick (needs u.way))) (of_slot slot us) ∷ merged (slot + 1) ms us) (sym (noted_before (slot + 1) ms u n))
    ∙ ap (λ r. summed (Some (after_use m u.tick (needs u.way))) (of_slot slot us) ∷ r) rest
    ∙ ap (λ l. summed m l ∷ merged (slot + 1) ms (u ∷ us)) (sym (same_slot slot u us t))
merged_step slot m ms u us (More h) rest =
    let t : nat_eq u.slot slot ≡ false = grind (arith, nat_tests) in
    ap (λ ms. merged slot ms us) (noted_behind slot m ms u h)
    ∙ ap (λ r. summed m (of_slot slot us) ∷ r) rest
    ∙ ap (λ l. summed m l ∷ merged (slot + 1) ms (u ∷ us)) (sym (other_slot slot u us t))

no_place : (b : Bool) (k : ℕ) (v : Option Use) → (if b then [] else slice_set [] k v) ≡ []
no_place true k v = refl
no_place false k v = refl

merged_noted : (slot : ℕ) (ms : List (Option Use)) (u : SlotUse) (us : List SlotUse) → merged slot (noted slot ms u) us ≡ merged slot ms (u ∷ us)
merged_noted slot [] u us =
    ap (λ ms. merged slot ms us)
    (no_place (nat_lt u.slot slot) (u.slot - slot) (Some (after_use (slice_index_or [] (u.slot - slot) None) u.tick (needs u.way))))
merged_noted slot (m ∷ ms) u us = merged_step slot m ms u us (order u.slot slot) (merged_noted (slot + 1) ms u us)

merged_nothing : (slot : ℕ) (ms : List (Option Use)) → merged slot ms [] ≡ ms
merged_nothing slot [] = refl
merged_nothing slot (m ∷ ms) = ap (λ r. m ∷ r) (merged_nothing (slot + 1) ms)

noted_merged : (slot : ℕ) (ms : List (Option Use)) (us : List SlotUse) → noted_all slot ms us ≡ merged slot ms us
noted_merged slot ms [] = sym (merged_nothing slot ms)
noted_merged slot ms (u ∷ us) = noted_merged slot (noted slot ms u) us ∙ merged_noted slot ms u us

merged_none : (slot n : ℕ) (us : List SlotUse) → merged slot (replicate n None) us ≡ summaries slot n us
merged_none slot zero us = refl
merged_none slot (suc n) us = λ i. summed_none (of_slot slot us) i ∷ merged_none (slot + 1) n us i

pub noted_none : (slot n : ℕ) (us : List SlotUse) → noted_all slot (replicate n None) us ≡ summaries slot n us
noted_none slot n us = noted_merged slot (replicate n None) us ∙ merged_none slot n us

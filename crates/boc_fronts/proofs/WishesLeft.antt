-- The wishes of rows that are no rows yet, with one row more.
use Rattle.std.proofs.Common.{◌≡◌, ◌≢◌, ℕ, zero, suc, ◌+◌, ◌<◌, List, [], ◌∷◌, ◌++◌, length, map, sym, ◌∙◌, ap, arith}
use Rattle.std.specs.Prelude.{slice_get, nat_eq, drop, Option, Some, None}
use Rattle.std.specs.Option.{option_map_or}
use Rattle.boc_program.specs.Meaning.{Wish}
use Rattle.boc_program.proofs.ChangedItems.{front_item, last_item}
use Rattle.boc_runs.specs.Serial.{Behaviour, behaviour_of, SerialRow, wish_of_row, children}
use Rattle.boc_machine_laws.proofs.Lists.{not_eq, same_numbers}
use Rattle.boc_machine_laws.proofs.Core.{one_if}
use Rattle.boc_fronts.proofs.AlongLogs.{children_more}
use Rattle.boc_fronts.specs.Orders.{others_of, HasWish}
use Rattle.boc_fronts.specs.Fronts.{wishes_left}
use Rattle.boc_fronts.proofs.Orderly.{others_are}

drop_first : (ws : List Wish) (k : ℕ) (w : Wish) → slice_get ws k ≡ Some w → drop k ws ≡ w ∷ drop (suc k) ws
drop_first [] k w e = absurd (let f : None ≡ Some w = e in cc)
drop_first (v ∷ ws) zero w e = (let f : Some v ≡ Some w = e in ap (λ z. z ∷ ws) (cc))
drop_first (v ∷ ws) (suc k) w e = drop_first ws k w e

first_of : (o : Option SerialRow) (k : ℕ) (w : Wish) → wish_of_row o k ≡ Some w
    → drop k (option_map_or (λ (x : SerialRow). x.means.wishes) o [])
    ≡ w ∷ drop (suc k) (option_map_or (λ (x : SerialRow). x.means.wishes) o [])
first_of None k w e = absurd (let f : None ≡ Some w = e in cc)
first_of (Some row) k w e = drop_first row.means.wishes k w e

module _ (rows : List SerialRow) (x : SerialRow) where
  abbrev more : List SerialRow
  more = rows ++ (x ∷ [])

  abbrev left_of : Option SerialRow → ℕ → List Behaviour
  left_of o k = map behaviour_of (drop k (option_map_or (λ (z : SerialRow). z.means.wishes) o []))

  pub children_now : (r : ℕ) → 0 < length rows
      → children r (others_of more) ≡ children r (others_of rows) + one_if (nat_eq x.parent r)
  children_now r some =
      ap (children r) (others_are more) ∙ children_more rows x r some
      ∙ ap (λ zs. children r zs + one_if (nat_eq x.parent r)) (sym (others_are rows))

  -- of a row that is not the parent they are the same
  pub left_other : (r : ℕ) → r < length rows → x.parent ≢ r → wishes_left more r ≡ wishes_left rows r
  left_other r low apart =
      let none : one_if (nat_eq x.parent r) ≡ 0 = ap one_if (not_eq x.parent r apart) in
      let same : children r (others_of more) ≡ children r (others_of rows) = omega (arith, children_now r (omega (arith, low)), none) in
      ap (λ k. left_of (slice_get more r) k) same ∙ ap (λ o. left_of o (children r (others_of rows))) (front_item rows x r low)

  -- of the parent the first one is gone
  pub left_parent : (r : ℕ) → r < length rows → x.parent ≡ r → (h : HasWish rows r)
      → wishes_left rows r ≡ behaviour_of h.wish ∷ wishes_left more r
  left_parent r low is h =
      let one : one_if (nat_eq x.parent r) ≡ 1 = ap one_if (same_numbers x.parent r is) in
      let next : children r (others_of more) ≡ suc (children r (others_of rows)) =
      omega (arith, children_now r (omega (arith, low)), one) in
      ap (map behaviour_of) (first_of (slice_get rows r) (children r (others_of rows)) h.wish h.next)
      ∙ ap (λ zs. behaviour_of h.wish ∷ zs) (sym (ap (λ k. left_of (slice_get more r) k) next
      ∙ ap (λ o. left_of o (suc (children r (others_of rows)))) (front_item rows x r low)))

  -- of the new row all are left
  pub left_new : children (length rows) (others_of more) ≡ 0 → wishes_left more (length rows) ≡ map behaviour_of x.means.wishes
  left_new none =
      ap (λ k. left_of (slice_get more (length rows)) k) none ∙ ap (λ o. left_of o 0) (last_item rows x)

-- Lists that lie one behind the other in a flat one.
use Rattle.std.proofs.Common.{◌≡◌, ℕ, zero, suc, ◌+◌, ◌-◌, ◌<◌, ◌≤◌, List, [], ◌∷◌, ◌++◌, length, take, drop, get_or, refl, sym, ap, add-one, arith}
use Rattle.std.specs.Prelude.{slice_index, slice_index_or}
use Rattle.std.proofs.lemmas.List.{take-append-le, drop-append-le, length-drop, length-append, take_all, get_or_read}
use Rattle.std.proofs.Math.Seq.{drop-append_seam}
use Rattle.boc_order.specs.Waits.{lists_from, lists_between, EndAt, AreBounds}

length-from : (begin : ℕ) (ends list : List ℕ) → length (lists_from begin ends list) ≡ length ends
length-from begin [] list = refl
length-from begin (x ∷ ends) list = ap suc (length-from x ends list)

pub length-between : (first list : List ℕ) → AreBounds first (length list) → length (lists_between first list) + 1 ≡ length first
length-between [] list p = absurd p
length-between (begin ∷ ends) list p = omega (arith, length-from begin ends list)

pub end_high : (begin : ℕ) (ends : List ℕ) (total : ℕ) → EndAt begin ends total → begin ≤ total
end_high begin [] total p = omega (arith, p)
end_high begin (x ∷ ends) total p = omega (arith, p.0, end_high x ends total p.1)

-- what is read of a row's list, which ends where the next one begins
pub record IsBetween (first list : List ℕ) (r next : ℕ) : Type 0 where
  pub rise : slice_index first r ≤ slice_index first next
  pub inside : slice_index first next ≤ length list
  pub is : slice_index_or (lists_between first list) r [] ≡ take (slice_index first next - slice_index first r) (drop (slice_index first r) list)

between_from : (begin : ℕ) (ends list : List ℕ) → EndAt begin ends (length list) → (r : ℕ) → r < length ends → IsBetween (begin ∷ ends) list r (suc r)
between_from begin [] list p r h = absurd (omega (arith, h))
between_from begin (x ∷ ends) list p zero h = record { rise = p.0; inside = end_high x ends (length list) p.1; is = refl }
between_from begin (x ∷ ends) list p (suc r) h = (let i = between_from x ends list p.1 r (omega (arith, h)) in
    record { rise = i.rise; inside = i.inside; is = i.is })

pub list_between : (first list : List ℕ) → AreBounds first (length list) → (r : ℕ) → r + 1 < length first → IsBetween first list r (r + 1)
list_between [] list p r h = absurd p
list_between (begin ∷ ends) list p r h = rw add-one (between_from begin ends list p r (omega (arith, h)))

-- the bounds, and the lists between them, once more was added and the next list closed
pub ends_more : (begin : ℕ) (ends : List ℕ) (total more : ℕ) → EndAt begin ends total → total ≤ more → EndAt begin (ends ++ more ∷ []) more
ends_more begin [] total more p h = (omega (arith, p, h), refl)
ends_more begin (x ∷ ends) total more p h = (p.0, ends_more x ends total more p.1 h)

pub bounds_more : (first : List ℕ) (total more : ℕ) → AreBounds first total → total ≤ more → AreBounds (first ++ more ∷ []) more
bounds_more [] total more p h = absurd p
bounds_more (begin ∷ ends) total more p h = ends_more begin ends total more p h

inner_same : (begin end : ℕ) (list added : List ℕ) → begin ≤ end → end ≤ length list →
    take (end - begin) (drop begin (list ++ added)) ≡ take (end - begin) (drop begin list)
inner_same begin end list added low high =
    rw (drop-append-le begin list added (omega (arith, low, high)))
    (take-append-le (end - begin) (drop begin list) added (omega (arith, low, high, length-drop begin list)))

last_list : (begin : ℕ) (list added : List ℕ) → begin ≡ length list → take (length (list ++ added) - begin) (drop begin (list ++ added)) ≡ added
last_list begin list added e =
    rw (e, drop-append_seam list added) (take_all (length (list ++ added) - length list) added (omega (arith, length-append list added)))

from_more : (begin : ℕ) (ends list added : List ℕ) → EndAt begin ends (length list) →
    lists_from begin (ends ++ length (list ++ added) ∷ []) (list ++ added) ≡ lists_from begin ends list ++ added ∷ []
from_more begin [] list added p = ap (λ (xs : List ℕ). xs ∷ []) (last_list begin list added p)
from_more begin (x ∷ ends) list added p =
    rw (inner_same begin x list added p.0 (end_high x ends (length list) p.1))
    (ap (λ (ys : List (List ℕ)). take (x - begin) (drop begin list) ∷ ys) (from_more x ends list added p.1))

pub between_more : (first list added : List ℕ) → AreBounds first (length list) →
    lists_between (first ++ length (list ++ added) ∷ []) (list ++ added) ≡ lists_between first list ++ added ∷ []
between_more [] list added p = absurd p
between_more (begin ∷ ends) list added p = from_more begin ends list added p

-- as many lists as there are bounds but the last
pub len_is : (first list : List ℕ) (lists : List (List ℕ)) (n : ℕ) → lists ≡ lists_between first list → AreBounds first (length list) → n ≡ length first
    → n - 1 ≡ length lists
len_is first list lists n e p q = rw (e, q) (omega (arith, length-between first list p))

-- a row's list lies between two bounds
pub there_is : (first list : List ℕ) (lists : List (List ℕ)) (r : ℕ) → lists ≡ lists_between first list → AreBounds first (length list) → r < length lists
    → r + 1 < length first
there_is first list lists r e p h = omega (arith, length-between first list p, ap (length {A = List ℕ}) e, h)

-- a row's list, between the bounds that are read
pub read_between : (first list : List ℕ) (lists : List (List ℕ)) (r begin end : ℕ) → lists ≡ lists_between first list → AreBounds first (length list)
    → r < length lists →
    begin ≡ get_or first r begin → end ≡ get_or first (r + 1) end
    → (begin ≤ end) × (end ≤ length list) × (take (end - begin) (drop begin list) ≡ slice_index_or lists r [])
read_between first list lists r begin end e p h b_read e_read =
    let there = there_is first list lists r e p h in
    let b : begin ≡ slice_index first r = get_or_read first r begin (omega (arith, there)) b_read 0 in
    let n : end ≡ slice_index first (r + 1) = get_or_read first (r + 1) end there e_read 0 in
    let i = list_between first list p r there in
    rw (b, n, e) (i.rise, i.inside, sym i.is)

-- The orders of links.
use Rattle.std.proofs.Common.{◌≡◌, ◌⊎◌, ℕ, zero, suc, ◌+◌, ◌<◌, ◌≤◌, inl, inr, List, [], ◌∷◌, ◌++◌, length, reverse, refl, sym, ◌∙◌, ap, subst, arith, append-nil, append_assoc, length-append}
use Rattle.std.specs.Prelude.{slice_get, Some, None}
use Rattle.std.proofs.lemmas.List.{get_or_append_left, reverse-append}
use Rattle.boc_front_rows.proofs.Places.{read_pushed}
use Rattle.boc_end_orders.specs.declared.trail.Link.{Link}
use Rattle.boc_end_orders.specs.Orders.{order_at}
use Rattle.boc_end_orders.specs.TrailView.{ordered, orders_after, AreDown}

-- the order of a link, where these orders come before it
abbrev pub order_of : List (List ℕ) → Link → List ℕ
order_of orders link = order_at orders link.before ++ link.parent ∷ []

pub ordered_more : (orders : List (List ℕ)) (links : List Link) (link : Link)
    → ordered orders (links ++ (link ∷ [])) ≡ ordered orders links ++ (order_of (ordered orders links) link ∷ [])
ordered_more orders [] link = refl
ordered_more orders (l ∷ links) link = ordered_more (orders ++ (order_of orders l ∷ [])) links link

pub ordered_length : (orders : List (List ℕ)) (links : List Link) → length (ordered orders links) ≡ length orders + length links
ordered_length orders [] = omega arith
ordered_length orders (l ∷ links) =
    omega (arith, ordered_length (orders ++ (order_of orders l ∷ [])) links, length-append orders (order_of orders l ∷ []))

-- the orders that come first stay
pub ordered_front : (orders : List (List ℕ)) (links : List Link) (n : ℕ) → n < length orders → order_at (ordered orders links) n ≡ order_at orders n
ordered_front orders [] n low = refl
ordered_front orders (l ∷ links) n low =
    ordered_front (orders ++ (order_of orders l ∷ [])) links n (omega (arith, low, length-append orders (order_of orders l ∷ [])))
    ∙ get_or_append_left orders (order_of orders l ∷ []) [] n low

pub last_order : (orders : List (List ℕ)) (x : List ℕ) (n : ℕ) → n ≡ length orders → order_at (orders ++ (x ∷ [])) n ≡ x
last_order [] x n e = ap (λ k. order_at (x ∷ []) k) e
last_order (o ∷ orders) x zero e = absurd (omega (arith, e))
last_order (o ∷ orders) x (suc n) e = last_order orders x n (omega (arith, e))

-- the order of a link that names one before its own
pub ordered_at : (orders : List (List ℕ)) (links : List Link) (n at : ℕ) (link : Link) → slice_get links n ≡ Some link → at ≡ length orders + n
    → link.before < at → order_at (ordered orders links) at ≡ order_of (ordered orders links) link
ordered_at orders [] n at link e is low = absurd (let f : None ≡ Some link = e in cc)
ordered_at orders (l ∷ links) zero at link e is low =
    let same : l ≡ link = (let f : Some l ≡ Some link = e in cc) in
    let x = order_of orders l in
    let more = length-append orders (x ∷ []) in
    let before : l.before < at = (let q : l.before ≡ link.before = ap (λ (z : Link). z.before) same in omega (arith, q, low)) in
    ordered_front (orders ++ (x ∷ [])) links at (omega (arith, is, more))
    ∙ last_order orders x at (omega (arith, is))
    ∙ ap (λ zs. zs ++ l.parent ∷ []) (sym (ordered_front (orders ++ (x ∷ [])) links l.before (omega (arith, before, is, more))
    ∙ get_or_append_left orders (x ∷ []) [] l.before (omega (arith, before, is))))
    ∙ ap (order_of (ordered orders (l ∷ links))) same
ordered_at orders (l ∷ links) (suc n) at link e is low =
    let x = order_of orders l in
    ordered_at (orders ++ (x ∷ [])) links n at link e (omega (arith, is, length-append orders (x ∷ []))) low

-- ---- the orders of links after that of main alone

pub many_orders : (links : List Link) → length (orders_after links) ≡ 1 + length links
many_orders links = ordered_length ((0 ∷ []) ∷ []) links

pub first_order : (links : List Link) → order_at (orders_after links) 0 ≡ 0 ∷ []
first_order links = ordered_front ((0 ∷ []) ∷ []) links 0 (omega arith)

-- the order of the link at a place
pub order_is : (links : List Link) → AreDown links → (n : ℕ) (link : Link) → slice_get links n ≡ Some link
    → order_at (orders_after links) (n + 1) ≡ order_at (orders_after links) link.before ++ link.parent ∷ []
order_is links down n link is = ordered_at ((0 ∷ []) ∷ []) links n (n + 1) link is (omega arith) (omega (arith, down n link is))

-- a link more
pub down_more : (links : List Link) (link : Link) → AreDown links → link.before ≤ length links → AreDown (links ++ (link ∷ []))
down_more links link down low n l is =
    elim (read_pushed links link n l is) [
      | inl old ↦ down n l old.1
      | inr new ↦ (let e : link.before ≡ l.before = ap (λ (z : Link). z.before) new.1 in omega (arith, e, new.0, low))
    ]

pub orders_more : (links : List Link) (link : Link)
    → orders_after (links ++ (link ∷ [])) ≡ orders_after links ++ ((order_at (orders_after links) link.before ++ link.parent ∷ []) ∷ [])
orders_more links link = ordered_more ((0 ∷ []) ∷ []) links link

-- ---- an order that is read off backwards

-- the orders of what is left, and of what was read, last first, are those of a number
pub record IsRead (links : List Link) (number left : ℕ) (parents : List ℕ) : Type 0 where
  pub there : left ≤ length links
  pub reads : order_at (orders_after links) left ++ reverse parents ≡ order_at (orders_after links) number

pub read_none : (links : List Link) (number : ℕ) → number ≤ length links → IsRead links number number []
read_none links number low = record { there = low; reads = append-nil (order_at (orders_after links) number) }

-- one link more is read
pub read_more : (links : List Link) (number left : ℕ) (parents : List ℕ) (n : ℕ) (link : Link) → AreDown links → IsRead links number left parents
    → n + 1 ≡ left → slice_get links n ≡ Some link → IsRead links number link.before (parents ++ (link.parent ∷ []))
read_more links number left parents n link down r one is =
    let before = order_at (orders_after links) link.before in
    record {
      there = omega (arith, down n link is, one, r.there);
      reads =
          ap (λ xs. before ++ xs) (reverse-append parents (link.parent ∷ []))
          ∙ sym (append_assoc before (link.parent ∷ []) (reverse parents))
          ∙ ap (λ xs. xs ++ reverse parents) (sym (order_is links down n link is) ∙ ap (λ k. order_at (orders_after links) k) one)
          ∙ r.reads;
    }

-- all of them were, and main is left
pub read_all : (links : List Link) (number : ℕ) (parents : List ℕ) → IsRead links number 0 parents
    → reverse (parents ++ (0 ∷ [])) ≡ order_at (orders_after links) number
read_all links number parents r =
    reverse-append parents (0 ∷ [])
    ∙ ap (λ xs. xs ++ reverse parents) (sym (first_order links))
    ∙ r.reads

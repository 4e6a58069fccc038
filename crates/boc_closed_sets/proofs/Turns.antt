-- Turns one after the other: orders in parts, and who can spawn after a turn of another row.
use Rattle.std.proofs.Common.{◌≡◌, ◌≢◌, ℕ, zero, suc, ◌+◌, ◌<◌, ◌≤◌, inl, inr, List, []}
use Rattle.std.proofs.Common.{◌∷◌, ◌++◌, length, map, refl, sym, ◌∙◌, ap, subst, arith, ℤ, length-append}
use Rattle.std.specs.Prelude.{slice_get, nat_eq, drop, Option, Some, None, option_map}
use Rattle.std.specs.Option.{option_map_or}
use Rattle.std.specs.List.{Contains}
use Rattle.boc_program.specs.declared.program.Program.{Program}
use Rattle.boc_program.specs.Meaning.{Wish}
use Rattle.boc_program.proofs.ChangedItems.{none_past}
use Rattle.boc_program.proofs.RisingNumbers.{has_later, none_in_none}
use Rattle.boc_runs.specs.Serial.{Behaviour, behaviour_of, SerialRow, Serial, wish_of_row, children, next_behaviour, run_at_once, after_turn, after_turns}
use Rattle.boc_machine_laws.proofs.Lists.{same_or_not, not_eq}
use Rattle.boc_machine_laws.proofs.Core.{one_if}
use Rattle.boc_fronts.specs.Orders.{others_of, HasWish, CanSpawn, IsOrderFrom}
use Rattle.boc_fronts.specs.Fronts.{wishes_left}
use Rattle.boc_fronts.proofs.Orderly.{wish_below}
use Rattle.boc_fronts.proofs.Layers.{has_wish}
use Rattle.boc_fronts.proofs.Claiming.{before_back}
use Rattle.boc_fronts.proofs.Commuting.{next_stays}
use Rattle.boc_fronts.proofs.LooseSteps.{before_less}
use Rattle.boc_fronts.proofs.WishesLeft.{left_other, left_parent, left_new, children_now}
use Rattle.boc_closed_sets.specs.Meant.{meant_at}

-- ---- orders in parts

pub turns_parts : (p : Program) (s : Serial) (xs ys : List ℕ) → after_turns p s (xs ++ ys) ≡ after_turns p (after_turns p s xs) ys
turns_parts p s [] ys = refl
turns_parts p s (x ∷ xs) ys = turns_parts p (after_turn p s x) xs ys

pub order_parts : (p : Program) (s : Serial) (xs ys : List ℕ) → IsOrderFrom p s (xs ++ ys) → IsOrderFrom p s xs × IsOrderFrom p (after_turns p s xs) ys
order_parts p s [] ys o = (tt, o)
order_parts p s (x ∷ xs) ys o =
    let r = order_parts p (after_turn p s x) xs ys o.1 in
    ((o.0, r.0), r.1)

pub order_whole : (p : Program) (s : Serial) (xs ys : List ℕ) → IsOrderFrom p s xs → IsOrderFrom p (after_turns p s xs) ys → IsOrderFrom p s (xs ++ ys)
order_whole p s [] ys a b = b
order_whole p s (x ∷ xs) ys a b = (a.0, order_whole p (after_turn p s x) xs ys a.1 b)

-- ---- a row that has a wish

left_first : (ws : List Wish) (k : ℕ) (w : Wish) → slice_get ws k ≡ Some w
    → map behaviour_of (drop k ws) ≡ behaviour_of w ∷ map behaviour_of (drop (suc k) ws)
left_first [] k w e = absurd (let f : None ≡ Some w = e in cc)
left_first (v ∷ ws) zero w e = (let f : Some v ≡ Some w = e in let g : v ≡ w = cc in ap (λ z. behaviour_of z ∷ map behaviour_of ws) g)
left_first (v ∷ ws) (suc k) w e = left_first ws k w e

first_of : (o : Option SerialRow) (k : ℕ) (w : Wish) → wish_of_row o k ≡ Some w
    → (rest : List Behaviour) × (map behaviour_of (drop k (option_map_or (λ (x : SerialRow). x.means.wishes) o [])) ≡ behaviour_of w ∷ rest)
first_of None k w e = absurd (let f : None ≡ Some w = e in cc)
first_of (Some row) k w e = (map behaviour_of (drop (suc k) row.means.wishes), left_first row.means.wishes k w e)

-- its wishes begin with its next one
pub wishes_begin : (rows : List SerialRow) (r : ℕ) (h : HasWish rows r) → (rest : List Behaviour) × (wishes_left rows r ≡ behaviour_of h.wish ∷ rest)
wishes_begin rows r h = first_of (slice_get rows r) (children r (others_of rows)) h.wish h.next

pub some_left : (rows : List SerialRow) (r : ℕ) → HasWish rows r → wishes_left rows r ≢ []
some_left rows r h none =
    let w = wishes_begin rows r h in
    (let f : behaviour_of h.wish ∷ w.0 ≡ [] = sym w.1 ∙ none in cc)

pub next_there : (rows : List SerialRow) (r : ℕ) → (h : HasWish rows r) → next_behaviour rows r ≡ Some (behaviour_of h.wish)
next_there [] r h = absurd (let f : None ≡ Some h.wish = h.next in cc)
next_there (main ∷ others) r h = ap (option_map behaviour_of) h.next

-- a row that isn't there has no wishes left
pub none_left : (rows : List SerialRow) (r : ℕ) (b : Behaviour) → length rows ≤ r → Contains (wishes_left rows r) b → ⊥
none_left rows r b past h =
    let none = ap (λ o. map behaviour_of (drop (children r (others_of rows)) (option_map_or (λ (x : SerialRow). x.means.wishes) o [])))
    (none_past rows r past) in
    none_in_none b (subst (λ bs. Contains bs b) (none ∙ dropped (children r (others_of rows))) h)
  where
    dropped : (k : ℕ) → map behaviour_of (drop k []) ≡ []
    dropped zero = refl
    dropped (suc k) = refl

-- ---- a turn

parent_is : (p : Program) (values : List ℤ) (q : ℕ) (o : Option Behaviour) → (run_at_once p values q o).parent ≡ q
parent_is p values q None = refl
parent_is p values q (Some b) = refl

module _ (p : Program) (s : Serial) (q : ℕ) (h : HasWish s.rows q) where
  abbrev x : SerialRow
  x = run_at_once p s.values q (next_behaviour s.rows q)

  abbrev t : Serial
  t = after_turn p s q

  parent : x.parent ≡ q
  parent = parent_is p s.values q (next_behaviour s.rows q)

  apart : (r : ℕ) → r ≢ q → x.parent ≢ r
  apart r n e = n (sym e ∙ parent)

  pub longer : length t.rows ≡ length s.rows + 1
  longer = length-append s.rows (x ∷ [])

  -- the wishes of the others stay
  pub left_stays : (r : ℕ) → r < length s.rows → r ≢ q → wishes_left t.rows r ≡ wishes_left s.rows r
  left_stays r low n = left_other s.rows x r low (apart r n)

  -- its own are some of those that it had
  pub left_fewer : (b : Behaviour) → Contains (wishes_left t.rows q) b → Contains (wishes_left s.rows q) b
  left_fewer b has =
      subst (λ bs. Contains bs b) (sym (left_parent s.rows x q (wish_below s.rows q h) parent h))
      (has_later (behaviour_of h.wish) b (wishes_left t.rows q) has)

  -- those of the new row are what its behaviour means
  pub left_then : children (length s.rows) (others_of s.rows) ≡ 0
      → wishes_left t.rows (length s.rows) ≡ map behaviour_of (meant_at p (behaviour_of h.wish) s.values).wishes
  left_then childless =
      let low = wish_below s.rows q h in
      let none : one_if (nat_eq x.parent (length s.rows)) ≡ 0 =
      ap one_if (not_eq x.parent (length s.rows) (λ e. omega (arith, low, parent, e))) in
      let none_yet : children (length s.rows) (others_of t.rows) ≡ 0 =
      omega (arith, children_now s.rows x (length s.rows) (omega (arith, low)), none, childless) in
      left_new s.rows x none_yet
      ∙ ap (λ o. map behaviour_of (run_at_once p s.values q o).means.wishes) (next_there s.rows q h)

  pub wish_stays : (r : ℕ) → r ≢ q → HasWish s.rows r → HasWish t.rows r
  wish_stays r n w =
      has_wish t.rows r (λ none. some_left s.rows r w (sym (left_stays r (wish_below s.rows r w) n) ∙ none))

  pub wish_was : (r : ℕ) → r < length s.rows → HasWish t.rows r → HasWish s.rows r
  wish_was r low w =
      elim (same_or_not r q) [
        | inl e ↦ subst (HasWish s.rows) (sym e) h
        | inr n ↦ has_wish s.rows r (λ none. some_left t.rows r w (left_stays r low n ∙ none))
      ]

  -- who could spawn still can
  pub can_stay : (r : ℕ) → r ≢ q → CanSpawn s.rows r → CanSpawn t.rows r
  can_stay r n can =
      let low = wish_below s.rows r can.wishes in
      record {
        wishes = wish_stays r n can.wishes;
        free = λ a b w.
            let old = before_back s.rows x a r low b in
            can.free a old (wish_was a (omega (arith, low, before_less s.rows a r old)) w);
      }

  pub next_same : (r : ℕ) → r < length s.rows → r ≢ q → next_behaviour t.rows r ≡ next_behaviour s.rows r
  next_same r low n = next_stays s.rows x r low (apart r n)

-- Which rows a row waits for, as far as the others need not be named, and the rows that wait for a row.
use Rattle.std.specs.Prelude.{◌≡◌, ℕ, ◌-◌, ◌<◌, ◌≤◌, ◌⊎◌, List, [], ◌∷◌, length, take, drop, slice_index_or, nat_eq}
use Rattle.std.specs.List.{Contains, count_by}
use Rattle.boc_runs.specs.declared.rows.Row.{Row}
use Rattle.boc_plans.specs.Plans.{ConflictOn, Ordered}

-- row a comes before row b, they conflict on cown c, and no row between them conflicts on it with both
pub record IsNearOn (rows : List Row) (c a b : ℕ) : Type 0 where
  pub before : a < b
  pub conflict : ConflictOn rows c a b
  pub none_between : (k : ℕ) → a < k → k < b → ConflictOn rows c a k → ConflictOn rows c k b → ⊥

-- row b of the record waits for row a, and on some cown for no other row in between
pub record IsNear (rows : List Row) (a b : ℕ) : Type 0 where
  pub there : b < length rows
  pub cown : ℕ
  pub near : IsNearOn rows cown a b

-- These waits say as much as the order of the rows: each is one that the order asks for, and what the order asks for is one of them, or comes
-- by way of a row in between.
pub record Covers (rows : List Row) (Waits : ℕ → ℕ → Type 0) : Type 0 where
  pub there : (a b : ℕ) → Waits a b → b < length rows
  pub sound : (a b : ℕ) → Waits a b → Ordered rows a b
  pub complete : (a b : ℕ) → b < length rows → Ordered rows a b → Waits a b ⊎ ((c : ℕ) × Ordered rows a c × Ordered rows c b)

-- the links of a row; none where there is no such row
abbrev pub links_of : List (List ℕ) → ℕ → List ℕ
links_of links r = slice_index_or links r []

-- these are the rows that row b waits for
pub record HasWaits (rows : List Row) (b : ℕ) (waits : List ℕ) : Type 0 where
  pub sound : (a : ℕ) → Contains waits a → IsNear rows a b
  pub complete : (a : ℕ) → IsNear rows a b → Contains waits a

-- for each of the first n rows the rows that it waits for
pub record AreFirstWaits (rows : List Row) (n : ℕ) (links : List (List ℕ)) : Type 0 where
  pub whole : length links ≡ n
  pub at : (b : ℕ) → b < n → HasWaits rows b (links_of links b)

-- for each row the rows that it waits for
abbrev pub AreWaits : List Row → List (List ℕ) → Type 0
AreWaits rows links = AreFirstWaits rows (length rows) links

-- how often a row stands among some links
abbrev pub times : ℕ → List ℕ → ℕ
times r links = count_by (λ x. nat_eq x r) links

-- for each row the rows that wait for it, as often as they do
pub record AreFollowers (waits followers : List (List ℕ)) : Type 0 where
  pub whole : length followers ≡ length waits
  pub same : (a b : ℕ) → a < length waits → times b (links_of followers a) ≡ times a (links_of waits b)

-- for each row exactly those that wait for it
pub record HaveFollowers (rows : List Row) (followers : List (List ℕ)) : Type 0 where
  pub whole : length followers ≡ length rows
  pub sound : (a b : ℕ) → Contains (links_of followers a) b → IsNear rows a b
  pub complete : (a b : ℕ) → IsNear rows a b → Contains (links_of followers a) b

-- the lists from one place on that end at these places
abbrev pub lists_from : ℕ → List ℕ → List ℕ → List (List ℕ)
lists_from begin [] list = []
lists_from begin (end ∷ ends) list = take (end - begin) (drop begin list) ∷ lists_from end ends list

-- the lists between these places of a flat list
abbrev pub lists_between : List ℕ → List ℕ → List (List ℕ)
lists_between [] list = []
lists_between (begin ∷ ends) list = lists_from begin ends list

-- lists that begin at a place end at these places one after another, the last of them at the end of all
abbrev pub EndAt : ℕ → List ℕ → ℕ → Type 0
EndAt begin [] total = begin ≡ total
EndAt begin (end ∷ ends) total = (begin ≤ end) × EndAt end ends total

-- the places at which lists begin in a flat list, and the place at which the last of them ends
abbrev pub AreBounds : List ℕ → ℕ → Type 0
AreBounds [] total = ⊥
AreBounds (begin ∷ ends) total = EndAt begin ends total

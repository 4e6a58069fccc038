-- The behaviour of a row that is due is the next in the queue.
use Rattle.std.proofs.Common.{◌≡◌, ◌≢◌, ◌⊎◌, inl, inr, ℕ, zero, suc, ◌+◌, Bool, true, false, List, [], ◌∷◌, ◌++◌, map, length, drop, refl, sym, ap, ◌∙◌, arith}
use Rattle.std.proofs.Common.{append_assoc, append-nil, length-append, Option, Some, None, cond}
use Rattle.std.specs.Prelude.{slice_get, nat_eq, replicate, count_by, option_map}
use Rattle.std.proofs.lemmas.Bool.Decides.{eqb_tells}
use Rattle.std.proofs.lemmas.List.Sums.{sum_by-cons}
use Rattle.std.proofs.lemmas.List.{map-append, length-map, length-replicate}
use Rattle.boc_program.specs.declared.program.Program.{Program}
use Rattle.boc_program.specs.Meaning.{Wish}
use Rattle.boc_runs.specs.Serial.{Serial, SerialRow, Behaviour, main_behaviour, behaviour_of, wish_of_row, children, next_behaviour, run_at_once, after_turns}
use Rattle.boc_runs.specs.Serial.{after_turn, serial_along}
use Rattle.boc_runs.specs.OwnOrder.{IsOwnOrder, spawners}
use Rattle.boc_runs.proofs.OwnOrders.{next_row, rows_done}
use Rattle.boc_eval.specs.Queue.{all_wishes, behaviours_after}

-- how often a number stands in a list
abbrev times : ℕ → List ℕ → ℕ
times q xs = count_by (λ x. nat_eq x q) xs

counted_if : (b : Bool) (n m : ℕ) → b ≡ true → n ≡ cond b 1 0 + m → n ≡ suc m
counted_if true n m is e = omega (arith, e)
counted_if false n m is e = absurd cc

counted_not : (b : Bool) (n m : ℕ) → b ≡ false → n ≡ cond b 1 0 + m → n ≡ m
counted_not true n m is e = absurd cc
counted_not false n m is e = omega (arith, e)

times_more : (q x : ℕ) (xs : List ℕ) → x ≡ q → times q (x ∷ xs) ≡ suc (times q xs)
times_more q x xs is =
    elim (eqb_tells x q) [
      | inl e ↦ counted_if (nat_eq x q) (times q (x ∷ xs)) (times q xs) e.0 (sum_by-cons (λ x. cond (nat_eq x q) 1 0) x xs)
      | inr e ↦ absurd (e.1 is)
    ]

times_same : (q x : ℕ) (xs : List ℕ) → x ≢ q → times q (x ∷ xs) ≡ times q xs
times_same q x xs not =
    elim (eqb_tells x q) [
      | inl e ↦ absurd (not e.1)
      | inr e ↦ counted_not (nat_eq x q) (times q (x ∷ xs)) (times q xs) e.0 (sum_by-cons (λ x. cond (nat_eq x q) 1 0) x xs)
    ]

-- of these rows, the first with the number n, one spawned the number q behind `front`: its next wish is that many wishes behind the first
record Spawned (rows : List SerialRow) (n : ℕ) (front : List ℕ) (q : ℕ) : Type 0 where
  place : ℕ
  at : q ≡ n + place
  wish : Wish
  next : wish_of_row (slice_get rows place) (times q front) ≡ Some wish
  asked : slice_get (all_wishes rows) (length front) ≡ Some wish

-- the same where so many wishes of a row of the number n come before
record SpawnedAfter (wishes : List Wish) (rows : List SerialRow) (n : ℕ) (front : List ℕ) (q : ℕ) : Type 0 where
  wish : Wish
  asked : slice_get (wishes ++ all_wishes rows) (length front) ≡ Some wish
  next : ((q ≡ n) × (slice_get wishes (times q front) ≡ Some wish))
      ⊎ ((place : ℕ) × (q ≡ suc n + place) × (wish_of_row (slice_get rows place) (times q front) ≡ Some wish))

spawned_after : (rows : List SerialRow) (n : ℕ) → ((front : List ℕ) (q : ℕ) (back : List ℕ) → spawners (suc n) rows ≡ front ++ q ∷ back
    → Spawned rows (suc n) front q) →
    (wishes : List Wish) (front : List ℕ) (q : ℕ) (back : List ℕ) → replicate (length wishes) n ++ spawners (suc n) rows ≡ front ++ q ∷ back
    → SpawnedAfter wishes rows n front q
spawned_after rows n others [] front q back e =
    let s = others front q back e in
    record { wish = s.wish; asked = s.asked; next = inr (s.place, s.at, s.next) }
spawned_after rows n others (w ∷ wishes) [] q back e =
    record { wish = w; asked = refl; next = inl (let is : n ≡ q = cc in sym is, refl) }
spawned_after rows n others (w ∷ wishes) (f ∷ front) q back e =
    let first : n ≡ f = cc in
    let s = spawned_after rows n others wishes front q back
    (let rest : replicate (length wishes) n ++ spawners (suc n) rows ≡ front ++ q ∷ back = cc in rest) in
    record {
      wish = s.wish;
      asked = s.asked;
      next = elim s.next [
        | inl own ↦ inl (own.0, ap (slice_get (w ∷ wishes)) (times_more q f front (sym first ∙ sym own.0)) ∙ own.1)
        | inr other ↦ inr (
          other.0,
          other.1,
          ap (wish_of_row (slice_get rows other.0)) (times_same q f front (λ same. omega (arith, first, same, other.1)))
              ∙ other.2,
        )
      ];
    }

spawned : (rows : List SerialRow) (n : ℕ) (front : List ℕ) (q : ℕ) (back : List ℕ) → spawners n rows ≡ front ++ q ∷ back → Spawned rows n front q
spawned [] n [] q back e = absurd cc
spawned [] n (f ∷ front) q back e = absurd cc
spawned (row ∷ rows) n front q back e =
    let s = spawned_after rows n (spawned rows (suc n)) row.means.wishes front q back e in
    elim s.next [
      | inl own ↦ record { place = 0; at = omega (arith, own.0); wish = s.wish; next = own.1; asked = s.asked }
      | inr other ↦ record { place = suc other.0; at = omega (arith, other.1); wish = s.wish; next = other.2; asked = s.asked }
    ]

-- the rows' parents are those that they were given by
pub parents_along : (p : Program) (s : Serial) (done : List ℕ) → map (λ row. row.parent) (after_turns p s done).rows ≡ map (λ row. row.parent) s.rows ++ done
parents_along p s [] = sym (append-nil (map (λ row. row.parent) s.rows))
parents_along p s (first ∷ done) =
    parents_along p (after_turn p s first) done
    ∙ ap (λ ps. ps ++ done) (map-append (λ row. row.parent) s.rows (next_row p s first ∷ [])
    ∙ ap (λ k. map (λ row. row.parent) s.rows ++ k ∷ []) (parent_is (next_behaviour s.rows first)))
    ∙ append_assoc (map (λ row. row.parent) s.rows) (first ∷ []) done
  where
    parent_is : (b : Option Behaviour) → (run_at_once p s.values first b).parent ≡ first
    parent_is None = refl
    parent_is (Some b) = refl

children_are : (q : ℕ) (rows : List SerialRow) → children q rows ≡ times q (map (λ row. row.parent) rows)
children_are q [] = refl
children_are q (row ∷ rows) =
    sum_by-cons (λ row. cond (nat_eq row.parent q) 1 0) row rows
    ∙ ap (λ n. cond (nat_eq row.parent q) 1 0 + n) (children_are q rows)
    ∙ sym (sum_by-cons (λ x. cond (nat_eq x q) 1 0) row.parent (map (λ row. row.parent) rows))

-- a mapped member
map_get : (ws : List Wish) (k : ℕ) (w : Wish) → slice_get ws k ≡ Some w → slice_get (map behaviour_of ws) k ≡ Some (behaviour_of w)
map_get [] k w is = absurd cc
map_get (v ∷ ws) zero w is = let same : v ≡ w = cc in ap (λ x. Some (behaviour_of x)) same
map_get (v ∷ ws) (suc k) w is = map_get ws k w is

-- the first of what is left is the member at that place
at_front : (xs : List Behaviour) (k : ℕ) (b : Behaviour) (rest : List Behaviour) → drop k xs ≡ b ∷ rest → slice_get xs k ≡ Some b
at_front [] zero b rest e = absurd cc
at_front [] (suc k) b rest e = absurd cc
at_front (x ∷ xs) zero b rest e = let same : x ≡ b = cc in ap Some same
at_front (x ∷ xs) (suc k) b rest e = at_front xs k b rest e

next_after : (rows : List SerialRow) (done due : List ℕ) (q : ℕ) (b : Behaviour) (rest : List Behaviour) → length rows ≡ length done
    → map (λ row. row.parent) rows ≡ done →
    0 ∷ spawners 0 rows ≡ done ++ q ∷ due → drop (length done) (behaviours_after rows) ≡ b ∷ rest → next_behaviour rows q ≡ Some b
next_after [] [] due q b rest long parents own queued = let same : main_behaviour ≡ b = cc in ap Some same
next_after [] (d ∷ done) due q b rest long parents own queued = absurd (omega (arith, long))
next_after (main ∷ others) [] due q b rest long parents own queued = absurd (omega (arith, long))
next_after (main ∷ others) (d ∷ done) due q b rest long parents own queued =
    let s = spawned (main ∷ others) 0 done q due (let rest : spawners 0 (main ∷ others) ≡ done ++ q ∷ due = cc in rest) in
    let place : s.place ≡ q = omega (arith, s.at) in
    let tail : map (λ row. row.parent) others ≡ done = cc in
    let count : children q others ≡ times q done = children_are q others ∙ ap (times q) tail in
    let wish : wish_of_row (slice_get (main ∷ others) q) (children q others) ≡ Some s.wish =
    ap (wish_of_row (slice_get (main ∷ others) q)) count ∙ ap (λ k. wish_of_row (slice_get (main ∷ others) k) (times q done)) (sym place) ∙ s.next in
    let asked : slice_get (map behaviour_of (all_wishes (main ∷ others))) (length done) ≡ Some (behaviour_of s.wish) =
    map_get (all_wishes (main ∷ others)) (length done) s.wish s.asked in
    let first : slice_get (map behaviour_of (all_wishes (main ∷ others))) (length done) ≡ Some b =
    at_front (map behaviour_of (all_wishes (main ∷ others))) (length done) b rest queued in
    ap (option_map behaviour_of) wish ∙ sym asked ∙ first

-- the row that is due gets the behaviour that is first in the queue
pub next_is : (p : Program) (done due : List ℕ) (q : ℕ) (b : Behaviour) (rest : List Behaviour) → IsOwnOrder p done (q ∷ due)
    → drop (length done) (behaviours_after (serial_along p done).rows) ≡ b ∷ rest →
    next_behaviour (serial_along p done).rows q ≡ Some b
next_is p done due q b rest own queued =
    next_after (serial_along p done).rows done due q b rest (rows_done p done) (parents_along p (serial_along p []) done) own queued

all_wishes-append : (rows : List SerialRow) (row : SerialRow) → all_wishes (rows ++ row ∷ []) ≡ all_wishes rows ++ row.means.wishes
all_wishes-append [] row = append-nil row.means.wishes
all_wishes-append (first ∷ rows) row = ap (λ ws. first.means.wishes ++ ws) (all_wishes-append rows row)
    ∙ sym (append_assoc first.means.wishes (all_wishes rows) row.means.wishes)

-- the behaviours that have come, after one row more
pub behaviours_more : (rows : List SerialRow) (row : SerialRow)
    → behaviours_after (rows ++ row ∷ []) ≡ behaviours_after rows ++ map behaviour_of row.means.wishes
behaviours_more rows row =
    ap (λ bs. main_behaviour ∷ bs) (ap (map behaviour_of) (all_wishes-append rows row) ∙ map-append behaviour_of (all_wishes rows) row.means.wishes)

length-spawners : (n : ℕ) (rows : List SerialRow) → length (spawners n rows) ≡ length (all_wishes rows)
length-spawners n [] = refl
length-spawners n (row ∷ rows) =
    omega (
      arith,
      length-append (replicate (length row.means.wishes) n) (spawners (suc n) rows),
      length-append row.means.wishes (all_wishes rows),
      length-spawners (suc n) rows,
      length-replicate (length row.means.wishes) n,
    )

-- as many behaviours have come as rows
pub length-behaviours : (rows : List SerialRow) → length (behaviours_after rows) ≡ length (0 ∷ spawners 0 rows)
length-behaviours rows = omega (arith, length-spawners 0 rows, length-map (all_wishes rows) behaviour_of)

-- Fronts are seen alike while lists are added.
use Rattle.std.proofs.Common.{◌≡◌, ℕ, zero, suc, ◌+◌, ◌<◌, ◌≤◌, List, [], ◌∷◌, ◌++◌, length, map, refl, sym, ◌∙◌, ap, subst, arith, append-nil, append_assoc, length-append}
use Rattle.std.specs.Prelude.{slice_get, slice_index_or, Some}
use Rattle.std.specs.List.{All, Contains}
use Rattle.std.proofs.lemmas.List.{get_or_append_left}
use Rattle.boc_runs.specs.Serial.{Behaviour}
use Rattle.boc_fronts.specs.Fronts as fronts
use Rattle.boc_front_rows.specs.declared.row.Front.{Front}
use Rattle.boc_front_rows.specs.Lists.{list_at}
use Rattle.boc_front_rows.specs.Rows.{Plain, plains, AreIn}
use Rattle.boc_front_rows.specs.Seen.{shown, front_of}
use Rattle.boc_all_ends.specs.Stepping.{Grows, IsKept}
use Rattle.boc_all_ends.specs.Spreading.{seen, AreKept}

abbrev pub Lists : Type 0
Lists = List (List Behaviour)

pub grows_not : (lists : Lists) → Grows lists lists
grows_not lists = ([], sym (append-nil lists))

pub grows_on : (a b c : Lists) → Grows a b → Grows b c → Grows a c
grows_on a b c g h = (g.0 ++ h.0, h.1 ∙ ap (λ xs. xs ++ h.0) g.1 ∙ append_assoc a g.0 h.0)

pub longer : (a b : Lists) → Grows a b → length a ≤ length b
longer a b g = omega (arith, ap (length {A = List Behaviour}) g.1, length-append a g.0)

pub same_list : (a b : Lists) (n : ℕ) → Grows a b → n < length a → list_at b n ≡ list_at a n
same_list a b n g low = ap (λ xs. list_at xs n) g.1 ∙ get_or_append_left a g.0 [] n low

same_rows : (a b : Lists) (rows : List Plain) → Grows a b → AreIn a rows → map (shown b) rows ≡ map (shown a) rows
same_rows a b [] g there = refl
same_rows a b (r ∷ rows) g there =
    let first : shown b r ≡ shown a r =
    ap (λ ws. let l : fronts.LiveRow = record { wishes = ws; before = r.before; claims = r.claims } in l)
    (same_list a b r.wishes g (there 0 r refl)) in
    ap (λ l. l ∷ map (shown b) rows) first
    ∙ ap (λ ls. shown a r ∷ ls) (same_rows a b rows g (λ i s e. there (suc i) s e))

pub same_front : (a b : Lists) (f : Front) → Grows a b → AreIn a (plains f.live.items) → front_of b f ≡ front_of a f
same_front a b f g there =
    ap (λ ls. let x : fronts.Front = record { values = f.values.items; live = ls } in x) (same_rows a b (plains f.live.items) g there)

pub in_on : (a b : Lists) (rows : List Plain) → Grows a b → AreIn a rows → AreIn b rows
in_on a b rows g there i r e = omega (arith, there i r e, longer a b g)

pub kept_on : (a b : Lists) (n : ℕ) (f : Front) → Grows a b → IsKept a n f → IsKept b n f
kept_on a b n f g k = record { there = in_on a b (plains f.live.items) g k.there; few = k.few }

pub all_kept_on : (a b : Lists) (n : ℕ) (fs : List Front) → Grows a b → AreKept a n fs → AreKept b n fs
all_kept_on a b n fs g k f h = kept_on a b n f g (k f h)

-- ---- lists of places

index_any : (xs : List ℕ) (k d e : ℕ) → k < length xs → slice_index_or xs k d ≡ slice_index_or xs k e
index_any [] k d e low = absurd (omega (arith, low))
index_any (x ∷ xs) zero d e low = refl
index_any (x ∷ xs) (suc k) d e low = index_any xs k d e (omega (arith, low))

-- what is read at a place is there
pub has_at : (xs : List ℕ) (k : ℕ) → k < length xs → Contains xs (slice_index_or xs k 0)
has_at xs k low = (k, low, index_any xs k (slice_index_or xs k 0) 0 low)

pub all_if : (n : ℕ) (xs : List ℕ) → ((x : ℕ) → Contains xs x → x < n) → All (λ x. x < n) xs
all_if n xs h k d low = h (slice_index_or xs k d) (k, low, index_any xs k (slice_index_or xs k d) d low)

pub all_more : (n m : ℕ) (xs : List ℕ) → n ≤ m → All (λ x. x < n) xs → All (λ x. x < m) xs
all_more n m xs le h k d low = omega (arith, le, h k d low)
